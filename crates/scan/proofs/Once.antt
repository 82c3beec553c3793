-- A reading comes to one outcome, and to no other.
use Rattle.std.proofs.Common.{◌≡◌, ℕ, zero, suc, ◌≤◌, ◌≢◌, List, [], ◌∷◌, length, Some, None, Option, sym, refl, ap, ◌∙◌, subst, arith}
use Rattle.scan.proofs.Shorter.{next_shorter}
use Rattle.scan.specs.Tokens.{Tok, opens, closes, numeral, word, text, line_end, none, next, next_here}
use Rattle.scan.specs.Words.{Kind, a_number, a_cell_count, a_signed, a_text, a_layout, Said, argument}
use Rattle.scan.specs.Forms.{bottom, times, State, start, opened, counting, arguing, over, fit, Outcome, done, refused, Reads, finished, goes, unread, unfit, unfit_at}

no_argument : (κ : Kind) → argument κ none ≡ None
no_argument a_number = refl
no_argument a_cell_count = refl
no_argument a_signed = refl
no_argument a_text = refl
no_argument a_layout = refl

fit_none : (s : State) → fit s none ≡ None
unfolding fit
fit_none (start (bottom d)) = refl
fit_none (start (times n ss k)) = refl
fit_none (opened k) = refl
fit_none (counting k) = refl
fit_none (arguing v got [] k) = refl
fit_none (arguing v got (κ ∷ κs) k) = rw (no_argument κ)
fit_none (over d) = refl

differ : {P : Type 0} {u : State} {o : Option State} → o ≡ Some u → o ≡ None → P
differ e f = absurd cc

from_end : (s : State) (d : List Said) (l c : ℕ) (xs : List ℕ) (p : Outcome) → s ≡ start (bottom d) → xs ≡ [] → Reads s l c xs p → done d ≡ p
unfolding fit next next_here
from_end s d l c xs p es ex finished = cc
from_end s d l c xs p es ex (goes u e r) =
    let te : (next l c xs).tok ≡ line_end = ap (λ (z : List ℕ). (next l c z).tok) ex in
    let f : Some (start (bottom d)) ≡ Some u = sym (ap (λ (z : State). fit z (next l c xs).tok) es ∙ ap (fit (start (bottom d))) te) ∙ e in
    let same : u ≡ start (bottom d) = cc in
    from_end u d _ _ _ p same (ap (λ (z : List ℕ). (next l c z).rest) ex) r
from_end s d l c xs p es ex (unread z) =
    let te : (next l c xs).tok ≡ line_end = ap (λ (z : List ℕ). (next l c z).tok) ex in
    absurd cc
from_end s d l c xs p es ex (unfit n z) =
    let te : (next l c xs).tok ≡ line_end = ap (λ (z : List ℕ). (next l c z).tok) ex in
    let f : Some (start (bottom d)) ≡ None = sym (ap (λ (z : State). fit z (next l c xs).tok) es ∙ ap (fit (start (bottom d))) te) ∙ z in
    differ refl f

pub one_outcome : (s : State) (l c : ℕ) (xs : List ℕ) (o p : Outcome) → Reads s l c xs o → Reads s l c xs p → o ≡ p
one_outcome s l c xs o p finished q = from_end _ _ l c [] p refl refl q
one_outcome s l c xs o p (goes u e r) finished = sym (from_end _ _ l c [] o refl refl (goes u e r))
one_outcome s l c xs o p (goes u e r) (goes w f q) =
    let same : w ≡ u = cc in
    one_outcome u _ _ _ o p r (subst (λ (t : State). Reads t (next l c xs).line_after (next l c xs).column_after (next l c xs).rest p) same q)
one_outcome s l c xs o p (goes u e r) (unread z) = differ e (ap (fit s) z ∙ fit_none s)
one_outcome s l c xs o p (goes u e r) (unfit n z) = differ e z
one_outcome s l c xs o p (unread z) finished = sym (from_end _ _ l c [] o refl refl (unread z))
one_outcome s l c xs o p (unread z) (goes w f q) = differ f (ap (fit s) z ∙ fit_none s)
one_outcome s l c xs o p (unread z) (unread y) = refl
one_outcome s l c xs o p (unread z) (unfit n y) = absurd (n z)
one_outcome s l c xs o p (unfit n z) finished = sym (from_end _ _ l c [] o refl refl (unfit n z))
one_outcome s l c xs o p (unfit n z) (goes w f q) = differ f z
one_outcome s l c xs o p (unfit n z) (unread y) = absurd (n y)
one_outcome s l c xs o p (unfit n z) (unfit m y) = refl

no_argument_at_end : (κ : Kind) → argument κ line_end ≡ None
no_argument_at_end a_number = refl
no_argument_at_end a_cell_count = refl
no_argument_at_end a_signed = refl
no_argument_at_end a_text = refl
no_argument_at_end a_layout = refl

end_is_a_token : line_end ≢ none
end_is_a_token e = cc

-- at the end of the script
outcome_at_end : (s : State) (l c : ℕ) → (o : Outcome) × Reads s l c [] o
unfolding fit next next_here
outcome_at_end (start (bottom d)) l c = (done d, finished)
outcome_at_end (start (times n ss k)) l c = (refused (unfit_at (next l c [])), unfit end_is_a_token refl)
outcome_at_end (opened k) l c = (refused (unfit_at (next l c [])), unfit end_is_a_token refl)
outcome_at_end (counting k) l c = (refused (unfit_at (next l c [])), unfit end_is_a_token refl)
outcome_at_end (arguing v got [] k) l c = (refused (unfit_at (next l c [])), unfit end_is_a_token refl)
outcome_at_end (arguing v got (κ ∷ κs) k) l c = (refused (unfit_at (next l c [])), unfit end_is_a_token (rw (no_argument_at_end κ)))
outcome_at_end (over d) l c = (done d, goes (start (bottom d)) refl finished)

module _ (s : State) (l c : ℕ) (xs : List ℕ) (on : (u : State) → (o : Outcome) × Reads u (next l c xs).line_after (next l c xs).column_after (next l c xs).rest o) where
  outcome_by_fit : (f : Option State) → fit s (next l c xs).tok ≡ f → (next l c xs).tok ≢ none → (o : Outcome) × Reads s l c xs o
  outcome_by_fit None e n = (_, unfit n e)
  outcome_by_fit (Some u) e n = ((on u).0, goes u e (on u).1)

  outcome_by_token : (t : Tok) → (next l c xs).tok ≡ t → (o : Outcome) × Reads s l c xs o
  outcome_by_token none e = (_, unread e)
  outcome_by_token opens e = outcome_by_fit (fit s (next l c xs).tok) refl (λ f. cc)
  outcome_by_token closes e = outcome_by_fit (fit s (next l c xs).tok) refl (λ f. cc)
  outcome_by_token (numeral m n) e = outcome_by_fit (fit s (next l c xs).tok) refl (λ f. cc)
  outcome_by_token (word w) e = outcome_by_fit (fit s (next l c xs).tok) refl (λ f. cc)
  outcome_by_token (text t) e = outcome_by_fit (fit s (next l c xs).tok) refl (λ f. cc)
  outcome_by_token line_end e = outcome_by_fit (fit s (next l c xs).tok) refl (λ f. cc)

outcome_within : (n : ℕ) (s : State) (l c : ℕ) (xs : List ℕ) → length xs ≤ n → (o : Outcome) × Reads s l c xs o
outcome_within n s l c [] h = outcome_at_end s l c
outcome_within zero s l c (x ∷ xs) h = absurd (omega arith)
outcome_within (suc n) s l c (x ∷ xs) h =
    outcome_by_token s l c (x ∷ xs) (λ u. outcome_within n u _ _ _ (omega (arith, next_shorter l c (x ∷ xs) (omega arith)))) (next l c (x ∷ xs)).tok refl

pub some_outcome : (s : State) (l c : ℕ) (xs : List ℕ) → (o : Outcome) × Reads s l c xs o
some_outcome s l c xs = outcome_within (length xs) s l c xs (omega arith)
