-- From the tokens of a line to what it says, and from the lines to the script.
use Rattle.std.proofs.Common.{◌≡◌, ℕ, ◌≤◌, Bool, true, false, cond, ◌≢◌, List, [], ◌++◌, map, length, Some, None, Ok, Err, ok_or, option_map, Option, Result, sym, refl, ap, ◌∙◌, subst, append-nil, arith, MatchResult}
use Rattle.scan.specs.declared.types.ReaderFault.{ReaderFault}
use Rattle.scan.specs.declared.types.ReaderFault.TheVariants as fault
use Rattle.scan.specs.declared.reader.Reader.{Reader}
use Rattle.scan.specs.declared.types.Step.{Step}
use Rattle.script.specs.declared.forms.Expander.{Expander}
use Rattle.scan.specs.Words.{Said, said_of}
use Rattle.scan.specs.Forms.{bottom, State, first, start, opened, over, Outcome, done, refused, Reads, finished, goes, unread, unfit}
use Rattle.scan.specs.Taking.{outside_of, line_end_of, PicksFrom, ahead, left, ReadsAt, LeadsAt, GoesOn}
use Rattle.script.specs.Plans.{limited, nothing, fresh, Formed, Lined, Behind}
use Rattle.script.specs.Scripts.{Whole, Comes, too_many_steps, stopped, steps, Steps, Refusal}
use Rattle.std.proofs.lemmas.List.{nil_from_length}
use Rattle.scan.proofs.Steps.{fits_outside, fits_line_end, goes_on}
use Rattle.script.proofs.Kept.{holds_more, first_by, limited_by}
use Rattle.script.proofs.Onward.{leads_to}

module _ (said : List Said) (X : Reader) where
  pub outside_on : (r : Result Bool ReaderFault) (Y : Reader) → PicksFrom outside_of (ahead X) r Y → GoesOn (start (bottom said)) X r (λ b. cond b (opened (bottom said)) (start (bottom said))) Y
  outside_on r Y p = goes_on (start (bottom said)) outside_of (λ b. cond b (opened (bottom said)) (start (bottom said))) (fits_outside said) X r Y p

  pub outside_to : (b c : Bool) (Y : Reader) → PicksFrom outside_of (ahead X) (Ok b) Y → b ≡ c → LeadsAt (start (bottom said)) X (cond c (opened (bottom said)) (start (bottom said))) Y
  outside_to b c Y p z = leads_to (start (bottom said)) outside_of (λ b. cond b (opened (bottom said)) (start (bottom said))) (fits_outside said) X b c Y p z

  pub line_end_on : (r : Result (Unit {0}) ReaderFault) (Y : Reader) → PicksFrom line_end_of (ahead X) r Y → GoesOn (over said) X r (λ _. start (bottom said)) Y
  line_end_on r Y p = goes_on (over said) line_end_of (λ _. start (bottom said)) (fits_line_end said) X r Y p

-- a line without a form
pub lined_none : (E : Expander) (b : Bool) (Y : Reader) → PicksFrom outside_of (ahead E.reader) (Ok b) Y → b ≡ false → Lined E (record { reader = Y; plan = E.plan })
lined_none E b Y picks z = record {
  steps = [];
  leads = λ said e o r. outside_to said E.reader b false Y picks z o (subst (λ (w : List Said). ReadsAt (start (bottom w)) Y o) (append-nil said) r);
  grows = refl;
}

-- a line with a form
pub lined_form : (E : Expander) (b : Bool) (Y : Reader) → PicksFrom outside_of (ahead E.reader) (Ok b) Y → b ≡ true →
    (F : Expander) → Formed 15 (record { reader = Y; plan = E.plan }) F → (W : Reader) → PicksFrom line_end_of (ahead F.reader) (Ok tt) W → Lined E (record { reader = W; plan = F.plan })
lined_form E b Y picks z F f W ends = record {
  steps = f.steps;
  leads = λ said h o r. outside_to said E.reader b true Y picks z o (f.leads (bottom said) refl h o (line_end_on (said ++ f.steps) F.reader (Ok tt) W ends o r));
  grows = f.grows;
}

-- before the first line
pub behind_none : (script : List ℕ) (E : Expander) → ((o : Outcome) → ReadsAt (start (bottom [])) E.reader o → Whole script o) → E.plan ≡ Some [] → Behind script E
behind_none script E on e = record { said = []; leads = on; holds = e }

behind_first : (script : List ℕ) (E : Expander) (f : Behind script E) → first (bottom f.said) ≡ fresh E
behind_first script E f = sym (ap nothing f.holds ∙ first_by f.said)

-- one more line
pub behind_more : (script : List ℕ) (E F : Expander) → Behind script E → Lined E F → Behind script F
behind_more script E F f g = record {
  said = f.said ++ g.steps;
  leads = λ o x. f.leads o (g.leads f.said (behind_first script E f) o x);
  holds = g.grows ∙ holds_more E.plan f.said g.steps f.holds;
}

never_long : {s : State} {l c : ℕ} {xs : List ℕ} {o : Outcome} → Reads s l c xs o → o ≡ refused fault.TooLong → ⊥
never_long finished e = cc
never_long (goes u f r) e = never_long r e
never_long (unread z) e = cc
never_long (unfit n z) e = cc

-- a fault
refusal : (script : List ℕ) (f : ReaderFault) → length script ≤ 16384 → (f ≢ fault.Memory → Whole script (refused f)) → Refusal script f
refusal script (fault.NoToken s) h w = stopped h (w (λ e. cc))
refusal script (fault.Unfit s) h w = stopped h (w (λ e. cc))
refusal script fault.TooLong h w = absurd (never_long (w (λ e. cc)) refl)
refusal script fault.Memory h w = h

module _ (script : List ℕ) (short : length script ≤ 16384) (E : Expander) (f : Behind script E) where
  pub read_refused : (g : ReaderFault) → (g ≢ fault.Memory → (said : List Said) → first (bottom said) ≡ fresh E → ReadsAt (start (bottom said)) E.reader (refused g)) → Refusal script g
  read_refused g h = refusal script g short (λ n. f.leads (refused g) (h n f.said (behind_first script E f)))

  whole : left E.reader ≡ 0 → Whole script (done f.said)
  whole e =
      let z : E.reader.rest.now ≡ [] = nil_from_length E.reader.rest.now (omega arith) in
      f.leads (done f.said) (subst (λ (w : List ℕ). Reads (start (bottom f.said)) E.reader.line E.reader.column w (done f.said)) (sym z) finished)

  pub read_done : {V : Type 0} (items : V → List Step) (h : Option V) (r : Result V ReaderFault) → left E.reader ≡ 0 → option_map (λ v. map said_of (items v)) h ≡ limited f.said → r ≡ ok_or h fault.TooLong → MatchResult r (λ v. Steps script (items v)) (λ g. Refusal script g)
  read_done items None (Ok v) e k m = absurd cc
  read_done items None (Err g) e k m = subst (Refusal script) (let z : fault.TooLong ≡ g = cc in z) (too_many_steps short (whole e) (limited_by f.said None (sym k)))
  read_done items (Some w) (Err g) e k m = absurd cc
  read_done {V} items (Some w) (Ok v) e k m =
      let by = limited_by f.said (Some (map said_of (items w))) (sym k) in
      let same : map said_of (items v) ≡ f.said = ap (λ (z : V). map said_of (items z)) (let z : v ≡ w = cc in z) ∙ by.0 in
      subst (λ (z : List Said). Comes script (done z)) (sym same) (steps short (whole e) by.1)
