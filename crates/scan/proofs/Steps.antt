-- From what a token is taken for to the state behind it.
use Rattle.std.proofs.Common.{◌≡◌, ℕ, ◌+◌, Bool, true, false, cond, ltb, List, [], ◌∷◌, ◌++◌, Some, None, Ok, Err, Option, option_map, Result, sym, refl, ap, ◌∙◌, subst}
use Rattle.scan.specs.declared.types.ReaderFault.{ReaderFault}
use Rattle.scan.specs.declared.types.Verb.{Verb}
use mathlib.Core.Bool.{beq}
use Rattle.scan.specs.Tokens.{Tok}
use Rattle.scan.specs.Words.{Kind, Arg, nat, a_number, a_cell_count, word_of, verb_of, is_open, is_opens, is_line_end, kinds, Said, says, bind, natural_of, argument, is_closes}
use Rattle.scan.specs.Forms.{first, depth, copies, bottom, times, start, opened, counting, over, begun, State, Open, arguing, ended, add, fit, Reads, goes, unread, unfit, Outcome}
use Rattle.scan.specs.Taking.{some, head_of, head_word, headed, inside_of, outside_of, line_end_of, closes_of, tok_of, Picks, PicksBy, PicksFrom, misread, mistaken, ahead, GoesOn}
use Rattle.scan.specs.declared.reader.Reader.{Reader}
use Rattle.scan.specs.declared.types.Token.{Token}

pub moved : (s : State) (o : Outcome) (l m c d : ℕ) (xs ys : List ℕ) → l ≡ m → c ≡ d → xs ≡ ys → Reads s l c xs o → Reads s m d ys o
moved s o l m c d xs ys e f g r = subst (λ (z : List ℕ). Reads s m d z o) g (subst (λ (z : ℕ). Reads s m z xs o) f (subst (λ (z : ℕ). Reads s z c xs o) e r))

-- where what a token is taken for gives the state behind it
pub onward : {A : Type 0} (s : State) (taken : Tok → Option A → Type 0) (u : A → State) → ((t : Tok) (o : Option A) → taken t o → fit s t ≡ bind o (λ a. Some (u a))) → (X : Reader) (r : Result A ReaderFault) (Y : Reader) → Picks taken (ahead X) r Y → GoesOn s X r u Y
onward s taken u fits X (Ok a) Y h = λ o r. goes (u a) (fits (ahead X).tok (Some a) h.0) (moved (u a) o Y.line _ Y.column _ Y.rest.now _ h.1 h.2 h.3 r)
onward s taken u fits X (Err f) Y (misread z) = unread z
onward s taken u fits X (Err f) Y (mistaken n z) = unfit n (fits (ahead X).tok None z)

-- the same where a word says what a token is taken for
pub goes_on : {A : Type 0} (s : State) (pick : Tok → Option A) (u : A → State) → ((t : Tok) → fit s t ≡ bind (pick t) (λ a. Some (u a))) → (X : Reader) (r : Result A ReaderFault) (Y : Reader) → PicksFrom pick (ahead X) r Y → GoesOn s X r u Y
goes_on {A} s pick u fits X r Y h = onward s (λ t o. pick t ≡ o) u (λ t o e. fits t ∙ ap (λ (p : Option A). bind p (λ a. Some (u a))) e) X r Y h

bind_bind : {A : Type 0} (f : A → Arg) (p : Option A) (v : Verb) (got : List Arg) (κs : List Kind) (k : Open) → bind (bind p (λ n. Some (f n))) (λ a. Some (arguing v (got ++ a ∷ []) κs k)) ≡ bind p (λ n. Some (arguing v (got ++ f n ∷ []) κs k))
bind_bind f None v got κs k = refl
bind_bind f (Some n) v got κs k = refl

-- where the code has what a word says by a view
pub from_view : {A B : Type 0} (view : A → B) (f : B → Arg) (o : Option A) (p : Option B) → option_map view o ≡ p → bind p (λ b. Some (f b)) ≡ bind o (λ a. Some (f (view a)))
from_view {A} {B} view f None p e = ap (λ (q : Option B). bind q (λ b. Some (f b))) (sym e)
from_view {A} {B} view f (Some a) p e = ap (λ (q : Option B). bind q (λ b. Some (f b))) (sym e)

bind_cond : (b : Bool) (u : State) → cond b (Some u) None ≡ bind {A = Unit {0}} (cond b (Some tt) None) (λ _. Some u)
bind_cond true u = refl
bind_cond false u = refl

bind_tt : {A : Type 0} (o : Option A) (u : State) → bind {A = Unit {0}} (bind o (λ _. Some tt)) (λ _. Some u) ≡ bind o (λ _. Some u)
bind_tt None u = refl
bind_tt (Some a) u = refl

-- an argument of a kind, and the closing bracket, as a function of the code takes them
module _ {A : Type 0} {answers : Token → Option A → Type 0} (v : Verb) (got : List Arg) (k : Open) (X : Reader) (r : Result A ReaderFault) (Y : Reader) (h : PicksBy answers (ahead X) r Y) where
  pub argued : (κ : Kind) (κs : List Kind) (f : A → Arg) → ((t : Token) (o : Option A) → answers t o → argument κ (tok_of t) ≡ bind o (λ a. Some (f a))) → GoesOn (arguing v got (κ ∷ κs) k) X r (λ a. arguing v (got ++ f a ∷ []) κs k) Y
  unfolding fit PicksBy
  argued κ κs f is =
      let behind = λ (p : Option Arg). bind p (λ a. Some (arguing v (got ++ a ∷ []) κs k)) in
      onward (arguing v got (κ ∷ κs) k) (λ t o. (n : Token) × (tok_of n ≡ t) × answers n o) (λ a. arguing v (got ++ f a ∷ []) κs k)
      (λ t o e. ap (λ (z : Tok). behind (argument κ z)) (sym e.1) ∙ ap behind (is e.0 o e.2) ∙ bind_bind f o v got κs k) X r Y h

  pub closed : ((t : Token) (o : Option A) → answers t o → closes_of (tok_of t) ≡ bind o (λ _. Some tt)) → GoesOn (arguing v got [] k) X r (λ _. ended (add (says v got ∷ []) k)) Y
  unfolding fit PicksBy
  closed is =
      let behind = ended (add (says v got ∷ []) k) in
      onward (arguing v got [] k) (λ t o. (n : Token) × (tok_of n ≡ t) × answers n o) (λ _. behind)
      (λ t o e. ap (λ (z : Tok). cond (is_closes z) (Some behind) None) (sym e.1) ∙ bind_cond (is_closes (tok_of e.0)) behind ∙ ap (λ (p : Option (Unit {0})). bind p (λ _. Some behind)) (is e.0 o e.2) ∙ bind_tt o behind) X r Y h

-- a number
module _ (v : Verb) (got : List Arg) (κs : List Kind) (k : Open) (X : Reader) (r : Result ℕ ReaderFault) (Y : Reader) where
  pub number_on : PicksFrom (natural_of 0 2147483647) (ahead X) r Y → GoesOn (arguing v got (a_number ∷ κs) k) X r (λ n. arguing v (got ++ nat n ∷ []) κs k) Y
  unfolding fit
  number_on h = goes_on (arguing v got (a_number ∷ κs) k) (natural_of 0 2147483647) (λ n. arguing v (got ++ nat n ∷ []) κs k) (λ t. bind_bind nat (natural_of 0 2147483647 t) v got κs k) X r Y h

  pub cells_on : PicksFrom (natural_of 1 4096) (ahead X) r Y → GoesOn (arguing v got (a_cell_count ∷ κs) k) X r (λ n. arguing v (got ++ nat n ∷ []) κs k) Y
  unfolding fit
  cells_on h = goes_on (arguing v got (a_cell_count ∷ κs) k) (natural_of 1 4096) (λ n. arguing v (got ++ nat n ∷ []) κs k) (λ t. bind_bind nat (natural_of 1 4096 t) v got κs k) X r Y h

-- the head of a form
head_verb : (k : Open) (b : Bool) (v : Verb) → bind (cond b (Some (Some v)) None) (λ h. Some (headed k h)) ≡ cond b (Some (arguing v [] (kinds v) k)) None
head_verb k true v = refl
head_verb k false v = refl

head_verbs : (k : Open) (o : Option Verb) → bind (bind o (λ v. cond (beq (first k) (is_open v)) (Some (Some v)) None)) (λ h. Some (headed k h)) ≡ bind o (λ v. cond (beq (first k) (is_open v)) (Some (arguing v [] (kinds v) k)) None)
head_verbs k None = refl
head_verbs k (Some v) = head_verb k (beq (first k) (is_open v)) v

head_times : (k : Open) (b : Bool) → bind {A = Option Verb} (cond b None (Some None)) (λ h. Some (headed k h)) ≡ cond b None (Some (counting k))
head_times k true = refl
head_times k false = refl

head_cond : (k : Open) (b : Bool) (x y : Option (Option Verb)) (p q : Option State) → bind x (λ h. Some (headed k h)) ≡ p → bind y (λ h. Some (headed k h)) ≡ q → bind (cond b x y) (λ h. Some (headed k h)) ≡ cond b p q
head_cond k true x y p q e f = e
head_cond k false x y p q e f = f

head_word_lem : (k : Open) (o : Option (List ℕ)) → bind o (begun k) ≡ bind (bind o (head_word (first k))) (λ h. Some (headed k h))
head_word_lem k None = refl
head_word_lem k (Some w) = sym (head_cond k _ _ _ _ _ (head_times k (first k)) (head_verbs k (verb_of w)))

pub fits_head : (k : Open) (b : Bool) → first k ≡ b → (t : Tok) → fit (opened k) t ≡ bind (head_of b t) (λ h. Some (headed k h))
unfolding fit
fits_head k b e t = head_word_lem k (word_of t) ∙ ap (λ (f : Bool). bind (head_of f t) (λ h. Some (headed k h))) e

pub fits_count : (k : Open) (t : Tok) → fit (counting k) t ≡ bind (natural_of 1 1000 t) (λ n. Some (start (times n [] k)))
unfolding fit
fits_count k t = refl

inside_cond : (o c p q : Bool) (u w : State) → cond p (cond o (Some u) None) (cond q (cond c (Some w) None) None) ≡ bind (cond p (cond o (Some true) None) (cond q (cond c (Some false) None) None)) (λ b. Some (cond b u w))
inside_cond true c true q u w = refl
inside_cond false c true q u w = refl
inside_cond o true false true u w = refl
inside_cond o false false true u w = refl
inside_cond o c false false u w = refl

pub fits_inside : (n : ℕ) (ss : List Said) (k : Open) (o c : Bool) → ltb (1 + depth k) 16 ≡ o → some ss ≡ c → (t : Tok) → fit (start (times n ss k)) t ≡ bind (inside_of o c t) (λ b. Some (cond b (opened (times n ss k)) (ended (add (copies n ss) k))))
unfolding fit
fits_inside n [] k o c e f t =
    ap (λ (z : Bool). cond (is_opens t) (cond z (Some (opened (times n [] k))) None) (cond (is_closes t) None None)) e
    ∙ inside_cond o false (is_opens t) (is_closes t) (opened (times n [] k)) (ended (add (copies n []) k))
    ∙ ap (λ (z : Bool). bind (inside_of o z t) (λ b. Some (cond b (opened (times n [] k)) (ended (add (copies n []) k))))) f
fits_inside n (s ∷ ss) k o c e f t =
    ap (λ (z : Bool). cond (is_opens t) (cond z (Some (opened (times n (s ∷ ss) k))) None) (cond (is_closes t) (Some (ended (add (copies n (s ∷ ss)) k))) None)) e
    ∙ inside_cond o true (is_opens t) (is_closes t) (opened (times n (s ∷ ss) k)) (ended (add (copies n (s ∷ ss)) k))
    ∙ ap (λ (z : Bool). bind (inside_of o z t) (λ b. Some (cond b (opened (times n (s ∷ ss) k)) (ended (add (copies n (s ∷ ss)) k))))) f

outside_cond : (p q : Bool) (u w : State) → cond p (Some u) (cond q (Some w) None) ≡ bind (cond p (Some true) (cond q (Some false) None)) (λ b. Some (cond b u w))
outside_cond true q u w = refl
outside_cond false true u w = refl
outside_cond false false u w = refl

pub fits_outside : (said : List Said) (t : Tok) → fit (start (bottom said)) t ≡ bind (outside_of t) (λ b. Some (cond b (opened (bottom said)) (start (bottom said))))
unfolding fit
fits_outside said t = outside_cond (is_opens t) (is_line_end t) (opened (bottom said)) (start (bottom said))

pub fits_line_end : (said : List Said) (t : Tok) → fit (over said) t ≡ bind (line_end_of t) (λ _. Some (start (bottom said)))
unfolding fit
fits_line_end said t = bind_cond (is_line_end t) (start (bottom said))
