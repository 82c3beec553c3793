-- Which token fits where, and what the reading of a script comes to.
use Rattle.std.specs.Prelude.{◌≡◌, ℕ, zero, suc, ◌+◌, Bool, true, false, cond, ◌≢◌, List, [], ◌∷◌, ◌++◌, Some, None, codes, Option, nat_lt}
use Rattle.std.specs.Bool.{beq}
use Rattle.std.specs.Str.{bytes_eq}
use Rattle.scan.specs.declared.types.Verb.{Verb}
use Rattle.scan.specs.declared.types.ReaderFault.{ReaderFault}
use Rattle.scan.specs.declared.types.ReaderFault.TheVariants as fault
use Rattle.scan.specs.Tokens.{Tok, none, Next, next}
use Rattle.scan.specs.Words.{Kind, Arg, kinds, is_open, verb_of, bind, word_of, natural_of, is_opens, is_closes, is_line_end, argument, Said, says}

-- these steps, so many times
abbrev pub copies : {A : Type 0} → ℕ → List A → List A
copies zero ss = []
copies (suc n) ss = ss ++ copies n ss

-- What has been read: the steps of the lines before, and inside each bracket of a `times` its count and the steps of its forms.
pub data Open : Type 0 where
  bottom : List Said → Open
  times : ℕ → List Said → Open → Open

-- how many brackets of a `times` are open
abbrev pub depth : Open → ℕ
depth (bottom d) = 0
depth (times n ss k) = 1 + depth k

-- no form has been read
abbrev pub first : Open → Bool
first (bottom []) = true
first (bottom (s ∷ d)) = false
first (times n ss k) = false

-- further steps
abbrev pub add : List Said → Open → Open
add more (bottom d) = bottom (d ++ more)
add more (times n ss k) = times n (ss ++ more) k

pub data State : Type 0 where
  -- where a form may begin, or the bracket of a `times` or a line may end
  start : Open → State
  -- behind the bracket of a form
  opened : Open → State
  -- behind the word `times`
  counting : Open → State
  -- behind a word and some of its arguments, with those to come
  arguing : Verb → List Arg → List Kind → Open → State
  -- behind the form of a line
  over : List Said → State

-- behind a form
abbrev pub ended : Open → State
ended (bottom d) = over d
ended (times n ss k) = start (times n ss k)

abbrev pub when : Bool → State → Option State
when b s = cond b (Some s) None

-- behind the word of a form: the first form is open, and no other is
abbrev pub begun : Open → List ℕ → Option State
begun k w = cond (bytes_eq w (codes "times")) (cond (first k) None (Some (counting k))) (bind (verb_of w) (λ v. when (beq (first k) (is_open v)) (arguing v [] (kinds v) k)))

-- behind the closing bracket of a `times`, which has at least one form; every form has a step
abbrev pub closing : ℕ → List Said → Open → Option State
closing n [] k = None
closing n (s ∷ ss) k = Some (ended (add (copies n (s ∷ ss)) k))

-- the state behind a token that fits; none where it does not
unfoldable pub fit : State → Tok → Option State
fit (start (bottom d)) t = cond (is_opens t) (Some (opened (bottom d))) (when (is_line_end t) (start (bottom d)))
fit (start (times n ss k)) t = cond (is_opens t) (when (nat_lt (depth (times n ss k)) 16) (opened (times n ss k))) (cond (is_closes t) (closing n ss k) None)
fit (opened k) t = bind (word_of t) (begun k)
fit (counting k) t = bind (natural_of 1 1000 t) (λ n. Some (start (times n [] k)))
fit (arguing v got [] k) t = when (is_closes t) (ended (add (says v got ∷ []) k))
fit (arguing v got (κ ∷ κs) k) t = bind (argument κ t) (λ a. Some (arguing v (got ++ a ∷ []) κs k))
fit (over d) t = when (is_line_end t) (start (bottom d))

-- the fault at a token that cannot be read, and at one that does not fit
abbrev pub no_token_at : Next → ReaderFault
no_token_at g = fault.NoToken (record { line = g.line; column = g.column })

abbrev pub unfit_at : Next → ReaderFault
unfit_at g = fault.Unfit (record { line = g.line; column = g.column })

pub data Outcome : Type 0 where
  done : List Said → Outcome
  refused : ReaderFault → Outcome

-- What the reading comes to from a state, at a line and column, with these bytes to come: at the script's end the steps; else
-- a token that fits leads on, and the first that cannot be read or does not fit is refused.
pub data Reads : State → ℕ → ℕ → List ℕ → Outcome → Type 0 where
  finished : {d : List Said} {l c : ℕ} → Reads (start (bottom d)) l c [] (done d)
  goes : {s : State} {l c : ℕ} {xs : List ℕ} {o : Outcome} (u : State) → fit s (next l c xs).tok ≡ Some u → Reads u (next l c xs).line_after (next l c xs).column_after (next l c xs).rest o → Reads s l c xs o
  unread : {s : State} {l c : ℕ} {xs : List ℕ} → (next l c xs).tok ≡ none → Reads s l c xs (refused (no_token_at (next l c xs)))
  unfit : {s : State} {l c : ℕ} {xs : List ℕ} → (next l c xs).tok ≢ none → fit s (next l c xs).tok ≡ None → Reads s l c xs (refused (unfit_at (next l c xs)))
