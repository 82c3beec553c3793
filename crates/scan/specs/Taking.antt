-- What the functions of the reader answer, in terms of tokens and of the reading of a script.
use Rattle.std.specs.Prelude.{◌≡◌, ℕ, ◌<◌, ◌≤◌, Bool, true, false, cond, ◌≢◌, List, [], ◌∷◌, ◌++◌, map, length, Some, None, Ok, Err, codes, Option, Result, OnOk}
use Rattle.std.specs.Bool.{beq}
use Rattle.std.specs.Str.{bytes_eq}
use Rattle.scan.specs.declared.types.Token.{Token}
use Rattle.scan.specs.declared.types.Token.TheVariants as token
use Rattle.scan.specs.declared.types.Placed.{Placed}
use Rattle.scan.specs.declared.types.ReaderFault.{ReaderFault}
use Rattle.scan.specs.declared.reader.Reader.{Reader}
use Rattle.scan.specs.declared.types.Verb.{Verb}
use Rattle.scan.specs.declared.types.Step.{Step}
use Rattle.scan.specs.Tokens.{Tok, opens, closes, numeral, word, text, line_end, none, Next, next}
use Rattle.scan.specs.Words.{bind, word_of, is_opens, is_closes, is_line_end, verb_of, is_open, kinds, Arg, nat, says, said_of}
use Rattle.scan.specs.Forms.{Open, add, State, counting, arguing, ended, Outcome, refused, Reads, no_token_at, unfit_at}

-- what the code has of these
abbrev pub tok_of : Token → Tok
tok_of token.Open = opens
tok_of token.Close = closes
tok_of (token.Natural n) = numeral false n
tok_of (token.Negative n) = numeral true n
tok_of (token.Word w) = word w.now
tok_of (token.Text t) = text t.now
tok_of token.LineEnd = line_end

-- a run, as the code answers it
abbrev pub Classified : Option Token → Tok → Type 0
Classified None t = t ≡ none
Classified (Some k) t = tok_of k ≡ t

-- the token that is found at a place, and the line, column and bytes behind it; none where no token can be read
abbrev pub Finds : Next → Option Token → ℕ → ℕ → List ℕ → Type 0
Finds g None l c xs = g.tok ≡ none
Finds g (Some t) l c xs = (tok_of t ≡ g.tok) × (l ≡ g.line_after) × (c ≡ g.column_after) × (xs ≡ g.rest)

-- the answer r is the token g, and the reader has gone on behind it
pub record Took (g : Next) (p : Placed) (l c : ℕ) (xs : List ℕ) : Type 0 where
  pub line : p.at.line ≡ g.line
  pub column : p.at.column ≡ g.column
  pub tok : tok_of p.token ≡ g.tok
  pub line_after : l ≡ g.line_after
  pub column_after : c ≡ g.column_after
  pub rest : xs ≡ g.rest

abbrev pub Takes : Next → Result Placed ReaderFault → ℕ → ℕ → List ℕ → Type 0
Takes g (Ok p) l c xs = Took g p l c xs
Takes g (Err f) l c xs = (f ≡ no_token_at g) × (g.tok ≡ none)

-- the token at a place cannot be read, or is taken for nothing
pub data Misses {A : Type 0} (taken : Tok → Option A → Type 0) (g : Next) : ReaderFault → Type 0 where
  misread : g.tok ≡ none → Misses taken g (no_token_at g)
  mistaken : g.tok ≢ none → taken g.tok None → Misses taken g (unfit_at g)

-- what the token at a place is taken for, or the fault there
abbrev pub Picks : {A : Type 0} → (Tok → Option A → Type 0) → Next → Result A ReaderFault → Reader → Type 0
Picks taken g (Ok a) after = taken g.tok (Some a) × (after.line ≡ g.line_after) × (after.column ≡ g.column_after) × (after.rest.now ≡ g.rest)
Picks taken g (Err f) after = Misses taken g f

-- what stands behind a form's bracket: `times`, which is none, or the word of a call
abbrev pub head_word : Bool → List ℕ → Option (Option Verb)
head_word first w = cond (bytes_eq w (codes "times")) (cond first None (Some None)) (bind (verb_of w) (λ v. cond (beq first (is_open v)) (Some (Some v)) None))

abbrev pub head_of : Bool → Tok → Option (Option Verb)
head_of first t = bind (word_of t) (head_word first)

abbrev pub headed : Open → Option Verb → State
headed k None = counting k
headed k (Some v) = arguing v [] (kinds v) k

-- inside a `times`: a bracket that opens, where one may, or that closes, where one may
abbrev pub inside_of : Bool → Bool → Tok → Option Bool
inside_of mayOpen mayClose t = cond (is_opens t) (cond mayOpen (Some true) None) (cond (is_closes t) (cond mayClose (Some false) None) None)

-- where a line begins: a bracket that opens, or the line's end
abbrev pub outside_of : Tok → Option Bool
outside_of t = cond (is_opens t) (Some true) (cond (is_line_end t) (Some false) None)

abbrev pub line_end_of : Tok → Option (Unit {0})
line_end_of t = cond (is_line_end t) (Some tt) None

abbrev pub closes_of : Tok → Option (Unit {0})
closes_of t = cond (is_closes t) (Some tt) None

abbrev pub some : {A : Type 0} → List A → Bool
some [] = false
some (x ∷ xs) = true

-- behind further numbers and the closing bracket
abbrev pub said_numbers : Verb → List Arg → Open → List ℕ → State
said_numbers v got k ns = ended (add (says v (got ++ map nat ns) ∷ []) k)

-- behind a step
abbrev pub said_step : Open → Step → State
said_step k s = ended (add (said_of s ∷ []) k)

-- the token before which a reader stands
abbrev pub ahead : Reader → Next
ahead r = next r.line r.column r.rest.now

-- how many bytes a reader has before it
abbrev pub left : Reader → ℕ
left r = length r.rest.now

-- the same relations of readers, before and after a call
abbrev pub FindsHere : Next → Option Token → Reader → Type 0
FindsHere g r after = Finds g r after.line after.column after.rest.now

abbrev pub TakesFrom : Next → Result Placed ReaderFault → Reader → Type 0
TakesFrom g r after = Takes g r after.line after.column after.rest.now

-- what a word of these definitions takes the token for, and what a function of the code does
abbrev pub PicksFrom : {A : Type 0} → (Tok → Option A) → Next → Result A ReaderFault → Reader → Type 0
PicksFrom pick g r after = Picks (λ t o. pick t ≡ o) g r after

unfoldable pub PicksBy : {A : Type 0} → (Token → Option A → Type 0) → Next → Result A ReaderFault → Reader → Type 0
PicksBy answers g r after = Picks (λ t o. (k : Token) × (tok_of k ≡ t) × answers k o) g r after

-- what the reading comes to from a state, where a reader stands
abbrev pub ReadsAt : State → Reader → Outcome → Type 0
ReadsAt s at o = Reads s at.line at.column at.rest.now o

-- from where one reader stands the reading comes to what it comes to from another state and reader
abbrev pub LeadsAt : State → Reader → State → Reader → Type 0
LeadsAt s before u after = (o : Outcome) → ReadsAt u after o → ReadsAt s before o

-- an answer of the code from a state on: the reading goes on from the state that the value gives, or ends with the fault
abbrev pub GoesOn : {A : Type 0} → State → Reader → Result A ReaderFault → (A → State) → Reader → Type 0
GoesOn s before (Ok a) u after = LeadsAt s before (u a) after
GoesOn s before (Err f) u after = ReadsAt s before (refused f)

-- a call that answers has not gone back, and one that eats has gone on where there was something to read
abbrev pub Shortens : {A : Type 0} → Result A ReaderFault → Reader → Reader → Type 0
Shortens r before after = OnOk r (left after ≤ left before)

abbrev pub Eats : {A : Type 0} → Result A ReaderFault → Reader → Reader → Type 0
Eats r before after = OnOk r ((0 < left before → left after < left before))
