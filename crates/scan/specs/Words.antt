-- Words and arguments: what a token may be taken for.
use Rattle.std.specs.Prelude.{ℕ, Bool, true, false, cond, ◌&&◌, List, [], ◌∷◌, ℤ, pos, neg_ℤ, Some, None, codes, Option, nat_le}
use Rattle.std.specs.Str.{bytes_eq}
use Rattle.scan.specs.Tokens.{Tok, opens, closes, numeral, word, text, line_end, none}
use Rattle.scan.specs.declared.types.Verb.{Verb}
use Rattle.scan.specs.declared.types.Verb.TheVariants as verb
use Rattle.scan.specs.declared.types.Layout.{Layout}
use Rattle.scan.specs.declared.types.Layout.TheVariants.{Byte8, Sixbit}
use Rattle.scan.specs.declared.types.Step.{Step}
use Rattle.scan.specs.declared.types.Step.TheVariants as step

-- how a word is written
abbrev pub spelled : Verb → List ℕ
spelled verb.Open = codes "open"
spelled verb.Null = codes "null"
spelled verb.Number = codes "number"
spelled verb.Copy = codes "copy"
spelled verb.Make = codes "make"
spelled verb.Text = codes "text"
spelled verb.Name = codes "name"
spelled verb.Fetch = codes "fetch"
spelled verb.Store = codes "store"
spelled verb.Divide = codes "divide"
spelled verb.Kind = codes "kind"
spelled verb.Read = codes "read"
spelled verb.Same = codes "same"
spelled verb.Collect = codes "collect"

-- the word that these bytes are
abbrev pub verb_of : List ℕ → Option Verb
verb_of w =
    cond (bytes_eq w (spelled verb.Open)) (Some verb.Open)
    (cond (bytes_eq w (spelled verb.Null)) (Some verb.Null)
    (cond (bytes_eq w (spelled verb.Number)) (Some verb.Number)
    (cond (bytes_eq w (spelled verb.Copy)) (Some verb.Copy)
    (cond (bytes_eq w (spelled verb.Make)) (Some verb.Make)
    (cond (bytes_eq w (spelled verb.Text)) (Some verb.Text)
    (cond (bytes_eq w (spelled verb.Name)) (Some verb.Name)
    (cond (bytes_eq w (spelled verb.Fetch)) (Some verb.Fetch)
    (cond (bytes_eq w (spelled verb.Store)) (Some verb.Store)
    (cond (bytes_eq w (spelled verb.Divide)) (Some verb.Divide)
    (cond (bytes_eq w (spelled verb.Kind)) (Some verb.Kind)
    (cond (bytes_eq w (spelled verb.Read)) (Some verb.Read)
    (cond (bytes_eq w (spelled verb.Same)) (Some verb.Same)
    (cond (bytes_eq w (spelled verb.Collect)) (Some verb.Collect) None)))))))))))))

abbrev pub layout_name : Layout → List ℕ
layout_name Byte8 = codes "byte8"
layout_name Sixbit = codes "sixbit"

abbrev pub layout_of : List ℕ → Option Layout
layout_of w = cond (bytes_eq w (layout_name Byte8)) (Some Byte8) (cond (bytes_eq w (layout_name Sixbit)) (Some Sixbit) None)

-- the kinds of arguments
pub data Kind : Type 0 where
  a_number : Kind
  a_cell_count : Kind
  a_signed : Kind
  a_text : Kind
  a_layout : Kind

-- what an argument is, as its kind has it
pub data Arg : Type 0 where
  nat : ℕ → Arg
  int : ℤ → Arg
  chars : List ℕ → Arg
  layout : Layout → Arg

-- the arguments that a word takes
abbrev pub kinds : Verb → List Kind
kinds verb.Open = a_layout ∷ a_cell_count ∷ a_number ∷ []
kinds verb.Null = a_number ∷ []
kinds verb.Number = a_number ∷ a_signed ∷ []
kinds verb.Copy = a_number ∷ a_number ∷ []
kinds verb.Make = a_number ∷ a_number ∷ a_number ∷ []
kinds verb.Text = a_number ∷ a_text ∷ []
kinds verb.Name = a_number ∷ a_number ∷ a_number ∷ []
kinds verb.Fetch = a_number ∷ a_number ∷ []
kinds verb.Store = a_number ∷ a_number ∷ []
kinds verb.Divide = a_number ∷ a_number ∷ a_number ∷ []
kinds verb.Kind = a_number ∷ []
kinds verb.Read = a_number ∷ []
kinds verb.Same = a_number ∷ a_number ∷ []
kinds verb.Collect = a_number ∷ []

abbrev pub is_open : Verb → Bool
is_open verb.Open = true
is_open verb.Null = false
is_open verb.Number = false
is_open verb.Copy = false
is_open verb.Make = false
is_open verb.Text = false
is_open verb.Name = false
is_open verb.Fetch = false
is_open verb.Store = false
is_open verb.Divide = false
is_open verb.Kind = false
is_open verb.Read = false
is_open verb.Same = false
is_open verb.Collect = false

abbrev pub within : ℕ → ℕ → ℕ → Option ℕ
within low high n = cond (nat_le low n && nat_le n high) (Some n) None

-- a number without a minus, from low to high
abbrev pub natural_of : ℕ → ℕ → Tok → Option ℕ
natural_of low high opens = None
natural_of low high closes = None
natural_of low high (numeral true n) = None
natural_of low high (numeral false n) = within low high n
natural_of low high (word w) = None
natural_of low high (text t) = None
natural_of low high line_end = None
natural_of low high none = None

-- a number of 32 signed bits
abbrev pub signed_of : Tok → Option ℤ
signed_of opens = None
signed_of closes = None
signed_of (numeral true n) = cond (nat_le n 2147483648) (Some (neg_ℤ (pos n))) None
signed_of (numeral false n) = cond (nat_le n 2147483647) (Some (pos n)) None
signed_of (word w) = None
signed_of (text t) = None
signed_of line_end = None
signed_of none = None

abbrev pub text_of : Tok → Option (List ℕ)
text_of opens = None
text_of closes = None
text_of (numeral m n) = None
text_of (word w) = None
text_of (text t) = Some t
text_of line_end = None
text_of none = None

abbrev pub word_of : Tok → Option (List ℕ)
word_of opens = None
word_of closes = None
word_of (numeral m n) = None
word_of (word w) = Some w
word_of (text t) = None
word_of line_end = None
word_of none = None

-- what f gives, if there is something
abbrev pub bind : {A B : Type 0} → Option A → (A → Option B) → Option B
bind None f = None
bind (Some x) f = f x

abbrev pub is_opens : Tok → Bool
is_opens opens = true
is_opens closes = false
is_opens (numeral m n) = false
is_opens (word w) = false
is_opens (text t) = false
is_opens line_end = false
is_opens none = false

abbrev pub is_closes : Tok → Bool
is_closes opens = false
is_closes closes = true
is_closes (numeral m n) = false
is_closes (word w) = false
is_closes (text t) = false
is_closes line_end = false
is_closes none = false

abbrev pub is_line_end : Tok → Bool
is_line_end opens = false
is_line_end closes = false
is_line_end (numeral m n) = false
is_line_end (word w) = false
is_line_end (text t) = false
is_line_end line_end = true
is_line_end none = false

-- the argument of a kind that a token is
abbrev pub argument : Kind → Tok → Option Arg
argument a_number t = bind (natural_of 0 2147483647 t) (λ n. Some (nat n))
argument a_cell_count t = bind (natural_of 1 4096 t) (λ n. Some (nat n))
argument a_signed t = bind (signed_of t) (λ z. Some (int z))
argument a_text t = bind (text_of t) (λ s. Some (chars s))
argument a_layout t = bind (bind (word_of t) layout_of) (λ l. Some (layout l))

-- what a step says: a word with its arguments
pub record Said : Type 0 where
  pub verb : Verb
  pub args : List Arg

abbrev pub says : Verb → List Arg → Said
says v given = record { verb = v; args = given }

-- of a step as the code has it; a text is the bytes that it refers to
abbrev pub said_of : Step → Said
said_of (step.Open l c b) = says verb.Open (layout l ∷ nat c ∷ nat b ∷ [])
said_of (step.Null r) = says verb.Null (nat r ∷ [])
said_of (step.Number r i) = says verb.Number (nat r ∷ int i ∷ [])
said_of (step.Copy r s) = says verb.Copy (nat r ∷ nat s ∷ [])
said_of (step.Make r n t) = says verb.Make (nat r ∷ nat n ∷ nat t ∷ [])
said_of (step.Text r t) = says verb.Text (nat r ∷ chars t.now ∷ [])
said_of (step.Name r s k) = says verb.Name (nat r ∷ nat s ∷ nat k ∷ [])
said_of (step.Fetch r s) = says verb.Fetch (nat r ∷ nat s ∷ [])
said_of (step.Store r s) = says verb.Store (nat r ∷ nat s ∷ [])
said_of (step.Divide r s q) = says verb.Divide (nat r ∷ nat s ∷ nat q ∷ [])
said_of (step.Kind r) = says verb.Kind (nat r ∷ [])
said_of (step.Read r) = says verb.Read (nat r ∷ [])
said_of (step.Same r s) = says verb.Same (nat r ∷ nat s ∷ [])
said_of (step.Collect n) = says verb.Collect (nat n ∷ [])
