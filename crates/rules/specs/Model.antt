-- The plain model: what the calls put where, with pointers to things and not to cells.
use Rattle.std.specs.Prelude.{◌≡◌, ℕ, ◌+◌, ◌-◌, ◌/◌, ◌<◌, ◌≤◌, Bool, true, false, Option, Some, None, unwrap_or, cond, ◌&&◌, ◌≢◌, List, [], ◌∷◌, length, replicate, ℤ, pos, negsuc, ◌==◌, nat_le, slice_index, slice_index_or}
use Rattle.rules.specs.Lists.{In, Once}

-- A text is the list of its characters' codes.
abbrev pub Text : Type 0
Text = List ℕ

-- A block goes by its number, in the order of making; a string goes by its text.
pub data Thing : Type 0 where
  block : ℕ → Thing
  string : Text → Thing

-- The five values: `to i t` points at block i with the type t, `name x k` at field k of x.
pub data Value : Type 0 where
  null : Value
  number : ℤ → Value
  text : Text → Value
  to : ℕ → ℕ → Value
  name : Thing → ℕ → Value

-- The registers, the field count of each block made so far, and what the fields hold (from field 1 up).
pub record Model : Type 0 where
  pub registers : List Value
  pub made : List ℕ
  pub field : Thing → ℕ → Value

-- The model of a workspace that was just opened: 32 null registers, and no block.
abbrev pub empty : Model
empty = record { registers = replicate 32 null; made = []; field = λ x k. null }

-- What register r holds.
abbrev pub register : Model → ℕ → Value
register m r = slice_index_or m.registers r null

-- A string has two fields, value and label.
abbrev pub string_fields : ℕ
string_fields = 2

-- How many fields a thing has.
abbrev pub fields : Model → Thing → ℕ
fields m (block i) = slice_index m.made i
fields m (string t) = string_fields

-- The cells of a string of l characters, with c characters to a cell: title, fields, link and characters.
abbrev pub string_cells : ℕ → ℕ → ℕ
string_cells c l = 2 + string_fields + ((l - 1) / c + 1)

-- The same where the length is 1 to 1,024 and a cell has 1 to 16 characters, and none elsewhere.
abbrev pub string_cells_within : ℕ → ℕ → Option ℕ
string_cells_within l c = cond (nat_le 1 l && nat_le l 1024 && nat_le 1 c && nat_le c 16) (Some (string_cells c l)) None

-- The same, and 0 where there is none.
abbrev pub string_cells_or_zero : ℕ → ℕ → ℕ
string_cells_or_zero l c = unwrap_or (string_cells_within l c) 0

-- The cells of a thing: a block has its title and its fields.
abbrev pub size : ℕ → Model → Thing → ℕ
size c m (block i) = slice_index m.made i + 1
size c m (string t) = string_cells c (length t)

-- A value points at a thing, or into it.
abbrev pub Points : Value → Thing → Type 0
Points null x = ⊥
Points (number z) x = ⊥
Points (text t) x = x ≡ string t
Points (to i t) x = x ≡ block i
Points (name y k) x = x ≡ y

-- What a register points at, a string with a field that is not null, and what a field of something reachable points at.
pub data Reach (m : Model) : Thing → Type 0 where
  from_register : {x : Thing} (r : ℕ) → r < length m.registers → Points (register m r) x → Reach m x
  from_string : {t : Text} (k : ℕ) → 1 ≤ k → k ≤ string_fields → m.field (string t) k ≢ null → Reach m (string t)
  from_field : {x y : Thing} (k : ℕ) → Reach m x → 1 ≤ k → k ≤ fields m x → Points (m.field x k) y → Reach m y

-- The list has exactly the reachable things, each once.
pub record Exactly (m : Model) (things : List Thing) : Type 0 where
  pub sound : (x : Thing) → In x things → Reach m x
  pub complete : (x : Thing) → Reach m x → In x things
  pub once : Once things

-- Tests of equality.
abbrev pub same_text : Text → Text → Bool
same_text [] [] = true
same_text [] (y ∷ ys) = false
same_text (x ∷ xs) [] = false
same_text (x ∷ xs) (y ∷ ys) = x == y && same_text xs ys

abbrev pub same_thing : Thing → Thing → Bool
same_thing (block i) (block j) = i == j
same_thing (block i) (string t) = false
same_thing (string s) (block j) = false
same_thing (string s) (string t) = same_text s t

abbrev pub same_integer : ℤ → ℤ → Bool
same_integer (pos a) (pos b) = a == b
same_integer (pos a) (negsuc b) = false
same_integer (negsuc a) (pos b) = false
same_integer (negsuc a) (negsuc b) = a == b

abbrev pub same_value : Value → Value → Bool
same_value null null = true
same_value null (number z) = false
same_value null (text t) = false
same_value null (to i t) = false
same_value null (name x k) = false
same_value (number y) null = false
same_value (number y) (number z) = same_integer y z
same_value (number y) (text t) = false
same_value (number y) (to i t) = false
same_value (number y) (name x k) = false
same_value (text s) null = false
same_value (text s) (number z) = false
same_value (text s) (text t) = same_text s t
same_value (text s) (to i t) = false
same_value (text s) (name x k) = false
same_value (to h s) null = false
same_value (to h s) (number z) = false
same_value (to h s) (text t) = false
same_value (to h s) (to i t) = h == i && s == t
same_value (to h s) (name x k) = false
same_value (name w j) null = false
same_value (name w j) (number z) = false
same_value (name w j) (text t) = false
same_value (name w j) (to i t) = false
same_value (name w j) (name x k) = same_thing w x && j == k

-- Whether a thing stands in a list.
abbrev pub has : List Thing → Thing → Bool
has [] x = false
has (y ∷ ys) x = cond (same_thing x y) true (has ys x)
