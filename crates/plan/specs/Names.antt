-- The names of an input, one to a line.
use Rattle.std.specs.Prelude.{ℕ, ◌-◌, Bool, true, false, cond, List, [], ◌∷◌, ◌++◌, map, fold, length, take, drop, min, ◌==◌}
use Rattle.std.specs.Borrow.{Bor}
use Rattle.std.specs.Hash.{HashWrites, usize}
use Rattle.rules.specs.Model.{Text, same_text}
use Rattle.plan.specs.declared.names.Name.{Name}

-- What some borrowed slices hold.
abbrev pub texts : List (Bor (List ℕ)) → List Text
texts ts = map (λ t. t.now) ts

-- What the names of a set hold.
abbrev pub name_texts : List Name → List Text
name_texts ns = map (λ n. n.0.now) ns

-- What is hashed of a name: its length, its first 1,048,576 bytes, and the last 1,048,576 of what follows these.
abbrev pub behind : Text → Text
behind t = drop (min (length t) 1048576) t

abbrev pub hashed : Text → HashWrites
hashed t = usize (length t) ++ (take (min (length t) 1048576) t ∷ drop (length (behind t) - 1048576) (behind t) ∷ [])

-- A line that is not empty is a name.
abbrev pub kept : Text → List Text
kept [] = []
kept (x ∷ xs) = (x ∷ xs) ∷ []

-- The names from here on, where the byte `end` ends a line, as the end of the input does, and `line` is what the line has so far.
abbrev pub names_after : ℕ → Text → List ℕ → List Text
names_after end line [] = kept line
names_after end line (x ∷ xs) = cond (x == end) (kept line ++ names_after end [] xs) (names_after end (line ++ (x ∷ [])) xs)

-- The names of an input: a newline, byte 10, ends each line.
abbrev pub names : List ℕ → List Text
names input = names_after 10 [] input

-- Whether a name is one of these.
abbrev pub has_text : List Text → Text → Bool
has_text [] t = false
has_text (s ∷ ss) t = cond (same_text s t) true (has_text ss t)

-- The names without repetition, in the order in which each stands first.
abbrev pub with_new : List Text → Text → List Text
with_new seen t = cond (has_text seen t) seen (seen ++ (t ∷ []))

abbrev pub distinct : List Text → List Text
distinct ts = fold with_new [] ts
