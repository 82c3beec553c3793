-- The key of a text, and what a bin and an ascension number are.
use Rattle.std.specs.Prelude.{ℕ, ◌+◌, ◌*◌, ◌/◌, ◌%◌, List, [], ◌∷◌}

-- Each code in turn makes the key h to 31 h + code, modulo 65,521.
abbrev pub key_from : ℕ → List ℕ → ℕ
key_from h [] = h
key_from h (x ∷ xs) = key_from ((31 * h + x) % 65521) xs

-- The key of a text starts at 0.
abbrev pub key : List ℕ → ℕ
key t = key_from 0 t

-- The bin on whose chain a text stands.
abbrev pub bin : ℕ → List ℕ → ℕ
bin bins t = key t % bins

-- The ascension number, which never falls along a chain.
abbrev pub ascension : ℕ → List ℕ → ℕ
ascension bins t = key t / bins
