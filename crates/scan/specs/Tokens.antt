-- The tokens of a script. A byte is a number below 256; lines and columns count from 1.
use Rattle.std.specs.Prelude.{ℕ, ◌+◌, ◌-◌, ◌*◌, Bool, true, false, cond, not, ◌&&◌, ◌||◌, List, [], ◌∷◌, length, take, drop, fold, ◌==◌, nat_le, nat_lt, slice_index}
use Rattle.std.specs.List.{prefix_len}

pub data Tok : Type 0 where
  opens : Tok
  closes : Tok
  -- whether it has a minus, and the number that its digits write
  numeral : Bool → ℕ → Tok
  word : List ℕ → Tok
  text : List ℕ → Tok
  line_end : Tok
  -- no token can be read
  none : Tok

-- a token where it begins, and the place and bytes after it
pub record Next : Type 0 where
  pub line : ℕ
  pub column : ℕ
  pub tok : Tok
  pub line_after : ℕ
  pub column_after : ℕ
  pub rest : List ℕ

abbrev pub space : ℕ → Bool
space b = b == 32

-- a space, a line's end or a bracket
abbrev pub parting : ℕ → Bool
parting b = b == 32 || (b == 10 || (b == 40 || b == 41))

abbrev pub unparted : ℕ → Bool
unparted b = not (parting b)

abbrev pub digit : ℕ → Bool
digit b = nat_le 48 b && nat_le b 57

abbrev pub letter : ℕ → Bool
letter b = (nat_le 97 b && nat_le b 122) || (nat_le 65 b && nat_le b 90)

abbrev pub letter_or_digit : ℕ → Bool
letter_or_digit b = letter b || digit b

-- what may stand in a text: the bytes 32 to 126 without the quote
abbrev pub printable : ℕ → Bool
printable b = nat_le 32 b && (nat_le b 126 && not (b == 34))

-- at the end of the script, or before a byte that parts tokens
abbrev pub parted : List ℕ → Bool
parted [] = true
parted (b ∷ bs) = parting b

-- the number that digits write
unfoldable pub value : List ℕ → ℕ
value ds = fold (λ n d. 10 * n + (d - 48)) 0 ds

abbrev pub every : (ℕ → Bool) → List ℕ → Bool
every p bs = prefix_len p bs == length bs

-- digits, at least one
abbrev pub digits : List ℕ → Bool
digits bs = nat_lt 0 (length bs) && every digit bs

-- a letter, and then letters and digits
abbrev pub wordly : List ℕ → Bool
wordly bs = letter (slice_index bs 0) && every letter_or_digit bs

-- a number of 32 signed bits
abbrev pub negative : List ℕ → Tok
negative ds = cond (digits ds && nat_le (value ds) 2147483648) (numeral true (value ds)) none

abbrev pub positive : List ℕ → Tok
positive ds = cond (nat_le (value ds) 2147483647) (numeral false (value ds)) none

-- what a run of bytes without a space or a bracket is
abbrev pub plain_run : List ℕ → Tok
plain_run bs = cond (digits bs) (positive bs) (cond (wordly bs) (word bs) none)

abbrev pub run_token : List ℕ → Tok
run_token [] = none
run_token (b ∷ bs) = cond (b == 45) (negative bs) (plain_run (b ∷ bs))

-- behind a quote: the bytes up to the next quote, which a parting byte or the end follows
abbrev pub closed : ℕ → List ℕ → Bool
closed n bs = nat_lt n (length bs) && (slice_index bs n == 34 && parted (drop (n + 1) bs))

-- this token here, and then these bytes at this place
abbrev pub found : ℕ → ℕ → Tok → ℕ → ℕ → List ℕ → Next
found l c t m d bs = record { line = l; column = c; tok = t; line_after = m; column_after = d; rest = bs }

abbrev pub text_next : ℕ → ℕ → List ℕ → ℕ → Next
text_next l c bs n = cond (closed n bs) (found l c (text (take n bs)) l (c + (n + 2)) (drop (n + 1) bs)) (found l c none l c bs)

abbrev pub run_next : ℕ → ℕ → List ℕ → ℕ → Next
run_next l c bs n = found l c (run_token (take n bs)) l (c + n) (drop n bs)

-- the token that begins here, where no space stands
unfoldable pub next_here : ℕ → ℕ → List ℕ → Next
next_here l c [] = found l c line_end l c []
next_here l c (b ∷ bs) =
    cond (b == 10) (found l c line_end (l + 1) 1 bs)
    (cond (b == 40) (found l c opens l (c + 1) bs)
    (cond (b == 41) (found l c closes l (c + 1) bs)
    (cond (b == 34) (text_next l c bs (prefix_len printable bs))
    (run_next l c (b ∷ bs) (prefix_len unparted (b ∷ bs))))))

-- the next token: spaces are skipped
unfoldable pub next : ℕ → ℕ → List ℕ → Next
next l c bs = next_here l (c + prefix_len space bs) (drop (prefix_len space bs) bs)
