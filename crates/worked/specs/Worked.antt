-- Worked examples of the layouts and the rules.
use Rattle.std.specs.Prelude.{◌≡◌, ℕ, true, false, List, [], ◌∷◌, pos, negsuc}
use Rattle.cells.specs.declared.Descriptor.{Descriptor}
use Rattle.cells.specs.Meaning.{Figures}
use Rattle.layouts.specs.Byte8 as byte8
use Rattle.layouts.specs.Sixbit as sixbit
use Rattle.rules.specs.declared.Layer.{Layer}
use Rattle.rules.specs.declared.Word.{Word}
use Rattle.rules.specs.Keys.{key, bin, ascension}
use Rattle.rules.specs.Model.{Text, empty, string_cells}
use Rattle.rules.specs.Calls.{Limits, Call, null, number, make, text, name, fetch, store, divide, kind, collect, Answer, ok, refused, Outcome, answers, Run}
use Rattle.rules.specs.Opening.{opening}

-- A descriptor of V −1, F 16, T 9, and one of V 1, F 0, T 6.
abbrev pub minus_one : Descriptor
minus_one = record { value = negsuc 0; flags = 16; kind = 9 }

abbrev pub plus_one : Descriptor
plus_one = record { value = pos 1; flags = 0; kind = 6 }

-- A workspace over a store of so many cells whose other figures are those of f, with so many bins.
abbrev pub over : Figures → ℕ → ℕ → Limits
over f cells bins =
    record {
      store = record { cells = cells; places = f.places; largest = f.largest; lowest = f.lowest; highest = f.highest };
      bins = bins;
    }

-- These calls, from the empty model, get these answers.
abbrev pub Gives : Limits → List Call → List Answer → Type 0
Gives l cs given = (os : List Outcome) × Run l empty cs os × (answers os ≡ given)

-- An answer without a number.
abbrev pub fine : Answer
fine = ok [] []

-- The codes of "AB" and "Alm".
abbrev pub ab : Text
ab = 65 ∷ 66 ∷ []

abbrev pub alm : Text
alm = 65 ∷ 108 ∷ 109 ∷ []

pub record WorkedExamples : Type 0 where
  -- The cells of the two layouts.
  pub byte8_cell : (byte8.shown (0xff ∷ 0xff ∷ 0xff ∷ 0xff ∷ 0x10 ∷ 0x00 ∷ 0x00 ∷ 0x09 ∷ [])).descriptor 0 ≡ minus_one
  pub sixbit_cell : (sixbit.shown (25_769_803_777 ∷ [])).descriptor 0 ≡ plus_one
  -- The cells of strings of 8 and 9 characters in byte8, and of 10 and 11 in sixbit.
  pub eight : string_cells (byte8.figures 1).places 8 ≡ 5
  pub nine : string_cells (byte8.figures 1).places 9 ≡ 6
  pub ten : string_cells (sixbit.figures 1).places 10 ≡ 5
  pub eleven : string_cells (sixbit.figures 1).places 11 ≡ 6
  -- The key of "AB", and with 2 bins its bin and ascension number.
  pub key_of : key ab ≡ 2081
  pub bin_of : bin 2 ab ≡ 1
  pub ascension_of : ascension 2 ab ≡ 1040
  -- −7 by 2 gives −3, and −2,147,483,648 by −1 is refused.
  pub quotient : (f : Figures) → Gives (over f 12 2) (number 0 (negsuc 6) ∷ number 1 (pos 2) ∷ divide 2 0 1 ∷ kind 2 ∷ [])
      (fine ∷ fine ∷ fine ∷ ok (pos 6 ∷ negsuc 2 ∷ []) [] ∷ [])
  pub no_quotient : (f : Figures) → Gives (over f 12 2) (number 0 (negsuc 2147483647) ∷ number 1 (negsuc 0) ∷ divide 2 0 1 ∷ [])
      (fine ∷ fine ∷ refused 13 Layer.Workspace Word.Divide 2 0 ∷ [])
  -- In 12 cells of any store a dropped block makes room for one more of its size, and then nothing is left; in 14 cells a
  -- further block of one field fits.
  pub twelve : (f : Figures) → Gives (over f 12 2) (make 0 4 20 ∷ null 0 ∷ make 1 4 20 ∷ make 2 4 20 ∷ make 3 1 20 ∷ [])
      (fine ∷ fine ∷ fine ∷ fine ∷ refused 16 Layer.Heap Word.Make 3 0 ∷ [])
  pub fourteen : (f : Figures) → Gives (over f 14 2) (make 0 4 20 ∷ null 0 ∷ make 1 4 20 ∷ make 2 4 20 ∷ make 3 1 20 ∷ [])
      (fine ∷ fine ∷ fine ∷ fine ∷ fine ∷ [])
  -- The target's old value counts as reached while its new one is made.
  pub old_target : (f : Figures) → Gives (over f 12 2) (make 0 9 20 ∷ make 0 1 20 ∷ null 0 ∷ make 0 1 20 ∷ [])
      (fine ∷ refused 16 Layer.Heap Word.Make 0 0 ∷ fine ∷ fine ∷ [])
  -- A name keeps its whole block.
  pub named : (f : Figures) → Gives (over f 12 2) (make 0 2 20 ∷ name 1 0 2 ∷ null 0 ∷ collect 0 ∷ kind 1 ∷ [])
      (fine ∷ fine ∷ fine ∷ ok (pos 7 ∷ []) [] ∷ ok (pos 9 ∷ pos 2 ∷ []) [] ∷ [])
  -- A block that just fits, and one that just does not.
  pub fits : (f : Figures) → Gives (over f 12 2) (make 0 9 20 ∷ []) (fine ∷ [])
  pub exceeds : (f : Figures) → Gives (over f 12 2) (make 0 10 20 ∷ []) (refused 16 Layer.Heap Word.Make 0 0 ∷ [])
  -- Bins of 1 to 256, and no more than the cells; a second opening.
  pub opens : opening false (byte8.figures 24) 2 ≡ fine
  pub all_bins : opening false (byte8.figures 24) 24 ≡ fine
  pub no_bins : opening false (byte8.figures 24) 0 ≡ refused 7 Layer.Workspace Word.Open 0 0
  pub more_bins : opening false (byte8.figures 24) 25 ≡ refused 7 Layer.Workspace Word.Open 0 0
  pub most_bins : opening false (byte8.figures 1000) 257 ≡ refused 7 Layer.Workspace Word.Open 0 0
  pub again : opening true (byte8.figures 24) 0 ≡ refused 6 Layer.Workspace Word.Open 0 0
  -- A string with a value, a block that is dropped, and a field that is not there.
  pub script : Gives (record { store = byte8.figures 24; bins = 2 })
      (text 1 alm ∷ number 2 (pos 1840) ∷ name 3 1 1 ∷ store 3 2 ∷ make 4 2 20 ∷ null 4 ∷ collect 0 ∷ kind 1 ∷ fetch 5 3 ∷ kind 5 ∷ name 6 1 3 ∷ [])
      (fine ∷ fine ∷ fine ∷ fine ∷ fine ∷ fine ∷ ok (pos 17 ∷ []) [] ∷ ok (pos 1 ∷ pos 3 ∷ []) [] ∷ fine ∷ ok (pos 6 ∷ pos 1840 ∷ []) [] ∷
      refused 10 Layer.Heap Word.Name 1 3 ∷ [])
