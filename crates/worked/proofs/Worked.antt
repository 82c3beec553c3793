-- The worked examples, run on the model.
use Rattle.std.proofs.Common.{◌≡◌, ℕ, true, List, [], ◌∷◌, pos, refl, inl}
use Rattle.rules.specs.Model.{Thing, block, string, Value, Model, empty}
use Rattle.rules.specs.Calls.{Limits, Call, put_field, put_block, Outcome, outcome, Run, done, call}
use Rattle.worked.specs.Worked.{alm, WorkedExamples}
use Rattle.worked.proofs.Reached.{Only, is_exact, exactly, only_empty, only_field, only_block}

-- A call on a model whose fields are null but for those of ds, and the calls after it.
step : (ds : List Thing) {l : Limits} {m : Model} {c : Call} {cs : List Call} {os : List Outcome} → Only ds m → (things : List Thing) → is_exact ds m things ≡ true →
    Run l (outcome l m things c).1 cs os → Run l m (c ∷ cs) (outcome l m things c ∷ os)
step ds {m = m} o things h r = call (record { things = things; exactly = exactly ds m o things h; result = refl }) r

-- The models after no, one, two and three makes: all fields are null.
bare : Only [] empty
bare = only_empty []

bare₁ : (n : ℕ) → Only [] (put_block empty 0 n 20)
bare₁ n = only_block [] empty 0 n 20 bare

bare₂ : (n k : ℕ) → Only [] (put_block (put_block empty 0 n 20) 1 k 20)
bare₂ n k = only_block [] (put_block empty 0 n 20) 1 k 20 (bare₁ n)

bare₃ : (n k j : ℕ) → Only [] (put_block (put_block (put_block empty 0 n 20) 1 k 20) 2 j 20)
bare₃ n k j = only_block [] (put_block (put_block empty 0 n 20) 1 k 20) 2 j 20 (bare₂ n k)

-- The models of the script: one string has a value, and then a block is made.
abbrev one : List Thing
one = string alm ∷ []

abbrev height : Model
height = put_field empty (string alm) 1 (Value.number (pos 1840))

plain : Only one empty
plain = only_empty one

valued : Only one height
valued = only_field one empty (string alm) 1 (Value.number (pos 1840)) (inl refl) plain

made : Only one (put_block height 4 2 20)
made = only_block one height 4 2 20 valued

pub worked : WorkedExamples
worked = record {
  byte8_cell = refl;
  sixbit_cell = refl;
  eight = refl;
  nine = refl;
  ten = refl;
  eleven = refl;
  key_of = refl;
  bin_of = refl;
  ascension_of = refl;
  quotient = λ f. (_, step [] bare [] refl (step [] bare [] refl (step [] bare [] refl (step [] bare [] refl done))), refl);
  no_quotient = λ f. (_, step [] bare [] refl (step [] bare [] refl (step [] bare [] refl done)), refl);
  twelve = λ f. (
    _,
    step [] bare [] refl (step [] (bare₁ 4) (block 0 ∷ []) refl (step [] (bare₁ 4) [] refl (step [] (bare₂ 4 4) (block 1 ∷ []) refl
        (step [] (bare₃ 4 4 4) (block 1 ∷ block 2 ∷ []) refl done)))),
    refl,
  );
  fourteen = λ f. (
    _,
    step [] bare [] refl (step [] (bare₁ 4) (block 0 ∷ []) refl (step [] (bare₁ 4) [] refl (step [] (bare₂ 4 4) (block 1 ∷ []) refl
        (step [] (bare₃ 4 4 4) (block 1 ∷ block 2 ∷ []) refl done)))),
    refl,
  );
  old_target = λ f. (_, step [] bare [] refl (step [] (bare₁ 9) (block 0 ∷ []) refl (step [] (bare₁ 9) (block 0 ∷ []) refl (step [] (bare₁ 9) [] refl done))), refl);
  named = λ f. (
    _,
    step [] bare [] refl (step [] (bare₁ 2) (block 0 ∷ []) refl (step [] (bare₁ 2) (block 0 ∷ []) refl (step [] (bare₁ 2) (block 0 ∷ []) refl
        (step [] (bare₁ 2) (block 0 ∷ []) refl done)))),
    refl,
  );
  fits = λ f. (_, step [] bare [] refl done, refl);
  exceeds = λ f. (_, step [] bare [] refl done, refl);
  opens = refl;
  all_bins = refl;
  no_bins = refl;
  more_bins = refl;
  most_bins = refl;
  again = refl;
  script = (
    _,
    step one plain [] refl (step one plain one refl (step one plain one refl (step one plain one refl (step one valued one refl (step one made (string alm ∷ block 0 ∷ []) refl
        (step one made one refl (step one made one refl (step one made one refl (step one made one refl (step one made one refl done)))))))))),
    refl,
  );
}
