-- Opening a workspace, and what a closed one answers.
use Rattle.std.specs.Prelude.{ℕ, Bool, cond, ◌&&◌, [], nat_le}
use Rattle.cells.specs.Meaning.{Figures}
use Rattle.rules.specs.declared.Layer.{Layer}
use Rattle.rules.specs.declared.Word.{Word}
use Rattle.rules.specs.Calls.{Call, word, first, Answer, ok, refused}

-- The bins are 1 to 256, and no more than the cells.
abbrev pub can_open : Figures → ℕ → Bool
can_open f bins = nat_le 1 bins && nat_le bins 256 && nat_le bins f.cells

-- What open answers: a workspace that is open stays as it is, and so does one whose bins do not fit.
abbrev pub opening : Bool → Figures → ℕ → Answer
opening opened f bins =
    cond opened (refused 6 Layer.Workspace Word.Open 0 0) (cond (can_open f bins) (ok [] []) (refused 7 Layer.Workspace Word.Open 0 0))

-- A closed workspace refuses every call, and reports the call's first register as it was given.
abbrev pub closed : Call → Answer
closed c = refused 5 Layer.Workspace (word c) (first c) 0
