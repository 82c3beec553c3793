use Rattle.std.proofs.Common.{◌≡◌, ℕ, ◌+◌, ◌/◌, ◌%◌, ◌<◌, get_or}
use Rattle.rules.specs.Model.{string_fields}
use Rattle.arena.specs.Finds.{Readable}
use Rattle.arena.proofs.strings.spells.Given as goal

abbrev pub invariant-loop-j : goal.invariant-loop-j
invariant-loop-j g l =
    Readable (g.S.Store.memory l.store) l.title → (k : ℕ) → k < l.j →
    (g.S.Store.memory l.store).character (l.title + 2 + string_fields + k / (g.S.Store.memory l.store).figures.places) (k % (g.S.Store.memory l.store).figures.places) ≡ get_or l.text k 0
