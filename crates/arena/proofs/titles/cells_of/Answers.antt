use Rattle.std.proofs.Common.{rules, ◌+◌, Ok, ap, ◌∙◌}
use Rattle.rules.proofs.Rows.{rounded_up}
use Rattle.arena.proofs.titles.cells_of.Goals as goal

pub returns-clause-exact : goal.returns-clause-exact
returns-clause-exact c low high some = ap (λ n. Ok (4 + n)) (c.div_ceil.ensures ∙ rounded_up _ _ low some) ∙ search rules
