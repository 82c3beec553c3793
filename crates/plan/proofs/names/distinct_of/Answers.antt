use Rattle.std.proofs.Common.{ap, ◌∙◌}
use Rattle.plan.specs.Names.{name_texts}
use Rattle.plan.proofs.Distinct.{one_more, all_of_them}
use Rattle.plan.proofs.names.distinct_of.Goals as goal

pub loop-name-init : goal.loop-name-init
loop-name-init c = ap name_texts c.new-once.ensures.empty

pub loop-name-preserved : goal.loop-name-preserved
loop-name-preserved c =
    ap name_texts c.in_ok-insert.ensures.keys ∙ one_more c.loop-name.once.keys c.args.names.now c.loop-name.name-index c.loop-name-test.true c.loop-name.invariant

pub returns : goal.returns
returns c = all_of_them c.loop-name.once.keys c.args.names.now c.loop-name.name-index c.loop-name-test.false c.loop-name.invariant
