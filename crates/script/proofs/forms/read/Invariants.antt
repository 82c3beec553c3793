use Rattle.std.proofs.Common.{length}
use Rattle.script.specs.Plans.{Behind}
use Rattle.script.proofs.forms.read.Given as goal

abbrev pub invariant-loop-expander : goal.invariant-loop-expander
invariant-loop-expander l = Behind l.script l.expander

abbrev pub decreases-loop-expander : goal.decreases-loop-expander
decreases-loop-expander l = length l.expander.reader.rest.now
