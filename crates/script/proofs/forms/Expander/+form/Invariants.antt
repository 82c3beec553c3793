use Rattle.std.proofs.Common.{length}
use Rattle.script.specs.Plans.{Filled}
use Rattle.script.proofs.forms.Expander.+form.Given as goal

abbrev pub decreases-form : goal.decreases-form
decreases-form l = l.inner

abbrev pub invariant-loop-self : goal.invariant-loop-self
invariant-loop-self l = Filled l.inner l.empty l.initial.self l.self

abbrev pub decreases-loop-self : goal.decreases-loop-self
decreases-loop-self l = length l.self.reader.rest.now
