use Rattle.worked.proofs.examples_worked.Goals as goal
use Rattle.worked.proofs.Worked.{worked}

pub returns : goal.returns
returns c = worked
