use Rattle.std.proofs.Common.{rules}
use Rattle.scan.specs.Taking.{outside_of}
use Rattle.scan.proofs.Taken.{picked}
use Rattle.scan.proofs.reader.Reader.outside.Goals as goal

pub returns-clause-picks : goal.returns-clause-picks
returns-clause-picks c = picked _ _ _ c.pick.ensures.picks outside_of (λ k o h. search rules)
