use Rattle.std.proofs.Common.{rules}
use Rattle.scan.specs.Taking.{line_end_of}
use Rattle.scan.proofs.Taken.{picked}
use Rattle.scan.proofs.reader.Reader.line_end.Goals as goal

pub returns-clause-picks : goal.returns-clause-picks
returns-clause-picks c = picked _ _ _ c.pick.ensures.picks line_end_of (λ k o h. search rules)
