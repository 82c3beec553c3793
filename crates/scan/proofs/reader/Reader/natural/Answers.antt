use Rattle.std.proofs.Common.{rules}
use Rattle.scan.specs.Words.{natural_of}
use Rattle.scan.proofs.Taken.{picked}
use Rattle.scan.proofs.reader.Reader.natural.Goals as goal

pub returns-clause-picks : goal.returns-clause-picks
returns-clause-picks c = picked _ _ _ c.pick.ensures.picks (natural_of c.args.low c.args.high) (λ k o h. search rules)
