use Rattle.std.proofs.Common.{rules}
use Rattle.scan.specs.Taking.{inside_of}
use Rattle.scan.proofs.Inside.{inside_eats, inside_might}
use Rattle.scan.proofs.Taken.{picked}
use Rattle.scan.proofs.reader.Reader.inside.Goals as goal

pub returns-clause-picks : goal.returns-clause-picks
returns-clause-picks c = picked _ _ _ c.pick.ensures.picks (inside_of c.args.may_open c.args.may_close) (λ k o h. search rules)

pub returns-clause-eats : goal.returns-clause-eats
returns-clause-eats c = inside_eats c.args.may_open c.args.may_close c.args.self.now c.pick.result c.pick.new.self (returns-clause-picks c) c.pick.ensures.eats

pub returns-clause-may : goal.returns-clause-may
returns-clause-may c = inside_might c.args.may_open c.args.may_close c.args.self.now c.pick.result c.pick.new.self (returns-clause-picks c)
