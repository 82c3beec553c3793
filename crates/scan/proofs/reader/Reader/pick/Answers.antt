use Rattle.std.proofs.Common.{of_calls}
use Rattle.std.proofs.lemmas.Result.{err_from_is_err_and}
use Rattle.scan.specs.Taking.{ahead}
use Rattle.scan.proofs.Taken.{broke, fitted}
use Rattle.scan.proofs.reader.Reader.pick.Goals as goal

pub returns-in_err-t-clause-picks : goal.returns-in_err-t-clause-picks
returns-in_err-t-clause-picks g c =
    let p = err_from_is_err_and c.from_residual.result c.from_residual.ensures.1 in
    rw (p.1, p.2) (broke (goal.F-post g c.args.take) (ahead c.args.self.now) c.token.new.self c.in_err-t.field-0.0 c.in_err-t.ensures.took)

pub returns-clause-picks : goal.returns-clause-picks
returns-clause-picks g c = fitted (goal.F-post g c.args.take) (ahead c.args.self.now) c.token.new.self c.in_ok-t.t c.take.result c.ok_or.result c.in_ok-t.ensures.took (search of_calls) c.ok_or.ensures.value
