use Rattle.std.proofs.Common.{length, vec_items, sym, ◌∙◌, arith}
use Rattle.std.proofs.lemmas.Bool.{eqb-true}
use Rattle.std.proofs.lemmas.Result.{err_from_is_err_and}
use Rattle.script.specs.Scripts.{too_many_bytes}
use Rattle.script.proofs.Back.{read_back}
use Rattle.script.proofs.Lined.{read_refused, read_done}
use Rattle.script.proofs.forms.read.Goals as goal

pub returns-then-script-gt-MOST_BYTES-clause-exact : goal.returns-then-script-gt-MOST_BYTES-clause-exact
returns-then-script-gt-MOST_BYTES-clause-exact c = too_many_bytes (omega arith)

pub returns-in_err-line-clause-exact : goal.returns-in_err-line-clause-exact
returns-in_err-line-clause-exact c =
    let p = err_from_is_err_and c.from_residual.result c.from_residual.ensures.1 in
    rw (p.1, p.2) (read_refused c.args.script.now (omega arith) c.loop-expander.expander c.loop-expander.invariant c.in_err-line.field-0.0 c.in_err-line.ensures.lines)

pub returns-in_err-line-clause-back : goal.returns-in_err-line-clause-back
returns-in_err-line-clause-back c fs law e = read_back c.args.script.now fs law e vec_items c.from_residual.result (returns-in_err-line-clause-exact c)

pub returns-clause-exact : goal.returns-clause-exact
returns-clause-exact c = read_done c.args.script.now (omega arith) c.loop-expander.expander c.loop-expander.invariant vec_items c.into_steps.result c.ok_or.result (eqb-true (length c.loop-expander.expander.reader.rest.now) 0 (sym c.loop-expander-test.ensures)) (c.into_steps.ensures ∙ c.loop-expander.invariant.holds) c.ok_or.ensures.value

pub returns-clause-back : goal.returns-clause-back
returns-clause-back c fs law e = read_back c.args.script.now fs law e vec_items c.ok_or.result (returns-clause-exact c)
