use Rattle.std.proofs.Common.{true, Err, ◌++◌, refl}
use Rattle.std.proofs.lemmas.Result.{err_from_is_err_and}
use Rattle.scan.specs.Forms.{bottom}
use Rattle.script.proofs.Lined.{outside_on, outside_to, line_end_on}
use Rattle.script.proofs.forms.Expander.line.Goals as goal

pub returns-in_err-outside-clause-lines : goal.returns-in_err-outside-clause-lines
returns-in_err-outside-clause-lines c =
    let p = err_from_is_err_and c.from_residual.result c.from_residual.ensures.1 in
    rw (p.1, p.2) (λ n said e. outside_on said c.args.self.now.reader (Err c.in_err-outside.field-0.0) c.outside.new.self c.in_err-outside.ensures.picks)

pub returns-in_err-line_form-clause-lines : goal.returns-in_err-line_form-clause-lines
returns-in_err-line_form-clause-lines c =
    let p = err_from_is_err_and c.from_residual-in_err-line_form.result c.from_residual-in_err-line_form.ensures.1 in
    rw (p.1, p.2) (λ n said e. outside_to said c.args.self.now.reader c.in_ok-outside.field-0 true c.outside.new.self c.in_ok-outside.ensures.picks c.if-branch.true _ (c.in_err-line_form.ensures.forms n (bottom said) refl e))

pub returns-in_err-line_end-clause-lines : goal.returns-in_err-line_end-clause-lines
returns-in_err-line_end-clause-lines c =
    let p = err_from_is_err_and c.from_residual-in_err-line_end.result c.from_residual-in_err-line_end.ensures.1 in
    rw (p.1, p.2) (λ n said e. outside_to said c.args.self.now.reader c.in_ok-outside.field-0 true c.outside.new.self c.in_ok-outside.ensures.picks c.if-branch.true _
    (c.in_ok-line_form.ensures.forms.leads (bottom said) refl e _ (line_end_on (said ++ c.in_ok-line_form.ensures.forms.steps) c.line_form.new.self.reader (Err c.in_err-line_end.field-0.0) c.line_end.new.self c.in_err-line_end.ensures.picks)))
