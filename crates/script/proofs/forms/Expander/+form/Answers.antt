use Rattle.std.proofs.Common.{ℕ, ◌<◌, true, None, Err, sym, ◌∙◌, subst, arith}
use Rattle.std.proofs.lemmas.Result.{err_from_is_err_and}
use Rattle.std.proofs.lemmas.Bool.{ltb-true}
use Rattle.scan.specs.Forms.{times}
use Rattle.script.specs.Plans.{Repeats}
use Rattle.script.proofs.Formed.{head_on, head_to, head_later, inside_on, inside_to, filled_none, filled_more, filled_end, filled_any, times_begun, count_on, count_low, times_formed, call_formed}
use Rattle.script.proofs.forms.Expander.+form.Goals as goal

pub returns-in_err-v-clause-forms : goal.returns-in_err-v-clause-forms
returns-in_err-v-clause-forms t c =
    let p = err_from_is_err_and c.from_residual.result c.from_residual.ensures.1 in
    rw (p.1, p.2) (λ n k h e. head_on k c.is_empty.result (e ∙ sym c.is_empty.ensures) c.args.self.now.reader (Err c.in_err-v.field-0.0) c.head.new.self c.in_err-v.ensures.picks)

pub returns-in_err-count-clause-forms : goal.returns-in_err-count-clause-forms
returns-in_err-count-clause-forms t c =
    let p = err_from_is_err_and c.from_residual-in_err-count.result c.from_residual-in_err-count.ensures.1 in
    rw (p.1, p.2) (λ n k h e. head_to k c.is_empty.result (e ∙ sym c.is_empty.ensures) c.args.self.now.reader c.in_ok-v.field-0 None c.head.new.self c.in_ok-v.ensures.picks c.in_default.is _ (count_on k c.head.new.self (Err c.in_err-count.field-0.0) c.natural.new.self c.in_err-count.ensures.picks))

pub loop-self-init : goal.loop-self-init
loop-self-init t c = filled_none c.args.inner (record { reader = c.natural.new.self; plan = c.args.self.now.plan }) (sym c.is_empty.ensures ∙ head_later c.is_empty.result c.args.self.now.reader c.in_ok-v.field-0 c.head.new.self c.in_ok-v.ensures.picks c.in_default.is)

pub returns-in_err-inside-clause-forms : goal.returns-in_err-inside-clause-forms
returns-in_err-inside-clause-forms t c =
    let p = err_from_is_err_and c.from_residual-in_err-inside.result c.from_residual-in_err-inside.ensures.1 in
    rw (p.1, p.2) (λ n k h e. times_begun k c.is_empty.result (e ∙ sym c.is_empty.ensures) c.args.self.now.reader c.in_ok-v.field-0 c.head.new.self c.in_ok-v.ensures.picks c.in_default.is c.in_ok-count.count c.natural.new.self c.in_ok-count.ensures.picks _ (c.loop-self.invariant.leads c.in_ok-count.count k h _ (inside_on c.in_ok-count.count c.loop-self.invariant.steps k c.args.inner c.loop-self.empty h c.loop-self.invariant.any c.loop-self.self.reader (Err c.in_err-inside.field-0.0) c.inside.new.self c.in_err-inside.ensures.picks)))

pub returns-in_err-form-clause-forms : goal.returns-in_err-form-clause-forms
returns-in_err-form-clause-forms t c =
    let p = err_from_is_err_and c.from_residual-in_err-form.result c.from_residual-in_err-form.ensures.1 in
    rw (p.1, p.2) (λ n k h e. times_begun k c.is_empty.result (e ∙ sym c.is_empty.ensures) c.args.self.now.reader c.in_ok-v.field-0 c.head.new.self c.in_ok-v.ensures.picks c.in_default.is c.in_ok-count.count c.natural.new.self c.in_ok-count.ensures.picks _ (c.loop-self.invariant.leads c.in_ok-count.count k h _ (inside_to c.in_ok-count.count c.loop-self.invariant.steps k c.args.inner c.loop-self.empty h c.loop-self.invariant.any c.loop-self.self.reader c.in_ok-inside.field-0 true c.inside.new.self c.in_ok-inside.ensures.picks c.if-branch.true _ (c.in_err-form.ensures.forms n (times c.in_ok-count.count c.loop-self.invariant.steps k) (omega (arith, ltb-true 0 c.args.inner (c.in_ok-inside.ensures.may c.if-branch.true), h)) (sym c.loop-self.invariant.later)))))

pub loop-self-preserved : goal.loop-self-preserved
loop-self-preserved t c =
    let low : 0 < c.args.inner = ltb-true 0 c.args.inner (c.in_ok-inside.ensures.may c.if-branch.true) in
    filled_more c.args.inner c.loop-self.empty (record { reader = c.natural.new.self; plan = c.args.self.now.plan }) c.loop-self.self c.loop-self.invariant c.in_ok-inside.field-0 c.inside.new.self c.in_ok-inside.ensures.picks c.form.new.self c.if-branch.true low c.in_ok-form.ensures.forms c.in_ok-inside.ensures.shorter c.in_ok-form.ensures.shorter

pub returns-in_default-clause-forms : goal.returns-in_default-clause-forms
returns-in_default-clause-forms t c =
    let any = filled_any c.args.inner c.loop-self.empty (record { reader = c.natural.new.self; plan = c.args.self.now.plan }) c.loop-self.self c.loop-self.invariant c.in_ok-inside.field-0 c.inside.new.self c.in_ok-inside.ensures.picks c.if-branch.false in
    times_formed c.repeat.result c.args.inner c.in_ok-count.count c.args.self.now c.loop-self.self (record { reader = c.inside.new.self; plan = c.repeat.new.self }) c.loop-self.invariant.steps
    (λ k h e o x. times_begun k c.is_empty.result (e ∙ sym c.is_empty.ensures) c.args.self.now.reader c.in_ok-v.field-0 c.head.new.self c.in_ok-v.ensures.picks c.in_default.is c.in_ok-count.count c.natural.new.self c.in_ok-count.ensures.picks o (filled_end c.args.inner c.loop-self.empty (record { reader = c.natural.new.self; plan = c.args.self.now.plan }) c.loop-self.self c.loop-self.invariant c.in_ok-inside.field-0 c.inside.new.self c.in_ok-inside.ensures.picks c.in_ok-count.count k h c.if-branch.false o x))
    c.loop-self.invariant.grows any (count_low c.head.new.self c.in_ok-count.count c.natural.new.self c.in_ok-count.ensures.picks)
    (subst (λ (z : ℕ). Repeats c.repeat.result c.loop-self.self.plan c.repeat.new.self z c.in_ok-count.count) c.len-start.ensures c.repeat.ensures)

pub returns-in_err-step-clause-forms : goal.returns-in_err-step-clause-forms
returns-in_err-step-clause-forms t c =
    let p = err_from_is_err_and c.from_residual-in_err-step.result c.from_residual-in_err-step.ensures.1 in
    rw (p.1, p.2) (λ n k h e. head_to k c.is_empty.result (e ∙ sym c.is_empty.ensures) c.args.self.now.reader c.in_ok-v.field-0 _ c.head.new.self c.in_ok-v.ensures.picks c.in-Some.is _ (c.in_err-step.ensures.onward k))

pub returns-clause-forms : goal.returns-clause-forms
returns-clause-forms t c =
    call_formed c.push.result c.args.inner c.args.self.now (record { reader = c.call.new.self; plan = c.push.new.self }) c.in_ok-step.step
    (λ k h e o x. head_to k c.is_empty.result (e ∙ sym c.is_empty.ensures) c.args.self.now.reader c.in_ok-v.field-0 _ c.head.new.self c.in_ok-v.ensures.picks c.in-Some.is o (c.in_ok-step.ensures.onward k o x)) c.push.ensures
