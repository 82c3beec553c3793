use Rattle.std.proofs.Common.{[], ◌∷◌, Ok, Err, rules}
use Rattle.std.proofs.lemmas.Result.{err_from_is_err_and}
use Rattle.scan.specs.declared.types.Verb.TheVariants as verb
use Rattle.scan.specs.Words.{a_text, nat, chars}
use Rattle.scan.proofs.Steps.{number_on, argued, closed, from_view}
use Rattle.scan.proofs.reader.Reader.entering.Goals as goal

pub returns-in_err-r-clause-onward : goal.returns-in_err-r-clause-onward
returns-in_err-r-clause-onward c k =
    let p = err_from_is_err_and c.from_residual.result c.from_residual.ensures.1 in
    rw (p.1, p.2) (number_on verb.Text [] (a_text ∷ []) k c.args.self.now (Err c.in_err-r.field-0.0) c.argument.new.self c.in_err-r.ensures.picks)

pub returns-in_err-text-clause-onward : goal.returns-in_err-text-clause-onward
returns-in_err-text-clause-onward c k =
    let p = err_from_is_err_and c.from_residual-in_err-text.result c.from_residual-in_err-text.ensures.1 in
    rw (p.1, p.2) (number_on verb.Text [] (a_text ∷ []) k c.args.self.now (Ok c.in_ok-r.r) c.argument.new.self c.in_ok-r.ensures.picks _
    (argued verb.Text (nat c.in_ok-r.r ∷ []) k c.argument.new.self (Err c.in_err-text.field-0.0) c.pick.new.self c.in_err-text.ensures.picks a_text [] (λ s. chars s.now) (λ t o h. from_view (λ s. s.now) chars o _ h.1)))

pub returns-in_err-pick-clause-onward : goal.returns-in_err-pick-clause-onward
returns-in_err-pick-clause-onward c k =
    let p = err_from_is_err_and c.from_residual-in_err-pick.result c.from_residual-in_err-pick.ensures.1 in
    rw (p.1, p.2) (number_on verb.Text [] (a_text ∷ []) k c.args.self.now (Ok c.in_ok-r.r) c.argument.new.self c.in_ok-r.ensures.picks _
    (argued verb.Text (nat c.in_ok-r.r ∷ []) k c.argument.new.self (Ok c.in_ok-text.text) c.pick.new.self c.in_ok-text.ensures.picks a_text [] (λ s. chars s.now) (λ t o h. from_view (λ s. s.now) chars o _ h.1) _
    (closed verb.Text (nat c.in_ok-r.r ∷ chars c.in_ok-text.text.now ∷ []) k c.pick.new.self (Err c.in_err-pick.field-0.0) c.pick-2.new.self c.in_err-pick.ensures.picks (λ t o h. search rules))))

pub returns-clause-onward : goal.returns-clause-onward
returns-clause-onward c k o r =
    number_on verb.Text [] (a_text ∷ []) k c.args.self.now (Ok c.in_ok-r.r) c.argument.new.self c.in_ok-r.ensures.picks o
    (argued verb.Text (nat c.in_ok-r.r ∷ []) k c.argument.new.self (Ok c.in_ok-text.text) c.pick.new.self c.in_ok-text.ensures.picks a_text [] (λ s. chars s.now) (λ t o h. from_view (λ s. s.now) chars o _ h.1) o
    (closed verb.Text (nat c.in_ok-r.r ∷ chars c.in_ok-text.text.now ∷ []) k c.pick.new.self (Ok c.in_ok-pick.field-0) c.pick-2.new.self c.in_ok-pick.ensures.picks (λ t o h. search rules) o r))
