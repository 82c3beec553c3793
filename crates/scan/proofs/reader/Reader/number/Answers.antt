use Rattle.std.proofs.Common.{ℤ, [], ◌∷◌, Ok, Err, SFits, w32, to_z-of_z, subst, rules}
use Rattle.std.proofs.lemmas.Result.{err_from_is_err_and}
use Rattle.scan.specs.declared.types.Verb.TheVariants as verb
use Rattle.scan.specs.declared.types.Step.TheVariants as step
use Rattle.scan.specs.Words.{a_signed, nat, int}
use Rattle.scan.specs.Taking.{ReadsAt, said_step}
use Rattle.scan.proofs.Steps.{number_on, argued, closed}
use Rattle.scan.proofs.reader.Reader.number.Goals as goal

pub returns-in_err-r-clause-onward : goal.returns-in_err-r-clause-onward
returns-in_err-r-clause-onward c k =
    let p = err_from_is_err_and c.from_residual.result c.from_residual.ensures.1 in
    rw (p.1, p.2) (number_on verb.Number [] (a_signed ∷ []) k c.args.self.now (Err c.in_err-r.field-0.0) c.argument.new.self c.in_err-r.ensures.picks)

pub returns-in_err-i-clause-onward : goal.returns-in_err-i-clause-onward
returns-in_err-i-clause-onward c k =
    let p = err_from_is_err_and c.from_residual-in_err-i.result c.from_residual-in_err-i.ensures.1 in
    rw (p.1, p.2) (number_on verb.Number [] (a_signed ∷ []) k c.args.self.now (Ok c.in_ok-r.r) c.argument.new.self c.in_ok-r.ensures.picks _
    (argued verb.Number (nat c.in_ok-r.r ∷ []) k c.argument.new.self (Err c.in_err-i.field-0.0) c.pick.new.self c.in_err-i.ensures.picks a_signed [] int (λ t o h. search rules)))

pub returns-in_err-pick-clause-onward : goal.returns-in_err-pick-clause-onward
returns-in_err-pick-clause-onward c k =
    let p = err_from_is_err_and c.from_residual-in_err-pick.result c.from_residual-in_err-pick.ensures.1 in
    rw (p.1, p.2) (number_on verb.Number [] (a_signed ∷ []) k c.args.self.now (Ok c.in_ok-r.r) c.argument.new.self c.in_ok-r.ensures.picks _
    (argued verb.Number (nat c.in_ok-r.r ∷ []) k c.argument.new.self (Ok c.in_ok-i.i) c.pick.new.self c.in_ok-i.ensures.picks a_signed [] int (λ t o h. search rules) _
    (closed verb.Number (nat c.in_ok-r.r ∷ int c.in_ok-i.i ∷ []) k c.pick.new.self (Err c.in_err-pick.field-0.0) c.pick-2.new.self c.in_err-pick.ensures.picks (λ t o h. search rules))))

pub returns-clause-onward : goal.returns-clause-onward
returns-clause-onward c k o r =
    let f : SFits w32 c.in_ok-i.i = search rules in
    number_on verb.Number [] (a_signed ∷ []) k c.args.self.now (Ok c.in_ok-r.r) c.argument.new.self c.in_ok-r.ensures.picks o
    (argued verb.Number (nat c.in_ok-r.r ∷ []) k c.argument.new.self (Ok c.in_ok-i.i) c.pick.new.self c.in_ok-i.ensures.picks a_signed [] int (λ t o h. search rules) o
    (closed verb.Number (nat c.in_ok-r.r ∷ int c.in_ok-i.i ∷ []) k c.pick.new.self (Ok c.in_ok-pick.field-0) c.pick-2.new.self c.in_ok-pick.ensures.picks (λ t o h. search rules) o
    (subst (λ (z : ℤ). ReadsAt (said_step k (step.Number c.in_ok-r.r z)) c.pick-2.new.self o) (to_z-of_z f) r)))
