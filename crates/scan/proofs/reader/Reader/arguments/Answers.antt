use Rattle.std.proofs.Common.{◌≡◌, ℕ, suc, ◌-◌, ◌+◌, ◌++◌, take, map, replicate, Ok, Err, sym, refl, subst, arith, rules}
use Rattle.std.proofs.lemmas.Grind.{take-set_at}
use Rattle.std.proofs.lemmas.Result.{err_from_is_err_and}
use Rattle.scan.specs.Words.{a_number, nat}
use Rattle.scan.proofs.Arguments.{Read, read_more, read_all}
use Rattle.scan.proofs.Steps.{number_on, closed}
use Rattle.scan.proofs.reader.Reader.arguments.Goals as goal

pub returns-in_err-number-clause-onward : goal.returns-in_err-number-clause-onward
returns-in_err-number-clause-onward g c v got k =
    let p = err_from_is_err_and c.from_residual.result c.from_residual.ensures.1 in
    let i = c.loop-number.number-index in
    let e : g.row.N - i ≡ suc (g.row.N - (i + 1)) = omega arith in
    let on = subst (λ (m : ℕ). Read g.row.N (take i c.loop-number.number-items) m c.args.self.now c.loop-number.self) e c.loop-number.invariant.read in
    rw (p.1, p.2) (on v got k _ (number_on v (got ++ map nat (take i c.loop-number.number-items)) (replicate (g.row.N - (i + 1)) a_number) k c.loop-number.self (Err c.in_err-number.field-0.0) c.argument.new.self c.in_err-number.ensures.picks))

pub loop-number-preserved : goal.loop-number-preserved
loop-number-preserved g c =
    let i = c.loop-number.number-index in
    let e : g.row.N - i ≡ suc (g.row.N - (i + 1)) = omega arith in
    let on = subst (λ (m : ℕ). Read g.row.N (take i c.loop-number.number-items) m c.args.self.now c.loop-number.self) e c.loop-number.invariant.read in
    record {
      read = rw (take-set_at c.loop-number.number-items i (i + 1) c.in_ok-number.field-0 refl (omega arith)) (read_more g.row.N (take i c.loop-number.number-items) (g.row.N - (i + 1)) c.args.self.now c.loop-number.self c.argument.new.self c.in_ok-number.field-0 on c.in_ok-number.ensures.picks);
      all = search rules;
      shorter = omega (arith, c.loop-number.invariant.shorter, c.in_ok-number.ensures.shorter);
    }

pub returns-in_err-pick-clause-onward : goal.returns-in_err-pick-clause-onward
returns-in_err-pick-clause-onward g c v got k =
    let p = err_from_is_err_and c.from_residual-in_err-pick.result c.from_residual-in_err-pick.ensures.1 in
    let on : Read g.row.N c.loop-number.number-items 0 c.args.self.now c.loop-number.self = read_all g.row.N c.loop-number.number-index c.loop-number.number-items c.args.self.now c.loop-number.self c.loop-number.invariant.read (omega arith) (sym c.loop-number.invariant.all) in
    rw (p.1, p.2) (on v got k _ (closed v (got ++ map nat c.loop-number.number-items) k c.loop-number.self (Err c.in_err-pick.field-0.0) c.pick.new.self c.in_err-pick.ensures.picks (λ t o h. search rules)))

pub returns-clause-onward : goal.returns-clause-onward
returns-clause-onward g c v got k o r =
    let on : Read g.row.N c.loop-number.number-items 0 c.args.self.now c.loop-number.self = read_all g.row.N c.loop-number.number-index c.loop-number.number-items c.args.self.now c.loop-number.self c.loop-number.invariant.read (omega arith) (sym c.loop-number.invariant.all) in
    on v got k _ (closed v (got ++ map nat c.loop-number.number-items) k c.loop-number.self (Ok c.in_ok-pick.field-0) c.pick.new.self c.in_ok-pick.ensures.picks (λ t o h. search rules) o r)
