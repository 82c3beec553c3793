use Rattle.std.proofs.Common.{◌-◌, length, take, drop, rules, tests, refl}
use Rattle.std.proofs.lemmas.Iterator.{YieldsList-from_slice}
use Rattle.std.proofs.lemmas.Iterator.Search.{position_from_yields_List}
use Rattle.plan.proofs.Lines.{begins, nothing_here, name_here}
use Rattle.plan.proofs.names.next_name.Goals as goal

pub returns-in_err-start : goal.returns-in_err-start
returns-in_err-start c =
    rw c.from_residual.ensures (nothing_here c.args.input.now c.position.result
    (position_from_yields_List begins _ _ c.position.result c.position.ensures.ran (YieldsList-from_slice c.args.input.now cc) (λ x b q k. search (rules, tests)))
    c.in_err-start.was)

pub returns : goal.returns
returns c =
    let line = take (length c.args.input.now - c.in_ok-start.start) (drop c.in_ok-start.start c.args.input.now) in
    let found = name_here c.args.input.now line c.in_ok-start.start c.unwrap_or-end.result c.position.result c.memchr.result
    (position_from_yields_List begins _ _ c.position.result c.position.ensures.ran (YieldsList-from_slice c.args.input.now cc) (λ x b q k. search (rules, tests)))
    c.in_ok-start.was refl
    c.memchr.ensures c.unwrap_or-end.ensures in
    rw (c.split_at.ensures.front, c.split_at.ensures.back) found
