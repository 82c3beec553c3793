use Rattle.std.proofs.Common.{◌≡◌, ◌∙◌, Ok, sym, subst, rules, tests}
use Rattle.std.specs.List.{prefix_len}
use Rattle.std.proofs.lemmas.Iterator.{YieldsList-from_slice}
use Rattle.std.proofs.lemmas.Result.{err_from_is_err_and}
use Rattle.scan.specs.declared.types.Placed.{Placed}
use Rattle.scan.specs.Tokens.{Next, none, space}
use Rattle.scan.specs.Forms.{no_token_at}
use Rattle.scan.specs.Taking.{Took}
use Rattle.scan.proofs.Runs.{front_len}
use Rattle.scan.proofs.Nexts.{took_some, took_none, behind_spaces}
use Rattle.scan.proofs.Shorter.{takes_shorter, takes_eats}
use Rattle.scan.proofs.reader.Reader.token.Goals as goal

pub returns-in_err-token-clause-took : goal.returns-in_err-token-clause-took
returns-in_err-token-clause-took c =
    let xs = c.args.self.now.rest.now in
    let n : c.count-spaces.result ≡ prefix_len space xs = front_len space c.count-spaces.ensures.ran (YieldsList-from_slice xs cc) c.take_while.ensures.closure c.take_while.ensures.done (λ x b q k. search (rules, tests)) in
    let after = c.split_off.ensures in
    let e = behind_spaces c.args.self.now.line c.args.self.now.column xs _ _ _ _ n after.line after.column after.rest in
    let p = err_from_is_err_and c.from_residual.result c.from_residual.ensures.1 in
    rw (p.1, p.2)
    (subst (λ (g : Next). (c.in_err-token.field-0.0 ≡ no_token_at g) × (g.tok ≡ none)) e
    (took_none _ _ _ _ _ _ c.token_here.result c.in_err-token.field-0.0 c.token_here.ensures (sym c.ok_or.ensures.value ∙ c.in_err-token.was)))

pub returns : goal.returns
returns c =
    let xs = c.args.self.now.rest.now in
    let n : c.count-spaces.result ≡ prefix_len space xs = front_len space c.count-spaces.ensures.ran (YieldsList-from_slice xs cc) c.take_while.ensures.closure c.take_while.ensures.done (λ x b q k. search (rules, tests)) in
    let after = c.split_off.ensures in
    let e = behind_spaces c.args.self.now.line c.args.self.now.column xs _ _ _ _ n after.line after.column after.rest in
    let p : Placed = record { at = record { line = c.split_off.new.self.line; column = c.split_off.new.self.column }; token = c.in_ok-token.token } in
    let took = subst (λ (g : Next). Took g p c.token_here.new.self.line c.token_here.new.self.column c.token_here.new.self.rest.now) e
    (took_some _ _ _ _ _ _ c.token_here.result _ c.in_ok-token.token c.token_here.ensures (sym c.ok_or.ensures.value ∙ c.in_ok-token.was)) in
    record { took = took; shorter = takes_shorter _ _ _ (Ok p) _ _ _ took; eats = takes_eats _ _ _ (Ok p) _ _ _ took }
