use Rattle.std.proofs.Common.{◌≡◌, ◌-◌, true, false, length, take, drop, refl, sym, ap, ◌∙◌, rules, tests}
use Rattle.std.specs.List.{prefix_len}
use Rattle.std.proofs.lemmas.Iterator.{YieldsList-from_slice}
use Rattle.scan.specs.Tokens.{Next, printable, unparted, closed, text}
use Rattle.scan.proofs.Runs.{front_len}
use Rattle.scan.proofs.Nexts.{rest_drop, nil_next, line_next, open_next, close_next, text_here, no_text_here, run_here, run_found}
use Rattle.scan.proofs.reader.Reader.token_here.Goals as goal

pub returns-in-empty : goal.returns-in-empty
returns-in-empty c = rw (nil_next c.args.self.now.line c.args.self.now.column c.args.self.now.rest.now (search rules)) (refl, refl, refl, refl)

pub returns-in-10 : goal.returns-in-10
returns-in-10 c =
    let xs = c.args.self.now.rest.now in
    rw (line_next c.args.self.now.line c.args.self.now.column xs (search rules) (search rules)) (refl, refl, refl, rest_drop xs)

pub returns-in-40 : goal.returns-in-40
returns-in-40 c =
    let e = c.split_off.ensures in
    rw (open_next c.args.self.now.line c.args.self.now.column c.args.self.now.rest.now (search rules) (search rules)) (refl, e.line, e.column, e.rest)

pub returns-in-41 : goal.returns-in-41
returns-in-41 c =
    let e = c.split_off-in-41.ensures in
    rw (close_next c.args.self.now.line c.args.self.now.column c.args.self.now.rest.now (search rules) (search rules)) (refl, e.line, e.column, e.rest)

pub returns-then-is_closed : goal.returns-then-is_closed
returns-then-is_closed c =
    let xs = c.args.self.now.rest.now in
    let bs = take (length xs - 1) (drop 1 xs) in
    let n : c.count-n.result ≡ prefix_len printable bs = front_len printable c.count-n.ensures.ran (YieldsList-from_slice bs cc) c.take_while.ensures.closure c.take_while.ensures.done (λ x b q k. search (rules, tests)) in
    let e = c.split_text.ensures in
    let shut : closed c.count-n.result (drop 1 xs) ≡ true = ap (closed c.count-n.result) (sym (rest_drop xs)) ∙ sym c.is_closed.ensures ∙ c.if-is_closed.true in
    rw (text_here c.args.self.now.line c.args.self.now.column xs c.count-n.result (search rules) (search rules) (n ∙ ap (prefix_len printable) (rest_drop xs)) shut)
    (ap text e.part, e.line, e.column, e.rest)

pub returns-else-is_closed : goal.returns-else-is_closed
returns-else-is_closed c =
    let xs = c.args.self.now.rest.now in
    let bs = take (length xs - 1) (drop 1 xs) in
    let n : c.count-n.result ≡ prefix_len printable bs = front_len printable c.count-n.ensures.ran (YieldsList-from_slice bs cc) c.take_while.ensures.closure c.take_while.ensures.done (λ x b q k. search (rules, tests)) in
    let open' : closed c.count-n.result (drop 1 xs) ≡ false = ap (closed c.count-n.result) (sym (rest_drop xs)) ∙ sym c.is_closed.ensures ∙ c.if-is_closed.false in
    ap (λ (g : Next). g.tok) (no_text_here c.args.self.now.line c.args.self.now.column xs c.count-n.result (search rules) (search rules) (n ∙ ap (prefix_len printable) (rest_drop xs)) open')

pub returns-in_default : goal.returns-in_default
returns-in_default c =
    let xs = c.args.self.now.rest.now in
    let n : c.count-n-in_default.result ≡ prefix_len unparted xs = front_len unparted c.count-n-in_default.ensures.ran (YieldsList-from_slice xs cc) c.take_while-in_default.ensures.closure c.take_while-in_default.ensures.done (λ x b q k. search (rules, tests)) in
    let e = c.split_off-in_default.ensures in
    rw (run_here c.args.self.now.line c.args.self.now.column xs c.count-n-in_default.result (search rules) (search rules) (search rules) (search rules) (search rules) n)
    (run_found c.args.self.now.line c.args.self.now.column xs c.count-n-in_default.result c.split_off-in_default.result.now c.classify.result _ _ _ c.classify.ensures e.part e.line e.column e.rest)
