use Rattle.std.proofs.Common.{◌≡◌, ℕ, ◌+◌, ◌-◌, ◌<◌, Option, Ok, sym, ap, ◌∙◌, arith}
use Rattle.std.proofs.lemmas.Bool.{ltb-true, ltb-false}
use Rattle.cells.proofs.Acts.{descriptor_read}
use Rattle.arena.specs.Finds.{Readable, Sought}
use Rattle.rules.specs.Model.{string_fields}
use Rattle.arena.proofs.Outcomes.{ok_not_err}
use Rattle.arena.proofs.Follows.{not_failed, at_end, at_next}
use Rattle.arena.proofs.Seeks.{Comes, sought_leads, comes_found, comes_stopped, comes_on, answer_known, not_not, not_so}
use Rattle.arena.proofs.strings.seek.Goals as goal
use Rattle.arena.proofs.strings.seek.Goals.{In-Some, In_ok-link}

pub returns-in_err-title : goal.returns-in_err-title
returns-in_err-title g c p w =
    not_failed c.loop.link c.follow.result c.follow.ensures.last c.follow.ensures.more (sought_leads _ _ _ _ p _ (c.loop.invariant p w)) c.in_err-title.was

pub returns-in_default : goal.returns-in_default
returns-in_default g c p w =
    ap Ok (at_end c.loop.link c.follow.result c.follow.ensures.last c.follow.ensures.more (sought_leads _ _ _ _ p _ (c.loop.invariant p w))
    (c.in_ok-title.was ∙ ap Ok c.in_default.is))

next : (g : _) (c : In-Some g) (p : Option ℕ) → Sought (g.S.Store.memory c.args.store.now) c.args.text.now c.args.number c.args.head (g.S.Store.memory c.args.store.now).figures.cells p →
    (0 < c.cells-end.result - c.loop.counter) × Readable (g.S.Store.memory c.args.store.now) c.in-Some.title ×
    Comes (g.S.Store.memory c.args.store.now) c.args.text.now c.args.number (c.cells-end.result - c.loop.counter) p c.in-Some.title
next g c p w =
    at_next c.loop.link c.follow.result c.follow.ensures.last c.follow.ensures.more c.in-Some.title (sought_leads _ _ _ _ p _ (c.loop.invariant p w))
    (c.in_ok-title.was ∙ ap Ok c.in-Some.is)

pub returns-in_err-spells : goal.returns-in_err-spells
returns-in_err-spells g c p w =
    let j = next g (goal.at.returns-in_err-spells g c).In-Some p w in
    absurd (answer_known _ _ (c.spells.ensures j.1).0 (c.spells.ensures j.1).1 c.in_err-spells.was)

pub returns-then-branch : goal.returns-then-branch
returns-then-branch g c p w =
    let j = next g (goal.at.returns-then-branch g c).In-Some p w in
    ap Ok (comes_found _ _ _ _ p _ j.2 (not_not _ c.if-branch.true (c.in_ok-spells.ensures j.1).1))

pub returns-in_err-link : goal.returns-in_err-link
returns-in_err-link g c p w =
    let j = next g (goal.at.returns-in_err-link g c).In-Some p w in
    let l = j.1.low in let s = c.saturating_add.ensures in let f = (g.met.S.Store.sound c.args.store.now).few in
    ok_not_err (descriptor_read (g.S.Store.memory c.args.store.now) _ c.descriptor.result c.descriptor.ensures (omega arith)) c.in_err-link.was

read : (g : _) (c : In_ok-link g) → Readable (g.S.Store.memory c.args.store.now) c.in-Some.title → c.in_ok-link.link ≡ (g.S.Store.memory c.args.store.now).descriptor (c.in-Some.title + 1 + string_fields)
read g c re =
    let l = re.low in let s = c.saturating_add.ensures in let f = (g.met.S.Store.sound c.args.store.now).few in
    let e : c.saturating_add.result ≡ c.in-Some.title + 1 + string_fields = omega arith in
    c.in_ok-link.ensures.1 ∙ ap (λ (x : ℕ). (g.S.Store.memory c.args.store.now).descriptor x) e

pub returns-then-precedes : goal.returns-then-precedes
returns-then-precedes g c p w =
    let j = next g (goal.at.returns-then-precedes g c).In-Some p w in
    ap Ok (comes_stopped _ _ _ _ p _ j.2 (not_so _ c.if-branch.false (c.in_ok-spells.ensures j.1).0) _ (read g (goal.at.returns-then-precedes g c).In_ok-link j.1)
    (ltb-true _ _ (sym c.precedes.ensures ∙ c.if-precedes.true)))

pub loop-preserved : goal.loop-preserved
loop-preserved g c p w =
    let j = next g (goal.at.loop-preserved g c).In-Some p w in let z = j.0 in
    comes_on _ _ _ _ p _ j.2 (not_so _ c.if-branch.false (c.in_ok-spells.ensures j.1).0) _ (read g (goal.at.loop-preserved g c).In_ok-link j.1)
    _ (omega arith) (ltb-false _ _ (sym c.precedes.ensures ∙ c.if-precedes.false))

pub returns-else-precedes : goal.returns-else-precedes
returns-else-precedes g c p w =
    let j = next g (goal.at.returns-else-precedes g c).In-Some p w in
    let z = j.0 in absurd (omega arith)
