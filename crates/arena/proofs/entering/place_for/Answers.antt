use Rattle.std.proofs.Common.{ℕ, ◌+◌, ◌-◌, ◌<◌, Ok, sym, ap, ◌∙◌, arith}
use Rattle.std.proofs.lemmas.Bool.{ltb-true, ltb-false}
use Rattle.cells.proofs.Acts.{descriptor_read}
use Rattle.rules.specs.Model.{string_fields}
use Rattle.arena.specs.Enters.{Backward}
use Rattle.arena.proofs.Outcomes.{ok_not_err}
use Rattle.arena.proofs.Follows.{not_failed, at_end, at_next}
use Rattle.arena.proofs.Places.{Comes, backward_below, backward_leads, comes_here, comes_on}
use Rattle.arena.proofs.entering.place_for.Goals as goal
use Rattle.arena.proofs.entering.place_for.Goals.{In-Some}

pub returns-in_err-descriptor : goal.returns-in_err-descriptor
returns-in_err-descriptor g c p w =
    ok_not_err (descriptor_read (g.S.Store.memory c.args.store.now) _ c.descriptor.result c.descriptor.ensures (backward_below _ _ _ _ p (c.loop.invariant p w)))
    c.in_err-descriptor.was

pub returns-in_err-title : goal.returns-in_err-title
returns-in_err-title g c p w =
    not_failed _ c.follow.result c.follow.ensures.last c.follow.ensures.more (backward_leads _ _ _ _ p (c.loop.invariant p w) _ c.in_ok-descriptor.ensures.1)
    c.in_err-title.was

pub returns-in_default : goal.returns-in_default
returns-in_default g c p w =
    ap Ok (at_end _ c.follow.result c.follow.ensures.last c.follow.ensures.more (backward_leads _ _ _ _ p (c.loop.invariant p w) _ c.in_ok-descriptor.ensures.1)
    (c.in_ok-title.was ∙ ap Ok c.in_default.is))

next : (g : _) (c : In-Some g) (p : ℕ) → Backward (g.S.Store.memory c.args.store.now) c.args.number c.args.head (g.S.Store.memory c.args.store.now).figures.cells p →
    (0 < c.cells-end.result - c.loop.counter) × (c.in-Some.title + 1 + string_fields < (g.S.Store.memory c.args.store.now).figures.cells) ×
    Comes (g.S.Store.memory c.args.store.now) c.args.number c.loop.cell (c.cells-end.result - c.loop.counter) p c.in-Some.title
next g c p w =
    at_next _ c.follow.result c.follow.ensures.last c.follow.ensures.more c.in-Some.title
    (backward_leads _ _ _ _ p (c.loop.invariant p w) _ c.in_ok-descriptor.ensures.1) (c.in_ok-title.was ∙ ap Ok c.in-Some.is)

pub returns-in_err-descriptor-2 : goal.returns-in_err-descriptor-2
returns-in_err-descriptor-2 g c p w =
    let j = next g (goal.at.returns-in_err-descriptor-2 g c).In-Some p w in
    let l = j.1 in let s = c.saturating_add-link.ensures in let f = (g.met.S.Store.sound c.args.store.now).few in
    ok_not_err (descriptor_read (g.S.Store.memory c.args.store.now) _ c.descriptor-in-loop.result c.descriptor-in-loop.ensures (omega arith)) c.in_err-descriptor-2.was

pub returns-then-precedes : goal.returns-then-precedes
returns-then-precedes g c p w =
    let j = next g (goal.at.returns-then-precedes g c).In-Some p w in
    let l = j.1 in let s = c.saturating_add-link.ensures in let f = (g.met.S.Store.sound c.args.store.now).few in
    ap Ok (comes_here _ _ _ _ p _ j.2 _ (omega arith) _ c.in_ok-descriptor-2.ensures.1 (ltb-true _ _ (sym c.precedes.ensures ∙ c.if-precedes.true)))

pub loop-preserved : goal.loop-preserved
loop-preserved g c p w =
    let j = next g (goal.at.loop-preserved g c).In-Some p w in
    let z = j.0 in let l = j.1 in let s = c.saturating_add-link.ensures in let f = (g.met.S.Store.sound c.args.store.now).few in
    comes_on _ _ _ _ p _ j.2 _ (omega arith) _ c.in_ok-descriptor-2.ensures.1 _ (omega arith) (ltb-false _ _ (sym c.precedes.ensures ∙ c.if-precedes.false))

pub returns-else-precedes : goal.returns-else-precedes
returns-else-precedes g c p w =
    let j = next g (goal.at.returns-else-precedes g c).In-Some p w in
    let z = j.0 in absurd (omega arith)
