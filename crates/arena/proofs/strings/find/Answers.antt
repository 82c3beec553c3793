use Rattle.std.proofs.Common.{◌≡◌, ℕ, ◌≤◌, ap}
use Rattle.rules.specs.Keys.{bin, ascension}
use Rattle.arena.proofs.Outcomes.{ok_same}
use Rattle.arena.proofs.Findings.{some_bins, sought_there, sought_absent}
use Rattle.arena.proofs.strings.find.Goals as goal
use Rattle.arena.proofs.strings.find.Goals.{In_ok-cell}

slot : (g : _) (c : In_ok-cell g) → 1 ≤ c.args.bins → (c.in_ok-cell.cell ≡ bin c.args.bins c.args.text.now) × (c.in_ok-cell.number ≡ ascension c.args.bins c.args.text.now)
slot g c n = let e = ok_same _ _ (c.in_ok-cell.ensures n) in (ap (λ (x : ℕ × ℕ). x.0) e, ap (λ (x : ℕ × ℕ). x.1) e)

pub returns-clause-there : goal.returns-clause-there
returns-clause-there g c m a p sh bi l =
    let n = g.met.S.Store.sound c.args.store.now in
    let s = slot g (goal.at.returns-clause-there g c).In_ok-cell (some_bins m a _ n sh _ bi) in
    c.seek.ensures _ (sought_there m a _ n sh _ bi c.args.text.now _ _ s.0 s.1 _ c.in_ok-head.ensures.1 p l)

pub returns-clause-absent : goal.returns-clause-absent
returns-clause-absent g c m a sh bi away =
    let n = g.met.S.Store.sound c.args.store.now in
    let s = slot g (goal.at.returns-clause-absent g c).In_ok-cell (some_bins m a _ n sh _ bi) in
    c.seek.ensures _ (sought_absent m a _ n sh _ bi c.args.text.now _ _ s.0 s.1 _ c.in_ok-head.ensures.1 away)
