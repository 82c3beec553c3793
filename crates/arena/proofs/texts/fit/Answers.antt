use Rattle.std.proofs.Common.{◌≡◌, ◌<◌, true, false, length, rules, arith}
use Rattle.std.specs.List.{AllWithin, HoldsAt}
use Rattle.std.specs.Option.{MatchOption}
use Rattle.std.proofs.lemmas.Grind.{common_steps}
use Rattle.std.proofs.lemmas.Iterator.{IsFirst-from_position, YieldsList-from_slice}
use borrow.Author.Tests.{tests}
use Rattle.rules.specs.Calls.{takes}
use Rattle.arena.proofs.Fits.{fits_whole, fits_until}
use Rattle.arena.proofs.texts.fit.Goals as goal
use Rattle.arena.proofs.texts.fit.Goals.{After-position}

first : (g : _) (c : After-position g) → MatchOption c.position.result
    (AllWithin (λ x. takes (g.S.Store.memory c.args.store.now).figures x ≡ true) c.args.text.now 0 (length c.args.text.now))
    (λ i. (i < length c.args.text.now) × HoldsAt (λ x. takes (g.S.Store.memory c.args.store.now).figures x ≡ false) c.args.text.now i ×
    AllWithin (λ x. takes (g.S.Store.memory c.args.store.now).figures x ≡ true) c.args.text.now 0 i)
first g c =
    IsFirst-from_position _ _ c.position.result (λ x. takes (g.S.Store.memory c.args.store.now).figures x ≡ false)
    (λ x. takes (g.S.Store.memory c.args.store.now).figures x ≡ true) c.position.ensures.ran (YieldsList-from_slice c.args.text.now cc)
    (λ x q k. grind (arith, common_steps, k)) (λ x q k. (search (rules, tests), grind (arith, common_steps, k)))

pub returns-in-None-clause-exact : goal.returns-in-None-clause-exact
returns-in-None-clause-exact g c =
    fits_whole (g.S.Store.memory c.args.store.now).figures _ c.if-text.false (rw c.in-None.is at (first g (goal.at.returns-in-None-clause-exact g c).After-position))

pub returns-in-Some-clause-exact : goal.returns-in-Some-clause-exact
returns-in-Some-clause-exact g c =
    fits_until (g.S.Store.memory c.args.store.now).figures _ c.in-Some.place c.if-text.false (rw c.in-Some.is at (first g (goal.at.returns-in-Some-clause-exact g c).After-position))
