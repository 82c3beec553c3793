use Rattle.std.proofs.Common.{◌≡◌, ◌+◌, ◌*◌, ◌/◌, ◌%◌, ◌<◌, ◌≤◌, rules, div-lt_iff_lt-mul, arith}
use Rattle.cells.specs.Meaning.{FitCode}
use Rattle.cells.proofs.Acts.{character_written}
use Rattle.arena.specs.Enters.{Takes}
use Rattle.arena.proofs.Outcomes.{ok_not_err}
use Rattle.arena.proofs.Writings.{writing_fits, writing_more}
use Rattle.arena.proofs.entering.spell.Goals as goal
use Rattle.arena.proofs.entering.spell.Goals.{After-code_for}

row : (g : _) (c : After-code_for g) → c.loop-j.j < c.args.rows * (g.S.Store.memory c.args.store.now).figures.places
row g c =
    let e : c.in_ok-all.all ≡ c.args.rows * c.places-places.result = search rules in
    let l = c.loop-j-test.true in
    rw (← c.places-places.ensures) (omega arith)

cell : (g : _) (c : After-code_for g) → c.args.at + c.args.rows ≤ (g.S.Store.memory c.args.store.now).figures.cells → c.saturating_add.result ≡ c.args.at + c.loop-j.j / c.places-places.result
cell g c b =
    let n = g.met.S.Store.sound c.args.store.now in
    let y : c.loop-j.j / (g.S.Store.memory c.args.store.now).figures.places < c.args.rows = (div-lt_iff_lt-mul n.one_place).1 (row g c) in
    let z : c.loop-j.j / c.places-places.result < c.args.rows = rw c.places-places.ensures y in
    let s = c.saturating_add.ensures in let f = n.few in omega arith

fits : (g : _) (c : After-code_for g) → c.args.at + c.args.rows ≤ (g.S.Store.memory c.args.store.now).figures.cells → Takes (g.S.Store.memory c.args.store.now) c.args.text.now →
    (c.saturating_add.result < (g.S.Store.memory c.loop-j.store).figures.cells) × (c.loop-j.j % c.places-places.result < (g.S.Store.memory c.loop-j.store).figures.places) ×
    FitCode (g.S.Store.memory c.loop-j.store).figures c.code_for.result
fits g c b cd =
    let n = g.met.S.Store.sound c.args.store.now in
    writing_fits _ _ _ _ c.loop-j.j _ (c.loop-j.invariant b cd) n.one_place (row g c) _ c.places-places.ensures _ c.lowest-lowest.ensures _ c.code_for.ensures
    _ (cell g c b) b n.ordered cd

pub returns-in_err-set_character : goal.returns-in_err-set_character
returns-in_err-set_character g c b cd =
    let f = fits g (goal.at.returns-in_err-set_character g c).After-code_for b cd in
    ok_not_err (character_written _ _ _ _ _ c.set_character.result c.set_character.ensures.answer f.0 f.1 f.2).0 c.in_err-set_character.was

pub loop-j-preserved : goal.loop-j-preserved
loop-j-preserved g c b cd =
    let x = (goal.at.loop-j-preserved g c).After-code_for in
    let f = fits g x b cd in
    writing_more _ _ _ _ c.loop-j.j _ (c.loop-j.invariant b cd) (g.met.S.Store.sound c.args.store.now).one_place (row g x) _ c.places-places.ensures _ c.lowest-lowest.ensures
    _ c.code_for.ensures _ (cell g x b) _ (character_written _ _ _ _ _ c.set_character.result c.set_character.ensures.answer f.0 f.1 f.2).1
