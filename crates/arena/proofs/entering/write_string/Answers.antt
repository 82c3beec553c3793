use Rattle.std.proofs.Common.{◌≡◌, ℕ, Ok, refl, ap, length, arith}
use Rattle.std.proofs.lemmas.Grind.{common_steps}
use Rattle.cells.specs.Meaning.{Figures}
use Rattle.rules.specs.Model.{string_cells}
use Rattle.arena.proofs.Writings.{written}
use Rattle.arena.proofs.entering.write_string.Goals as goal

pub returns : goal.returns
returns g c l1 l2 room fd cd =
    let n = g.met.S.Store.sound c.args.store.now in
    let p1 = n.one_place in let p2 = n.few_places in let few = n.few in
    let size : c.in_ok-size.size ≡ string_cells (g.S.Store.memory c.args.store.now).figures.places (length c.args.text.now) = grind (arith, common_steps) in
    let s1 = c.saturating_add.ensures in let s2 = c.saturating_add-2.ensures in
    let fr = (c.in_ok-frame.ensures (omega arith) (omega arith) fd).1 in
    let e = ap (λ (f : Figures). f.cells) fr.figures in
    let wr = (c.in_ok-spell.ensures (omega arith) (rw fr.figures cd)).1 in
    (ap (λ (k : ℕ). Ok k) (omega arith), written _ _ _ _ _ _ _ _ _ refl (omega arith) (omega arith) fr wr)
