use Rattle.std.proofs.Common.{◌≡◌, ℕ, ◌+◌, pos, Ok, ap, ◌∙◌, arith}
use Rattle.rules.specs.Arena.{desc}
use Rattle.arena.proofs.Readings.{field_below}
use Rattle.arena.proofs.fields.name_of.Goals as goal

pub returns-clause-there : goal.returns-clause-there
returns-clause-there g c m a x sh l k1 k2 =
    let s = c.saturating_add.ensures in
    let b = field_below m a _ sh x c.args.title c.args.k l k2 in
    let f = (g.met.S.Store.sound c.args.store.now).few in
    let e : c.saturating_add.result ≡ c.args.title + c.args.k = omega arith in
    c.pointer_at.ensures (omega arith) ∙ ap (λ (p : ℕ). Ok (desc (pos p) 16 9)) e
