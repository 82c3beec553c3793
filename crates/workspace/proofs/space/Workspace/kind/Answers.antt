use Rattle.std.proofs.Common.{ℕ, [], ◌∷◌, length, pos, refl, ap, ◌∙◌, w32, w64, SFits, to_z, of_z, rules}
use Rattle.std.proofs.lemmas.Int.{to_z-of_z}
use Rattle.rules.specs.declared.Word.{Word}
use Rattle.rules.specs.Model.{block, Value, fields}
use Rattle.rules.specs.Calls.{Call, kind_of}
use Rattle.workspace.specs.Shown.{view, answered, pair}
use Rattle.workspace.proofs.Steps.{at_door, passed}
use Rattle.workspace.proofs.Raises.{raised_ok, raised_never}
use Rattle.workspace.proofs.Holdings.{null_in, number_in, text_in, block_in, name_in, other_never}
use Rattle.workspace.proofs.Lookings.{by_nothing, kind_gives, kind_is, kind_counts}
use Rattle.workspace.proofs.space.Workspace.kind.Goals as goal

pub returns-in_err-admit : goal.returns-in_err-admit
returns-in_err-admit g c =
    at_door (view g.S.Store.memory c.args.self.now) (Call.kind c.args.r) (c.args.r ∷ []) pair c.from_residual.result c.in_err-admit.field-0.0
    c.in_err-admit.ensures (passed c.from_residual.result _ _ c.from_residual.ensures.1 refl) tt refl (λ l m u h. (_, refl))

pub returns-in-Null : goal.returns-in-Null
returns-in-Null g c =
    let ok = c.in_ok-admit.ensures in
    kind_gives (view g.S.Store.memory c.args.self.now) c.args.r 1 (pos 0) ok
    (λ m a s. ap (kind_of m) (null_in s c.args.r ok.1.0 c.in-Null.ensures.flags))

pub returns-in-Number : goal.returns-in-Number
returns-in-Number g c =
    let ok = c.in_ok-admit.ensures in
    let z = c.in-Number.z in
    let fz : SFits w32 z = search rules in
    let fy : SFits w64 c.from.result = search rules in
    let wide = to_z-of_z w64 c.from.result fy ∙ c.from.ensures ∙ to_z-of_z w32 z fz in
    kind_gives (view g.S.Store.memory c.args.self.now) c.args.r 6 (to_z w64 (of_z w64 c.from.result)) ok
    (λ m a s. kind_is m c.args.r (Value.number z) 6 z _ (number_in s c.args.r ok.1.0 z c.in-Number.ensures.flags) refl wide)

pub returns-in_err-length-in-Text : goal.returns-in_err-length-in-Text
returns-in_err-length-in-Text g c =
    let v = view g.S.Store.memory c.args.self.now in
    let ok = c.in_ok-admit.ensures in
    by_nothing v (Call.kind c.args.r) (answered pair c.from_residual-in_err-length-in-Text.result) v ok.0
    (λ m a s. let k = text_in s c.args.r ok.1.0 c.in-Text.title c.in-Text.ensures.flags in
    raised_never c.length_at.result Word.Kind c.args.r c.in_err-length-in-Text.field-0.0 (length k.0) c.in_err-length-in-Text.ensures (c.length_at.ensures m a k.0 s.shows k.2))

pub returns-in_err-fields-in-Block : goal.returns-in_err-fields-in-Block
returns-in_err-fields-in-Block g c =
    let v = view g.S.Store.memory c.args.self.now in
    let ok = c.in_ok-admit.ensures in
    by_nothing v (Call.kind c.args.r) (answered pair c.from_residual-in_err-fields-in-Block.result) v ok.0
    (λ m a s. let k = block_in s c.args.r ok.1.0 c.in-Block.title c.in-Block.t c.in-Block.ensures.flags in
    raised_never c.count_at.result Word.Kind c.args.r c.in_err-fields-in-Block.field-0.0 (fields m (block k.0)) c.in_err-fields-in-Block.ensures (c.count_at.ensures m a (block k.0) s.shows k.2))

pub returns-in_err-k-in-Name : goal.returns-in_err-k-in-Name
returns-in_err-k-in-Name g c =
    let v = view g.S.Store.memory c.args.self.now in
    let ok = c.in_ok-admit.ensures in
    by_nothing v (Call.kind c.args.r) (answered pair c.from_residual-in_err-k-in-Name.result) v ok.0
    (λ m a s. let k = name_in s c.args.r ok.1.0 c.in-Name.cell c.in-Name.ensures.flags in
    raised_never c.title_of.result Word.Kind c.args.r c.in_err-k-in-Name.field-0.0 (k.1.2.title, k.1.0) c.in_err-k-in-Name.ensures (c.title_of.ensures.named m a k.0 k.1.0 k.1.2))

pub returns-in_ok-length-in-Text : goal.returns-in_ok-length-in-Text
returns-in_ok-length-in-Text g c =
    let ok = c.in_ok-admit.ensures in
    let fy : SFits w64 c.from-in-Text.result = search rules in
    let z = to_z w64 (of_z w64 c.from-in-Text.result) in
    kind_gives (view g.S.Store.memory c.args.self.now) c.args.r 1 z ok
    (λ m a s. let k = text_in s c.args.r ok.1.0 c.in-Text.title c.in-Text.ensures.flags in
    let n = raised_ok c.length_at.result Word.Kind c.args.r c.in_ok-length-in-Text.length (length k.0) c.in_ok-length-in-Text.ensures (c.length_at.ensures m a k.0 s.shows k.2) in
    kind_counts m c.args.r (Value.text k.0) 1 c.in_ok-length-in-Text.length (length k.0) c.from-in-Text.result z k.1 refl n c.from-in-Text.ensures (to_z-of_z w64 c.from-in-Text.result fy))

pub returns-in_ok-fields-in-Block : goal.returns-in_ok-fields-in-Block
returns-in_ok-fields-in-Block g c =
    let ok = c.in_ok-admit.ensures in
    let t = c.in-Block.t in
    let fy : SFits w64 c.from-in-Block.result = search rules in
    let z = to_z w64 (of_z w64 c.from-in-Block.result) in
    kind_gives (view g.S.Store.memory c.args.self.now) c.args.r t z ok
    (λ m a s. let k = block_in s c.args.r ok.1.0 c.in-Block.title t c.in-Block.ensures.flags in
    let n = raised_ok c.count_at.result Word.Kind c.args.r c.in_ok-fields-in-Block.fields (fields m (block k.0)) c.in_ok-fields-in-Block.ensures (c.count_at.ensures m a (block k.0) s.shows k.2) in
    kind_counts m c.args.r (Value.to k.0 t) t c.in_ok-fields-in-Block.fields (fields m (block k.0)) c.from-in-Block.result z k.1 refl n c.from-in-Block.ensures (to_z-of_z w64 c.from-in-Block.result fy))

pub returns-in_ok-k-in-Name : goal.returns-in_ok-k-in-Name
returns-in_ok-k-in-Name g c =
    let ok = c.in_ok-admit.ensures in
    let fy : SFits w64 c.from-in-Name.result = search rules in
    let z = to_z w64 (of_z w64 c.from-in-Name.result) in
    kind_gives (view g.S.Store.memory c.args.self.now) c.args.r 9 z ok
    (λ m a s. let k = name_in s c.args.r ok.1.0 c.in-Name.cell c.in-Name.ensures.flags in
    let n = ap (λ (x : ℕ × ℕ). x.1)
    (raised_ok c.title_of.result Word.Kind c.args.r (c.in_ok-k-in-Name.field-0-0, c.in_ok-k-in-Name.k) (k.1.2.title, k.1.0) c.in_ok-k-in-Name.ensures (c.title_of.ensures.named m a k.0 k.1.0 k.1.2)) in
    kind_counts m c.args.r (Value.name k.0 k.1.0) 9 c.in_ok-k-in-Name.k k.1.0 c.from-in-Name.result z k.1.1 refl n c.from-in-Name.ensures (to_z-of_z w64 c.from-in-Name.result fy))

pub returns-in-Other : goal.returns-in-Other
returns-in-Other g c =
    let ok = c.in_ok-admit.ensures in
    by_nothing (view g.S.Store.memory c.args.self.now) (Call.kind c.args.r) _ _ ok.0
    (λ m a s. other_never s c.args.r ok.1.0 c.in-Other.ensures.flags)
