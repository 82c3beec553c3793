-- Room in a workspace, from room in its heap.
use Rattle.std.specs.Prelude.{unwrap_or}
use Rattle.std.proofs.Common.{◌≡◌, ℕ, ◌+◌, ◌<◌, ◌≤◌, List, length, pos, Some, Ok, Err, sym, refl, ap, ◌∙◌, subst, inl, inr, arith}
use Rattle.std.proofs.lemmas.List.{get_or_default}
use Rattle.std.proofs.lemmas.Bool.{cases_lt}
use Rattle.cells.specs.declared.Descriptor.{Descriptor}
use Rattle.cells.specs.Meaning.{Memory}
use Rattle.rules.specs.Lists.{total}
use Rattle.rules.specs.Model.{Model, register, size}
use Rattle.rules.specs.Arena.{desc, null_desc, Arena, Codes}
use Rattle.arena.specs.declared.extent.Extent.{Extent}
use Rattle.arena.specs.declared.faults.HeapFault.{HeapFault}
use Rattle.arena.specs.declared.faults.HeapFault.TheVariants.{Cells, NoField, BadMake, LongText, NoRoom, Unlawful}
use Rattle.heap.specs.Regeneration as heap
use Rattle.heap.specs.Room.{MakesRoom, FullExactly}
use Rattle.workspace.specs.State.{State, Opened}
use Rattle.workspace.specs.Shown.{View, Shown, Renewed, enough, remade}
use Rattle.workspace.specs.Rooms.{Fits, HasRoom, RoomOf}

-- Two open workspaces that are equal have the same bins, and the same first free cell.
pub bins_same : (b n c k : ℕ) → Opened b n ≡ Opened c k → b ≡ c
bins_same b n c k e = ap (λ (s : State). (unwrap_or s (record { bins = b; next = n })).bins) e

next_same : (b n c k : ℕ) → Opened b n ≡ Opened c k → n ≡ k
next_same b n c k e = ap (λ (s : State). (unwrap_or s (record { bins = b; next = n })).next) e

-- An extent whose bins stay.
pub same_extent : (e f : Extent) → f.bins ≡ e.bins → Opened e.bins f.next ≡ Some f
same_extent e f p = ap (λ (b : ℕ). Opened b f.next) (sym p)

-- What a workspace shows, its heap shows.
pub down : (m : Model) (a : Arena) (v : View) (bins next : ℕ) (ws : List ℕ) → Shown m a v → v.state ≡ Opened bins next → v.memory.figures.cells ≤ length ws →
    heap.Shown m a bins next v.registers ws v.memory
down m a v bins next ws s e long =
    let same : Opened bins next ≡ Opened a.bins a.«next» = sym e ∙ s.opened in
    record {
      shows = s.shows;
      bins_is = bins_same bins next a.bins a.«next» same;
      end_is = next_same bins next a.bins a.«next» same;
      same_length = s.file ∙ sym s.shows.lawful.good.count;
      registers = λ r h. let below : r < 32 = omega (arith, s.shows.lawful.good.count) in
          subst (λ (d : Descriptor). Codes m a v.memory (register m r) d) (get_or_default v.registers r (desc (pos 0) 0 0) null_desc (omega (arith, s.file))) (s.registers r below);
      room = long;
    }

-- What the heap shows, the workspace shows.
pub up : (m : Model) (b : Arena) (bins next : ℕ) (rs : List Descriptor) (ws : List ℕ) (o : Memory) → heap.Shown m b bins next rs ws o →
    Shown m b (record { memory = o; registers = rs; state = Opened bins next })
up m b bins next rs ws o s =
    let count = s.shows.lawful.good.count in
    record {
      shows = s.shows;
      opened = ap (λ (n : ℕ). Opened n next) s.bins_is ∙ ap (Opened b.bins) s.end_is;
      file = s.same_length ∙ count;
      registers = λ r h. subst (λ (d : Descriptor). Codes m b o (register m r) d) (get_or_default rs r null_desc (desc (pos 0) 0 0) (omega (arith, s.same_length, count)))
          (s.registers r (omega (arith, count)));
    }

pub renewed : (m : Model) (a : Arena) (o : Memory) (bins t : ℕ) (rs : List Descriptor) (ws : List ℕ) (f : Memory) (g : heap.Regenerated m a o bins t rs ws f) → Renewed m a g.after
renewed m a o bins t rs ws f g = record { same_bins = g.same_bins; order = g.order; exactly = g.exactly; chains = g.chains }

module _ (m : Model) (a : Arena) (v : View) (bins next need : ℕ) (s : Shown m a v) (e : v.state ≡ Opened bins next) (next' : ℕ) (rs' : List Descriptor) (ws' : List ℕ) (f : Memory) where
  bins_is : bins ≡ a.bins
  bins_is = bins_same bins next a.bins a.«next» (sym e ∙ s.opened)

  next_is : next ≡ a.«next»
  next_is = next_same bins next a.bins a.«next» (sym e ∙ s.opened)

  abbrev after : View
  after = record { memory = f; registers = rs'; state = Opened bins next' }

  fitting : FullExactly m v.memory bins need (Ok tt) → Fits m a v need
  fitting full things x = elim (cases_lt v.memory.figures.cells (bins + total (size v.memory.figures.places m) things + need)) [
    | inl h ↦ absurd (let q = (full things x).1 h in let z : ◌≡◌ {A = ℕ} 0 1 = cc in omega arith)
    | inr h ↦ omega (arith, h, bins_is)
  ]

  -- There is room.
  pub room_ok : MakesRoom m a v.memory bins next need v.registers next' rs' ws' f (Ok tt) → FullExactly m v.memory bins need (Ok tt) → HasRoom m a v need after next'
  room_ok (inl l) full =
      let same : v ≡ after = λ i. record { memory = sym l.same_memory i; registers = sym l.same_registers i; state = (e ∙ ap (Opened bins) (sym l.same_next)) i } in
      record {
        arena = a;
        roomed = enough (omega (arith, l.enough, next_is));
        shown = subst (Shown m a) same s;
        figures = ap (λ (o : Memory). o.figures) l.same_memory;
        next_is = l.same_next ∙ next_is;
        enough = omega (arith, l.enough, next_is);
        fits = fitting full;
      }
  room_ok (inr q) full =
      let g = q.0.regenerated in
      record {
        arena = g.after;
        roomed = remade (omega (arith, q.0.short, next_is)) (renewed m a v.memory bins next' rs' ws' f g);
        shown = up m g.after bins next' rs' ws' f g.shown;
        figures = g.figures;
        next_is = g.shown.end_is;
        enough = omega (arith, q.1, g.shown.end_is);
        fits = fitting full;
      }

  -- There is none, or nothing that could be.
  pub room_err : (x : HeapFault) → MakesRoom m a v.memory bins next need v.registers next' rs' ws' f (Err x) → FullExactly m v.memory bins need (Err x) → RoomOf m a v need after (Err x)
  room_err (Cells p k) h full = h
  room_err (NoField k) h full = h
  room_err BadMake h full = h
  room_err LongText h full = h
  room_err (Unlawful p k) h full = h
  room_err NoRoom h full =
      let g = h.0.regenerated in
      record {
        arena = g.after;
        renewed = renewed m a v.memory bins next' rs' ws' f g;
        shown = up m g.after bins next' rs' ws' f g.shown;
        figures = g.figures;
        exceeds = λ things x. omega (arith, (full things x).0 refl, bins_is);
      }
