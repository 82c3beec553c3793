-- A workspace with one thing more, and a register that points at it.
use Rattle.std.proofs.Common.{◌≡◌, ℕ, ◌<◌, ◌≤◌, List, get_or, set, pos, sym, ap, ◌∙◌, subst, arith}
use Rattle.cells.specs.declared.Descriptor.{Descriptor}
use Rattle.cells.specs.Meaning.{Memory, Sound}
use Rattle.rules.specs.Model.{Thing, Value, Model}
use Rattle.rules.specs.Arena.{desc, Arena, Codes, Proper}
use Rattle.rules.specs.Calls.{put}
use Rattle.arena.specs.Growth.{Grown}
use Rattle.workspace.specs.State.{State}
use Rattle.workspace.specs.State.{Opened}
use Rattle.workspace.specs.Shown.{View, Shown}
use Rattle.workspace.specs.Rooms.{HasRoom, Grew, ended}
use Rattle.workspace.proofs.Steps.{put_shown}

-- The store has grown: the registers show what they showed.
pub grown_shown : (m : Model) (b : Arena) (w : View) (x : Thing) (m' : Model) (b' : Arena) (o' : Memory) → Shown m b w → Grown m b w.memory x m' b' o' →
    m'.registers ≡ m.registers → b'.bins ≡ b.bins →
    Shown m' b' (record { memory = o'; registers = w.registers; state = ended w.state b'.«next» })
grown_shown m b w x m' b' o' s g same bins =
    record {
      shows = g.shows;
      opened = ap (λ (t : State). ended t b'.«next») s.opened ∙ ap (λ (n : ℕ). Opened n b'.«next») (sym bins);
      file = s.file;
      registers = λ r h. g.codes _ _ (subst (λ (v : Value). Codes m b w.memory v (get_or w.registers r (desc (pos 0) 0 0)))
          (ap (λ (l : List Value). get_or l r Value.null) (sym same)) (s.registers r h));
    }

-- The search for room succeeded, the store has grown, and register r points at what is new.
pub grew : (m : Model) (a : Arena) (v w : View) (need next : ℕ) (x : Thing) (m' : Model) (with_it : Arena → Arena) (o' : Memory) (r : ℕ) (p : Value) (d : Descriptor) →
    (h : HasRoom m a v need w next) → Grown m h.arena w.memory x m' (with_it h.arena) o' → m'.registers ≡ m.registers → (with_it h.arena).bins ≡ h.arena.bins →
    r < 32 → Proper m' p → Codes m' (with_it h.arena) o' p d → (end : ℕ) → end ≡ (with_it h.arena).«next» →
    Grew m a v need (put m' r p) with_it (record { memory = o'; registers = set w.registers r d; state = ended w.state end })
grew m a v w need next x m' with_it o' r p d h g same bins there fit code end end_is =
    record {
      arena = h.arena;
      roomed = h.roomed;
      shown = subst (λ (n : ℕ). Shown (put m' r p) (with_it h.arena) (record { memory = o'; registers = set w.registers r d; state = ended w.state n })) (sym end_is)
          (put_shown m' (with_it h.arena) (record { memory = o'; registers = w.registers; state = ended w.state (with_it h.arena).«next» }) r p d
          (grown_shown m h.arena w x m' (with_it h.arena) o' h.shown g same bins) there fit code);
      figures = g.figures ∙ h.figures;
      fits = h.fits;
    }

-- The first free cell is a cell's number.
pub next_small : (m : Model) (a : Arena) (v : View) (need : ℕ) (w : View) (next : ℕ) → Sound v.memory → HasRoom m a v need w next → next ≤ 65535
next_small m a v need w next sound h = omega (arith, sound.few, h.next_is, h.enough)
