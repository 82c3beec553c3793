-- The call collect, by what its checks answer.
use Rattle.std.proofs.Common.{◌≡◌, ℕ, ◌+◌, ◌-◌, ◌<◌, ◌≤◌, List, [], ◌∷◌, pos, Err, Result, sym, ap, ◌∙◌, arith}
use Rattle.rules.specs.declared.Word.{Word}
use Rattle.rules.specs.Lists.{total}
use Rattle.rules.specs.Model.{Thing, Model, size}
use Rattle.rules.specs.Arena.{Arena}
use Rattle.rules.specs.Calls.{Call, ok, Act, want, settle}
use Rattle.rules.proofs.Room.{settle_fits, settle_full, work_long}
use Rattle.arena.specs.declared.faults.HeapFault.{HeapFault}
use Rattle.workspace.specs.declared.faults.Cause.TheVariants.{ShortWork}
use Rattle.workspace.specs.declared.faults.WorkspaceFault.{WorkspaceFault}
use Rattle.workspace.specs.State.{Opened}
use Rattle.workspace.specs.Shown.{View, Shown, limits, ExactWith, answered, count}
use Rattle.workspace.specs.Shown as after
use Rattle.workspace.specs.Rooms.{RoomOf, Regained}
use Rattle.workspace.proofs.Steps.{not_shut}
use Rattle.workspace.proofs.Wants.{short_work, by_refusal_with, by_answer_with}
use Rattle.workspace.proofs.Fulls.{fault_of, by_full_with}

module _ (v : View) (work n : ℕ) (opened : (b : ℕ) × (k : ℕ) × (v.state ≡ Opened b k)) where
  abbrev used : Model → List Thing → ℕ
  used m things = total (size v.memory.figures.places m) things

  abbrev wanted : Model → Arena → ℕ → Act
  wanted m a u = want n (pos (v.memory.figures.cells - (a.bins + u)) ∷ []) m

  -- The work list is too short.
  pub collect_short : (e : WorkspaceFault) (q : Result ℕ WorkspaceFault) → work < v.memory.figures.cells → e ≡ record { cause = ShortWork; call = Word.Collect; register = 0 } → q ≡ Err e →
      ExactWith v work (Call.collect n) (answered count q) v
  collect_short e q short e-is is =
      by_refusal_with v work (Call.collect n) count q (record { cause = ShortWork; call = Word.Collect; register = 0 }) (is ∙ ap Err e-is) (λ (z : 15 ≡ 16). omega (arith, z))
      (λ z. not_shut v.state opened.0 opened.1 opened.2 z)
      (λ m a s things x. ap (settle (limits v a) m (used m things) (Call.collect n)) (short_work (limits v a) work (Call.collect n) (wanted m a (used m things)) tt short))

  module _ (long : v.memory.figures.cells ≤ work) where
    -- There is no room.
    pub collect_full : (w : View) (x : HeapFault) (q : Result ℕ WorkspaceFault) → q ≡ Err (fault_of (Call.collect n) x) →
        ((m : Model) (a : Arena) → Shown m a v → RoomOf m a v n w (Err x)) → ExactWith v work (Call.collect n) (answered count q) w
    collect_full w x q is room =
        by_full_with v w work (Call.collect n) n count q x opened.0 opened.1 opened.2 is room
        (λ m a s exceeds things y. ap (settle (limits v a) m (used m things) (Call.collect n)) (work_long (limits v a) work (Call.collect n) (wanted m a (used m things)) long)
        ∙ settle_full (limits v a) m (used m things) (Call.collect n) n (pos (v.memory.figures.cells - (a.bins + used m things)) ∷ []) m (exceeds things y))

    -- The arena is regenerated, and the free cells are counted.
    pub collect_regained : (w : View) (free : ℕ) → ((m : Model) (a : Arena) → Shown m a v → Regained m a v n w free) → ExactWith v work (Call.collect n) (ok (count free) []) w
    collect_regained w free regained =
        by_answer_with v w work (Call.collect n) (ok (count free) []) opened.0 opened.1 opened.2
        (λ m a s. let g = regained m a s in (
          m,
          (λ things y. ap (settle (limits v a) m (used m things) (Call.collect n)) (work_long (limits v a) work (Call.collect n) (wanted m a (used m things)) long)
              ∙ settle_fits (limits v a) m (used m things) (Call.collect n) n (pos (v.memory.figures.cells - (a.bins + used m things)) ∷ []) m (g.fits things y)
              ∙ ap (λ (k : ℕ). (ok (count k) [], m)) (sym (g.counted things y))),
          (g.arena, after.collected g.renewed, g.shown, g.figures),
        ))
