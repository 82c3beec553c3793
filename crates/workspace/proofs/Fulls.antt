-- A call for which there is no room, and what a refused call leaves.
use Rattle.std.proofs.Common.{◌≡◌, ℕ, ◌≢◌, List, ℤ, Ok, Err, Result, sym, refl, subst, inl, inr, arith}
use Rattle.rules.specs.declared.Layer.{Layer}
use Rattle.rules.specs.Model.{Thing, Model, Exactly}
use Rattle.rules.specs.Arena.{Arena}
use Rattle.rules.specs.Calls.{Call, word, first, no, refused, outcome_with}
use Rattle.arena.specs.Faults.{heap_number, heap_layer}
use Rattle.arena.specs.declared.faults.HeapFault.{HeapFault}
use Rattle.arena.specs.declared.faults.HeapFault.TheVariants.{Cells, NoField, BadMake, LongText, NoRoom, Unlawful}
use Rattle.workspace.specs.declared.faults.WorkspaceFault.{WorkspaceFault}
use Rattle.workspace.specs.State.{Opened}
use Rattle.workspace.specs.Reports.{report, told}
use Rattle.workspace.specs.Shown.{View, Shown, limits, StepWith, Given, ExactWith, answered, Untouched}
use Rattle.workspace.specs.Shown as after
use Rattle.workspace.specs.Rooms.{Exceeds, RoomOf}
use Rattle.workspace.proofs.Steps.{not_shut, things_of}

-- The heap's fault as it is told for a call.
abbrev pub fault_of : Call → HeapFault → WorkspaceFault
fault_of c x = told (record { fault = x; call = word c; register = first c })

module _ (v w : View) (work : ℕ) (c : Call) (need : ℕ) where
  -- What the rules say where there is no room.
  abbrev pub Lacking : Model → Arena → Type 0
  Lacking m a = Exceeds m a v need → (things : List Thing) → Exactly m things → outcome_with (limits v a) m things work c ≡ (refused 16 Layer.Heap (word c) (first c) 0, m)

  given_full : (m : Model) (a : Arena) (s : Shown m a v) (x : HeapFault) → RoomOf m a v need w (Err x) → Lacking m a →
      Given (StepWith (limits v a) m work c) m a v c (no (report (fault_of c x))) w
  given_full m a s (Cells p k) h rule = absurd h
  given_full m a s (NoField k) h rule = absurd h
  given_full m a s BadMake h rule = absurd h
  given_full m a s LongText h rule = absurd h
  given_full m a s (Unlawful p k) h rule = absurd h
  given_full m a s NoRoom h rule =
      let t = things_of s in
      record {
        outcome = (refused 16 Layer.Heap (word c) (first c) 0, m);
        step = record { things = t.0; exactly = t.1; result = rule h.exceeds t.0 t.1 };
        answer = refl;
        arena = h.arena;
        after = after.full refl h.renewed;
        shown = h.shown;
        figures = h.figures;
      }

  -- The heap refuses for want of room, and never for another cause.
  pub by_full_with : {T : Type 0} (f : T → List ℤ) (r : Result T WorkspaceFault) (x : HeapFault) (b n : ℕ) → v.state ≡ Opened b n → r ≡ Err (fault_of c x) →
      ((m : Model) (a : Arena) → Shown m a v → RoomOf m a v need w (Err x)) → ((m : Model) (a : Arena) → Shown m a v → Lacking m a) →
      ExactWith v work c (answered f r) w
  by_full_with {T} f r x b n opened is room rule =
      let P : Result T WorkspaceFault → Type 0 = λ y. ExactWith v work c (answered f y) w in
      subst P (sym is) (record {
        shut = λ e. not_shut v.state b n opened e;
        by_rules = λ m a s. given_full m a s x (room m a s) (rule m a s);
      })

-- What has not changed is untouched.
pub untouched_same : {T : Type 0} (v : View) (r : Result T WorkspaceFault) (A B : Type 0) → A → B → Untouched v r A B
untouched_same v (Ok x) A B p q = tt
untouched_same v (Err e) A B p q = λ _. (p, q)

-- The heap's faults are not of the workspace's layer.
below_workspace : {A : Type 0} (x : HeapFault) → heap_layer x ≡ Layer.Workspace → A
below_workspace (Cells p k) e = absurd (let z : ◌≡◌ {A = ℕ} 0 1 = cc in omega arith)
below_workspace (NoField k) e = absurd (let z : ◌≡◌ {A = ℕ} 0 1 = cc in omega arith)
below_workspace BadMake e = absurd (let z : ◌≡◌ {A = ℕ} 0 1 = cc in omega arith)
below_workspace LongText e = absurd (let z : ◌≡◌ {A = ℕ} 0 1 = cc in omega arith)
below_workspace NoRoom e = absurd (let z : ◌≡◌ {A = ℕ} 0 1 = cc in omega arith)
below_workspace (Unlawful p k) e = absurd (let z : ◌≡◌ {A = ℕ} 0 1 = cc in omega arith)

only_full : {A : Type 0} (m : Model) (a : Arena) (v w : View) (need : ℕ) (x : HeapFault) → RoomOf m a v need w (Err x) → heap_number x ≢ 16 → A
only_full m a v w need (Cells p k) h n = absurd h
only_full m a v w need (NoField k) h n = absurd h
only_full m a v w need BadMake h n = absurd h
only_full m a v w need LongText h n = absurd h
only_full m a v w need (Unlawful p k) h n = absurd h
only_full m a v w need NoRoom h n = absurd (n refl)

-- No room: nothing is said to stay.
pub untouched_full : {T : Type 0} (v w : View) (c : Call) (need : ℕ) (r : Result T WorkspaceFault) (x : HeapFault) (A B : Type 0) → r ≡ Err (fault_of c x) →
    ((m : Model) (a : Arena) → Shown m a v → RoomOf m a v need w (Err x)) → Untouched v r A B
untouched_full {T} v w c need r x A B is room =
    let P : Result T WorkspaceFault → Type 0 = λ y. Untouched v y A B in
    subst P (sym is) (λ q. elim q [
      | inl e ↦ below_workspace x e
      | inr h ↦ only_full h.0.0 h.0.1 v w need x (room h.0.0 h.0.1 h.0.2) h.1
    ])
