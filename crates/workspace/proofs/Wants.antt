-- How a call with a work list is shown to be exact.
use Rattle.std.proofs.Common.{◌≡◌, ℕ, ◌<◌, ◌≤◌, Bool, leb, ◌≢◌, List, [], get_or, ℤ, Err, Result, sym, refl, ap, ◌∙◌, subst, inl, inr, arith}
use Rattle.std.specs.List.{AllByRecursion}
use Rattle.std.proofs.lemmas.Bool.{lt-leb, cond-false}
use Rattle.rules.specs.declared.Layer.{Layer}
use Rattle.rules.specs.declared.Word.{Word}
use Rattle.rules.specs.Lists.{total}
use Rattle.rules.specs.Model.{Text, Thing, Model, size, has, Exactly}
use Rattle.rules.specs.Arena.{Arena}
use Rattle.rules.specs.Calls.{Limits, Call, word, first, Answer, ok, no, Act, refuse, give, want, act, registers_then, refused, settle, work_then, outcome_with}
use Rattle.rules.specs.Opening.{closed}
use Rattle.rules.proofs.Acts.{registers_fine, registers_beyond}
use Rattle.rules.proofs.Room.{settle_fits, settle_full, work_long}
use Rattle.workspace.specs.declared.faults.WorkspaceFault.{WorkspaceFault}
use Rattle.workspace.specs.State.{Shut, Opened}
use Rattle.workspace.specs.Reports.{report}
use Rattle.workspace.specs.Shown.{View, Shown, limits, After, full, Given, ExactWith, answered, Admits}
use Rattle.workspace.specs.Shown as after
use Rattle.workspace.specs.Rooms.{Fits, Exceeds}
use Rattle.workspace.proofs.Steps.{not_shut, things_of}

-- What is no refusal is refused for a work list that is too short.
abbrev pub Unrefused : Act → Type 0
Unrefused (refuse n layer r place) = ⊥
Unrefused (give zs t k) = Unit {0}
Unrefused (want need zs k) = Unit {0}

pub short_work : (l : Limits) (work : ℕ) (c : Call) (b : Act) → Unrefused b → work < l.store.cells → work_then l work c b ≡ refuse 15 Layer.Workspace (first c) 0
short_work l work c (refuse n layer r place) some h = absurd some
short_work l work c (give zs t k) some h = cond-false (leb l.store.cells work) _ _ (lt-leb _ _ h)
short_work l work c (want need zs k) some h = cond-false (leb l.store.cells work) _ _ (lt-leb _ _ h)

-- A refusal other than "no room", with the workspace as it was.
pub by_refusal_with : {T : Type 0} (v : View) (work : ℕ) (c : Call) (f : T → List ℤ) (r : Result T WorkspaceFault) (e : WorkspaceFault) → r ≡ Err e → (report e).number ≢ 16 →
    (v.state ≡ Shut → no (report e) ≡ closed c) →
    ((m : Model) (a : Arena) → Shown m a v → (things : List Thing) → Exactly m things → outcome_with (limits v a) m things work c ≡ (no (report e), m)) →
    ExactWith v work c (answered f r) v
by_refusal_with {T} v work c f r e is other shut opened =
    let P : Result T WorkspaceFault → Type 0 = λ x. ExactWith v work c (answered f x) v in
    subst P (sym is) (record {
      shut = shut;
      by_rules = λ m a s. let t = things_of s in
          record {
            outcome = (no (report e), m);
            step = record { things = t.0; exactly = t.1; result = opened m a s t.0 t.1 };
            answer = refl;
            arena = a;
            after = after.refused other;
            shown = s;
            figures = refl;
          };
    })

module _ (v : View) (work : ℕ) (c : Call) (rs : List ℕ) where
  -- The first check refuses as the rules do.
  pub at_door_with : {T : Type 0} (f : T → List ℤ) (r : Result T WorkspaceFault) (e : WorkspaceFault) →
      Admits v.state (word c) rs (Err e) → r ≡ Err e → first c ≡ get_or rs 0 0 →
      ((l : Limits) (m : Model) (used : ℕ) (reached : Thing → Bool) → (inner : Act) × (act l m used reached c ≡ registers_then rs inner)) →
      ExactWith v work c (answered f r) v
  at_door_with f r e (inl h) is first_is inner =
      by_refusal_with v work c f r e is (λ q. let n : (report e).number ≡ 5 = ap (λ (x : WorkspaceFault). (report x).number) h.1 in omega (arith, q, n))
      (λ z. ap (λ (x : WorkspaceFault). no (report x)) h.1 ∙ ap (λ (k : ℕ). refused 5 Layer.Workspace (word c) k 0) (sym first_is))
      (λ m a s t x. not_shut v.state a.bins a.«next» s.opened h.0)
  at_door_with f r e (inr h) is first_is inner =
      let q = h.1 in
      by_refusal_with v work c f r e is (λ z. let n : (report e).number ≡ 8 = ap (λ (x : WorkspaceFault). (report x).number) q.4 in omega (arith, z, n))
      (λ z. not_shut v.state h.0.0 h.0.1 h.0.2 z)
      (λ m a s t x. let used = total (size v.memory.figures.places m) t in
      let l = limits v a in
      let k = inner l m used (has t) in
      ap (λ (b : Act). settle l m used c (work_then l work c b)) (k.1 ∙ registers_beyond rs k.0 q.0 q.1 q.2 q.3)
      ∙ ap (λ (y : WorkspaceFault). (no (report y), m)) (sym q.4))

  module _ (admitted : ((b : ℕ) × (n : ℕ) × (v.state ≡ Opened b n)) × AllByRecursion (λ x. x ≤ 31) rs) where
    -- A check past the door refuses.
    pub by_refusing_with : {T : Type 0} (f : T → List ℤ) (r : Result T WorkspaceFault) (e : WorkspaceFault) → r ≡ Err e → (report e).number ≢ 16 → word c ≡ e.call →
        ((m : Model) (a : Arena) → Shown m a v → (used : ℕ) (reached : Thing → Bool) →
        act (limits v a) m used reached c ≡ registers_then rs (refuse (report e).number (report e).layer (report e).register (report e).place)) →
        ExactWith v work c (answered f r) v
    by_refusing_with f r e is other same refuses =
        by_refusal_with v work c f r e is other (λ z. not_shut v.state admitted.0.0 admitted.0.1 admitted.0.2 z)
        (λ m a s things x. let used = total (size v.memory.figures.places m) things in
        let l = limits v a in
        ap (λ (b : Act). settle l m used c (work_then l work c b))
        (refuses m a s used (has things) ∙ registers_fine rs (refuse (report e).number (report e).layer (report e).register (report e).place) admitted.1)
        ∙ ap (λ (w : Word). (refused (report e).number (report e).layer w (report e).register (report e).place, m)) same)

    module _ (m : Model) (a : Arena) (s : Shown m a v) (inner : Act)
        (comes : (used : ℕ) (reached : Thing → Bool) → ((things : List Thing) × (used ≡ total (size v.memory.figures.places m) things) × (reached ≡ has things) × Exactly m things) →
        act (limits v a) m used reached c ≡ registers_then rs inner) where
      -- What a call comes to past its first check.
      pub past_door : (things : List Thing) → Exactly m things →
          outcome_with (limits v a) m things work c ≡ settle (limits v a) m (total (size v.memory.figures.places m) things) c (work_then (limits v a) work c inner)
      past_door things x =
          let used = total (size v.memory.figures.places m) things in
          let l = limits v a in
          ap (λ (b : Act). settle l m used c (work_then l work c b)) (comes used (has things) (things, refl, refl, x) ∙ registers_fine rs inner admitted.1)

      -- A call that wants cells, and gets them.
      pub wants_fit : (need : ℕ) (zs : List ℤ) (k : Model) → inner ≡ want need zs k → v.memory.figures.cells ≤ work → Fits m a v need →
          (things : List Thing) → Exactly m things → outcome_with (limits v a) m things work c ≡ (ok zs [], k)
      wants_fit need zs k is long fits things x =
          let used = total (size v.memory.figures.places m) things in
          let l = limits v a in
          past_door things x ∙ ap (settle l m used c) (work_long l work c inner long ∙ is) ∙ settle_fits l m used c need zs k (fits things x)

      -- A call that wants cells, and there is no room.
      pub wants_full : (need : ℕ) (zs : List ℤ) (k : Model) → inner ≡ want need zs k → v.memory.figures.cells ≤ work → Exceeds m a v need →
          (things : List Thing) → Exactly m things → outcome_with (limits v a) m things work c ≡ (refused 16 Layer.Heap (word c) (first c) 0, m)
      wants_full need zs k is long exceeds things x =
          let used = total (size v.memory.figures.places m) things in
          let l = limits v a in
          past_door things x ∙ ap (settle l m used c) (work_long l work c inner long ∙ is) ∙ settle_full l m used c need zs k (exceeds things x)

      -- A call that gives its answer without cells.
      pub gives_fit : (zs : List ℤ) (t : Text) (k : Model) → inner ≡ give zs t k → v.memory.figures.cells ≤ work →
          (things : List Thing) → Exactly m things → outcome_with (limits v a) m things work c ≡ (ok zs t, k)
      gives_fit zs t k is long things x =
          let used = total (size v.memory.figures.places m) things in
          let l = limits v a in
          past_door things x ∙ ap (settle l m used c) (work_long l work c inner long ∙ is)

      -- The work list is too short.
      pub list_short : Unrefused inner → work < v.memory.figures.cells →
          (things : List Thing) → Exactly m things → outcome_with (limits v a) m things work c ≡ (refused 15 Layer.Workspace (word c) (first c) 0, m)
      list_short some short things x =
          let used = total (size v.memory.figures.places m) things in
          let l = limits v a in
          past_door things x ∙ ap (settle l m used c) (short_work l work c inner some short)

-- An answer, with the model after it shown.
pub by_answer_with : (v w : View) (work : ℕ) (c : Call) (x : Answer) (b n : ℕ) → v.state ≡ Opened b n →
    ((m : Model) (a : Arena) → Shown m a v → (k : Model) × ((things : List Thing) → Exactly m things → outcome_with (limits v a) m things work c ≡ (x, k)) ×
    ((d : Arena) × After v.memory.figures m a c x d × Shown k d w × (w.memory.figures ≡ v.memory.figures))) →
    ExactWith v work c x w
by_answer_with v w work c x b n is opened =
    record {
      shut = λ e. not_shut v.state b n is e;
      by_rules = λ m a s. let t = things_of s in let q = opened m a s in
          record {
            outcome = (x, q.0);
            step = record { things = t.0; exactly = t.1; result = q.1 t.0 t.1 };
            answer = refl;
            arena = q.2.0;
            after = q.2.1;
            shown = q.2.2;
            figures = q.2.3;
          };
    }
