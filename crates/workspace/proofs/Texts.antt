-- The call text, by what its checks answer.
use Rattle.std.proofs.Common.{◌≡◌, ℕ, suc, ◌+◌, ◌<◌, ◌≤◌, Bool, cond, leb, ◌≢◌, List, [], ◌∷◌, length, set, Ok, Err, Result, sym, refl, ap, ◌∙◌, subst, inl, inr, arith}
use Rattle.std.specs.List.{AllByRecursion}
use Rattle.std.proofs.lemmas.Bool.{cases_Bool, cond-true, cond-false, leb-true}
use Rattle.cells.specs.declared.Descriptor.{Descriptor}
use Rattle.cells.specs.declared.StoreFault.TheVariants.{BadCode}
use Rattle.cells.specs.Meaning.{Figures}
use Rattle.rules.specs.declared.Layer.{Layer}
use Rattle.rules.specs.declared.Word.{Word}
use Rattle.rules.specs.Lists.{total}
use Rattle.rules.specs.Model.{Text, Thing, string, Value, Model, size, has, string_cells}
use Rattle.rules.specs.Arena.{Arena, Codes, null_desc, as_null}
use Rattle.rules.specs.Calls.{Call, ok, Act, refuse, want, act, registers_then, takes, characters_then, enter, put, settle, work_then, outcome_with}
use Rattle.rules.proofs.Acts.{registers_fine}
use Rattle.rules.proofs.Room.{settle_fits, settle_full, work_long, room_present, room_absent}
use Rattle.arena.specs.Faults.{heap_number, heap_then}
use Rattle.arena.specs.Growth.{arena_with_text}
use Rattle.arena.specs.Texts.{first_refused, fit_text}
use Rattle.arena.specs.declared.faults.HeapFault.{HeapFault}
use Rattle.arena.specs.declared.faults.HeapFault.TheVariants.{Cells, LongText}
use Rattle.arena.proofs.Outcomes.{ok_not_err}
use Rattle.workspace.specs.declared.faults.Cause.TheVariants.{ShortWork}
use Rattle.workspace.specs.declared.faults.Raised.{Raised}
use Rattle.workspace.specs.declared.faults.WorkspaceFault.{WorkspaceFault}
use Rattle.workspace.specs.State.{Opened}
use Rattle.workspace.specs.Reports.{raised, told}
use Rattle.workspace.specs.Shown.{View, Shown, limits, ExactWith, answered, nothing}
use Rattle.workspace.specs.Shown as after
use Rattle.workspace.specs.Rooms.{Enters}
use Rattle.workspace.proofs.Steps.{not_shut, reach_in, put_shown}
use Rattle.workspace.proofs.Raises.{raised_since}
use Rattle.workspace.proofs.Wants.{Unrefused, short_work, by_refusal_with, by_refusing_with, by_answer_with}
use Rattle.workspace.proofs.Fulls.{fault_of, by_full_with}

-- The rules' checks of a text are the heap's.
characters_are : (f : Figures) (r p : ℕ) (t : Text) (a : Act) → characters_then f r p t a ≡ heap_then (first_refused f p t) r a
characters_are f r p [] a = refl
characters_are f r p (x ∷ xs) a = elim (cases_Bool (takes f x)) [
  | inl h ↦
      cond-true (takes f x) (characters_then f r (suc p) xs a) (refuse 4 Layer.Store r p) h ∙ characters_are f r (suc p) xs a
      ∙ ap (λ (q : Result (Unit {0}) HeapFault). heap_then q r a) (sym (cond-true (takes f x) (first_refused f (suc p) xs) (Err (Cells BadCode p)) h))
  | inr h ↦
      cond-false (takes f x) (characters_then f r (suc p) xs a) (refuse 4 Layer.Store r p) h
      ∙ ap (λ (q : Result (Unit {0}) HeapFault). heap_then q r a) (sym (cond-false (takes f x) (first_refused f (suc p) xs) (Err (Cells BadCode p)) h))
]

checks_are : (f : Figures) (r : ℕ) (t : Text) (a : Act) → cond (leb (length t) 1024) (characters_then f r 0 t a) (refuse 12 Layer.Heap r 0) ≡ heap_then (fit_text f t) r a
checks_are f r t a = elim (cases_Bool (leb (length t) 1024)) [
  | inl h ↦
      cond-true (leb (length t) 1024) (characters_then f r 0 t a) (refuse 12 Layer.Heap r 0) h ∙ characters_are f r 0 t a
      ∙ ap (λ (q : Result (Unit {0}) HeapFault). heap_then q r a) (sym (cond-true (leb (length t) 1024) (first_refused f 0 t) (Err LongText) h))
  | inr h ↦
      cond-false (leb (length t) 1024) (characters_then f r 0 t a) (refuse 12 Layer.Heap r 0) h
      ∙ ap (λ (q : Result (Unit {0}) HeapFault). heap_then q r a) (sym (cond-false (leb (length t) 1024) (first_refused f 0 t) (Err LongText) h))
]

err_same : (x y : HeapFault) → ◌≡◌ {A = Result (Unit {0}) HeapFault} (Err x) (Err y) → x ≡ y
err_same x y e = cc

first_number : (f : Figures) (p : ℕ) (t : Text) (h : HeapFault) → first_refused f p t ≡ Err h → heap_number h ≢ 16
first_number f p [] h e = ok_not_err {a = tt} refl e
first_number f p (x ∷ xs) h e = elim (cases_Bool (takes f x)) [
  | inl k ↦ first_number f (suc p) xs h (sym (cond-true (takes f x) (first_refused f (suc p) xs) (Err (Cells BadCode p)) k) ∙ e)
  | inr k ↦ λ z. let q : 4 ≡ heap_number h = ap heap_number (err_same (Cells BadCode p) h (sym (cond-false (takes f x) (first_refused f (suc p) xs) (Err (Cells BadCode p)) k) ∙ e)) in omega (arith, z, q)
]

-- They never refuse for want of room.
fit_number : (f : Figures) (t : Text) (h : HeapFault) → fit_text f t ≡ Err h → heap_number h ≢ 16
fit_number f t h e = elim (cases_Bool (leb (length t) 1024)) [
  | inl k ↦ first_number f 0 t h (sym (cond-true (leb (length t) 1024) (first_refused f 0 t) (Err LongText) k) ∙ e)
  | inr k ↦ λ z. let q : 12 ≡ heap_number h = ap heap_number (err_same LongText h (sym (cond-false (leb (length t) 1024) (first_refused f 0 t) (Err LongText) k) ∙ e)) in omega (arith, z, q)
]

pub fit_few : (f : Figures) (t : Text) → fit_text f t ≡ Ok tt → length t ≤ 1024
fit_few f t e = elim (cases_Bool (leb (length t) 1024)) [
  | inl k ↦ leb-true (length t) 1024 k
  | inr k ↦ ok_not_err {a = tt} e (cond-false (leb (length t) 1024) (first_refused f 0 t) (Err LongText) k)
]

enter_some : (m : Model) (r need : ℕ) (t : Text) → 1 ≤ length t → enter m r need t ≡ want need [] (put m r (Value.text t))
enter_some m r need [] h = absurd (omega arith)
enter_some m r need (x ∷ xs) h = refl

enter_plain : (m : Model) (r need : ℕ) (t : Text) → Unrefused (enter m r need t)
enter_plain m r need [] = tt
enter_plain m r need (x ∷ xs) = tt

module _ (v : View) (work r : ℕ) (t : Text) (admitted : ((b : ℕ) × (k : ℕ) × (v.state ≡ Opened b k)) × AllByRecursion (λ x. x ≤ 31) (r ∷ [])) where
  abbrev cells_for : ℕ
  cells_for = string_cells v.memory.figures.places (length t)

  abbrev entering : Model → (Thing → Bool) → Act
  entering m reached = enter m r (cond (reached (string t)) 0 cells_for) t

  abbrev used : Model → List Thing → ℕ
  used m things = total (size v.memory.figures.places m) things

  text_act : (m : Model) (a : Arena) (u : ℕ) (reached : Thing → Bool) (f : Result (Unit {0}) HeapFault) → fit_text v.memory.figures t ≡ f →
      act (limits v a) m u reached (Call.text r t) ≡ registers_then (r ∷ []) (heap_then f r (entering m reached))
  text_act m a u reached f is =
      ap (registers_then (r ∷ [])) (checks_are v.memory.figures r t (entering m reached)
      ∙ ap (λ (q : Result (Unit {0}) HeapFault). heap_then q r (entering m reached)) is)

  -- The check of the heap refuses.
  pub text_unfit : (f : Result (Unit {0}) HeapFault) (x : Raised) (q : Result (Unit {0}) WorkspaceFault) → f ≡ fit_text v.memory.figures t → Err x ≡ raised f Word.Text r → q ≡ Err (told x) →
      ExactWith v work (Call.text r t) (answered nothing q) v
  text_unfit f x q is e told_is =
      let h = raised_since f Word.Text r x e in
      by_refusing_with v work (Call.text r t) (r ∷ []) admitted nothing q (fault_of (Call.text r t) h.0) (told_is ∙ ap (λ (y : Raised). Err (told y)) h.2)
      (fit_number v.memory.figures t h.0 (sym is ∙ h.1)) refl (λ m a s u reached. text_act m a u reached (Err h.0) (sym is ∙ h.1))

  module _ (fit : fit_text v.memory.figures t ≡ Ok tt) where
    enters_act : (m : Model) (a : Arena) (u : ℕ) (reached : Thing → Bool) → act (limits v a) m u reached (Call.text r t) ≡ entering m reached
    enters_act m a u reached = text_act m a u reached (Ok tt) fit ∙ registers_fine (r ∷ []) (entering m reached) admitted.1

    comes : (m : Model) (a : Arena) (things : List Thing) →
        outcome_with (limits v a) m things work (Call.text r t) ≡ settle (limits v a) m (used m things) (Call.text r t) (work_then (limits v a) work (Call.text r t) (entering m (has things)))
    comes m a things =
        ap (λ (b : Act). settle (limits v a) m (used m things) (Call.text r t) (work_then (limits v a) work (Call.text r t) b)) (enters_act m a (used m things) (has things))

    -- The work list is too short.
    pub text_short : (e : WorkspaceFault) (q : Result (Unit {0}) WorkspaceFault) → work < v.memory.figures.cells → e ≡ record { cause = ShortWork; call = Word.Text; register = r } → q ≡ Err e →
        ExactWith v work (Call.text r t) (answered nothing q) v
    text_short e q short e-is is =
        by_refusal_with v work (Call.text r t) nothing q (record { cause = ShortWork; call = Word.Text; register = r }) (is ∙ ap Err e-is) (λ (z : 15 ≡ 16). omega (arith, z))
        (λ z. not_shut v.state admitted.0.0 admitted.0.1 admitted.0.2 z)
        (λ m a s things x. comes m a things ∙ ap (settle (limits v a) m (used m things) (Call.text r t))
        (short_work (limits v a) work (Call.text r t) (entering m (has things)) (enter_plain m r (cond (has things (string t)) 0 cells_for) t) short))

    module _ (long : v.memory.figures.cells ≤ work) where
      pub enters_long : (m : Model) (a : Arena) (things : List Thing) →
          outcome_with (limits v a) m things work (Call.text r t) ≡ settle (limits v a) m (used m things) (Call.text r t) (entering m (has things))
      enters_long m a things =
          comes m a things ∙ ap (settle (limits v a) m (used m things) (Call.text r t)) (work_long (limits v a) work (Call.text r t) (entering m (has things)) long)

      module _ (some : 1 ≤ length t) where
        wants : (m : Model) (a : Arena) (things : List Thing) → outcome_with (limits v a) m things work (Call.text r t) ≡
            settle (limits v a) m (used m things) (Call.text r t) (want (cond (has things (string t)) 0 cells_for) [] (put m r (Value.text t)))
        wants m a things =
            enters_long m a things ∙ ap (settle (limits v a) m (used m things) (Call.text r t)) (enter_some m r (cond (has things (string t)) 0 cells_for) t some)

        -- There is no room.
        pub text_full : (w : View) (x : HeapFault) (q : Result (Unit {0}) WorkspaceFault) → q ≡ Err (fault_of (Call.text r t) x) →
            ((m : Model) (a : Arena) → Shown m a v → Enters m a v r t w (Err x)) → ExactWith v work (Call.text r t) (answered nothing q) w
        text_full w x q is gives =
            by_full_with v w work (Call.text r t) cells_for nothing q x admitted.0.0 admitted.0.1 admitted.0.2 is (λ m a s. (gives m a s).1)
            (λ m a s exceeds things y. wants m a things
            ∙ settle_full (limits v a) m (used m things) (Call.text r t) (cond (has things (string t)) 0 cells_for) [] (put m r (Value.text t))
            (subst (λ (k : ℕ). v.memory.figures.cells < a.bins + used m things + k)
            (sym (room_absent v.memory.figures.places m things a.order y (reach_in s) t (gives m a s).0)) (exceeds things y)))

        -- The string is there, or was added.
        pub text_entered : (w : View) → ((m : Model) (a : Arena) → Shown m a v → Enters m a v r t w (Ok tt)) → ExactWith v work (Call.text r t) (ok [] []) w
        text_entered w gives =
            by_answer_with v w work (Call.text r t) (ok [] []) admitted.0.0 admitted.0.1 admitted.0.2
            (λ m a s. elim (gives m a s) [
              | inl f ↦ (
                put m r (Value.text t),
                (λ things y. wants m a things
                    ∙ settle_fits (limits v a) m (used m things) (Call.text r t) (cond (has things (string t)) 0 cells_for) [] (put m r (Value.text t))
                    (omega (arith, room_present v.memory.figures.places m things a.order y (reach_in s) t f.there, s.shows.laid.end, s.shows.laid.within))),
                (a, after.present f.there, f.shown, f.figures),
              )
              | inr h ↦ (
                put m r (Value.text t),
                (λ things y. wants m a things
                    ∙ settle_fits (limits v a) m (used m things) (Call.text r t) (cond (has things (string t)) 0 cells_for) [] (put m r (Value.text t))
                    (subst (λ (k : ℕ). a.bins + used m things + k ≤ v.memory.figures.cells)
                    (sym (room_absent v.memory.figures.places m things a.order y (reach_in s) t h.0)) (h.1.fits things y))),
                (arena_with_text v.memory.figures.places h.1.arena t, after.entered h.0 h.1.roomed, h.1.shown, h.1.figures),
              )
            ])

-- No characters: the register is null.
pub text_empty : (v : View) (work r : ℕ) (t : Text) (d : Descriptor) (admitted : ((b : ℕ) × (k : ℕ) × (v.state ≡ Opened b k)) × AllByRecursion (λ x. x ≤ 31) (r ∷ [])) →
    fit_text v.memory.figures t ≡ Ok tt → v.memory.figures.cells ≤ work → length t ≡ 0 → d ≡ null_desc →
    ExactWith v work (Call.text r t) (ok [] []) (record { memory = v.memory; registers = set v.registers r d; state = v.state })
text_empty v work r (x ∷ xs) d admitted fit long none is = absurd (omega arith)
text_empty v work r [] d admitted fit long none is =
    by_answer_with v (record { memory = v.memory; registers = set v.registers r d; state = v.state }) work (Call.text r []) (ok [] []) admitted.0.0 admitted.0.1 admitted.0.2
    (λ m a s. (
      put m r Value.null,
      (λ things y. enters_long v work r [] admitted fit long m a things),
      (a, after.absent, put_shown m a v r Value.null d s (omega (arith, admitted.1.0)) tt (subst (λ (e : Descriptor). Codes m a v.memory Value.null e) (sym is) as_null), refl),
    ))
