-- The calls on fields, from what the heap answers.
use Rattle.std.proofs.Common.{◌≡◌, ℕ, ◌+◌, ◌<◌, ◌≤◌, true, false, cond, ◌&&◌, leb, ◌⊎◌, List, [], ◌∷◌, set, pos, Ok, Err, Result, sym, refl, ap, ◌∙◌, subst, inl, inr, arith}
use Rattle.std.specs.List.{AllByRecursion}
use Rattle.std.proofs.lemmas.Bool.{le-leb, lt-leb, cases_lt, and_from, and_left, and_right, cond-true, cond-false}
use Rattle.cells.specs.declared.Descriptor.{Descriptor}
use Rattle.cells.specs.Meaning.{Memory}
use Rattle.rules.specs.declared.Layer.{Layer}
use Rattle.rules.specs.declared.Word.{Word}
use Rattle.rules.specs.Model.{Thing, Value, Model, register, fields}
use Rattle.rules.specs.Arena.{desc, Arena, At, Codes, as_name, Proper, Shows}
use Rattle.rules.specs.Calls.{Call, fetch, store, Act, refuse, give, ok, registers_then, field_then, put, put_field}
use Rattle.arena.specs.declared.faults.HeapFault.{HeapFault}
use Rattle.arena.specs.declared.faults.HeapFault.TheVariants.{NoField}
use Rattle.arena.specs.Values.{held}
use Rattle.arena.specs.Stored.{Field, Stored}
use Rattle.workspace.specs.declared.faults.Raised.{Raised}
use Rattle.workspace.specs.declared.faults.WorkspaceFault.{WorkspaceFault}
use Rattle.workspace.specs.State.{Opened}
use Rattle.workspace.specs.Reports.{report, raised, told}
use Rattle.workspace.specs.Shown.{View, holding, Shown, Exact, answered, nothing}
use Rattle.workspace.specs.Taken.{wrong_kind}
use Rattle.workspace.proofs.Raises.{raised_ok, raised_never, raised_call, raised_err, raised_not}
use Rattle.workspace.proofs.Steps.{by_giving, by_storing, by_refusing, proper_in, put_shown}
use Rattle.workspace.proofs.Takings.{name_taken, thing_taken, name_fault, name_is, name_not, thing_fault, thing_is, thing_not}

-- The workspace is open, and the registers are there.
abbrev pub Admitted : View → List ℕ → Type 0
Admitted v rs = ((b : ℕ) × (n : ℕ) × (v.state ≡ Opened b n)) × AllByRecursion (λ r. r ≤ 31) rs

-- What `fetch_field` promises of a cell.
abbrev pub Fetches : View → ℕ → Result Descriptor HeapFault → Type 0
Fetches v cell f = (m : Model) (a : Arena) (x : Thing) (k : ℕ) → Field m a v.memory x k cell → (d : Descriptor) × (f ≡ Ok d) × Codes m a v.memory (m.field x k) d

module _ (v : View) (r s : ℕ) (admitted : Admitted v (r ∷ s ∷ [])) where
  -- The register s holds no name.
  pub fetch_unfit : (a : Result (Unit {0}) WorkspaceFault) (e : WorkspaceFault) → Err e ≡ name_taken Word.Fetch s (held (holding v s)) → a ≡ Err e →
      Exact v (fetch r s) (answered nothing a) v
  fetch_unfit a e unfit is =
      by_refusing v (fetch r s) (r ∷ s ∷ []) nothing a (wrong_kind Word.Fetch s) admitted (is ∙ ap Err (name_fault Word.Fetch s (held (holding v s)) e unfit)) tt refl
      (λ m b w l used reached. ap (registers_then (r ∷ s ∷ [])) (name_not w Word.Fetch s admitted.1.1.0 e unfit (λ x k. give [] [] (put m r (m.field x k)))))

  module _ (cell : ℕ) (fit : Ok cell ≡ name_taken Word.Fetch s (held (holding v s))) (f : Result Descriptor HeapFault) (fetches : Fetches v cell f) where
    -- The heap does not refuse a field.
    pub fetch_fails : (a : Result (Unit {0}) WorkspaceFault) (e : Raised) → Err e ≡ raised f Word.Fetch s → a ≡ Err (told e) → Exact v (fetch r s) (answered nothing a) v
    fetch_fails a e raise is =
        by_refusing v (fetch r s) (r ∷ s ∷ []) nothing a (told e) admitted is tt (sym (raised_call f Word.Fetch s e raise))
        (λ m b w l used reached. let q = name_is w Word.Fetch s admitted.1.1.0 cell fit in
        raised_never f Word.Fetch s e (fetches m b q.0 q.1.0 q.1.2).0 raise (fetches m b q.0 q.1.0 q.1.2).1)

    pub fetch_gives : (d : Descriptor) → Ok d ≡ raised f Word.Fetch s →
        Exact v (fetch r s) (ok [] []) (record { memory = v.memory; registers = set v.registers r d; state = v.state })
    fetch_gives d raise =
        by_giving v _ (fetch r s) (r ∷ s ∷ []) [] [] admitted tt refl
        (λ m b w. let q = name_is w Word.Fetch s admitted.1.1.0 cell fit in
        let x = q.0 in let k = q.1.0 in let t = fetches m b x k q.1.2 in (
          put m r (m.field x k),
          (λ l used reached. ap (λ (y : Value). registers_then (r ∷ s ∷ []) (field_then s y (λ x k. give [] [] (put m r (m.field x k))))) q.1.1),
          put_shown m b v r (m.field x k) d w (omega (arith, admitted.1.0)) (w.shows.lawful.good.held x k)
              (subst (λ (e : Descriptor). Codes m b v.memory (m.field x k) e) (sym (raised_ok f Word.Fetch s d t.0 raise t.1)) t.2),
        ))

-- What `store_field` promises of a cell and a descriptor.
abbrev pub Stores : View → ℕ → Descriptor → Result (Unit {0}) HeapFault → Memory → Type 0
Stores v cell d f o = (m : Model) (a : Arena) (x : Thing) (k : ℕ) (y : Value) → Field m a v.memory x k cell → Codes m a v.memory y d → Proper m y → (f ≡ Ok tt) × Stored m a v.memory x k y o

-- A field changes: the registers show what they showed.
pub store_shown : (m : Model) (a : Arena) (v : View) (o : Memory) (x : Thing) (k : ℕ) (y : Value) → Shown m a v → Stored m a v.memory x k y o →
    Shown (put_field m x k y) a (record { memory = o; registers = v.registers; state = v.state })
store_shown m a v o x k y w t =
    record {
      shows = t.shows;
      opened = w.opened;
      file = w.file;
      registers = λ j below. t.codes (register m j) (holding v j) (w.registers j below);
    }

module _ (v : View) (r s : ℕ) (admitted : Admitted v (r ∷ s ∷ [])) where
  -- The register r holds no name.
  pub store_unfit : (a : Result (Unit {0}) WorkspaceFault) (e : WorkspaceFault) → Err e ≡ name_taken Word.Store r (held (holding v r)) → a ≡ Err e →
      Exact v (store r s) (answered nothing a) v
  store_unfit a e unfit is =
      by_refusing v (store r s) (r ∷ s ∷ []) nothing a (wrong_kind Word.Store r) admitted (is ∙ ap Err (name_fault Word.Store r (held (holding v r)) e unfit)) tt refl
      (λ m b w l used reached. ap (registers_then (r ∷ s ∷ [])) (name_not w Word.Store r admitted.1.0 e unfit (λ x k. give [] [] (put_field m x k (register m s)))))

  module _ (cell : ℕ) (fit : Ok cell ≡ name_taken Word.Store r (held (holding v r))) (f : Result (Unit {0}) HeapFault) (o : Memory) (stores : Stores v cell (holding v s) f o) where
    put_in : (m : Model) (b : Arena) → Shown m b v → (x : Thing) (k : ℕ) → Field m b v.memory x k cell → (f ≡ Ok tt) × Stored m b v.memory x k (register m s) o
    put_in m b w x k q = stores m b x k (register m s) q (w.registers s (omega (arith, admitted.1.1.0))) (proper_in w s)

    -- The heap does not refuse a field.
    pub store_fails : (a : Result (Unit {0}) WorkspaceFault) (e : Raised) → Err e ≡ raised f Word.Store r → a ≡ Err (told e) → o ≡ v.memory →
        Exact v (store r s) (answered nothing a) (record { memory = o; registers = v.registers; state = v.state })
    store_fails a e raise is same =
        subst (λ (n : Memory). Exact v (store r s) (answered nothing a) (record { memory = n; registers = v.registers; state = v.state })) (sym same)
        (by_refusing v (store r s) (r ∷ s ∷ []) nothing a (told e) admitted is tt (sym (raised_call f Word.Store r e raise))
        (λ m b w l used reached. let q = name_is w Word.Store r admitted.1.0 cell fit in
        raised_never f Word.Store r e tt raise (put_in m b w q.0 q.1.0 q.1.2).0))

    pub store_gives : Exact v (store r s) (ok [] []) (record { memory = o; registers = v.registers; state = v.state })
    store_gives =
        by_storing v _ (store r s) (r ∷ s ∷ []) [] [] admitted tt
        (λ m b w. let q = name_is w Word.Store r admitted.1.0 cell fit in
        let x = q.0 in let k = q.1.0 in (
          put_field m x k (register m s),
          (λ l used reached. ap (λ (y : Value). registers_then (r ∷ s ∷ []) (field_then r y (λ x k. give [] [] (put_field m x k (register m s))))) q.1.1),
          store_shown m b v o x k (register m s) w (put_in m b w x k q.1.2).1,
          (put_in m b w x k q.1.2).1.figures,
        ))

-- What `name_of` promises of a title and a field.
pub record Names (v : View) (title k : ℕ) (f : Result Descriptor HeapFault) : Type 0 where
  pub there : (m : Model) (a : Arena) (x : Thing) → Shows m a v.memory → At m a v.memory x title → 1 ≤ k → k ≤ fields m x → f ≡ Ok (desc (pos (title + k)) 16 9)
  pub absent : (m : Model) (a : Arena) (x : Thing) → Shows m a v.memory → At m a v.memory x title → (k < 1) ⊎ (fields m x < k) → f ≡ Err (NoField k)

-- A field is there, or it is not.
field_cases : (k n : ℕ) → ((1 ≤ k) × (k ≤ n)) ⊎ ((k < 1) ⊎ (n < k))
field_cases k n = elim (cases_lt k 1) [
  | inl low ↦ inr (inl low)
  | inr some ↦ elim (cases_lt n k) [ inl high ↦ inr (inr high) | inr few ↦ inl (some, few) ]
]

field_true : (k n : ℕ) → 1 ≤ k → k ≤ n → (leb 1 k && leb k n) ≡ true
field_true k n some few = and_from (leb 1 k) (leb k n) (le-leb 1 k some) (le-leb k n few)

field_false : (k n : ℕ) → (k < 1) ⊎ (n < k) → (leb 1 k && leb k n) ≡ false
field_false k n (inl low) = and_left (leb 1 k) (leb k n) (lt-leb 1 k low)
field_false k n (inr high) = and_right (leb 1 k) (leb k n) (lt-leb k n high)

module _ (v : View) (r s k : ℕ) (admitted : Admitted v (r ∷ s ∷ [])) where
  -- What is left of the rules for a block or string.
  abbrev naming : Model → Thing → Act
  naming m x = cond (leb 1 k && leb k (fields m x)) (give [] [] (put m r (Value.name x k))) (refuse 10 Layer.Heap s k)

  -- The register s holds no block and no string.
  pub name_unfit : (a : Result (Unit {0}) WorkspaceFault) (e : WorkspaceFault) → Err e ≡ thing_taken Word.Name s (held (holding v s)) → a ≡ Err e →
      Exact v (Call.name r s k) (answered nothing a) v
  name_unfit a e unfit is =
      by_refusing v (Call.name r s k) (r ∷ s ∷ []) nothing a (wrong_kind Word.Name s) admitted (is ∙ ap Err (thing_fault Word.Name s (held (holding v s)) e unfit)) tt refl
      (λ m b w l used reached. ap (registers_then (r ∷ s ∷ [])) (thing_not w Word.Name s admitted.1.1.0 e unfit (naming m)))

  module _ (title : ℕ) (fit : Ok title ≡ thing_taken Word.Name s (held (holding v s))) (f : Result Descriptor HeapFault) (names : Names v title k f) where
    -- The field is not there.
    refuses : (m : Model) (b : Arena) (w : Shown m b v) (x : Thing) → At m b v.memory x title → (e : Raised) → Err e ≡ raised f Word.Name s →
        ((1 ≤ k) × (k ≤ fields m x)) ⊎ ((k < 1) ⊎ (fields m x < k)) →
        naming m x ≡ refuse (report (told e)).number (report (told e)).layer (report (told e)).register (report (told e)).place
    refuses m b w x l e raise (inl h) = raised_never f Word.Name s e _ raise (names.there m b x w.shows l h.0 h.1)
    refuses m b w x l e raise (inr h) =
        cond-false (leb 1 k && leb k (fields m x)) _ _ (field_false k (fields m x) h)
        ∙ ap (λ (y : Raised). refuse (report (told y)).number (report (told y)).layer (report (told y)).register (report (told y)).place)
        (sym (raised_err f Word.Name s e (NoField k) raise (names.absent m b x w.shows l h)))

    pub name_fails : (a : Result (Unit {0}) WorkspaceFault) (e : Raised) → Err e ≡ raised f Word.Name s → a ≡ Err (told e) → Exact v (Call.name r s k) (answered nothing a) v
    name_fails a e raise is =
        by_refusing v (Call.name r s k) (r ∷ s ∷ []) nothing a (told e) admitted is tt (sym (raised_call f Word.Name s e raise))
        (λ m b w l used reached. let q = thing_is w Word.Name s admitted.1.1.0 title fit in
        ap (registers_then (r ∷ s ∷ [])) (q.1.0 (naming m) ∙ refuses m b w q.0 q.1.1 e raise (field_cases k (fields m q.0))))

    gives : (m : Model) (b : Arena) (w : Shown m b v) (x : Thing) → At m b v.memory x title → (d : Descriptor) → Ok d ≡ raised f Word.Name s →
        ((1 ≤ k) × (k ≤ fields m x)) ⊎ ((k < 1) ⊎ (fields m x < k)) →
        (naming m x ≡ give [] [] (put m r (Value.name x k))) × Shown (put m r (Value.name x k)) b (record { memory = v.memory; registers = set v.registers r d; state = v.state })
    gives m b w x l d raise (inl h) = (
      cond-true (leb 1 k && leb k (fields m x)) _ _ (field_true k (fields m x) h.0 h.1),
      put_shown m b v r (Value.name x k) d w (omega (arith, admitted.1.0)) h
          (subst (λ (e : Descriptor). Codes m b v.memory (Value.name x k) e) (sym (raised_ok f Word.Name s d _ raise (names.there m b x w.shows l h.0 h.1))) (as_name l)),
    )
    gives m b w x l d raise (inr h) = raised_not f Word.Name s d (NoField k) raise (names.absent m b x w.shows l h)

    pub name_gives : (d : Descriptor) → Ok d ≡ raised f Word.Name s →
        Exact v (Call.name r s k) (ok [] []) (record { memory = v.memory; registers = set v.registers r d; state = v.state })
    name_gives d raise =
        by_giving v _ (Call.name r s k) (r ∷ s ∷ []) [] [] admitted tt refl
        (λ m b w. let q = thing_is w Word.Name s admitted.1.1.0 title fit in
        let t = gives m b w q.0 q.1.1 d raise (field_cases k (fields m q.0)) in
        (put m r (Value.name q.0 k), (λ l used reached. ap (registers_then (r ∷ s ∷ [])) (q.1.0 (naming m) ∙ t.0)), t.1))
