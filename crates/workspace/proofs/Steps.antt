-- How a call that needs no cells is shown to be exact: by its refusal, or by its answer and the model after it.
use Rattle.std.proofs.Common.{◌≡◌, ℕ, ◌<◌, ◌≤◌, Bool, ◌⊎◌, List, length, get_or, set, ℤ, pos, IsErrAnd, Err, Result, sym, refl, ap, ◌∙◌, subst, inl, inr, arith, length-set}
use Rattle.std.specs.List.{AllByRecursion}
use Rattle.std.proofs.lemmas.List.{get_or-set_same, get_or-set_other}
use Rattle.std.proofs.lemmas.Result.{err_from_is_err_and}
use Rattle.std.proofs.lemmas.Bool.{cases_eq}
use Rattle.cells.specs.declared.Descriptor.{Descriptor}
use Rattle.rules.specs.declared.Layer.{Layer}
use Rattle.rules.specs.declared.Word.{Word}
use Rattle.rules.specs.Lists.{In, total}
use Rattle.rules.specs.Model.{Text, Thing, Value, null, Model, register, size, has, Reach, Exactly}
use Rattle.rules.specs.Arena.{desc, Arena, Codes, Proper}
use Rattle.rules.specs.Calls.{Limits, Call, word, first, Answer, ok, no, Act, refuse, give, act, registers_then, refused, settle, outcome, put}
use Rattle.rules.specs.Opening.{closed}
use Rattle.rules.proofs.Acts.{registers_fine, registers_beyond}
use Rattle.rules.proofs.Reach.{closed_has}
use Rattle.rules.proofs.Finite.{exactly_some}
use Rattle.rules.proofs.Coded.{coded_in}
use Rattle.rules.proofs.Lies.{in_lies}
use Rattle.arena.proofs.Registers.{codes_put, shows_put}
use Rattle.workspace.specs.declared.faults.WorkspaceFault.{WorkspaceFault}
use Rattle.workspace.specs.State.{State}
use Rattle.workspace.specs.State.{Shut, Opened}
use Rattle.workspace.specs.Reports.{report}
use Rattle.workspace.specs.Shown.{View, Shown, limits, Needless, stays, Exact, answered, Admits}

-- An open workspace is not closed.
pub not_shut : {A : Type 0} (s : State) (b n : ℕ) → s ≡ Opened b n → s ≡ Shut → A
not_shut s b n p q = absurd (let z : ◌≡◌ {A = ℕ} 0 1 = cc in omega arith)

pub not_open : {A : Type 0} (s : State) (b n : ℕ) → s ≡ Shut → s ≡ Opened b n → A
not_open s b n p q = not_shut s b n q p

module _ {m : Model} {a : Arena} {v : View} (s : Shown m a v) where
  -- What can be reached lies in the arena.
  pub reach_in : (x : Thing) → Reach m x → In x a.order
  reach_in x r =
      closed_has (record {
        registers = λ y k l p. coded_in (size v.memory.figures.places m) (s.registers k (omega (arith, s.shows.lawful.good.count))) y p;
        strings = λ t k l u n. s.shows.lawful.valued t k l u n;
        follows = λ y z k i l u p. let q = in_lies (size v.memory.figures.places m) a.bins y a.order i in
            coded_in (size v.memory.figures.places m) (s.shows.laid.coded y q.0 k q.1 l u) z p;
      }) r

  pub things_of : (things : List Thing) × Exactly m things
  things_of = exactly_some m a.order reach_in

  -- The values in registers are proper.
  pub proper_in : (r : ℕ) → Proper m (register m r)
  proper_in r = s.shows.lawful.good.registers r

-- A refusal, with the workspace as it was.
pub by_refusal : {T : Type 0} (v : View) (c : Call) (f : T → List ℤ) (r : Result T WorkspaceFault) (e : WorkspaceFault) → r ≡ Err e → Needless c →
    (v.state ≡ Shut → no (report e) ≡ closed c) →
    ((m : Model) (a : Arena) → Shown m a v → (things : List Thing) → Exactly m things → outcome (limits v a) m things c ≡ (no (report e), m)) →
    Exact v c (answered f r) v
by_refusal {T} v c f r e is free shut opened =
    let P : Result T WorkspaceFault → Type 0 = λ x. Exact v c (answered f x) v in
    subst P (sym is) (record {
      shut = shut;
      by_rules = λ m a s. let t = things_of s in
          record {
            outcome = (no (report e), m);
            step = record { things = t.0; exactly = t.1; result = opened m a s t.0 t.1 };
            answer = refl;
            arena = a;
            after = stays free;
            shown = s;
            figures = refl;
          };
    })

-- An answer, with the model after it shown in the same arena.
pub by_answer : (v w : View) (c : Call) (x : Answer) (b n : ℕ) → v.state ≡ Opened b n → Needless c →
    ((m : Model) (a : Arena) → Shown m a v → (k : Model) × ((things : List Thing) → Exactly m things → outcome (limits v a) m things c ≡ (x, k)) × Shown k a w × (w.memory.figures ≡ v.memory.figures)) →
    Exact v c x w
by_answer v w c x b n is free opened =
    record {
      shut = λ e. not_shut v.state b n is e;
      by_rules = λ m a s. let t = things_of s in let q = opened m a s in
          record {
            outcome = (x, q.0);
            step = record { things = t.0; exactly = t.1; result = q.1 t.0 t.1 };
            answer = refl;
            arena = a;
            after = stays free;
            shown = q.2;
            figures = q.3;
          };
    }

-- What came through a `?` whose error stays as it was.
pub passed : {T E : Type 0} (r : Result T E) (e f : E) → IsErrAnd r (λ y. y ≡ e) → e ≡ f → r ≡ Err f
passed r e f h q = let p = err_from_is_err_and r h in p.1 ∙ ap Err (p.2 ∙ q)

-- A register changes: the others show what they showed.
pub put_shown : (m : Model) (a : Arena) (v : View) (r : ℕ) (x : Value) (d : Descriptor) → Shown m a v → r < 32 → Proper m x → Codes m a v.memory x d →
    Shown (put m r x) a (record { memory = v.memory; registers = set v.registers r d; state = v.state })
put_shown m a v r x d s there fit code =
    record {
      shows = shows_put m r x a v.memory s.shows fit;
      opened = s.opened;
      file = length-set v.registers r d ∙ s.file;
      registers = λ j below. codes_put m r x a v.memory _ _ (at j below (cases_eq j r));
    }
  where
    at : (j : ℕ) → j < 32 → (j ≡ r) ⊎ (j ≡ r → ⊥) → Codes m a v.memory (get_or (set m.registers r x) j null) (get_or (set v.registers r d) j (desc (pos 0) 0 0))
    at j below (inl e) =
        let n : r < length m.registers = omega (arith, s.shows.lawful.good.count) in
        let k : r < length v.registers = omega (arith, s.file) in
        subst (λ (q : ℕ). Codes m a v.memory (get_or (set m.registers r x) q null) (get_or (set v.registers r d) q (desc (pos 0) 0 0))) (sym e)
        (rw (get_or-set_same m.registers r x null n, get_or-set_same v.registers r d (desc (pos 0) 0 0) k) code)
    at j below (inr e) =
        rw (get_or-set_other m.registers r j x null e, get_or-set_other v.registers r j d (desc (pos 0) 0 0) e) (s.registers j below)

-- The first check refuses as the rules do: `inner` is what the call comes to where its registers are there.
pub at_door : {T : Type 0} (v : View) (c : Call) (rs : List ℕ) (f : T → List ℤ) (r : Result T WorkspaceFault) (e : WorkspaceFault) →
    Admits v.state (word c) rs (Err e) → r ≡ Err e → Needless c → first c ≡ get_or rs 0 0 →
    ((l : Limits) (m : Model) (used : ℕ) (reached : Thing → Bool) → (inner : Act) × (act l m used reached c ≡ registers_then rs inner)) →
    Exact v c (answered f r) v
at_door v c rs f r e (inl h) is free first_is inner =
    by_refusal v c f r e is free (λ z. ap (λ (x : WorkspaceFault). no (report x)) h.1 ∙ ap (λ (k : ℕ). refused 5 Layer.Workspace (word c) k 0) (sym first_is))
    (λ m a s t x. not_shut v.state a.bins a.«next» s.opened h.0)
at_door v c rs f r e (inr h) is free first_is inner =
    by_refusal v c f r e is free (λ z. not_shut v.state h.0.0 h.0.1 h.0.2 z)
    (λ m a s t x. let used = total (size v.memory.figures.places m) t in
    let k = inner (limits v a) m used (has t) in
    let q = h.1 in
    ap (settle (limits v a) m used c) (k.1 ∙ registers_beyond rs k.0 q.0 q.1 q.2 q.3)
    ∙ ap (λ (y : WorkspaceFault). (no (report y), m)) (sym q.4))

-- Past the door: the call answers, and the model after it is shown in the same arena.
pub by_storing : (v w : View) (c : Call) (rs : List ℕ) (zs : List ℤ) (t : Text) → ((b : ℕ) × (n : ℕ) × (v.state ≡ Opened b n)) × AllByRecursion (λ r. r ≤ 31) rs → Needless c →
    ((m : Model) (a : Arena) → Shown m a v →
    (k : Model) × ((l : Limits) (used : ℕ) (reached : Thing → Bool) → act l m used reached c ≡ registers_then rs (give zs t k)) × Shown k a w × (w.memory.figures ≡ v.memory.figures)) →
    Exact v c (ok zs t) w
by_storing v w c rs zs t admitted free gives =
    by_answer v w c (ok zs t) admitted.0.0 admitted.0.1 admitted.0.2 free
    (λ m a s. let q = gives m a s in (
      q.0,
      (λ things x. let used = total (size v.memory.figures.places m) things in
          ap (settle (limits v a) m used c) (q.1 (limits v a) used (has things) ∙ registers_fine rs (give zs t q.0) admitted.1)),
      q.2,
      q.3,
    ))

-- The same for a call that writes no cell.
pub by_giving : (v w : View) (c : Call) (rs : List ℕ) (zs : List ℤ) (t : Text) → ((b : ℕ) × (n : ℕ) × (v.state ≡ Opened b n)) × AllByRecursion (λ r. r ≤ 31) rs → Needless c →
    w.memory.figures ≡ v.memory.figures →
    ((m : Model) (a : Arena) → Shown m a v →
    (k : Model) × ((l : Limits) (used : ℕ) (reached : Thing → Bool) → act l m used reached c ≡ registers_then rs (give zs t k)) × Shown k a w) →
    Exact v c (ok zs t) w
by_giving v w c rs zs t admitted free same gives = by_storing v w c rs zs t admitted free (λ m a s. let q = gives m a s in (q.0, q.1, q.2, same))

-- Past the door: the call refuses, and nothing has changed.
pub by_refusing : {T : Type 0} (v : View) (c : Call) (rs : List ℕ) (f : T → List ℤ) (r : Result T WorkspaceFault) (e : WorkspaceFault) →
    ((b : ℕ) × (n : ℕ) × (v.state ≡ Opened b n)) × AllByRecursion (λ x. x ≤ 31) rs → r ≡ Err e → Needless c → word c ≡ e.call →
    ((m : Model) (a : Arena) → Shown m a v → (l : Limits) (used : ℕ) (reached : Thing → Bool) →
    act l m used reached c ≡ registers_then rs (refuse (report e).number (report e).layer (report e).register (report e).place)) →
    Exact v c (answered f r) v
by_refusing v c rs f r e admitted is free same refuses =
    by_refusal v c f r e is free (λ z. not_shut v.state admitted.0.0 admitted.0.1 admitted.0.2 z)
    (λ m a s things x. let used = total (size v.memory.figures.places m) things in
    ap (settle (limits v a) m used c) (refuses m a s (limits v a) used (has things) ∙ registers_fine rs (refuse (report e).number (report e).layer (report e).register (report e).place) admitted.1)
    ∙ ap (λ (w : Word). (refused (report e).number (report e).layer w (report e).register (report e).place, m)) same)
