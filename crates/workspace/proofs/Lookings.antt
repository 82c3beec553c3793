-- What kind and read answer.
use Rattle.std.proofs.Common.{◌≡◌, ℕ, ◌<◌, ◌≤◌, cond, leb, List, [], ◌∷◌, ◌++◌, length, take, drop, ℤ, pos, Some, None, Ok, Err, Option, Result, sym, refl, ap, ◌∙◌, subst, ⊎_elim, arith}
use Rattle.std.specs.Prelude.{ok_or}
use Rattle.std.specs.List.{AllByRecursion}
use Rattle.std.proofs.lemmas.List.{take_at, drop_at}
use Rattle.std.proofs.lemmas.Bool.{cases_lt, le-leb, lt-leb, cond-true, cond-false}
use Rattle.cells.specs.Meaning.{Memory}
use Rattle.rules.specs.declared.Layer.{Layer}
use Rattle.rules.specs.declared.Word.{Word}
use Rattle.rules.specs.Model.{Text, string, Value, null, number, text, to, name, Model, register}
use Rattle.rules.specs.Arena.{Arena, At, Shows}
use Rattle.rules.specs.Calls.{Call, Answer, ok, no, Act, give, refuse, registers_then, text_then, unfit, kind_of}
use Rattle.arena.specs.declared.faults.HeapFault.{HeapFault}
use Rattle.arena.specs.declared.values.Held.{Held}
use Rattle.arena.specs.declared.values.Held.TheVariants as is
use Rattle.arena.specs.Texts.{ReadOut}
use Rattle.arena.specs.Values.{held, Means}
use Rattle.workspace.specs.declared.faults.Cause.TheVariants.{ShortBuffer}
use Rattle.workspace.specs.declared.faults.Raised.{Raised}
use Rattle.workspace.specs.declared.faults.WorkspaceFault.{WorkspaceFault}
use Rattle.workspace.specs.State.{Opened}
use Rattle.workspace.specs.Reports.{raised, report}
use Rattle.workspace.specs.Shown.{View, Shown, holding, Exact, answered, count, pair, written, Left, Leaves}
use Rattle.workspace.proofs.Steps.{not_shut, by_giving, by_refusing}
use Rattle.workspace.proofs.Raises.{raised_ok, raised_never, none_not_some}
use Rattle.workspace.proofs.Holdings.{register_means, text_in}

-- An open workspace.
abbrev pub Open : View → Type 0
Open v = (b : ℕ) × (n : ℕ) × (v.state ≡ Opened b n)

-- Nothing is promised where an open workspace shows no model.
pub by_nothing : (v : View) (c : Call) (x : Answer) (w : View) → Open v → ((m : Model) (a : Arena) → Shown m a v → ⊥) → Exact v c x w
by_nothing v c x w is none = record { shut = λ e. not_shut v.state is.0 is.1 is.2 e; by_rules = λ m a s. absurd (none m a s) }

-- The pair that kind answers.
pub kind_gives : (v : View) (r t : ℕ) (z : ℤ) → Open v × AllByRecursion (λ k. k ≤ 31) (r ∷ []) → ((m : Model) (a : Arena) → Shown m a v → kind_of m (register m r) ≡ pos t ∷ z ∷ []) →
    Exact v (Call.kind r) (ok (pair (t, z)) []) v
kind_gives v r t z admitted is =
    by_giving v v (Call.kind r) (r ∷ []) (pair (t, z)) [] admitted tt refl
    (λ m a s. (m, (λ l u h. ap (λ (zs : List ℤ). registers_then (r ∷ []) (give zs [] m)) (is m a s)), s))

pub kind_is : (m : Model) (r : ℕ) (x : Value) (t : ℕ) (y z : ℤ) → register m r ≡ x → kind_of m x ≡ pos t ∷ y ∷ [] → z ≡ y → kind_of m (register m r) ≡ pos t ∷ z ∷ []
kind_is m r x t y z e k f = ap (kind_of m) e ∙ k ∙ ap (λ (n : ℤ). pos t ∷ n ∷ []) (sym f)

-- The same with a count, which the code has as a wide number.
pub kind_counts : (m : Model) (r : ℕ) (x : Value) (t n k : ℕ) (y z : ℤ) → register m r ≡ x → kind_of m x ≡ pos t ∷ pos k ∷ [] → n ≡ k → y ≡ pos n → z ≡ y →
    kind_of m (register m r) ≡ pos t ∷ z ∷ []
kind_counts m r x t n k y z e i c f g = kind_is m r x t (pos k) z e i (g ∙ f ∙ ap pos c)

-- What read comes to, past the text.
abbrev pub read_then : Model → ℕ → ℕ → Text → Act
read_then m r n t = cond (leb (length t) n) (give (pos (length t) ∷ []) t m) (refuse 14 Layer.Workspace r 0)

pub read_null : (m : Model) (r n : ℕ) → register m r ≡ null → text_then r (register m r) (read_then m r n) ≡ give (pos 0 ∷ []) [] m
read_null m r n e = ap (λ (x : Value). text_then r x (read_then m r n)) e ∙ cond-true (leb 0 n) _ _ (le-leb 0 n (omega arith))

unfit_unless : (m : Model) (a : Arena) (o : Memory) (r : ℕ) (x : Value) (h : Held) (inner : Text → Act) → Means m a o x h → (h ≡ is.Null → ⊥) → ((p : ℕ) → h ≡ is.Text p → ⊥) → text_then r x inner ≡ unfit r
unfit_unless m a o r null h inner w n t = absurd (n w)
unfit_unless m a o r (number z) h inner w n t = refl
unfit_unless m a o r (text s) h inner w n t = absurd (t w.0 w.1)
unfit_unless m a o r (to i k) h inner w n t = refl
unfit_unless m a o r (name x k) h inner w n t = refl

pub read_unfit : {m : Model} {a : Arena} {v : View} → Shown m a v → (r n : ℕ) → r ≤ 31 → (h : Held) → h ≡ held (holding v r) → (h ≡ is.Null → ⊥) → ((p : ℕ) → h ≡ is.Text p → ⊥) →
    text_then r (register m r) (read_then m r n) ≡ unfit r
read_unfit {m} {a} {v} s r n there h e no-null no_text =
    unfit_unless m a v.memory r (register m r) h (read_then m r n) (subst (λ (k : Held). Means m a v.memory (register m r) k) (sym e) (register_means s r there)) no-null no_text

read_short : (m : Model) (r n : ℕ) (t : Text) → register m r ≡ text t → n < length t → text_then r (register m r) (read_then m r n) ≡ refuse 14 Layer.Workspace r 0
read_short m r n t e l = ap (λ (x : Value). text_then r x (read_then m r n)) e ∙ cond-false (leb (length t) n) _ _ (lt-leb (length t) n l)

read_well : (m : Model) (r n : ℕ) (t : Text) (k : ℕ) (u : Text) → register m r ≡ text t → length t ≤ n → k ≡ length t → u ≡ t →
    text_then r (register m r) (read_then m r n) ≡ give (pos k ∷ []) u m
read_well m r n t k u e l f h =
    ap (λ (x : Value). text_then r x (read_then m r n)) e ∙ cond-true (leb (length t) n) _ _ (le-leb (length t) n l)
    ∙ ap (λ (j : ℕ). give (pos j ∷ []) t m) (sym f) ∙ ap (λ (x : Text). give (pos k ∷ []) x m) (sym h)

-- What reading a string out has given, by the answer that came up.
module _ (t : Text) (before after : List ℕ) (r : Result (Option ℕ) HeapFault) (w : Word) (k : ℕ) (out : ReadOut t before after r) where
  read_never : {C : Type 0} (x : Raised) → Err x ≡ raised r w k → C
  read_never x e =
      ⊎_elim (λ l. raised_never r w k x None e (out.short l).0) (λ l. raised_never r w k x (Some (length t)) e (out.fits l).0) (cases_lt (length before) (length t))

  read_some : (x : Option ℕ) (n : ℕ) → x ≡ Some n → Ok x ≡ raised r w k → (length t ≤ length before) × ((n ≡ length t) × (after ≡ t ++ drop (length t) before))
  read_some x n i e =
      ⊎_elim (λ l. let q = raised_ok r w k x None e (out.short l).0 in absurd (let z : ◌≡◌ {A = ℕ} 0 1 = cc in omega arith))
      (λ l. let q = raised_ok r w k x (Some (length t)) e (out.fits l).0 in let p : n ≡ length t = cc in (l, (p, (out.fits l).1))) (cases_lt (length before) (length t))

  read_none : (x : Option ℕ) → ((n : ℕ) → x ≡ Some n → ⊥) → Ok x ≡ raised r w k → (length before < length t) × (after ≡ before)
  read_none x none e =
      ⊎_elim (λ l. (l, (out.short l).1)) (λ l. absurd (none (length t) (raised_ok r w k x (Some (length t)) e (out.fits l).0))) (cases_lt (length before) (length t))

-- The text at the start of the buffer, and what is past it.
front_is : (t : Text) (before after : List ℕ) (n : ℕ) → n ≡ length t → after ≡ t ++ drop (length t) before → take n after ≡ t
front_is t before after n e f = ap (take n) f ∙ take_at t (drop (length t) before) n (sym e)

past_is : (t : Text) (before after : List ℕ) (n : ℕ) → n ≡ length t → after ≡ t ++ drop (length t) before → drop n after ≡ drop n before
past_is t before after n e f = ap (drop n) f ∙ drop_at t (drop (length t) before) n (sym e) ∙ ap (λ (k : ℕ). drop k before) (sym e)

-- A refusal of read: its answer is that of any call, and the buffer is as it was.
pub written_refused : {T : Type 0} (v : View) (c : Call) (f : T → List ℤ) (r : Result T WorkspaceFault) (s : Result ℕ WorkspaceFault) (buffer : List ℕ) (e : WorkspaceFault) → r ≡ Err e → s ≡ Err e →
    Exact v c (answered f r) v → Exact v c (written s buffer) v
written_refused v c f r s buffer e p q x =
    subst (λ (y : Answer). Exact v c y v) (ap (answered f) p ∙ sym (ap (λ (y : Result ℕ WorkspaceFault). written y buffer) q)) x

pub refused_leaves : (v : View) (r : Result ℕ WorkspaceFault) (e : WorkspaceFault) (buffer : List ℕ) → r ≡ Err e → Leaves v r buffer buffer
refused_leaves v r e buffer p = record { shut = λ z. left; by_rules = λ m a s. left }
  where
    left : Left r buffer buffer
    left = subst (λ (y : Result ℕ WorkspaceFault). Left y buffer buffer) (sym p) refl

-- An open workspace leaves the buffer so if every model that it shows says so.
pub opened_leaves : (v : View) (r : Result ℕ WorkspaceFault) (before after : List ℕ) → Open v → ((m : Model) (a : Arena) → Shown m a v → Left r before after) → Leaves v r before after
opened_leaves v r before after is left = record { shut = λ e. not_shut v.state is.0 is.1 is.2 e; by_rules = left }

-- Reading out the string that register r holds.
module _ (v : View) (r title : ℕ) (before after : List ℕ) (res : Result (Option ℕ) HeapFault) (w : Word) (k : ℕ) (admitted : Open v × AllByRecursion (λ j. j ≤ 31) (r ∷ []))
    (holds : is.Text title ≡ held (holding v r))
    (outs : (m : Model) (a : Arena) (t : Text) → Shows m a v.memory → At m a v.memory (string t) title → ReadOut t before after res) where
  out_of : {m : Model} {a : Arena} → Shown m a v → (t : Text) × (register m r ≡ text t) × ReadOut t before after res
  out_of {m} {a} s = let q = text_in s r admitted.1.0 title holds in (q.0, q.1, outs m a q.0 s.shows q.2)

  abbrev pub short : WorkspaceFault
  short = record { cause = ShortBuffer; call = Word.Read; register = r }

  -- The heap's faults do not come where a model is shown.
  pub exact_never : (x : Raised) (y : Answer) → Err x ≡ raised res w k → Exact v (Call.read r (length before)) y v
  exact_never x y e =
      by_nothing v (Call.read r (length before)) y v admitted.0 (λ m a s. let q = out_of s in read_never q.0 before after res w k q.2 x e)

  pub leaves_never : (x : Raised) (y : Result ℕ WorkspaceFault) → Err x ≡ raised res w k → Leaves v y before after
  leaves_never x y e = opened_leaves v y before after admitted.0 (λ m a s. let q = out_of s in read_never q.0 before after res w k q.2 x e)

  -- The buffer is too short.
  module _ (x : Option ℕ) (none : (n : ℕ) → x ≡ Some n → ⊥) (e : Ok x ≡ raised res w k) where
    pub exact_none : Exact v (Call.read r (length before)) (no (report (record { cause = ShortBuffer; call = Word.Read; register = r }))) v
    exact_none =
        by_refusing v (Call.read r (length before)) (r ∷ []) count (Err (record { cause = ShortBuffer; call = Word.Read; register = r })) (record { cause = ShortBuffer; call = Word.Read; register = r }) admitted refl tt refl
        (λ m a s l u h. let q = out_of s in ap (registers_then (r ∷ [])) (read_short m r (length before) q.0 q.1 (read_none q.0 before after res w k q.2 x none e).0))

    pub leaves_none : (f : WorkspaceFault) → Leaves v (Err f) before after
    leaves_none f = opened_leaves v (Err f) before after admitted.0 (λ m a s. let q = out_of s in (read_none q.0 before after res w k q.2 x none e).1)

  -- The characters are in the buffer.
  module _ (x : Option ℕ) (n : ℕ) (some : x ≡ Some n) (e : Ok x ≡ raised res w k) where
    pub exact_some : Exact v (Call.read r (length before)) (ok (pos n ∷ []) (take n after)) v
    exact_some =
        by_giving v v (Call.read r (length before)) (r ∷ []) (pos n ∷ []) (take n after) admitted tt refl
        (λ m a s. let q = out_of s in let f = read_some q.0 before after res w k q.2 x n some e in
        (m, (λ l u h. ap (registers_then (r ∷ [])) (read_well m r (length before) q.0 n (take n after) q.1 f.0 f.1.0 (front_is q.0 before after n f.1.0 f.1.1))), s))

    pub leaves_some : Leaves v (Ok n) before after
    leaves_some =
        opened_leaves v (Ok n) before after admitted.0
        (λ m a s. let q = out_of s in let f = read_some q.0 before after res w k q.2 x n some e in past_is q.0 before after n f.1.0 f.1.1)

  -- Either, by the heap's answer.
  pub exact_read : (x : Option ℕ) (e : Ok x ≡ raised res w k) → Exact v (Call.read r (length before)) (written (ok_or x short) after) v
  exact_read None e = exact_none None (λ n p. none_not_some refl p) e
  exact_read (Some n) e = exact_some (Some n) n refl e

  pub leaves_read : (x : Option ℕ) (e : Ok x ≡ raised res w k) → Leaves v (ok_or x short) before after
  leaves_read None e = leaves_none None (λ n p. none_not_some refl p) e short
  leaves_read (Some n) e = leaves_some (Some n) n refl e
