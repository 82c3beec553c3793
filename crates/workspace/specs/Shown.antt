-- When a workspace shows a model, and what a call that is exact gives.
use Rattle.std.specs.Int.{from_bool}
use Rattle.std.specs.Prelude.{◌≡◌, ℕ, ◌+◌, ◌<◌, ◌≤◌, ◌≢◌, ◌⊎◌, List, [], ◌∷◌, length, take, drop, ℤ, pos, Ok, Err, Result, slice_index, slice_index_or, Bool}
use Rattle.cells.specs.declared.Descriptor.{Descriptor}
use Rattle.cells.specs.Meaning.{Figures, Memory}
use Rattle.rules.specs.Lists.{In, Keeps}
use Rattle.rules.specs.Model.{Text, Thing, string, Model, register, Reach, Exactly, string_cells}
use Rattle.rules.specs.Calls.{Limits, Call, make, text, collect, Refusal, Answer, ok, no, Outcome, outcome_with, Step}
use Rattle.rules.specs.Opening.{closed}
use Rattle.rules.specs.Arena.{Arena, Codes, Shows, desc}
use Rattle.arena.specs.Growth.{arena_with_block, arena_with_text}
use Rattle.std.specs.List.{AllByRecursion}
use Rattle.rules.specs.declared.Layer.{Layer}
use Rattle.rules.specs.declared.Word.{Word}
use Rattle.workspace.specs.declared.faults.Cause.TheVariants.{Closed, NoRegister}
use Rattle.workspace.specs.declared.faults.WorkspaceFault.{WorkspaceFault}
use Rattle.workspace.specs.State.{State}
use Rattle.workspace.specs.State.{Shut, Opened}
use Rattle.workspace.specs.declared.space.Workspace.{Workspace}
use Rattle.workspace.specs.Reports.{report}

-- What counts of a workspace: the meaning of its store, its registers, and whether it is open.
pub record View : Type 0 where
  pub memory : Memory
  pub registers : List Descriptor
  pub state : State

abbrev pub view : {S : Type 0} → (S → Memory) → Workspace S → View
view means w = record { memory = means w.cells; registers = w.registers; state = w.state }

-- A register's descriptor.
abbrev pub holding : View → ℕ → Descriptor
holding v r = slice_index_or v.registers r (desc (pos 0) 0 0)

-- An open workspace shows a model in an arena: its store does, and each register codes the model's value.
pub record Shown (m : Model) (a : Arena) (v : View) : Type 0 where
  pub shows : Shows m a v.memory
  pub opened : v.state ≡ Opened a.bins a.«next»
  pub file : length v.registers ≡ 32
  pub registers : (r : ℕ) → r < 32 → Codes m a v.memory (register m r) (holding v r)

-- What the model knows of the workspace.
abbrev pub limits : View → Arena → Limits
limits v a = record { store = v.memory.figures; bins = a.bins }

-- Regeneration keeps exactly the reachable things, in their order, and of each chain the reachable strings.
pub record Renewed (m : Model) (a b : Arena) : Type 0 where
  pub same_bins : b.bins ≡ a.bins
  pub order : Keeps (Reach m) a.order b.order
  pub exactly : Exactly m b.order
  pub chains : (i : ℕ) → i < a.bins → Keeps (λ (x : Text). Reach m (string x)) (a.chain i) (b.chain i)

-- Room for `need` more cells: the arena is regenerated exactly if the cells from next on are too few.
pub data Roomed (f : Figures) (m : Model) (a : Arena) (need : ℕ) : Arena → Type 0 where
  enough : a.«next» + need ≤ f.cells → Roomed f m a need a
  remade : {b : Arena} → f.cells < a.«next» + need → Renewed m a b → Roomed f m a need b

-- The calls that need no cells.
abbrev pub Needless : Call → Type 0
Needless (make r n t) = ⊥
Needless (text r t) = ⊥
Needless (collect n) = ⊥
Needless (Call.null r) = Unit {0}
Needless (Call.number r i) = Unit {0}
Needless (Call.copy r s) = Unit {0}
Needless (Call.name r s k) = Unit {0}
Needless (Call.fetch r s) = Unit {0}
Needless (Call.store r s) = Unit {0}
Needless (Call.divide r s q) = Unit {0}
Needless (Call.kind r) = Unit {0}
Needless (Call.read r n) = Unit {0}
Needless (Call.same r s) = Unit {0}

-- The arena after a call: only "no room", collect, and make and text for which the cells from next on are too few regenerate
-- it; a new block and a new string stand at its end.
pub data After (f : Figures) (m : Model) (a : Arena) : Call → Answer → Arena → Type 0 where
  stays : {c : Call} {x : Answer} → Needless c → After f m a c x a
  refused : {c : Call} {r : Refusal} → r.number ≢ 16 → After f m a c (no r) a
  full : {c : Call} {r : Refusal} {b : Arena} → r.number ≡ 16 → Renewed m a b → After f m a c (no r) b
  made : {r n t : ℕ} {b : Arena} → Roomed f m a (n + 1) b → After f m a (make r n t) (ok [] []) (arena_with_block m b n)
  absent : {r : ℕ} → After f m a (text r []) (ok [] []) a
  present : {r : ℕ} {t : Text} → In (string t) a.order → After f m a (text r t) (ok [] []) a
  entered : {r : ℕ} {t : Text} {b : Arena} → (In (string t) a.order → ⊥) → Roomed f m a (string_cells f.places (length t)) b →
      After f m a (text r t) (ok [] []) (arena_with_text f.places b t)
  collected : {n : ℕ} {z : ℤ} {b : Arena} → Renewed m a b → After f m a (collect n) (ok (z ∷ []) []) b

-- A call with a work list of this length.
pub record StepWith (l : Limits) (m : Model) (work : ℕ) (c : Call) (o : Outcome) : Type 0 where
  pub things : List Thing
  pub exactly : Exactly m things
  pub result : outcome_with l m things work c ≡ o

-- A call on the model that the workspace shows has an outcome by the rules; the workspace gives its answer, and shows the model after it.
pub record Given (steps : Outcome → Type 0) (m : Model) (a : Arena) (v : View) (c : Call) (x : Answer) (w : View) : Type 0 where
  pub outcome : Outcome
  pub step : steps outcome
  pub answer : x ≡ outcome.0
  pub arena : Arena
  pub after : After v.memory.figures m a c x arena
  pub shown : Shown outcome.1 arena w
  pub figures : w.memory.figures ≡ v.memory.figures

-- What a call promises: refusal 5 where the workspace is closed, and else whatever the rules say of the model that it shows.
pub record Exact (v : View) (c : Call) (x : Answer) (w : View) : Type 0 where
  pub shut : v.state ≡ Shut → x ≡ closed c
  pub by_rules : (m : Model) (a : Arena) → Shown m a v → Given (Step (limits v a) m c) m a v c x w

-- The same with a lent work list.
pub record ExactWith (v : View) (work : ℕ) (c : Call) (x : Answer) (w : View) : Type 0 where
  pub shut : v.state ≡ Shut → x ≡ closed c
  pub by_rules : (m : Model) (a : Arena) → Shown m a v → Given (StepWith (limits v a) m work c) m a v c x w

-- An answer as the rules have it, by the numbers that it has.
abbrev pub answered : {T : Type 0} → (T → List ℤ) → Result T WorkspaceFault → Answer
answered f (Ok x) = ok (f x) []
answered f (Err e) = no (report e)

abbrev pub nothing : Unit {0} → List ℤ
nothing u = []

abbrev pub count : ℕ → List ℤ
count n = pos n ∷ []

-- 1 for yes, and 0 for no.
abbrev pub truth : Bool → List ℤ
truth b = count (from_bool b)

abbrev pub pair : ℕ × ℤ → List ℤ
pair x = pos x.0 ∷ x.1 ∷ []

-- The check that comes first in every call: the workspace is open, and each register is there; the first beyond is reported.
abbrev pub Admits : State → Word → List ℕ → Result (Unit {0}) WorkspaceFault → Type 0
Admits s w rs (Ok u) = ((b : ℕ) × (n : ℕ) × (s ≡ Opened b n)) × AllByRecursion (λ r. r ≤ 31) rs
Admits s w rs (Err f) =
    ((s ≡ Shut) × (f ≡ record { cause = Closed; call = w; register = slice_index rs 0 }))
    ⊎ (((b : ℕ) × (n : ℕ) × (s ≡ Opened b n)) × ((i : ℕ) × (i < length rs) × ((j : ℕ) → j < i → slice_index rs j ≤ 31) × (31 < slice_index rs i) × (f ≡ record { cause = NoRegister; call = w; register = slice_index rs i })))

-- A refusal of the workspace's own layer leaves the workspace and the work list as they were; where it shows a model, so does
-- every refusal but "no room".
abbrev pub Untouched : {T : Type 0} → View → Result T WorkspaceFault → Type 0 → Type 0 → Type 0
Untouched v (Ok x) same list = Unit {0}
Untouched v (Err e) same list =
    (((report e).layer ≡ Layer.Workspace) ⊎ (((m : Model) × (a : Arena) × Shown m a v) × ((report e).number ≢ 16))) → same × list

-- What read answers: a count, and the characters at the start of its buffer.
abbrev pub written : Result ℕ WorkspaceFault → List ℕ → Answer
written (Ok n) buffer = ok (pos n ∷ []) (take n buffer)
written (Err e) buffer = no (report e)

-- What a lent buffer is after read: past the characters, and after a refusal, as it was.
abbrev pub Left : Result ℕ WorkspaceFault → List ℕ → List ℕ → Type 0
Left (Ok n) before after = drop n after ≡ drop n before
Left (Err e) before after = after ≡ before

-- So does a closed workspace leave the buffer, and one that shows a model.
pub record Leaves (v : View) (r : Result ℕ WorkspaceFault) (before after : List ℕ) : Type 0 where
  pub shut : v.state ≡ Shut → Left r before after
  pub by_rules : (m : Model) (a : Arena) → Shown m a v → Left r before after
