-- Two workspaces, each opened over a store of its own, that get one list of calls.
use Rattle.std.specs.Prelude.{◌≡◌, ℕ, false, List, [], Ok, Err, vec_items, Result, Vec}
use Rattle.std.specs.declared.alloc.Global.{Global}
use Rattle.cells.specs.Meaning.{Figures}
use Rattle.rules.specs.Model.{empty}
use Rattle.rules.specs.Calls.{Limits, Call, Answer, ok, no, Outcome, answers, Run}
use Rattle.rules.specs.Opening.{opening}
use Rattle.rules.specs.Compared.{Takes, Agree}
use Rattle.arena.specs.Opening.{empty_arena}
use Rattle.workspace.specs.declared.comparing.CompareFault.{CompareFault}
use Rattle.workspace.specs.declared.comparing.CompareFault.TheVariants.{Memory, First, Second}
use Rattle.workspace.specs.declared.runs.Entry.{Entry}
use Rattle.workspace.specs.Reports.{report}
use Rattle.workspace.specs.Shown.{View, Shown}
use Rattle.workspace.specs.Logs.{entries}

-- What the plain model knows of a workspace: the figures of its store, and its bins.
abbrev pub with_bins : Figures → ℕ → Limits
with_bins f bins = record { store = f; bins = bins }

-- What open answers of a closed workspace with these limits.
abbrev pub open_answer : Limits → Answer
open_answer l = opening false l.store l.bins

-- A workspace just opened: it shows the empty model.
pub record Ready (l : Limits) (w : View) : Type 0 where
  pub opens : open_answer l ≡ ok [] []
  pub figures : w.memory.figures ≡ l.store
  pub shown : Shown empty (empty_arena l.bins) w

-- The workspace opens, and its log is what the plain model answers to the list: every call as the rules say, and "no room"
-- exactly when bins, reachable things and need exceed the cells.
pub record ByModel (l : Limits) (cs : List Call) (log : List Answer) : Type 0 where
  pub opens : open_answer l ≡ ok [] []
  pub outcomes : List Outcome
  pub run : Run l empty cs outcomes
  pub answered : answers outcomes ≡ log

-- Both logs are the model's, and they agree where both stores take every character used.
pub record BothLogs (l k : Limits) (cs : List Call) (x y : List Answer) : Type 0 where
  pub first : ByModel l cs x
  pub second : ByModel k cs y
  pub agree : Takes l.store cs → Takes k.store cs → Agree l k cs x y

-- What comparing answers: both logs, or the refusal of the first workspace that cannot be opened; or memory was wanting.
abbrev pub Compares : Limits → Limits → List Call → Result (Vec Entry Global × Vec Entry Global) CompareFault → Type 0
Compares l k cs (Ok logs) = BothLogs l k cs (entries (vec_items logs.0)) (entries (vec_items logs.1))
Compares l k cs (Err Memory) = Unit {0}
Compares l k cs (Err (First f)) = open_answer l ≡ no (report f)
Compares l k cs (Err (Second f)) = (open_answer l ≡ ok [] []) × (open_answer k ≡ no (report f))
