-- Lists of calls on a workspace, and the logs of what it answered.
use Rattle.std.specs.Prelude.{◌≡◌, ℕ, List, [], ◌∷◌, map, pos, vec_items, vec_len}
use Rattle.rules.specs.declared.Request.{Request}
use Rattle.rules.specs.Model.{Model}
use Rattle.rules.specs.Arena.{Arena}
use Rattle.rules.specs.Calls.{Call, make, text, collect, Answer, ok, no, Outcome, answers, Run}
use Rattle.rules.specs.Requests.{meant}
use Rattle.workspace.specs.declared.runs.Entry.{Entry}
use Rattle.workspace.specs.declared.runs.Entry.TheVariants.{Done, Count, Pair, Read, Refused}
use Rattle.workspace.specs.Reports.{report}
use Rattle.workspace.specs.Shown.{View, Shown, limits, Exact, ExactWith}

-- What each call promises: make, text and collect get the work list.
abbrev pub Performs : View → ℕ → Call → Answer → View → Type 0
Performs v work (make r n t) x w = ExactWith v work (make r n t) x w
Performs v work (text r t) x w = ExactWith v work (text r t) x w
Performs v work (collect n) x w = ExactWith v work (collect n) x w
Performs v work (Call.null r) x w = Exact v (Call.null r) x w
Performs v work (Call.number r i) x w = Exact v (Call.number r i) x w
Performs v work (Call.copy r s) x w = Exact v (Call.copy r s) x w
Performs v work (Call.name r s k) x w = Exact v (Call.name r s k) x w
Performs v work (Call.fetch r s) x w = Exact v (Call.fetch r s) x w
Performs v work (Call.store r s) x w = Exact v (Call.store r s) x w
Performs v work (Call.divide r s q) x w = Exact v (Call.divide r s q) x w
Performs v work (Call.kind r) x w = Exact v (Call.kind r) x w
Performs v work (Call.read r n) x w = Exact v (Call.read r n) x w
Performs v work (Call.same r s) x w = Exact v (Call.same r s) x w

-- An entry of a log as the rules have answers: the numbers and the characters written, which read counts, or the refusal.
abbrev pub entry : Entry → Answer
entry Done = ok [] []
entry (Count n) = ok (pos n ∷ []) []
entry (Pair t z) = ok (pos t ∷ z ∷ []) []
entry (Read characters) = ok (pos (vec_len characters) ∷ []) (vec_items characters)
entry (Refused f) = no (report f)

abbrev pub entries : List Entry → List Answer
entries log = map entry log

-- The calls of a list.
abbrev pub calls_of : List Request → List Call
calls_of rs = map meant rs

-- The model after the last of some outcomes.
abbrev pub last_model : Model → List Outcome → Model
last_model m [] = m
last_model m (o ∷ os) = last_model o.1 os

-- A list of calls, run from the model m that v shows in the arena a: the log is what the run answers, and w shows the model after it.
pub record Logged (v : View) (m : Model) (a : Arena) (cs : List Call) (log : List Answer) (w : View) : Type 0 where
  pub outcomes : List Outcome
  pub run : Run (limits v a) m cs outcomes
  pub answered : answers outcomes ≡ log
  pub arena : Arena
  pub shown : Shown (last_model m outcomes) arena w
  pub figures : w.memory.figures ≡ v.memory.figures
  pub bins : arena.bins ≡ a.bins
