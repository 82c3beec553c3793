-- The logs of two workspaces that were just opened.
use Rattle.std.proofs.Common.{◌≡◌, ℕ, List, [], replicate, sym, refl, subst, subst₂}
use Rattle.cells.specs.Meaning.{Figures, Memory}
use Rattle.rules.specs.Model.{empty}
use Rattle.rules.specs.Calls.{Limits, Call, Answer, ok, Run}
use Rattle.rules.specs.Arena.{null_desc}
use Rattle.rules.specs.Compared.{Agree}
use Rattle.rules.proofs.Compared.{compared}
use Rattle.arena.specs.Opening.{empty_arena}
use Rattle.workspace.specs.State.{Shut}
use Rattle.workspace.specs.declared.space.Workspace.{Workspace}
use Rattle.workspace.specs.Shown.{View, view}
use Rattle.workspace.specs.Opened.{Opens}
use Rattle.workspace.specs.Logs.{Logged}
use Rattle.workspace.specs.Comparing.{with_bins, open_answer, Ready, ByModel, BothLogs}

-- Opening a workspace that was just made.
module _ {S : Type 0} (means : S → Memory) (store : S) (w : Workspace S) (bins : ℕ) (new : w ≡ record { cells = store; registers = replicate 32 null_desc; state = Shut }) where
  of_new : (x : Answer) (u : View) → Opens (view means w) bins x u →
      Opens (view means (record { cells = store; registers = replicate 32 null_desc; state = Shut })) bins x u
  of_new x u o = subst (λ (y : Workspace S). Opens (view means y) bins x u) new o

  pub open_says : (x : Answer) (u : View) → Opens (view means w) bins x u → open_answer (with_bins (means store).figures bins) ≡ x
  open_says x u o = sym (of_new x u o).answer

  pub open_ready : (u : View) → Opens (view means w) bins (ok [] []) u → Ready (with_bins (means store).figures bins) u
  open_ready u o =
      let p = of_new (ok [] []) u o in
      record { opens = sym p.answer; figures = p.figures; shown = p.shown refl refl }

-- The log of a workspace that was just opened is the plain model's.
by_model : (l : Limits) (v : View) (cs : List Call) (log : List Answer) (w : View) → Ready l v →
    Logged v empty (empty_arena l.bins) cs log w → ByModel l cs log
by_model l v cs log w r k = record {
  opens = r.opens;
  outcomes = k.outcomes;
  run = subst (λ (f : Figures). Run (with_bins f l.bins) empty cs k.outcomes) r.figures k.run;
  answered = k.answered;
}

pub both_logs : (l : Limits) (u : View) (k : Limits) (v : View) (cs : List Call) (x y : List Answer) (p q : View) →
    Ready l u → Ready k v → Logged u empty (empty_arena l.bins) cs x p → Logged v empty (empty_arena k.bins) cs y q →
    BothLogs l k cs x y
both_logs l u k v cs x y p q a b h i =
    let s = by_model l u cs x p a h in
    let t = by_model k v cs y q b i in
    record {
      first = s;
      second = t;
      agree = λ d e. subst₂ (Agree l k cs) s.answered t.answered (compared l k cs s.outcomes t.outcomes d e s.run t.run).0;
    }
