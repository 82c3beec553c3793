-- Logs of lists of calls: of no call, and of one call more.
use Rattle.std.proofs.Common.{◌≡◌, ℕ, ◌≤◌, List, [], ◌∷◌, ◌++◌, length, take, sym, refl, ap, ◌∙◌, subst, ap₂}
use Rattle.std.proofs.lemmas.List.{map_push}
use Rattle.cells.specs.Meaning.{Figures}
use Rattle.rules.specs.Model.{Model}
use Rattle.rules.specs.Arena.{Arena}
use Rattle.rules.specs.Calls.{Limits, Call, make, text, collect, Answer, Outcome, Step, Run, done, call}
use Rattle.rules.proofs.Room.{outcome_long}
use Rattle.workspace.specs.Shown.{View, Shown, limits, Roomed, enough, remade, After, stays, refused, full, made, absent, present, entered, collected, StepWith, Given}
use Rattle.workspace.specs.Logs.{Performs, last_model, Logged}

-- The front of two lists joined.
pub take_front : {X : Type 0} (xs ys : List X) (n : ℕ) → length xs ≡ n → take n (xs ++ ys) ≡ xs
take_front {X} xs ys n e = ap (λ k. take k (xs ++ ys)) (sym e) ∙ front xs
  where
    front : (zs : List X) → take (length zs) (zs ++ ys) ≡ zs
    front [] = refl
    front (z ∷ zs) = ap (λ l. z ∷ l) (front zs)

run_more : {l : Limits} {m : Model} {cs : List Call} {os : List Outcome} {c : Call} {o : Outcome} → Run l m cs os → Step l (last_model m os) c o →
    Run l m (cs ++ c ∷ []) (os ++ o ∷ [])
run_more done s = call s done
run_more (call t r) s = call t (run_more r s)

last_more : (m : Model) (os : List Outcome) (o : Outcome) → last_model m (os ++ o ∷ []) ≡ o.1
last_more m [] o = refl
last_more m (p ∷ os) o = last_more p.1 os o

-- No call changes the bins.
roomed_bins : {f : Figures} {m : Model} {a : Arena} {need : ℕ} {b : Arena} → Roomed f m a need b → b.bins ≡ a.bins
roomed_bins (enough h) = refl
roomed_bins (remade h r) = r.same_bins

after_bins : {f : Figures} {m : Model} {a : Arena} {c : Call} {x : Answer} {b : Arena} → After f m a c x b → b.bins ≡ a.bins
after_bins (stays h) = refl
after_bins (refused h) = refl
after_bins (full h r) = r.same_bins
after_bins (made r) = roomed_bins r
after_bins absent = refl
after_bins (present i) = refl
after_bins (entered n r) = roomed_bins r
after_bins (collected r) = r.same_bins

-- A work list that is long enough leaves the rule as it is.
long_step : {l : Limits} {m : Model} {work : ℕ} {c : Call} {o : Outcome} → l.store.cells ≤ work → StepWith l m work c o → Step l m c o
long_step {l} {m} {work} {c} h s = record {
  things = s.things;
  exactly = s.exactly;
  result = sym (outcome_long l m s.things work c h) ∙ s.result;
}

long_given : (m : Model) (a : Arena) (v : View) (work : ℕ) (c : Call) (x : Answer) (w : View) → v.memory.figures.cells ≤ work →
    Given (StepWith (limits v a) m work c) m a v c x w → Given (Step (limits v a) m c) m a v c x w
long_given m a v work c x w h q = record {
  outcome = q.outcome;
  step = long_step h q.step;
  answer = q.answer;
  arena = q.arena;
  after = q.after;
  shown = q.shown;
  figures = q.figures;
}

performed : (m : Model) (a : Arena) (v : View) (work : ℕ) (c : Call) (x : Answer) (w : View) → Shown m a v → v.memory.figures.cells ≤ work →
    Performs v work c x w → Given (Step (limits v a) m c) m a v c x w
performed m a v work (make r n t) x w s h p = long_given m a v work (make r n t) x w h (p.by_rules m a s)
performed m a v work (text r t) x w s h p = long_given m a v work (text r t) x w h (p.by_rules m a s)
performed m a v work (collect n) x w s h p = long_given m a v work (collect n) x w h (p.by_rules m a s)
performed m a v work (Call.null r) x w s h p = p.by_rules m a s
performed m a v work (Call.number r i) x w s h p = p.by_rules m a s
performed m a v work (Call.copy r q) x w s h p = p.by_rules m a s
performed m a v work (Call.name r q k) x w s h p = p.by_rules m a s
performed m a v work (Call.fetch r q) x w s h p = p.by_rules m a s
performed m a v work (Call.store r q) x w s h p = p.by_rules m a s
performed m a v work (Call.divide r q t) x w s h p = p.by_rules m a s
performed m a v work (Call.kind r) x w s h p = p.by_rules m a s
performed m a v work (Call.read r n) x w s h p = p.by_rules m a s
performed m a v work (Call.same r q) x w s h p = p.by_rules m a s

pub logged_none : (v : View) (m : Model) (a : Arena) → Shown m a v → Logged v m a [] [] v
logged_none v m a s = record { outcomes = []; run = done; answered = refl; arena = a; shown = s; figures = refl; bins = refl }

pub logged_more : (v : View) (m : Model) (a : Arena) (cs : List Call) (log : List Answer) (u : View) (work : ℕ) (c : Call) (x : Answer) (w : View) →
    v.memory.figures.cells ≤ work → Logged v m a cs log u → Performs u work c x w → Logged v m a (cs ++ c ∷ []) (log ++ x ∷ []) w
logged_more v m a cs log u work c x w h k p =
    let k-model : Model = last_model m k.outcomes in
    let one : limits u k.arena ≡ limits v a = ap₂ (λ (f : Figures) (b : ℕ). record { store = f; bins = b }) k.figures k.bins in
    let room : u.memory.figures.cells ≤ work = subst (λ (f : Figures). f.cells ≤ work) (sym k.figures) h in
    let q = performed k-model k.arena u work c x w k.shown room p in
    record {
      outcomes = k.outcomes ++ q.outcome ∷ [];
      run = run_more k.run (subst (λ (l : Limits). Step l k-model c q.outcome) one q.step);
      answered = map_push (λ (o : Outcome). o.0) k.outcomes q.outcome ∙ ap₂ (λ (l : List Answer) (y : Answer). l ++ y ∷ []) k.answered (sym q.answer);
      arena = q.arena;
      shown = subst (λ (n : Model). Shown n q.arena w) (sym (last_more m k.outcomes q.outcome)) q.shown;
      figures = q.figures ∙ k.figures;
      bins = after_bins q.after ∙ k.bins;
    }
