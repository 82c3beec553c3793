-- Two workspaces, over any stores, that get one list of calls.
use Rattle.std.specs.Prelude.{◌≡◌, ℕ, ◌≤◌, ◌⊎◌, List, [], ◌∷◌, ℤ}
use Rattle.cells.specs.Meaning.{Figures}
use Rattle.rules.specs.Lists.{In}
use Rattle.rules.specs.Model.{Text, Model, empty}
use Rattle.rules.specs.Calls.{Limits, Call, text, collect, Refusal, Answer, ok, no, Outcome, answers, Step, Run}

abbrev pub NoRoom : Answer → Type 0
NoRoom (ok zs t) = ⊥
NoRoom (no f) = f.number ≡ 16

-- Equal answers, but for the count of collect.
pub data Alike : Call → Answer → Answer → Type 0 where
  equal : {c : Call} {a b : Answer} → a ≡ b → Alike c a b
  counts : {n : ℕ} {y z : ℤ} → Alike (collect n) (ok (y ∷ []) []) (ok (z ∷ []) [])

-- Up to the first "no room" of either, the answers are alike.
pub data AlikeUntilFull : List Call → List Answer → List Answer → Type 0 where
  end : AlikeUntilFull [] [] []
  full : {c : Call} {cs : List Call} {a b : Answer} {as' bs : List Answer} → NoRoom a ⊎ NoRoom b → AlikeUntilFull (c ∷ cs) (a ∷ as') (b ∷ bs)
  alike : {c : Call} {cs : List Call} {a b : Answer} {as' bs : List Answer} → Alike c a b → AlikeUntilFull cs as' bs → AlikeUntilFull (c ∷ cs) (a ∷ as') (b ∷ bs)

-- The first says "no room" to no call unless the second has said it to that call or an earlier one.
pub data FullNoSooner : List Answer → List Answer → Type 0 where
  end : FullNoSooner [] []
  said : {a b : Answer} {as' bs : List Answer} → NoRoom b → FullNoSooner (a ∷ as') (b ∷ bs)
  room : {a b : Answer} {as' bs : List Answer} → ¬ (NoRoom a) → FullNoSooner as' bs → FullNoSooner (a ∷ as') (b ∷ bs)

-- The same models after each call, up to the first "no room" of either.
pub data SameUntilFull : List Outcome → List Outcome → Type 0 where
  end : SameUntilFull [] []
  full : {o p : Outcome} {os ps : List Outcome} → NoRoom o.0 ⊎ NoRoom p.0 → SameUntilFull (o ∷ os) (p ∷ ps)
  same : {o p : Outcome} {os ps : List Outcome} → o.1 ≡ p.1 → SameUntilFull os ps → SameUntilFull (o ∷ os) (p ∷ ps)

-- A store takes every character of the texts in a list of calls.
abbrev pub Takes : Figures → List Call → Type 0
Takes f cs = (r : ℕ) (t : Text) → In (text r t) cs → (x : ℕ) → In x t → (f.lowest ≤ x) × (x ≤ f.highest)

-- Answers of two workspaces, with the limits l and k, to one list of calls: with equal bins and equal characters to a cell,
-- the one with more cells is full no sooner.
pub record Agree (l k : Limits) (cs : List Call) (a b : List Answer) : Type 0 where
  pub alike : AlikeUntilFull cs a b
  pub second_no_sooner : l.bins ≡ k.bins → l.store.places ≡ k.store.places → l.store.cells ≤ k.store.cells → FullNoSooner b a
  pub first_no_sooner : l.bins ≡ k.bins → l.store.places ≡ k.store.places → k.store.cells ≤ l.store.cells → FullNoSooner a b

abbrev pub Compared : Type 0
Compared = (l k : Limits) (cs : List Call) (os ps : List Outcome) →
    Takes l.store cs → Takes k.store cs → Run l empty cs os → Run k empty cs ps →
    Agree l k cs (answers os) (answers ps) × SameUntilFull os ps

-- A refused call leaves the model as it was.
abbrev pub Unaltered : Type 0
Unaltered = (l : Limits) (m : Model) (c : Call) (o : Outcome) (f : Refusal) → Step l m c o → o.0 ≡ no f → o.1 ≡ m

-- Every list of calls has a run, and only one.
abbrev pub Runs : Type 0
Runs = (l : Limits) (cs : List Call) → (os : List Outcome) × Run l empty cs os

abbrev pub Determined : Type 0
Determined = (l : Limits) (m : Model) (cs : List Call) (os ps : List Outcome) → Run l m cs os → Run l m cs ps → os ≡ ps
