-- A refusal leaves the model.
use Rattle.std.proofs.Common.{◌≡◌, ℕ, ◌+◌, Bool, true, false, cond, leb, List, [], ℤ, sym, refl, ap, ◌∙◌, arith}
use Rattle.rules.specs.Lists.{total}
use Rattle.rules.specs.Model.{Text, Model, size, has}
use Rattle.rules.specs.Calls.{Limits, Call, Refusal, Answer, ok, no, Act, refuse, give, want, act, Outcome, settle}
use Rattle.rules.specs.Compared.{Unaltered}

given_not_refused : (zs : List ℤ) (t : Text) (f : Refusal) → ok zs t ≡ no f → ⊥
given_not_refused zs t f e = let z : ◌≡◌ {A = ℕ} 0 1 = cc in omega arith

-- What is given if there is room, and refused if there is none.
by_room : (b : Bool) (zs : List ℤ) (after m : Model) (r : Answer) (f : Refusal) →
    (cond {A = Outcome} b (ok zs [], after) (r, m)).0 ≡ no f → (cond {A = Outcome} b (ok zs [], after) (r, m)).1 ≡ m
by_room true zs after m r f e = absurd (given_not_refused zs [] f e)
by_room false zs after m r f e = refl

pub settled : (l : Limits) (m : Model) (used : ℕ) (c : Call) (a : Act) (f : Refusal) → (settle l m used c a).0 ≡ no f → (settle l m used c a).1 ≡ m
settled l m used c (refuse n layer r place) f e = refl
settled l m used c (give zs t after) f e = absurd (given_not_refused zs t f e)
settled l m used c (want need zs after) f e = by_room (leb (l.bins + used + need) l.store.cells) zs after m _ f e

pub unaltered : Unaltered
unaltered l m c o f s e =
    let used : ℕ = total (size l.store.places m) s.things in
    ap (λ (x : Outcome). x.1) (sym s.result)
    ∙ settled l m used c (act l m used (has s.things) c) f (ap (λ (x : Outcome). x.0) s.result ∙ e)
