-- The call make, by what its checks answer.
use Rattle.std.proofs.Common.{◌≡◌, ℕ, ◌+◌, ◌<◌, ◌≤◌, Bool, true, ◌&&◌, leb, [], ◌∷◌, Ok, Err, Result, refl, ap, ◌∙◌, inl, inr, arith}
use Rattle.std.specs.List.{AllByRecursion}
use Rattle.std.proofs.lemmas.Bool.{cases_Bool, cond-true, cond-false, and_parts, leb-true}
use Rattle.rules.specs.declared.Layer.{Layer}
use Rattle.rules.specs.declared.Word.{Word}
use Rattle.rules.specs.Model.{Thing, Model}
use Rattle.rules.specs.Arena.{Arena}
use Rattle.rules.specs.Calls.{Call, ok, Act, refuse, want, act, registers_then, put_block}
use Rattle.arena.specs.Growth.{arena_with_block}
use Rattle.arena.specs.Blocks.{fit_make}
use Rattle.arena.specs.declared.faults.HeapFault.{HeapFault}
use Rattle.arena.specs.declared.faults.HeapFault.TheVariants.{BadMake}
use Rattle.workspace.specs.declared.faults.Cause.TheVariants.{ShortWork}
use Rattle.workspace.specs.declared.faults.Raised.{Raised}
use Rattle.workspace.specs.declared.faults.WorkspaceFault.{WorkspaceFault}
use Rattle.workspace.specs.State.{Opened}
use Rattle.workspace.specs.Reports.{raised, told}
use Rattle.workspace.specs.Shown.{View, Shown, limits, ExactWith, answered, nothing}
use Rattle.workspace.specs.Shown as after
use Rattle.workspace.specs.Rooms.{RoomOf, Grew}
use Rattle.workspace.proofs.Steps.{not_shut}
use Rattle.workspace.proofs.Raises.{raised_never, raised_err, raised_not}
use Rattle.workspace.proofs.Wants.{by_refusal_with, by_refusing_with, list_short, wants_fit, wants_full, by_answer_with}
use Rattle.workspace.proofs.Fulls.{fault_of, by_full_with}

abbrev pub block_fits : ℕ → ℕ → Bool
block_fits n t = leb 1 n && leb n 4096 && leb 16 t && leb t 255

-- The check of the heap passes.
pub fit_passed : (n t r : ℕ) (f : Result (Unit {0}) HeapFault) (u : Unit {0}) → f ≡ fit_make n t → Ok u ≡ raised f Word.Make r → block_fits n t ≡ true
fit_passed n t r f u is e = elim (cases_Bool (block_fits n t)) [
  | inl h ↦ h
  | inr h ↦ raised_not f Word.Make r u BadMake e (is ∙ cond-false (block_fits n t) _ _ h)
]

pub bounds_of : (n t : ℕ) → block_fits n t ≡ true → (1 ≤ n) × (n ≤ 4096) × (16 ≤ t) × (t ≤ 255)
bounds_of n t h =
    let d = and_parts (leb 1 n && leb n 4096 && leb 16 t) (leb t 255) h in
    let c = and_parts (leb 1 n && leb n 4096) (leb 16 t) d.0 in
    let b = and_parts (leb 1 n) (leb n 4096) c.0 in
    (leb-true 1 n b.0, leb-true n 4096 b.1, leb-true 16 t c.1, leb-true t 255 d.1)

module _ (v : View) (work r n t : ℕ) (admitted : ((b : ℕ) × (k : ℕ) × (v.state ≡ Opened b k)) × AllByRecursion (λ x. x ≤ 31) (r ∷ [])) where
  -- The check of the heap refuses.
  pub make_unfit : (f : Result (Unit {0}) HeapFault) (x : Raised) (q : Result (Unit {0}) WorkspaceFault) → f ≡ fit_make n t → Err x ≡ raised f Word.Make r → q ≡ Err (told x) →
      ExactWith v work (Call.make r n t) (answered nothing q) v
  make_unfit f x q is e told_is = elim (cases_Bool (block_fits n t)) [
    | inl h ↦ raised_never f Word.Make r x tt e (is ∙ cond-true (block_fits n t) _ _ h)
    | inr h ↦
        let bad : x ≡ record { fault = BadMake; call = Word.Make; register = r } = raised_err f Word.Make r x BadMake e (is ∙ cond-false (block_fits n t) _ _ h) in
        by_refusing_with v work (Call.make r n t) (r ∷ []) admitted nothing q (fault_of (Call.make r n t) BadMake) (told_is ∙ ap (λ (y : Raised). Err (told y)) bad)
        (λ (z : 11 ≡ 16). omega (arith, z)) refl
        (λ m a s used reached. ap (registers_then (r ∷ [])) (cond-false (block_fits n t) (want (n + 1) [] (put_block m r n t)) (refuse 11 Layer.Heap r 0) h))
  ]

  module _ (fit : block_fits n t ≡ true) where
    abbrev wanted : Model → Act
    wanted m = want (n + 1) [] (put_block m r n t)

    comes : (m : Model) (a : Arena) (used : ℕ) (reached : Thing → Bool) → act (limits v a) m used reached (Call.make r n t) ≡ registers_then (r ∷ []) (wanted m)
    comes m a used reached = ap (registers_then (r ∷ [])) (cond-true (block_fits n t) (wanted m) (refuse 11 Layer.Heap r 0) fit)

    -- The work list is too short.
    pub make_short : (e : WorkspaceFault) (q : Result (Unit {0}) WorkspaceFault) → work < v.memory.figures.cells → e ≡ record { cause = ShortWork; call = Word.Make; register = r } → q ≡ Err e →
        ExactWith v work (Call.make r n t) (answered nothing q) v
    make_short e q short e-is is =
        by_refusal_with v work (Call.make r n t) nothing q (record { cause = ShortWork; call = Word.Make; register = r }) (is ∙ ap Err e-is) (λ (z : 15 ≡ 16). omega (arith, z))
        (λ z. not_shut v.state admitted.0.0 admitted.0.1 admitted.0.2 z)
        (λ m a s things x. list_short v work (Call.make r n t) (r ∷ []) admitted m a s (wanted m) (λ used reached _. comes m a used reached) tt short things x)

    module _ (long : v.memory.figures.cells ≤ work) where
      -- There is no room.
      pub make_full : (w : View) (x : HeapFault) (q : Result (Unit {0}) WorkspaceFault) → q ≡ Err (fault_of (Call.make r n t) x) →
          ((m : Model) (a : Arena) → Shown m a v → RoomOf m a v (n + 1) w (Err x)) → ExactWith v work (Call.make r n t) (answered nothing q) w
      make_full w x q is room =
          by_full_with v w work (Call.make r n t) (n + 1) nothing q x admitted.0.0 admitted.0.1 admitted.0.2 is room
          (λ m a s. wants_full v work (Call.make r n t) (r ∷ []) admitted m a s (wanted m) (λ used reached _. comes m a used reached) (n + 1) [] (put_block m r n t) refl long)

      -- The block is made.
      pub make_made : (w : View) → ((m : Model) (a : Arena) → Shown m a v → Grew m a v (n + 1) (put_block m r n t) (λ b. arena_with_block m b n) w) →
          ExactWith v work (Call.make r n t) (ok [] []) w
      make_made w grows =
          by_answer_with v w work (Call.make r n t) (ok [] []) admitted.0.0 admitted.0.1 admitted.0.2
          (λ m a s. let g = grows m a s in (
            put_block m r n t,
            wants_fit v work (Call.make r n t) (r ∷ []) admitted m a s (wanted m) (λ used reached _. comes m a used reached) (n + 1) [] (put_block m r n t) refl long g.fits,
            (arena_with_block m g.arena n, after.made g.roomed, g.shown, g.figures),
          ))
