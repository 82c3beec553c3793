-- Every script comes to one outcome, and what is written is read back.
use Rattle.std.proofs.Common.{◌≡◌, ℕ, ◌≤◌, List, [], map, length, Ok, Err, Result, sym, refl, ap, subst, ⊎_elim, arith, MatchResult}
use Rattle.std.proofs.lemmas.Bool.{cases_lt}
use Rattle.scan.specs.declared.types.Step.{Step}
use Rattle.scan.specs.declared.types.ReaderFault.{ReaderFault}
use Rattle.scan.specs.declared.types.ReaderFault.TheVariants as fault
use Rattle.scan.specs.Words.{Said, said_of}
use Rattle.scan.specs.Forms.{bottom, start, Outcome, done, refused}
use Rattle.scan.proofs.Once.{one_outcome, some_outcome}
use Rattle.script.specs.Written.{Forms, steps_of, written, Lawful, ReadBack}
use Rattle.script.proofs.WrittenForms.{written_whole}
use Rattle.script.specs.Scripts.{Whole, Comes, too_many_bytes, stopped, too_many_steps, steps, ExactlyOne, Steps, Refusal}

module _ (script : List ℕ) where
  same_whole : (o p : Outcome) → Whole script o → Whole script p → o ≡ p
  same_whole o p = one_outcome (start (bottom [])) 1 1 script o p

  same_steps : (ss ts : List Said) → Whole script (done ss) → Whole script (done ts) → ss ≡ ts
  same_steps ss ts v w = let e : done ss ≡ done ts = same_whole _ _ v w in cc

  not_both : {P : Type 0} (ss : List Said) (f : ReaderFault) → Whole script (done ss) → Whole script (refused f) → P
  not_both ss f v w = let e : done ss ≡ refused f = same_whole _ _ v w in absurd cc

  pub comes_once : (o p : Outcome) → Comes script o → Comes script p → o ≡ p
  comes_once o p (too_many_bytes h) (too_many_bytes k) = refl
  comes_once o p (too_many_bytes h) (stopped k w) = absurd (omega arith)
  comes_once o p (too_many_bytes h) (too_many_steps k w m) = refl
  comes_once o p (too_many_bytes h) (steps k w m) = absurd (omega arith)
  comes_once o p (stopped h v) (too_many_bytes k) = absurd (omega arith)
  comes_once o p (stopped h v) (stopped k w) = same_whole _ _ v w
  comes_once o p (stopped h v) (too_many_steps k w m) = not_both _ _ w v
  comes_once o p (stopped h v) (steps k w m) = not_both _ _ w v
  comes_once o p (too_many_steps h v n) (too_many_bytes k) = refl
  comes_once o p (too_many_steps h v n) (stopped k w) = not_both _ _ v w
  comes_once o p (too_many_steps h v n) (too_many_steps k w m) = refl
  comes_once o p (too_many_steps h v n) (steps k w m) = absurd (omega (arith, ap length (same_steps _ _ v w)))
  comes_once o p (steps h v n) (too_many_bytes k) = absurd (omega arith)
  comes_once o p (steps h v n) (stopped k w) = not_both _ _ v w
  comes_once o p (steps h v n) (too_many_steps k w m) = absurd (omega (arith, ap length (same_steps _ _ v w)))
  comes_once o p (steps h v n) (steps k w m) = same_whole _ _ v w

  comes_from : length script ≤ 16384 → (o : Outcome) → Whole script o → (p : Outcome) × Comes script p
  comes_from h (refused f) w = (refused f, stopped h w)
  comes_from h (done ss) w = ⊎_elim (λ many. (refused fault.TooLong, too_many_steps h w many)) (λ few. (done ss, steps h w few)) (cases_lt 4096 (length ss))

  comes_some : (o : Outcome) × Comes script o
  comes_some =
      let r = some_outcome (start (bottom [])) 1 1 script in
      ⊎_elim (λ long. (refused fault.TooLong, too_many_bytes long)) (λ short. comes_from short r.0 r.1) (cases_lt 16384 (length script))

  pub exactly_one : ExactlyOne script
  exactly_one = let r = comes_some in (r.0, r.1, λ p k. comes_once p r.0 k r.1)

-- the forms that a script writes
module _ (script : List ℕ) (fs : Forms) (law : Lawful fs) (e : script ≡ written fs) where
  comes_written : Comes script (done (steps_of fs))
  comes_written = subst (λ (z : List ℕ). Comes z (done (steps_of fs))) (sym e) (steps law.bytes (written_whole fs law.forms) law.steps)

  not_refused : {P : Type 0} (f : ReaderFault) → Comes script (refused f) → P
  not_refused f k = let z : done (steps_of fs) ≡ refused f = comes_once script _ _ comes_written k in absurd cc

  only_memory : (f : ReaderFault) → Refusal script f → f ≡ fault.Memory
  only_memory (fault.NoToken at) k = not_refused _ k
  only_memory (fault.Unfit at) k = not_refused _ k
  only_memory fault.TooLong k = not_refused _ k
  only_memory fault.Memory k = refl

  steps_back : (items : List Step) → Steps script items → ReadBack fs items
  steps_back items k = let z : done (map said_of items) ≡ done (steps_of fs) = comes_once script _ _ k comes_written in cc

  pub read_back : {V : Type 0} (items : V → List Step) (r : Result V ReaderFault) → MatchResult r (λ v. Steps script (items v)) (λ f. Refusal script f) → MatchResult r (λ v. ReadBack fs (items v)) (λ f. f ≡ fault.Memory)
  read_back items (Ok v) h = steps_back (items v) h
  read_back items (Err f) h = only_memory f h
