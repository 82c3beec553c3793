-- A bracket that opens inside a `times`.
use Rattle.std.proofs.Common.{◌≡◌, ℕ, ◌<◌, Bool, true, false, cond, List, [], ◌∷◌, length, IfOk, Some, None, Ok, Err, Result, refl, arith}
use Rattle.scan.specs.declared.types.ReaderFault.{ReaderFault}
use Rattle.scan.specs.declared.reader.Reader.{Reader}
use Rattle.scan.specs.Words.{is_opens, is_closes}
use Rattle.scan.specs.Taking.{inside_of, PicksFrom, Eats, ahead, left}
use Rattle.scan.specs.Tokens.{next, next_here}

may_by : (o c p q : Bool) → cond p (cond o (Some true) None) (cond q (cond c (Some false) None) None) ≡ Some true → o ≡ true
may_by true c p q h = refl
may_by false c true q h = absurd cc
may_by false true false true h = absurd cc
may_by false false false true h = absurd cc
may_by false c false false h = absurd cc

-- at the end stands no bracket
opens_before_end : (o c : Bool) (l k : ℕ) (xs : List ℕ) → inside_of o c (next l k xs).tok ≡ Some true → 0 < length xs
unfolding next next_here
opens_before_end o c l k [] h = absurd cc
opens_before_end o c l k (x ∷ xs) h = omega arith

-- of the answer, whichever it is
pub inside_eats : (o c : Bool) (X : Reader) (r : Result Bool ReaderFault) (Y : Reader) → PicksFrom (inside_of o c) (ahead X) r Y → Eats r X Y → IfOk r (λ b. (b ≡ true → left Y < left X))
inside_eats o c X (Ok true) Y p h = λ e. h (opens_before_end o c X.line X.column X.rest.now p.0)
inside_eats o c X (Ok false) Y p h = λ e. absurd cc
inside_eats o c X (Err f) Y p h = tt

pub inside_might : (o c : Bool) (X : Reader) (r : Result Bool ReaderFault) (Y : Reader) → PicksFrom (inside_of o c) (ahead X) r Y → IfOk r (λ b. (b ≡ true → o ≡ true))
inside_might o c X (Ok true) Y p = λ e. may_by o c (is_opens (ahead X).tok) (is_closes (ahead X).tok) p.0
inside_might o c X (Ok false) Y p = λ e. absurd cc
inside_might o c X (Err f) Y p = tt
