-- How many cells some characters fill.
use Rattle.std.proofs.Common.{◌≡◌, ℕ, ◌+◌, ◌-◌, ◌/◌, ◌%◌, ◌<◌, ◌≤◌, min, arith}
use Rattle.std.proofs.Math.Nat.{lt_of_mul-lt-mul_right, div-add-mod', add-mul}
use Rattle.std.proofs.lemmas.Nat.{mod_below}
use Rattle.std.proofs.lemmas.Grind.{div_ceil_times}

-- The quotient rounded up is one more than the quotient of what is one less.
pub rounded_up : (l c : ℕ) → 1 ≤ l → 1 ≤ c → l / c + min 1 (l % c) ≡ (l - 1) / c + 1
rounded_up l c some wide =
    let q : ℕ = l / c + min 1 (l % c) in
    let p : ℕ = (l - 1) / c in
    let bounds = div_ceil_times l c wide in
    let parts = div-add-mod' (l - 1) c in
    let rest = mod_below (l - 1) c wide in
    let above : p < q = lt_of_mul-lt-mul_right c (omega (arith, bounds.0, parts, rest)) in
    let two = add-mul p 2 c in
    let below : q < p + 2 = lt_of_mul-lt-mul_right c (omega (arith, bounds.1, parts, rest, two)) in
    omega (arith, above, below)
