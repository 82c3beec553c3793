-- Numbers one after another, each behind those before it.
use Rattle.std.proofs.Common.{◌≡◌, ℕ, suc, ◌-◌, ◌≤◌, List, [], ◌∷◌, ◌++◌, map, length, get_or, take, replicate, Ok, sym, ap, ◌∙◌, subst, append_assoc, append-nil, arith}
use mathlib.Core.List.{map-append}
use Rattle.std.proofs.lemmas.List.{take_all, nil_from_length}
use Rattle.scan.specs.declared.reader.Reader.{Reader}
use Rattle.scan.specs.declared.types.Verb.{Verb}
use Rattle.scan.specs.Words.{a_number, Arg, nat, natural_of}
use Rattle.scan.specs.Forms.{Open, arguing}
use Rattle.scan.specs.Taking.{PicksFrom, LeadsAt, ReadsAt, ahead}
use Rattle.scan.proofs.Steps.{number_on}

-- of n numbers these have been read, and so many are to come
abbrev pub Read : ℕ → List ℕ → ℕ → Reader → Reader → Type 0
Read n ns more X Y = (v : Verb) (got : List Arg) (k : Open) → LeadsAt (arguing v got (replicate n a_number) k) X (arguing v (got ++ map nat ns) (replicate more a_number) k) Y

pub read_none : (n : ℕ) (X : Reader) → Read n [] n X X
read_none n X v got k o r = subst (λ (z : List Arg). ReadsAt (arguing v z (replicate n a_number) k) X o) (append-nil got) r

pub read_more : (n : ℕ) (ns : List ℕ) (more : ℕ) (X Y Z : Reader) (a : ℕ) → Read n ns (suc more) X Y → PicksFrom (natural_of 0 2147483647) (ahead Y) (Ok a) Z → Read n (ns ++ a ∷ []) more X Z
read_more n ns more X Y Z a on p v got k o r =
    let e : got ++ map nat (ns ++ a ∷ []) ≡ (got ++ map nat ns) ++ nat a ∷ [] = ap (λ (z : List Arg). got ++ z) (map-append nat ns (a ∷ [])) ∙ sym (append_assoc got (map nat ns) (nat a ∷ [])) in
    on v got k o (number_on v (got ++ map nat ns) (replicate more a_number) k Y (Ok a) Z p o (subst (λ (z : List Arg). ReadsAt (arguing v z (replicate more a_number) k) Z o) e r))

-- none are to come
pub read_all : (n i : ℕ) (ns : List ℕ) (X Y : Reader) → Read n (take i ns) (n - i) X Y → n ≤ i → n ≡ length ns → Read n ns 0 X Y
read_all n i ns X Y h all e =
    let none : n - i ≡ 0 = omega arith in
    subst (λ (z : List ℕ). Read n z 0 X Y) (take_all i ns (omega arith)) (subst (λ (m : ℕ). Read n (take i ns) m X Y) none h)

pub one_item : (xs : List ℕ) → length xs ≡ 1 → xs ≡ get_or xs 0 0 ∷ []
one_item [] e = absurd (omega arith)
one_item (x ∷ xs) e = ap (λ (t : List ℕ). x ∷ t) (nil_from_length xs (omega arith))
