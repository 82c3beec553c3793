-- What some names take: how many of them a store holds, their cells, and how many fall into each bin.
use Rattle.std.proofs.Common.{◌≡◌, ℕ, ◌+◌, ◌-◌, ◌*◌, ◌<◌, ◌≤◌, Bool, true, false, cond, ◌&&◌, leb, eqb, ◌≢◌, List, [], ◌∷◌, ◌++◌, length, get_or, set, take, replicate, None, Some, Option, MatchOption, sym, refl, ap, ◌∙◌, subst, inl, inr, div-le_self, arith}
use Rattle.std.proofs.lemmas.List.{take_more, take_all, length-map, get_or-map, length-set, get_or-set_same, get_or-set_other, get_or_read, length-replicate, get_or-replicate}
use Rattle.std.proofs.lemmas.List.Elements.{All-from_get_or}
use Rattle.std.proofs.lemmas.List.Sums.{sum_by_push, sum_by-le, count_by-le-length}
use Rattle.std.proofs.lemmas.Bool.{leb-true, and_parts, and_from, and_left, and_right, eq-eqb, ne_eqb, cases_eq, cond-true, cond-false, cond_both}
use Rattle.std.proofs.lemmas.Map.Keys.{le_from_is_le}
use Rattle.std.specs.Ordering.{is_le, nat_cmp}
use Rattle.cells.specs.Meaning.{Figures}
use Rattle.rules.specs.Keys.{bin}
use Rattle.rules.specs.Model.{Text, string_cells}
use Rattle.plan.specs.declared.names.Name.{Name}
use Rattle.plan.specs.Names.{name_texts}
use Rattle.plan.specs.Plans.{all_taken, holds, cells_in, name_cells, held, in_bin, all_cells}

-- A number that a range from low to high has.
pub bounded : {a b : ℕ} (low high x : ℕ) → a ≡ low → b ≡ high → (is_le (nat_cmp a x) ≡ true) × (is_le (nat_cmp x b) ≡ true) → (low ≤ x) × (x ≤ high)
bounded low high x p q h = (subst (λ (k : ℕ). k ≤ x) p (le_from_is_le _ x h.0), subst (λ (k : ℕ). x ≤ k) q (le_from_is_le x _ h.1))

-- The counts after these names: n of them held, and so many cells.
pub record Counted (f : Figures) (bins : ℕ) (ts : List Text) (n taken : ℕ) (by_bin : List ℕ) : Type 0 where
  pub names : n ≡ held f ts
  pub cells : taken ≡ all_cells f ts
  pub every : length by_bin ≡ bins
  pub each : (b : ℕ) → b < bins → get_or by_bin b 0 ≡ in_bin f bins b ts

pub counted_none : (f : Figures) (bins : ℕ) (by_bin : List ℕ) → by_bin ≡ replicate bins 0 → Counted f bins [] 0 0 by_bin
counted_none f bins by_bin e =
    record {
      names = refl;
      cells = refl;
      every = ap length e ∙ length-replicate bins 0;
      each = λ b h. ap (λ (cs : List ℕ). get_or cs b 0) e ∙ get_or-replicate bins b 0 0 h;
    }

-- A name takes at most 1,028 cells.
name_small : (f : Figures) (t : Text) → name_cells f t ≤ 1028
name_small f t = cond_both (holds f t) (string_cells f.places (length t)) 0 (λ n. n ≤ 1028)
    (λ h. let short = (and_parts (leb 1 (length t)) (leb (length t) 1024) (and_parts (leb 1 (length t) && leb (length t) 1024) (all_taken f t) h).0).1 in
    omega (arith, leb-true (length t) 1024 short, div-le_self (length t - 1) f.places))
    (λ h. omega arith)

-- What the answer of `cells_in` says of a name.
answered : (f : Figures) (t : Text) (o : Option ℕ) → o ≡ cells_in f t → MatchOption o (holds f t ≡ false) (λ n. (holds f t ≡ true) × (n ≡ string_cells f.places (length t)))
answered f t o e = go (holds f t) o e
  where
    go : (b : Bool) (o : Option ℕ) → o ≡ cond b (Some (string_cells f.places (length t))) None → MatchOption o (b ≡ false) (λ n. (b ≡ true) × (n ≡ string_cells f.places (length t)))
    go true None e = cc
    go true (Some n) e = (refl, cc)
    go false None e = refl
    go false (Some n) e = cc

pub fit_small : (f : Figures) (t : Text) (m : ℕ) → Some m ≡ cells_in f t → m ≤ 1028
fit_small f t m e =
    let yes = answered f t (Some m) e in
    omega (arith, yes.1, cond-true {A = ℕ} (holds f t) (string_cells f.places (length t)) 0 yes.0, name_small f t)

-- What stands past the end of names.
abbrev pub no_name : Name
no_name = record { 0 = record { ref_ptr = (0, 0); now = [] } }

-- One name more, and all of them.
pub texts_more : (ns : List Name) (i : ℕ) → i < length ns → take (i + 1) (name_texts ns) ≡ take i (name_texts ns) ++ (get_or ns i no_name).0.now ∷ []
texts_more ns i inside =
    take_more (name_texts ns) i [] (rw length-map inside) ∙ ap (λ (t : Text). take i (name_texts ns) ++ t ∷ []) (get_or-map (λ n. n.0.now) ns i no_name [] inside)

pub texts_all : (ns : List Name) (i : ℕ) → length ns ≤ i → take i (name_texts ns) ≡ name_texts ns
texts_all ns i past = take_all i (name_texts ns) (rw length-map past)

module _ {f : Figures} {bins : ℕ} {ts : List Text} {n taken : ℕ} {by_bin : List ℕ} (c : Counted f bins ts n taken by_bin) where
  -- How large the counts are.
  pub few_cells : taken ≤ 1028 * length ts
  few_cells = omega (arith, c.cells, sum_by-le (name_cells f) 1028 ts (All-from_get_or (λ t. name_cells f t ≤ 1028) ts [] (λ i h. name_small f (get_or ts i []))))

  pub few_in_bin : (k : ℕ) → k < bins → (old : ℕ) → old ≡ get_or by_bin k old → old ≤ length ts
  few_in_bin k small old read =
      let inside : k < length by_bin = omega (arith, c.every) in
      omega (arith, get_or_read by_bin k old inside read 0, c.each k small, count_by-le-length (λ t. holds f t && eqb (bin bins t) k) ts)

  pub counted_all : (us : List Text) → ts ≡ us → Counted f bins us n taken by_bin
  counted_all us e = subst (λ (ss : List Text). Counted f bins ss n taken by_bin) e c

  module _ (t : Text) where
    names_more : held f (ts ++ t ∷ []) ≡ held f ts + cond (holds f t) 1 0
    names_more = sum_by_push (λ t. cond (holds f t) 1 0) ts t

    cells_more : all_cells f (ts ++ t ∷ []) ≡ all_cells f ts + cond (holds f t) (string_cells f.places (length t)) 0
    cells_more = sum_by_push (name_cells f) ts t

    bin_more : (b : ℕ) → in_bin f bins b (ts ++ t ∷ []) ≡ in_bin f bins b ts + cond (holds f t && eqb (bin bins t) b) 1 0
    bin_more b = sum_by_push (λ t. cond (holds f t && eqb (bin bins t) b) 1 0) ts t

    pub counted_unfit : None ≡ cells_in f t → Counted f bins (ts ++ t ∷ []) n taken by_bin
    counted_unfit e =
        let no : holds f t ≡ false = answered f t None e in
        record {
          names = omega (arith, c.names, names_more, cond-false {A = ℕ} (holds f t) 1 0 no);
          cells = omega (arith, c.cells, cells_more, cond-false {A = ℕ} (holds f t) (string_cells f.places (length t)) 0 no);
          every = c.every;
          each = λ b h. omega (arith, c.each b h, bin_more b, cond-false {A = ℕ} (holds f t && eqb (bin bins t) b) 1 0 (and_left _ _ no));
        }

    pub counted_fit : (m : ℕ) → Some m ≡ cells_in f t → (k : ℕ) → k ≡ bin bins t → k < bins → (old : ℕ) → old ≡ get_or by_bin k old →
        Counted f bins (ts ++ t ∷ []) (n + 1) (taken + m) (set by_bin k (old + 1))
    counted_fit m e k at small old read =
        let yes = answered f t (Some m) e in
        record {
          names = omega (arith, c.names, names_more, cond-true {A = ℕ} (holds f t) 1 0 yes.0);
          cells = omega (arith, c.cells, cells_more, yes.1, cond-true {A = ℕ} (holds f t) (string_cells f.places (length t)) 0 yes.0);
          every = length-set by_bin k _ ∙ c.every;
          each = λ b h. elim (cases_eq b k) [
            | inl same ↦ here yes.0 b h same
            | inr other ↦ there b h other
          ];
        }
      where
        here : holds f t ≡ true → (b : ℕ) → b < bins → b ≡ k → get_or (set by_bin k (old + 1)) b 0 ≡ in_bin f bins b (ts ++ t ∷ [])
        here y b h same =
            let inside : k < length by_bin = omega (arith, c.every) in
            let was : get_or by_bin b 0 ≡ old = ap (λ (i : ℕ). get_or by_bin i 0) same ∙ sym (get_or_read by_bin k old inside read 0) in
            let one : cond (holds f t && eqb (bin bins t) b) 1 0 ≡ 1 = cond-true {A = ℕ} (holds f t && eqb (bin bins t) b) 1 0 (and_from _ _ y (eq-eqb _ _ (sym at ∙ sym same))) in
            ap (λ (i : ℕ). get_or (set by_bin k (old + 1)) i 0) same ∙ get_or-set_same by_bin k (old + 1) 0 inside ∙ omega (arith, bin_more b, c.each b h, one, was)

        there : (b : ℕ) → b < bins → b ≢ k → get_or (set by_bin k (old + 1)) b 0 ≡ in_bin f bins b (ts ++ t ∷ [])
        there b h other =
            let none : cond (holds f t && eqb (bin bins t) b) 1 0 ≡ 0 = cond-false {A = ℕ} (holds f t && eqb (bin bins t) b) 1 0 (and_right _ _ (ne_eqb _ _ (λ s. other (sym s ∙ sym at)))) in
            get_or-set_other by_bin k b (old + 1) 0 other ∙ omega (arith, bin_more b, c.each b h, none)
