-- A set of names, in the order in which each was put in first.
use Rattle.std.proofs.Common.{◌≡◌, ℕ, ◌+◌, ◌<◌, ◌≤◌, Bool, true, false, cond, eqb, ◌||◌, List, [], ◌∷◌, ◌++◌, length, get_or, take, sym, refl, ap, ◌∙◌, Bor}
use Rattle.std.proofs.lemmas.List.{map_push, take_all, length-map, get_or-map}
use Rattle.std.proofs.lemmas.List.Sums.{fold_more}
use Rattle.std.proofs.lemmas.Bool.Decides.{same_from_decides, Decides-like}
use Rattle.std.proofs.lemmas.Slice.Eq.{bytes_eq-Decides}
use Rattle.std.specs.Cmp.Lexicographic.{pointwise}
use Rattle.std.specs.List.{list_any}
use Rattle.indexmap.specs.IndexSet.{insert_key}
use Rattle.rules.specs.Model.{Text, same_text}
use Rattle.rules.proofs.Tests.{text_decides}
use Rattle.plan.specs.declared.names.Name.{Name}
use Rattle.plan.specs.Names.{texts, name_texts, has_text, with_new, distinct}

-- The test by which the set compares names.
abbrev pub alike : Name → Name → Bool
alike s t = pointwise eqb s.0.now t.0.now

same : (s t : Name) → alike s t ≡ same_text t.0.now s.0.now
same s t = same_from_decides (alike s t) (same_text t.0.now s.0.now) (bytes_eq-Decides s.0.now t.0.now) (Decides-like (same_text t.0.now s.0.now) sym sym (text_decides t.0.now s.0.now))

seen : (ks : List Name) (k : Name) → list_any (alike k) ks ≡ has_text (name_texts ks) k.0.now
seen [] k = refl
seen (x ∷ xs) k = more (alike k x) (same_text x.0.now k.0.now) (same k x) (seen xs k)
  where
    more : (a b : Bool) → a ≡ b → list_any (alike k) xs ≡ has_text (name_texts xs) k.0.now → (a || list_any (alike k) xs) ≡ cond b true (has_text (name_texts xs) k.0.now)
    more true true e rest = refl
    more true false e rest = cc
    more false true e rest = cc
    more false false e rest = rest

inserted : (ks : List Name) (k : Name) → name_texts (insert_key alike ks k) ≡ with_new (name_texts ks) k.0.now
inserted ks k = go (list_any (alike k) ks) (has_text (name_texts ks) k.0.now) (seen ks k)
  where
    go : (a b : Bool) → a ≡ b → name_texts (cond a ks (ks ++ k ∷ [])) ≡ cond b (name_texts ks) (name_texts ks ++ (k.0.now ∷ []))
    go true true e = refl
    go true false e = cc
    go false true e = cc
    go false false e = map_push (λ n. n.0.now) ks k

-- What stands past the end of borrowed names.
abbrev pub no_line : Bor Text
no_line = record { ref_ptr = (0, 0); now = [] }

-- One name more, and all of them.
pub one_more : (ks : List Name) (ns : List (Bor Text)) (i : ℕ) → i < length ns → name_texts ks ≡ distinct (take i (texts ns)) →
    name_texts (insert_key alike ks (record { 0 = get_or ns i no_line })) ≡ distinct (take (i + 1) (texts ns))
one_more ks ns i inside e =
    inserted ks (record { 0 = get_or ns i no_line }) ∙ ap (λ (ts : List Text). with_new ts (get_or ns i no_line).now) e
    ∙ ap (with_new (distinct (take i (texts ns)))) (sym (get_or-map (λ s. s.now) ns i no_line [] inside))
    ∙ sym (fold_more with_new [] (texts ns) i [] (rw length-map inside))

pub all_of_them : (ks : List Name) (ns : List (Bor Text)) (i : ℕ) → length ns ≤ i → name_texts ks ≡ distinct (take i (texts ns)) → name_texts ks ≡ distinct (texts ns)
all_of_them ks ns i past e = e ∙ ap distinct (take_all i (texts ns) (rw length-map past))
