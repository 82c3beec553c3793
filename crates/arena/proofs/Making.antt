-- An arena with one more block shows the model with that block made.
use Rattle.std.proofs.Common.{◌≡◌, ℕ, ◌+◌, ◌<◌, ◌≤◌, Bool, true, false, cond, ◌⊎◌, List, [], ◌∷◌, ◌++◌, length, get_or, pos, sym, refl, ap, ◌∙◌, subst, inl, ⊎_elim, arith}
use Rattle.std.proofs.lemmas.Bool.{cond-true, cond-false, cases_Bool}
use Rattle.std.proofs.lemmas.List.{get_or_append_left, get_or_past, get_or_push}
use native.Mathlib.Decide.{dec_lt}
use Rattle.cells.specs.declared.Descriptor.{Descriptor}
use Rattle.cells.specs.Meaning.{Memory, Figures, Sound}
use Rattle.rules.specs.Lists.{In}
use Rattle.rules.specs.Model.{Text, Thing, block, string, Value, null, number, text, to, name, Model, register, fields, size, string_fields, string_cells, same_thing}
use Rattle.rules.specs.Arena.{desc, as_null, Proper, Good, Sized, Arena, title, Lawful, Laid, Threaded, Spelled, Shows, At, Links}
use Rattle.rules.proofs.Lists.{in_left}
use Rattle.rules.proofs.Lies.{lies_in}
use Rattle.rules.proofs.Coded.{fields_size}
use Rattle.rules.proofs.Tests.{thing_true, thing_refl}
use Rattle.arena.specs.Blocks.{Made}
use Rattle.arena.specs.Growth.{add_block, arena_with_block, Grown}
use Rattle.arena.proofs.Kept.{spelled_still, padded_still}
use Rattle.arena.proofs.Appends.{in_new, once_last}
use Rattle.arena.proofs.Growths as growths

-- The field count of a block before the new one.
get_or-before : (l : List ℕ) (n i : ℕ) → 1 ≤ get_or l i 0 → get_or (l ++ (n ∷ [])) i 0 ≡ get_or l i 0
get_or-before l n i h = elim (dec_lt i (length l)) [ yes e ↦ get_or_append_left l (n ∷ []) 0 i e | no e ↦ absurd (let z = get_or_past l i 0 (omega arith) in omega arith) ]

get_or-more : (l : List ℕ) (n i : ℕ) → get_or l i 0 ≤ get_or (l ++ (n ∷ [])) i 0
get_or-more l n i = elim (dec_lt i (length l)) [ yes e ↦ omega (arith, get_or_append_left l (n ∷ []) 0 i e) | no e ↦ omega (arith, get_or_past l i 0 (omega arith)) ]

string_no_block : {A : Type 0} (t : Text) (i : ℕ) → string t ≡ block i → A
string_no_block t i e = cc

other_thing : (x y : Thing) → (x ≡ y → ⊥) → same_thing x y ≡ false
other_thing x y n = ⊎_elim (λ e. absurd (n (thing_true x y e))) (λ e. e) (cases_Bool (same_thing x y))

module _ (m : Model) (n : ℕ) where
  fields_more : (x : Thing) → fields m x ≤ fields (add_block m n) x
  fields_more (block i) = get_or-more m.made n i
  fields_more (string t) = omega arith

  proper_more : (v : Value) → Proper m v → Proper (add_block m n) v
  proper_more null h = tt
  proper_more (number z) h = tt
  proper_more (text t) h = tt
  proper_more (to i t) h = h
  proper_more (name x k) h = (h.0, omega (arith, fields_more x))

  proper_cond : (b : Bool) (v : Value) → Proper (add_block m n) v → Proper (add_block m n) (cond b null v)
  proper_cond true v h = tt
  proper_cond false v h = h

  good_more : Good m → Good (add_block m n)
  good_more g =
      record {
        count = g.count;
        registers = λ r. proper_more (register m r) (g.registers r);
        held = λ x k. proper_cond (same_thing (block (length m.made)) x) (m.field x k) (proper_more (m.field x k) (g.held x k));
      }

module _ (m : Model) (a : Arena) (o : Memory) (snd : Sound o) (sh : Shows m a o) (n : ℕ) (n1 : 1 ≤ n) (n2 : n ≤ 4096) (room : a.«next» + n + 1 ≤ o.figures.cells)
    (r : Memory) (md : Made o a.«next» n r) where
  abbrev i : ℕ
  i = length m.made

  abbrev m' : Model
  m' = add_block m n

  -- The new block is none of the arena.
  away : In (block (length m.made)) a.order → ⊥
  away h = let w = (sh.lawful.sized (block i) h).0 in let z = get_or_past m.made (length m.made) 0 (omega arith) in omega arith

  before : (j : ℕ) → In (block j) a.order → get_or (m.made ++ (n ∷ [])) j 0 ≡ get_or m.made j 0
  before j h = get_or-before m.made n j (sh.lawful.sized (block j) h).0

  sizes : (x : Thing) → In x a.order → size o.figures.places m x ≡ size o.figures.places (add_block m n) x
  sizes (block j) h = ap (λ (k : ℕ). k + 1) (sym (before j h))
  sizes (string t) h = refl

  counts : (x : Thing) → In x a.order → fields (add_block m n) x ≡ fields m x
  counts (block j) h = before j h
  counts (string t) h = refl

  titles : (x : Thing) (q : ℕ) → In x a.order → title (add_block m n) x q ≡ title m x q
  titles (block j) q h = ap (λ (k : ℕ). desc (pos q) 2 k) (before j h)
  titles (string t) q h = refl

  values : (x : Thing) (j : ℕ) → In x a.order → (add_block m n).field x j ≡ m.field x j
  values x j h = cond-false _ _ _ (other_thing (block i) x (λ e. away (subst (λ (y : Thing). In y a.order) (sym e) h)))

  its_count : get_or (m.made ++ (n ∷ [])) (length m.made) 0 ≡ n
  its_count = get_or_push m.made n 0 (length m.made) refl

  its_value : (j : ℕ) → (add_block m n).field (block (length m.made)) j ≡ null
  its_value j = cond-true _ _ _ (thing_refl (block i))

  old_at : (x : Thing) (q : ℕ) → At m a o x q → At (add_block m n) (arena_with_block m a n) r x q
  old_at = growths.old_at m m' a o r (block i) (n + 1) a.chain sh md.figures sizes

  either_at : (x : Thing) (q : ℕ) → At (add_block m n) (arena_with_block m a n) r x q → At m a o x q ⊎ ((x ≡ block (length m.made)) × (q ≡ a.«next»))
  either_at = growths.either_at m m' a o r (block i) (n + 1) a.chain sh md.figures sizes

  string_at : (t : Text) (q : ℕ) → At (add_block m n) (arena_with_block m a n) r (string t) q → At m a o (string t) q
  string_at t q l = ⊎_elim (λ x. x) (λ x. string_no_block t i x.0) (either_at (string t) q l)

  inside : (x : Thing) (q j : ℕ) → At m a o x q → j < size o.figures.places m x → q + j < a.«next»
  inside = growths.inside m m' a o r (block i) (n + 1) a.chain sh md.figures sizes

  laid_made : Laid (add_block m n) (arena_with_block m a n) r
  laid_made =
      growths.laid_grown m m' a o r (block i) (n + 1) a.chain sh md.figures sizes (omega arith) (ap (λ (k : ℕ). k + 1) (sym its_count))
      (λ x q l. titles x q (lies_in (size o.figures.places m) l)) counts values
      (λ x q j l h. md.descriptors (q + j) (inl (inside x q j l (let z = fields_size o.figures.places m x in omega arith))))
      (md.title ∙ ap (λ (k : ℕ). desc (pos a.«next») 2 k) (sym its_count))
      (λ j j1 j2. rw (its_value j, md.fields j j1 (let z = its_count in omega arith)) as_null)

  lawful_made : Lawful (add_block m n) (arena_with_block m a n)
  lawful_made =
      record {
        some_bins = sh.lawful.some_bins;
        few_bins = sh.lawful.few_bins;
        good = good_more m n sh.lawful.good;
        once = once_last (block i) a.order sh.lawful.once away;
        sized = λ x h. ⊎_elim (λ k. sized_old x k (sh.lawful.sized x k)) (λ e. rw e (rw its_count (n1, n2))) (in_new (block i) a.order x h);
        valued = λ t k k1 k2 x. in_left (string t) a.order (block i ∷ []) (sh.lawful.valued t k k1 k2 x);
        chained = λ t h. sh.lawful.chained t (⊎_elim (λ k. k) (λ e. string_no_block t i e) (in_new (block i) a.order (string t) h));
        in_chain = λ b t l h. (let w = sh.lawful.in_chain b t l h in (in_left (string t) a.order (block i ∷ []) w.0, w.1));
        chain_once = sh.lawful.chain_once;
        rising = sh.lawful.rising;
      }
    where
      sized_old : (x : Thing) → In x a.order → Sized m x → Sized (add_block m n) x
      sized_old (block j) h s = rw (before j h) s
      sized_old (string t) h s = s

  still : (k : ℕ) (ts : List Text) (d : Descriptor) → Links m a o k ts d → Links (add_block m n) (arena_with_block m a n) r k ts d
  still = growths.links_still m m' a o r (block i) (n + 1) a.chain sh md.figures sizes

  threaded_made : Threaded (add_block m n) (arena_with_block m a n) r
  threaded_made =
      record {
        heads = λ b l. rw (md.descriptors b (inl (let e = sh.laid.end in omega arith))) (still _ _ _ (sh.threaded.heads b l));
        links = λ b t rest p l x y.
            (let ly = string_at t p y in
            rw (md.descriptors (p + 1 + string_fields) (inl (let w = inside (string t) p 3 ly (omega arith) in omega arith))) (still _ _ _ (sh.threaded.links b t rest p l x ly)));
      }

  places_same : r.figures.places ≡ o.figures.places
  places_same = ap (λ (x : Figures). x.places) md.figures

  spelled_made : Spelled (add_block m n) (arena_with_block m a n) r
  spelled_made =
      record {
        spelled = λ u q j l h. rw places_same (spelled_still m a o snd sh r old_char u q j (string_at u q l) h);
        padded = λ u q j l h. rw (places_same, ap (λ (x : Figures). x.lowest) md.figures) (padded_still m a o snd sh r old_char u q j (string_at u q l) h);
      }
    where
      old_char : (u : Text) (q j k : ℕ) → At m a o (string u) q → 4 + j < string_cells o.figures.places (length u) →
          r.character (q + 2 + string_fields + j) k ≡ o.character (q + 2 + string_fields + j) k
      old_char u q j k l h = md.characters (q + 2 + string_fields + j) k (inl (let w = inside (string u) q (4 + j) l h in omega arith))

  pub grown_by_block : Grown m a o (block (length m.made)) (add_block m n) (arena_with_block m a n) r
  grown_by_block =
      record {
        figures = md.figures;
        shows = record { lawful = lawful_made; laid = laid_made; threaded = threaded_made; spelled = spelled_made };
        here = growths.new_at m m' a o r (block i) (n + 1) a.chain sh md.figures sizes;
        codes = growths.codes_still m m' a o r (block i) (n + 1) a.chain sh md.figures sizes;
      }

-- At the number that the code has.
pub made_shown : (m : Model) (a : Arena) (o : Memory) → Sound o → Shows m a o → (p n : ℕ) → p ≡ a.«next» → 1 ≤ n → n ≤ 4096 → p + n + 1 ≤ o.figures.cells →
    (r : Memory) → Made o p n r → Grown m a o (block (length m.made)) (add_block m n) (arena_with_block m a n) r
made_shown m a o snd sh p n e n1 n2 room r md =
    grown_by_block m a o snd sh n n1 n2 (rw e at room) r (subst (λ (q : ℕ). Made o q n r) e md)
