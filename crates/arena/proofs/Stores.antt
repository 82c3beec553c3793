-- A value in a field: the arena shows the model with that field changed.
use Rattle.std.proofs.Common.{◌≡◌, ℕ, ◌+◌, ◌<◌, ◌≤◌, Bool, true, false, cond, ◌&&◌, eqb, ◌≢◌, List, length, sym, refl, ap, ◌∙◌, subst, ⊎_elim, arith}
use Rattle.std.proofs.lemmas.Bool.{and_parts, and_cases, cond-true, cond-false, cases_Bool, eqb-true, eqb-false}
use Rattle.cells.specs.declared.Descriptor.{Descriptor}
use Rattle.cells.specs.Meaning.{Memory, Figures, Sound, WroteDescriptor}
use Rattle.rules.specs.Lists.{In}
use Rattle.rules.specs.Model.{Text, Thing, string, Value, Model, register, fields, size, string_fields, string_cells, same_thing}
use Rattle.rules.specs.Arena.{Lies, Proper, Good, Arena, Lawful, Laid, Threaded, Spelled, Shows, At, Codes, Links}
use Rattle.rules.specs.Calls.{put_field}
use Rattle.rules.proofs.Lies.{lies_in, lies_from, lies_one, lies_apart, lies_like, total_like}
use Rattle.rules.proofs.Coded.{fields_size}
use Rattle.rules.proofs.Tests.{thing_true, thing_decides}
use Rattle.arena.specs.Stored.{Field, Stored}
use Rattle.arena.proofs.Alike.{fields_same, size_same, title_same, sized_same, proper_same, coded_by, linked_by}
use Rattle.arena.proofs.Kept.{spelled_still, padded_still}

module _ (m : Model) (x : Thing) (k : ℕ) (v : Value) where
  proper_either : (b : Bool) (w : Value) → Proper m v → Proper m w → Proper m (cond b v w)
  proper_either true w h g = h
  proper_either false w h g = g

  good_put : Good m → Proper m v → Good (put_field m x k v)
  good_put g h =
      record {
        count = g.count;
        registers = λ r. proper_same m (put_field m x k v) refl (register m r) (g.registers r);
        held = λ y j. proper_same m (put_field m x k v) refl ((put_field m x k v).field y j) (proper_either (same_thing x y && eqb k j) (m.field y j) h (g.held y j));
      }

  -- The field itself, and every other.
  pub value_here : (y : Thing) (j : ℕ) → same_thing x y && eqb k j ≡ true → ((put_field m x k v).field y j ≡ v) × (x ≡ y) × (k ≡ j)
  value_here y j e = let p = and_parts (same_thing x y) (eqb k j) e in (cond-true _ _ _ e, thing_true x y p.0, eqb-true k j p.1)

  pub value_there : (y : Thing) (j : ℕ) → same_thing x y && eqb k j ≡ false → ((put_field m x k v).field y j ≡ m.field y j) × (y ≡ x → j ≢ k)
  value_there y j e =
      (cond-false _ _ _ e, λ f g. ⊎_elim (λ h. both ((thing_decides x y).1 (sym f)) h) (λ h. eqb-false k j h (sym g)) (and_cases (same_thing x y) (eqb k j) e))
    where
      both : same_thing x y ≡ true → same_thing x y ≡ false → ⊥
      both s t = let z : ◌≡◌ {A = Bool} true false = sym s ∙ t in let u : ◌≡◌ {A = ℕ} 0 1 = cc in omega arith

module _ (m : Model) (a : Arena) (o : Memory) (snd : Sound o) (x : Thing) (k cell : ℕ) (f : Field m a o x k cell) (v : Value) (d : Descriptor) (cd : Codes m a o v d) (pr : Proper m v)
    (r : Memory) (w : WroteDescriptor o cell d r) where
  abbrev sh : Shows m a o
  sh = f.shows

  abbrev m' : Model
  m' = put_field m x k v

  places_same : r.figures.places ≡ o.figures.places
  places_same = ap (λ (g : Figures). g.places) w.figures

  old_at : (y : Thing) (q : ℕ) → At m a o y q → At (put_field m x k v) a r y q
  old_at y q l =
      subst (λ (c : ℕ). Lies (size c m') a.bins a.order y q) (sym places_same) (lies_like (size o.figures.places m) (size o.figures.places m') (λ z h. size_same m (put_field m x k v) refl _ z) l)

  was_at : (y : Thing) (q : ℕ) → At (put_field m x k v) a r y q → At m a o y q
  was_at y q l =
      lies_like (size o.figures.places m') (size o.figures.places m) (λ z h. sym (size_same m (put_field m x k v) refl _ z)) (subst (λ (c : ℕ). Lies (size c m') a.bins a.order y q) places_same l)

  codes_still : (u : Value) (e : Descriptor) → Codes m a o u e → Codes (put_field m x k v) a r u e
  codes_still = coded_by old_at

  links_still : (n : ℕ) (ts : List Text) (e : Descriptor) → Links m a o n ts e → Links (put_field m x k v) a r n ts e
  links_still = linked_by old_at

  -- Every other cell of a thing.
  other_cell : (y : Thing) (q j : ℕ) → At m a o y q → j < size o.figures.places m y → (y ≡ x → j ≢ k) → q + j ≢ cell
  other_cell y q j l h n e =
      let i = f.cell_is in let g = f.few in let z = fields_size o.figures.places m x in
      ⊎_elim (λ s. n s.0 (let t = s.1 in omega arith)) (λ s. ⊎_elim (λ t. omega arith) (λ t. omega arith) s) (lies_apart (size o.figures.places m) l f.at)

  -- The same of a cell of a string that is none of its fields.
  past_fields : (t : Text) (q j : ℕ) → At m a o (string t) q → string_fields < j → j < string_cells o.figures.places (length t) → q + j ≢ cell
  past_fields t q j l g h = other_cell (string t) q j l h (λ e z. let y : fields m x ≡ string_fields = ap (fields m) (sym e) in let u = f.few in omega arith)

  laid_stored : Laid (put_field m x k v) a r
  laid_stored =
      record {
        «end» = rw places_same (let e = sh.laid.end in let z = total_like (size o.figures.places m) (size o.figures.places m') a.order (λ y h. size_same m (put_field m x k v) refl _ y) in omega arith);
        within = rw w.figures sh.laid.within;
        titled = λ y q l. (let lo = was_at y q l in
            let z : q + 0 ≡ q = omega arith in
            let n = other_cell y q 0 lo (let u = fields_size o.figures.places m y in omega arith) (λ e g. let u = f.some in omega arith) in
            w.descriptors q (λ e. n (z ∙ e)) ∙ sh.laid.titled y q lo ∙ sym (title_same m (put_field m x k v) refl y q));
        coded = λ y q j l j1 j2. (let lo = was_at y q l in
            let j3 : j ≤ fields m y = (let e = fields_same m (put_field m x k v) refl y in omega arith) in
            ⊎_elim (λ e. here y q j lo (value_here m x k v y j e)) (λ e. there y q j lo j1 j3 (value_there m x k v y j e)) (cases_Bool (same_thing x y && eqb k j)));
      }
    where
      here : (y : Thing) (q j : ℕ) → At m a o y q → (((put_field m x k v).field y j ≡ v) × (x ≡ y) × (k ≡ j)) → Codes (put_field m x k v) a r ((put_field m x k v).field y j) (r.descriptor (q + j))
      here y q j l s =
          let lx = subst (λ (z : Thing). At m a o z q) (sym s.1) l in
          let p = lies_one (size o.figures.places m) sh.lawful.once f.at lx in
          let e : q + j ≡ cell = (let i = f.cell_is in let g = s.2 in omega arith) in
          subst (λ (u : Value). Codes m' a r u (r.descriptor (q + j))) (sym s.0)
          (subst (λ (u : Descriptor). Codes m' a r v u) (sym (ap (λ (c : ℕ). r.descriptor c) e ∙ w.here)) (codes_still v d cd))

      there : (y : Thing) (q j : ℕ) → At m a o y q → 1 ≤ j → j ≤ fields m y → (((put_field m x k v).field y j ≡ m.field y j) × (y ≡ x → j ≢ k)) →
          Codes (put_field m x k v) a r ((put_field m x k v).field y j) (r.descriptor (q + j))
      there y q j l j1 j2 s =
          let n = other_cell y q j l (let u = fields_size o.figures.places m y in omega arith) s.1 in
          subst (λ (u : Value). Codes m' a r u (r.descriptor (q + j))) (sym s.0)
          (subst (λ (u : Descriptor). Codes m' a r (m.field y j) u) (sym (w.descriptors (q + j) n)) (codes_still _ _ (sh.laid.coded y q j l j1 j2)))

  lawful_stored : Lawful (put_field m x k v) a
  lawful_stored =
      record {
        some_bins = sh.lawful.some_bins;
        few_bins = sh.lawful.few_bins;
        good = good_put m x k v sh.lawful.good pr;
        once = sh.lawful.once;
        sized = λ y h. sized_same m (put_field m x k v) refl y (sh.lawful.sized y h);
        valued = λ t j j1 j2 n. ⊎_elim
            (λ e. subst (λ (y : Thing). In y a.order) (value_here m x k v (string t) j e).1 (lies_in (size o.figures.places m) f.at))
            (λ e. sh.lawful.valued t j j1 j2 (λ z. n ((value_there m x k v (string t) j e).0 ∙ z))) (cases_Bool (same_thing x (string t) && eqb k j));
        chained = sh.lawful.chained;
        in_chain = sh.lawful.in_chain;
        chain_once = sh.lawful.chain_once;
        rising = sh.lawful.rising;
      }

  threaded_stored : Threaded (put_field m x k v) a r
  threaded_stored =
      record {
        heads = λ b l. rw (w.descriptors b (λ e. let z = lies_from (size o.figures.places m) f.at in let i = f.cell_is in omega arith)) (links_still _ _ _ (sh.threaded.heads b l));
        links = λ b t rest p l n y. (let lo = was_at (string t) p y in
            let z : p + 3 ≡ p + 1 + string_fields = omega arith in
            let u = past_fields t p 3 lo (omega arith) (omega arith) in
            rw (w.descriptors (p + 1 + string_fields) (λ e. u (z ∙ e))) (links_still _ _ _ (sh.threaded.links b t rest p l n lo)));
      }

  old_char : (t : Text) (q j i : ℕ) → At m a o (string t) q → 4 + j < string_cells o.figures.places (length t) → r.character (q + 2 + string_fields + j) i ≡ o.character (q + 2 + string_fields + j) i
  old_char t q j i l h =
      let z : q + (4 + j) ≡ q + 2 + string_fields + j = omega arith in
      w.characters (q + 2 + string_fields + j) i (λ e. past_fields t q (4 + j) l (omega arith) h (z ∙ e))

  spelled_stored : Spelled (put_field m x k v) a r
  spelled_stored =
      record {
        spelled = λ t q j l h. rw places_same (spelled_still m a o snd sh r old_char t q j (was_at (string t) q l) h);
        padded = λ t q j l h. rw (places_same, ap (λ (g : Figures). g.lowest) w.figures) (padded_still m a o snd sh r old_char t q j (was_at (string t) q l) h);
      }

  pub field_stored : Stored m a o x k v r
  field_stored =
      record {
        figures = w.figures;
        shows = record { lawful = lawful_stored; laid = laid_stored; threaded = threaded_stored; spelled = spelled_stored };
        codes = codes_still;
      }
