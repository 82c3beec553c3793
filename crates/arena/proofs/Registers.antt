-- A value in a register: the same arena shows the model with that register changed.
use Rattle.std.proofs.Common.{ℕ, zero, suc, List, [], ◌∷◌, get_or, set, sym, refl, ◌∙◌, arith, length-set}
use Rattle.cells.specs.declared.Descriptor.{Descriptor}
use Rattle.cells.specs.Meaning.{Memory}
use Rattle.rules.specs.Model.{Text, Thing, string, Value, null, Model, size}
use Rattle.rules.specs.Arena.{Proper, Good, Arena, Shows, At, Codes, Links}
use Rattle.rules.specs.Calls.{put}
use Rattle.rules.proofs.Lies.{lies_like, total_like}
use Rattle.arena.proofs.Alike.{fields_same, size_same, title_same, sized_same, proper_same, coded_by, linked_by}

module _ (m : Model) (r : ℕ) (v : Value) where
  proper_set : (l : List Value) (i s : ℕ) → Proper m v → Proper m (get_or l s null) → Proper m (get_or (set l i v) s null)
  proper_set [] i s h k = k
  proper_set (w ∷ ws) zero zero h k = h
  proper_set (w ∷ ws) zero (suc s) h k = k
  proper_set (w ∷ ws) (suc i) zero h k = k
  proper_set (w ∷ ws) (suc i) (suc s) h k = proper_set ws i s h k

  good_put : Good m → Proper m v → Good (put m r v)
  good_put g h =
      record {
        count = length-set m.registers r v ∙ g.count;
        registers = λ s. proper_same m (put m r v) refl _ (proper_set m.registers r s h (g.registers s));
        held = λ x k. proper_same m (put m r v) refl _ (g.held x k);
      }

  module _ (a : Arena) (o : Memory) where
    at_put : (x : Thing) (p : ℕ) → At m a o x p → At (put m r v) a o x p
    at_put x p l = lies_like (size o.figures.places m) (size o.figures.places (put m r v)) (λ z h. size_same m (put m r v) refl _ z) l

    at_was : (x : Thing) (p : ℕ) → At (put m r v) a o x p → At m a o x p
    at_was x p l = lies_like (size o.figures.places (put m r v)) (size o.figures.places m) (λ z h. sym (size_same m (put m r v) refl _ z)) l

    pub codes_put : (w : Value) (d : Descriptor) → Codes m a o w d → Codes (put m r v) a o w d
    codes_put = coded_by at_put

    links_put : (n : ℕ) (ts : List Text) (d : Descriptor) → Links m a o n ts d → Links (put m r v) a o n ts d
    links_put = linked_by at_put

    pub shows_put : Shows m a o → Proper m v → Shows (put m r v) a o
    shows_put sh h =
        record {
          lawful = record {
            some_bins = sh.lawful.some_bins;
            few_bins = sh.lawful.few_bins;
            good = good_put sh.lawful.good h;
            once = sh.lawful.once;
            sized = λ x i. sized_same m (put m r v) refl x (sh.lawful.sized x i);
            valued = sh.lawful.valued;
            chained = sh.lawful.chained;
            in_chain = sh.lawful.in_chain;
            chain_once = sh.lawful.chain_once;
            rising = sh.lawful.rising;
          };
          laid = record {
            «end» = (let e = sh.laid.end in let z = total_like (size o.figures.places m) (size o.figures.places (put m r v)) a.order (λ x i. size_same m (put m r v) refl _ x) in omega arith);
            within = sh.laid.within;
            titled = λ x p l. sh.laid.titled x p (at_was x p l) ∙ sym (title_same m (put m r v) refl x p);
            coded = λ x p k l k1 k2. codes_put _ _ (sh.laid.coded x p k (at_was x p l) k1 (let e = fields_same m (put m r v) refl x in omega arith));
          };
          threaded = record {
            heads = λ b l. links_put _ _ _ (sh.threaded.heads b l);
            links = λ b t rest p l n y. links_put _ _ _ (sh.threaded.links b t rest p l n (at_was (string t) p y));
          };
          spelled = record {
            spelled = λ t p j l i. sh.spelled.spelled t p j (at_was (string t) p l) i;
            padded = λ t p j l i k. sh.spelled.padded t p j (at_was (string t) p l) i k;
          };
        }
