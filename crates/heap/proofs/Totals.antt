-- Marking, layout, relocation, chains and packing, from a memory that shows a model to one that shows what is kept of it.
use Rattle.std.proofs.Common.{◌≡◌, ℕ, ◌+◌, ◌<◌, ◌≤◌, ◌⊎◌, List, [], ◌∷◌, length, get_or, refl, ap, ◌∙◌, inl, inr, arith}
use Rattle.cells.specs.declared.Descriptor.{Descriptor}
use Rattle.cells.specs.Meaning.{Memory, Figures, Sound}
use Rattle.rules.specs.Model.{Text, Thing, string, Model, register, string_fields, size, Reach, from_register}
use Rattle.rules.specs.Lists.{In, total, Keeps}
use Rattle.rules.specs.Arena.{null_desc, Coded, Arena, Shows, places, At, Codes, titles_of}
use Rattle.rules.proofs.Lies.{lies_in, lies_from, lies_end, lies_one, lies_place, place_lies}
use Rattle.rules.proofs.Reach.{keeps_exactly}
use Rattle.arena.specs.Titles.{cells_of}
use Rattle.heap.specs.Marks.{IsMarked, Aims, Valued, still, marked, root, by_register, Rooted, Marked}
use Rattle.heap.specs.Walks.{length_at, Tiled, begin, Tabled, Packed, Renewed}
use Rattle.heap.specs.Moves.{Ready, Relocated, Shifting}
use Rattle.heap.specs.Threads.{link_cell, Linkable, Headed, Rethreaded}
use Rattle.heap.specs.Regeneration.{Regenerated}
use Rattle.heap.proofs.Queues.{queued}
use Rattle.heap.proofs.Lifts.{reach_down, reach_up, valued_as, count_at}
use Rattle.heap.proofs.Orders.{cells_title, kind_title_some, size_some, follows, apart_things, one_thing}
use Rattle.heap.proofs.Stages.{mark_of, length_same, four_same, tiled_marked, renewed, ready_of, forwarded, table_fits, link_now}
use Rattle.heap.proofs.Ends.{kept, kept_keeps, coded_after, laid_after, spelled_after, ends_at}
use Rattle.heap.proofs.Sifts.{lawful_kept}
use Rattle.heap.proofs.Afters.{chain', sifted, threaded_after, link, head, linkable, headed}
use Rattle.heap.proofs.Paths.{to_one}

module _ (m : Model) (a : Arena) (m0 : Memory) (snd : Sound m0) (sh : Shows m a m0) where
  abbrev sz : Thing → ℕ
  sz = size m0.figures.places m

  length_title : (x : Thing) (p : ℕ) → At m a m0 x p → length_at m0 p ≡ size m0.figures.places m x
  length_title x p l = ap (cells_of m0.figures.places) (sh.laid.titled x p l) ∙ cells_title m0.figures.places m x p

  pub tiled : Tiled m0 (titles_of m a m0) a.bins a.«next»
  tiled =
      record {
        start = begins a.order sh.laid.end;
        step = λ p h. (let w = place_lies sz _ _ p h in rw (length_title w.0 p w.1, sh.laid.end) (follows sz _ _ w.0 p w.1));
        gap = λ p q h k l. (let w = place_lies sz _ _ p h in let v = place_lies sz _ _ q k in
            rw (length_title w.0 p w.1) (apart_things sz (size_some m0.figures.places m) _ _ w.0 v.0 p q w.1 v.1 l));
        low = λ p h. (let w = place_lies sz _ _ p h in lies_from sz w.1);
        high = λ p h. (let w = place_lies sz _ _ p h in rw (length_title w.0 p w.1, sh.laid.end) (lies_end sz w.1));
        some = λ p h. (let w = place_lies sz _ _ p h in rw (sh.laid.titled w.0 p w.1) (kind_title_some m w.0 p (sh.lawful.sized w.0 (lies_in sz w.1))).0);
        few = λ p h. (let w = place_lies sz _ _ p h in rw (sh.laid.titled w.0 p w.1) (kind_title_some m w.0 p (sh.lawful.sized w.0 (lies_in sz w.1))).1);
        within = sh.laid.within;
        places = snd.one_place;
      }
    where
      begins : (xs : List Thing) → a.«next» ≡ a.bins + total (size m0.figures.places m) xs → In a.bins (places (size m0.figures.places m) a.bins xs) ⊎ (a.bins ≡ a.«next»)
      begins [] e = inr (omega arith)
      begins (x ∷ xs) e = inl (inl refl)

  module _ (rs : List Descriptor) (same_length : length rs ≡ length m.registers)
      (regs : (r : ℕ) → r < length m.registers → Codes m a m0 (register m r) (get_or rs r null_desc))
      (ws₀ : List ℕ) (n₀ : ℕ) (ro : Rooted m0 (titles_of m a m0) rs ws₀ n₀)
      (ws : List ℕ) (n : ℕ) (o : Memory) (mk : Marked m0 (titles_of m a m0) ws₀ n₀ ws n o) where
    abbrev ts : List ℕ
    ts = titles_of m a m0

    pub mark_down : (x : Thing) (p : ℕ) → At m a m0 x p → Reach m x → IsMarked o p
    mark_down x p l r =
        let w = reach_down m a m0 snd sh rs same_length regs ws₀ n₀ ro x r in
        let e = lies_one sz sh.lawful.once l w.1 in
        mark_of m0 ts ws₀ n₀ ws n o mk p (lies_place sz _ _ x p l) (rw e (mk.exact w.0 w.2))

    pub mark_up : (x : Thing) (p : ℕ) → At m a m0 x p → IsMarked o p → Reach m x
    mark_up x p l z =
        let w = reach_up m a m0 snd sh rs same_length regs ws₀ n₀ ro p (mk.only p (queued m0 ts ws n o mk.queue p (lies_place sz _ _ x p l) z)) in
        let e = one_thing sz (size_some m0.figures.places m) a.bins a.order w.0 x p p w.1 l refl in
        rw e at w.2

    length_marked : (y : Thing) (q : ℕ) → At m a m0 y q → length_at o q ≡ size m0.figures.places m y
    length_marked y q l = (length_same m0 ts ws₀ n₀ ws n o mk q (lies_place sz _ _ y q l)).0 ∙ length_title y q l

    -- What a register points at is marked.
    register_marked : (i : ℕ) → i < length rs → (q : ℕ) → Aims m0 (titles_of m a m0) (get_or rs i null_desc) q → IsMarked o q
    register_marked i l q x = mark_of m0 ts ws₀ n₀ ws n o mk q x.title (mk.exact q (root (ro.exact q (by_register i l x))))

    register_valued : (i : ℕ) → i < length rs → Valued m0 (titles_of m a m0) (get_or rs i null_desc)
    register_valued i l = let l' : i < length m.registers = omega arith in valued_as m a m0 snd sh _ _ (regs i l') (sh.lawful.good.registers i)

    tl : Tiled o (titles_of m a m0) a.bins a.«next»
    tl = tiled_marked m0 ts ws₀ n₀ ws n o mk a.bins a.«next» tiled

    fits : (y : Thing) (q : ℕ) → At m a m0 y q → In q (titles_of m a m0) × (length_at o q ≡ size m0.figures.places m y)
    fits y q l = (lies_place sz _ _ y q l, length_marked y q l)

    module _ (t : ℕ) (tb : List ℕ) (long : m0.figures.cells ≤ length tb) (tab : Tabled o (titles_of m a m0) a.bins a.«next» a.«next» t tb) where
      pub registers_ready : (i : ℕ) → i < length rs → Ready o tb (get_or rs i null_desc)
      registers_ready i l = ready_of m0 ts ws₀ n₀ ws n o mk a.bins a.«next» t tiled tb long tab _ (register_valued i l) (register_marked i l)

      registers_coded : (rs' : List Descriptor) → Shifting o tb rs (length rs) rs' → (i : ℕ) → i < length m.registers →
          Coded (size m0.figures.places m) a.bins (kept o (size m0.figures.places m) a.bins a.order) (register m i) (get_or rs' i null_desc)
      registers_coded rs' sf i l =
          let l' : i < length rs = omega arith in
          coded_after m a m0 snd sh o tl length_marked mark_down mark_up _ _ _ (regs i l) (sh.lawful.good.registers i) (λ y pt. from_register i l pt)
          (forwarded m0 ts ws₀ n₀ ws n o mk a.bins a.«next» t tiled tb long tab _ _ (register_valued i l') (register_marked i l') (sf.done i l'))

      module _ (r : Memory) (rl : Relocated o (titles_of m a m0) tb a.bins a.«next» a.«next» r) where
        fg : r.figures ≡ m0.figures
        fg = rl.figures ∙ mk.queue.figures

        link_kept : (x : Text) (p : ℕ) → At m a m0 (string x) p → r.descriptor (link_cell p) ≡ m0.descriptor (link_cell p)
        link_kept x p l =
            let e : p + (1 + string_fields) ≡ link_cell p = omega arith in
            rw e at (link_now m0 ts ws₀ n₀ ws n o mk a.bins a.«next» t tiled tb long tab r rl p (1 + string_fields) (lies_place sz _ _ (string x) p l)
            (let c = count_at m a m0 snd sh (string x) p l in omega arith) (let e = length_title (string x) p l in omega arith))

        head_kept : (b : ℕ) → b < a.bins → r.descriptor b ≡ m0.descriptor b
        head_kept b l =
            rl.rest b (inl l) ∙ elim (mk.queue.states b) [
              | still ne d ch ↦ d
              | marked i d ↦ absurd (let h = tiled.low b (rw i.2 at (mk.queue.titles i.0 i.1)) in omega arith)
            ]

        pub new_link : ℕ → Descriptor
        new_link = link m a m0 snd sh o tl length_marked mark_down mark_up r tb fg (four_same m0 ts ws₀ n₀ ws n o mk) rl.titles link_kept head_kept
            (table_fits m0 ts ws₀ n₀ ws n o mk a.bins a.«next» t tiled tb long tab)

        pub new_head : ℕ → Descriptor
        new_head = head m a m0 snd sh o tl length_marked mark_down mark_up r tb fg (four_same m0 ts ws₀ n₀ ws n o mk) rl.titles link_kept head_kept
            (table_fits m0 ts ws₀ n₀ ws n o mk a.bins a.«next» t tiled tb long tab)

        pub new_linkable : Linkable r (titles_of m a m0) tb new_link
        unfolding new_link
        new_linkable = linkable m a m0 snd sh o tl length_marked mark_down mark_up r tb fg (four_same m0 ts ws₀ n₀ ws n o mk) rl.titles link_kept head_kept
            (table_fits m0 ts ws₀ n₀ ws n o mk a.bins a.«next» t tiled tb long tab)

        pub new_headed : Headed r (titles_of m a m0) tb a.bins new_head
        unfolding new_head
        new_headed = headed m a m0 snd sh o tl length_marked mark_down mark_up r tb fg (four_same m0 ts ws₀ n₀ ws n o mk) rl.titles link_kept head_kept
            (table_fits m0 ts ws₀ n₀ ws n o mk a.bins a.«next» t tiled tb long tab)

        module _ (v f : Memory) (rt : Rethreaded r (titles_of m a m0) a.bins new_link new_head v) (pk : Packed v (titles_of m a m0) a.bins a.«next» f) where
          rn : Renewed m0 o (titles_of m a m0) a.bins new_link new_head f
          rn = renewed m0 ts ws₀ n₀ ws n o mk a.bins a.«next» t tiled tb long tab r v f new_link new_head rl rt pk

          abbrev order' : List Thing
          order' = kept o (size m0.figures.places m) a.bins a.order

          chains : ℕ → List Text
          chains = chain' m a m0 snd sh o tl length_marked mark_down mark_up

          kept_order : Keeps (Reach m) a.order order'
          kept_order = kept_keeps o sz (Reach m) a.bins a.order mark_up mark_down

          kept_chains : (b : ℕ) → b < a.bins → Keeps (λ (x : Text). Reach m (string x)) (a.chain b) (chains b)
          unfolding chains
          kept_chains = sifted m a m0 snd sh o tl length_marked mark_down mark_up

          end_same : t ≡ a.bins + total (size m0.figures.places m) order'
          end_same =
              let g = ends_at o ts a.bins sz a.bins a.bins a.order fits (begin refl refl) in
              to_one o ts a.bins a.«next» tl a.«next» t _ tab.goes (rw (← sh.laid.end) at g)

          shows_after : Shows m (record { bins = a.bins; «next» = a.bins + total (size m0.figures.places m) order'; order = order'; chain = chains }) f
          unfolding chains new_link new_head
          shows_after =
              record {
                lawful = lawful_kept m a sh.lawful order' chains kept_order kept_chains _;
                laid = laid_after m a m0 snd sh o tl length_marked mark_down mark_up new_link new_head f rn chains;
                threaded = threaded_after m a m0 snd sh o tl length_marked mark_down mark_up r tb fg (four_same m0 ts ws₀ n₀ ws n o mk) rl.titles link_kept head_kept
                    (table_fits m0 ts ws₀ n₀ ws n o mk a.bins a.«next» t tiled tb long tab) _ f rn;
                spelled = spelled_after m a m0 snd sh o tl length_marked mark_down mark_up new_link new_head f rn chains;
              }

          pub regenerated : (rs' : List Descriptor) → Shifting o tb rs (length rs) rs' → Regenerated m a m0 a.bins t rs' tb f
          regenerated rs' sf =
              record {
                after = record { bins = a.bins; «next» = a.bins + total (size m0.figures.places m) order'; order = order'; chain = chains };
                same_bins = refl;
                order = kept_order;
                exactly = keeps_exactly m sh.lawful.once (λ x re. lies_in sz (reach_down m a m0 snd sh rs same_length regs ws₀ n₀ ro x re).1) kept_order;
                chains = kept_chains;
                figures = rn.figures;
                shown = record {
                  shows = shows_after;
                  bins_is = refl;
                  end_is = end_same;
                  same_length = sf.same_length ∙ same_length;
                  registers = rw (ap (λ (x : Figures). x.places) rn.figures) (registers_coded rs' sf);
                  room = rw (ap (λ (x : Figures). x.cells) rn.figures) long;
                };
              }
