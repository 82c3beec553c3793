-- The stages of regeneration one after another, at the numbers that the code has.
use Rattle.std.proofs.Common.{◌≡◌, ℕ, ◌<◌, ◌≤◌, ◌⊎◌, List, length, get_or, ap, ◌∙◌, subst, ⊎_elim, arith}
use Rattle.cells.specs.declared.Descriptor.{Descriptor}
use Rattle.cells.specs.Meaning.{Memory, Figures}
use Rattle.rules.specs.Model.{Model}
use Rattle.rules.specs.Lists.{In}
use Rattle.rules.specs.Arena.{null_desc, Arena, titles_of}
use Rattle.heap.specs.Walks.{Tiled, Tabled, Packed}
use Rattle.heap.specs.Moves.{Ready, Relocated, Prepared, Shifting}
use Rattle.heap.specs.Threads.{Linkable, Threading, Headed, Heading, Rethreaded}
use Rattle.heap.specs.Regeneration.{Begun, Traced, Regenerated}
use Rattle.heap.proofs.Stages.{tiled_marked, tiled_titles, to_same, prepared}
use Rattle.heap.proofs.Chains.{rethreaded, threading_led}
use Rattle.heap.proofs.Totals.{tiled, registers_ready, new_link, new_head, new_linkable, new_headed, regenerated}

start_tiled : {m : Model} {a : Arena} {m0 : Memory} {rs : List Descriptor} {bins end : ℕ} {ws : List ℕ} {n : ℕ} {o : Memory} → Begun m a m0 rs bins end ws n o →
    Tiled m0 (titles_of m a m0) bins end
start_tiled {m} {a} {m0} b = rw (b.bins_is, b.end_is) (tiled m a m0 b.sound b.shows)

module _ {m : Model} {a : Arena} {m0 : Memory} {rs : List Descriptor} {bins end : ℕ} {ws : List ℕ} {o : Memory} (x : Traced m a m0 rs bins end ws o) where
  pub stage_tiled : Tiled o (titles_of m a m0) bins end
  stage_tiled = tiled_marked m0 _ x.roots x.first ws x.tail o x.marked bins end (start_tiled x.begun)

  pub stage_room : o.figures.cells ≤ length ws
  stage_room = let e = ap (λ (x : Figures). x.cells) x.marked.queue.figures in let r = x.marked.queue.room in omega arith

-- Layout is over too: the table tb has the new cells.
module _ {m : Model} {a : Arena} {m0 : Memory} {rs : List Descriptor} {bins end t : ℕ} {ws tb : List ℕ} {o : Memory} (x : Traced m a m0 rs bins end ws o)
    (long : length tb ≡ length ws) (tabled : Tabled o (titles_of m a m0) bins end end t tb) where
  b : Begun m a m0 rs bins end x.roots x.first x.start
  b = x.begun

  long_enough : m0.figures.cells ≤ length tb
  long_enough = let r = x.marked.queue.room in let l = long in omega arith

  tab' : Tabled o (titles_of m a m0) a.bins a.«next» a.«next» t tb
  tab' = rw (b.bins_is, b.end_is) at tabled

  pub stage_prepared : Prepared o (titles_of m a m0) tb
  stage_prepared = prepared m0 _ x.roots x.first ws x.tail o x.marked bins end t (start_tiled b) tb long_enough tabled

  pub stage_ready : (i : ℕ) → i < length rs → Ready o tb (get_or rs i null_desc)
  stage_ready = registers_ready m a m0 b.sound b.shows rs b.same_length b.registers x.roots x.first b.rooted ws x.tail o x.marked t tb long_enough tab'

  module _ {r : Memory} (rl : Relocated o (titles_of m a m0) tb bins end end r) where
    rl' : Relocated o (titles_of m a m0) tb a.bins a.«next» a.«next» r
    rl' = rw (b.bins_is, b.end_is) at rl

    pub stage_link : ℕ → Descriptor
    stage_link = new_link m a m0 b.sound b.shows rs b.same_length b.registers x.roots x.first b.rooted ws x.tail o x.marked t tb long_enough tab' r rl'

    pub stage_head : ℕ → Descriptor
    stage_head = new_head m a m0 b.sound b.shows rs b.same_length b.registers x.roots x.first b.rooted ws x.tail o x.marked t tb long_enough tab' r rl'

    pub stage_linkable : Linkable r (titles_of m a m0) tb stage_link
    unfolding stage_link
    stage_linkable = new_linkable m a m0 b.sound b.shows rs b.same_length b.registers x.roots x.first b.rooted ws x.tail o x.marked t tb long_enough tab' r rl'

    pub thread_tiled : Tiled r (titles_of m a m0) bins end
    thread_tiled = tiled_titles o r _ bins end rl.figures rl.titles (stage_tiled x)

    module _ {u : Memory} (th : Threading r (titles_of m a m0) stage_link end end u) where
      pub heads_below : bins ≤ u.figures.cells
      heads_below = bound thread_tiled.start
        where
          bound : (In bins (titles_of m a m0) ⊎ (bins ≡ end)) → bins ≤ u.figures.cells
          bound s =
              let e = ap (λ (x : Figures). x.cells) th.figures in let w = thread_tiled.within in
              ⊎_elim (λ h. let x = thread_tiled.high bins h in omega arith) (λ z. omega arith) s

      pub heads_low : (q : ℕ) → In q (titles_of m a m0) → bins ≤ q
      heads_low = thread_tiled.low

      pub stage_headed : Headed u (titles_of m a m0) tb bins stage_head
      unfolding stage_head
      stage_headed i l =
          let l' : i < a.bins = rw b.bins_is at l in
          threading_led r _ bins end thread_tiled stage_link end u th tb _ _ _
          (th.descriptors i (λ q k x e. let y = thread_tiled.low q k.0 in omega arith))
          (new_headed m a m0 b.sound b.shows rs b.same_length b.registers x.roots x.first b.rooted ws x.tail o x.marked t tb long_enough tab' r rl' i l')

      module _ {v : Memory} (hd : Heading u stage_head bins v) where
        rt : Rethreaded r (titles_of m a m0) bins stage_link stage_head v
        rt = rethreaded r _ bins end thread_tiled stage_link stage_head u v th hd

        pub pack_tiled : Tiled v (titles_of m a m0) bins end
        pack_tiled = tiled_titles r v _ bins end rt.figures rt.titles thread_tiled

        pub pack_room : v.figures.cells ≤ length tb
        pack_room = let e = ap (λ (x : Figures). x.cells) (rt.figures ∙ rl.figures) in let s = stage_room x in let l = long in omega arith

        titles_v : (q : ℕ) → In q (titles_of m a m0) → v.descriptor q ≡ o.descriptor q
        titles_v q h = rt.titles q h ∙ rl.titles q h

        pub pack_tabled : Tabled v (titles_of m a m0) bins end end t tb
        pack_tabled =
            record {
              stop = tabled.stop;
              goes = to_same o v _ bins (rt.figures ∙ rl.figures) titles_v end t tabled.goes;
              table = λ q h l z. to_same o v _ bins (rt.figures ∙ rl.figures) titles_v q _ (tabled.table q h l (λ y. z (rw (titles_v q h) y)));
            }

        pub stage_last : (f : Memory) (rs' : List Descriptor) (free : ℕ) → free ≡ t → Packed v (titles_of m a m0) bins end f → Shifting o tb rs (length rs) rs' →
            Regenerated m a m0 bins free rs' tb f
        unfolding stage_link stage_head
        stage_last f rs' free e pk sf =
            rw (b.bins_is, e) (regenerated m a m0 b.sound b.shows rs b.same_length b.registers x.roots x.first b.rooted ws x.tail o x.marked t tb long_enough tab' r rl' v f
            (subst (λ (x : ℕ). Rethreaded r (titles_of m a m0) x stage_link stage_head v) b.bins_is rt) (rw (b.bins_is, b.end_is) at pk) rs' sf)
