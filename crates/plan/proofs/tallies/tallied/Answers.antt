use Rattle.std.proofs.Common.{ℕ, ◌+◌, ◌%◌, get_or, vec_items, sym, ap, arith}
use Rattle.std.proofs.lemmas.List.{length-map, length-take}
use Rattle.std.proofs.lemmas.Nat.{mod_below}
use Rattle.plan.specs.Names.{name_texts}
use Rattle.plan.proofs.Counts.{bounded, counted_none, counted_unfit, counted_fit, few_cells, few_in_bin, counted_all, fit_small, no_name, texts_more, texts_all}
use Rattle.plan.proofs.tallies.tallied.Goals as goal
use Rattle.plan.proofs.tallies.tallied.Goals.{in-Some, in_default}

pub loop-name-init : goal.loop-name-init
loop-name-init g c = counted_none (g.S.Store.memory c.args.store.now).figures c.args.bins (vec_items c.in_ok-by_bin.by_bin) (c.in_ok-by_bin.ensures.items_if_clones_equal (λ y e. e))

pub loop-name-preserved : goal.loop-name-preserved
loop-name-preserved g c =
    let more = texts_more c.args.names.now c.loop-name.name-index c.loop-name-test.true in
    let bins = bounded 1 256 c.args.bins c.new.ensures.start c.new.ensures.end c.if-not-contains.ensures.cases in
    elim c.match-cells_in.branch [
      | in-Some w ↦ rw (w.held-is, w.cells-is, w.by_bin-is, more)
          (counted_fit c.loop-name.invariant _ w.in-Some.taken w.in-Some.ensures (w.key_of.result % c.args.bins) (ap (λ (k : ℕ). k % c.args.bins) w.key_of.ensures)
          (mod_below w.key_of.result c.args.bins bins.0) w.index_mut.result.now w.index_mut.ensures.value)
      | in_default w ↦ rw (w.held-is, w.cells-is, w.by_bin-is, more) (counted_unfit c.loop-name.invariant _ w.in_default.ensures)
    ]

pub overflow_add-cells : goal.overflow_add-cells
overflow_add-cells g c =
    omega (
      arith,
      few_cells c.loop-name.invariant,
      fit_small (g.S.Store.memory c.args.store.now).figures (get_or c.args.names.now c.loop-name.name-index no_name).0.now c.in-Some.taken c.in-Some.ensures,
      length-take c.loop-name.name-index (name_texts c.args.names.now),
    )

pub overflow_add-index_mut : goal.overflow_add-index_mut
overflow_add-index_mut g c =
    let bins = bounded 1 256 c.args.bins c.new.ensures.start c.new.ensures.end c.if-not-contains.ensures.cases in
    omega (
      arith,
      few_in_bin c.loop-name.invariant (c.key_of.result % c.args.bins) (mod_below c.key_of.result c.args.bins bins.0) c.index_mut.result.now c.index_mut.ensures.value,
      length-take c.loop-name.name-index (name_texts c.args.names.now),
    )

pub overflow_add-result : goal.overflow_add-result
overflow_add-result g c =
    omega (
      arith,
      bounded 1 256 c.args.bins c.new.ensures.start c.new.ensures.end c.if-not-contains.ensures.cases,
      few_cells c.loop-name.invariant,
      length-take c.loop-name.name-index (name_texts c.args.names.now),
      length-map c.args.names.now (λ n. n.0.now),
    )

pub returns : goal.returns
returns g c =
    let e = length-map c.args.names.now (λ n. n.0.now) in
    let bins = bounded 1 256 c.args.bins c.new.ensures.start c.new.ensures.end c.if-not-contains.ensures.cases in
    let all = counted_all c.loop-name.invariant (name_texts c.args.names.now) (texts_all c.args.names.now c.loop-name.name-index c.loop-name-test.false) in (
      bins.0,
      bins.1,
      omega arith,
      record {
        distinct = sym e;
        names = all.names;
        cells = all.cells;
        arena = ap (λ n. c.args.bins + n) all.cells;
        every_bin = all.every;
        by_bin = all.each;
      },
    )
