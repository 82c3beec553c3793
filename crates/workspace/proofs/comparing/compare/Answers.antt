use Rattle.std.proofs.Common.{◌≡◌, vec_items, Ok, rules}
use Rattle.rules.specs.Model.{empty}
use Rattle.arena.specs.Opening.{empty_arena}
use Rattle.workspace.specs.Shown.{view}
use Rattle.workspace.specs.Logs.{entries, calls_of}
use Rattle.workspace.specs.Comparing.{with_bins, Ready}
use Rattle.workspace.proofs.Comparisons.{both_logs}
use Rattle.workspace.proofs.comparing.compare.Goals as goal

pub returns : goal.returns
returns g c =
    let same : c.opened.result ≡ Ok c.in_ok-first.first = search rules in
    let first : Ready (with_bins (g.A.Store.memory c.args.a).figures c.args.a_bins) (view g.A.Store.memory c.in_ok-first.first) = search (rules, same) in
    let same-2 : c.opened-2.result ≡ Ok c.in_ok-second.second = search rules in
    let second : Ready (with_bins (g.B.Store.memory c.args.b).figures c.args.b_bins) (view g.B.Store.memory c.in_ok-second.second) = search (rules, same-2) in
    both_logs (with_bins (g.A.Store.memory c.args.a).figures c.args.a_bins) (view g.A.Store.memory c.in_ok-first.first)
    (with_bins (g.B.Store.memory c.args.b).figures c.args.b_bins) (view g.B.Store.memory c.in_ok-second.second) (calls_of c.args.calls.now)
    (entries (vec_items c.in_ok-x.x)) (entries (vec_items c.in_ok-y.y)) (view g.A.Store.memory c.log.new.self) (view g.B.Store.memory c.log-2.new.self)
    first second
    (c.in_ok-x.ensures empty (empty_arena c.args.a_bins) first.shown) (c.in_ok-y.ensures empty (empty_arena c.args.b_bins) second.shown)
