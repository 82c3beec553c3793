use Rattle.heap.proofs.Outcomes.{ok_not_err}
use Rattle.heap.proofs.Chains.{heading_led, heading_below, heading_more}
use Rattle.heap.proofs.threading.thread_heads.Goals as goal

pub returns-in_err-relink : goal.returns-in_err-relink
returns-in_err-relink g c ts head w low h =
    let s = c.loop-b.invariant ts head w low h in
    ok_not_err (c.relink.ensures ts _ (heading_below _ ts c.args.bins low head c.loop-b.b _ s c.loop-b-test.true w) (heading_led _ ts c.args.bins low head c.loop-b.b _ s c.loop-b-test.true _ h)).0 c.in_err-relink.was

pub loop-b-preserved : goal.loop-b-preserved
loop-b-preserved g c ts head w low h =
    let s = c.loop-b.invariant ts head w low h in
    heading_more _ ts c.args.bins low head c.loop-b.b _ s c.loop-b-test.true _
    (c.relink.ensures ts _ (heading_below _ ts c.args.bins low head c.loop-b.b _ s c.loop-b-test.true w) (heading_led _ ts c.args.bins low head c.loop-b.b _ s c.loop-b-test.true _ h)).1
