use Rattle.std.proofs.Common.{refl}
use Rattle.cells.proofs.Acts.{descriptor_written}
use Rattle.heap.proofs.Outcomes.{ok_same, ok_not_err}
use Rattle.heap.proofs.Chains.{led_fits, led_at, wrote_at}
use Rattle.heap.proofs.threading.relink.Goals as goal

pub returns-in_err-link : goal.returns-in_err-link
returns-in_err-link g c ts d' l w =
    let de = c.in_ok-d.ensures.1 in
    ok_not_err (c.relinked.ensures ts d' (led_at _ ts _ _ _ d' de w)) c.in_err-link.was

pub returns-in_err-set_descriptor : goal.returns-in_err-set_descriptor
returns-in_err-set_descriptor g c ts d' l w =
    let de = c.in_ok-d.ensures.1 in
    let le = ok_same _ _ (c.in_ok-link.ensures ts d' (led_at _ ts _ _ _ d' de w)) in
    let f = led_fits _ ts _ _ _ _ le w in
    ok_not_err (descriptor_written _ _ _ _ c.set_descriptor.result c.set_descriptor.ensures.answer l f).0 c.in_err-set_descriptor.was

pub returns : goal.returns
returns g c ts d' l w =
    let de = c.in_ok-d.ensures.1 in
    let le = ok_same _ _ (c.in_ok-link.ensures ts d' (led_at _ ts _ _ _ d' de w)) in
    let f = led_fits _ ts _ _ _ _ le w in
    (refl, wrote_at _ _ _ _ _ le (descriptor_written _ _ _ _ c.set_descriptor.result c.set_descriptor.ensures.answer l f).1)
