use Rattle.std.proofs.Common.{◌≡◌, ◌+◌, ◌-◌, ◌*◌, ◌≤◌, length, arith, rules}
use Rattle.layouts.proofs.CellBytes.{put_one}
use Rattle.layouts.proofs.Bytes8.{put_descriptor}
use Rattle.layouts.proofs.bytes.write.Goals as goal

pub returns : goal.returns
returns c =
    let xs = c.args.bytes.now in
    let i = c.args.cell in
    let cs = c.pack.result in
    let k = 8 * i + 8 - 8 * i in
    let eight : 8 * c.args.cell + 8 - 8 * c.args.cell ≡ 8 = omega arith in
    let long : length c.pack.result ≡ 8 * c.args.cell + 8 - 8 * c.args.cell = (let l : length c.pack.result ≡ 8 = search rules in omega arith) in
    let fits : 8 * c.args.cell + (8 * c.args.cell + 8 - 8 * c.args.cell) ≤ length c.args.bytes.now = omega arith in
    rw c.copy_from_slice.ensures.after record {
      wrote = put_descriptor xs cs i k long fits eight c.args.d c.pack.ensures;
      one = put_one 8 xs cs i k long fits eight;
    }
