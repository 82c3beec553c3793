use Rattle.std.proofs.Common.{◌≡◌, ◌-◌, ◌≤◌, length, take}
use Rattle.scan.specs.Taking.{left}
use Rattle.scan.proofs.Arguments.{Read}
use Rattle.scan.proofs.reader.Reader.arguments.Given as goal

abbrev pub invariant-loop-number : goal.invariant-loop-number
invariant-loop-number g l = record { read : Read g.row.N (take l.number-index l.number-items) (g.row.N - l.number-index) l.initial.self l.self; all : length l.number-items ≡ g.row.N; shorter : left l.self ≤ left l.initial.self }
