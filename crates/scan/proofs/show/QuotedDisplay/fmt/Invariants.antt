use Rattle.std.proofs.Common.{take}
use lib.Utf8.{encodes}
use Rattle.std.specs.Fmt.{IsPlainFormatter, HasWritten}
use Rattle.scan.proofs.show.QuotedDisplay.fmt.Given as goal

abbrev pub invariant-loop-b : goal.invariant-loop-b
invariant-loop-b g l = IsPlainFormatter l.initial.f → HasWritten g.W.Write.write_str_gives l.initial.f (encodes (take l.b-index l.b-items)) l.f
