use Rattle.std.proofs.Common.{ap, sym, rules}
use Rattle.std.proofs.lemmas.Slice.Eq.{text_from_reads}
use Rattle.scan.specs.declared.types.Layout.TheVariants as layout
use Rattle.scan.specs.Words.{layout_name, layout_of}
use Rattle.scan.proofs.words.layout.Goals as goal

pub returns-in-sixbit : goal.returns-in-sixbit
returns-in-sixbit c = sym (ap layout_of (text_from_reads c.args.word.now (layout_name layout.Sixbit) (search rules) (search rules)))
