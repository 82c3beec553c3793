use Rattle.std.proofs.Common.{rules}
use Rattle.std.proofs.lemmas.Slice.Eq.{text_from_reads}
use Rattle.scan.specs.declared.types.Verb.TheVariants as verb
use Rattle.scan.specs.Words.{spelled}
use Rattle.scan.proofs.Spelled.{verb_known}
use Rattle.scan.proofs.words.verb.Goals as goal

pub returns-in-number : goal.returns-in-number
returns-in-number c = verb_known verb.Number c.args.word.now (text_from_reads _ (spelled verb.Number) (search rules) (search rules))

pub returns-in-divide : goal.returns-in-divide
returns-in-divide c = verb_known verb.Divide c.args.word.now (text_from_reads _ (spelled verb.Divide) (search rules) (search rules))

pub returns-in-collect : goal.returns-in-collect
returns-in-collect c = verb_known verb.Collect c.args.word.now (text_from_reads _ (spelled verb.Collect) (search rules) (search rules))
