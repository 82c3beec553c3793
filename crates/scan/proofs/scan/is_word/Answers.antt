use Rattle.std.proofs.Common.{◌-◌, length, take, drop, rules, tests, arith}
use Rattle.std.proofs.lemmas.Iterator.{YieldsList-from_slice}
use Rattle.std.proofs.lemmas.Iterator.Search.{all_from_yields_List}
use Rattle.scan.specs.Tokens.{letter_or_digit}
use Rattle.scan.proofs.Runs.{letter_wordly}
use Rattle.scan.proofs.scan.is_word.Goals as goal

pub returns-then-is_ascii_alphabetic : goal.returns-then-is_ascii_alphabetic
returns-then-is_ascii_alphabetic c =
    let xs = c.args.bytes.now in
    letter_wordly xs c.all.result (omega arith) (search rules)
    (all_from_yields_List letter_or_digit _ _ c.all.result c.all.ensures.ran (YieldsList-from_slice (take (length xs - 1) (drop 1 xs)) cc) (λ x b q k. search (rules, tests)))
