-- Zeroed heads show the empty model in an arena with no thing in it.
use Rattle.std.proofs.Common.{◌≡◌, ℕ, ◌+◌, ◌≤◌, sym, refl, ap, ◌∙◌, arith}
use Rattle.cells.specs.declared.Descriptor.{Descriptor}
use Rattle.cells.specs.Meaning.{Memory, Figures, FitDescriptor}
use Rattle.rules.specs.Model.{empty}
use Rattle.rules.specs.Arena.{at_end, Lawful, Laid, Threaded, Spelled, Shows}
use Rattle.rules.proofs.Good.{good_empty}
use Rattle.arena.specs.Blocks.{Filled}
use Rattle.arena.specs.Opening.{no_head, empty_arena}

pub head_fits : (f : Figures) (d : Descriptor) → d ≡ no_head → FitDescriptor f d
head_fits f d e = rw e (omega arith, omega arith)

module _ (bins : ℕ) (b1 : 1 ≤ bins) (b2 : bins ≤ 256) (o r : Memory) (room : bins ≤ o.figures.cells) (d : Descriptor) (de : d ≡ no_head) (w : Filled o 0 bins d r) where
  lawful : Lawful empty (empty_arena bins)
  lawful =
      record {
        some_bins = b1;
        few_bins = b2;
        good = good_empty;
        once = tt;
        sized = λ x h. absurd h;
        valued = λ t k k1 k2 n. absurd (n refl);
        chained = λ t h. absurd h;
        in_chain = λ b t l h. absurd h;
        chain_once = λ b l. tt;
        rising = λ b t u rest l n. elim n [ ];
      }

  laid : Laid empty (empty_arena bins) r
  laid =
      record {
        «end» = omega arith;
        within = (let e = ap (λ (f : Figures). f.cells) w.figures in omega arith);
        titled = λ x p l. elim l [ ];
        coded = λ x p k l k1 k2. elim l [ ];
      }

  threaded : Threaded empty (empty_arena bins) r
  threaded =
      record {
        heads = λ b l. at_end (let e : 0 + b ≡ b = omega arith in ap (λ (c : ℕ). r.descriptor c) (sym e) ∙ w.done b l ∙ de);
        links = λ b t rest p l n y. elim n [ ];
      }

  spelled : Spelled empty (empty_arena bins) r
  spelled = record { spelled = λ t p j l h. elim l [ ]; padded = λ t p j l h k. elim l [ ] }

  pub opened : Shows empty (empty_arena bins) r
  opened = record { lawful = lawful; laid = laid; threaded = threaded; spelled = spelled }
