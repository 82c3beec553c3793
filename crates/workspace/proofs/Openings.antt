-- A workspace that could be opened shows the empty model.
use Rattle.std.proofs.Common.{◌≡◌, ℕ, ◌<◌, ◌≤◌, true, List, [], length, get_or, replicate, pos, sym, refl, subst}
use lib.ListN.{length-replicate}
use Rattle.std.proofs.lemmas.Bool.{le-leb, cond-true, and_from}
use Rattle.std.proofs.lemmas.List.{get_or-replicate}
use Rattle.cells.specs.declared.Descriptor.{Descriptor}
use Rattle.cells.specs.Meaning.{Figures, Memory}
use Rattle.rules.specs.Model.{null, empty, register}
use Rattle.rules.specs.Calls.{ok}
use Rattle.rules.specs.Opening.{can_open, opening}
use Rattle.rules.specs.Arena.{desc, null_desc, Codes, as_null, Shows}
use Rattle.arena.specs.Opening.{empty_arena}
use Rattle.workspace.specs.State.{State}
use Rattle.workspace.specs.State.{Shut, Opened}
use Rattle.workspace.specs.Shown.{View}
use Rattle.workspace.specs.Opened.{is_open, Opens}

bins_fit : (f : Figures) (bins : ℕ) → 1 ≤ bins → bins ≤ 256 → bins ≤ f.cells → can_open f bins ≡ true
bins_fit f bins some few room =
    and_from _ _ (and_from _ _ (le-leb 1 bins some) (le-leb bins 256 few)) (le-leb bins f.cells room)

-- Null registers code those of the empty model.
null_coded : (o : Memory) (bins n r : ℕ) → r < n →
    Codes empty (empty_arena bins) o (get_or (replicate n null) r null) (get_or (replicate n null_desc) r (desc (pos 0) 0 0))
null_coded o bins n r below = rw (get_or-replicate n r null null below, get_or-replicate n r null_desc (desc (pos 0) 0 0) below) as_null

pub opened_empty : (v : View) (bins : ℕ) (o : Memory) → v.state ≡ Shut → 1 ≤ bins → bins ≤ 256 → bins ≤ v.memory.figures.cells →
    o.figures ≡ v.memory.figures → Shows empty (empty_arena bins) o →
    Opens v bins (ok [] []) (record { memory = o; registers = v.registers; state = Opened bins bins })
opened_empty v bins o shut some few room figures shows =
    record {
      answer = subst (λ (s : State). ok [] [] ≡ opening (is_open s) v.memory.figures bins) (sym shut)
          (sym (cond-true (can_open v.memory.figures bins) _ _ (bins_fit v.memory.figures bins some few room)));
      figures = figures;
      registers = refl;
      shown = λ _ e. record {
        shows = shows;
        opened = refl;
        file = subst (λ (ds : List Descriptor). length ds ≡ 32) (sym e) (length-replicate 32 null_desc);
        registers = λ r below.
            subst (λ (ds : List Descriptor). Codes empty (empty_arena bins) o (register empty r) (get_or ds r (desc (pos 0) 0 0))) (sym e) (null_coded o bins 32 r below);
      };
    }
