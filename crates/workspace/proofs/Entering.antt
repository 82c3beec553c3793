-- Finding the string of a text in a workspace, and adding it.
use Rattle.std.proofs.Common.{◌≡◌, ℕ, ◌+◌, ◌<◌, ◌≤◌, length, get_or, set, pos, Some, None, Ok, Err, Option, Result, sym, refl, ap, ◌∙◌, subst, inr, arith}
use Rattle.std.proofs.lemmas.Bool.{and_from, le-leb, cond-true}
use Rattle.cells.specs.declared.Descriptor.{Descriptor}
use Rattle.cells.specs.Meaning.{Memory, Figures, Sound, FitCode}
use Rattle.rules.specs.Lists.{In}
use Rattle.rules.specs.Model.{Text, Thing, string, Value, Model, size, string_cells, string_cells_within}
use Rattle.rules.specs.Arena.{desc, Arena, At, Codes, as_text}
use Rattle.rules.specs.Calls.{put}
use Rattle.rules.proofs.Lists.{keeps_from}
use Rattle.rules.proofs.Lies.{in_lies, lies_in, lies_end}
use Rattle.rules.proofs.Tests.{dec_in}
use Rattle.arena.specs.Enters.{Takes, Fresh}
use Rattle.arena.specs.Growth.{Grown, arena_with_text}
use Rattle.arena.specs.declared.faults.HeapFault.{HeapFault}
use Rattle.arena.proofs.Outcomes.{ok_not_err}
use Rattle.workspace.specs.State.{Opened}
use Rattle.workspace.specs.Shown.{View, Shown, Roomed, enough, remade}
use Rattle.workspace.specs.Rooms.{HasRoom, Grew, Grows, Found, Enters, ended}
use Rattle.workspace.proofs.Steps.{put_shown}
use Rattle.workspace.proofs.Rooms.{bins_same}
use Rattle.workspace.proofs.Growing.{grew}

-- The bins of an open workspace.
pub opened_bins : (m : Model) (a : Arena) (v : View) (b n : ℕ) → Shown m a v → v.state ≡ Opened b n → b ≡ a.bins
opened_bins m a v b n s e = bins_same b n a.bins a.«next» (sym e ∙ s.opened)

-- The cells of a string, by the count that the code has.
pub count_is : (o : Memory) (t : Text) (places : ℕ) → Sound o → places ≡ o.figures.places → 1 ≤ length t → length t ≤ 1024 →
    string_cells_within (length t) places ≡ Some (string_cells o.figures.places (length t))
count_is o t places snd e some few =
    let p1 : 1 ≤ places = rw e snd.one_place in
    let p2 : places ≤ 16 = rw e snd.few_places in
    let b = and_from _ _ (and_from _ _ (and_from _ _ (le-leb 1 (length t) some) (le-leb (length t) 1024 few)) (le-leb 1 places p1)) (le-leb places 16 p2) in
    cond-true _ _ _ b ∙ ap (λ (c : ℕ). Some (string_cells c (length t))) e

pub need_is : (o : Memory) (t : Text) (places need : ℕ) → Sound o → places ≡ o.figures.places → 1 ≤ length t → length t ≤ 1024 → string_cells_within (length t) places ≡ Some need →
    need ≡ string_cells o.figures.places (length t)
need_is o t places need snd e some few is = let same = sym is ∙ count_is o t places snd e some few in cc

-- Room that was made keeps the bins, and adds nothing to the order.
roomed_bins : {f : Figures} {m : Model} {a : Arena} {need : ℕ} {b : Arena} → Roomed f m a need b → b.bins ≡ a.bins
roomed_bins (enough h) = refl
roomed_bins (remade h k) = k.same_bins

roomed_from : {f : Figures} {m : Model} {a : Arena} {need : ℕ} {b : Arena} → Roomed f m a need b → (x : Thing) → In x b.order → In x a.order
roomed_from (enough h) x i = i
roomed_from (remade h k) x i = (keeps_from _ k.order x i).0

module _ (m : Model) (a : Arena) (v w : View) (next : ℕ) (t : Text) (h : HasRoom m a v (string_cells v.memory.figures.places (length t)) w next) where
  same_places : w.memory.figures.places ≡ v.memory.figures.places
  same_places = ap (λ (f : Figures). f.places) h.figures

  -- A text that was not there is not there after room was made.
  pub fresh : (bins : ℕ) → bins ≡ a.bins → 1 ≤ length t → length t ≤ 1024 → Takes v.memory t → (In (string t) a.order → ⊥) → Fresh m h.arena t bins next w.memory
  fresh bins same some few codes away =
      record {
        shows = h.shown.shows;
        bins_is = same ∙ sym (roomed_bins h.roomed);
        end_is = h.next_is;
        away = λ i. away (roomed_from h.roomed (string t) i);
        some = some;
        few = few;
        codes = λ j l. subst (λ (f : Figures). FitCode f (get_or t j 0)) (sym h.figures) (codes j l);
        room = subst (λ (f : Figures). h.arena.«next» + string_cells f.places (length t) ≤ f.cells) (sym h.figures) h.enough;
      }

  -- It was added, and register r points at it.
  pub text_grew : (o : Memory) (r end : ℕ) (d : Descriptor) → Grown m h.arena w.memory (string t) m (arena_with_text w.memory.figures.places h.arena t) o →
      r < 32 → end ≡ next + string_cells w.memory.figures.places (length t) → d ≡ desc (pos next) 16 1 →
      Grew m a v (string_cells v.memory.figures.places (length t)) (put m r (Value.text t)) (λ b. arena_with_text v.memory.figures.places b t)
      (record { memory = o; registers = set w.registers r d; state = ended w.state end })
  text_grew o r end d grown there end_is d_is =
      let places = v.memory.figures.places in
      let g : Grown m h.arena w.memory (string t) m (arena_with_text v.memory.figures.places h.arena t) o =
      subst (λ (p : ℕ). Grown m h.arena w.memory (string t) m (arena_with_text p h.arena t) o) same_places grown in
      let code : Codes m (arena_with_text v.memory.figures.places h.arena t) o (Value.text t) d =
      subst (λ (e : Descriptor). Codes m (arena_with_text v.memory.figures.places h.arena t) o (Value.text t) e)
      (ap (λ (k : ℕ). desc (pos k) 16 1) (sym h.next_is) ∙ sym d_is) (as_text g.here) in
      grew m a v w (string_cells v.memory.figures.places (length t)) next (string t) m (λ b. arena_with_text v.memory.figures.places b t) o r (Value.text t) d h g refl refl there tt code end
      (end_is ∙ ap (λ (p : ℕ). next + string_cells p (length t)) same_places ∙ ap (λ (k : ℕ). k + string_cells v.memory.figures.places (length t)) h.next_is)

some_same : (p q : ℕ) → ◌≡◌ {A = Result (Option ℕ) HeapFault} (Ok (Some p)) (Ok (Some q)) → p ≡ q
some_same p q e = cc

some_none : {C : Type 0} (p : ℕ) → ◌≡◌ {A = Result (Option ℕ) HeapFault} (Ok (Some p)) (Ok None) → C
some_none p e = absurd (let z : ◌≡◌ {A = ℕ} 0 1 = cc in omega arith)

-- What the search for a string tells.
module _ (m : Model) (a : Arena) (v : View) (t : Text) (s : Shown m a v) (res : Result (Option ℕ) HeapFault)
    (there : (p : ℕ) → At m a v.memory (string t) p → res ≡ Ok (Some p)) (absent : (In (string t) a.order → ⊥) → res ≡ Ok None) where
  lies : In (string t) a.order → (p : ℕ) × At m a v.memory (string t) p
  lies i = in_lies (size v.memory.figures.places m) a.bins (string t) a.order i

  pub find_never : {C : Type 0} (x : HeapFault) → res ≡ Err x → C
  find_never x e = elim (dec_in a.order (string t)) [ yes i ↦ ok_not_err (there (lies i).0 (lies i).1) e | no n ↦ ok_not_err (absent n) e ]

  pub find_none : res ≡ Ok None → In (string t) a.order → ⊥
  find_none e i = some_none (lies i).0 (sym (there (lies i).0 (lies i).1) ∙ e)

  pub find_some : (p : ℕ) → res ≡ Ok (Some p) → At m a v.memory (string t) p
  find_some p e = elim (dec_in a.order (string t)) [
    | yes i ↦ subst (λ (k : ℕ). At m a v.memory (string t) k) (some_same (lies i).0 p (sym (there (lies i).0 (lies i).1) ∙ e)) (lies i).1
    | no n ↦ some_none p (sym e ∙ absent n)
  ]

-- The title of a string that is there is a cell's number.
pub title_small : (m : Model) (a : Arena) (v : View) (t : Text) (p : ℕ) → Sound v.memory → Shown m a v → At m a v.memory (string t) p → p ≤ 65535
title_small m a v t p snd s l = omega (arith, snd.few, lies_end (size v.memory.figures.places m) l, s.shows.laid.end, s.shows.laid.within)

-- Register r points at it.
pub found : (m : Model) (a : Arena) (v : View) (t : Text) (p r : ℕ) (d : Descriptor) → Shown m a v → At m a v.memory (string t) p → r < 32 → d ≡ desc (pos p) 16 1 →
    Found m a v r t (record { memory = v.memory; registers = set v.registers r d; state = v.state })
found m a v t p r d s l below is =
    record {
      there = lies_in (size v.memory.figures.places m) l;
      shown = put_shown m a v r (Value.text t) d s below tt (subst (λ (e : Descriptor). Codes m a v.memory (Value.text t) e) (sym is) (as_text l));
      figures = refl;
    }

-- A string that was not there was added, or there is no room.
pub enters_new : (m : Model) (a : Arena) (v w : View) (r : ℕ) (t : Text) (x : Result (Unit {0}) HeapFault) → (In (string t) a.order → ⊥) →
    Grows m a v (string_cells v.memory.figures.places (length t)) (put m r (Value.text t)) (λ b. arena_with_text v.memory.figures.places b t) w x → Enters m a v r t w x
enters_new m a v w r t (Ok u) away g = inr (away, g)
enters_new m a v w r t (Err x) away g = (away, g)
