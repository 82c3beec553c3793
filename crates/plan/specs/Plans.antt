-- What names take in an arena over a store with these figures.
use Rattle.std.specs.Prelude.{◌≡◌, ℕ, ◌+◌, ◌<◌, ◌≤◌, Bool, cond, ◌&&◌, ◌⊎◌, List, length, Some, None, Ok, Err, vec_items, sum_by, count_by, Option, Result, ◌==◌, nat_le, slice_index}
use Rattle.std.specs.List.{list_all}
use Rattle.cells.specs.Meaning.{Figures}
use Rattle.rules.specs.Keys.{bin}
use Rattle.rules.specs.Model.{Text, string_cells}
use Rattle.rules.specs.Calls.{takes}
use Rattle.plan.specs.declared.tallies.Tally.{Tally}
use Rattle.plan.specs.declared.tallies.PlanFault.{PlanFault}
use Rattle.plan.specs.declared.tallies.PlanFault.TheVariants.{BadBins, TooMany, NoMemory}

-- Every character is within the store's codes.
abbrev pub all_taken : Figures → Text → Bool
all_taken f t = list_all (takes f) t

-- The store can hold the name: 1 to 1,024 characters, each within its codes.
abbrev pub holds : Figures → Text → Bool
holds f t = nat_le 1 (length t) && nat_le (length t) 1024 && all_taken f t

-- The cells of the name's string, or none where the store cannot hold it.
abbrev pub cells_in : Figures → Text → Option ℕ
cells_in f t = cond (holds f t) (Some (string_cells f.places (length t))) None

-- The same as a number: 0 where the store cannot hold it.
abbrev pub name_cells : Figures → Text → ℕ
name_cells f t = cond (holds f t) (string_cells f.places (length t)) 0

-- How many of the names the store holds, and how many of these fall into bin b.
abbrev pub held : Figures → List Text → ℕ
held f ts = count_by (holds f) ts

abbrev pub in_bin : Figures → ℕ → ℕ → List Text → ℕ
in_bin f bins b ts = count_by (λ t. holds f t && bin bins t == b) ts

-- The cells of the strings of all names that the store holds.
abbrev pub all_cells : Figures → List Text → ℕ
all_cells f ts = sum_by (name_cells f) ts

-- What a tally says of names that are given once each: an arena has a head for each bin, and the strings.
pub record Tallied (f : Figures) (bins : ℕ) (ts : List Text) (t : Tally) : Type 0 where
  pub distinct : t.distinct ≡ length ts
  pub names : t.names ≡ held f ts
  pub cells : t.cells ≡ all_cells f ts
  pub arena : t.arena ≡ bins + all_cells f ts
  pub every_bin : length (vec_items t.by_bin) ≡ bins
  pub by_bin : (b : ℕ) → b < bins → slice_index (vec_items t.by_bin) b ≡ in_bin f bins b ts

-- The answer to a plan: bins are 1 to 256, and names at most 1,048,576. Bins are looked at first.
abbrev pub Planned : Figures → ℕ → List Text → Result Tally PlanFault → Type 0
Planned f bins ts (Ok t) = (1 ≤ bins) × (bins ≤ 256) × (length ts ≤ 1048576) × Tallied f bins ts t
Planned f bins ts (Err BadBins) = (bins ≡ 0) ⊎ (256 < bins)
Planned f bins ts (Err TooMany) = (1 ≤ bins) × (bins ≤ 256) × (1048576 < length ts)
Planned f bins ts (Err NoMemory) = Unit {0}

-- A number of the list than which none is larger, or none where the list is empty.
abbrev pub Largest : List ℕ → Option ℕ → Type 0
Largest ns None = length ns ≡ 0
Largest ns (Some n) = ((i : ℕ) → i < length ns → slice_index ns i ≤ n) × ((i : ℕ) × (i < length ns) × (slice_index ns i ≡ n))
