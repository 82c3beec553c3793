-- Words that are spelled so.
use Rattle.std.proofs.Common.{◌≡◌, ℕ, List, Some, sym, refl, ap, ◌∙◌}
use Rattle.scan.specs.declared.types.Verb.{Verb}
use Rattle.scan.specs.declared.types.Verb.TheVariants as verb
use Rattle.scan.specs.Words.{spelled, verb_of}

pub verb_spelled : (v : Verb) → verb_of (spelled v) ≡ Some v
verb_spelled verb.Open = refl
verb_spelled verb.Null = refl
verb_spelled verb.Number = refl
verb_spelled verb.Copy = refl
verb_spelled verb.Make = refl
verb_spelled verb.Text = refl
verb_spelled verb.Name = refl
verb_spelled verb.Fetch = refl
verb_spelled verb.Store = refl
verb_spelled verb.Divide = refl
verb_spelled verb.Kind = refl
verb_spelled verb.Read = refl
verb_spelled verb.Same = refl
verb_spelled verb.Collect = refl

-- the word that these bytes spell
pub verb_known : (v : Verb) (w : List ℕ) → w ≡ spelled v → Some v ≡ verb_of w
verb_known v w e = sym (ap verb_of e ∙ verb_spelled v)
