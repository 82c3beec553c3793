-- From what a token is taken for to where the reading goes on.
use Rattle.std.proofs.Common.{◌≡◌, Some, Ok, Option, subst}
use Rattle.scan.specs.declared.reader.Reader.{Reader}
use Rattle.scan.specs.Tokens.{Tok}
use Rattle.scan.specs.Words.{bind}
use Rattle.scan.specs.Forms.{State, fit}
use Rattle.scan.specs.Taking.{PicksFrom, LeadsAt, ahead}
use Rattle.scan.proofs.Steps.{goes_on}

pub leads_to : {A : Type 0} (s : State) (pick : Tok → Option A) (u : A → State) → ((t : Tok) → fit s t ≡ bind (pick t) (λ a. Some (u a))) → (X : Reader) (a b : A) (Y : Reader) → PicksFrom pick (ahead X) (Ok a) Y → a ≡ b → LeadsAt s X (u b) Y
leads_to s pick u fits X a b Y p e = subst (λ z. LeadsAt s X (u z) Y) e (goes_on s pick u fits X (Ok a) Y p)
