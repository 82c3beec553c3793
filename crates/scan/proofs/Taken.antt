-- From a token that was taken to what it is taken for.
use Rattle.std.proofs.Common.{◌≡◌, ◌≢◌, Some, None, Ok, Err, Option, Result, sym, ap, ◌∙◌, subst}
use Rattle.std.specs.Option.{ok_or}
use Rattle.scan.specs.declared.types.Token.{Token}
use Rattle.scan.specs.declared.types.Token.TheVariants as token
use Rattle.scan.specs.declared.types.Placed.{Placed}
use Rattle.scan.specs.declared.types.ReaderFault.{ReaderFault}
use Rattle.scan.specs.declared.types.ReaderFault.TheVariants as fault
use Rattle.scan.specs.Tokens.{Tok, none, Next}
use Rattle.scan.specs.Forms.{no_token_at, unfit_at}
use Rattle.scan.specs.declared.reader.Reader.{Reader}
use Rattle.scan.specs.Taking.{TakesFrom, tok_of, Picks, PicksBy, PicksFrom, Misses, misread, mistaken}

-- a token of the code is always a token
pub tok_not_none : (t : Token) → tok_of t ≢ none
tok_not_none token.Open e = cc
tok_not_none token.Close e = cc
tok_not_none (token.Natural n) e = cc
tok_not_none (token.Negative n) e = cc
tok_not_none (token.Word w) e = cc
tok_not_none (token.Text w) e = cc
tok_not_none token.LineEnd e = cc

module _ {A : Type 0} (answers : Token → Option A → Type 0) (g : Next) (after : Reader) where
  missed : (p : Placed) → tok_of p.token ≡ g.tok → p.at.line ≡ g.line → p.at.column ≡ g.column → answers p.token None → Misses (λ t o. (k : Token) × (tok_of k ≡ t) × answers k o) g (fault.Unfit p.at)
  missed p t l c h =
      let at : unfit_at g ≡ fault.Unfit p.at = (λ i. fault.Unfit (record { line = sym l i; column = sym c i })) in
      subst (Misses (λ t o. (k : Token) × (tok_of k ≡ t) × answers k o) g) at (mistaken (λ z. tok_not_none p.token (t ∙ z)) (p.token, t, h))

  -- at no token, and from the answer at a token
  pub broke : (f : ReaderFault) → (f ≡ no_token_at g) × (g.tok ≡ none) → PicksBy answers g (Err f) after
  unfolding PicksBy
  broke f h = subst (Misses (λ t o. (k : Token) × (tok_of k ≡ t) × answers k o) g) (sym h.0) (misread h.1)

  pub fitted : (p : Placed) (o : Option A) (r : Result A ReaderFault) → TakesFrom g (Ok p) after → answers p.token o → r ≡ ok_or o (fault.Unfit p.at) → PicksBy answers g r after
  unfolding PicksBy
  fitted p None r t h e = subst (λ (z : Result A ReaderFault). PicksBy answers g z after) (sym e) (missed p t.tok t.line t.column h)
  fitted p (Some a) r t h e = subst (λ (z : Result A ReaderFault). PicksBy answers g z after) (sym e) ((p.token, t.tok, h), t.line_after, t.column_after, t.rest)

-- from what one relation takes a token for to what another does
module _ {A : Type 0} (taken other : Tok → Option A → Type 0) (implied : (t : Tok) (o : Option A) → taken t o → other t o) (g : Next) where
  misses_by : (f : ReaderFault) → Misses taken g f → Misses other g f
  misses_by f (misread z) = misread z
  misses_by f (mistaken n h) = mistaken n (implied g.tok None h)

  picks_by : (r : Result A ReaderFault) (after : Reader) → Picks taken g r after → Picks other g r after
  picks_by (Ok a) after h = (implied g.tok (Some a) h.0, h.1, h.2, h.3)
  picks_by (Err f) after h = misses_by f h

-- from a function of the code to the word that says what it answers
pub picked : {A : Type 0} {answers : Token → Option A → Type 0} (g : Next) (r : Result A ReaderFault) (after : Reader) → PicksBy answers g r after → (pick : Tok → Option A) → ((k : Token) (o : Option A) → answers k o → o ≡ pick (tok_of k)) → PicksFrom pick g r after
unfolding PicksBy
picked {A} {answers} g r after h pick says = picks_by (λ t o. (k : Token) × (tok_of k ≡ t) × answers k o) (λ t o. pick t ≡ o) (λ t o a. ap pick (sym a.1) ∙ sym (says a.0 o a.2)) g r after h
