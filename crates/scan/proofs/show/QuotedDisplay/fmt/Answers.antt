use Rattle.std.proofs.Common.{◌≡◌, ℕ, ◌+◌, ◌<◌, List, [], ◌∷◌, ◌++◌, length, get_or, take, sym, refl, ap, ◌∙◌, append-nil, arith}
use lib.Utf8.{encode, encodes}
use Rattle.std.proofs.lemmas.List.{take_more}
use Rattle.std.proofs.lemmas.Str.{encodes-append}
use Rattle.std.proofs.Output.{has_written_append, has_written_of_eq}
use Rattle.scan.proofs.show.QuotedDisplay.fmt.Goals as goal

-- one byte more
encodes_more : (bs : List ℕ) (i x : ℕ) → i < length bs → x ≡ get_or bs i 0 → encodes (take i bs) ++ encode x ≡ encodes (take (i + 1) bs)
encodes_more bs i x h e =
    ap (λ (y : ℕ). encodes (take i bs) ++ encode y) e
    ∙ ap (λ (l : List ℕ). encodes (take i bs) ++ l) (sym (append-nil (encode (get_or bs i 0))))
    ∙ sym (encodes-append (take i bs) (get_or bs i 0 ∷ []))
    ∙ ap encodes (sym (take_more bs i 0 h))

pub loop-b-preserved : goal.loop-b-preserved
loop-b-preserved g c = λ plain.
    let bs = c.args.self.now.0.now in
    let x = c.loop-b.invariant plain in
    let h : c.loop-b.b-index < length bs = omega arith in
    let e : c.from.result ≡ get_or bs c.loop-b.b-index 0 = c.from.ensures in
    has_written_of_eq g.W.Write.write_str_gives _ _ _ _ (encodes_more bs c.loop-b.b-index c.from.result h e)
    (has_written_append g.W.Write.write_str_gives _ _ c.loop-b.f _ _ x (c.in_ok-write_char-2.ensures.writes x.plain refl))
