use Rattle.std.proofs.Common.{◌≡◌, ℕ, length, Some, Ok, ap, ◌∙◌, arith}
use Rattle.std.proofs.lemmas.Grind.{common_steps}
use Rattle.cells.specs.declared.Descriptor.{Descriptor}
use Rattle.cells.proofs.Acts.{descriptor_read}
use Rattle.arena.proofs.Outcomes.{ok_not_err}
use Rattle.arena.proofs.Findings.{readable, spelt}
use Rattle.arena.proofs.texts.read_text.Goals as goal

pub returns-in_err-descriptor-clause-shown : goal.returns-in_err-descriptor-clause-shown
returns-in_err-descriptor-clause-shown g c m a t sh l =
    let re = readable m a _ (g.met.S.Store.sound c.args.store.now) sh t _ l in
    let w = re.low in
    ok_not_err (descriptor_read (g.S.Store.memory c.args.store.now) _ c.descriptor.result c.descriptor.ensures (omega arith)) c.in_err-descriptor.was

pub returns-in_err-buffer-clause-shown : goal.returns-in_err-buffer-clause-shown
returns-in_err-buffer-clause-shown g c m a t sh l =
    let re = readable m a _ (g.met.S.Store.sound c.args.store.now) sh t _ l in
    let k = c.text_length-length.ensures ∙ ap (λ (d : Descriptor). d.kind) c.in_ok-descriptor.ensures.1 in
    ok_not_err (c.character_at.ensures re (omega arith)) c.in_err-buffer.was

pub returns-clause-spelt : goal.returns-clause-spelt
returns-clause-spelt g c t re s =
    let n : c.text_length-length.result ≡ length t = c.text_length-length.ensures ∙ ap (λ (d : Descriptor). d.kind) c.in_ok-descriptor.ensures.1 ∙ s.long in
    let k = c.loop-j.auto.j-end in
    let i = c.loop-j.invariant t re s in
    record {
      fits = λ h. (ap (λ (i : ℕ). Ok (Some i)) n, grind (arith, common_steps));
      short = λ h. absurd (omega arith);
    }

pub returns-clause-shown : goal.returns-clause-shown
returns-clause-shown g c m a t sh l =
    let n = g.met.S.Store.sound c.args.store.now in
    returns-clause-spelt g c t (readable m a _ n sh t _ l) (spelt m a _ n sh t _ l)
