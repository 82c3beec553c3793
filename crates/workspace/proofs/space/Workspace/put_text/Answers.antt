use Rattle.std.proofs.Common.{pos, Ok, ap, ◌∙◌, inl}
use Rattle.rules.specs.Arena.{desc}
use Rattle.arena.specs.declared.faults.HeapFault.{HeapFault}
use Rattle.arena.proofs.Outcomes.{ok_same, ok_not_err}
use Rattle.workspace.specs.Shown.{view}
use Rattle.workspace.proofs.Entering.{opened_bins, find_never, find_none, find_some, title_small, found, enters_new}
use Rattle.workspace.proofs.space.Workspace.put_text.Goals as goal

pub returns-in_err-found : goal.returns-in_err-found
returns-in_err-found g c m a s long some few codes =
    let v = view g.S.Store.memory c.args.self.now in
    let bins = opened_bins m a v c.in-Some.extent.bins c.in-Some.extent.next s c.in-Some.is in
    find_never m a v c.args.text.now s c.find.result (λ p l. c.find.ensures.there m a p s.shows bins l) (λ n. c.find.ensures.absent m a s.shows bins n)
    c.in_err-found.field-0.0 c.in_err-found.was

pub returns-in_err-string-in-Some-found : goal.returns-in_err-string-in-Some-found
returns-in_err-string-in-Some-found g c m a s long some few codes =
    let v = view g.S.Store.memory c.args.self.now in
    let t = c.args.text.now in
    let bins = opened_bins m a v c.in-Some.extent.bins c.in-Some.extent.next s c.in-Some.is in
    let at = find_some m a v t s c.find.result (λ p l. c.find.ensures.there m a p s.shows bins l) (λ n. c.find.ensures.absent m a s.shows bins n)
    c.in-Some-found.title (c.in_ok-found.was ∙ ap Ok c.in-Some-found.is) in
    ok_not_err (c.pointer_at.ensures (title_small m a v t c.in-Some-found.title (g.met.S.Store.sound c.args.self.now.cells) s at)) c.in_err-string-in-Some-found.was

pub returns-in_ok-string-in-Some-found : goal.returns-in_ok-string-in-Some-found
returns-in_ok-string-in-Some-found g c m a s long some few codes =
    let v = view g.S.Store.memory c.args.self.now in
    let t = c.args.text.now in
    let p = c.in-Some-found.title in
    let bins = opened_bins m a v c.in-Some.extent.bins c.in-Some.extent.next s c.in-Some.is in
    let at = find_some m a v t s c.find.result (λ q l. c.find.ensures.there m a q s.shows bins l) (λ n. c.find.ensures.absent m a s.shows bins n)
    p (c.in_ok-found.was ∙ ap Ok c.in-Some-found.is) in
    let pointer = ok_same {E = HeapFault} c.in_ok-string-in-Some-found.string (desc (pos p) 16 1)
    (c.in_ok-string-in-Some-found.ensures (title_small m a v t p (g.met.S.Store.sound c.args.self.now.cells) s at)) in
    inl (found m a v t p c.args.r c.in_ok-string-in-Some-found.string s at c.requires pointer)

pub returns-in-None : goal.returns-in-None
returns-in-None g c m a s long some few codes =
    let v = view g.S.Store.memory c.args.self.now in
    let w = view g.S.Store.memory c.add_text.new.self in
    let t = c.args.text.now in
    let bins = opened_bins m a v c.in-Some.extent.bins c.in-Some.extent.next s c.in-Some.is in
    let away = find_none m a v t s c.find.result (λ p l. c.find.ensures.there m a p s.shows bins l) (λ n. c.find.ensures.absent m a s.shows bins n)
    (c.in_ok-found.was ∙ ap Ok c.in-None.is) in
    enters_new m a v w c.args.r t c.add_text.result away (c.add_text.ensures m a s long bins some few codes away)
