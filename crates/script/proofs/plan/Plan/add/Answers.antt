use Rattle.std.proofs.Common.{◌≡◌, map, Some, None, List, Option, vec_items, sym, ap, ◌∙◌, arith}
use Rattle.scan.specs.declared.types.Step.{Step}
use Rattle.scan.specs.Words.{Said, said_of}
use Rattle.script.specs.Plans.{with_more, part}
use Rattle.script.proofs.Kept.{held_added, held_full, held_none}
use Rattle.script.proofs.plan.Plan.add.Goals as goal
use Rattle.script.proofs.plan.Plan.add.Goals.{in_default-via-in-Some+else-len-end-le-MOST_STEPS, in_default-via-in_default, in-Some-1, in-None-1}

pub returns-in_ok-extend_from_within-in-Some : goal.returns-in_ok-extend_from_within-in-Some
returns-in_ok-extend_from_within-in-Some c =
    let e : c.args.self.now ≡ Some (map said_of (vec_items c.in-Some.steps)) = sym c.self.view_is ∙ rw c.in-Some.is in
    ap (λ (z : List Step). Some (map said_of z)) c.in_ok-extend_from_within-in-Some.ensures.items ∙ held_added c.args.self.now (vec_items c.in-Some.steps) c.args.start c.args.end e c.requires (omega arith)

pub returns-in_default : goal.returns-in_default
returns-in_default c =
    let full : ◌≡◌ {A = Option (List Said)} None (with_more c.args.self.now (part c.args.start c.args.end c.args.self.now)) = elim c.in_default.branch [
      | in_default-via-in-Some+else-len-end-le-MOST_STEPS w ↦
          let e : c.args.self.now ≡ Some (map said_of (vec_items w.in-Some.steps)) = sym c.self.view_is ∙ rw w.in-Some.is in
          held_full c.args.self.now (vec_items w.in-Some.steps) c.args.start c.args.end e c.requires (omega arith)
      | in_default-via-in_default w ↦ held_none c.args.self.now c.args.start c.args.end (sym c.self.view_is ∙ rw w.in_default.is)
    ] in
    elim c.match-self-2.branch [ in-Some-1 w ↦ w.self-is ∙ full | in-None-1 w ↦ w.self-is ∙ full ]
