use Rattle.std.proofs.Common.{◌∷◌, [], ap₂, refl, rules}
use Rattle.inference.proofs.Growth.{grows_same}
use Rattle.inference.proofs.Drawing.{draws}
use Rattle.inference.proofs.Parting.{gives_parting, no_parting}
use Rattle.inference.proofs.rules.Rules.draw_disjoint.Goals as goal

pub add-requires-clause-birth : goal.add-requires-clause-birth
add-requires-clause-birth c =
    let arm = c.in-In-In in (
      c.args.first.fact ∷ c.args.second.fact ∷ [],
      ap₂ (λ o p. o ∷ p ∷ []) c.requires.first c.requires.second,
      gives_parting c.args.self.now.problem.now c.in-Some.list c.args.first.fact c.args.second.fact arm.a arm.b arm.x arm.y arm.is-0 arm.is-1 (search (rules, c.if-ne.ensures, c.if-ne.false, c.ne.ensures)) (c.in-Some.ensures.some),
    )

pub returns-in_default-disjoint_list : goal.returns-in_default-disjoint_list
returns-in_default-disjoint_list c =
    let arm = c.in-In-In in
    draws (grows_same c.requires.derived)
    (no_parting c.args.self.now.problem.now c.args.first.fact c.args.second.fact arm.a arm.b arm.x arm.y c.args.facts.now.facts arm.is-0 arm.is-1 (c.in_default-disjoint_list.ensures.none refl))
