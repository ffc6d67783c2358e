use Rattle.std.proofs.Common.{◌≡◌, ℕ, sym, subst, true}
use Rattle.std.specs.Prelude.{◌↔◌}
use Rattle.axioms.specs.View.{node_of}
use Rattle.normalise.specs.Growth.{IsFreshAt}
use Rattle.normalise.proofs.Giving.{expressed}
use Rattle.normalise.proofs.Differing.{parts_differ}
use Rattle.normalise.proofs.made.Made.express.Goals as goal

pub returns : goal.returns
returns c =
    let right : ℕ → Type 0 = IsFreshAt c.args.right.marks.now c.args.right.before.now in
    let left : ℕ → Type 0 = IsFreshAt c.args.left.marks.now c.args.left.before.now in
    expressed c.args.ontology.now.nodes right left c.args.number (node_of c.in-Some.expr.now) c.is_fresh.result c.is_fresh-2.result (sym c.in-Some.ensures.node)
    (subst (λ n. (c.is_fresh.result ≡ true) ↔ right n) c.index-place.ensures c.is_fresh.ensures)
    (subst (λ n. (c.is_fresh-2.result ≡ true) ↔ left n) c.index-place.ensures c.is_fresh-2.ensures)
    c.in_ok-sides.ensures

pub sides-requires : goal.sides-requires
sides-requires c = parts_differ c.args.ontology.now c.args.number (node_of c.in-Some.expr.now) (c.in-Some.ensures.valid.nodes c.args.number (node_of c.in-Some.expr.now) (sym c.in-Some.ensures.node))
