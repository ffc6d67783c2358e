use Rattle.std.proofs.Common.{◌≡◌, ℕ, length, subst, arith}
use Rattle.std.proofs.lemmas.Option.{slice_get-get_or}
use Rattle.normalise.specs.Growth.{IsFreshAt}
use Rattle.normalise.specs.Steps.{ExpressedBy, ExpressedTo}
use Rattle.normalise.specs.View.{Adds}
use Rattle.normalise.proofs.Giving.{within_none, within_more, expressed_by, expressed_once}
use Rattle.normalise.proofs.made.Made.express_all.Goals as goal

pub loop-number-init : goal.loop-number-init
loop-number-init c = within_none c.args.self.now (ExpressedBy c.args.ontology.now.nodes (IsFreshAt c.args.right.marks.now c.args.right.before.now) (IsFreshAt c.args.left.marks.now c.args.left.before.now) c.args.numbers.now) 0

pub loop-number-preserved : goal.loop-number-preserved
loop-number-preserved c =
    let right : ℕ → Type 0 = IsFreshAt c.args.right.marks.now c.args.right.before.now in
    let left : ℕ → Type 0 = IsFreshAt c.args.left.marks.now c.args.left.before.now in
    let nodes = c.args.ontology.now.nodes in let numbers = c.args.numbers.now in
    within_more (ExpressedBy nodes right left numbers) 0 c.loop-number.number-index (omega arith) (expressed_once nodes right left numbers c.requires) c.loop-number.invariant
    (expressed_by nodes right left numbers c.loop-number.number-index _ (slice_get-get_or numbers c.loop-number.number-index 0 c.loop-number-test.true) c.in_ok-express.ensures)

pub returns : goal.returns
returns c =
    let e : c.loop-number.number-index ≡ length c.args.numbers.now = omega arith in
    subst (λ n. Adds c.args.self.now c.loop-number.self (ExpressedTo c.args.ontology.now.nodes (IsFreshAt c.args.right.marks.now c.args.right.before.now) (IsFreshAt c.args.left.marks.now c.args.left.before.now) c.args.numbers.now n)) e c.loop-number.invariant
