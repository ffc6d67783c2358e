use Rattle.std.proofs.Common.{refl}
use Rattle.inference.specs.Premises.{edge_fact}
use Rattle.inference.proofs.Edges.{property_there}
use Rattle.inference.proofs.Growth.{grows_trans}
use Rattle.inference.proofs.Drawing.{draws}
use Rattle.inference.proofs.Restrictions.{all_filled_still, carried_still, meets_classes}
use Rattle.inference.proofs.rules.Rules.fill.Goals as goal

pub fill_all-requires-clause-has : goal.fill_all-requires-clause-has
fill_all-requires-clause-has c = property_there c.args.self.now.problem.now c.args.self.now.closed c.requires.derived c.args.hand.number (edge_fact c.args.hand) c.args.hand.property c.requires.hand refl

pub returns : goal.returns
returns c =
    let old = c.args.facts.now.facts in
    let s = c.fill_all.ensures.grows in
    let t = c.carry_nothing.ensures.grows in
    draws (grows_trans s t) (meets_classes c.args.self.now.problem.now old c.carry_nothing.new.facts c.args.hand.property (edge_fact c.args.hand) refl
    (all_filled_still t (edge_fact c.args.hand) old c.in_ok-fill_all.ensures.drawn)
    (carried_still s (edge_fact c.args.hand) _ c.in_ok-carry_nothing.ensures.drawn))
