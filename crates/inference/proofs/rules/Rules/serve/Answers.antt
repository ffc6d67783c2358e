use Rattle.std.proofs.Common.{[], ◌∷◌}
use Rattle.facts.specs.Closure.{IsLoop}
use Rattle.inference.proofs.Growth.{grows_trans}
use Rattle.inference.proofs.Drawing.{all_still, draws}
use Rattle.inference.proofs.Meeting.{listed_earlier, within_still}
use Rattle.inference.proofs.Redundancy.{second_still, up_to_redundancy_still}
use Rattle.inference.proofs.rules.Rules.serve.Goals as goal

pub meet_listed-requires-clause-index : goal.meet_listed-requires-clause-index
meet_listed-requires-clause-index c = within_still c.draw_alone.ensures.grows (rw (← c.own.ensures) at c.requires.index)

pub meet_listed-requires-clause-second : goal.meet_listed-requires-clause-second
meet_listed-requires-clause-second c = λ no. second_still c.draw_alone.ensures.grows c.args.hand.fact (rw (← c.own.ensures) at c.requires.second no)

pub returns : goal.returns
returns c =
    let s = c.draw_alone.ensures.grows in
    let t = c.meet_listed.ensures.grows in
    rw (← c.own.ensures) (draws (grows_trans s t) (record {
      alone = record {
        given = up_to_redundancy_still t (c.args.hand.fact ∷ []) c.in_ok-draw_alone.ensures.drawn.given;
        loops = λ x entry. all_still t (IsLoop x) c.args.self.now.problem.now.forms (c.in_ok-draw_alone.ensures.drawn.loops x entry);
      };
      met = listed_earlier c.args.index.now c.meet_listed.new.facts s c.args.hand.fact c.in_ok-meet_listed.ensures.drawn;
    }))
