use Rattle.std.proofs.Common.{[], ◌∷◌, Option, Some, refl, ap, subst, ◌∙◌}
use Rattle.facts.specs.declared.contexts.Context.{Context}
use Rattle.facts.specs.declared.contexts.Fact.{Fact}
use Rattle.facts.specs.Closure.{HandsOn}
use Rattle.inference.specs.Completeness.{IsEntered}
use Rattle.inference.specs.Sameness.{IsHandedOn}
use Rattle.inference.proofs.Growth.{grows_trans}
use Rattle.inference.proofs.Drawing.{all_still, concluded_still, drawn, draws, one_in_hand}
use Rattle.inference.proofs.Owing.{edge_is_no_entry, entry_still}
use Rattle.inference.proofs.rules.Rules.draw_alone.Goals as goal

pub hand_on-requires-clause-hand : goal.hand_on-requires-clause-hand
hand_on-requires-clause-hand c = c.draw.ensures.grows.facts c.args.hand.number c.args.hand.fact c.requires.hand

pub draw_owed_loops-requires-clause-hand : goal.draw_owed_loops-requires-clause-hand
draw_owed_loops-requires-clause-hand c =
    c.hand_on.ensures.grows.facts c.args.hand.number c.args.hand.fact (c.draw.ensures.grows.facts c.args.hand.number c.args.hand.fact c.requires.hand) ∙ ap Some c.in-In.is

pub enter-requires-clause-context : goal.enter-requires-clause-context
enter-requires-clause-context c = (
  c.args.hand.fact ∷ [],
  ap (λ (o : Option Fact). o ∷ []) (c.hand_on.ensures.grows.facts c.args.hand.number c.args.hand.fact (c.draw.ensures.grows.facts c.args.hand.number c.args.hand.fact c.requires.hand)),
  rw c.in-Edge.is refl,
)

pub returns-in_ok-enter-in-Edge : goal.returns-in_ok-enter-in-Edge
returns-in_ok-enter-in-Edge c =
    let k = c.args.self.now.problem.now in
    let new = c.enter.new.facts in
    let s = c.enter.ensures.grows in
    let t = grows_trans c.hand_on.ensures.grows s in
    draws (grows_trans c.draw.ensures.grows t) (record {
      given = drawn k (c.args.hand.fact ∷ []) new (λ form f owed. owed) (concluded_still t (c.args.hand.fact ∷ []) c.in_ok-draw.ensures.drawn)
          (λ x target. subst (λ (y : Context). IsEntered k y new) (rw c.in-Edge.is at target) c.in_ok-enter-in-Edge.ensures.drawn)
          (λ g e. one_in_hand (λ f. IsHandedOn k f new.facts) c.args.hand.fact g e (all_still s (λ form f. HandsOn form c.args.hand.fact f) k.forms c.in_ok-hand_on.ensures.drawn))
          (λ e. absurd (cc)) (λ g h e. absurd (cc));
      loops = λ x entry. absurd (edge_is_no_entry x c.args.hand.number c.args.hand.fact c.requires.hand (λ y is. let edge = c.in-Edge.is in cc) entry);
    })

pub returns-in_ok-draw_owed_loops-in-In : goal.returns-in_ok-draw_owed_loops-in-In
returns-in_ok-draw_owed_loops-in-In c =
    let k = c.args.self.now.problem.now in
    let new = c.draw_owed_loops.new.facts in
    let s = c.draw_owed_loops.ensures.grows in
    let t = grows_trans c.hand_on.ensures.grows s in
    draws (grows_trans c.draw.ensures.grows t) (record {
      given = drawn k (c.args.hand.fact ∷ []) new (λ form f owed. owed) (concluded_still t (c.args.hand.fact ∷ []) c.in_ok-draw.ensures.drawn)
          (λ x target. absurd (rw c.in-In.is at target))
          (λ g e. one_in_hand (λ f. IsHandedOn k f new.facts) c.args.hand.fact g e (all_still s (λ form f. HandsOn form c.args.hand.fact f) k.forms c.in_ok-hand_on.ensures.drawn))
          (λ e. absurd (cc)) (λ g h e. absurd (cc));
      loops = λ x entry. c.in_ok-draw_owed_loops-in-In.ensures.drawn x (entry_still (grows_trans c.draw.ensures.grows c.hand_on.ensures.grows) x c.args.hand.number entry);
    })
