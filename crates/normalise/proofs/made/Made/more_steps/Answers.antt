use Rattle.std.proofs.Common.{◌+◌, map, take, refl, sym, subst, arith}
use Rattle.std.proofs.lemmas.List.{length-map}
use Rattle.axioms.specs.Growth.{Numbers}
use Rattle.axioms.specs.View.{prop_numbers}
use Rattle.normalise.specs.Lengths.{IsShorter}
use Rattle.normalise.specs.View.{property_number}
use Rattle.normalise.proofs.Giving.{map-take, shorter_property, steps_numbered}
use Rattle.normalise.proofs.made.Made.more_steps.Goals as goal

pub longer-requires-clause-shorter : goal.longer-requires-clause-shorter
longer-requires-clause-shorter c =
    let list = prop_numbers c.args.steps.now in let long = length-map c.args.steps.now (λ e. e.0) in
    subst (λ n. IsShorter c.args.self.now.steps n (map (λ e. e.0) (take (c.args.k + 1) c.args.steps.now))) (sym c.number_of_property.ensures)
    (subst (IsShorter c.args.self.now.steps (property_number c.args.shorter)) (sym (map-take (λ e. e.0) (c.args.k + 1) c.args.steps.now))
    (shorter_property c.args.self.now.steps c.args.shorter list c.args.k c.requires.first (omega arith) c.requires.starts))

pub returns : goal.returns
returns c =
    let list = prop_numbers c.args.steps.now in let long = length-map c.args.steps.now (λ e. e.0) in
    steps_numbered c.args.self.now _ list c.args.whole.0 c.args.k c.in_ok-number.number c.requires.first (omega arith) refl refl refl
    (subst (λ xs. Numbers c.args.self.now.steps xs c.longer.new.self c.in_ok-number.number) (map-take (λ e. e.0) (c.args.k + 1) c.args.steps.now) c.in_ok-number.ensures.ok)
