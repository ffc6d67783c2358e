use Rattle.inference.specs.Visits.{IsClassFact}
use Rattle.inference.proofs.Drawing.{draws}
use Rattle.inference.proofs.Lists.{Contains-from_slice_get}
use Rattle.inference.proofs.Meeting.{kind_of, numbers_within}
use Rattle.inference.proofs.rules.Rules.meet_fillers.Goals as goal

pub meet_before-requires-clause-numbers : goal.meet_before-requires-clause-numbers
meet_before-requires-clause-numbers c = numbers_within IsClassFact c.args.facts.now.facts c.args.numbers.now c.requires.numbers

pub returns-in_ok-fill : goal.returns-in_ok-fill
returns-in_ok-fill c =
    let old = c.args.facts.now.facts in
    draws c.fill.ensures.grows (λ n there g at.
    c.in_ok-fill.ensures.drawn g (Contains-from_slice_get old n g at) (kind_of IsClassFact old c.args.numbers.now c.requires.numbers n there g at))
