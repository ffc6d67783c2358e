use Rattle.std.proofs.Common.{◌≡◌, ◌<◌, ◌^◌, List, length, ap, ◌∙◌}
use Rattle.facts.specs.declared.contexts.Fact.{Fact}
use Rattle.facts.specs.Closure.{Problem}
use Rattle.facts.specs.Births.{Reason}
use Rattle.inference.specs.Completeness.{IsClosure}
use Rattle.saturate.specs.State.{Seen, AreBorn}
use Rattle.saturate.specs.FinishedStates.{IsEnded}
use Rattle.saturate.proofs.state.State.finish.Goals as goal

-- what is left of a state whose facts are the closure, each born of older ones
left_of : (s : Seen) (k : Problem) (facts : List Fact) (births : List Reason) → k ≡ s.problem → facts ≡ s.facts → births ≡ s.births →
    AreBorn s → IsClosure s.problem s.facts → length s.facts < 2 ^ 32 → IsEnded (record { problem = k; facts = facts; births = births })
left_of s k facts births problem_is facts_are births_are born all few = rw problem_is (rw facts_are (rw births_are (record { born = born; all = all; few = few })))

pub invariant_of-result : goal.invariant_of-result
invariant_of-result g c = left_of c.args.self c.self.inside.ground _ _
    (ap (λ (s : Seen). s.problem) c.self.view_is)
    (c.into_lists-facts.ensures.facts ∙ ap (λ (s : Seen). s.facts) c.self.view_is)
    (c.into_lists-facts.ensures.births ∙ ap (λ (s : Seen). s.births) c.self.view_is)
    c.well_formed-2.ensures.state.born
    (c.well_formed-2.ensures.closure c.requires)
    c.well_formed-2.ensures.few
