-- What is left of a state that has run to its end.
use Rattle.std.specs.Prelude.{◌<◌, ◌^◌, length}
use Rattle.inference.specs.Completeness.{IsClosure}
use Rattle.inference.specs.Derivations.{IsDerived}
use Rattle.saturate.specs.State.{Ended}

-- the facts are the closure, each there once and born of older ones, and 32 bits count them
pub record IsEnded (e : Ended) : Type 0 where
  pub born : IsDerived e.problem (record { facts = e.facts; births = e.births })
  pub all : IsClosure e.problem e.facts
  pub few : length e.facts < 2 ^ 32
