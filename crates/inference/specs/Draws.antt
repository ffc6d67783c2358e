-- What a rule ensures that adds what it draws to the facts.
use Rattle.std.specs.Prelude.{◌≡◌, ◌≤◌, length, Result, Err, OnOk}
use Rattle.inference.specs.declared.known_facts.Stop.{Stop}
use Rattle.inference.specs.declared.known_facts.Stop.TheVariants.{Limit}
use Rattle.inference.specs.declared.rules.Rules.{Rules}
use Rattle.inference.specs.Derivations.{Derived, Grows, HasMoreFactsThan}

-- the facts grow; the limit stops the work only where there are more facts than may be, and not before there are as many as may be; and
-- where nothing stops it, this is drawn
pub record Draws (rules : Rules) (old new : Derived) (result : Result Unit Stop) (IsDrawn : Type 0) : Type 0 where
  pub grows : Grows rules.problem.now rules.max_facts old new
  pub limit : result ≡ Err Limit → HasMoreFactsThan rules.problem.now rules.max_facts
  pub full : result ≡ Err Limit → rules.max_facts ≤ length new.facts
  pub drawn : OnOk result IsDrawn
