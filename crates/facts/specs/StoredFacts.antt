-- What the numbers of a stored fact stand for.
use Rattle.std.specs.Prelude.{ℕ, Bool, if◌then◌else◌}
use Rattle.facts.specs.declared.contexts.Context.{Context}
use Rattle.facts.specs.declared.contexts.Context.TheVariants as contexts
use Rattle.facts.specs.declared.contexts.Fact.{Fact}
use Rattle.facts.specs.declared.contexts.Fact.TheVariants as facts
use Rattle.facts.specs.declared.stored.StoredFact.TheInside.{Inside}
use Rattle.normal_forms.specs.StoredForms.{class_from, property_from}

abbrev pub context_from : Bool → ℕ → Context
context_from is_individual n = if is_individual then contexts.Individual (record { 0 = n }) else contexts.Expr (record { 0 = n })

abbrev pub fact_of : Inside → Fact
fact_of s =
    if s.is_edge
    then facts.Edge (context_from s.is_individual s.context) (property_from s.is_partial s.number) (context_from s.leads_to_individual s.target)
    else facts.In (class_from s.is_partial s.number) (context_from s.is_individual s.context)
