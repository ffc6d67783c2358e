use Rattle.std.proofs.Common.{ℕ, MatchOption, Option, sym, subst}
use Rattle.axioms.specs.declared.ids.IndId.{IndId}
use Rattle.facts.specs.declared.contexts.Context.TheVariants.{Individual}
use Rattle.answers.specs.Selections.{PutsIndividual}
use Rattle.answers.proofs.marks.individual_in.Goals as goal

pub returns-in_err-context_in : goal.returns-in_err-context_in
returns-in_err-context_in c =
    let puts : ℕ → Type 0 = λ a. PutsIndividual c.args.fact.now a c.args.class.0 in
    subst (λ (found : Option IndId). MatchOption found ((a : ℕ) → puts a → ⊥) (λ a. puts a.0)) (sym c.from_residual.ensures) (λ a. c.in_err-context_in.ensures (Individual (record { 0 = a })))
