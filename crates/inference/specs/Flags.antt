-- Flags of contexts that have what is in each context.
use Rattle.std.specs.Prelude.{◌≡◌, List, Bool, true}
use Rattle.number_sets.specs.Members.{has}
use Rattle.facts.specs.declared.contexts.Context.{Context}
use Rattle.facts.specs.declared.contexts.Context.TheVariants.{Expr, Individual}
use Rattle.inference.specs.Derivations.{Derived}
use Rattle.inference.specs.Completeness.{HasEntry, IsInItself}

-- flags of contexts, by their numbers
pub record Flags : Type 0 where
  pub expressions : List Bool
  pub individuals : List Bool

abbrev pub IsFlagged : Flags → Context → Type 0
IsFlagged flags (Expr e) = has flags.expressions e.0 ≡ true
IsFlagged flags (Individual a) = has flags.individuals a.0 ≡ true

-- x has an entry, and is in itself where it is an expression: so it is entered, by whatever forms
pub record HasEntryFacts (d : Derived) (x : Context) : Type 0 where
  pub entry : HasEntry d x
  pub itself : IsInItself x d.facts

-- each flagged context has these
abbrev pub AreFlags : Derived → Flags → Type 0
AreFlags d flags = (x : Context) → IsFlagged flags x → HasEntryFacts d x
