-- What normal forms and roots make.
use Rattle.std.specs.Prelude.{List, map}
use Rattle.axioms.specs.Ontology.{Ontology}
use Rattle.facts.specs.declared.contexts.Context.{Context}
use Rattle.facts.specs.Closure.{Problem}
use Rattle.closure.specs.Denotations.{Prefixes, IsProblemOf}
use Rattle.normalise.specs.Entries.{form_in}
use Rattle.normalise.specs.Growth.{IsNormalFor}
use Rattle.normalise.specs.Listing.{Listing}
use Rattle.normalise.specs.Roots.{AreRoots}

-- what the numbers of prefixes stand for
abbrev pub prefixes_of : Listing → Prefixes
prefixes_of v = record { operands = v.operands; steps = v.steps }

-- the forms and the lists of what is apart, with the roots
abbrev pub problem_of : Listing → List Context → Problem
problem_of v roots = record { forms = map form_in v.entries; apart = v.apart; roots = roots }

-- those of an ontology and its roots are what its closure speaks of
abbrev pub NormalFormsMakeTheProblem : Type 0
NormalFormsMakeTheProblem =
    (o : Ontology) (v : Listing) (roots : List Context) → IsNormalFor o v → AreRoots o v.asked roots →
    IsProblemOf o v.asked (prefixes_of v) (problem_of v roots)
