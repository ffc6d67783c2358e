-- What follows from axioms: what holds in every finite interpretation in which they hold (OWL 2 Direct Semantics, section 2.5).
use Rattle.std.specs.Prelude.{List}
use Rattle.std.specs.List.{All}
use Rattle.axioms.specs.Axiom.{Axiom}
use Rattle.interpretation_spec.specs.Interpretation.{Interpretation, IsModel, Satisfies}

-- every finite interpretation of the axioms satisfies the other one
abbrev pub Follows : List Axiom → Axiom → Type 0
Follows axioms other = (i : Interpretation) → IsModel i axioms → Satisfies i other

-- the axioms entail each of the others
abbrev pub Entails : List Axiom → List Axiom → Type 0
Entails axioms others = All (Follows axioms) others
