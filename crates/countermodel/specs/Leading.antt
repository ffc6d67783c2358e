-- Which individuals are one, and which contexts have the elements, by forms over numbers.
use Rattle.std.specs.Prelude.{◌≡◌, ◌≤◌, ◌↔◌, ℕ, List}
use Rattle.axioms.specs.Ontology.{Ontology}
use Rattle.axioms.specs.declared.ids.IndId.{IndId}
use Rattle.normal_forms.specs.declared.forms.Form.{Form}
use Rattle.facts.specs.Closure as numbered
use Rattle.indexes.specs.Groups.{links}
use Rattle.closure.specs.Closure.{Context, Expression, Individual, AreSame}
use Rattle.countermodel.specs.Sets.{IsAdmitted}
use Rattle.countermodel.specs.declared.satisfiable.Satisfiable.{Satisfiable}

-- each of the forms makes two individuals one
abbrev pub AreLinks : List Form → Type 0
AreLinks forms = forms ≡ links forms

-- they make the same individuals one as the axioms do
pub record AreGroupsOf (o : Ontology) (asked : List ℕ) (forms : List Form) : Type 0 where
  pub links : AreLinks forms
  pub same : (i j : IndId) → numbered.AreSame forms i j ↔ AreSame o asked i.0 j.0

-- an expression, or the least individual of its group
abbrev pub LeadsBy : List Form → Context → Type 0
LeadsBy forms (Expression e) = Unit {0}
LeadsBy forms (Individual a) = (b : IndId) → numbered.AreSame forms (record { 0 = a }) b → a ≤ b.0

-- satisfiable, and so
abbrev pub IsElementBy : Satisfiable → List Form → Context → Type 0
IsElementBy s forms x = IsAdmitted s x × LeadsBy forms x
