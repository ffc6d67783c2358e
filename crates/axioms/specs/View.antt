-- The code's expressions and axioms as those of the definitions.
use Rattle.std.specs.Prelude.{ℕ, zero, suc, List, map, slice_get, None}
use Rattle.std.specs.declared.option.Option.{Option}
use Rattle.axioms.specs.declared.ids.ExprId.{ExprId}
use Rattle.axioms.specs.declared.ids.PropId.{PropId}
use Rattle.axioms.specs.declared.ids.IndId.{IndId}
use Rattle.axioms.specs.declared.terms.Expr as code_expr
use Rattle.axioms.specs.declared.terms.Expr.TheVariants as exprs
use Rattle.axioms.specs.declared.terms.Axiom as code_axiom
use Rattle.axioms.specs.declared.terms.Axiom.TheVariants as axioms
use Rattle.axioms.specs.Ontology as numbered

abbrev pub expr_numbers : List ExprId → List ℕ
expr_numbers = map (λ (e : ExprId). e.0)

abbrev pub prop_numbers : List PropId → List ℕ
prop_numbers = map (λ (p : PropId). p.0)

abbrev pub ind_numbers : List IndId → List ℕ
ind_numbers = map (λ (a : IndId). a.0)

-- one level of an expression
abbrev pub node_of : code_expr.Expr → numbered.Node
node_of (exprs.Class c) = numbered.Class c.0
node_of (exprs.And es) = numbered.And (expr_numbers es.items)
node_of (exprs.Some p e) = numbered.Exists p.0 e.0

-- an axiom over numbers
abbrev pub axiom_of : code_axiom.Axiom → numbered.Axiom
axiom_of (axioms.SubClass c d) = numbered.SubClass c.0 d.0
axiom_of (axioms.EquivalentClasses cs) = numbered.EquivalentClasses (expr_numbers cs.items)
axiom_of (axioms.DisjointClasses cs) = numbered.DisjointClasses (expr_numbers cs.items)
axiom_of (axioms.SubProperty chain s) = numbered.SubProperty (prop_numbers chain.items) s.0
axiom_of (axioms.EquivalentProperties rs) = numbered.EquivalentProperties (prop_numbers rs.items)
axiom_of (axioms.Domain r c) = numbered.Domain r.0 c.0
axiom_of (axioms.Transitive r) = numbered.Transitive r.0
axiom_of (axioms.Reflexive r) = numbered.Reflexive r.0
axiom_of (axioms.ClassAssertion c a) = numbered.ClassAssertion c.0 a.0
axiom_of (axioms.PropertyAssertion r a b) = numbered.PropertyAssertion r.0 a.0 b.0
axiom_of (axioms.SameIndividuals xs) = numbered.SameIndividuals (ind_numbers xs.items)
axiom_of (axioms.DifferentIndividuals xs) = numbered.DifferentIndividuals (ind_numbers xs.items)
axiom_of (axioms.NegativePropertyAssertion r a b) = numbered.NegativePropertyAssertion r.0 a.0 b.0

-- what has that number, counted from 1
abbrev pub at_number : {A : Type 0} → List A → ℕ → Option A
at_number xs zero = None
at_number xs (suc n) = slice_get xs n
