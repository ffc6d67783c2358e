-- Two classes that are stated disjoint, in either order.
use Rattle.std.proofs.Common.{ℕ, List, Contains, inl, inr, arith}
use Rattle.std.proofs.lemmas.Bool.{cases_lt}
use Rattle.axioms.specs.Ontology.{Ontology, AtTwoPlaces, DisjointClasses, nothing}
use Rattle.normal_forms.specs.Forms.{Whole, IsForm}
use Rattle.closure.specs.Closure.{Context, In, IsFact}
use Rattle.closure.proofs.Facts.{both}

pub either_order : (o : Ontology) (asked : List ℕ) (cs : List ℕ) (c d : ℕ) (x : Context) → Contains o.axioms (DisjointClasses cs) → AtTwoPlaces cs c d →
    IsFact o asked (In (Whole c) x) → IsFact o asked (In (Whole d) x) → IsFact o asked (In (Whole nothing) x)
either_order o asked cs c d x stated (m, n, apart, at_c, at_d) f g =
    elim (cases_lt m n) [
      | inl first ↦ both (Whole c) (Whole d) (IsForm.disjoint cs c d stated (m, n, first, at_c, at_d)) f g
      | inr second ↦ both (Whole d) (Whole c) (IsForm.disjoint cs d c stated (n, m, omega (arith, second, apart), at_d, at_c)) g f
    ]
