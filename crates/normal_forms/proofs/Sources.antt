-- The forms of the definition are those that something gives.
use Rattle.std.proofs.Common.{◌≡◌, ℕ, zero, suc, inl, inr, List, [], ◌∷◌, slice_get, Some, Contains, refl, sym, subst}
use Rattle.std.proofs.lemmas.Option.{none-some}
use Rattle.lemmas.proofs.Members.{Contains-from_slice_get, slice_get-from_Contains}
use Rattle.axioms.specs.Ontology.{Ontology, Axiom, Node, Class, And, Exists, SubClass, EquivalentClasses, DisjointClasses, SubProperty, EquivalentProperties, Domain, Transitive, Reflexive, ClassAssertion, PropertyAssertion, SameIndividuals, DifferentIndividuals, NegativePropertyAssertion}
use Rattle.normal_forms.specs.declared.forms.Origin.{Origin}
use Rattle.normal_forms.specs.declared.forms.Origin.TheVariants as origins
use Rattle.normal_forms.specs.Forms as forms
use Rattle.normal_forms.specs.Forms.{Form, IsForm}
use Rattle.normal_forms.specs.Occurrences as occurring
use Rattle.normal_forms.specs.Occurrences.{OccursRight, OccursLeft, Occurs, AtRight, AtLeft, itself, part}
use Rattle.normal_forms.specs.Origins.{AxiomGives, RightGives, LeftGives, GivenBy}

-- ---- sides

pub right_reached : (o : Ontology) (asked : List ℕ) (e : ℕ) → OccursRight o asked e → Occurs AtRight o asked e
right_reached o asked e (occurring.OccursRight.by_axiom a c at) = itself (inl (a, c, at))
right_reached o asked e (occurring.OccursRight.by_question c) = itself (inr c)
right_reached o asked e (occurring.OccursRight.by_part d node h g p) = part d node (right_reached o asked d h) g p

pub reached_right : (o : Ontology) (asked : List ℕ) (e : ℕ) → Occurs AtRight o asked e → OccursRight o asked e
reached_right o asked e (itself (inl (a, c, at))) = occurring.OccursRight.by_axiom a c at
reached_right o asked e (itself (inr c)) = occurring.OccursRight.by_question c
reached_right o asked e (part d node h g p) = occurring.OccursRight.by_part d node (reached_right o asked d h) g p

pub left_reached : (o : Ontology) (asked : List ℕ) (e : ℕ) → OccursLeft o asked e → Occurs AtLeft o asked e
left_reached o asked e (occurring.OccursLeft.by_axiom a c at) = itself (inl (a, c, at))
left_reached o asked e (occurring.OccursLeft.by_question c) = itself (inr c)
left_reached o asked e (occurring.OccursLeft.by_part d node h g p) = part d node (left_reached o asked d h) g p

pub reached_left : (o : Ontology) (asked : List ℕ) (e : ℕ) → Occurs AtLeft o asked e → OccursLeft o asked e
reached_left o asked e (itself (inl (a, c, at))) = occurring.OccursLeft.by_axiom a c at
reached_left o asked e (itself (inr c)) = occurring.OccursLeft.by_question c
reached_left o asked e (part d node h g p) = occurring.OccursLeft.by_part d node (reached_left o asked d h) g p

-- ---- forms

Given : Ontology → List ℕ → Form → Type 0
Given o asked g = (by : Origin) × GivenBy o asked by g

by_axiom : (o : Ontology) (asked : List ℕ) (a : Axiom) (g : Form) → Contains o.axioms a → AxiomGives a g → Given o asked g
unfolding Given
by_axiom o asked a g c h = let p = slice_get-from_Contains o.axioms a c in (origins.Axiom (suc p.0), (a, p.1, h))

by_right : (o : Ontology) (asked : List ℕ) (e : ℕ) (node : Node) (g : Form) → OccursRight o asked e → slice_get o.nodes e ≡ Some node → RightGives e node g → Given o asked g
unfolding Given
by_right o asked e node g occurs at h = (origins.Expr (record { 0 = e }), (node, at, inl (right_reached o asked e occurs, h)))

by_left : (o : Ontology) (asked : List ℕ) (e : ℕ) (node : Node) (g : Form) → OccursLeft o asked e → slice_get o.nodes e ≡ Some node → LeftGives e node g → Given o asked g
unfolding Given
by_left o asked e node g occurs at h = (origins.Expr (record { 0 = e }), (node, at, inr (left_reached o asked e occurs, h)))

given : (o : Ontology) (asked : List ℕ) (g : Form) → IsForm o asked g → Given o asked g
given o asked _ (forms.IsForm.sub_class c d k) = by_axiom o asked (SubClass c d) _ k refl
given o asked _ (forms.IsForm.equivalent cs c d k next) = by_axiom o asked (EquivalentClasses cs) _ k (next.0, (c, d, next.1, next.2, refl))
given o asked _ (forms.IsForm.right_and e ds d occurs at k) = by_right o asked e (And ds) _ occurs at (d, k, refl)
given o asked _ (forms.IsForm.left_and e ds n d occurs at pos gd) = by_left o asked e (And ds) _ occurs at (n, (d, pos, gd, refl))
given o asked _ (forms.IsForm.disjoint cs c d k two) = by_axiom o asked (DisjointClasses cs) _ k (two.0, (two.1, (c, d, two.2, two.3, two.4, refl)))
given o asked _ (forms.IsForm.right_some e r c occurs at) = by_right o asked e (Exists r c) _ occurs at refl
given o asked _ (forms.IsForm.left_some e r c occurs at) = by_left o asked e (Exists r c) _ occurs at refl
given o asked _ (forms.IsForm.domain r c k) = by_axiom o asked (Domain r c) _ k refl
given o asked _ (forms.IsForm.sub_property r s k) = by_axiom o asked (SubProperty (r ∷ []) s) _ k (inl (r, refl, refl))
given o asked _ (forms.IsForm.same_property rs r s k next) = by_axiom o asked (EquivalentProperties rs) _ k (next.0, (r, s, next.1, next.2, refl))
given o asked _ (forms.IsForm.chain rs s n r k pos gr) = by_axiom o asked (SubProperty rs s) _ k (inr (n, (r, pos, gr, refl)))
given o asked _ (forms.IsForm.transitive r k) = by_axiom o asked (Transitive r) _ k refl
given o asked _ (forms.IsForm.reflexive r k) = by_axiom o asked (Reflexive r) _ k refl
given o asked _ (forms.IsForm.class_assertion c a k) = by_axiom o asked (ClassAssertion c a) _ k refl
given o asked _ (forms.IsForm.property_assertion r a b k) = by_axiom o asked (PropertyAssertion r a b) _ k refl
given o asked _ (forms.IsForm.same_individuals xs a b k next) = by_axiom o asked (SameIndividuals xs) _ k (next.0, (a, b, next.1, next.2, refl))
given o asked _ (forms.IsForm.different_individuals xs a b k two) = by_axiom o asked (DifferentIndividuals xs) _ k (two.0, (two.1, (a, b, two.2, two.3, two.4, refl)))
given o asked _ (forms.IsForm.negative_assertion r a b k) = by_axiom o asked (NegativePropertyAssertion r a b) _ k refl

of_axiom : (o : Ontology) (asked : List ℕ) (a : Axiom) (g : Form) → Contains o.axioms a → AxiomGives a g → IsForm o asked g
of_axiom o asked (SubClass c d) g k h = subst (IsForm o asked) (sym h) (forms.IsForm.sub_class c d k)
of_axiom o asked (EquivalentClasses cs) g k (n, (c, d, gc, next, e)) = subst (IsForm o asked) (sym e) (forms.IsForm.equivalent cs c d k (n, gc, next))
of_axiom o asked (DisjointClasses cs) g k (m, (n, (c, d, ne, gc, gd, e))) = subst (IsForm o asked) (sym e) (forms.IsForm.disjoint cs c d k (m, n, ne, gc, gd))
of_axiom o asked (SubProperty rs s) g k (inl (r, i, e)) = subst (IsForm o asked) (sym e) (forms.IsForm.sub_property r s (subst (λ xs. Contains o.axioms (SubProperty xs s)) i k))
of_axiom o asked (SubProperty rs s) g k (inr (n, (r, pos, gr, e))) = subst (IsForm o asked) (sym e) (forms.IsForm.chain rs s n r k pos gr)
of_axiom o asked (EquivalentProperties rs) g k (n, (r, s, gr, next, e)) = subst (IsForm o asked) (sym e) (forms.IsForm.same_property rs r s k (n, gr, next))
of_axiom o asked (Domain r c) g k h = subst (IsForm o asked) (sym h) (forms.IsForm.domain r c k)
of_axiom o asked (Transitive r) g k h = subst (IsForm o asked) (sym h) (forms.IsForm.transitive r k)
of_axiom o asked (Reflexive r) g k h = subst (IsForm o asked) (sym h) (forms.IsForm.reflexive r k)
of_axiom o asked (ClassAssertion c a) g k h = subst (IsForm o asked) (sym h) (forms.IsForm.class_assertion c a k)
of_axiom o asked (PropertyAssertion r a b) g k h = subst (IsForm o asked) (sym h) (forms.IsForm.property_assertion r a b k)
of_axiom o asked (SameIndividuals xs) g k (n, (a, b, ga, gb, e)) = subst (IsForm o asked) (sym e) (forms.IsForm.same_individuals xs a b k (n, ga, gb))
of_axiom o asked (DifferentIndividuals xs) g k (m, (n, (a, b, ne, ga, gb, e))) = subst (IsForm o asked) (sym e) (forms.IsForm.different_individuals xs a b k (m, n, ne, ga, gb))
of_axiom o asked (NegativePropertyAssertion r a b) g k h = subst (IsForm o asked) (sym h) (forms.IsForm.negative_assertion r a b k)

of_right : (o : Ontology) (asked : List ℕ) (e : ℕ) (node : Node) (g : Form) → OccursRight o asked e → slice_get o.nodes e ≡ Some node → RightGives e node g → IsForm o asked g
of_right o asked e (Class c) g occurs at h = absurd h
of_right o asked e (And ds) g occurs at (d, k, i) = subst (IsForm o asked) (sym i) (forms.IsForm.right_and e ds d occurs at k)
of_right o asked e (Exists r c) g occurs at h = subst (IsForm o asked) (sym h) (forms.IsForm.right_some e r c occurs at)

of_left : (o : Ontology) (asked : List ℕ) (e : ℕ) (node : Node) (g : Form) → OccursLeft o asked e → slice_get o.nodes e ≡ Some node → LeftGives e node g → IsForm o asked g
of_left o asked e (Class c) g occurs at h = absurd h
of_left o asked e (And ds) g occurs at (n, (d, pos, gd, i)) = subst (IsForm o asked) (sym i) (forms.IsForm.left_and e ds n d occurs at pos gd)
of_left o asked e (Exists r c) g occurs at h = subst (IsForm o asked) (sym h) (forms.IsForm.left_some e r c occurs at)

is_form : (o : Ontology) (asked : List ℕ) (by : Origin) (g : Form) → GivenBy o asked by g → IsForm o asked g
is_form o asked (origins.Axiom zero) g (a, at, h) = absurd (none-some a at)
is_form o asked (origins.Axiom (suc n)) g (a, at, h) = of_axiom o asked a g (Contains-from_slice_get o.axioms n a at) h
is_form o asked (origins.Expr e) g (node, at, inl (occurs, h)) = of_right o asked e.0 node g (reached_right o asked e.0 occurs) at h
is_form o asked (origins.Expr e) g (node, at, inr (occurs, h)) = of_left o asked e.0 node g (reached_left o asked e.0 occurs) at h

pub forms_given : (o : Ontology) (asked : List ℕ) (g : Form) → IsForm o asked g → (by : Origin) × GivenBy o asked by g
unfolding Given
forms_given o asked g h = given o asked g h

pub given_forms : (o : Ontology) (asked : List ℕ) (g : Form) → ((by : Origin) × GivenBy o asked by g) → IsForm o asked g
given_forms o asked g h = is_form o asked h.0 g h.1
