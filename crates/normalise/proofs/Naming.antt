-- What the forms of properties name is there.
use Rattle.std.proofs.Common.{◌≡◌, ℕ, zero, suc, ◌+◌, ◌<◌, inl, inr, Bool, true, false, List, length, take, map, slice_get, Some, sym, ap, ◌∙◌, subst, arith}
use Rattle.std.specs.Prelude.{slice_index, if◌then◌else◌, ◌==◌}
use Rattle.std.specs.List.{All}
use Rattle.std.proofs.lemmas.List.Elements.{All-contains}
use Rattle.std.proofs.lemmas.Option.{none-some, slice_get_within, slice_get-get_or}
use Rattle.lemmas.proofs.Choices.{one_value}
use Rattle.lemmas.proofs.Mapped.{slice_get_map_from}
use Rattle.lemmas.proofs.Members.{Contains-from_slice_get}
use Rattle.axioms.specs.Ontology.{Ontology, Axiom, Node, Class, And, Exists, SubClass, EquivalentClasses, DisjointClasses, SubProperty, EquivalentProperties, Domain, Transitive, Reflexive, ClassAssertion, PropertyAssertion, SameIndividuals, DifferentIndividuals, NegativePropertyAssertion}
use Rattle.axioms.specs.WellFormedness.{IsAxiomOf, IsOntology}
use Rattle.normal_forms.specs.declared.forms.PropId2 as code_property
use Rattle.normal_forms.specs.declared.forms.PropId2.TheVariants as properties
use Rattle.normal_forms.specs.declared.forms.Form as code_form
use Rattle.normal_forms.specs.declared.forms.Form.TheVariants as forms
use Rattle.normal_forms.specs.declared.forms.Origin.{Origin}
use Rattle.normal_forms.specs.declared.forms.Origin.TheVariants as origins
use Rattle.normal_forms.specs.Forms.{Property2, Form, Property, Steps, N5, N6, N7, first_steps}
use Rattle.normal_forms.specs.Origins.{GivenBy, AxiomGives, RightGives, LeftGives}
use Rattle.normal_forms.specs.Properties.{IsPropertyOf, IsPropertyFormOf}
use Rattle.normalise.specs.Entries.{form_in}
use Rattle.normalise.specs.Growth.{IsNormalFor}
use Rattle.normalise.specs.Listing.{Listing}
use Rattle.normalise.specs.View.{Lists, Says, SaysProperty}

IsThere : ℕ → Property2 → Type 0
IsThere many (Property p) = p < many
IsThere many (Steps rs) = Unit {0}

AreThere : ℕ → Form → Type 0
AreThere many (N5 r s) = (r < many) × (s < many)
AreThere many (N6 p q r) = IsThere many p × IsThere many q × IsThere many r
AreThere many (N7 r) = r < many
AreThere many _ = Unit {0}

member_there : (many : ℕ) (rs : List ℕ) (n r : ℕ) → All (λ x. x < many) rs → slice_get rs n ≡ Some r → r < many
member_there many rs n r all g = All-contains (λ x. x < many) rs r all (Contains-from_slice_get rs n r g)

first_there : (many : ℕ) (rs : List ℕ) (s n : ℕ) → All (λ x. x < many) rs → s < many → 0 < length rs → IsThere many (first_steps rs (Property s) n)
unfolding IsThere
first_there many rs s n all h l = go (n == length rs) (n == 1)
  where
    go : (b c : Bool) → IsThere many (if b then Property s else (if c then Property (slice_index rs 0) else Steps (take n rs)))
    go true c = h
    go false true = member_there many rs 0 (slice_index rs 0) all (slice_get-get_or rs 0 0 l)
    go false false = tt

axiom_there : (o : Ontology) (a : Axiom) (g : Form) → IsAxiomOf o a → AxiomGives a g → AreThere (length o.names.properties) g
unfolding AreThere IsThere
axiom_there o (SubClass c d) g ok e = subst (AreThere (length o.names.properties)) (sym e) tt
axiom_there o (EquivalentClasses cs) g ok (n, (c, d, gc, next, e)) = subst (AreThere (length o.names.properties)) (sym e) tt
axiom_there o (DisjointClasses cs) g ok (m, (n, (c, d, lt, gc, gd, e))) = subst (AreThere (length o.names.properties)) (sym e) tt
axiom_there o (SubProperty rs s) g ok (inl (r, i, e)) =
    subst (AreThere (length o.names.properties)) (sym e) (member_there (length o.names.properties) rs 0 r ok.1 (ap (λ xs. slice_get xs 0) i), ok.2)
axiom_there o (SubProperty rs s) g ok (inr (n, (r, pos, gr, e))) =
    let many = length o.names.properties in let long : 0 < length rs = omega (arith, ok.0) in
    subst (AreThere many) (sym e) (first_there many rs s n ok.1 ok.2 long, member_there many rs n r ok.1 gr, first_there many rs s (n + 1) ok.1 ok.2 long)
axiom_there o (EquivalentProperties rs) g ok (n, (r, s, gr, next, e)) =
    let many = length o.names.properties in
    subst (AreThere many) (sym e) (member_there many rs n r ok.within gr, elim next [ inl gs ↦ member_there many rs (n + 1) s ok.within gs | inr gs ↦ member_there many rs 0 s ok.within gs.1 ])
axiom_there o (Domain r c) g ok e = subst (AreThere (length o.names.properties)) (sym e) tt
axiom_there o (Transitive r) g ok e = subst (AreThere (length o.names.properties)) (sym e) (ok, ok, ok)
axiom_there o (Reflexive r) g ok e = subst (AreThere (length o.names.properties)) (sym e) ok
axiom_there o (ClassAssertion c a) g ok e = subst (AreThere (length o.names.properties)) (sym e) tt
axiom_there o (PropertyAssertion r a b) g ok e = subst (AreThere (length o.names.properties)) (sym e) tt
axiom_there o (SameIndividuals xs) g ok (n, (a, b, ga, gb, e)) = subst (AreThere (length o.names.properties)) (sym e) tt
axiom_there o (DifferentIndividuals xs) g ok (m, (n, (a, b, lt, ga, gb, e))) = subst (AreThere (length o.names.properties)) (sym e) tt
axiom_there o (NegativePropertyAssertion r a b) g ok e = subst (AreThere (length o.names.properties)) (sym e) tt

right_there : (many e : ℕ) (node : Node) (g : Form) → RightGives e node g → AreThere many g
unfolding AreThere
right_there many e (Class c) g h = absurd h
right_there many e (And ds) g (d, c, i) = subst (AreThere many) (sym i) tt
right_there many e (Exists r c) g h = subst (AreThere many) (sym h) tt

left_there : (many e : ℕ) (node : Node) (g : Form) → LeftGives e node g → AreThere many g
unfolding AreThere
left_there many e (Class c) g h = absurd h
left_there many e (And ds) g (n, (d, pos, gd, i)) = subst (AreThere many) (sym i) tt
left_there many e (Exists r c) g h = subst (AreThere many) (sym h) tt

given_there : (o : Ontology) → IsOntology o → (asked : List ℕ) (by : Origin) (g : Form) → GivenBy o asked by g → AreThere (length o.names.properties) g
given_there o ok asked (origins.Axiom zero) g (a, at, h) = absurd (none-some a at)
given_there o ok asked (origins.Axiom (suc n)) g (a, at, h) = axiom_there o a g (All-contains (IsAxiomOf o) o.axioms a ok.axioms (Contains-from_slice_get o.axioms n a at)) h
given_there o ok asked (origins.Expr e) g (node, at, h) = elim h [ inl x ↦ right_there (length o.names.properties) e.0 node g x.1 | inr y ↦ left_there (length o.names.properties) e.0 node g y.1 ]

property_there : (many : ℕ) (u : Lists) (p : code_property.PropId2) (x : Property2) → SaysProperty u p x → IsThere many x → IsPropertyOf many (length u) p
unfolding IsThere
property_there many u (properties.Property p) x e h = subst (IsThere many) e h
property_there many u (properties.Partial n) x (rs, g, e) h = slice_get_within u n rs g

form_there : (many : ℕ) (t u : Lists) (f : code_form.Form) (g : Form) → Says t u f g → AreThere many g → IsPropertyFormOf many (length u) f
unfolding AreThere
form_there many t u (forms.N1 a b) g h i = tt
form_there many t u (forms.N2 a b c) g h i = tt
form_there many t u (forms.N3 a r b) g h i = tt
form_there many t u (forms.N4 r a b) g h i = tt
form_there many t u (forms.N5 r s) g e i = subst (AreThere many) e i
form_there many t u (forms.N6 p q r) g (x, y, z, h, i, j, e) there =
    let k = subst (AreThere many) e there in (property_there many u p x h k.0, property_there many u q y i k.1, property_there many u r z j k.2)
form_there many t u (forms.N7 r) g e i = subst (AreThere many) e i
form_there many t u (forms.N8 a b) g h i = tt
form_there many t u (forms.N9 a r b) g h i = tt
form_there many t u (forms.N10 a b) g h i = tt
form_there many t u (forms.N12 a r b) g h i = tt

pub named : (o : Ontology) → IsOntology o → (v : Listing) → IsNormalFor o v → All (IsPropertyFormOf (length o.names.properties) (length v.steps)) (map form_in v.entries)
named o ok v n = λ k d l.
    let P : code_form.Form → Type 0 = IsPropertyFormOf (length o.names.properties) (length v.steps) in
    let at = slice_get_map_from form_in v.entries k _ (slice_get-get_or (map form_in v.entries) k d l) in
    let e = n.each k (slice_get_within v.entries k at.0 at.1) in
    let same : at.0 ≡ record { form = e.1.1.0; origin = e.0 } = one_value _ _ _ at.1 e.1.1.1 in
    subst P (sym (ap form_in same) ∙ at.2) (form_there (length o.names.properties) v.operands v.steps e.1.1.0 e.1.0 e.1.1.2 (given_there o ok v.asked e.0 e.1.0 e.1.2))
