-- What the listed interpretation says of names.
use Rattle.std.proofs.Common.{◌≡◌, ◌↔◌, ℕ, zero, suc, ◌+◌, ◌<◌, ◌≤◌, List, [], ◌∷◌, length, get_or, slice_get, Some, Contains, true, refl, sym, ap, ◌∙◌, arith, inl, inr}
use Rattle.std.specs.List.{range_with_len}
use Rattle.std.proofs.lemmas.Bool.{cases_lt, cases_eq, eq-eqb, ne_eqb}
use Rattle.std.proofs.lemmas.List.{get_or_past}
use Rattle.std.proofs.lemmas.List.FromFn.{length-range_with_len, get_or-range_with_len}
use Rattle.std.proofs.lemmas.Option.{none-some, same_Some, get_or_from_slice_get, slice_get_within}
use Rattle.axioms.specs.Expression.{owl_thing, owl_nothing}
use Rattle.axioms.specs.Ontology.{Ontology, Node, Class, And, Exists, IsClassAt, name_at, property_name, individual_name}
use Rattle.axioms.specs.WellFormedness.{IsOntology}
use Rattle.axioms.proofs.Trees.{class_number}
use Rattle.certificate.specs.Certificate.{Listed}
use Rattle.certificate.specs.Writability.{IsListedOf}
use Rattle.interpretation_spec.specs.Interpretation.{IsInterpretation}
use Rattle.interpretation_spec.specs.NamedInterpretation.{number_of}
use Rattle.interpretation_spec.proofs.Names.{named, number_of-name_at}
use Rattle.listed_model.specs.Listing.{IsListing, elements_of, targets_of}
use Rattle.listed_model.specs.Interpretations.{class_place, class_members, listed_interpretation}
use Rattle.listed_model.specs.Members.{holds}
use Rattle.listed_model.proofs.Members.{holds_from_Contains, Contains_from_holds}

-- a class's place among the expressions
place_at : (nodes : List Node) (c e : ℕ) → slice_get nodes e ≡ Some (Class c) → ((m : ℕ) → slice_get nodes m ≡ Some (Class c) → m ≡ e) → class_place nodes c ≡ e
place_at [] c e g only = absurd (none-some (Class c) g)
place_at (Class d ∷ nodes) c e g only = elim (cases_eq d c) [
  | inl f ↦ rw (eq-eqb d c f) (only 0 (ap (λ k. Some (Class k)) f))
  | inr ne ↦ rw (ne_eqb d c ne) (later d nodes c e (place_at nodes c) ne g only)
]
  where
    later : (d : ℕ) (nodes : List Node) (c e : ℕ) → ((e : ℕ) → slice_get nodes e ≡ Some (Class c) → ((m : ℕ) → slice_get nodes m ≡ Some (Class c) → m ≡ e) → class_place nodes c ≡ e) → (d ≡ c → ⊥) → slice_get (Class d ∷ nodes) e ≡ Some (Class c) → ((m : ℕ) → slice_get (Class d ∷ nodes) m ≡ Some (Class c) → m ≡ e) → suc (class_place nodes c) ≡ e
    later d nodes c zero rec ne g only = absurd (ne (ap class_number (same_Some (Class d) (Class c) g)))
    later d nodes c (suc e) rec ne g only = ap suc (rec e g (λ m h. (let at : suc m ≡ suc e = only (suc m) h in omega arith)))
place_at (And ds ∷ nodes) c zero g only = let e : And ds ≡ Class c = same_Some (And ds) (Class c) g in cc
place_at (And ds ∷ nodes) c (suc e) g only = ap suc (place_at nodes c e g (λ m h. (let at : suc m ≡ suc e = only (suc m) h in omega arith)))
place_at (Exists r d ∷ nodes) c zero g only = let e : Exists r d ≡ Class c = same_Some (Exists r d) (Class c) g in cc
place_at (Exists r d ∷ nodes) c (suc e) g only = ap suc (place_at nodes c e g (λ m h. (let at : suc m ≡ suc e = only (suc m) h in omega arith)))

-- all elements
pub range_has : (n x : ℕ) → (holds (range_with_len 0 n) x ≡ true) ↔ (x < n)
range_has n x = (
  λ h. (let (k, l, e) = Contains_from_holds (range_with_len 0 n) x h in
      let many = length-range_with_len 0 n in
      let at : get_or (range_with_len 0 n) k x ≡ 0 + k = get_or-range_with_len 0 n k x (omega arith) in
      omega arith),
  λ l. holds_from_Contains (range_with_len 0 n) x (x, omega (arith, length-range_with_len 0 n), (let at : get_or (range_with_len 0 n) x x ≡ 0 + x = get_or-range_with_len 0 n x x l in let same : 0 + x ≡ x = omega arith in at ∙ same)),
)

class_place_of : (o : Ontology) → IsOntology o → (c e : ℕ) → IsClassAt o c e → class_place o.nodes c ≡ e
class_place_of o w c e g = place_at o.nodes c e g (λ m h. w.distinct_nodes m e (Class c) h g)

module _ (o : Ontology) (w : IsOntology o) (l : Listed) where
  pub size_is : (listed_interpretation o l).size ≡ l.domain
  unfolding listed_interpretation
  size_is = refl

  pub class_is : (c e x : ℕ) → IsClassAt o c e → (listed_interpretation o l).class (name_at o.names.classes c) x ≡ holds (class_members l e) x
  unfolding listed_interpretation
  class_is c e x g = ap (λ k. holds (class_members l (class_place o.nodes k)) x) (number_of-name_at o.names.classes w.distinct_classes c (w.nodes e (Class c) g)) ∙ ap (λ k. holds (class_members l k) x) (class_place_of o w c e g)

  pub property_is : (r x y : ℕ) → r < length o.names.properties → (listed_interpretation o l).property (property_name o r) x y ≡ holds (targets_of l.pairs r x) y
  unfolding listed_interpretation
  property_is r x y lr = ap (λ k. holds (targets_of l.pairs k x) y) (number_of-name_at o.names.properties w.distinct_properties r lr)

  pub individual_is : (a : ℕ) → a < length o.names.individuals → (listed_interpretation o l).individual (individual_name o a) ≡ get_or l.individuals a 0
  unfolding listed_interpretation
  individual_is a la = ap (λ k. get_or l.individuals k 0) (number_of-name_at o.names.individuals w.distinct_individuals a la)

  pub listing_is : IsListedOf o l → IsListing o l (listed_interpretation o l)
  listing_is fits = record {
    size = size_is;
    classes = λ c e x g two lx. listed_class c e x g two;
    pairs = λ r x y lr lx ly. (
      λ h. Contains_from_holds (targets_of l.pairs r x) y (sym (property_is r x y lr) ∙ h),
      λ h. property_is r x y lr ∙ holds_from_Contains (targets_of l.pairs r x) y h,
    );
    individuals = λ a x g.
        let within = slice_get_within l.individuals a x g in
        let many = fits.individuals_each in
        individual_is a (omega arith) ∙ get_or_from_slice_get l.individuals a x 0 g;
  }
    where
      listed_class : (c e x : ℕ) → IsClassAt o c e → 2 ≤ e → ((listed_interpretation o l).class (name_at o.names.classes c) x ≡ true) ↔ Contains (elements_of l.classes e) x
      listed_class c zero x g two = absurd (omega arith)
      listed_class c (suc zero) x g two = absurd (omega arith)
      listed_class c (suc (suc e)) x g two = (
        λ h. Contains_from_holds (elements_of l.classes (suc (suc e))) x (sym (class_is c (suc (suc e)) x g) ∙ h),
        λ h. class_is c (suc (suc e)) x g ∙ holds_from_Contains (elements_of l.classes (suc (suc e))) x h,
      )

  within_domain : IsListedOf o l → (k : ℕ) → get_or l.individuals k 0 < l.domain
  within_domain fits k = elim (cases_lt k (length l.individuals)) [
    | inl b ↦ fits.individuals k 0 b
    | inr b ↦ rw (get_or_past l.individuals k 0 b) (omega (arith, fits.domain))
  ]

  thing_is : (x : ℕ) → (listed_interpretation o l).class owl_thing x ≡ holds (class_members l 0) x
  unfolding listed_interpretation
  thing_is x = ap (λ k. holds (class_members l (class_place o.nodes k)) x) (named o.names.classes w.distinct_classes 0 owl_thing w.thing_name) ∙ ap (λ k. holds (class_members l k) x) (class_place_of o w 0 0 w.thing_node)

  nothing_is : (x : ℕ) → (listed_interpretation o l).class owl_nothing x ≡ holds (class_members l 1) x
  unfolding listed_interpretation
  nothing_is x = ap (λ k. holds (class_members l (class_place o.nodes k)) x) (named o.names.classes w.distinct_classes 1 owl_nothing w.nothing_name) ∙ ap (λ k. holds (class_members l k) x) (class_place_of o w 1 1 w.nothing_node)

  pub interpretation_is : IsListedOf o l → IsInterpretation (listed_interpretation o l)
  unfolding listed_interpretation
  interpretation_is fits = record {
    inhabited = omega (arith, fits.domain);
    individuals = λ a. within_domain fits (number_of o.names.individuals a);
    thing = λ x lx. thing_is x ∙ (range_has l.domain x).1 lx;
    nothing = λ x lx. nothing_is x;
  }
