-- Two listings that say the same of elements and of those that they come to: the one is folded onto the other.
use Rattle.std.proofs.Common.{◌≡◌, ℕ, zero, suc, ◌<◌, ◌↔◌, length, get_or, map, slice_get, Some, Contains, refl, sym, ap, ◌∙◌, subst, arith}
use Rattle.std.specs.Cmp.{both_ways}
use Rattle.std.proofs.lemmas.Option.{slice_get-get_or}
use Rattle.axioms.specs.Expression.{owl_thing, owl_nothing}
use Rattle.axioms.specs.Ontology.{Ontology, IsClassAt, name_at, property_name, individual_name}
use Rattle.axioms.specs.WellFormedness.{IsOntology}
use Rattle.axioms.proofs.Trees.{one_class}
use Rattle.interpretation_spec.specs.Interpretation.{Interpretation, IsInterpretation}
use Rattle.interpretation_spec.specs.Folding.{Folds}
use Rattle.certificate.specs.Certificate.{Listed}
use Rattle.certificate.specs.Writability.{IsListedOf}
use Rattle.lemmas.proofs.Mapped.{slice_get_map}
use Rattle.lemmas.proofs.Members.{Contains-from_slice_get}
use Rattle.listed_model.specs.Listing.{IsListing, elements_of, targets_of}

-- each element of l comes to one of m, each of m is come to, and the lines of both say the same of an element and of the one that it
-- comes to
pub record Agrees (l m : Listed) (f : ℕ → ℕ) : Type 0 where
  pub within : (x : ℕ) → x < l.domain → f x < m.domain
  pub onto : (y : ℕ) → y < m.domain → (x : ℕ) × (x < l.domain) × (f x ≡ y)
  pub classes : (e x : ℕ) → x < l.domain → Contains (elements_of l.classes e) x ↔ Contains (elements_of m.classes e) (f x)
  pub pairs : (r x y : ℕ) → x < l.domain → y < l.domain → Contains (targets_of l.pairs r x) y ↔ Contains (targets_of m.pairs r (f x)) (f y)
  pub individuals : m.individuals ≡ map f l.individuals
  -- elements of individuals stay apart
  pub apart : (x y : ℕ) → Contains l.individuals x → Contains l.individuals y → f x ≡ f y → x ≡ y

module _ (o : Ontology) (w : IsOntology o) (l m : Listed) (f : ℕ → ℕ) (fits : IsListedOf o l) (a : Agrees l m f) where
  module _ (i j : Interpretation) (p : IsListing o l i) (q : IsListing o m j) (i_is : IsInterpretation i) (j_is : IsInterpretation j) where
    in_first : (x : ℕ) → x < i.size → x < l.domain
    in_first x h = subst (λ n. x < n) p.size h

    in_second : (x : ℕ) → x < i.size → f x < j.size
    in_second x h = subst (λ n. f x < n) (sym q.size) (a.within x (in_first x h))

    same_class : (c e x : ℕ) → IsClassAt o c e → x < i.size → i.class (name_at o.names.classes c) x ≡ j.class (name_at o.names.classes c) (f x)
    same_class c zero x g h =
        let first : c ≡ 0 = one_class o c 0 0 g w.thing_node in
        let name : name_at o.names.classes c ≡ owl_thing = ap (name_at o.names.classes) first ∙ rw w.thing_name refl in
        subst (λ n. i.class n x ≡ j.class n (f x)) (sym name) (i_is.thing x h ∙ sym (j_is.thing (f x) (in_second x h)))
    same_class c (suc zero) x g h =
        let second : c ≡ 1 = one_class o c 1 1 g w.nothing_node in
        let name : name_at o.names.classes c ≡ owl_nothing = ap (name_at o.names.classes) second ∙ rw w.nothing_name refl in
        subst (λ n. i.class n x ≡ j.class n (f x)) (sym name) (i_is.nothing x h ∙ sym (j_is.nothing (f x) (in_second x h)))
    same_class c (suc (suc e)) x g h =
        let here = p.classes c (suc (suc e)) x g (omega arith) h in
        let there = q.classes c (suc (suc e)) (f x) g (omega arith) (in_second x h) in
        let both = a.classes (suc (suc e)) x (in_first x h) in
        both_ways (i.class (name_at o.names.classes c) x) (j.class (name_at o.names.classes c) (f x))
        (λ t. there.1 (both.0 (here.0 t)))
        (λ t. here.1 (both.1 (there.0 t)))

    same_pair : (r x y : ℕ) → r < length o.names.properties → x < i.size → y < i.size → i.property (property_name o r) x y ≡ j.property (property_name o r) (f x) (f y)
    same_pair r x y lr lx ly =
        let here = p.pairs r x y lr lx ly in
        let there = q.pairs r (f x) (f y) lr (in_second x lx) (in_second y ly) in
        let both = a.pairs r x y (in_first x lx) (in_first y ly) in
        both_ways (i.property (property_name o r) x y) (j.property (property_name o r) (f x) (f y))
        (λ t. there.1 (both.0 (here.0 t)))
        (λ t. here.1 (both.1 (there.0 t)))

    listed_at : (b : ℕ) → b < length o.names.individuals → slice_get l.individuals b ≡ Some (get_or l.individuals b 0)
    listed_at b lb = slice_get-get_or l.individuals b 0 (rw fits.individuals_each lb)

    same_individual : (b : ℕ) → b < length o.names.individuals → f (i.individual (individual_name o b)) ≡ j.individual (individual_name o b)
    same_individual b lb =
        let x = get_or l.individuals b 0 in
        let g = listed_at b lb in
        ap f (p.individuals b x g)
        ∙ sym (q.individuals b (f x) (subst (λ xs. slice_get xs b ≡ Some (f x)) (sym a.individuals) (slice_get_map f l.individuals b x g)))

    listed_there : (b : ℕ) → b < length o.names.individuals → Contains l.individuals (i.individual (individual_name o b))
    listed_there b lb =
        let x = get_or l.individuals b 0 in
        let g = listed_at b lb in
        subst (λ z. Contains l.individuals z) (sym (p.individuals b x g)) (Contains-from_slice_get l.individuals b x g)

    pub agreeing_folds : Folds o i j f
    agreeing_folds = record {
      within = in_second;
      onto = λ y ly. (let (x, lx, is) = a.onto y (subst (λ n. y < n) q.size ly) in (x, subst (λ n. x < n) (sym p.size) lx, is));
      classes = λ c x lc lx. (let (e, g) = w.class_nodes c lc in same_class c e x g lx);
      pairs = same_pair;
      individuals = same_individual;
      apart = λ b c lb lc e. a.apart (i.individual (individual_name o b)) (i.individual (individual_name o c)) (listed_there b lb) (listed_there c lc) e;
    }
