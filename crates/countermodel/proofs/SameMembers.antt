-- Whatever the members of the listed interpretation stand for is the listed interpretation.
use Rattle.std.proofs.Common.{◌≡◌, ℕ, zero, suc, ◌<◌, ◌↔◌, List, length, slice_get, Some, true, sym, subst, ◌∙◌, arith}
use Rattle.std.proofs.lemmas.Option.{slice_get-get_or, slice_get_within}
use Rattle.axioms.specs.Ontology.{Ontology, IsClassAt, name_at, property_name, individual_name, expression}
use Rattle.axioms.specs.WellFormedness.{IsOntology}
use Rattle.axioms.proofs.Trees.{class_tree}
use Rattle.listed_model.specs.Listing.{IsListing}
use Rattle.certificate.specs.Certificate.{Listed}
use Rattle.certificate.specs.Writability.{IsListedOf}
use Rattle.closure.specs.Closure.{Context, Individual, In, AreSame, IsFact}
use Rattle.closure.proofs.Facts as fact
use Rattle.exactness.specs.ListedInterpretation.{IsListedInterpretation, HasEdge}
use Rattle.interpretation_spec.specs.Interpretation.{Interpretation, IsInterpretation, IsIn}
use Rattle.interpretation_spec.proofs.Extensions.{in_thing, not_in_nothing}
use Rattle.normal_forms.specs.Forms.{Whole, Property}

module _ (o : Ontology) (asked : List ℕ) (w : IsOntology o) (l : Listed) (of : IsListedOf o l) (elements : List Context) (i j : Interpretation)
    (is : IsListedInterpretation o asked elements i) (lists : IsListing o l i) (lists' : IsListing o l j) (v : IsInterpretation j) where
  size_is : j.size ≡ length elements
  size_is = lists'.size ∙ (sym lists.size ∙ is.size)

  within : (m : ℕ) (x : Context) → slice_get elements m ≡ Some x → m < j.size
  within m x h = subst (λ n. m < n) (sym size_is) (slice_get_within elements m x h)

  within' : (m : ℕ) (x : Context) → slice_get elements m ≡ Some x → m < i.size
  within' m x h = subst (λ n. m < n) (sym is.size) (slice_get_within elements m x h)

  by_name : (c e m : ℕ) → IsClassAt o c e → IsIn j (expression o e) m → j.class (name_at o.names.classes c) m ≡ true
  by_name c e m at h = subst (λ t. IsIn j t m) (class_tree o c e at) h

  to_tree : (c e m : ℕ) → IsClassAt o c e → j.class (name_at o.names.classes c) m ≡ true → IsIn j (expression o e) m
  to_tree c e m at h = subst (λ t. IsIn j t m) (sym (class_tree o c e at)) h

  classes : (c e m : ℕ) (x : Context) → IsClassAt o c e → slice_get elements m ≡ Some x → (j.class (name_at o.names.classes c) m ≡ true) ↔ IsFact o asked (In (Whole e) x)
  classes c zero m x at h = (λ t. fact.in_thing ((is.contexts.satisfiable m x h).context), λ f. by_name c zero m at (in_thing o w j v m (within m x h)))
  classes c (suc zero) m x at h =
      (λ t. absurd (not_in_nothing o w j v m (within m x h) (to_tree c (suc zero) m at t)), λ f. absurd ((is.contexts.satisfiable m x h).without_nothing f))
  classes c (suc (suc e)) m x at h =
      let here = lists'.classes c (suc (suc e)) m at (omega arith) (within m x h) in
      let there = lists.classes c (suc (suc e)) m at (omega arith) (within' m x h) in
      let says = is.classes c (suc (suc e)) m x at h in
      (λ t. says.0 (there.1 (here.0 t)), λ f. here.1 (there.0 (says.1 f)))

  pairs : (r m n : ℕ) (x y : Context) → r < length o.names.properties → slice_get elements m ≡ Some x → slice_get elements n ≡ Some y → (j.property (property_name o r) m n ≡ true) ↔ HasEdge o asked x (Property r) y
  pairs r m n x y b h k =
      let here = lists'.pairs r m n b (within m x h) (within n y k) in
      let there = lists.pairs r m n b (within' m x h) (within' n y k) in
      let says = is.pairs r m n x y b h k in
      (λ t. says.0 (there.1 (here.0 t)), λ f. here.1 (there.0 (says.1 f)))

  individuals : (a b m : ℕ) → a < length o.names.individuals → AreSame o asked a b → slice_get elements m ≡ Some (Individual b) → j.individual (individual_name o a) ≡ m
  individuals a b m there same h =
      let at = slice_get-get_or l.individuals a 0 (subst (λ n. a < n) (sym of.individuals_each) there) in
      lists'.individuals a _ at ∙ (sym (lists.individuals a _ at) ∙ is.individuals a b m there same h)

  pub same_members : IsListedInterpretation o asked elements j
  same_members = record {
    size = size_is;
    contexts = is.contexts;
    classes = classes;
    pairs = pairs;
    individuals = individuals;
    within = v.individuals;
  }
