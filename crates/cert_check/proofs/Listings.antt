-- Two interpretations that one list of members lists agree on the names of the ontology.
use Rattle.std.proofs.Common.{◌≡◌, ℕ, zero, suc, ◌<◌, get_or, slice_get, Some, refl, sym, ap, ◌∙◌, subst, arith}
use Rattle.std.proofs.lemmas.Option.{slice_get-get_or}
use Rattle.axioms.specs.Expression.{owl_thing, owl_nothing}
use Rattle.axioms.specs.Ontology.{Ontology, IsClassAt, name_at}
use Rattle.axioms.specs.WellFormedness.{IsOntology}
use Rattle.axioms.proofs.Trees.{one_class}
use Rattle.interpretation_spec.specs.Interpretation.{Interpretation, IsInterpretation}
use Rattle.interpretation_spec.specs.Agreement.{AgreeOn}
use Rattle.interpretation_spec.proofs.Agreement.{agreeing}
use Rattle.certificate.specs.Certificate.{Listed}
use Rattle.certificate.specs.Writability.{IsListedOf}
use Rattle.listed_model.specs.Listing.{IsListing}
use Rattle.cert_check.proofs.Determined.{same_answer}

module _ (o : Ontology) (w : IsOntology o) (l : Listed) (i j : Interpretation) (p : IsListing o l i) (q : IsListing o l j) (i_is : IsInterpretation i) (j_is : IsInterpretation j) where
  same_size : i.size ≡ j.size
  same_size = p.size ∙ sym q.size

  in_second : (x : ℕ) → x < i.size → x < j.size
  in_second x h = subst (λ n. x < n) same_size h

  -- owl:Thing and owl:Nothing are the same in all interpretations, and the others are listed
  same_class : (c e x : ℕ) → IsClassAt o c e → x < i.size → i.class (name_at o.names.classes c) x ≡ j.class (name_at o.names.classes c) x
  same_class c zero x g h =
      let first : c ≡ 0 = one_class o c 0 0 g w.thing_node in
      let name : name_at o.names.classes c ≡ owl_thing = ap (name_at o.names.classes) first ∙ rw w.thing_name refl in
      subst (λ n. i.class n x ≡ j.class n x) (sym name) (i_is.thing x h ∙ sym (j_is.thing x (in_second x h)))
  same_class c (suc zero) x g h =
      let second : c ≡ 1 = one_class o c 1 1 g w.nothing_node in
      let name : name_at o.names.classes c ≡ owl_nothing = ap (name_at o.names.classes) second ∙ rw w.nothing_name refl in
      subst (λ n. i.class n x ≡ j.class n x) (sym name) (i_is.nothing x h ∙ sym (j_is.nothing x (in_second x h)))
  same_class c (suc (suc e)) x g h =
      same_answer (i.class (name_at o.names.classes c) x) (j.class (name_at o.names.classes c) x) _
      (p.classes c (suc (suc e)) x g (omega arith) h) (q.classes c (suc (suc e)) x g (omega arith) (in_second x h))

  agree : IsListedOf o l → AgreeOn o i j
  agree fits =
      agreeing o i j same_size
      (λ c x lc h. (let (e, g) = w.class_nodes c lc in same_class c e x g h))
      (λ r x y lr lx ly.
      same_answer (i.property (name_at o.names.properties r) x y) (j.property (name_at o.names.properties r) x y) _
      (p.pairs r x y lr lx ly) (q.pairs r x y lr (in_second x lx) (in_second y ly)))
      (λ a la.
      let x = get_or l.individuals a 0 in
      let g : slice_get l.individuals a ≡ Some x = slice_get-get_or l.individuals a 0 (rw fits.individuals_each la) in
      p.individuals a x g ∙ sym (q.individuals a x g))

-- a list of members stands for one interpretation
pub listings_agree : (o : Ontology) → IsOntology o → (listed : Listed) → IsListedOf o listed → (i j : Interpretation) → IsListing o listed i → IsListing o listed j → IsInterpretation i → IsInterpretation j → AgreeOn o i j
listings_agree o w l fits i j p q i_is j_is = agree o w l i j p q i_is j_is fits
