-- Ontologies that have grown from others.
use Rattle.std.proofs.Common.{◌≡◌, ℕ, ◌<◌, List, [], ◌++◌, length, map, take, slice_get, Some, string_bytes, sym, ap, ◌∙◌, subst, arith, append_assoc}
use Rattle.std.proofs.Math.Seq.{take-append_seam}
use Rattle.std.proofs.lemmas.List.{append-nil, length-take, take-map}
use Rattle.std.proofs.lemmas.Option.{slice_get_within}
use Rattle.lemmas.proofs.Places.{slice_get_take}
use Rattle.axioms.specs.Fields.{kept_ontology, IsKept}
use Rattle.axioms.specs.Fronts.{Continues, Extends, front_of, lengths_of}
use Rattle.axioms.specs.Growth.{IsBounded}
use Rattle.axioms.specs.Ontology.{Ontology, Class, IsClassAt}
use Rattle.axioms.specs.View.{node_of, axiom_of}
use Rattle.axioms.specs.WellFormedness.{IsOntology}
use Rattle.axioms.specs.declared.ids.ExprId.{ExprId}
use Rattle.axioms.specs.declared.lengths.Lengths.{Lengths}
use Rattle.axioms.specs.declared.ontology.Ontology.TheInside.{Inside}
use Rattle.axioms.proofs.Keeping.{IsTable, kept_as, same_ontology, table_of}

-- ---- from one to the next

continues_self : {A : Type 0} (xs : List A) → Continues xs xs
continues_self xs = ([], sym (append-nil xs))

continues_both : {A : Type 0} (xs ys zs : List A) → Continues xs ys → Continues ys zs → Continues xs zs
continues_both xs ys zs h k = (h.0 ++ k.0, k.1 ∙ ap (λ us. us ++ k.0) h.1 ∙ append_assoc xs h.0 k.0)

pub extends_self : (o : Ontology) → Extends o o
extends_self o = record {
  classes = continues_self o.names.classes;
  properties = continues_self o.names.properties;
  individuals = continues_self o.names.individuals;
  nodes = continues_self o.nodes;
  axioms = continues_self o.axioms;
}

pub extends_both : (o p q : Ontology) → Extends o p → Extends p q → Extends o q
extends_both o p q h k = record {
  classes = continues_both o.names.classes p.names.classes q.names.classes h.classes k.classes;
  properties = continues_both o.names.properties p.names.properties q.names.properties h.properties k.properties;
  individuals = continues_both o.names.individuals p.names.individuals q.names.individuals h.individuals k.individuals;
  nodes = continues_both o.nodes p.nodes q.nodes h.nodes k.nodes;
  axioms = continues_both o.axioms p.axioms q.axioms h.axioms k.axioms;
}

-- ---- back

front_back : {A : Type 0} (xs ys : List A) → Continues xs ys → take (length xs) ys ≡ xs
front_back xs ys h = ap (take (length xs)) h.1 ∙ take-append_seam xs h.0

-- the front of an ontology that has grown from another, as long as that, is that
pub front_is : (old new : Ontology) → Extends old new → front_of (lengths_of old) new ≡ old
front_is old new h =
    same_ontology _ old
    (front_back old.names.classes new.names.classes h.classes)
    (front_back old.names.properties new.names.properties h.properties)
    (front_back old.names.individuals new.names.individuals h.individuals)
    (front_back old.nodes new.nodes h.nodes)
    (front_back old.axioms new.axioms h.axioms)

-- fewer classes have their expressions in the front of the table
front_table : (l : Lengths) (o : Ontology) (table : List ExprId) → IsOntology o → IsOntology (front_of l o) → IsTable o table → IsTable (front_of l o) (take l.classes table)
front_table l o table whole front is = (long, place)
  where
    long : length (take l.classes table) ≡ length (take l.classes o.names.classes)
    long = omega (arith, length-take l.classes table, length-take l.classes o.names.classes, is.0)

    place : (c : ℕ) (e : ExprId) → slice_get (take l.classes table) c ≡ Some e → IsClassAt (front_of l o) c e.0
    place c e at =
        let within : c < length (take l.classes o.names.classes) = omega (arith, slice_get_within (take l.classes table) c e at, long) in
        let own = front.class_nodes c within in
        let same : own.0 ≡ e.0 = whole.distinct_nodes own.0 e.0 (Class c) (slice_get_take l.expressions o.nodes own.0 (Class c) own.1).1 (is.1 c e (slice_get_take l.classes table c e at).1) in
        subst (λ n. IsClassAt (front_of l o) c n) same own.1

front_bounded : (l : Lengths) (o : Ontology) → IsBounded o → IsBounded (front_of l o)
front_bounded l o bounded = record {
  classes = omega (arith, length-take l.classes o.names.classes, bounded.classes);
  properties = omega (arith, length-take l.properties o.names.properties, bounded.properties);
  individuals = omega (arith, length-take l.individuals o.names.individuals, bounded.individuals);
  expressions = omega (arith, length-take l.expressions o.nodes, bounded.expressions);
  axioms = omega (arith, length-take l.axioms o.axioms, bounded.axioms);
}

-- fields cut to these lengths stand for the front of the ontology
module _ (l : Lengths) (from cut : Inside) (classes : cut.classes.keys ≡ take l.classes from.classes.keys) (properties : cut.properties.keys ≡ take l.properties from.properties.keys)
    (individuals : cut.individuals.keys ≡ take l.individuals from.individuals.keys) (expressions : cut.expressions.keys ≡ take l.expressions from.expressions.keys) (axioms : cut.axioms.items ≡ take l.axioms from.axioms.items) where
  pub cut_is : kept_ontology cut ≡ front_of l (kept_ontology from)
  cut_is =
      same_ontology (kept_ontology cut) (front_of l (kept_ontology from))
      (ap (map string_bytes) classes ∙ sym (take-map string_bytes l.classes from.classes.keys))
      (ap (map string_bytes) properties ∙ sym (take-map string_bytes l.properties from.properties.keys))
      (ap (map string_bytes) individuals ∙ sym (take-map string_bytes l.individuals from.individuals.keys))
      (ap (map node_of) expressions ∙ sym (take-map node_of l.expressions from.expressions.keys))
      (ap (map axiom_of) axioms ∙ sym (take-map axiom_of l.axioms from.axioms.items))

  pub cut_kept : IsKept from → cut.class_expressions.items ≡ take l.classes from.class_expressions.items → IsOntology (front_of l (kept_ontology from)) → IsKept cut
  cut_kept kept table whole =
      let o = kept_ontology from in
      kept_as cut (front_of l o) cut_is whole (front_bounded l o kept.bounded)
      (subst (IsTable (front_of l o)) (sym table) (front_table l o from.class_expressions.items kept.ontology whole (table_of from kept)))
