-- The text of what was found reads as an ontology with these names and axioms.
use Rattle.std.proofs.Common.{◌<◌, List, ◌++◌, length, map, sym, ap, ◌∙◌, subst, arith}
use Rattle.std.specs.List.{filter_map}
use Rattle.std.proofs.lemmas.List.{length-map}
use Rattle.std.proofs.lemmas.Option.{slice_get_within}
use Rattle.axioms.specs.Expression.{owl_nothing, owl_thing}
use Rattle.axioms.specs.Numbering.{Statement, logical_axiom}
use Rattle.axioms.specs.Ontology.{Names, Ontology, name_at}
use Rattle.profile.specs.Documents.{ReadsAs}
use Rattle.profile.specs.Reading.{HasFewNames}
use Rattle.statements_text.specs.Texts.{document_text}
use Rattle.statements_text.proofs.Read.{reads}
use Rattle.taxonomy.specs.Texts.{in_byte_order}
use Rattle.inferred_text.specs.Inferred.{declarations}
use Rattle.inferred_text.specs.Theorems.{HaveSameNames, InferredReadsBack}
use Rattle.inferred_text.proofs.Brought.{no_axioms_declared}
use Rattle.inferred_text.proofs.Found.{found_lines}
use Rattle.inferred_text.proofs.Said.{Line, said}
use Rattle.inferred_text.proofs.Names.{name_is, same_names}
use Rattle.inferred_text.proofs.Numbered.{class_order, declared, few_in_class_order, few_in_order, in_class_order, low_in_class_order, numbered}
use Rattle.inferred_text.proofs.Orders.{in_order, low_in_order}
use Rattle.inferred_text.proofs.Reading.{is_ontology_of}
use Rattle.inferred_text.proofs.Sayable.{all_sayable}
use Rattle.inferred_text.proofs.Trees.{axioms_are}
use Rattle.inferred_text.proofs.Whole.{well_formed}

few_names : (o : Ontology) → HasFewNames o → 1 < length o.names.classes → (lines : List Line) → HasFewNames (numbered o.names lines)
few_names o few two lines =
    let names = o.names in
    let classes = few_in_class_order names.classes two in
    let properties = few_in_order names.properties in
    let individuals = few_in_order names.individuals in
    record {
      classes = omega (arith, few.classes, classes, length-map (class_order names.classes) (name_at names.classes));
      properties = omega (arith, few.properties, properties, length-map (in_byte_order names.properties) (name_at names.properties));
      individuals = omega (arith, few.individuals, individuals, length-map (in_byte_order names.individuals) (name_at names.individuals));
    }

names_kept : (names : Names) → 1 < length names.classes → HaveSameNames names (declared names)
names_kept names two = record {
  classes = same_names names.classes (class_order names.classes) (in_class_order names.classes) (low_in_class_order names.classes two);
  properties = same_names names.properties (in_byte_order names.properties) (in_order names.properties) (low_in_order names.properties);
  individuals = same_names names.individuals (in_byte_order names.individuals) (in_order names.individuals) (low_in_order names.individuals);
}

pub reads_back : InferredReadsBack
reads_back version o outcome whole few sayable made =
    let names = o.names in
    let two = slice_get_within names.classes 1 owl_nothing whole.nothing_name in
    let thing = name_is names.classes 0 owl_thing whole.thing_name in
    let nothing = name_is names.classes 1 owl_nothing whole.nothing_name in
    let found = found_lines names two thing nothing outcome in
    let p = numbered names found.lines in
    record {
      ontology = p;
      reads = subst (λ (ss : List Statement). ReadsAs version (document_text (declarations names ++ ss)) p) found.say
          (reads version (declarations names ++ map (said names) found.lines) p
          (all_sayable names sayable version whole.distinct_classes found.lines found.good)
          (is_ontology_of names two thing nothing whole.distinct_classes whole.distinct_properties whole.distinct_individuals found.lines found.good)
          (few_names o few two found.lines)
          (well_formed names found.lines two thing nothing whole.distinct_classes whole.distinct_properties whole.distinct_individuals found.good));
      names_are = names_kept names two;
      axioms_are =
          sym (no_axioms_declared names (map (said names) found.lines) ∙ axioms_are names found.lines found.good)
          ∙ ap (λ (ss : List Statement). filter_map logical_axiom (declarations names ++ ss)) found.say;
    }
