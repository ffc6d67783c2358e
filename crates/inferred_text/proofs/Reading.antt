-- The ontology of the lines is that of the declarations and their statements.
use Rattle.std.proofs.Common.{◌≡◌, ℕ, ◌<◌, List, [], ◌∷◌, ◌++◌, length, map, All, refl, sym, ap, ap₂, ◌∙◌}
use Rattle.std.specs.List.{filter, filter_map, flat_map}
use Rattle.std.specs.Str.{bytes_eq}
use Rattle.std.proofs.lemmas.List.{append-nil}
use Rattle.std.proofs.lemmas.List.Elements.{All-nil}
use Rattle.axioms.specs.Expression.{Iri, Named, owl_nothing, owl_thing}
use Rattle.axioms.specs.Numbering.{IsOntologyOf, class_name, first_places, same_expression}
use Rattle.axioms.specs.Ontology.{Names, name_at}
use Rattle.axioms.specs.WellFormedness.{AreDistinct}
use Rattle.taxonomy.specs.Following.{class_at}
use Rattle.taxonomy.specs.Texts.{in_byte_order}
use Rattle.taxonomy.proofs.Agreement.{all_in_byte_order}
use Rattle.inferred_text.specs.Inferred.{is_own}
use Rattle.inferred_text.proofs.Brought.{classes_in, expressions_brought, individuals_brought, individuals_in, low_classes, low_individuals, no_axioms_declared, properties_brought, whole}
use Rattle.inferred_text.proofs.Firsts.{first_once}
use Rattle.inferred_text.proofs.Said.{Line, IsGood, said}
use Rattle.inferred_text.proofs.Names.{told_apart}
use Rattle.inferred_text.proofs.Numbered.{all_in_class_order, class_order, in_class_order, numbered, once_in_class_order}
use Rattle.inferred_text.proofs.Orders.{in_order, of_among, once_in_order}
use Rattle.inferred_text.proofs.Trees.{axioms_are, trees_are}

-- the names of classes in named expressions
names_of_classes : (names : Names) (cs : List ℕ) → filter_map class_name (map (class_at names) cs) ≡ map (name_at names.classes) cs
names_of_classes names [] = refl
names_of_classes names (c ∷ cs) = ap (λ xs. name_at names.classes c ∷ xs) (names_of_classes names cs)

-- names in order, and others of them behind
firsts_of_names : (names : List Iri) → AreDistinct names → (later : List ℕ) → All (λ k. k < length names) later → first_places bytes_eq (map (name_at names) (in_byte_order names) ++ map (name_at names) later) ≡ map (name_at names) (in_byte_order names)
firsts_of_names names distinct later low =
    first_once (name_at names) bytes_eq (length names) (told_apart names distinct) (in_byte_order names) later (all_in_byte_order names) low (once_in_order names)
    (λ k e. in_order names k (of_among (λ k. k < length names) later low k e))

module _ (names : Names) (two : 1 < length names.classes) (thing : name_at names.classes 0 ≡ owl_thing) (nothing : name_at names.classes 1 ≡ owl_nothing) (classes : AreDistinct names.classes) (properties : AreDistinct names.properties) (individuals : AreDistinct names.individuals) where
  pub is_ontology_of : (lines : List Line) → All (IsGood names) lines → IsOntologyOf (whole names lines) (numbered names lines)
  is_ontology_of lines good =
      let order = class_order names.classes in
      let later = flat_map classes_in lines in
      let low = low_classes names lines good in
      let own = map (class_at names) (filter is_own (in_byte_order names.classes)) ++ map (class_at names) later in
      let firsts : first_places same_expression (map (class_at names) order ++ map (class_at names) later) ≡ map (class_at names) order =
      first_once (class_at names) same_expression (length names.classes) (told_apart names.classes classes) order later (all_in_class_order names.classes two) low (once_in_class_order names.classes)
      (λ k e. in_class_order names.classes k (of_among (λ k. k < length names.classes) later low k e)) in
      record {
        expressions =
            trees_are names lines ∙ sym firsts
            ∙ ap (first_places same_expression) (ap₂ (λ t n. Named t ∷ Named n ∷ own) thing nothing ∙ ap (λ xs. Named owl_thing ∷ Named owl_nothing ∷ xs) (sym (expressions_brought names lines)));
        classes = sym (ap (filter_map class_name) (trees_are names lines) ∙ names_of_classes names order);
        properties =
            sym (ap (first_places bytes_eq) (properties_brought names lines ∙ sym (append-nil (map (name_at names.properties) (in_byte_order names.properties))))
            ∙ firsts_of_names names.properties properties [] (All-nil (λ k. k < length names.properties)));
        individuals =
            sym (ap (first_places bytes_eq) (individuals_brought names lines)
            ∙ firsts_of_names names.individuals individuals (flat_map individuals_in lines) (low_individuals names lines good));
        axioms = sym (no_axioms_declared names (map (said names) lines) ∙ axioms_are names lines good);
      }
