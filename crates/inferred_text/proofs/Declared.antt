-- The declarations of names, by their numbers.
use Rattle.std.proofs.Common.{◌≡◌, ℕ, ◌<◌, ◌≤◌, List, [], ◌∷◌, ◌++◌, Bool, true, false, cond, not, refl, sym, ap, ap₂, ◌∙◌, ⊎_elim, arith}
use Rattle.std.specs.List.{filter, flat_map}
use Rattle.std.specs.Prelude.{codes, map, nat_lt}
use Rattle.std.proofs.lemmas.Bool.{cases_lt, le-ltb, lt-ltb}
use Rattle.std.proofs.lemmas.List.Concat.{flat_map-append}
use Rattle.std.proofs.lemmas.List.Folds.{flat_map-map}
use Rattle.answer_texts.specs.Names.{line_feed}
use Rattle.axioms.specs.Ontology.{Names, name_at}
use Rattle.inferred_text.specs.Inferred.{class_declaration, declarations, individual_declaration, is_own, property_declaration}
use Rattle.statements_text.specs.Texts.{declaration_text, statement_line}
use Rattle.taxonomy.specs.Texts.{in_byte_order}
use Rattle.taxonomy.proofs.Agreement.{same_filter}

-- the number is none of the first ones
abbrev pub is_from : ℕ → ℕ → Bool
is_from first n = not (nat_lt n first)

-- the declaration of the name of that number, with a line feed
abbrev pub declaration_line : List ℕ → List (List ℕ) → ℕ → List ℕ
declaration_line kind names n = declaration_text kind (name_at names n) ++ line_feed

pub from_here : (first n : ℕ) → first ≤ n → is_from first n ≡ true
from_here first n l = ap not (le-ltb n first l)

pub not_from_here : (first n : ℕ) → n < first → is_from first n ≡ false
not_from_here first n l = ap not (lt-ltb n first l)

-- the lines that are made of the names from a number on
abbrev pub lines_from : List ℕ → List (List ℕ) → ℕ → List ℕ
lines_from kind names first = flat_map (declaration_line kind names) (filter (is_from first) (in_byte_order names))

all_pass : (p : ℕ → Bool) (xs : List ℕ) → ((x : ℕ) → p x ≡ true) → filter p xs ≡ xs
all_pass p [] h = refl
all_pass p (x ∷ xs) h = ap₂ (λ b ys. cond b (x ∷ ys) ys) (h x) (all_pass p xs h)

own : (n : ℕ) → is_from 2 n ≡ is_own n
own n = ⊎_elim
    (λ (l : n < 2). not_from_here 2 n l ∙ sym (le-ltb 1 n (omega arith)))
    (λ (l : 2 ≤ n). from_here 2 n l ∙ sym (lt-ltb 1 n (omega arith)))
    (cases_lt n 2)

classes_declared : (names : Names) → lines_from (codes "Class") names.classes 2 ≡ flat_map statement_line (map (class_declaration names) (filter is_own (in_byte_order names.classes)))
classes_declared names =
    ap (flat_map (declaration_line (codes "Class") names.classes)) (same_filter (is_from 2) is_own (in_byte_order names.classes) (λ k d l. own _))
    ∙ sym (flat_map-map statement_line (class_declaration names) (filter is_own (in_byte_order names.classes)))

properties_declared : (names : Names) → lines_from (codes "ObjectProperty") names.properties 0 ≡ flat_map statement_line (map (property_declaration names) (in_byte_order names.properties))
properties_declared names =
    ap (flat_map (declaration_line (codes "ObjectProperty") names.properties)) (all_pass (is_from 0) (in_byte_order names.properties) (λ n. from_here 0 n (omega arith)))
    ∙ sym (flat_map-map statement_line (property_declaration names) (in_byte_order names.properties))

individuals_declared : (names : Names) → lines_from (codes "NamedIndividual") names.individuals 0 ≡ flat_map statement_line (map (individual_declaration names) (in_byte_order names.individuals))
individuals_declared names =
    ap (flat_map (declaration_line (codes "NamedIndividual") names.individuals)) (all_pass (is_from 0) (in_byte_order names.individuals) (λ n. from_here 0 n (omega arith)))
    ∙ sym (flat_map-map statement_line (individual_declaration names) (in_byte_order names.individuals))

-- the three kinds, one after the other
pub all_declared : (names : Names)
    → lines_from (codes "Class") names.classes 2 ++ (lines_from (codes "ObjectProperty") names.properties 0 ++ lines_from (codes "NamedIndividual") names.individuals 0)
    ≡ flat_map statement_line (declarations names)
all_declared names =
    let classes = map (class_declaration names) (filter is_own (in_byte_order names.classes)) in
    let properties = map (property_declaration names) (in_byte_order names.properties) in
    let individuals = map (individual_declaration names) (in_byte_order names.individuals) in
    ap₂ (λ (a b : List ℕ). a ++ b) (classes_declared names) (ap₂ (λ (a b : List ℕ). a ++ b) (properties_declared names) (individuals_declared names))
    ∙ sym (flat_map-append statement_line classes (properties ++ individuals)
    ∙ ap (λ (t : List ℕ). flat_map statement_line classes ++ t) (flat_map-append statement_line properties individuals))
