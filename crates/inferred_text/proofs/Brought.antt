-- The names that declarations and lines bring.
use Rattle.std.proofs.Common.{◌≡◌, ℕ, ◌<◌, List, [], ◌∷◌, ◌++◌, length, map, None, All, refl, sym, ap, ap₂, ◌∙◌}
use Rattle.std.specs.List.{cons_option, filter, filter_map, flat_map}
use Rattle.std.proofs.lemmas.Grind.{flat_map-append}
use Rattle.std.proofs.lemmas.List.{append-nil, map-append}
use Rattle.std.proofs.lemmas.List.Elements.{All-append, All-cons, All-head, All-nil, All-tail, filter_map-append}
use Rattle.axioms.specs.Numbering.{Statement, logical_axiom, parts, properties_in, statement_expressions, statement_individuals, statement_properties}
use Rattle.axioms.specs.Ontology.{Names, name_at}
use Rattle.taxonomy.specs.Following.{class_at}
use Rattle.taxonomy.specs.Texts.{in_byte_order}
use Rattle.inferred_text.specs.Inferred.{class_declaration, declarations, individual_declaration, is_own, property_declaration}
use Rattle.inferred_text.proofs.Said.{Line, IsGood, Below, Member, Same, said}

-- ---- lists that are mapped

-- each brings one
one_each : {X Y Z : Type 0} (f : Y → List Z) (s : X → Y) (g : X → Z) → ((x : X) → f (s x) ≡ g x ∷ []) → (xs : List X) → flat_map f (map s xs) ≡ map g xs
one_each f s g is [] = refl
one_each f s g is (x ∷ xs) = ap₂ (λ a b. a ++ b) (is x) (one_each f s g is xs)

-- none brings any
none_each : {X Y Z : Type 0} (f : Y → List Z) (s : X → Y) → ((x : X) → f (s x) ≡ []) → (xs : List X) → flat_map f (map s xs) ≡ []
none_each f s is [] = refl
none_each f s is (x ∷ xs) = ap₂ (λ a b. a ++ b) (is x) (none_each f s is xs)

-- each brings what comes of its numbers
some_each : {X Y Z : Type 0} (f : Y → List Z) (s : X → Y) (g : ℕ → Z) (numbers : X → List ℕ) → ((x : X) → f (s x) ≡ map g (numbers x)) → (xs : List X) → flat_map f (map s xs) ≡ map g (flat_map numbers xs)
some_each f s g numbers is [] = refl
some_each f s g numbers is (x ∷ xs) = ap₂ (λ a b. a ++ b) (is x) (some_each f s g numbers is xs) ∙ sym (map-append g (numbers x) (flat_map numbers xs))

-- of three lists
three : {X Z : Type 0} (f : X → List Z) (xs ys zs ws : List X) → flat_map f ((xs ++ (ys ++ zs)) ++ ws) ≡ (flat_map f xs ++ (flat_map f ys ++ flat_map f zs)) ++ flat_map f ws
three f xs ys zs ws =
    flat_map-append f (xs ++ (ys ++ zs)) ws
    ∙ ap (λ a. a ++ flat_map f ws) (flat_map-append f xs (ys ++ zs) ∙ ap (λ a. flat_map f xs ++ a) (flat_map-append f ys zs))

-- ---- lines

-- the classes in a line, and its individuals
abbrev pub classes_in : Line → List ℕ
classes_in (Below c d) = c ∷ d ∷ []
classes_in (Same cs) = cs
classes_in (Member a c) = c ∷ []

abbrev pub individuals_in : Line → List ℕ
individuals_in (Below c d) = []
individuals_in (Same cs) = []
individuals_in (Member a c) = a ∷ []

module _ (names : Names) where
  parts_of_named : (cs : List ℕ) → flat_map parts (map (class_at names) cs) ≡ map (class_at names) cs
  parts_of_named cs = one_each parts (class_at names) (class_at names) (λ c. refl) cs

  line_expressions : (line : Line) → statement_expressions (said names line) ≡ map (class_at names) (classes_in line)
  line_expressions (Below c d) = refl
  line_expressions (Same cs) = parts_of_named cs
  line_expressions (Member a c) = refl

  line_properties : (line : Line) → statement_properties (said names line) ≡ []
  line_properties (Below c d) = refl
  line_properties (Same cs) = none_each properties_in (class_at names) (λ c. refl) cs
  line_properties (Member a c) = refl

  line_individuals : (line : Line) → statement_individuals (said names line) ≡ map (name_at names.individuals) (individuals_in line)
  line_individuals (Below c d) = refl
  line_individuals (Same cs) = refl
  line_individuals (Member a c) = refl

  -- ---- declarations and lines

  module _ (lines : List Line) where
    abbrev own : List ℕ
    own = filter is_own (in_byte_order names.classes)

    abbrev pub whole : List Statement
    whole = declarations names ++ map (said names) lines

    -- whatever is brought, by the kind of statement
    by_kind : {Z : Type 0} (f : Statement → List Z) (cs rs as' ls : List Z) →
        flat_map f (map (class_declaration names) own) ≡ cs → flat_map f (map (property_declaration names) (in_byte_order names.properties)) ≡ rs →
        flat_map f (map (individual_declaration names) (in_byte_order names.individuals)) ≡ as' → flat_map f (map (said names) lines) ≡ ls →
        flat_map f whole ≡ (cs ++ (rs ++ as')) ++ ls
    by_kind f cs rs as' ls c r a l =
        three f (map (class_declaration names) own) (map (property_declaration names) (in_byte_order names.properties)) (map (individual_declaration names) (in_byte_order names.individuals)) (map (said names) lines)
        ∙ ap₂ (λ x y. x ++ y) (ap₂ (λ x y. x ++ y) c (ap₂ (λ x y. x ++ y) r a)) l

    pub expressions_brought : flat_map statement_expressions whole ≡ map (class_at names) own ++ map (class_at names) (flat_map classes_in lines)
    expressions_brought =
        by_kind statement_expressions (map (class_at names) own) [] [] (map (class_at names) (flat_map classes_in lines))
        (one_each statement_expressions (class_declaration names) (class_at names) (λ c. refl) own)
        (none_each statement_expressions (property_declaration names) (λ r. refl) (in_byte_order names.properties))
        (none_each statement_expressions (individual_declaration names) (λ a. refl) (in_byte_order names.individuals))
        (some_each statement_expressions (said names) (class_at names) classes_in line_expressions lines)
        ∙ ap (λ xs. xs ++ map (class_at names) (flat_map classes_in lines)) (append-nil (map (class_at names) own))

    pub properties_brought : flat_map statement_properties whole ≡ map (name_at names.properties) (in_byte_order names.properties)
    properties_brought =
        let rs = map (name_at names.properties) (in_byte_order names.properties) in
        by_kind statement_properties [] rs [] []
        (none_each statement_properties (class_declaration names) (λ c. refl) own)
        (one_each statement_properties (property_declaration names) (name_at names.properties) (λ r. refl) (in_byte_order names.properties))
        (none_each statement_properties (individual_declaration names) (λ a. refl) (in_byte_order names.individuals))
        (none_each statement_properties (said names) line_properties lines)
        ∙ append-nil (rs ++ []) ∙ append-nil rs

    pub individuals_brought : flat_map statement_individuals whole ≡ map (name_at names.individuals) (in_byte_order names.individuals) ++ map (name_at names.individuals) (flat_map individuals_in lines)
    individuals_brought =
        by_kind statement_individuals [] [] (map (name_at names.individuals) (in_byte_order names.individuals)) (map (name_at names.individuals) (flat_map individuals_in lines))
        (none_each statement_individuals (class_declaration names) (λ c. refl) own)
        (none_each statement_individuals (property_declaration names) (λ r. refl) (in_byte_order names.properties))
        (one_each statement_individuals (individual_declaration names) (name_at names.individuals) (λ a. refl) (in_byte_order names.individuals))
        (some_each statement_individuals (said names) (name_at names.individuals) individuals_in line_individuals lines)

-- ---- axioms

-- what brings no axiom brings none
no_axiom : {X : Type 0} (s : X → Statement) → ((x : X) → logical_axiom (s x) ≡ None) → (xs : List X) (rest : List Statement) → filter_map logical_axiom (map s xs ++ rest) ≡ filter_map logical_axiom rest
no_axiom s is [] rest = refl
no_axiom s is (x ∷ xs) rest = ap₂ (λ o ys. cons_option o ys) (is x) (no_axiom s is xs rest)

pub no_axioms_declared : (names : Names) (ss : List Statement) → filter_map logical_axiom (declarations names ++ ss) ≡ filter_map logical_axiom ss
no_axioms_declared names ss =
    let cs = filter is_own (in_byte_order names.classes) in
    filter_map-append logical_axiom (declarations names) ss
    ∙ ap (λ xs. xs ++ filter_map logical_axiom ss)
    (no_axiom (class_declaration names) (λ c. refl) cs _
    ∙ no_axiom (property_declaration names) (λ r. refl) (in_byte_order names.properties) _
    ∙ ap (filter_map logical_axiom) (sym (append-nil (map (individual_declaration names) (in_byte_order names.individuals))))
    ∙ no_axiom (individual_declaration names) (λ a. refl) (in_byte_order names.individuals) [])

-- ---- numbers in lines

all_in_each : (n : ℕ) (numbers : Line → List ℕ) (P : Line → Type 0) → ((l : Line) → P l → All (λ k. k < n) (numbers l)) → (ls : List Line) → All P ls → All (λ k. k < n) (flat_map numbers ls)
all_in_each n numbers P low [] h = All-nil (λ k. k < n)
all_in_each n numbers P low (l ∷ ls) h = All-append (λ k. k < n) (numbers l) (flat_map numbers ls) (low l (All-head P l ls h)) (all_in_each n numbers P low ls (All-tail P l ls h))

pub low_classes : (names : Names) (lines : List Line) → All (IsGood names) lines → All (λ c. c < length names.classes) (flat_map classes_in lines)
low_classes names lines h = all_in_each (length names.classes) classes_in (IsGood names) low lines h
  where
    low : (l : Line) → IsGood names l → All (λ c. c < length names.classes) (classes_in l)
    low (Below c d) g = All-cons (λ c. c < length names.classes) c (d ∷ []) g.0 (All-cons (λ c. c < length names.classes) d [] g.1 (All-nil (λ c. c < length names.classes)))
    low (Same cs) g = g.2
    low (Member a c) g = All-cons (λ c. c < length names.classes) c [] g.1 (All-nil (λ c. c < length names.classes))

pub low_individuals : (names : Names) (lines : List Line) → All (IsGood names) lines → All (λ a. a < length names.individuals) (flat_map individuals_in lines)
low_individuals names lines h = all_in_each (length names.individuals) individuals_in (IsGood names) low lines h
  where
    low : (l : Line) → IsGood names l → All (λ a. a < length names.individuals) (individuals_in l)
    low (Below c d) g = All-nil (λ a. a < length names.individuals)
    low (Same cs) g = All-nil (λ a. a < length names.individuals)
    low (Member a c) g = All-cons (λ a. a < length names.individuals) a [] g.0 (All-nil (λ a. a < length names.individuals))
