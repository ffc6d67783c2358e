-- What is read of class expressions.
use Rattle.std.proofs.Common.{◌≡◌, ℕ, zero, suc, ◌<◌, ◌≤◌, List, [], ◌∷◌, ◌++◌, length, map, slice_get, Some, None, All, refl, sym, ap, ap₂, ◌∙◌, subst, subst₂, arith}
use Rattle.std.specs.Option.{unwrap_or}
use Rattle.std.specs.List.{flat_map}
use Rattle.std.proofs.lemmas.List.{append-nil, map-append, length-map}
use Rattle.std.proofs.lemmas.List.Elements.{All-nil, All-cons}
use Rattle.std.proofs.lemmas.Option.{none-some, same_Some, slice_get_within}
use Rattle.std.proofs.lemmas.Grind.{flat_map-append}
use Rattle.axioms.proofs.Trees.{length_trees}
use Rattle.lemmas.proofs.Places.{Keeps}
use Rattle.axioms.specs.Expression.{Iri, ClassExpression, Named, SomeValues}
use Rattle.axioms.specs.Ontology.{Ontology, And, Exists, tree_of, trees, intersection, operands_of}
use Rattle.axioms.specs.Numbering.{parts, parts_of_each, properties_in, properties_in_each, class_name}
use Rattle.axioms.specs.WellFormedness.{AreDistinct, IsNodeOf, IsOntology}
use Rattle.profile.specs.Additions.{Adds, AreNumbers, HasAdded, Overflows, ReadsClass, ReadsClasses, ReadsProperty}
use Rattle.profile.proofs.Overflowing.{overflow_more, overflow_later}
use Rattle.profile.proofs.Steps.{adds_join, adds_nothing, keeps_of}

-- ---- numbers of several

pub numbers_kept : {A : Type 0} (xs ys : List A) → Keeps xs ys → (ns : List ℕ) (as' : List A) → AreNumbers xs ns as' → AreNumbers ys ns as'
numbers_kept xs ys keeps [] [] h = refl
numbers_kept xs ys keeps [] (a ∷ as') h = cc
numbers_kept xs ys keeps (n ∷ ns) [] h = cc
numbers_kept xs ys keeps (n ∷ ns) (a ∷ as') h =
    let first : slice_get xs n ≡ Some a = cc in
    let rest : map (slice_get xs) ns ≡ map Some as' = cc in
    ap₂ (λ b bs. b ∷ bs) (keeps n a first) (numbers_kept xs ys keeps ns as' rest)

pub numbers_push : {A : Type 0} (xs : List A) (ns : List ℕ) (as' : List A) (n : ℕ) (a : A) → AreNumbers xs ns as' → slice_get xs n ≡ Some a → AreNumbers xs (ns ++ n ∷ []) (as' ++ a ∷ [])
numbers_push xs ns as' n a h g = map-append (slice_get xs) ns (n ∷ []) ∙ ap₂ (λ b bs. b ++ bs ∷ []) h g ∙ sym (map-append Some as' (a ∷ []))

pub numbers_long : {A : Type 0} (xs : List A) (ns : List ℕ) (as' : List A) → AreNumbers xs ns as' → length ns ≡ length as'
numbers_long xs ns as' h = sym (length-map ns (slice_get xs)) ∙ ap length h ∙ length-map as' Some

pub numbers_stand : {A : Type 0} (xs : List A) (d : A) (ns : List ℕ) (as' : List A) → AreNumbers xs ns as' → map (λ n. unwrap_or (slice_get xs n) d) ns ≡ as'
numbers_stand xs d [] [] h = refl
numbers_stand xs d [] (a ∷ as') h = cc
numbers_stand xs d (n ∷ ns) [] h = cc
numbers_stand xs d (n ∷ ns) (a ∷ as') h =
    let first : slice_get xs n ≡ Some a = cc in
    let rest : map (slice_get xs) ns ≡ map Some as' = cc in
    ap₂ (λ b bs. b ∷ bs) (ap (λ o. unwrap_or o d) first) (numbers_stand xs d ns as' rest)

pub numbers_within : {A : Type 0} (xs : List A) (ns : List ℕ) (as' : List A) → AreNumbers xs ns as' → All (λ n. n < length xs) ns
numbers_within xs [] as' h = All-nil (λ n. n < length xs)
numbers_within xs (n ∷ ns) [] h = cc
numbers_within xs (n ∷ ns) (a ∷ as') h =
    let first : slice_get xs n ≡ Some a = cc in
    let rest : map (slice_get xs) ns ≡ map Some as' = cc in
    All-cons (λ n. n < length xs) n ns (slice_get_within xs n a first) (numbers_within xs ns as' rest)

-- the number at a place is that of what stands at the place
number_at : {A : Type 0} (xs : List A) (ns : List ℕ) (as' : List A) → AreNumbers xs ns as' → (k n : ℕ) → slice_get ns k ≡ Some n → (a : A) × (slice_get as' k ≡ Some a) × (slice_get xs n ≡ Some a)
number_at xs [] as' h k n g = absurd (none-some n g)
number_at xs (m ∷ ns) [] h k n g = cc
number_at xs (m ∷ ns) (a ∷ as') h zero n g =
    let first : slice_get xs m ≡ Some a = cc in
    (a, refl, ap (slice_get xs) (sym (same_Some m n g)) ∙ first)
number_at xs (m ∷ ns) (a ∷ as') h (suc k) n g =
    let rest : map (slice_get xs) ns ≡ map Some as' = cc in
    number_at xs ns as' rest k n g

pub numbers_distinct : {A : Type 0} (xs : List A) (ns : List ℕ) (as' : List A) → AreNumbers xs ns as' → AreDistinct as' → AreDistinct ns
numbers_distinct xs ns as' h distinct i j n gi gj =
    let (a, ai, ga) = number_at xs ns as' h i n gi in
    let (b, bj, gb) = number_at xs ns as' h j n gj in
    distinct i j a ai (bj ∙ ap Some (sym (same_Some a b (sym ga ∙ gb))))

-- ---- things with a successor

some_tree : (q : Ontology) (r : Iri) (c : ClassExpression) (n e : ℕ) → slice_get q.names.properties n ≡ Some r → slice_get (trees q) e ≡ Some c → tree_of q.names (trees q) (Exists n e) ≡ SomeValues r c
some_tree q r c n e property class = ap₂ SomeValues (ap (λ o. unwrap_or o []) property) (ap (λ o. unwrap_or o (Named [])) class)

pub record IsReadSome (r : Iri) (c : ClassExpression) (o p q : Ontology) (n e : ℕ) : Type 0 where
  pub adds : Adds (parts c) (r ∷ properties_in c) [] [] o q
  pub property : slice_get q.names.properties n ≡ Some r
  pub class : slice_get (trees q) e ≡ Some c

pub some_parts : (r : Iri) (c : ClassExpression) (o p q : Ontology) (n e : ℕ) → ReadsProperty r o p n → ReadsClass c p q e → IsReadSome r c o p q n e
some_parts r c o p q n e property class =
    let keeps = keeps_of (parts c) (properties_in c) [] [] p q class.adds in
    record {
      adds = adds_join [] (parts c) (r ∷ []) (properties_in c) [] [] [] [] o p q property.0 class.adds;
      property = keeps.kept_properties n r property.1;
      class = class.at;
    }

pub some_fits : (r : Iri) (c : ClassExpression) (o p q : Ontology) (n e : ℕ) → IsReadSome r c o p q n e → IsNodeOf q (length q.nodes) (Exists n e)
some_fits r c o p q n e read = (slice_get_within q.names.properties n r read.property, omega (arith, length_trees q, slice_get_within (trees q) e c read.class))

pub some_read : (r : Iri) (c : ClassExpression) (o p q s : Ontology) (n e f : ℕ) → IsReadSome r c o p q n e → HasAdded q s f (tree_of q.names (trees q) (Exists n e)) → ReadsClass (SomeValues r c) o s f
some_read r c o p q s n e f read added =
    let P : ClassExpression → Type 0 = HasAdded q s f in
    let whole : HasAdded q s f (SomeValues r c) = subst P (some_tree q r c n e read.property read.class) added in
    let joined : Adds (parts c ++ SomeValues r c ∷ []) (r ∷ properties_in c ++ []) [] [] o s =
    adds_join (parts c) (SomeValues r c ∷ []) (r ∷ properties_in c) [] [] [] [] [] o q s read.adds whole.adds in
    let Q : List Iri → Type 0 = λ rs. Adds (parts c ++ SomeValues r c ∷ []) rs [] [] o s in
    record { adds = subst Q (append-nil (r ∷ properties_in c)) joined; at = whole.at }

some_overflow : (r : Iri) (c : ClassExpression) (o : Ontology) → Overflows (parts c) (r ∷ properties_in c) [] o → Overflows (parts (SomeValues r c)) (properties_in (SomeValues r c)) [] o
some_overflow r c o h =
    let P : List Iri → Type 0 = λ rs. Overflows (parts c ++ SomeValues r c ∷ []) rs [] o in
    subst P (append-nil (r ∷ properties_in c)) (overflow_more (parts c) (SomeValues r c ∷ []) (r ∷ properties_in c) [] [] [] o h)

pub property_overflow : (r : Iri) (c : ClassExpression) (o : Ontology) → Overflows [] (r ∷ []) [] o → Overflows (parts (SomeValues r c)) (properties_in (SomeValues r c)) [] o
property_overflow r c o h = some_overflow r c o (overflow_more [] (parts c) (r ∷ []) (properties_in c) [] [] o h)

pub filler_overflow : (r : Iri) (c : ClassExpression) (o p : Ontology) (n : ℕ) → ReadsProperty r o p n → Overflows (parts c) (properties_in c) [] p → Overflows (parts (SomeValues r c)) (properties_in (SomeValues r c)) [] o
filler_overflow r c o p n property h = some_overflow r c o (overflow_later [] (parts c) (r ∷ []) (properties_in c) [] [] [] o p property.0 h)

-- ---- intersections

parts_are : (c d : ClassExpression) (ds : List ClassExpression) → parts_of_each (operands_of c d ds) ≡ flat_map parts (c ∷ d ∷ ds)
parts_are c d [] = ap (λ xs. parts c ++ xs) (sym (append-nil (parts d)))
parts_are c d (e ∷ es) = ap (λ xs. parts c ++ xs) (parts_are d e es)

properties_are : (c d : ClassExpression) (ds : List ClassExpression) → properties_in_each (operands_of c d ds) ≡ flat_map properties_in (c ∷ d ∷ ds)
properties_are c d [] = ap (λ xs. properties_in c ++ xs) (sym (append-nil (properties_in d)))
properties_are c d (e ∷ es) = ap (λ xs. properties_in c ++ xs) (properties_are d e es)

-- the parts of an intersection are those of its operands and itself
pub record IsWhole (cs : List ClassExpression) : Type 0 where
  pub parts_is : parts (intersection cs) ≡ flat_map parts cs ++ intersection cs ∷ []
  pub properties_is : properties_in (intersection cs) ≡ flat_map properties_in cs
  pub unnamed : class_name (intersection cs) ≡ None

pub whole_of : (cs : List ClassExpression) → 2 ≤ length cs → IsWhole cs
whole_of [] many = absurd (omega arith)
whole_of (c ∷ []) many = absurd (omega arith)
whole_of (c ∷ d ∷ ds) many = record {
  parts_is = ap (λ xs. xs ++ intersection (c ∷ d ∷ ds) ∷ []) (parts_are c d ds);
  properties_is = properties_are c d ds;
  unnamed = refl;
}

pub and_fits : (cs : List ClassExpression) (o q : Ontology) (ns : List ℕ) → 2 ≤ length cs → AreDistinct cs → ReadsClasses cs o q ns → IsNodeOf q (length q.nodes) (And ns)
and_fits cs o q ns many distinct read = record {
  many = omega (arith, many, numbers_long (trees q) ns cs read.at);
  distinct = numbers_distinct (trees q) ns cs read.at distinct;
  within = let P : ℕ → Type 0 = λ k. All (λ n. n < k) ns in subst P (length_trees q) (numbers_within (trees q) ns cs read.at);
}

pub and_read : (cs : List ClassExpression) (o q s : Ontology) (ns : List ℕ) (f : ℕ) → 2 ≤ length cs → ReadsClasses cs o q ns → HasAdded q s f (tree_of q.names (trees q) (And ns)) → ReadsClass (intersection cs) o s f
and_read cs o q s ns f many read added =
    let P : ClassExpression → Type 0 = HasAdded q s f in
    let whole : HasAdded q s f (intersection cs) = subst P (ap intersection (numbers_stand (trees q) (Named []) ns cs read.at)) added in
    let joined = adds_join (flat_map parts cs) (intersection cs ∷ []) (flat_map properties_in cs) [] [] [] [] [] o q s read.adds whole.adds in
    let is = whole_of cs many in
    let Q : List ClassExpression → List Iri → Type 0 = λ es rs. Adds es rs [] [] o s in
    record {
      adds = subst₂ Q (sym is.parts_is) (append-nil (flat_map properties_in cs) ∙ sym is.properties_is) joined;
      at = whole.at;
    }

pub and_overflow : (cs : List ClassExpression) (o : Ontology) → 2 ≤ length cs → Overflows (flat_map parts cs) (flat_map properties_in cs) [] o → Overflows (parts (intersection cs)) (properties_in (intersection cs)) [] o
and_overflow cs o many h =
    let is = whole_of cs many in
    let Q : List ClassExpression → List Iri → Type 0 = λ es rs. Overflows es rs [] o in
    subst₂ Q (sym is.parts_is) (append-nil (flat_map properties_in cs) ∙ sym is.properties_is)
    (overflow_more (flat_map parts cs) (intersection cs ∷ []) (flat_map properties_in cs) [] [] [] o h)

-- ---- one more of several

pub no_classes : (o : Ontology) → IsOntology o → ReadsClasses [] o o []
no_classes o whole = record { adds = adds_nothing o whole; at = refl }

pub one_more : (cs : List ClassExpression) (c : ClassExpression) (o p q : Ontology) (ns : List ℕ) (n : ℕ) → ReadsClasses cs o p ns → ReadsClass c p q n → ReadsClasses (cs ++ c ∷ []) o q (ns ++ n ∷ [])
one_more cs c o p q ns n read more =
    let joined = adds_join (flat_map parts cs) (parts c) (flat_map properties_in cs) (properties_in c) [] [] [] [] o p q read.adds more.adds in
    let keeps = keeps_of (parts c) (properties_in c) [] [] p q more.adds in
    let Q : List ClassExpression → List Iri → Type 0 = λ es rs. Adds es rs [] [] o q in
    record {
      adds = subst₂ Q (sym (pushed parts cs c)) (sym (pushed properties_in cs c)) joined;
      at = numbers_push (trees q) ns cs n c (numbers_kept (trees p) (trees q) keeps.kept_trees ns cs read.at) more.at;
    }
  where
    pushed : {A : Type 0} (f : ClassExpression → List A) (cs : List ClassExpression) (c : ClassExpression) → flat_map f (cs ++ c ∷ []) ≡ flat_map f cs ++ f c
    pushed f cs c = flat_map-append f cs (c ∷ []) ∙ ap (λ xs. flat_map f cs ++ xs) (append-nil (f c))

-- too many names of one of several, or of those before it, are too many of all
pub one_overflows : (cs : List ClassExpression) (c : ClassExpression) (ds : List ClassExpression) (o p : Ontology) (ns : List ℕ) → ReadsClasses cs o p ns → Overflows (parts c) (properties_in c) [] p → Overflows (flat_map parts (cs ++ (c ∷ ds))) (flat_map properties_in (cs ++ (c ∷ ds))) [] o
one_overflows cs c ds o p ns read h =
    let more : Overflows (flat_map parts (c ∷ ds)) (flat_map properties_in (c ∷ ds)) [] p = overflow_more (parts c) (flat_map parts ds) (properties_in c) (flat_map properties_in ds) [] [] p h in
    let all = overflow_later (flat_map parts cs) (flat_map parts (c ∷ ds)) (flat_map properties_in cs) (flat_map properties_in (c ∷ ds)) [] [] [] o p read.adds more in
    let Q : List ClassExpression → List Iri → Type 0 = λ es rs. Overflows es rs [] o in
    subst₂ Q (sym (flat_map-append parts cs (c ∷ ds))) (sym (flat_map-append properties_in cs (c ∷ ds))) all
