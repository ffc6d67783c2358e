-- The taxonomy text and the instances text of a relation on named classes.
-- A class stands as its number among the class names; lies_below c d says that c lies below d.
use Rattle.std.specs.Prelude.{ℕ, List, [], ◌∷◌, ◌++◌, Bool, ◌&&◌, not, length, if◌then◌else◌, codes}
use Rattle.std.specs.List.{filter, list_any, flat_map, range_with_len}
use Rattle.std.specs.Cmp.Lexicographic.{slice_cmp}
use Rattle.std.specs.Ordering.{nat_cmp, is_lt, ordering_then}
use Rattle.std.specs.declared.cmp.Ordering.{Ordering}
use Rattle.axioms.specs.Expression.{Iri}
use Rattle.axioms.specs.Ontology.{name_at}

-- the numbers below n, ascending
abbrev pub numbers_below : ℕ → List ℕ
numbers_below n = range_with_len 0 n

-- ---- byte order

-- the byte order of names; of equal names the first one comes first
abbrev pub by_name : List Iri → ℕ → ℕ → Ordering
by_name names n m = ordering_then (slice_cmp nat_cmp (name_at names n) (name_at names m)) (nat_cmp n m)

-- the number put in its place among numbers in order
abbrev pub inserted : (ℕ → ℕ → Ordering) → ℕ → List ℕ → List ℕ
inserted order n [] = n ∷ []
inserted order n (m ∷ ms) = if is_lt (order m n) then m ∷ inserted order n ms else n ∷ m ∷ ms

-- the numbers in order
abbrev pub sorted : (ℕ → ℕ → Ordering) → List ℕ → List ℕ
sorted order [] = []
sorted order (n ∷ ns) = inserted order n (sorted order ns)

-- all numbers of names, in the byte order of the names
abbrev pub in_byte_order : List Iri → List ℕ
in_byte_order names = sorted (by_name names) (numbers_below (length names))

-- ---- groups

-- two classes are in one group where each lies below the other
abbrev pub is_same : (ℕ → ℕ → Bool) → ℕ → ℕ → Bool
is_same lies_below c d = lies_below c d && lies_below d c

-- the group of a class, in the order of all classes
abbrev pub group : (ℕ → ℕ → Bool) → List ℕ → ℕ → List ℕ
group lies_below all c = filter (is_same lies_below c) all

-- the first class of each group, but of the groups of those that came before
abbrev pub firsts : (ℕ → ℕ → Bool) → List ℕ → List ℕ → List ℕ
firsts lies_below before [] = []
firsts lies_below before (c ∷ cs) =
    if list_any (is_same lies_below c) before then firsts lies_below before cs else c ∷ firsts lies_below (before ++ c ∷ []) cs

-- the classes that stand for groups: of each group the first
abbrev pub groups : (ℕ → ℕ → Bool) → List ℕ → List ℕ
groups lies_below all = firsts lies_below [] all

-- h is above g, and is not in its group
abbrev pub is_strictly_above : (ℕ → ℕ → Bool) → ℕ → ℕ → Bool
is_strictly_above lies_below g h = lies_below g h && not (lies_below h g)

-- the class is strictly above one of these
abbrev pub is_above_one : (ℕ → ℕ → Bool) → List ℕ → ℕ → Bool
is_above_one lies_below classes h = list_any (λ g. is_strictly_above lies_below g h) classes

-- a number below n passes
abbrev pub some_below : ℕ → (ℕ → Bool) → Bool
some_below n p = list_any p (numbers_below n)

-- h is strictly above g, and none of the n classes is between
abbrev pub is_directly_above : (ℕ → ℕ → Bool) → ℕ → ℕ → ℕ → Bool
is_directly_above lies_below n g h =
    is_strictly_above lies_below g h
    && not (some_below n (λ k. is_strictly_above lies_below g k && is_strictly_above lies_below k h))

-- ---- lines

-- an IRI as it is written
abbrev pub bracketed : Iri → List ℕ
bracketed name = codes "<" ++ name ++ codes ">"

-- the names of classes, the first behind one text and each other behind another
abbrev pub listed : List Iri → List ℕ → List ℕ → List ℕ → List ℕ
listed names lead between [] = []
listed names lead between (n ∷ ns) = lead ++ bracketed (name_at names n) ++ listed names between between ns

abbrev pub line_feed : List ℕ
line_feed = 10 ∷ []

-- a line of these members of a group, with what stands for the groups directly above it
abbrev pub line_of : List Iri → List ℕ → List ℕ → List ℕ
line_of names members above = listed names [] (codes " = ") members ++ listed names (codes " < ") (codes " , ") above ++ line_feed

-- a group's line: its members, and the groups directly above it
abbrev pub group_line : List Iri → (ℕ → ℕ → Bool) → List ℕ → ℕ → List ℕ
group_line names lies_below all g =
    line_of names (group lies_below all g) (filter (is_directly_above lies_below (length names) g) (groups lies_below all))

-- the number of owl:Nothing among the class names
abbrev pub nothing_class : ℕ
nothing_class = 1

-- not in the group of owl:Nothing
abbrev pub is_no_bottom : (ℕ → ℕ → Bool) → ℕ → Bool
is_no_bottom lies_below g = not (is_same lies_below g nothing_class)

-- the text, where these are all classes in order: the groups but that of owl:Nothing, each a line, and that one last
abbrev pub text_of_order : List Iri → (ℕ → ℕ → Bool) → List ℕ → List ℕ
text_of_order names lies_below all =
    codes "eltax 1 consistent" ++ line_feed
    ++ flat_map (group_line names lies_below all) (filter (is_no_bottom lies_below) (groups lies_below all))
    ++ listed names (codes "bottom ") (codes " = ") (group lies_below all nothing_class) ++ line_feed

-- the taxonomy text of named classes
abbrev pub taxonomy_text : List Iri → (ℕ → ℕ → Bool) → List ℕ
taxonomy_text names lies_below = text_of_order names lies_below (in_byte_order names)

abbrev pub inconsistent_taxonomy_text : List ℕ
inconsistent_taxonomy_text = codes "eltax 1 inconsistent" ++ line_feed

-- ---- instances

-- g is one of the classes, and none of the n classes that are is strictly below
abbrev pub least_among : ℕ → (ℕ → ℕ → Bool) → (ℕ → Bool) → ℕ → Bool
least_among n lies_below belongs g =
    belongs g && not (some_below n (λ k. belongs k && is_strictly_above lies_below k g))

-- the least of the groups that an individual belongs to
abbrev pub least_groups : List Iri → (ℕ → ℕ → Bool) → (ℕ → Bool) → List ℕ
least_groups names lies_below belongs =
    filter (least_among (length names) lies_below belongs) (groups lies_below (in_byte_order names))

-- a line of an individual, with these classes
abbrev pub line_with : List Iri → Iri → List ℕ → List ℕ
line_with classes individual types = bracketed individual ++ listed classes (codes " : ") (codes " , ") types ++ line_feed

-- an individual's line: the least of its groups
abbrev pub individual_line : List Iri → List Iri → (ℕ → ℕ → Bool) → (ℕ → ℕ → Bool) → ℕ → List ℕ
individual_line classes individuals lies_below belongs a =
    line_with classes (name_at individuals a) (least_groups classes lies_below (belongs a))

-- the instances text of named individuals: a line for each, in byte order
abbrev pub instances_text : List Iri → List Iri → (ℕ → ℕ → Bool) → (ℕ → ℕ → Bool) → List ℕ
instances_text classes individuals lies_below belongs =
    codes "elinst 1 consistent" ++ line_feed
    ++ flat_map (individual_line classes individuals lies_below belongs) (in_byte_order individuals)

abbrev pub inconsistent_instances_text : List ℕ
inconsistent_instances_text = codes "elinst 1 inconsistent" ++ line_feed
