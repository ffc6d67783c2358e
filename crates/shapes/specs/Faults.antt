-- The faults of a document's trees, in the order of the text. Trees without faults are the axioms, annotations and
-- expressions of the profile (OWL 2 Profiles, sections 2.2.1 to 2.2.5; OWL 2 Structural Specification, sections 3.1, 9 and 10).
use Rattle.std.specs.Prelude.{ℕ, ◌+◌, ◌-◌, List, [], ◌∷◌, ◌++◌, Bool, true, false, ◌&&◌, not, Option, Some, None, if◌then◌else◌, codes, nat_lt}
use Rattle.std.specs.List.{list_any}
use Rattle.std.specs.Str.{bytes_eq}
use Rattle.fs_parser.specs.Tree.{Tree, Trees, Name, PlainLiteral, TaggedLiteral, TypedLiteral, Anonymous, Number, Group, Form, Empty, Then, place_of}
use Rattle.shapes.specs.declared.expected.Expected.{Expected}
use Rattle.shapes.specs.declared.expected.Expected.TheVariants.{Axiom, Annotation, ClassExpression, NameOrLiteral}
use Rattle.shapes.specs.Shapes.{Operands, Each, operands_of, may_be_annotated, fits_count, next_expected, later_expected, wants_distinct}
use Rattle.shapes.specs.Keywords.{is_refused, is_known}
use Rattle.program.specs.declared.version.Version.{Version}
use Rattle.axioms.specs.Ontology.{Names}
use Rattle.shapes.specs.Names.{is_allowed, is_there, may_be_name}
use Rattle.shapes.specs.TreeEquality.{same_tree}

-- what is wrong, and where it stands
pub data Fault : Type 0 where
  RefusedConstruct : (at : ℕ) (keyword : List ℕ) → Fault
  UnknownKeyword : (at : ℕ) (keyword : List ℕ) → Fault
  WrongShape : (at : ℕ) → Fault
  RepeatedOperand : (at : ℕ) → Fault
  ReservedName : (at : ℕ) → Fault
  AnonymousIndividual : (at : ℕ) → Fault
  UnknownName : (at : ℕ) → Fault

-- ---- of names and literals

abbrev pub name_faults : Option Names → Expected → ℕ → List ℕ → List Fault
name_faults names expected at iri =
    if not (may_be_name expected) then WrongShape at ∷ []
    else (if is_allowed expected iri then (if is_there names expected iri then [] else UnknownName at ∷ []) else ReservedName at ∷ [])

abbrev pub literal_faults : Expected → ℕ → List Fault
literal_faults NameOrLiteral at = []
literal_faults _ at = WrongShape at ∷ []

-- ---- of forms

abbrev pub count_of : Trees → ℕ
count_of Empty = 0
count_of (Then first rest) = count_of rest + 1

abbrev pub is_name : Tree → Bool
is_name (Name at iri) = true
is_name _ = false

abbrev pub is_annotation : Tree → Bool
is_annotation (Form at keyword trees) = bytes_eq keyword (codes "Annotation")
is_annotation _ = false

-- the trees behind the annotations in front
abbrev pub behind_annotations : Trees → Trees
behind_annotations Empty = Empty
behind_annotations (Then first rest) = if is_annotation first then behind_annotations rest else Then first rest

-- the operands behind the annotations that a tree expected here may begin with
abbrev pub own_trees : Expected → Trees → Trees
own_trees expected trees = if may_be_annotated expected then behind_annotations trees else trees

-- what is wrong with a form whose keyword has no row where it stands
abbrev pub misplaced : Version → ℕ → List ℕ → Fault
misplaced version at keyword =
    if is_refused version keyword then RefusedConstruct at keyword else (if is_known version keyword then WrongShape at else UnknownKeyword at keyword)

-- a form that may stand here has the faults of its trees, unless it has too few or too many
abbrev pub form_faults : Version → ℕ → List ℕ → Option Operands → Trees → List Fault → List Fault
form_faults version at keyword None own inside = misplaced version at keyword ∷ []
form_faults version at keyword (Some operands) own inside = if fits_count operands (count_of own) then inside else WrongShape at ∷ []

abbrev pub operands_or_none : Option Operands → Operands
operands_or_none None = Each []
operands_or_none (Some operands) = operands

-- the next operand equals an earlier one, and may not
abbrev pub is_repeated : Operands → Tree → List Tree → Bool
is_repeated operands next earlier = wants_distinct operands && list_any (same_tree next) earlier

abbrev mutual
  -- the faults of a tree where one is expected, in the order of the text; of names, any may stand there or only these
  pub faults_among : Version → Option Names → Expected → Tree → List Fault
  faults_among version names expected (Anonymous at _) = AnonymousIndividual at ∷ []
  faults_among version names expected (Name at iri) = name_faults names expected at iri
  faults_among version names expected (PlainLiteral at _) = literal_faults expected at
  faults_among version names expected (TaggedLiteral at _ _) = literal_faults expected at
  faults_among version names expected (TypedLiteral at _ _) = literal_faults expected at
  faults_among version names expected (Number at _) = WrongShape at ∷ []
  faults_among version names expected (Group at _) = WrongShape at ∷ []
  faults_among version names expected (Form at keyword trees) =
      form_faults version at keyword (operands_of version expected keyword) (own_trees expected trees)
      (faults_inside version names (may_be_annotated expected) [] (operands_or_none (operands_of version expected keyword)) trees)

  -- of the annotations in front and of the operands, in order. An operand that equals an earlier one gives that alone
  pub faults_inside : Version → Option Names → Bool → List Tree → Operands → Trees → List Fault
  faults_inside version names annotated earlier operands Empty = []
  faults_inside version names annotated earlier operands (Then first rest) =
      if annotated && is_annotation first then faults_among version names Annotation first ++ faults_inside version names annotated earlier operands rest
      else ((if is_repeated operands first earlier then RepeatedOperand (place_of first) ∷ [] else faults_among version names (next_expected operands) first)
      ++ faults_inside version names false (earlier ++ first ∷ []) (later_expected operands) rest)

-- where any name may stand, as in documents
abbrev pub faults : Version → Expected → Tree → List Fault
faults version = faults_among version None

abbrev pub faults_in : Version → Bool → List Tree → Operands → Trees → List Fault
faults_in version = faults_inside version None

-- of the annotations in front
abbrev pub annotation_faults : Version → Option Names → Trees → List Fault
annotation_faults version names Empty = []
annotation_faults version names (Then first rest) =
    if is_annotation first then faults_among version names Annotation first ++ annotation_faults version names rest else []

-- the faults of the annotations in front, if there may be annotations where such a tree is expected
abbrev pub front_faults : Version → Option Names → Expected → Trees → List Fault
front_faults version names expected trees = if may_be_annotated expected then annotation_faults version names trees else []

-- ---- of documents

-- where each of the trees is expected to be the same
abbrev pub each_faults : Version → Option Names → Expected → Trees → List Fault
each_faults version names expected Empty = []
each_faults version names expected (Then first rest) = faults_among version names expected first ++ each_faults version names expected rest

-- statements: each tree is expected to be an axiom
abbrev pub axiom_faults : Version → Trees → List Fault
axiom_faults version trees = each_faults version None Axiom trees

-- the fault of a name in front of an ontology, where so many more may stand there
abbrev pub front_name_faults : ℕ → Tree → List Fault
front_name_faults count name = if nat_lt 0 count then [] else WrongShape (place_of name) ∷ []

-- what an ontology holds: some names, then annotations, then axioms
abbrev pub ontology_faults : Version → Option Names → (count : ℕ) → Trees → List Fault
ontology_faults version names count Empty = []
ontology_faults version names count (Then first rest) =
    if is_name first then front_name_faults count first ++ ontology_faults version names (count - 1) rest
    else (if is_annotation first then faults_among version names Annotation first ++ ontology_faults version names 0 rest
    else each_faults version names Axiom (Then first rest))

-- at most two names: of the ontology and of its version (section 3.1)
abbrev pub document_faults : Version → Trees → List Fault
document_faults version trees = ontology_faults version None 2 trees

-- ---- of expressions

-- a class expression over the names of an ontology
abbrev pub expression_faults : Version → Names → Tree → List Fault
expression_faults version names tree = faults_among version (Some names) ClassExpression tree
