-- The faults of the trees of an ontology, one after another: names come first, then annotations, then axioms.
use Rattle.std.specs.Prelude.{◌≡◌, ◌-◌, List, [], ◌∷◌, ◌++◌, Option, if◌then◌else◌, nat_lt}
use Rattle.axioms.specs.Ontology.{Names}
use Rattle.fs_parser.specs.Tree.{Tree, Trees, Then, place_of}
use Rattle.shapes.specs.Faults.{Fault, WrongShape, each_faults, faults_among, is_annotation, is_name, ontology_faults}
use Rattle.shapes.specs.declared.expected.Expected.TheVariants.{Annotation, Axiom}
use Rattle.shapes.specs.declared.place.Place.{Place}
use Rattle.shapes.specs.declared.place.Place.TheVariants.{Front, Axioms}
use Rattle.program.specs.declared.version.Version.{Version}

-- the faults of a tree that stands at the place
abbrev pub faults_at : Version → Option Names → Place → Tree → List Fault
faults_at version names (Front count) tree =
    if is_name tree then (if nat_lt 0 count then [] else WrongShape (place_of tree) ∷ [])
    else (if is_annotation tree then faults_among version names Annotation tree else faults_among version names Axiom tree)
faults_at version names Axioms tree = faults_among version names Axiom tree

-- the place behind it
abbrev pub place_behind : Place → Tree → Place
place_behind (Front count) tree = if is_name tree then Front (count - 1) else (if is_annotation tree then Front 0 else Axioms)
place_behind Axioms tree = Axioms

-- the faults of all trees from the place on
abbrev pub faults_from : Version → Option Names → Place → Trees → List Fault
faults_from version names (Front count) trees = ontology_faults version names count trees
faults_from version names Axioms trees = each_faults version names Axiom trees

-- the faults of trees are those of the first, and those of the others from the place behind it on
abbrev pub FaultsComeOneByOne : Type 0
FaultsComeOneByOne =
    (version : Version) (names : Option Names) (place : Place) (first : Tree) (rest : Trees)
    → faults_from version names place (Then first rest) ≡ faults_at version names place first ++ faults_from version names (place_behind place first) rest
