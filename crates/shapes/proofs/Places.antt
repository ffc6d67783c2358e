-- The faults of trees, one after another.
use Rattle.std.proofs.Common.{◌≡◌, ◌-◌, ◌++◌, Bool, true, false, [], Option, refl, if◌then◌else◌}
use Rattle.axioms.specs.Ontology.{Names}
use Rattle.fs_parser.specs.Tree.{Empty, Then}
use Rattle.shapes.specs.Faults.{each_faults, faults_among, front_name_faults, is_annotation, is_name, ontology_faults}
use Rattle.shapes.specs.Places.{FaultsComeOneByOne, faults_from}
use Rattle.shapes.specs.declared.expected.Expected.TheVariants.{Annotation, Axiom}
use Rattle.shapes.specs.declared.place.Place.{Place}
use Rattle.shapes.specs.declared.place.Place.TheVariants.{Front, Axioms}
use Rattle.program.specs.declared.version.Version.{Version}

pub one_by_one : FaultsComeOneByOne
one_by_one version names (Front count) first rest = go (is_name first) (is_annotation first)
  where
    go : (b d : Bool) →
        (if b then front_name_faults count first ++ ontology_faults version names (count - 1) rest
        else (if d then faults_among version names Annotation first ++ ontology_faults version names 0 rest
        else each_faults version names Axiom (Then first rest)))
        ≡ (if b then front_name_faults count first
        else (if d then faults_among version names Annotation first else faults_among version names Axiom first))
        ++ faults_from version names (if b then Front (count - 1) else (if d then Front 0 else Axioms)) rest
    go true d = refl
    go false true = refl
    go false false = refl
one_by_one version names Axioms first rest = refl

-- no tree has no fault
pub none_from : (version : Version) (names : Option Names) (place : Place) → faults_from version names place Empty ≡ []
none_from version names (Front count) = refl
none_from version names Axioms = refl
