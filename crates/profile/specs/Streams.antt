-- What is read of a text whose trees are taken one by one.
use Rattle.std.specs.Prelude.{List}
use Rattle.std.specs.Result.{IfErr, IfOk}
use Rattle.std.specs.Prelude.{Result}
use Rattle.axioms.specs.Ontology.{Ontology}
use Rattle.fs_parser.specs.Tree.{Tree}
use Rattle.fs_parser.specs.Rest.{AreLeft, TextLeft}
use Rattle.fs_parser.specs.View.{trees_from}
use Rattle.profile.specs.Reading.{AreReadAs, Refuses}
use Rattle.profile.specs.Intake.{AreTakenBehind, Taken}
use Rattle.program.specs.declared.version.Version.{Version}
use Rattle.profile.specs.declared.acceptance.Refusal.{Refusal}

-- all the trees that were left were taken
pub record AllTaken (left : TextLeft) (old new : Taken) : Type 0 where
  pub trees : List Tree
  pub left_are : AreLeft left trees
  pub taken : AreTakenBehind trees old new

-- the trees that are left read as the ontology in this version, or are refused
pub record IsAnswerTo (version : Version) (left : TextLeft) (answer : Result Ontology Refusal) : Type 0 where
  pub trees : List Tree
  pub left_are : AreLeft left trees
  pub read : IfOk answer (AreReadAs version (trees_from trees))
  pub refused : IfErr answer (λ r. Refuses version r (trees_from trees))
