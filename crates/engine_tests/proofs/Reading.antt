-- What is said of an ontology that has grown by an expression that was read.
use Rattle.std.proofs.Common.{◌<◌, ℕ, List, length, refl, arith}
use Rattle.std.proofs.lemmas.Option.{slice_get_within}
use Rattle.axioms.proofs.Trees.{length_trees}
use Rattle.axioms.specs.Ontology.{Ontology, trees}
use Rattle.fs_parser.specs.Name.{Prefixes}
use Rattle.normalise.specs.Growth.{Grows}
use Rattle.profile.proofs.Trees.{keeps_append}
use Rattle.profile.specs.AddedTexts.{IsReadExpression}
use Rattle.profile.specs.Statements.{class_of}
use Rattle.program.specs.declared.version.Version.{Version}

module _ {version : Version} (prefixes : Prefixes) (text : List ℕ) (old new : Ontology) (e : ℕ) (is : IsReadExpression version prefixes text old new e) where
  -- expressions and axioms keep their numbers
  pub grows : Grows old new (length old.axioms)
  grows =
      let kept = is.added.adds.kept in record {
        nodes = keeps_append old.nodes new.nodes kept.nodes.0 kept.nodes.1;
        axioms = keeps_append old.axioms new.axioms kept.axioms.0 kept.axioms.1;
        new_from = refl;
      }

  -- the expression is there
  pub is_there : e < length new.nodes
  is_there = omega (arith, length_trees new, slice_get_within (trees new) e (class_of is.tree) is.added.at)
