-- What is said of an expression that was read, and of the ontology that has grown by it.
use Rattle.std.proofs.Common.{◌≡◌, ◌<◌, ℕ, List, [], ◌∷◌, Option, length, refl, ap, subst, arith}
use Rattle.std.specs.Option.{unwrap_or}
use Rattle.std.proofs.lemmas.Option.{slice_get_within}
use Rattle.answers.specs.Names.{AreThose}
use Rattle.axioms.proofs.Trees.{length_trees}
use Rattle.axioms.specs.Axiom.{Axiom}
use Rattle.axioms.specs.Expression.{ClassExpression, Named}
use Rattle.axioms.specs.Ontology.{Names, Ontology, axiom_trees, expression, trees}
use Rattle.engine.specs.Saturations.{IsFinished}
use Rattle.fs_parser.specs.Name.{Prefixes}
use Rattle.interpretation_spec.specs.Interpretation.{IsBelow, IsMember}
use Rattle.profile.specs.AddedTexts.{IsReadExpression}
use Rattle.profile.specs.Statements.{class_of}
use Rattle.program.specs.declared.version.Version.{Version}
use Rattle.session.specs.Additions.{IsWithin}
use Rattle.entailment.specs.FactCounts.{HasNoMoreFactsThan}
use Rattle.session.specs.Queries.{AreAnswersFor, IsQueryAnswer, IsQueryRefusal, NamesFound, SpellsExpression}
use Rattle.session.specs.Sessions.{Opened}
use Rattle.session.specs.declared.query_fault.QueryFault.TheVariants.{Memory}

-- ---- the same names, in an ontology of the same names and axioms

module _ (o p : Ontology) (c d : ClassExpression) (found : NamesFound) (names : p.names ≡ o.names) (axioms : axiom_trees p ≡ axiom_trees o) (same : d ≡ c) where
  moved : (P : Names → List Axiom → ClassExpression → Type 0) → P p.names (axiom_trees p) d → P o.names (axiom_trees o) c
  moved P holds =
      subst (λ (e : ClassExpression). P o.names (axiom_trees o) e) same
      (subst (λ (axs : List Axiom). P o.names axs d) axioms (subst (λ (ns : Names). P ns (axiom_trees p) d) names holds))

  same_answers : AreAnswersFor p d found → AreAnswersFor o c found
  same_answers h = record {
    superclasses = moved (λ ns axs e. AreThose ns.classes (λ name. IsBelow axs e (Named name)) found.superclasses) h.superclasses;
    subclasses = moved (λ ns axs e. AreThose ns.classes (λ name. IsBelow axs (Named name) e) found.subclasses) h.subclasses;
    instances = moved (λ ns axs e. AreThose ns.individuals (λ name. IsMember axs name e) found.instances) h.instances;
  }

-- ---- an expression that was read

module _ (version : Version) (prefixes : Prefixes) (text : List ℕ) (old new : Ontology) (e : ℕ) (is : IsReadExpression version prefixes text old new e) where
  -- the expression is there
  pub is_there : e < length new.nodes
  is_there = omega (arith, length_trees new, slice_get_within (trees new) e (class_of is.tree) is.added.at)

  -- it is what the text is
  pub spelled : SpellsExpression version prefixes text old (class_of is.tree)
  spelled = record { tree = is.tree; text_is = is.text_is; faultless = is.added.faultless; means = refl }

  -- and the names that it has are those of what the text is
  pub are_answers : (found : NamesFound) → AreAnswersFor new (expression new e) found → AreAnswersFor old (class_of is.tree) found
  are_answers found =
      let same : expression new e ≡ class_of is.tree = ap (λ (there : Option ClassExpression). unwrap_or there (Named [])) is.added.at in
      same_answers old new (class_of is.tree) (expression new e) found is.added.names is.added.axioms same

-- ---- what a session says

module _ (s : Opened) (text : List ℕ) (p : Ontology) (e : ℕ) (is : IsReadExpression s.version s.prefixes text s.ontology p e) where
  -- the names of the expression answer what the text asks
  pub answered : (max_facts : ℕ) (found : NamesFound) → IsFinished s.saturation → IsWithin s text → HasNoMoreFactsThan p (e ∷ []) max_facts → AreAnswersFor p (expression p e) found → IsQueryAnswer s text max_facts found
  answered max_facts found finished within few h = record {
    finished = finished;
    answer = record {
      within = within;
      expression = class_of is.tree;
      spelled = spelled s.version s.prefixes text s.ontology p e is;
      few = (p, e, is, few);
      names = are_answers s.version s.prefixes text s.ontology p e is found h;
    };
  }

  -- where memory is refused, the text is an expression
  pub unanswered : (max_facts : ℕ) → IsFinished s.saturation → IsWithin s text → IsQueryRefusal s text max_facts Memory
  unanswered max_facts finished within = (finished, (within, (class_of is.tree, spelled s.version s.prefixes text s.ontology p e is)))
