-- Texts that ask about a class expression, and what a session answers.
use Rattle.std.specs.Prelude.{◌≡◌, ◌+◌, ◌<◌, ◌≤◌, ◌∷◌, [], ℕ, List, length, map}
use Rattle.answers.specs.Names.{AreThose}
use Rattle.axioms.specs.Expression.{ClassExpression, Iri, Named}
use Rattle.axioms.specs.Ontology.{Ontology, axiom_trees}
use Rattle.engine.specs.Saturations.{HasMoreFactsThan, IsFinished}
use Rattle.fs_parser.specs.Name.{Prefixes}
use Rattle.fs_parser.specs.Tree.{Tree}
use Rattle.interpretation_spec.specs.Interpretation.{IsBelow, IsMember}
use Rattle.profile.specs.AddedTexts.{IsExpressionOf, IsReadExpression, RefusesReading}
use Rattle.profile.specs.Statements.{class_of}
use Rattle.profile.specs.declared.fault.DocumentFault.{DocumentFault}
use Rattle.profile.specs.declared.fault.DocumentFault.TheVariants.{TooLarge}
use Rattle.profile.specs.declared.opened.Opened as reading
use Rattle.program.specs.declared.version.Version.{Version}
use Rattle.shapes.specs.Faults.{expression_faults}
use Rattle.entailment.specs.FactCounts.{HasNoMoreFactsThan}
use Rattle.session.specs.Sessions.{Opened, as_read}
use Rattle.session.specs.declared.query_fault.QueryFault.{QueryFault}
use Rattle.session.specs.declared.query_fault.QueryFault.TheVariants.{Unfinished, Expression, Limit, Memory}
use Rattle.session.specs.declared.querying.Answers.{Answers}

-- ---- names that are found

-- of the classes above an expression, of those below it, and of its individuals
pub record NamesFound : Type 0 where
  pub superclasses : List Iri
  pub subclasses : List Iri
  pub instances : List Iri

-- the names in answers
abbrev pub names_in : Answers → NamesFound
names_in a = record {
  superclasses = map (λ name. name.now) a.superclasses.items;
  subclasses = map (λ name. name.now) a.subclasses.items;
  instances = map (λ name. name.now) a.instances.items;
}

-- they are exactly those that the expression has in every finite interpretation of the axioms, each once and in byte order
pub record AreAnswersFor (o : Ontology) (e : ClassExpression) (found : NamesFound) : Type 0 where
  pub superclasses : AreThose o.names.classes (λ name. IsBelow (axiom_trees o) e (Named name)) found.superclasses
  pub subclasses : AreThose o.names.classes (λ name. IsBelow (axiom_trees o) (Named name) e) found.subclasses
  pub instances : AreThose o.names.individuals (λ name. IsMember (axiom_trees o) name e) found.instances

-- ---- texts that ask

-- the text is the class expression, in the version and over names of the ontology
pub record SpellsExpression (version : Version) (prefixes : Prefixes) (text : List ℕ) (o : Ontology) (e : ClassExpression) : Type 0 where
  pub tree : Tree
  pub text_is : IsExpressionOf prefixes text tree
  pub faultless : expression_faults version o.names tree ≡ []
  pub means : class_of tree ≡ e

-- the closure of the ontology with the expression that the text is has at most n facts
abbrev pub HasFewWith : Version → Prefixes → (text : List ℕ) → Ontology → ℕ → Type 0
HasFewWith version prefixes text o n = (p : Ontology) × (e : ℕ) × IsReadExpression version prefixes text o p e × HasNoMoreFactsThan p (e ∷ []) n

-- it has more
abbrev pub HasMoreWith : Version → Prefixes → (text : List ℕ) → Ontology → ℕ → Type 0
HasMoreWith version prefixes text o n = (p : Ontology) × (e : ℕ) × IsReadExpression version prefixes text o p e × HasMoreFactsThan p (e ∷ []) n

-- ---- of what was read, in the version in which it was read

-- with the text there are no more bytes than there may be; it is a class expression, with which the closure has at most so many facts;
-- and the names are those of the expression
pub record IsAnswer (d : reading.Opened) (most_bytes max_facts : ℕ) (text : List ℕ) (found : NamesFound) : Type 0 where
  pub within : d.bytes + length text ≤ most_bytes
  pub expression : ClassExpression
  pub spelled : SpellsExpression d.version d.prefixes text d.ontology expression
  pub few : HasFewWith d.version d.prefixes text d.ontology max_facts
  pub names : AreAnswersFor d.ontology expression found

-- what the fault says of a text that is not read: with it there are too many bytes; or not too many, and what the fault says of it as a
-- class expression over names of what was read
abbrev pub RefusesText : reading.Opened → (most_bytes : ℕ) → (text : List ℕ) → DocumentFault → Type 0
RefusesText d most_bytes text TooLarge = most_bytes < d.bytes + length text
RefusesText d most_bytes text fault = (d.bytes + length text ≤ most_bytes) × RefusesReading d.version d.prefixes text d.ontology fault

-- what a fault says of the text where nothing is pending: it is not read; or it is, and the closure with it has more facts, or memory
-- was refused
abbrev pub IsUnanswerable : reading.Opened → (most_bytes max_facts : ℕ) → (text : List ℕ) → QueryFault → Type 0
IsUnanswerable d most_bytes max_facts text Unfinished = ⊥
IsUnanswerable d most_bytes max_facts text (Expression fault) = RefusesText d most_bytes text fault
IsUnanswerable d most_bytes max_facts text Limit = (d.bytes + length text ≤ most_bytes) × HasMoreWith d.version d.prefixes text d.ontology max_facts
IsUnanswerable d most_bytes max_facts text Memory = (d.bytes + length text ≤ most_bytes) × ((e : ClassExpression) × SpellsExpression d.version d.prefixes text d.ontology e)

-- ---- of a session

-- nothing is pending, and the names answer what the text asks
pub record IsQueryAnswer (s : Opened) (text : List ℕ) (max_facts : ℕ) (found : NamesFound) : Type 0 where
  pub finished : IsFinished s.saturation
  pub answer : IsAnswer (as_read s) s.most_bytes max_facts text found

-- what a refusal says of a text that asks: facts are pending; or none are, and what the fault says of the text
abbrev pub IsQueryRefusal : Opened → (text : List ℕ) → (max_facts : ℕ) → QueryFault → Type 0
IsQueryRefusal s text max_facts Unfinished = ¬ IsFinished s.saturation
IsQueryRefusal s text max_facts fault = IsFinished s.saturation × IsUnanswerable (as_read s) s.most_bytes max_facts text fault
