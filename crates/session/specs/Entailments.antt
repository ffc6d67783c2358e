-- Texts of axioms that may follow, and what a session answers.
use Rattle.std.specs.Prelude.{◌≡◌, ◌↔◌, ◌++◌, Bool, true, ℕ, List}
use Rattle.std.specs.List.{Contains}
use Rattle.axioms.specs.Axiom.{Axiom}
use Rattle.axioms.specs.Expression.{Iri}
use Rattle.axioms.specs.Growth.{names_of}
use Rattle.axioms.specs.Ontology.{Ontology, axiom_trees}
use Rattle.axioms.specs.declared.terms.Kind.{Kind}
use Rattle.engine.specs.Saturations.{IsFinished}
use Rattle.entailment.specs.Entailment.{Entails}
use Rattle.entailment.specs.Testers.{IsUntoldFor, IsWithinLimit}
use Rattle.entailment.specs.declared.fault.TestFault.TheVariants as tests
use Rattle.profile.specs.AddedTexts.{IsAddedText}
use Rattle.session.specs.Additions.{IsRefusedAddition, IsWithin}
use Rattle.session.specs.Sessions.{Opened}
use Rattle.session.specs.declared.entails_fault.EntailsFault.{EntailsFault}
use Rattle.session.specs.declared.entails_fault.EntailsFault.TheVariants.{Unfinished, Statements, UnknownName, TooManyNames, Limit, Memory}
use Rattle.std.specs.String.{string_bytes}

-- the text states these axioms, in the session's version and with its prefixes, and no name that the session lacks
pub record States (s : Opened) (text : List ℕ) (stated : List Axiom) : Type 0 where
  pub new : Ontology
  pub text_is : IsAddedText s.version s.prefixes text s.ontology new
  pub known : new.names ≡ s.ontology.names
  pub axioms : axiom_trees new ≡ axiom_trees s.ontology ++ stated

-- nothing is pending; with the text there are no more bytes than there may be; the answer is whether each axiom that it states holds in
-- every finite interpretation of the session's axioms; and the closure of each test that was made has at most so many facts
pub record IsEntailment (s : Opened) (text : List ℕ) (max_facts : ℕ) (entailed : Bool) : Type 0 where
  pub finished : IsFinished s.saturation
  pub within : IsWithin s text
  pub stated : List Axiom
  pub states : States s text stated
  pub exact : (entailed ≡ true) ↔ Entails (axiom_trees s.ontology) stated
  pub few : IsWithinLimit s.ontology states.new max_facts

-- the new ontology has the name, in some kind, and the old one lacks it
abbrev pub IsNewName : (old new : Ontology) → Iri → Type 0
IsNewName old new name = (kind : Kind) × Contains (names_of new.names kind) name × (Contains (names_of old.names kind) name → ⊥)

-- of a text that the new ontology has more: it has a name that the old one lacks; or what a test that was made is refused for
abbrev pub IsUntoldOf : (old new : Ontology) → (max_facts : ℕ) → EntailsFault → Type 0
IsUntoldOf old new max_facts Unfinished = ⊥
IsUntoldOf old new max_facts (Statements fault) = ⊥
IsUntoldOf old new max_facts (UnknownName name) = IsNewName old new (string_bytes name)
IsUntoldOf old new max_facts TooManyNames = IsUntoldFor old new max_facts tests.TooManyNames
IsUntoldOf old new max_facts Limit = IsUntoldFor old new max_facts tests.Limit
IsUntoldOf old new max_facts Memory = Unit {0}

-- the text is read, and this is why it is not told
abbrev pub IsUntoldText : Opened → (text : List ℕ) → (max_facts : ℕ) → EntailsFault → Type 0
IsUntoldText s text max_facts fault = IsWithin s text × ((new : Ontology) × IsAddedText s.version s.prefixes text s.ontology new × IsUntoldOf s.ontology new max_facts fault)

-- what a refusal says of a text of axioms: facts are pending; or none are, and the text is not read, or this is why it is not told
abbrev pub IsEntailmentRefusal : Opened → (text : List ℕ) → (max_facts : ℕ) → EntailsFault → Type 0
IsEntailmentRefusal s text max_facts Unfinished = ¬ IsFinished s.saturation
IsEntailmentRefusal s text max_facts (Statements fault) = IsFinished s.saturation × IsRefusedAddition s text fault
IsEntailmentRefusal s text max_facts fault = IsFinished s.saturation × IsUntoldText s text max_facts fault
