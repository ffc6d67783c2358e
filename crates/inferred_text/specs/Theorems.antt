-- What is proved of inferred statements.
use Rattle.std.specs.Prelude.{◌≡◌, ◌↔◌, ◌<◌, ℕ, List, length}
use Rattle.std.specs.List.{Contains, filter_map}
use Rattle.axioms.specs.Axiom.{Axiom}
use Rattle.axioms.specs.Expression.{Iri}
use Rattle.axioms.specs.Numbering.{logical_axiom}
use Rattle.axioms.specs.Ontology.{Names, Ontology, axiom_trees, name_at}
use Rattle.axioms.specs.WellFormedness.{IsOntology}
use Rattle.inferred_text.specs.Inferred.{inferred}
use Rattle.interpretation_spec.specs.Interpretation.{Interpretation, IsBelow, IsContradictory, IsMember, IsModel}
use Rattle.profile.specs.Documents.{HasSayableNames, IsTaken, ReadsAs}
use Rattle.profile.specs.Reading.{HasFewNames}
use Rattle.program.specs.declared.version.Version.{Version}
use Rattle.statements_text.specs.Texts.{document_text}
use Rattle.taxonomy.specs.Following.{IsWhatFollows, class_at}
use Rattle.taxonomy.specs.Outcome.{IsMadeFor}
use Rattle.taxonomy.specs.declared.outcome.Outcome.{Outcome}

-- ---- what the axioms say

-- the axioms that were found
abbrev pub found_axioms : Names → Outcome → List Axiom
found_axioms names outcome = filter_map logical_axiom (inferred names outcome)

-- each model of the first axioms is one of the second, and of named classes and individuals the same follows from both; the first
-- contradict one another exactly where the second do
pub record SayTheSame (names : Names) (first second : List Axiom) : Type 0 where
  pub models : (i : Interpretation) → IsModel i first → IsModel i second
  pub below : (c d : ℕ) → c < length names.classes → d < length names.classes → IsBelow first (class_at names c) (class_at names d) ↔ IsBelow second (class_at names c) (class_at names d)
  pub members : (a c : ℕ) → a < length names.individuals → c < length names.classes → IsMember first (name_at names.individuals a) (class_at names c) ↔ IsMember second (name_at names.individuals a) (class_at names c)
  pub contradictory : IsContradictory first ↔ IsContradictory second

-- where what was found is what follows from the axioms of an ontology, the axioms that were found say the same
abbrev pub FoundAxiomsSayTheSame : Type 0
FoundAxiomsSayTheSame =
    (o : Ontology) (outcome : Outcome) → IsOntology o → IsMadeFor o outcome → IsWhatFollows o outcome →
    SayTheSame o.names (axiom_trees o) (found_axioms o.names outcome)

-- ---- what the text reads as

-- the same names are of each kind
pub record HaveSameNames (m n : Names) : Type 0 where
  pub classes : (name : Iri) → Contains m.classes name ↔ Contains n.classes name
  pub properties : (name : Iri) → Contains m.properties name ↔ Contains n.properties name
  pub individuals : (name : Iri) → Contains m.individuals name ↔ Contains n.individuals name

-- the text reads in the version as an ontology with these names and these axioms
pub record ReadsWithNames (version : Version) (text : List ℕ) (names : Names) (axioms : List Axiom) : Type 0 where
  pub ontology : Ontology
  pub reads : ReadsAs version text ontology
  pub names_are : HaveSameNames names ontology.names
  pub axioms_are : axiom_trees ontology ≡ axioms

-- the text of what was found of an ontology whose names can be written reads, in each version, as an ontology with its names, whose
-- axioms are those that were found
abbrev pub InferredReadsBack : Type 0
InferredReadsBack =
    (version : Version) (o : Ontology) (outcome : Outcome) → IsOntology o → HasFewNames o → HasSayableNames o.names → IsMadeFor o outcome →
    ReadsWithNames version (document_text (inferred o.names outcome)) o.names (found_axioms o.names outcome)

-- the text reads, in each version, as an ontology with the names of o, whose axioms say the same as those of o
pub record SaysWhatFollows (o : Ontology) (text : List ℕ) : Type 0 where
  pub axioms : List Axiom
  pub same : SayTheSame o.names (axiom_trees o) axioms
  pub reads : (version : Version) → ReadsWithNames version text o.names axioms

-- that holds of the text of what was found of an ontology that was read
abbrev pub InferredSaysWhatFollows : Type 0
InferredSaysWhatFollows =
    (o : Ontology) (outcome : Outcome) → IsTaken o → IsMadeFor o outcome → IsWhatFollows o outcome →
    SaysWhatFollows o (document_text (inferred o.names outcome))
