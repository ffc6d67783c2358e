-- What is proved of documents.
use Rattle.std.specs.Prelude.{◌≡◌, ◌≤◌, ℕ, length, List, Some}
use Rattle.axioms.specs.Ontology.{Ontology}
use Rattle.shapes.specs.View.{faults_of}
use Rattle.shapes.specs.declared.fault.Fault.{Fault}
use Rattle.program.specs.declared.version.Version.{Version}
use Rattle.program.specs.declared.version.Version.TheVariants.{One, Two}
use Rattle.profile.specs.declared.fault.DocumentFault.{DocumentFault}
use Rattle.profile.specs.declared.fault.DocumentFault.TheVariants.{Io, Memory}
use Rattle.profile.specs.Documents.{ReadsAs}
use Rattle.profile.specs.Faults.{HaveFaults, ReadAsNone, ReadsKnown, Refuses, RefusesKnown}

-- bytes read as at most one ontology in a version
abbrev pub BytesReadAsOneOntology : Type 0
BytesReadAsOneOntology = (version : Version) (bytes : List ℕ) (o p : Ontology) → ReadsAs version bytes o → ReadsAs version bytes p → o ≡ p

-- bytes have at most one list of faults in a version
abbrev pub BytesHaveOneFaultList : Type 0
BytesHaveOneFaultList = (version : Version) (bytes : List ℕ) (xs ys : List Fault) → HaveFaults version bytes xs → HaveFaults version bytes ys → faults_of xs ≡ faults_of ys

-- bytes that are refused read as no ontology, unless memory was refused
abbrev pub RefusedBytesReadAsNone : Type 0
RefusedBytesReadAsNone = (version : Version) (bytes : List ℕ) (fault : DocumentFault) → Refuses version fault bytes → ¬ (fault ≡ Memory) → ReadAsNone version bytes

-- refused bytes of a source, of which so many are allowed, read as no ontology, unless memory was refused or the source failed
abbrev pub RefusedSourcesReadAsNone : Type 0
RefusedSourcesReadAsNone =
    (version : Version) (bytes : List ℕ) (most : ℕ) (fault : DocumentFault) → RefusesKnown version (Some bytes) most fault → ¬ (fault ≡ Memory) → ¬ (fault ≡ Io) →
    (o : Ontology) → ReadsKnown version (Some bytes) most o → ⊥

-- a document has at least as many bytes as its ontology has axioms
abbrev pub AxiomsTakeBytes : Type 0
AxiomsTakeBytes = (version : Version) (bytes : List ℕ) (o : Ontology) → ReadsAs version bytes o → length o.axioms ≤ length bytes

-- what bytes read as in the first version they read as in the second
abbrev pub FirstVersionIsInSecond : Type 0
FirstVersionIsInSecond = (bytes : List ℕ) (o : Ontology) → ReadsAs One bytes o → ReadsAs Two bytes o
