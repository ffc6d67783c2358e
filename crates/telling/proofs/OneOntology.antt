-- A document reads as one ontology, in whatever version.
use Rattle.std.proofs.Common.{◌≡◌, ℕ, List}
use Rattle.axioms.specs.Ontology.{Ontology}
use Rattle.profile.proofs.OneReading.{one_reading}
use Rattle.profile.proofs.Versions.{first_in_second}
use Rattle.profile.specs.Documents.{ReadsAs}
use Rattle.program.specs.declared.version.Version.{Version}
use Rattle.program.specs.declared.version.Version.TheVariants.{One, Two}

-- what bytes read as in any version they read as in the second
pub in_second : (version : Version) (bytes : List ℕ) (o : Ontology) → ReadsAs version bytes o → ReadsAs Two bytes o
in_second One bytes o reads = first_in_second bytes o reads
in_second Two bytes o reads = reads

-- so bytes read as at most one ontology, in whatever versions
pub one_ontology : (version other : Version) (bytes : List ℕ) (o p : Ontology) → ReadsAs version bytes o → ReadsAs other bytes p → o ≡ p
one_ontology version other bytes o p reads reads' = one_reading Two bytes o p (in_second version bytes o reads) (in_second other bytes p reads')
