-- What a session has.
use Rattle.std.specs.Prelude.{◌≡◌, ◌≤◌, ℕ}
use Rattle.axioms.specs.Ontology.{Ontology}
use Rattle.engine.specs.Saturations.{Saturating, IsFinished, IsSaturated, IsSound, IsUnasked, as_ended}
use Rattle.fs_parser.specs.Name.{Prefixes}
use Rattle.profile.specs.Documents.{IsTaken}
use Rattle.profile.specs.declared.opened.Opened as reading
use Rattle.program.specs.declared.version.Version.{Version}

-- the ontology of the document and of all that was added, the prefixes with which names are expanded, and what is known so far of
-- what follows; how many bytes the document and what was added have, and how many they may have; and the version of the profile in which
-- texts are read
pub record Opened : Type 0 where
  pub ontology : Ontology
  pub prefixes : Prefixes
  pub saturation : Saturating
  pub bytes : ℕ
  pub most_bytes : ℕ
  pub version : Version

-- what holds at any time: the facts are facts of the ontology's closure, each once, with nothing asked about, and some of them are served,
-- each once; the ontology is well formed and that of some statements; and there are no more bytes than there may be
pub record IsOpen (s : Opened) : Type 0 where
  pub sound : IsSound s.ontology s.saturation
  pub unasked : IsUnasked (as_ended s.saturation)
  pub taken : IsTaken s.ontology
  pub within : s.bytes ≤ s.most_bytes

-- what can be cited of any session: where nothing is pending, the facts are the closure, too
pub record IsSession (s : Opened) : Type 0 where
  pub whole : IsOpen s
  pub saturated : IsFinished s.saturation → IsSaturated s.ontology (as_ended s.saturation)

-- what was read
abbrev pub as_read : Opened → reading.Opened
as_read s = record { ontology = s.ontology; prefixes = s.prefixes; bytes = s.bytes; version = s.version }

-- the prefixes and the bytes, how many there may be, and the version are as they were
pub record KeepsText (old new : Opened) : Type 0 where
  pub prefixes : new.prefixes ≡ old.prefixes
  pub bytes : new.bytes ≡ old.bytes
  pub most_bytes : new.most_bytes ≡ old.most_bytes
  pub version : new.version ≡ old.version
