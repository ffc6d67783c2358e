-- Sinks of files, and what the files hold once they are closed.
use Rattle.std.specs.Prelude.{◌≡◌, ℕ, List, Bool, true, Option}
use Rattle.command_line.specs.declared.tasks.Paths.{Paths}
use Rattle.device.specs.declared.device.Sink.{Ghosts}
use Rattle.system_files.specs.Contents.{nothing_taken}

-- a sink: the path of its file, and the bytes that it has taken, where these are known
abbrev pub FileSink : Type 0
FileSink = List ℕ × Option (List ℕ)

-- what the words of its trait tell of a sink: the path of its file, and the bytes that it has taken
abbrev pub file_sink : {S : Type 0} → Ghosts S → S → FileSink
file_sink S sink = (S.path sink, S.taken sink)

-- the sink has taken nothing, is that of the path, and there is a place for its file
pub record IsFresh (known : Bool) (path : List ℕ) (has_place : List ℕ → Bool) (sink : FileSink) : Type 0 where
  pub path_is : sink.0 ≡ path
  pub taken : sink.1 ≡ nothing_taken known
  pub place : has_place path ≡ true

-- each of three sinks has taken nothing, is that of the path of its text, and there is a place for its file
pub record AreFresh (known : Bool) (paths : Paths) (has_place : List ℕ → Bool) (taxonomy instances certificate : FileSink) : Type 0 where
  pub taxonomy_is : IsFresh known paths.taxonomy.now has_place taxonomy
  pub instances_is : IsFresh known paths.instances.now has_place instances
  pub certificate_is : IsFresh known paths.certificate.now has_place certificate

-- what the words of their trait tell of three sinks: each has taken nothing, is that of the path of its text, and there is a place
-- for its file
abbrev pub HasFresh : {S : Type 0} → Ghosts S → (known : Bool) → Paths → (has_place : List ℕ → Bool) → (taxonomy instances certificate : S) → Type 0
HasFresh S known paths has_place taxonomy instances certificate =
    AreFresh known paths has_place (file_sink S taxonomy) (file_sink S instances) (file_sink S certificate)

-- no call of the three sinks has failed
abbrev pub HaveNotFailed : {S : Type 0} → Ghosts S → (taxonomy instances certificate : S) → Type 0
HaveNotFailed S taxonomy instances certificate = (S.failures taxonomy ≡ 0) × (S.failures instances ≡ 0) × (S.failures certificate ≡ 0)
