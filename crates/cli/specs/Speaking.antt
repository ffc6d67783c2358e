-- A run that keeps a document, and answers commands.
use Rattle.std.specs.Prelude.{◌≡◌, ◌⊎◌, ℕ, List, [], Bool, Option, codes}
use Rattle.std.specs.Borrow.{Bor}
use Rattle.receiving.specs.Files.{BlamesFile, IsSourceOf, NoWriteFails, Store}
use Rattle.cli.specs.Filing.{filing_service}
use Rattle.telling.specs.Printing.{IsPrinted, IsTold, Output}
use Rattle.telling.specs.Messages.{out_of_memory, IsDocumentText}
use Rattle.profile.specs.Faults.{OpensKnown, RefusesKnown}
use Rattle.profile.specs.Messages.{status_of}
use Rattle.profile.specs.declared.fault.DocumentFault.{DocumentFault}
use Rattle.program.specs.Status.{code_of}
use Rattle.program.specs.declared.limits.Limits.{Limits}
use Rattle.program.specs.declared.status.Status.TheVariants as statuses
use Rattle.session.specs.Sessions.{IsSession, Opened, as_read}
use Rattle.source_lines.specs.Sources.{SourceState}
use Rattle.speech.specs.Conversations.{IsConversation}
use Rattle.speech.specs.Turns.{status_of_end}
use Rattle.speech.specs.declared.conversation.Ending.{Ending}
use Rattle.speech.specs.declared.session_service.SessionService.{SessionService}
use Rattle.system_files.specs.Contents.{AreKept, Content}

-- the file that commands are read from
abbrev pub input_path : List ℕ
input_path = codes "/dev/stdin"

-- a session over the document that the file holds, of which nothing is run
pub record IsOpenedAs (limits : Limits) (held : Option (List ℕ)) (s : Opened) : Type 0 where
  pub read : OpensKnown limits.version held limits.max_bytes (as_read s)
  pub limit : s.most_bytes ≡ limits.max_bytes
  pub version : s.version ≡ limits.version
  pub unserved : s.saturation.state.served ≡ []
  pub session : IsSession s

-- the files hold what they held, and no write failed
pub record AreFilesKept (s : Store) (content content' : Content) : Type 0 where
  pub kept : AreKept content content'
  pub unfailed : NoWriteFails s

-- the document is not opened, which is told
pub record IsUnopenedTold (path : List ℕ) (limits : Limits) (s : Store) (content content' : Content) (old new : Output) (status : ℕ) : Type 0 where
  pub fault : DocumentFault
  pub refused : RefusesKnown limits.version (content path) limits.max_bytes fault
  pub blames : BlamesFile s.reads_fail s.is_known (content path) fault
  pub unprinted : new.out ≡ old.out
  pub told : IsTold old.err new.err (IsDocumentText path limits.max_bytes fault) (status_of fault) status
  pub files : AreFilesKept s content content'

-- the document was opened, and then there was no memory for reading commands, which is told
pub record IsUnheardTold (path : List ℕ) (limits : Limits) (s : Store) (content content' : Content) (old new : Output) (status : ℕ) : Type 0 where
  pub session : Opened
  pub opened : IsOpenedAs limits (content path) session
  pub unprinted : new.out ≡ old.out
  pub told : IsPrinted old.err new.err out_of_memory statuses.Memory status
  pub files : AreFilesKept s content content'

-- commands are answered by a session over the document, which writes its texts into the files, up to an end that the status tells; what is
-- told on the way is progress
pub record IsSpoken (told : Bool) (document : Bor (List ℕ)) (limits : Limits) (s : Store) (content content' : Content) (old new : Output) (status : ℕ) : Type 0 where
  pub service : SessionService
  pub last : SessionService
  pub opened : IsOpenedAs limits (content document.now) service.session
  pub limits_are : service.limits ≡ limits
  pub before : SourceState
  pub after : SourceState
  pub input : IsSourceOf s.is_known (content input_path) before
  pub ending : Ending
  pub spoken : IsConversation (filing_service s.is_known told document) (record { service = service; content = content; failed_writes = s.failed_before })
      (record { service = last; content = content'; failed_writes = s.failed_behind }) before after old.out new.out ending
  pub status_is : status ≡ code_of (status_of_end ending)
  pub quiet : new.err ≡ old.err

-- a run of `session`
abbrev pub IsSessionRun : (told : Bool) → (document : Bor (List ℕ)) → Limits → Store → (content content' : Content) → (old new : Output) → (status : ℕ) → Type 0
IsSessionRun told document limits s content content' old new status =
    IsSpoken told document limits s content content' old new status
    ⊎ (IsUnopenedTold document.now limits s content content' old new status ⊎ IsUnheardTold document.now limits s content content' old new status)
