-- What is told of a command, and how that is spelled.
use Rattle.std.specs.Prelude.{◌++◌, ℕ, List, Result, Ok, Err, codes, length}
use Rattle.std.specs.Fmt.{decimal}
use Rattle.program.specs.Status.{code_of}
use Rattle.program.specs.declared.status.Status.{Status}
use Rattle.program.specs.declared.status.Status.TheVariants as statuses
use Rattle.telling.specs.Messages.{more_bytes}
use Rattle.speech.specs.declared.reply.Reply.{Reply}

-- a status, and a text
pub record Told : Type 0 where
  pub status : Status
  pub text : List ℕ

abbrev pub told : Status → List ℕ → Told
told status text = record { status = status; text = text }

abbrev pub out_of_memory : Told
out_of_memory = told statuses.Memory (codes "out of memory\n")

-- what a reply tells; where memory was refused for it, that
abbrev pub told_by : {X : Type 0} → Result Reply X → Told
told_by (Ok reply) = told reply.status reply.text.items
told_by (Err refused) = out_of_memory

-- what is told of a line that is no command
abbrev pub unknown_command : Told
unknown_command = told statuses.Usage (codes "unknown command\n")

-- what is told of a command that more bytes follow than there is room for
abbrev pub too_large : (room : ℕ) → Told
too_large room = told statuses.Limit (more_bytes room)

-- that a command was done, and its answer
abbrev pub done_text : List ℕ → List ℕ
done_text text = codes "ok " ++ (decimal (length text) ++ (codes "\n" ++ text))

-- that it was not done, with the number of the status, and why
abbrev pub refused_text : Status → List ℕ → List ℕ
refused_text status text = codes "no " ++ (decimal (code_of status) ++ (codes " " ++ (decimal (length text) ++ (codes "\n" ++ text))))

abbrev pub by_status : Status → List ℕ → List ℕ
by_status statuses.Done text = done_text text
by_status status text = refused_text status text

-- how a reply is spelled
abbrev pub reply_text : Told → List ℕ
reply_text t = by_status t.status t.text
