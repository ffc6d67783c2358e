-- The words of the program `elcheck`: those of a check as they stand, or behind `convert` those of a conversion.
use Rattle.std.specs.Prelude.{◌≡◌, Bool, List, ◌∷◌, codes, drop, true, false, ⊤}
use Rattle.std.specs.Str.{bytes_eq}
use Rattle.clap.specs.Words.{App, Row, Text, matches_of, takes}
use Rattle.command_line.specs.CommandLine.{IsTask, check_app, convert_app}
use Rattle.command_line.specs.declared.receiver.ReceiverTask.{ReceiverTask}
use Rattle.command_line.specs.declared.receiver.Request.{Request}
use Rattle.command_line.specs.declared.receiver.Request.TheVariants as requests
use Rattle.command_line.specs.declared.tasks.Command.{Command}
use Rattle.command_line.specs.declared.tasks.Command.TheVariants.{Check, Convert}
use Rattle.command_line.specs.declared.tasks.LineFault.{LineFault}
use Rattle.command_line.specs.declared.tasks.LineFault.TheVariants.{Line, Memory}
use Rattle.command_line.specs.declared.tasks.Task.{Task}

-- the word behind the program's name is `convert`
abbrev pub asks_conversion : List Text → Bool
asks_conversion (name ∷ word ∷ words) = bytes_eq word (codes "convert")
asks_conversion words = false

-- the command of `elc` by whose rules the words are read
abbrev pub rules_name : (converts : Bool) → Text
rules_name true = codes "convert"
rules_name false = codes "check"

-- its rules
abbrev pub rules : (converts : Bool) → App
rules true = convert_app
rules false = check_app

-- the words that are read by them: the word `convert` stands in the place of a program's name
abbrev pub ruled_words : (converts : Bool) → List Text → List Text
ruled_words true words = drop 1 words
ruled_words false words = words

-- what is asked for, as a command of `elc`
abbrev pub command_of : Request → Command
command_of (requests.Check paths) = Check paths
command_of (requests.Convert conversion) = Convert conversion

-- and within its limits, as a task of `elc`
abbrev pub task_of : ReceiverTask → Task
task_of t = record { command = command_of t.request; limits = t.limits; progress = t.progress; lines = t.lines }

-- the task that a command's rules say of these rows
abbrev pub IsRuledTask : (converts : Bool) → List Row → ReceiverTask → Type 0
IsRuledTask converts rows task = IsTask (rules_name converts) rows (task_of task)

-- the task that clap's function of these rules gives for the words
abbrev pub IsReceiverTaskOf : List Text → ReceiverTask → Type 0
IsReceiverTaskOf words task =
    let converts = asks_conversion words in
    IsRuledTask converts (matches_of (rules converts) (ruled_words converts words)) task

-- clap's function of these rules takes the words
abbrev pub receiver_takes : List Text → Bool
receiver_takes words =
    let converts = asks_conversion words in
    takes (rules converts) (ruled_words converts words)

-- a line is refused only where clap's function does not take the words, or gives no task for them
abbrev pub RefusesReceiver : List Text → LineFault → Type 0
RefusesReceiver words (Line error) = receiver_takes words ≡ true → (task : ReceiverTask) → IsReceiverTaskOf words task → ⊥
RefusesReceiver words Memory = ⊤
