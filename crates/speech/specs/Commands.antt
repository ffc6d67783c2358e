-- How commands are spelled.
use Rattle.std.specs.Prelude.{◌≡◌, ◌==◌, ◌⊎◌, ◌++◌, ◌∷◌, ◌<◌, ◌≤◌, ◌^◌, ℕ, List, [], Bool, true, false, Option, Some, None, codes, length}
use Rattle.std.specs.Fmt.{decimal}
use Rattle.std.specs.List.{slice_split}
use Rattle.std.specs.Str.{IsUtf8}
use Rattle.program.specs.Questions.{related_word, side_word}
use Rattle.program.specs.declared.question.Asked.{Asked}
use Rattle.program.specs.declared.question.Asked.TheVariants.{Class, Individual}
use Rattle.program.specs.declared.question.Question.{Question}
use Rattle.program.specs.declared.question.Question.TheVariants.{Names, Groups, Why, Unsatisfiable, Types, DirectTypes, Lacks}
use Rattle.program.specs.declared.question.Spelling.{Spelling}
use Rattle.program.specs.declared.question.Spelling.TheVariants.{Full, Short}
use Rattle.speech.specs.declared.command.Command.{Command}
use Rattle.speech.specs.declared.command.Writing.{Writing}
use Rattle.speech.specs.declared.command.Writing.TheVariants.{Texts, Inferred}
use Rattle.speech.specs.declared.command.Command.TheVariants.{Add, Run, RunSome, Ask, Query, Entails, Write, Infer, Axiom, Status, Version}
use Rattle.speech.specs.declared.line.CommandFault.{CommandFault}
use Rattle.speech.specs.declared.line.CommandFault.TheVariants as faults
use Rattle.speech.specs.declared.options.Options.{Options}
use Rattle.speech.specs.declared.words.Words.{Words}
use Rattle.speech.specs.declared.words.Words.TheVariants.{One, Two, Three, Behind}

-- the words of a line, which stand between its spaces
abbrev pub split_words : List ℕ → List (List ℕ)
split_words line = slice_split (λ b. b == 32) line

-- with which a command asks whether, and why, what is asked of is in a class, as lines or as a graph
abbrev pub why_word : Asked → (graph : Bool) → List ℕ
why_word (Class c) false = codes "why"
why_word (Class c) true = codes "dot"
why_word (Individual a) false = codes "why-individual"
why_word (Individual a) true = codes "dot-individual"

-- the name of what is asked of
abbrev pub subject_in : Asked → List ℕ
subject_in (Class c) = c.now
subject_in (Individual a) = a.now

-- with which it asks for the conditions that what is asked of has, and for those that it lacks
abbrev pub lacks_word : Asked → List ℕ
lacks_word (Class c) = codes "lacks"
lacks_word (Individual a) = codes "lacks-individual"

-- a word that may stand
abbrev pub word_if : Bool → (word : List ℕ) → List (List ℕ)
word_if false word = []
word_if true word = word ∷ []

-- behind a question why: of a refutation those elements alone that are reached; and the axioms that a derivation cites
abbrev pub shown_words : (reached axioms : Bool) → List (List ℕ)
shown_words reached axioms = word_if reached (codes "reached") ++ word_if axioms (codes "axioms")

-- behind what is told with names: how these are spelled
abbrev pub spelling_words : Spelling → List (List ℕ)
spelling_words Full = []
spelling_words Short = codes "short" ∷ []

-- the words of a question
abbrev pub question_words : Question → List (List ℕ)
question_words (Names related class) = related_word related ∷ class.now ∷ []
question_words (Groups side class) = side_word side ∷ class.now ∷ []
question_words (Why asked class shown) = why_word asked shown.graph ∷ subject_in asked ∷ class.now ∷ shown_words shown.reached shown.axioms
question_words Unsatisfiable = codes "unsatisfiable" ∷ []
question_words (Types individual) = codes "types" ∷ individual.now ∷ []
question_words (DirectTypes individual) = codes "direct-types" ∷ individual.now ∷ []
question_words (Lacks asked class) = lacks_word asked ∷ subject_in asked ∷ class.now ∷ []

-- the words of a command
abbrev pub words_of : Command → List (List ℕ)
words_of (Add size) = codes "add" ∷ decimal size ∷ []
words_of Run = codes "run" ∷ []
words_of (RunSome more) = codes "run" ∷ decimal more ∷ []
words_of (Ask question spelling) = question_words question ++ spelling_words spelling
words_of (Query size) = codes "query" ∷ decimal size ∷ []
words_of (Entails size) = codes "entails" ∷ decimal size ∷ []
words_of (Write paths) = codes "write" ∷ paths.taxonomy.now ∷ paths.instances.now ∷ paths.certificate.now ∷ []
words_of (Infer path) = codes "infer" ∷ path.now ∷ []
words_of (Axiom number spelling) = codes "axiom" ∷ decimal number ∷ spelling_words spelling
words_of Status = codes "status" ∷ []
words_of Version = codes "version" ∷ []

-- how many bytes follow the line of a command
abbrev pub payload_size : Command → Option ℕ
payload_size (Add size) = Some size
payload_size (Query size) = Some size
payload_size (Entails size) = Some size
payload_size command = None

-- what a command asks to write into files
abbrev pub writing_of : Command → Option Writing
writing_of (Write paths) = Some (Texts paths)
writing_of (Infer path) = Some (Inferred path)
writing_of command = None

-- the number in a command is one that it may have: in 64 bits, and of facts from 1 on and in 32 bits
abbrev pub IsCounted : Command → Type 0
IsCounted (Add size) = size < 2 ^ 64
IsCounted (RunSome more) = (0 < more) × (more < 2 ^ 32)
IsCounted (Query size) = size < 2 ^ 64
IsCounted (Entails size) = size < 2 ^ 64
IsCounted (Axiom number spelling) = number < 2 ^ 64
IsCounted command = Unit {0}

-- how many bytes a line has at most, before its line feed
abbrev pub most_line : ℕ
most_line = 4096

-- the line, without its line feed, is the command
pub record Spells (line : List ℕ) (command : Command) : Type 0 where
  pub short : length line ≤ most_line
  pub text : IsUtf8 line
  pub words : split_words line ≡ words_of command
  pub counted : IsCounted command

-- the line is no command
abbrev pub SpellsNothing : List ℕ → Type 0
SpellsNothing line = (command : Command) → Spells line command → ⊥

-- the line begins with the word
abbrev pub BeginsWith : (word line : List ℕ) → Type 0
BeginsWith word line = (line ≡ word) ⊎ ((rest : List ℕ) × (line ≡ word ++ (32 ∷ rest)))

-- the line begins as that of a command that bytes follow
abbrev pub AnnouncesBytes : List ℕ → Type 0
AnnouncesBytes line = BeginsWith (codes "add") line ⊎ (BeginsWith (codes "query") line ⊎ BeginsWith (codes "entails") line)

-- why a line is no command: it does not tell how many bytes follow it, or none follow it
abbrev pub IsNoCommand : List ℕ → CommandFault → Type 0
IsNoCommand line faults.Size = SpellsNothing line × AnnouncesBytes line
IsNoCommand line faults.Unknown = SpellsNothing line × ¬ AnnouncesBytes line

-- ---- by words

-- these are the words
abbrev pub AreWords : Words → List (List ℕ) → Type 0
AreWords (One a) words = words ≡ a.now ∷ []
AreWords (Two a b) words = words ≡ a.now ∷ b.now ∷ []
AreWords (Three a b c) words = words ≡ a.now ∷ b.now ∷ c.now ∷ []
AreWords (Behind a b c rest) words = words ≡ a.now ∷ b.now ∷ c.now ∷ split_words rest.now

-- the words of options
abbrev pub option_words : Options → List (List ℕ)
option_words options = shown_words options.reached options.axioms ++ spelling_words options.spelling

-- the options that have the words, or that there are none
abbrev pub AreOptionsOf : List (List ℕ) → Option Options → Type 0
AreOptionsOf words (Some options) = option_words options ≡ words
AreOptionsOf words None = (options : Options) → option_words options ≡ words → ⊥

-- the command that has the words, or that there is none
abbrev pub IsCommandOf : List (List ℕ) → Option Command → Type 0
IsCommandOf words (Some command) = (words_of command ≡ words) × IsCounted command
IsCommandOf words None = (command : Command) → IsCounted command → words_of command ≡ words → ⊥

-- the question that has the words, or that there is none
abbrev pub IsQuestionOf : List (List ℕ) → Option Question → Type 0
IsQuestionOf words (Some question) = question_words question ≡ words
IsQuestionOf words None = (question : Question) → question_words question ≡ words → ⊥

-- what the verb asks of, and whether as a graph, or that it does not ask why
abbrev pub IsSubjectOf : (verb subject : List ℕ) → Option (Asked × Bool) → Type 0
IsSubjectOf verb subject (Some found) = (why_word found.0 found.1 ≡ verb) × (subject_in found.0 ≡ subject)
IsSubjectOf verb subject None = (asked : Asked) (graph : Bool) → why_word asked graph ≡ verb → ⊥

-- the same of what the verb asks of for its conditions
abbrev pub IsConditionedOf : (verb subject : List ℕ) → Option Asked → Type 0
IsConditionedOf verb subject (Some asked) = (lacks_word asked ≡ verb) × (subject_in asked ≡ subject)
IsConditionedOf verb subject None = (asked : Asked) → lacks_word asked ≡ verb → ⊥

-- a question about a subject and a class
abbrev pub AsksOfTwo : Command → Type 0
AsksOfTwo (Ask (Why asked class shown) spelling) = Unit {0}
AsksOfTwo (Ask (Lacks asked class) spelling) = Unit {0}
AsksOfTwo command = ⊥

-- the command that has the words, or that there is none among these
abbrev pub IsCommandAmong : (Command → Type 0) → List (List ℕ) → Option Command → Type 0
IsCommandAmong Among words (Some command) = (words_of command ≡ words) × IsCounted command
IsCommandAmong Among words None = (command : Command) → Among command → IsCounted command → words_of command ≡ words → ⊥
