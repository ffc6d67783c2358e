-- The program's command line, as clap reads it.
use Rattle.std.specs.Prelude.{◌≡◌, ◌≤◌, ◌<◌, ◌^◌, ℕ, Bool, List, [], ◌∷◌, Option, Some, None, Result, Ok, Err, codes, if◌then◌else◌, true, false, ⊤}
use Rattle.std.specs.Fmt.{decimal}
use Rattle.std.specs.Str.Parse.{IsNumeral, digits_value, without_leading_plus}
use Rattle.clap.specs.Words.{App, Row, Rule, Text, new_app, new_rule, with_rule, with_subcommand, first_of, one_of, subcommand_of, takes}
use Rattle.clap.specs.Faults.{fault_of}
use Rattle.clap.specs.Kinds.{IsAmong}
use Rattle.clap.specs.Values.{kind_of}
use Rattle.clap.specs.Simple.{on_top}
use Rattle.clap.specs.declared.builder.action.ArgAction.TheVariants.{SetTrue}
use Rattle.clap.specs.declared.builder.value_parser.ValueParser.TheVariants as vp
use Rattle.clap.specs.declared.error.kind.ErrorKind.TheVariants.{DisplayVersion, OutOfMemory}
use Rattle.clap.specs.declared.error.Error.{Error}
use Rattle.command_line.specs.declared.tasks.Conversion.{Conversion}
use Rattle.command_line.specs.declared.tasks.Invocation.{Invocation}
use Rattle.command_line.specs.declared.tasks.Invocation.TheVariants as invocations
use Rattle.command_line.specs.declared.tasks.FormatNumber.{FormatNumber}
use Rattle.command_line.specs.declared.tasks.FormatNumber.TheVariants as formats
use Rattle.command_line.specs.declared.tasks.Paths.{Paths}
use Rattle.program.specs.Questions.{related_word, side_word}
use Rattle.program.specs.declared.question.Asked.{Asked}
use Rattle.program.specs.declared.question.Asked.TheVariants.{Class, Individual}
use Rattle.program.specs.declared.question.Question.{Question}
use Rattle.program.specs.declared.question.Question.TheVariants.{Names, Groups, Why, Unsatisfiable, Types, DirectTypes, Lacks}
use Rattle.program.specs.declared.question.Related.TheVariants.{Superclasses, Subclasses, Equivalents, Instances}
use Rattle.program.specs.declared.question.Shown.{Shown}
use Rattle.program.specs.declared.question.Side.TheVariants.{Above, Below}
use Rattle.program.specs.declared.question.Spelling.{Spelling}
use Rattle.program.specs.declared.question.Spelling.TheVariants.{Full, Short}
use Rattle.command_line.specs.declared.tasks.LineFault.{LineFault}
use Rattle.command_line.specs.declared.tasks.LineFault.TheVariants.{Line, Memory}
use Rattle.command_line.specs.declared.tasks.Command.{Command}
use Rattle.command_line.specs.declared.tasks.Command.TheVariants.{Ask, Check, Classify, Convert, Infer, Query, Restrict, Session}
use Rattle.command_line.specs.declared.tasks.Task.{Task}
use Rattle.program.specs.declared.limits.Limits.{Limits}
use Rattle.program.specs.declared.limits.TheConstants.{MOST_BYTES, MOST_FACTS}
use Rattle.program.specs.declared.version.Version.{Version}
use Rattle.program.specs.declared.version.Version.TheVariants.{One, Two}

-- ---- the commands

-- the greatest number of facts that a caller may ask for, which is the default
abbrev pub most_facts : ℕ
most_facts = MOST_FACTS

-- the greatest number of bytes that a caller may ask for, which is the default
abbrev pub most_bytes : ℕ
most_bytes = MOST_BYTES

-- the number of a version of the profile
abbrev pub version_number : Version → ℕ
version_number One = 1
version_number Two = 2

-- the version that a caller has who names none, which is the last
abbrev pub default_version : ℕ
default_version = version_number Two

-- the number of a format of certificates
abbrev pub format_number : FormatNumber → ℕ
format_number formats.One = 1
format_number formats.Two = 2

-- the format that a caller has who names none, which is the last
abbrev pub default_format : ℕ
default_format = format_number formats.Two

-- a path or a name that has to be given
abbrev pub path : Text → Rule
path id = record (new_rule id) { required = true }

-- a number from 1 to `most`, with its default
abbrev pub number : Text → ℕ → Text → Rule
number id most default = record (new_rule id) { long = Some id; parser = Some (vp.Unsigned 1 most); defaults = default ∷ [] }

-- `--max-facts N`
abbrev pub max_facts : Rule
max_facts = number (codes "max-facts") most_facts (decimal most_facts)

-- `--max-bytes N`
abbrev pub max_bytes : Rule
max_bytes = number (codes "max-bytes") most_bytes (decimal most_bytes)

-- `--profile N`
abbrev pub profile : Rule
profile = number (codes "profile") default_version (decimal default_version)

-- `--format N`
abbrev pub format : Rule
format = number (codes "format") default_format (decimal default_format)

-- a word that may stand or not, as `--dot`
abbrev pub flag : Text → Rule
flag id = record (new_rule id) { long = Some id; action = Some SetTrue }

-- `[--max-bytes N] [--profile N]`
abbrev pub with_reading : App → App
with_reading app = with_rule (with_rule app max_bytes) profile

-- `[--max-bytes N] [--profile N] [--lines]`
abbrev pub with_lines : App → App
with_lines app = with_rule (with_reading app) (flag (codes "lines"))

-- `[--max-facts N] [--max-bytes N] [--profile N] [--lines]`
abbrev pub with_limits : App → App
with_limits app = with_lines (with_rule app max_facts)

-- `[--progress]`
abbrev pub with_progress : App → App
with_progress app = with_rule app (flag (codes "progress"))

-- `DOC TAX INST CERT`
abbrev pub with_paths : App → App
with_paths app =
    with_rule (with_rule (with_rule (with_rule app (path (codes "DOC"))) (path (codes "TAX"))) (path (codes "INST"))) (path (codes "CERT"))

-- `classify DOC TAX INST CERT [--format N] [--progress] [--max-facts N] [--max-bytes N] [--profile N] [--lines]`
abbrev pub classify_app : App
classify_app = with_limits (with_progress (with_rule (with_paths (new_app (codes "classify"))) format))

-- `check DOC TAX INST CERT [--progress] [--max-bytes N] [--profile N] [--lines]`
abbrev pub check_app : App
check_app = with_lines (with_progress (with_paths (new_app (codes "check"))))

-- `DOC CERT OUT [--format N]`
abbrev pub with_conversion : App → App
with_conversion app = with_rule (with_rule (with_rule (with_rule app (path (codes "DOC"))) (path (codes "CERT"))) (path (codes "OUT"))) format

-- `convert DOC CERT OUT [--format N] [--max-bytes N] [--profile N] [--lines]`
abbrev pub convert_app : App
convert_app = with_lines (with_conversion (new_app (codes "convert")))

-- `restrict DOC OUT [--max-bytes N] [--profile N] [--lines]`
abbrev pub restrict_app : App
restrict_app = with_lines (with_rule (with_rule (new_app (codes "restrict")) (path (codes "DOC"))) (path (codes "OUT")))

-- `infer DOC OUT [--max-facts N] [--max-bytes N] [--profile N] [--lines]`
abbrev pub infer_app : App
infer_app = with_limits (with_rule (with_rule (new_app (codes "infer")) (path (codes "DOC"))) (path (codes "OUT")))

-- the commands that write or read certificates
abbrev pub with_certificates : App → App
with_certificates app = with_subcommand (with_subcommand (with_subcommand app classify_app.top) check_app.top) convert_app.top

-- the commands that write a document
abbrev pub with_documents : App → App
with_documents app = with_subcommand (with_subcommand app restrict_app.top) infer_app.top

-- `[--short] [--max-facts N] [--max-bytes N] [--profile N] [--lines]`
abbrev pub with_answer : App → App
with_answer app = with_limits (with_rule app (flag (codes "short")))

-- `WORD DOC CLASS [--short] [--max-facts N] [--max-bytes N] [--profile N] [--lines]`
abbrev pub class_app : (word : Text) → App
class_app word = with_answer (with_rule (with_rule (new_app word) (path (codes "DOC"))) (path (codes "CLASS")))

-- the commands that ask for names that are related to a class
abbrev pub with_related : App → App
with_related app =
    with_subcommand (with_subcommand (with_subcommand (with_subcommand app
    (class_app (related_word Instances)).top) (class_app (related_word Superclasses)).top) (class_app (related_word Subclasses)).top) (class_app (related_word Equivalents)).top

-- and those that ask for the classes directly on a side of it
abbrev pub with_sides : App → App
with_sides app = with_subcommand (with_subcommand app (class_app (side_word Above)).top) (class_app (side_word Below)).top

-- `types DOC INDIVIDUAL [--direct] [--short] [--max-facts N] [--max-bytes N] [--profile N] [--lines]`
abbrev pub types_app : App
types_app = with_answer (with_rule (with_rule (with_rule (new_app (codes "types")) (path (codes "DOC"))) (path (codes "INDIVIDUAL"))) (flag (codes "direct")))

-- `unsatisfiable DOC [--short] [--max-facts N] [--max-bytes N] [--profile N] [--lines]`
abbrev pub unsatisfiable_app : App
unsatisfiable_app = with_answer (with_rule (new_app (codes "unsatisfiable")) (path (codes "DOC")))

-- and those that ask for classes otherwise
abbrev pub with_classes : App → App
with_classes app = with_subcommand (with_subcommand app types_app.top) unsatisfiable_app.top

-- `DOC SUB SUPER [--individual]`
abbrev pub with_names : App → App
with_names app =
    with_rule (with_rule (with_rule (with_rule app (path (codes "DOC"))) (path (codes "SUB"))) (path (codes "SUPER"))) (flag (codes "individual"))

-- `[--dot] [--reached] [--axioms]`
abbrev pub with_flags : App → App
with_flags app = with_rule (with_rule (with_rule app (flag (codes "dot"))) (flag (codes "reached"))) (flag (codes "axioms"))

-- `explain DOC SUB SUPER [--individual] [--dot] [--reached] [--axioms] [--short] [--max-facts N] [--max-bytes N] [--profile N] [--lines]`
abbrev pub explain_app : App
explain_app = with_answer (with_flags (with_names (new_app (codes "explain"))))

-- `lacks DOC SUB SUPER [--individual] [--short] [--max-facts N] [--max-bytes N] [--profile N] [--lines]`
abbrev pub lacks_app : App
lacks_app = with_answer (with_names (new_app (codes "lacks")))

-- the commands that ask of two names why, or why not
abbrev pub with_reasons : App → App
with_reasons app = with_subcommand (with_subcommand app explain_app.top) lacks_app.top

-- `query DOC EXPRESSION [--short] [--max-facts N] [--max-bytes N] [--profile N] [--lines]`
abbrev pub query_app : App
query_app = with_answer (with_rule (with_rule (new_app (codes "query")) (path (codes "DOC"))) (path (codes "EXPRESSION")))

-- `session DOC [--progress] [--max-facts N] [--max-bytes N] [--profile N] [--lines]`
abbrev pub session_app : App
session_app = with_limits (with_progress (with_rule (new_app (codes "session")) (path (codes "DOC"))))

-- the commands that ask about a document
abbrev pub with_questions : App → App
with_questions app = with_subcommand (with_reasons (with_classes (with_sides (with_related app)))) query_app.top

-- the program without its commands, which tells its version
abbrev pub bare_app : App
bare_app = on_top (λ s. record s { has_version = true; subcommand_required = true }) (new_app (codes "elc"))

-- the program, whose first word after its name is one of the commands, or asks for help or the version
abbrev pub elc_app : App
elc_app = with_subcommand (with_questions (with_documents (with_certificates bare_app))) session_app.top

-- ---- what the words ask for

-- the number is what the option's word says in decimal digits, or its default where it has none, and 64 bits hold it
pub record IsNumber (id : Text) (rows : List Row) (number : ℕ) : Type 0 where
  pub word : Text
  pub given : one_of id rows ≡ Some word
  pub numeral : IsNumeral 10 (without_leading_plus word)
  pub value : number ≡ digits_value 10 (without_leading_plus word)
  pub fits : number < 2 ^ 64

-- the limit is the number of the option, and lies from 1 to `most`
pub record IsLimit (id : Text) (most : ℕ) (rows : List Row) (limit : ℕ) : Type 0 where
  pub number : IsNumber id rows limit
  pub least : 1 ≤ limit
  pub within : limit ≤ most

-- the paths are the words that stand in their places
pub record ArePaths (rows : List Row) (paths : Paths) : Type 0 where
  pub document : first_of (codes "DOC") rows ≡ Some paths.document.now
  pub taxonomy : first_of (codes "TAX") rows ≡ Some paths.taxonomy.now
  pub instances : first_of (codes "INST") rows ≡ Some paths.instances.now
  pub certificate : first_of (codes "CERT") rows ≡ Some paths.certificate.now

-- the format is the one whose number the option says
abbrev pub IsFormat : List Row → FormatNumber → Type 0
IsFormat rows format = IsNumber (codes "format") rows (format_number format)

-- the conversion is what the words in their places and the option say
pub record IsConversion (rows : List Row) (conversion : Conversion) : Type 0 where
  pub document : first_of (codes "DOC") rows ≡ Some conversion.document.now
  pub certificate : first_of (codes "CERT") rows ≡ Some conversion.certificate.now
  pub output : first_of (codes "OUT") rows ≡ Some conversion.output.now
  pub format : IsFormat rows conversion.format

-- a flag is true where its word stands, and false where it does not: clap keeps the text of the one or the other
abbrev pub IsFlag : (id : Text) → (rows : List Row) → (stands : Bool) → Type 0
IsFlag id rows stands = first_of id rows ≡ Some (if stands then codes "true" else codes "false")

-- it is asked of the name in its place, of an individual where the flag stands and else of a class
abbrev pub IsAsked : List Row → Asked → Type 0
IsAsked rows (Class c) = (first_of (codes "SUB") rows ≡ Some c.now) × IsFlag (codes "individual") rows false
IsAsked rows (Individual a) = (first_of (codes "SUB") rows ≡ Some a.now) × IsFlag (codes "individual") rows true

-- the explanation is shown as the flags say
pub record IsShownBy (rows : List Row) (shown : Shown) : Type 0 where
  pub graph : IsFlag (codes "dot") rows shown.graph
  pub reached : IsFlag (codes "reached") rows shown.reached
  pub axioms : IsFlag (codes "axioms") rows shown.axioms

-- whether names are spelled short
abbrev pub is_short : Spelling → Bool
is_short Full = false
is_short Short = true

-- names are spelled short where the flag stands, and else in full
abbrev pub IsSpelled : List Row → Spelling → Type 0
IsSpelled rows spelling = IsFlag (codes "short") rows (is_short spelling)

-- the question is what the command's name, the words in their places and the flags say
abbrev pub IsQuestion : Text → List Row → Question → Type 0
IsQuestion name rows (Names related class) = (name ≡ related_word related) × (first_of (codes "CLASS") rows ≡ Some class.now)
IsQuestion name rows (Groups side class) = (name ≡ side_word side) × (first_of (codes "CLASS") rows ≡ Some class.now)
IsQuestion name rows (Why asked class shown) = (name ≡ codes "explain") × IsAsked rows asked × (first_of (codes "SUPER") rows ≡ Some class.now) × IsShownBy rows shown
IsQuestion name rows Unsatisfiable = name ≡ codes "unsatisfiable"
IsQuestion name rows (Types individual) = (name ≡ codes "types") × (first_of (codes "INDIVIDUAL") rows ≡ Some individual.now) × IsFlag (codes "direct") rows false
IsQuestion name rows (DirectTypes individual) = (name ≡ codes "types") × (first_of (codes "INDIVIDUAL") rows ≡ Some individual.now) × IsFlag (codes "direct") rows true
IsQuestion name rows (Lacks asked class) = (name ≡ codes "lacks") × IsAsked rows asked × (first_of (codes "SUPER") rows ≡ Some class.now)

-- the command is what its name and its matches say
abbrev pub IsCommand : Text → List Row → Command → Type 0
IsCommand name rows (Classify paths format) = (name ≡ codes "classify") × ArePaths rows paths × IsFormat rows format
IsCommand name rows (Check paths) = (name ≡ codes "check") × ArePaths rows paths
IsCommand name rows (Convert conversion) = (name ≡ codes "convert") × IsConversion rows conversion
IsCommand name rows (Restrict document output) = (name ≡ codes "restrict") × (first_of (codes "DOC") rows ≡ Some document.now) × (first_of (codes "OUT") rows ≡ Some output.now)
IsCommand name rows (Infer document output) = (name ≡ codes "infer") × (first_of (codes "DOC") rows ≡ Some document.now) × (first_of (codes "OUT") rows ≡ Some output.now)
IsCommand name rows (Ask document question spelling) = (first_of (codes "DOC") rows ≡ Some document.now) × IsQuestion name rows question × IsSpelled rows spelling
IsCommand name rows (Query document expression spelling) =
    (name ≡ codes "query") × (first_of (codes "DOC") rows ≡ Some document.now) × (first_of (codes "EXPRESSION") rows ≡ Some expression.now) × IsSpelled rows spelling
IsCommand name rows (Session document) = (name ≡ codes "session") × (first_of (codes "DOC") rows ≡ Some document.now)

-- the path of the document of a command
abbrev pub document_of : Command → Text
document_of (Classify paths number) = paths.document.now
document_of (Check paths) = paths.document.now
document_of (Convert conversion) = conversion.document.now
document_of (Restrict document output) = document.now
document_of (Infer document output) = document.now
document_of (Ask document question spelling) = document.now
document_of (Query document expression spelling) = document.now
document_of (Session document) = document.now

-- a check, a conversion and a restriction draw no facts
abbrev pub draws_facts : Command → Bool
draws_facts (Check paths) = false
draws_facts (Convert conversion) = false
draws_facts (Restrict document output) = false
draws_facts command = true

-- how many facts may be drawn: what the option says. A command that draws none has no such option: its limit is the greatest
abbrev pub IsLimitOfFacts : (draws : Bool) → List Row → ℕ → Type 0
IsLimitOfFacts false rows limit = limit ≡ most_facts
IsLimitOfFacts true rows limit = IsLimit (codes "max-facts") most_facts rows limit

-- the version is the one whose number the option says
abbrev pub IsVersion : List Row → Version → Type 0
IsVersion rows version = IsNumber (codes "profile") rows (version_number version)

-- the limits are those of the command's options
pub record AreLimits (rows : List Row) (command : Command) (limits : Limits) : Type 0 where
  pub bytes : IsLimit (codes "max-bytes") most_bytes rows limits.max_bytes
  pub facts : IsLimitOfFacts (draws_facts command) rows limits.max_facts
  pub version : IsVersion rows limits.version

-- whether a command can be asked to tell its progress
abbrev pub tells_progress : Command → Bool
tells_progress (Classify paths format) = true
tells_progress (Check paths) = true
tells_progress (Session document) = true
tells_progress command = false

-- whether progress is told: where the flag stands. A command that has no such flag tells none
abbrev pub IsTelling : (tells : Bool) → List Row → Bool → Type 0
IsTelling false rows told = told ≡ false
IsTelling true rows told = IsFlag (codes "progress") rows told

-- whether lines and columns are told: where the flag stands, which every command has
abbrev pub IsLining : List Row → Bool → Type 0
IsLining rows told = IsFlag (codes "lines") rows told

-- the task is what a command's name and its matches say
pub record IsTask (name : Text) (rows : List Row) (task : Task) : Type 0 where
  pub command : IsCommand name rows task.command
  pub limits : AreLimits rows task.command task.limits
  pub progress : IsTelling (tells_progress task.command) rows task.progress
  pub lines : IsLining rows task.lines

-- there is a command, and the task is what it says
pub record NamesTask (entered : Option (Text × List Row)) (task : Task) : Type 0 where
  pub name : Text
  pub rows : List Row
  pub found : entered ≡ Some (name, rows)
  pub is : IsTask name rows task

-- the task that clap's function of the program's commands gives for the words
abbrev pub IsTaskOf : List Text → Task → Type 0
IsTaskOf words task = NamesTask (subcommand_of elc_app words) task

-- an answer that has the property, or none where no value has it
abbrev pub Finds : {X : Type 0} → (X → Type 0) → Option X → Type 0
Finds {X} P None = (x : X) → P x → ⊥
Finds P (Some x) = P x

-- the words ask for the version: this alone is what clap's function of the faults gives for them
abbrev pub AskForVersion : List Text → Type 0
AskForVersion words = fault_of elc_app words ≡ DisplayVersion ∷ []

-- the words give the task, and do not ask for the version, which is told only where they ask for it and are not taken
abbrev pub Gives : List Text → Invocation → Type 0
Gives words (invocations.Task task) = IsTaskOf words task × ¬ AskForVersion words
Gives words invocations.Version = ¬ (takes elc_app words ≡ true) × IsAmong DisplayVersion (fault_of elc_app words)

-- a line is refused only where clap's function does not take the words, or gives no task for them, and where they do not ask for the version
abbrev pub Refuses : List Text → LineFault → Type 0
Refuses words (Line error) = (takes elc_app words ≡ true → (task : Task) → IsTaskOf words task → ⊥) × ¬ AskForVersion words
Refuses words Memory = ⊤

-- what clap's error says of words: that they ask for the version, that there is no memory, or what the error tells
abbrev pub IsToldBy : Error → Result Invocation LineFault → Type 0
IsToldBy error (Ok (invocations.Task task)) = ⊥
IsToldBy error (Ok invocations.Version) = kind_of error ≡ DisplayVersion
IsToldBy error (Err (Line told)) = ¬ (kind_of error ≡ OutOfMemory) × ¬ (kind_of error ≡ DisplayVersion)
IsToldBy error (Err Memory) = kind_of error ≡ OutOfMemory
