-- Where the words name no task.
use Rattle.std.proofs.Common.{◌≡◌, ◌∙◌, ◌⊎◌, inl, inr, List, [], ◌∷◌, Bool, Option, Some, Result, Ok, Err, IfErr, IfOk, refl, subst, sym, true}
use Rattle.std.specs.Prelude.{◌||◌, bytes_eq, codes, not}
use Rattle.std.proofs.lemmas.Option.{same_Some}
use Rattle.clap.specs.Faults.{fault_of}
use Rattle.clap.specs.Kinds.{HasKind, IsAmong}
use Rattle.clap.specs.Values.{kind_of}
use Rattle.clap.specs.Words.{Row, Text, takes}
use Rattle.clap.specs.declared.error.Error.{Error}
use Rattle.clap.specs.declared.error.kind.ErrorKind.{ErrorKind}
use Rattle.clap.specs.declared.error.kind.ErrorKind.TheVariants.{DisplayVersion, OutOfMemory}
use Rattle.command_line.specs.declared.tasks.Command.{Command}
use Rattle.command_line.specs.declared.tasks.Command.TheVariants.{Ask, Check, Classify, Convert, Infer, Query, Restrict, Session}
use Rattle.command_line.specs.declared.tasks.Invocation.{Invocation}
use Rattle.command_line.specs.declared.tasks.Invocation.TheVariants as invocations
use Rattle.command_line.specs.declared.tasks.LineFault.{LineFault}
use Rattle.command_line.specs.declared.tasks.LineFault.TheVariants.{Line, Memory}
use Rattle.command_line.specs.declared.tasks.Task.{Task}
use Rattle.command_line.specs.CommandLine.{AreLimits, Gives, IsCommand, IsLimitOfFacts, IsLining, IsTask, IsTaskOf, IsTelling, IsToldBy, NamesTask, Refuses, draws_facts, elc_app, tells_progress}
use Rattle.program.specs.declared.limits.Limits.{Limits}
use Rattle.program.specs.declared.question.Question.TheVariants.{DirectTypes, Groups, Lacks, Names, Types, Unsatisfiable, Why}
use Rattle.program.specs.declared.question.Related.TheVariants.{Equivalents, Instances, Subclasses, Superclasses}
use Rattle.program.specs.declared.question.Side.TheVariants.{Above, Below}

-- whether a command of that name draws facts
abbrev draws : Text → Bool
draws name = not (bytes_eq name (codes "check") || bytes_eq name (codes "convert") || bytes_eq name (codes "restrict"))

-- whether one of that name can be asked to tell its progress
abbrev tells : Text → Bool
tells name = bytes_eq name (codes "classify") || bytes_eq name (codes "check") || bytes_eq name (codes "session")

-- the name of a command says all this of it
abbrev SaidBy : Text → Command → Type 0
SaidBy name command = (draws_facts command ≡ draws name) × (tells_progress command ≡ tells name)

said_by : (name : Text) (rows : List Row) (command : Command) → IsCommand name rows command → SaidBy name command
said_by name rows (Classify paths format) is = rw is.0 (refl, refl)
said_by name rows (Check paths) is = rw is.0 (refl, refl)
said_by name rows (Convert conversion) is = rw is.0 (refl, refl)
said_by name rows (Restrict document output) is = rw is.0 (refl, refl)
said_by name rows (Infer document output) is = rw is.0 (refl, refl)
said_by name rows (Ask document (Names Superclasses class) spelling) is = rw is.1.0 (refl, refl)
said_by name rows (Ask document (Names Subclasses class) spelling) is = rw is.1.0 (refl, refl)
said_by name rows (Ask document (Names Equivalents class) spelling) is = rw is.1.0 (refl, refl)
said_by name rows (Ask document (Names Instances class) spelling) is = rw is.1.0 (refl, refl)
said_by name rows (Ask document (Groups Above class) spelling) is = rw is.1.0 (refl, refl)
said_by name rows (Ask document (Groups Below class) spelling) is = rw is.1.0 (refl, refl)
said_by name rows (Ask document (Why asked class shown) spelling) is = rw is.1.0 (refl, refl)
said_by name rows (Ask document Unsatisfiable spelling) is = rw is.1 (refl, refl)
said_by name rows (Ask document (Types individual) spelling) is = rw is.1.0 (refl, refl)
said_by name rows (Ask document (DirectTypes individual) spelling) is = rw is.1.0 (refl, refl)
said_by name rows (Ask document (Lacks asked class) spelling) is = rw is.1.0 (refl, refl)
said_by name rows (Query document expression spelling) is = rw is.0 (refl, refl)
said_by name rows (Session document) is = rw is.0 (refl, refl)

-- commands of one name draw facts, or do not
one_draws : (name : Text) (rows : List Row) (c d : Command) → IsCommand name rows c → IsCommand name rows d → draws_facts c ≡ draws_facts d
one_draws name rows c d h k = (said_by name rows c h).0 ∙ sym (said_by name rows d k).0

-- of commands of one name all can be asked to tell their progress, or none
one_tells : (name : Text) (rows : List Row) (c d : Command) → IsCommand name rows c → IsCommand name rows d → tells_progress c ≡ tells_progress d
one_tells name rows c d h k = (said_by name rows c h).1 ∙ sym (said_by name rows d k).1

-- where the command of the name has no word that says whether progress is told there is no task
pub no_telling : (name : Text) (rows : List Row) (entered : Option (Text × List Row)) (command : Command) → entered ≡ Some (name, rows) → IsCommand name rows command → ((told : Bool) → IsTelling (tells_progress command) rows told → ⊥) → (task : Task) → NamesTask entered task → ⊥
no_telling name rows entered command here is none task h =
    let same : (h.name, h.rows) ≡ (name, rows) = same_Some _ _ (sym h.found ∙ here) in
    let P : Text × List Row → Type 0 = λ p. IsTask p.0 p.1 task in
    let asked : IsTask name rows task = subst P same h.is in
    let Q : Bool → Type 0 = λ tells. IsTelling tells rows task.progress in
    none task.progress (subst Q (one_tells name rows task.command command asked.command is) asked.progress)

-- where it has none that says whether lines and columns are told there is none, either
pub no_lining : (name : Text) (rows : List Row) (entered : Option (Text × List Row)) → entered ≡ Some (name, rows) → ((told : Bool) → IsLining rows told → ⊥) → (task : Task) → NamesTask entered task → ⊥
no_lining name rows entered here none task h =
    let same : (h.name, h.rows) ≡ (name, rows) = same_Some _ _ (sym h.found ∙ here) in
    let P : Text × List Row → Type 0 = λ p. IsTask p.0 p.1 task in
    let asked : IsTask name rows task = subst P same h.is in
    none task.lines asked.lines

-- where the command of the name has no limits there is no task
pub no_limits : (name : Text) (rows : List Row) (entered : Option (Text × List Row)) (command : Command) → entered ≡ Some (name, rows) → IsCommand name rows command → ((limits : Limits) → AreLimits rows command limits → ⊥) → (task : Task) → NamesTask entered task → ⊥
no_limits name rows entered command here is none task h =
    let same : (h.name, h.rows) ≡ (name, rows) = same_Some _ _ (sym h.found ∙ here) in
    let P : Text × List Row → Type 0 = λ p. IsTask p.0 p.1 task in
    let asked : IsTask name rows task = subst P same h.is in
    let Q : Bool → Type 0 = λ draws. IsLimitOfFacts draws rows task.limits.max_facts in
    none task.limits (record { bytes = asked.limits.bytes; facts = subst Q (one_draws name rows task.command command asked.command is) asked.limits.facts; version = asked.limits.version })

-- a kind of a list of one is that one
only : (kind : ErrorKind) → IsAmong kind (DisplayVersion ∷ []) → kind ≡ DisplayVersion
only kind (inl is) = is
only kind (inr none) = absurd none

-- where an error is of neither kind the version is not asked for
not_asked : (kinds : List ErrorKind) (kind : ErrorKind) → ¬ (kind ≡ OutOfMemory) → ¬ (kind ≡ DisplayVersion) → (kind ≡ OutOfMemory) ⊎ IsAmong kind kinds → kinds ≡ DisplayVersion ∷ [] → ⊥
not_asked kinds kind memory version (inl is) alone = memory is
not_asked kinds kind memory version (inr is) alone = version (only kind (subst (IsAmong kind) alone is))

-- an error is not of both
not_both : (kind : ErrorKind) → kind ≡ DisplayVersion → kind ≡ OutOfMemory → ⊥
not_both kind is memory =
    let bad : DisplayVersion ≡ OutOfMemory = sym is ∙ memory in
    cc

-- where it is of the version, that is among the kinds that it may have
is_asked : (kinds : List ErrorKind) (kind : ErrorKind) → kind ≡ DisplayVersion → (kind ≡ OutOfMemory) ⊎ IsAmong kind kinds → IsAmong DisplayVersion kinds
is_asked kinds kind is (inl memory) = absurd (not_both kind is memory)
is_asked kinds kind is (inr among) = subst (λ k. IsAmong k kinds) is among

-- what clap's error says of words is what is told of them
pub told : (words : List Text) (error : Error) (result : Result Invocation LineFault) → (takes elc_app words ≡ true → kind_of error ≡ OutOfMemory) → HasKind (fault_of elc_app words) error → IsToldBy error result → IfOk result (Gives words) × IfErr result (Refuses words)
told words error (Ok (invocations.Task task)) passes has is = absurd is
told words error (Ok invocations.Version) passes has is = ((λ taken. not_both (kind_of error) is (passes taken), is_asked (fault_of elc_app words) (kind_of error) is has), tt)
told words error (Err (Line e)) passes has is = (tt, (λ taken. absurd (is.0 (passes taken)), not_asked (fault_of elc_app words) (kind_of error) is.0 is.1 has))
told words error (Err Memory) passes has is = (tt, tt)

-- what is no fault does not ask for the version
pub not_alone : {X : Type 0} {kinds : List X} {x : X} → kinds ≡ [] → kinds ≡ x ∷ [] → ⊥
not_alone none alone =
    let bad = sym none ∙ alone in
    cc

-- words that clap takes, and that are no task, are refused
pub refuses : (words : List Text) (fault : LineFault) → fault_of elc_app words ≡ [] → ((task : Task) → IsTaskOf words task → ⊥) → Refuses words fault
refuses words (Line error) no_fault none = (λ taken. none, not_alone no_fault)
refuses words Memory no_fault none = tt
