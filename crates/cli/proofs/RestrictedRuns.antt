-- Which words ask for a run of `restrict`.
use Rattle.std.proofs.Common.{◌≡◌, ℕ, List, Bool, false, ap, inl, inr, subst, sym, ◌∙◌}
use Rattle.std.specs.Borrow.{Bor}
use Rattle.lemmas.proofs.Choices.{one_value}
use Rattle.clap.specs.Words.{Row, Text}
use Rattle.cli.proofs.FilesAccepted.{IsBehind, by_words, is_restrict, named, one_lining, refused_told}
use Rattle.receiving.proofs.OneTask.{one_version}
use Rattle.receiving.specs.Files.{Store}
use Rattle.telling.specs.Printing.{Output}
use Rattle.cli.specs.Runs.{IsLinedRun, reads_before}
use Rattle.cli.specs.WordsOfRuns.{AreSameLimits, WordsOfRestrictRestrict}
use Rattle.telling.specs.Progress.{IsProgress}
use Rattle.command_line.proofs.Numbers.{one_number}
use Rattle.command_line.specs.CommandLine.{IsCommand, IsLimitOfFacts, IsTelling, draws_facts, tells_progress}
use Rattle.command_line.specs.declared.tasks.Command.{Command}
use Rattle.command_line.specs.declared.tasks.Command.TheVariants.{Restrict}
use Rattle.program.specs.declared.limits.Limits.{Limits}
use Rattle.restricting.specs.Runs.{IsRestrictRun}
use Rattle.system_files.specs.Contents.{Content}

restrict_run : (lines told : Bool) (name : Text) (rows : List Row) (document output : Bor (List ℕ)) (command : Command) (limits : Limits) (s : Store) (content content' : Content) (old new : Output) (status : ℕ) → IsCommand name rows (Restrict document output) → IsCommand name rows command → IsLinedRun lines told command limits s content content' old new status → IsRestrictRun lines document.now output.now limits s content content' old new status
restrict_run lines told name rows document output command limits s content content' old new status is is' run =
    let found = is_restrict name rows command is.0 is' in
    let Of : Command → Type 0 = λ c. IsCommand name rows c in
    let Run : Command → Type 0 = λ c. IsLinedRun lines told c limits s content content' old new status in
    let here : IsCommand name rows (Restrict found.0 found.1) = subst Of found.2 is' in
    let P : List ℕ → Type 0 = λ path. IsRestrictRun lines path found.1.now limits s content content' old new status in
    let Q : List ℕ → Type 0 = λ path. IsRestrictRun lines document.now path limits s content content' old new status in
    subst Q (one_value _ _ _ here.2 is.2) (subst P (one_value _ _ _ here.1 is.1) (subst Run found.2 run))

-- the words that ask for it
pub words_restrict : WordsOfRestrictRestrict
words_restrict words task document output s content content' old new status of is taken (inl run) =
    let other = run.0 in
    let of' = run.1 in
    let here = named words task other (Restrict document output) of' of is in
    let restricts = (is_restrict of'.name of'.rows other.command here.is.0 of'.is.command).2 in
    let unread : (lines : Bool) → reads_before lines other.command ≡ false = λ lines. ap (λ (c : Command). reads_before lines c) restricts in
    let behind : IsBehind other s content content' old new status = by_words words task other (Restrict document output) of' s content content' old new status _ here unread run.2 in
    let L : Bool → Type 0 = λ lines. IsRestrictRun lines document.now output.now other.limits s content content' behind.begun new status in
    let made = subst L (one_lining words task other (Restrict document output) of' here) (restrict_run other.lines other.progress of'.name of'.rows document output other.command other.limits s content content' behind.begun new status here.is of'.is.command behind.holds) in
    let R : Bool → Type 0 = λ tells. IsTelling tells of'.rows other.progress in
    let same : other.progress ≡ task.progress = subst R (ap tells_progress restricts) of'.is.progress ∙ sym here.progress in
    let Q : Bool → Type 0 = λ told. IsProgress told old.err behind.begun.err in
    let U : Bool → Type 0 = λ draws. IsLimitOfFacts draws of'.rows other.limits.max_facts in
    let same_limits : AreSameLimits other.limits task.limits = record {
      bytes = one_number _ _ _ _ of'.is.limits.bytes.number here.limits.bytes.number;
      facts = subst U (ap draws_facts restricts) of'.is.limits.facts ∙ sym here.limits.facts;
      version = one_version _ _ _ of'.is.limits.version here.limits.version;
    } in
    inl (record { begun = behind.begun; unprinted = behind.unprinted; progress = subst Q same behind.progress; holds = (other.limits, same_limits, made) })
words_restrict words task document output s content content' old new status of is taken (inr (inl told)) = absurd (told.0.0 taken)
words_restrict words task document output s content content' old new status of is taken (inr (inr run)) = inr (run.2, refused_told words task run.0 old.err new.err status of taken run.1 run.3)
