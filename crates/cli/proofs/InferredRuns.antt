-- What a run of `infer` leaves, and which words ask for one.
use Rattle.std.proofs.Common.{◌≡◌, ◌≤◌, ℕ, List, Bool, Option, Some, None, Result, Ok, Err, true, false, ap, inl, inr, length, refl, subst, sym, ◌∙◌}
use Rattle.std.specs.Borrow.{Bor}
use Rattle.lemmas.proofs.Choices.{one_value}
use Rattle.axioms.specs.Ontology.{Ontology}
use Rattle.clap.specs.Words.{Row, Text}
use Rattle.classification.specs.declared.classification.Summary.{Summary}
use Rattle.receiving.proofs.NotDone.{document_not_done, told_not_done}
use Rattle.cli.proofs.FilesAccepted.{IsBehind, IsNamed, by_words, is_infer, named, refused_told}
use Rattle.receiving.proofs.ByLines.{over}
use Rattle.receiving.proofs.OneTask.{one_version}
use Rattle.restricting.proofs.RestrictedRuns.{printed_done}
use Rattle.receiving.specs.Files.{Store}
use Rattle.receiving.specs.HeldTexts.{Holds}
use Rattle.telling.specs.Printing.{BehindProgress, Output}
use Rattle.cli.specs.Messages.{summary_text}
use Rattle.cli.specs.Runs.{IsInferMade, IsInferRun, IsInferTold, IsLinedRun, reads_before}
use Rattle.cli.specs.Theorems.{InferredAxiomsSayTheSame, IsInferredInto}
use Rattle.cli.specs.WordsOfRuns.{AreSameLimits, WordsOfInferInfer}
use Rattle.cli.specs.declared.fault.InferenceFault.{InferenceFault}
use Rattle.cli.specs.declared.fault.InferenceFault.TheVariants.{Run, Unwritten}
use Rattle.command_line.proofs.Numbers.{one_number}
use Rattle.command_line.specs.CommandLine.{IsCommand, IsLimitOfFacts, IsTaskOf, IsTelling, draws_facts, tells_progress}
use Rattle.command_line.specs.declared.tasks.Command.{Command}
use Rattle.command_line.specs.declared.tasks.Command.TheVariants.{Infer}
use Rattle.command_line.specs.declared.tasks.Task.{Task}
use Rattle.profile.specs.Documents.{ReadsAs}
use Rattle.profile.specs.Faults.{ReadsKnown}
use Rattle.program.specs.Status.{code_of}
use Rattle.program.specs.declared.limits.Limits.{Limits}
use Rattle.program.specs.declared.status.Status.TheVariants as statuses
use Rattle.program.specs.declared.version.Version.{Version}
use Rattle.telling.specs.Progress.{IsProgress}
use Rattle.session.specs.Run.{question_fault}
use Rattle.session.specs.declared.run_fault.RunFault.{RunFault}
use Rattle.session.specs.declared.run_fault.RunFault.TheVariants.{Document, Limit, Memory}
use Rattle.speech.specs.Messages.{question_status}
use Rattle.system_files.specs.Contents.{Content, IsThere}

-- ---- the run that the words ask for

infer_run : (lines told : Bool) (name : Text) (rows : List Row) (document output : Bor (List ℕ)) (command : Command) (limits : Limits) (s : Store) (content content' : Content) (old new : Output) (status : ℕ) → IsCommand name rows (Infer document output) → IsCommand name rows command → IsLinedRun lines told command limits s content content' old new status → IsInferRun document.now output.now limits s content content' old new status
infer_run lines told name rows document output command limits s content content' old new status is is' run =
    let found = is_infer name rows command is.0 is' in
    let Of : Command → Type 0 = λ c. IsCommand name rows c in
    let Run : Command → Type 0 = λ c. IsLinedRun lines told c limits s content content' old new status in
    let here : IsCommand name rows (Infer found.0 found.1) = subst Of found.2 is' in
    let P : List ℕ → Type 0 = λ path. IsInferRun path found.1.now limits s content content' old new status in
    let Q : List ℕ → Type 0 = λ path. IsInferRun document.now path limits s content content' old new status in
    subst Q (one_value _ _ _ here.2 is.2) (subst P (one_value _ _ _ here.1 is.1) (subst Run found.2 run))

-- ---- what it leaves

-- the bytes of a file that is there, which read as the ontology
read_bytes : (version : Version) (known : Bool) (held : Option (List ℕ)) (most : ℕ) (o : Ontology) → known ≡ true → IsThere known held → ReadsKnown version held most o → (bytes : List ℕ) × (held ≡ Some bytes) × ReadsAs version bytes o × (length bytes ≤ most)
read_bytes version false held most o is_known there reads = absurd (cc)
read_bytes version true None most o is_known there reads = absurd (cc)
read_bytes version true (Some bytes) most o is_known there reads = (bytes, refl, reads.0, reads.1)

-- a fault has another status than 0
run_not_done : (fault : RunFault) → code_of statuses.Done ≡ code_of (question_status (question_fault fault)) → ⊥
run_not_done (Document fault) e = document_not_done fault e
run_not_done Limit e = cc
run_not_done Memory e = cc

finished : (document output : List ℕ) (limits : Limits) (s : Store) (content content' : Content) (old new : Output) (answer : Result Summary InferenceFault) → s.is_known ≡ true → IsInferMade document output limits s content content' answer → IsInferTold document output limits answer old new (code_of statuses.Done) → IsInferredInto limits.version limits.max_bytes limits.max_facts (content document) (content' output) old.out new.out
finished document output limits s content content' old new (Ok summary) known made told =
    let text = made.answered.0 in
    let is = made.answered.1 in
    let there = read_bytes limits.version s.is_known (content document) limits.max_bytes is.ontology known made.blames.0 is.reads in
    let H : Bool → Type 0 = λ k. Holds k (content' output) text in
    record {
      bytes = there.0;
      held_is = there.1;
      within = there.3;
      ontology = is.ontology;
      reads = there.2;
      summary = summary;
      few = is.within;
      text = text;
      text_is = subst H known made.answered.2;
      inferred_is = is.inferred_is;
      told = printed_done old.out new.out (summary_text summary) told.0;
    }
finished document output limits s content content' old new (Err (Run fault)) known made told = absurd (told_not_done old.err new.err _ (question_status (question_fault fault)) (run_not_done fault) told.1)
finished document output limits s content content' old new (Err Unwritten) known made told = absurd (told_not_done old.err new.err _ statuses.File (λ e. cc) told.1)

pub inferred_runs : InferredAxiomsSayTheSame
inferred_runs document output limits s content content' old new known run =
    (finished document output limits s content content' old new run.answer known run.made run.told, run.made.others)

-- the run that the words ask for, behind its progress
abbrev IsAskedInfer : (document output : List ℕ) → Task → Store → (content content' : Content) → (old new : Output) → (status : ℕ) → Type 0
IsAskedInfer document output task s content content' old new status =
    BehindProgress task.progress old (λ begun. (limits : Limits) × AreSameLimits limits task.limits × IsInferRun document output limits s content content' begun new status)

inferred_behind : (words : List Text) (task other : Task) (document output : Bor (List ℕ)) (s : Store) (content content' : Content) (old new : Output) (status : ℕ) (of' : IsTaskOf words other) → IsNamed of'.name of'.rows (Infer document output) task → IsBehind other s content content' old new status → IsAskedInfer document.now output.now task s content content' old new status
inferred_behind words task other document output s content content' old new status of' here behind =
    let made = infer_run other.lines other.progress of'.name of'.rows document output other.command other.limits s content content' behind.begun new status here.is of'.is.command behind.holds in
    let infers = (is_infer of'.name of'.rows other.command here.is.0 of'.is.command).2 in
    let R : Bool → Type 0 = λ tells. IsTelling tells of'.rows other.progress in
    let same : other.progress ≡ task.progress = subst R (ap tells_progress infers) of'.is.progress ∙ sym here.progress in
    let Q : Bool → Type 0 = λ told. IsProgress told old.err behind.begun.err in
    let U : Bool → Type 0 = λ draws. IsLimitOfFacts draws of'.rows other.limits.max_facts in
    let draws : draws_facts other.command ≡ true = ap draws_facts infers in
    let facts = subst U draws of'.is.limits.facts in
    let same_limits : AreSameLimits other.limits task.limits = record {
      bytes = one_number _ _ _ _ of'.is.limits.bytes.number here.limits.bytes.number;
      facts = one_number _ _ _ _ facts.number here.limits.facts.number;
      version = one_version _ _ _ of'.is.limits.version here.limits.version;
    } in
    record { begun = behind.begun; unprinted = behind.unprinted; progress = subst Q same behind.progress; holds = (other.limits, same_limits, made) }

-- the words that ask for it
pub words_infer : WordsOfInferInfer
words_infer words task document output s content content' old new status of is taken (inl run) =
    let other = run.0 in
    let of' = run.1 in
    let here = named words task other (Infer document output) of' of is in
    let same : (lines : Bool) → reads_before lines other.command ≡ lines = λ lines. ap (λ (c : Command). reads_before lines c) (is_infer of'.name of'.rows other.command here.is.0 of'.is.command).2 in
    inl (over task.lines document.now task.limits.version task.limits.max_bytes s content content' old new status (IsBehind other s content content' old new status) (IsAskedInfer document.now output.now task s content content' old new status)
    (inferred_behind words task other document output s content content' old new status of' here) (by_words words task other (Infer document output) of' s content content' old new status _ here same run.2))
words_infer words task document output s content content' old new status of is taken (inr (inl told)) = absurd (told.0.0 taken)
words_infer words task document output s content content' old new status of is taken (inr (inr run)) = inr (run.2, refused_told words task run.0 old.err new.err status of taken run.1 run.3)
