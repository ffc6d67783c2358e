-- What a run of `classify` leaves in files is accepted by a run of `check`; and which runs words ask for.
use Rattle.std.proofs.Common.{◌≡◌, ◌∙◌, ℕ, List, Bool, Option, Result, Ok, Err, Some, true, false, codes, refl, sym, ap, subst, inl, inr}
use Rattle.std.specs.Prelude.{◌||◌, bytes_eq}
use Rattle.std.specs.Borrow.{Bor}
use Rattle.lemmas.proofs.Choices.{one_value}
use Rattle.cert_check.specs.declared.verdict.Verdict.{Verdict}
use Rattle.cert_check.specs.declared.verdict.Verdict.TheVariants.{Accepted}
use Rattle.certificate.specs.declared.format.Format.{Format}
use Rattle.clap.specs.Words.{Row, Text, first_of, takes}
use Rattle.command_line.proofs.Numbers.{one_number}
use Rattle.command_line.specs.CommandLine.{AreLimits, IsCommand, IsLimitOfFacts, IsLining, IsQuestion, IsTaskOf, IsTelling, Refuses, document_of, draws_facts, elc_app, tells_progress}
use Rattle.command_line.specs.declared.tasks.Command.{Command}
use Rattle.command_line.specs.declared.tasks.Command.TheVariants.{Ask, Check, Classify, Convert, Infer, Query, Restrict, Session}
use Rattle.command_line.specs.declared.tasks.FormatNumber.{FormatNumber}
use Rattle.command_line.specs.declared.tasks.LineFault.{LineFault}
use Rattle.command_line.specs.declared.tasks.LineFault.TheVariants as line
use Rattle.command_line.specs.declared.tasks.Paths.{Paths}
use Rattle.command_line.specs.declared.tasks.Task.{Task}
use Rattle.receiving.specs.declared.checking.Checked.{Checked}
use Rattle.receiving.specs.declared.fault.CheckFault.{CheckFault}
use Rattle.cli.proofs.WrittenAccepted.{written_is_accepted}
use Rattle.receiving.specs.Checks.{IsCheckFault}
use Rattle.telling.specs.Devices.{Device}
use Rattle.cli.specs.HeldTexts.{AreApart, HoldTexts}
use Rattle.receiving.specs.Runs.{IsCheckRun, IsCheckTold, IsCheckedFiles, format_of}
use Rattle.cli.specs.Runs.{IsClassifyAnswer, IsClassifyRun, IsClassifyTold, IsLinedRun, reads_before}
use Rattle.receiving.specs.Files.{Store}
use Rattle.telling.specs.Progress.{IsProgress}
use Rattle.telling.specs.Printing.{BehindProgress, Output, IsAnswered}
use Rattle.receiving.specs.Lines.{RunsByLines}
use Rattle.receiving.specs.Messages.{IsLineTold, verdict_status, verdict_text}
use Rattle.cli.specs.Messages.{classify_status}
use Rattle.receiving.specs.Theorems.{AreSamePaths}
use Rattle.cli.specs.Theorems.{IsAcceptedRun, IsDocumentApart, WrittenFilesAreAccepted}
use Rattle.cli.specs.WordsOfRuns.{AreSameLimits, WordsOfCheckCheck, WordsOfClassifyClassify}
use Rattle.session.specs.Classifications.{IsClassified}
use Rattle.session.specs.WrittenTexts.{Texts}
use Rattle.cli.specs.declared.fault.ClassifyFault.{ClassifyFault}
use Rattle.cli.specs.declared.fault.ClassifyFault.TheVariants as classifying
use Rattle.classification.specs.declared.classification.Summary.{Summary}
use Rattle.program.specs.declared.limits.Limits.{Limits}
use Rattle.program.specs.declared.question.Question.{Question}
use Rattle.program.specs.declared.question.Question.TheVariants.{DirectTypes, Groups, Lacks, Names, Types, Unsatisfiable, Why}
use Rattle.program.specs.declared.question.Related.TheVariants.{Equivalents, Instances, Subclasses, Superclasses}
use Rattle.program.specs.declared.question.Side.TheVariants.{Above, Below}
use Rattle.program.specs.Status.{code_of}
use Rattle.program.specs.declared.status.Status.TheVariants as statuses
use Rattle.program.specs.declared.version.Version.{Version}
use Rattle.system_files.specs.Contents.{Content}
use Rattle.receiving.proofs.ByLines.{by_same, over}
use Rattle.receiving.proofs.NotDone.{document_not_done, told_not_done}
use Rattle.receiving.proofs.OneTask.{same_paths, one_version, one_flag, one_format}
use Rattle.receiving.proofs.FilesRight.{checked_texts}

-- ---- a fault has another status than 0

fault_not_done : (fault : ClassifyFault) → code_of statuses.Done ≡ code_of (classify_status fault) → ⊥
fault_not_done (classifying.Document fault) e = document_not_done fault e
fault_not_done classifying.Memory e = cc
fault_not_done classifying.Limit e = cc
fault_not_done (classifying.Io n) e = cc

-- ---- the check of what was written

-- texts that were written are accepted in files that hold them, unless the check is stopped
check_accepted : (paths : Paths) (written version : Version) (format : Format) (facts bytes most : ℕ) (content : Content) (old new : Output) (status : ℕ) (document : List ℕ) (texts : Texts) (summary : Summary) (answer : Result Checked CheckFault) → IsClassified written format bytes facts (Some document) summary texts → content paths.document.now ≡ Some document → content paths.taxonomy.now ≡ Some texts.taxonomy → content paths.instances.now ≡ Some texts.instances → content paths.certificate.now ≡ Some texts.certificate → IsCheckedFiles paths version most content answer → IsCheckTold paths most answer old new status → IsAcceptedRun version most document old new status
check_accepted paths written version format facts bytes most content old new status document texts summary (Ok answer) classified holds taxonomy instances certificate is told =
    let checked = checked_texts version most content paths document texts.taxonomy texts.instances texts.certificate answer.ontology answer.verdict holds taxonomy instances certificate is in
    let accepted : answer.verdict ≡ Accepted = written_is_accepted written version format bytes most facts document texts summary (Ok answer) classified checked in
    let P : Verdict → Type 0 = λ v. IsAnswered old new (verdict_text answer.ontology v) (verdict_status v) status in
    inl (subst P accepted told)
check_accepted paths written version format facts bytes most content old new status document texts summary (Err fault) classified holds taxonomy instances certificate is told =
    let P : Option (List ℕ) → Type 0 = λ d. IsCheckFault version most d fault in
    inr (paths, fault, written_is_accepted written version format bytes most facts document texts summary (Err fault) classified (subst P holds is), told.0, told.1)

-- a run that ended with status 0 has classified the document
answered : (written : Paths) (format : Format) (limits : Limits) (known : Bool) (content content' : Content) (old new : Output) (answer : Result Summary ClassifyFault) → known ≡ true → AreApart written → IsClassifyAnswer written format limits known content content' answer → IsClassifyTold written limits answer old new (code_of statuses.Done) → (summary : Summary) × (texts : Texts) × IsClassified limits.version format limits.max_bytes limits.max_facts (content written.document.now) summary texts × HoldTexts true written texts content'
answered written format limits known content content' old new (Ok summary) is_known apart is told =
    let P : Bool → Type 0 = λ k. HoldTexts k written is.0 content' in
    (summary, is.0, is.1, subst P is_known (is.2 apart))
answered written format limits known content content' old new (Err fault) is_known apart is told = absurd (told_not_done old.err new.err _ (classify_status fault) (fault_not_done fault) told.1)

-- the run of a check on the same paths
runs_accepted : (written checked : Paths) (format : Format) (limits : Limits) (version : Version) (most : ℕ) (s s' : Store) (content content' : Content) (old new old' new' : Output) (status : ℕ) (document : List ℕ) → s.is_known ≡ true → AreSamePaths written checked → AreApart written → IsDocumentApart written → content written.document.now ≡ Some document → IsClassifyRun written format limits s content content' old new (code_of statuses.Done) → IsCheckRun checked version most s' content' old' new' status → IsAcceptedRun version most document old' new' status
runs_accepted written checked format limits version most s s' content content' old new old' new' status document known same apart document_apart holds run check =
    let made = answered written format limits s.is_known content content' old new run.answer known apart run.made.answered run.told in
    let summary = made.0 in
    let texts = made.1 in
    let P : Option (List ℕ) → Type 0 = λ d. IsClassified limits.version format limits.max_bytes limits.max_facts d summary texts in
    let kept = run.made.others written.document.now document_apart.taxonomy document_apart.instances document_apart.certificate in
    check_accepted checked limits.version version format limits.max_facts limits.max_bytes most content' old' new' status document texts summary check.answer (subst P holds made.2)
    (ap content' (sym same.document) ∙ kept ∙ holds) (ap content' (sym same.taxonomy) ∙ made.3.taxonomy) (ap content' (sym same.instances) ∙ made.3.instances) (ap content' (sym same.certificate) ∙ made.3.certificate) check.checked check.told

pub runs_are_accepted : WrittenFilesAreAccepted
runs_are_accepted paths paths' format limits version most s s' content content' old new old' new' status document same apart document_apart known holds run check =
    runs_accepted paths paths' format limits version most s s' content content' old new old' new' status document known same apart document_apart holds run check

-- ---- the words ask for one task

-- whether the name is one of these four
abbrev is_one_of_four : Text → Bool
is_one_of_four name = bytes_eq name (codes "classify") || bytes_eq name (codes "check") || bytes_eq name (codes "restrict") || bytes_eq name (codes "infer")

abbrev is_restriction : Text → Bool
is_restriction name = bytes_eq name (codes "restrict")

abbrev is_inference : Text → Bool
is_inference name = bytes_eq name (codes "infer")

-- that of a question is none of them
asks : (name : Text) (rows : List Row) (question : Question) → IsQuestion name rows question → is_one_of_four name ≡ false
asks name rows (Names Superclasses class) is = ap is_one_of_four is.0
asks name rows (Names Subclasses class) is = ap is_one_of_four is.0
asks name rows (Names Equivalents class) is = ap is_one_of_four is.0
asks name rows (Names Instances class) is = ap is_one_of_four is.0
asks name rows (Groups Above class) is = ap is_one_of_four is.0
asks name rows (Groups Below class) is = ap is_one_of_four is.0
asks name rows (Why asked class shown) is = ap is_one_of_four is.0
asks name rows Unsatisfiable is = ap is_one_of_four is
asks name rows (Types individual) is = ap is_one_of_four is.0
asks name rows (DirectTypes individual) is = ap is_one_of_four is.0
asks name rows (Lacks asked class) is = ap is_one_of_four is.0

-- a command of the name `classify` is a classification
is_classify : (name : Text) (rows : List Row) (command : Command) → name ≡ codes "classify" → IsCommand name rows command → (paths : Paths) × (number : FormatNumber) × (command ≡ Classify paths number)
is_classify name rows (Classify paths number) is is' = (paths, number, refl)
is_classify name rows (Check paths) is is' = let bad : codes "classify" ≡ codes "check" = sym is ∙ is'.0 in absurd (cc)
is_classify name rows (Convert conversion) is is' = let bad : true ≡ false = sym (ap is_one_of_four is) ∙ ap is_one_of_four is'.0 in absurd (cc)
is_classify name rows (Restrict document output) is is' = let bad : false ≡ true = sym (ap is_restriction is) ∙ ap is_restriction is'.0 in absurd (cc)
is_classify name rows (Infer document output) is is' = let bad : false ≡ true = sym (ap is_inference is) ∙ ap is_inference is'.0 in absurd (cc)
is_classify name rows (Ask document question spelling) is is' = let bad : true ≡ false = sym (ap is_one_of_four is) ∙ asks name rows question is'.1 in absurd (cc)
is_classify name rows (Query document expression spelling) is is' = let bad : true ≡ false = sym (ap is_one_of_four is) ∙ ap is_one_of_four is'.0 in absurd (cc)
is_classify name rows (Session document) is is' = let bad : true ≡ false = sym (ap is_one_of_four is) ∙ ap is_one_of_four is'.0 in absurd (cc)

-- what a run of a command says that the words of `classify` ask for
classify_run : (lines told : Bool) (name : Text) (rows : List Row) (paths : Paths) (number : FormatNumber) (command : Command) (limits : Limits) (s : Store) (content content' : Content) (old new : Output) (status : ℕ) → IsCommand name rows (Classify paths number) → IsCommand name rows command → IsLinedRun lines told command limits s content content' old new status → (paths' : Paths) × (format : Format) × AreSamePaths paths paths' × IsClassifyRun paths' format limits s content content' old new status × (format ≡ format_of number)
classify_run lines told name rows paths number command limits s content content' old new status is is' run =
    let found = is_classify name rows command is.0 is' in
    let Of : Command → Type 0 = λ c. IsCommand name rows c in
    let Run : Command → Type 0 = λ c. IsLinedRun lines told c limits s content content' old new status in
    let here : IsCommand name rows (Classify found.0 found.1) = subst Of found.2 is' in
    (found.0, format_of found.1, same_paths rows paths found.0 is.1 here.1, subst Run found.2 run, ap format_of (one_format rows found.1 number here.2 is.2))

-- a command of the name `check` is a check
is_check : (name : Text) (rows : List Row) (command : Command) → name ≡ codes "check" → IsCommand name rows command → (paths : Paths) × (command ≡ Check paths)
is_check name rows (Check paths) is is' = (paths, refl)
is_check name rows (Classify paths number) is is' = let bad : codes "check" ≡ codes "classify" = sym is ∙ is'.0 in absurd (cc)
is_check name rows (Convert conversion) is is' = let bad : true ≡ false = sym (ap is_one_of_four is) ∙ ap is_one_of_four is'.0 in absurd (cc)
is_check name rows (Restrict document output) is is' = let bad : codes "check" ≡ codes "restrict" = sym is ∙ is'.0 in absurd (cc)
is_check name rows (Infer document output) is is' = let bad : false ≡ true = sym (ap is_inference is) ∙ ap is_inference is'.0 in absurd (cc)
is_check name rows (Ask document question spelling) is is' = let bad : true ≡ false = sym (ap is_one_of_four is) ∙ asks name rows question is'.1 in absurd (cc)
is_check name rows (Query document expression spelling) is is' = let bad : true ≡ false = sym (ap is_one_of_four is) ∙ ap is_one_of_four is'.0 in absurd (cc)
is_check name rows (Session document) is is' = let bad : true ≡ false = sym (ap is_one_of_four is) ∙ ap is_one_of_four is'.0 in absurd (cc)

-- what a run of a command says that the words of `check` ask for
check_run : (lines told : Bool) (name : Text) (rows : List Row) (paths : Paths) (command : Command) (limits : Limits) (s : Store) (content content' : Content) (old new : Output) (status : ℕ) → IsCommand name rows (Check paths) → IsCommand name rows command → IsLinedRun lines told command limits s content content' old new status → (paths' : Paths) × AreSamePaths paths paths' × IsCheckRun paths' limits.version limits.max_bytes s content old new status × (tells_progress command ≡ true)
check_run lines told name rows paths command limits s content content' old new status is is' run =
    let found = is_check name rows command is.0 is' in
    let Of : Command → Type 0 = λ c. IsCommand name rows c in
    let Run : Command → Type 0 = λ c. IsLinedRun lines told c limits s content content' old new status in
    let here : IsCommand name rows (Check found.0) = subst Of found.1 is' in
    (found.0, same_paths rows paths found.0 is.1 here.1, subst Run found.1 run, ap tells_progress found.1)

-- a command of the name `restrict` is a restriction
pub is_restrict : (name : Text) (rows : List Row) (command : Command) → name ≡ codes "restrict" → IsCommand name rows command → (document : Bor (List ℕ)) × (output : Bor (List ℕ)) × (command ≡ Restrict document output)
is_restrict name rows (Restrict document output) is is' = (document, output, refl)
is_restrict name rows (Classify paths number) is is' = let bad : true ≡ false = sym (ap is_restriction is) ∙ ap is_restriction is'.0 in absurd (cc)
is_restrict name rows (Check paths) is is' = let bad : codes "restrict" ≡ codes "check" = sym is ∙ is'.0 in absurd (cc)
is_restrict name rows (Convert conversion) is is' = let bad : true ≡ false = sym (ap is_one_of_four is) ∙ ap is_one_of_four is'.0 in absurd (cc)
is_restrict name rows (Infer document output) is is' = let bad : true ≡ false = sym (ap is_restriction is) ∙ ap is_restriction is'.0 in absurd (cc)
is_restrict name rows (Ask document question spelling) is is' = let bad : true ≡ false = sym (ap is_one_of_four is) ∙ asks name rows question is'.1 in absurd (cc)
is_restrict name rows (Query document expression spelling) is is' = let bad : true ≡ false = sym (ap is_one_of_four is) ∙ ap is_one_of_four is'.0 in absurd (cc)
is_restrict name rows (Session document) is is' = let bad : true ≡ false = sym (ap is_one_of_four is) ∙ ap is_one_of_four is'.0 in absurd (cc)

-- a command of the name `infer` is an inference
pub is_infer : (name : Text) (rows : List Row) (command : Command) → name ≡ codes "infer" → IsCommand name rows command → (document : Bor (List ℕ)) × (output : Bor (List ℕ)) × (command ≡ Infer document output)
is_infer name rows (Infer document output) is is' = (document, output, refl)
is_infer name rows (Classify paths number) is is' = let bad : true ≡ false = sym (ap is_inference is) ∙ ap is_inference is'.0 in absurd (cc)
is_infer name rows (Check paths) is is' = let bad : true ≡ false = sym (ap is_inference is) ∙ ap is_inference is'.0 in absurd (cc)
is_infer name rows (Convert conversion) is is' = let bad : true ≡ false = sym (ap is_inference is) ∙ ap is_inference is'.0 in absurd (cc)
is_infer name rows (Restrict document output) is is' = let bad : true ≡ false = sym (ap is_inference is) ∙ ap is_inference is'.0 in absurd (cc)
is_infer name rows (Ask document question spelling) is is' = let bad : true ≡ false = sym (ap is_one_of_four is) ∙ asks name rows question is'.1 in absurd (cc)
is_infer name rows (Query document expression spelling) is is' = let bad : true ≡ false = sym (ap is_inference is) ∙ ap is_inference is'.0 in absurd (cc)
is_infer name rows (Session document) is is' = let bad : true ≡ false = sym (ap is_inference is) ∙ ap is_inference is'.0 in absurd (cc)

-- the words name one command and its matches, of whatever task is asked about them
pub record IsNamed (name : Text) (rows : List Row) (command : Command) (task : Task) : Type 0 where
  pub is : IsCommand name rows command
  pub limits : AreLimits rows command task.limits
  pub progress : IsTelling (tells_progress command) rows task.progress
  pub lines : IsLining rows task.lines

pub named : (words : List Text) (task other : Task) (command : Command) (of : IsTaskOf words other) → IsTaskOf words task → task.command ≡ command → IsNamed of.name of.rows command task
named words task other command of is same =
    let P : Text × List Row → Type 0 = λ p. IsNamed p.0 p.1 command task in
    let Q : Command → Type 0 = λ k. IsNamed is.name is.rows k task in
    subst P (one_value _ _ _ is.found of.found) (subst Q same (record { is = is.is.command; limits = is.is.limits; progress = is.is.progress; lines = is.is.lines }))

-- ---- the run that the words ask for

-- the path of the document is a word of the command
named_document : (name : Text) (rows : List Row) (command : Command) → IsCommand name rows command → first_of (codes "DOC") rows ≡ Some (document_of command)
named_document name rows (Classify paths number) is = is.1.document
named_document name rows (Check paths) is = is.1.document
named_document name rows (Convert conversion) is = is.1.document
named_document name rows (Restrict document output) is = is.1
named_document name rows (Infer document output) is = is.1
named_document name rows (Ask document question spelling) is = is.0
named_document name rows (Query document expression spelling) is = is.1
named_document name rows (Session document) is = is.1

-- whether lines are asked for is one flag of the words
pub one_lining : (words : List Text) (task other : Task) (command : Command) (of' : IsTaskOf words other) → IsNamed of'.name of'.rows command task → other.lines ≡ task.lines
one_lining words task other command of' here = one_flag (codes "lines") of'.rows other.lines task.lines of'.is.lines here.lines

-- the run of a task over a document that is read before where the words ask for lines
pub by_words : (words : List Text) (task other : Task) (command : Command) (of' : IsTaskOf words other) (s : Store) (content content' : Content) (old new : Output) (status : ℕ) (Run : Type 0) → IsNamed of'.name of'.rows command task → ((lines : Bool) → reads_before lines other.command ≡ reads_before lines command) → RunsByLines (reads_before other.lines other.command) (document_of other.command) other.limits.version other.limits.max_bytes s content content' old new status Run → RunsByLines (reads_before task.lines command) (document_of command) task.limits.version task.limits.max_bytes s content content' old new status Run
by_words words task other command of' s content content' old new status Run here same run =
    by_same (reads_before other.lines other.command) (reads_before task.lines command) (document_of other.command) (document_of command) other.limits.version task.limits.version other.limits.max_bytes task.limits.max_bytes s content content' old new status Run
    (same other.lines ∙ ap (λ (lines : Bool). reads_before lines command) (one_lining words task other command of' here))
    (one_value _ _ _ (named_document of'.name of'.rows other.command of'.is.command) (named_document of'.name of'.rows command here.is))
    (one_version _ _ _ of'.is.limits.version here.limits.version) (one_number _ _ _ _ of'.is.limits.bytes.number here.limits.bytes.number) run

-- a run of the command behind its progress
abbrev pub IsBehind : Task → Store → (content content' : Content) → (old new : Output) → (status : ℕ) → Type 0
IsBehind task s content content' old new status = BehindProgress task.progress old (λ begun. IsLinedRun task.lines task.progress task.command task.limits s content content' begun new status)

-- the run of a check that the words ask for
pub checked : (words : List Text) (task other : Task) (paths : Paths) (s : Store) (content content' : Content) (old new : Output) (status : ℕ) → IsTaskOf words task → task.command ≡ Check paths → IsTaskOf words other → IsLinedRun other.lines other.progress other.command other.limits s content content' old new status → (paths' : Paths) × AreSamePaths paths paths' × IsCheckRun paths' task.limits.version task.limits.max_bytes s content old new status × (other.progress ≡ task.progress)
checked words task other paths s content content' old new status of is of' run =
    let here = named words task other (Check paths) of' of is in
    let made = check_run other.lines other.progress _ _ paths other.command other.limits s content content' old new status here.is of'.is.command run in
    let P : ℕ → Type 0 = λ most. IsCheckRun made.0 other.limits.version most s content old new status in
    let Q : Version → Type 0 = λ version. IsCheckRun made.0 version task.limits.max_bytes s content old new status in
    let R : Bool → Type 0 = λ tells. IsTelling tells of'.rows other.progress in
    (made.0, made.1, subst Q (one_version _ _ _ of'.is.limits.version here.limits.version) (subst P (one_number _ _ _ _ of'.is.limits.bytes.number here.limits.bytes.number) made.2), one_flag (codes "progress") of'.rows other.progress task.progress (subst R made.3 of'.is.progress) here.progress)

-- words that clap takes are refused only for want of memory, which is told
pub refused_told : (words : List Text) (task : Task) (fault : LineFault) (old new : Device) (status : ℕ) → IsTaskOf words task → takes elc_app words ≡ true → Refuses words fault → IsLineTold fault old new status → IsLineTold line.Memory old new status
refused_told words task (line.Line error) old new status of taken refuses told = absurd (refuses.0 taken task of)
refused_told words task line.Memory old new status of taken refuses told = told

-- behind its progress
abbrev IsAskedCheck : Paths → Task → Store → Content → (old new : Output) → (status : ℕ) → Type 0
IsAskedCheck paths task s content old new status =
    BehindProgress task.progress old (λ begun. (paths' : Paths) × AreSamePaths paths paths' × IsCheckRun paths' task.limits.version task.limits.max_bytes s content begun new status)

checked_behind : (words : List Text) (task other : Task) (paths : Paths) (s : Store) (content content' : Content) (old new : Output) (status : ℕ) → IsTaskOf words task → task.command ≡ Check paths → IsTaskOf words other → IsBehind other s content content' old new status → IsAskedCheck paths task s content old new status
checked_behind words task other paths s content content' old new status of is of' behind =
    let k = checked words task other paths s content content' behind.begun new status of is of' behind.holds in
    let Q : Bool → Type 0 = λ told. IsProgress told old.err behind.begun.err in
    record { begun = behind.begun; unprinted = behind.unprinted; progress = subst Q k.3 behind.progress; holds = (k.0, k.1, k.2) }

pub words_check : WordsOfCheckCheck
words_check words task paths s content content' old new status of is taken (inl run) =
    let other = run.0 in
    let of' = run.1 in
    let here = named words task other (Check paths) of' of is in
    let same : (lines : Bool) → reads_before lines other.command ≡ lines = λ lines. ap (λ (c : Command). reads_before lines c) (is_check of'.name of'.rows other.command here.is.0 of'.is.command).1 in
    inl (over task.lines paths.document.now task.limits.version task.limits.max_bytes s content content' old new status (IsBehind other s content content' old new status) (IsAskedCheck paths task s content old new status)
    (checked_behind words task other paths s content content' old new status of is of') (by_words words task other (Check paths) of' s content content' old new status _ here same run.2))
words_check words task paths s content content' old new status of is taken (inr (inl told)) = absurd (told.0.0 taken)
words_check words task paths s content content' old new status of is taken (inr (inr run)) = inr (run.2, refused_told words task run.0 old.err new.err status of taken run.1 run.3)

-- the run of a classification that the words ask for, behind its progress
abbrev IsAskedClassify : Paths → FormatNumber → Task → Store → (content content' : Content) → (old new : Output) → (status : ℕ) → Type 0
IsAskedClassify paths number task s content content' old new status =
    BehindProgress task.progress old (λ begun. (paths' : Paths) × (limits : Limits) × AreSamePaths paths paths' × AreSameLimits limits task.limits × IsClassifyRun paths' (format_of number) limits s content content' begun new status)

classified_behind : (words : List Text) (task other : Task) (paths : Paths) (number : FormatNumber) (s : Store) (content content' : Content) (old new : Output) (status : ℕ) (of' : IsTaskOf words other) → IsNamed of'.name of'.rows (Classify paths number) task → IsBehind other s content content' old new status → IsAskedClassify paths number task s content content' old new status
classified_behind words task other paths number s content content' old new status of' here behind =
    let made = classify_run other.lines other.progress of'.name of'.rows paths number other.command other.limits s content content' behind.begun new status here.is of'.is.command behind.holds in
    let R : Bool → Type 0 = λ tells. IsTelling tells of'.rows other.progress in
    let classifies = (is_classify of'.name of'.rows other.command here.is.0 of'.is.command).2 in
    let tells : tells_progress other.command ≡ true = ap tells_progress classifies in
    let same : other.progress ≡ task.progress = one_flag (codes "progress") of'.rows other.progress task.progress (subst R tells of'.is.progress) here.progress in
    let Q : Bool → Type 0 = λ told. IsProgress told old.err behind.begun.err in
    let U : Bool → Type 0 = λ draws. IsLimitOfFacts draws of'.rows other.limits.max_facts in
    let draws : draws_facts other.command ≡ true = ap draws_facts classifies in
    let facts = subst U draws of'.is.limits.facts in
    let same_limits : AreSameLimits other.limits task.limits = record {
      bytes = one_number _ _ _ _ of'.is.limits.bytes.number here.limits.bytes.number;
      facts = one_number _ _ _ _ facts.number here.limits.facts.number;
      version = one_version _ _ _ of'.is.limits.version here.limits.version;
    } in
    let T : Format → Type 0 = λ format. IsClassifyRun made.0 format other.limits s content content' behind.begun new status in
    record { begun = behind.begun; unprinted = behind.unprinted; progress = subst Q same behind.progress; holds = (made.0, other.limits, made.2, same_limits, subst T made.4 made.3) }

pub words_classify : WordsOfClassifyClassify
words_classify words task paths number s content content' old new status of is taken (inl run) =
    let other = run.0 in
    let of' = run.1 in
    let here = named words task other (Classify paths number) of' of is in
    let same : (lines : Bool) → reads_before lines other.command ≡ lines = λ lines. ap (λ (c : Command). reads_before lines c) (is_classify of'.name of'.rows other.command here.is.0 of'.is.command).2 in
    inl (over task.lines paths.document.now task.limits.version task.limits.max_bytes s content content' old new status (IsBehind other s content content' old new status) (IsAskedClassify paths number task s content content' old new status)
    (classified_behind words task other paths number s content content' old new status of' here) (by_words words task other (Classify paths number) of' s content content' old new status _ here same run.2))
words_classify words task paths number s content content' old new status of is taken (inr (inl told)) = absurd (told.0.0 taken)
words_classify words task paths number s content content' old new status of is taken (inr (inr run)) = inr (run.2, refused_told words task run.0 old.err new.err status of taken run.1 run.3)
