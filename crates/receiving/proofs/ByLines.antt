-- Runs over a document that is read before where lines are asked for.
use Rattle.std.proofs.Common.{◌≡◌, ℕ, List, Bool, true, false, inl, inr, subst}
use Rattle.profile.specs.Messages.{status_of}
use Rattle.program.specs.Status.{code_of}
use Rattle.program.specs.declared.status.Status.TheVariants as statuses
use Rattle.program.specs.declared.version.Version.{Version}
use Rattle.receiving.proofs.NotDone.{document_not_done, told_not_done}
use Rattle.receiving.specs.Files.{Store}
use Rattle.receiving.specs.Lines.{RunsByLines}
use Rattle.receiving.specs.Places.{IsLinedText}
use Rattle.system_files.specs.Contents.{Content}
use Rattle.telling.specs.Printing.{Output}

-- a run over a document that is read before, and another over it
pub over : (lines : Bool) (path : List ℕ) (version : Version) (most : ℕ) (s : Store) (content content' : Content) (old new : Output) (status : ℕ) (Run Run' : Type 0) → (Run → Run') → RunsByLines lines path version most s content content' old new status Run → RunsByLines lines path version most s content content' old new status Run'
over false path version most s content content' old new status Run Run' f run = f run
over true path version most s content content' old new status Run Run' f (inl refusal) = inl refusal
over true path version most s content content' old new status Run Run' f (inr run) = inr (run.0, f run.1)

-- the same by other names
pub by_same : (lines lines' : Bool) (path path' : List ℕ) (version version' : Version) (most most' : ℕ) (s : Store) (content content' : Content) (old new : Output) (status : ℕ) (Run : Type 0) → lines ≡ lines' → path ≡ path' → version ≡ version' → most ≡ most' → RunsByLines lines path version most s content content' old new status Run → RunsByLines lines' path' version' most' s content content' old new status Run
by_same lines lines' path path' version version' most most' s content content' old new status Run same_lines same_path same_version same_most run =
    let P : Bool → Type 0 = λ l. RunsByLines l path version most s content content' old new status Run in
    let Q : List ℕ → Type 0 = λ p. RunsByLines lines' p version most s content content' old new status Run in
    let R : Version → Type 0 = λ v. RunsByLines lines' path' v most s content content' old new status Run in
    let S : ℕ → Type 0 = λ n. RunsByLines lines' path' version' n s content content' old new status Run in
    subst S same_most (subst R same_version (subst Q same_path (subst P same_lines run)))

-- a refusal has another status than 0
pub ran : (lines : Bool) (path : List ℕ) (version : Version) (most : ℕ) (s : Store) (content content' : Content) (old new : Output) (Run : Type 0) → RunsByLines lines path version most s content content' old new (code_of statuses.Done) Run → Run
ran false path version most s content content' old new Run run = run
ran true path version most s content content' old new Run (inl refusal) =
    let told = refusal.told in
    absurd (told_not_done old.err new.err (IsLinedText path most told.bytes told.fault) (status_of told.fault) (document_not_done told.fault) told.told)
ran true path version most s content content' old new Run (inr run) = run.1
