-- A file that a run wrote with a sink of its own.
use Rattle.std.proofs.Common.{◌≡◌, ◌∙◌, ◌<◌, ℕ, List, subst}
use Rattle.device.specs.Device.{HasFailed}
use Rattle.receiving.proofs.Counted.{IsCounted}
use Rattle.receiving.proofs.Stored.{IsLeftBy, one_left}
use Rattle.receiving.specs.Files.{Store}
use Rattle.receiving.specs.HeldTexts.{AreOtherFilesKept}
use Rattle.system_files.specs.Contents.{AreKept, Content, IsClosed, nothing_taken}
use Rattle.telling.specs.Devices.{Device}

-- the sink was new, and was closed behind what was written: the file at the path is left by it, no other file is written, and the writes
-- that failed are counted
pub record IsWritten (s : Store) (content content' : Content) (path : List ℕ) (old new : Device) : Type 0 where
  pub fresh : old.0 ≡ nothing_taken s.is_known
  pub working : old.1 ≡ 0
  pub left : IsLeftBy (content path) (content' path) new.0
  pub counted : IsCounted s.failed_before s.failed_behind new.1
  pub others : AreOtherFilesKept path content content'

-- it was made behind these files, where so many writes had failed
pub written : (s : Store) (first made last : Content) (failed : ℕ) (sink_path path : List ℕ) (old new : Device) → old.0 ≡ nothing_taken s.is_known → old.1 ≡ 0 → sink_path ≡ path → AreKept first made → failed ≡ s.failed_before → IsClosed made last sink_path new.0 → (new.1 ≡ 0 → s.failed_behind ≡ failed) → (0 < new.1 → HasFailed failed s.failed_behind) → IsWritten s first last path old new
written s first made last failed sink_path path old new fresh working same kept before closed unfailed fails = record {
  fresh = fresh;
  working = working;
  left = one_left first made last sink_path path new.0 kept same closed;
  counted = record {
    unfailed = λ e. unfailed e ∙ before;
    failed = λ h. let P : ℕ → Type 0 = λ n. HasFailed n s.failed_behind in subst P before (fails h);
  };
  others = λ other no. closed.others other (λ e. no (e ∙ same)) ∙ kept other;
}
