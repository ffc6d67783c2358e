-- What a session infers that is written into a file.
use Rattle.std.proofs.Common.{◌≡◌, ℕ, List, Bool, Err}
use Rattle.classification.specs.declared.classification.Summary.{Summary}
use Rattle.receiving.proofs.Counted.{IsCounted, some_failed}
use Rattle.receiving.proofs.Stored.{IsLeftBy, sink_begins}
use Rattle.cli.specs.Filing.{IsInferenceFiled}
use Rattle.receiving.specs.HeldTexts.{AreOtherFilesKept}
use Rattle.engine.specs.Saturations.{IsFinished}
use Rattle.telling.specs.Devices.{Device, FailsIn}
use Rattle.session.specs.Inferences.{IsInferred}
use Rattle.session.specs.Sessions.{Opened}
use Rattle.session.specs.declared.fault.WritingFault.TheVariants.{Io}
use Rattle.system_files.specs.Contents.{Content, nothing_taken}

module _ (path : List ℕ) (known : Bool) (s : Opened) (content content' : Content) (before behind : ℕ) (old new : Device) (summary : Summary) (text : List ℕ)
    (finished : IsFinished s.saturation) (is : IsInferred s.ontology summary text) (fresh : old.0 ≡ nothing_taken known) (none : old.1 ≡ 0)
    (closed : IsLeftBy (content path) (content' path) new.0) (counted : IsCounted before behind new.1) (others : AreOtherFilesKept path content content') where
  -- where it failed, the file holds a beginning of it
  pub inference_begun : FailsIn old new text → IsInferenceFiled path known s content content' before behind (Err (Io 1))
  inference_begun fails = record {
    answered = (finished, (summary, text, is, sink_begins known old new (content path) (content' path) text fresh fails closed));
    blames = counted.failed (some_failed old new text none fails);
    others = others;
  }
