-- Sources that are read on.
use Rattle.std.proofs.Common.{List, ◌++◌, ℕ, ◌∙◌, arith, length-append}
use Rattle.std.proofs.KnownBytes.{Consumes-trans}
use Rattle.source_lines.specs.Sources.{SourceState, Gives, IsReadOn}
use Rattle.certificate.specs.TextLines.{Part}
use Rattle.certificate.specs.SourceReading.{Reading, HasRead}

pub gives_more : (a b c : SourceState) (xs ys : List ℕ) → Gives a b xs → Gives b c ys → Gives a c (xs ++ ys)
gives_more a b c xs ys g h = record {
  consumed = Consumes-trans a.left b.left c.left xs ys g.consumed h.consumed;
  fell = omega (arith, g.fell, h.fell, length-append xs ys);
}

-- no read has failed since
pub reads_on : (start : SourceState) (part : Part) (old : Reading) (before after : SourceState)
    → HasRead start part old before → IsReadOn before after → IsReadOn start after
reads_on start part old before after h g =
    let (front, consumed, fell) = g.lost in record {
      lost = (h.read ++ front, Consumes-trans start.left before.left after.left h.read front h.given.consumed consumed, omega (arith, h.given.fell, fell, length-append h.read front));
      unfailed = g.unfailed ∙ h.unfailed;
    }
