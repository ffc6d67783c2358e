use Rattle.statements_text.proofs.WholeKept.{faultless_kept, kept_stated}
use Rattle.statements_text.proofs.what_is_kept.Goals as goal

pub returns : goal.returns
returns c = record { stated = kept_stated; faultless = faultless_kept }
