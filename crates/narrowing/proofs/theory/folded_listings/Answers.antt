use Rattle.narrowing.proofs.SameListing.{narrowed_is_folded}
use Rattle.narrowing.proofs.theory.folded_listings.Goals as goal

pub returns : goal.returns
returns c = record { narrowed = narrowed_is_folded }
