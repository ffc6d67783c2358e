-- The texts of the limits are their numbers, written in decimal.
use Rattle.std.proofs.Common.{◌≡◌, refl}
use Rattle.std.specs.Fmt.{decimal, digits}
use Rattle.program.specs.declared.limits.TheConstants.{MOST_BYTES, MOST_BYTES_TEXT, MOST_FACTS, MOST_FACTS_TEXT}

pub bytes_text : MOST_BYTES_TEXT.now ≡ decimal MOST_BYTES
unfolding digits
bytes_text = refl

pub facts_text : MOST_FACTS_TEXT.now ≡ decimal MOST_FACTS
unfolding digits
facts_text = refl
