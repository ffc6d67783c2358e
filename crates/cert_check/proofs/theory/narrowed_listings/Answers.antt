use Rattle.cert_check.proofs.SameReasons.{narrowed_agrees_same, narrowed_claims_same, narrowed_reasons_same, folded_reasons_same}
use Rattle.cert_check.proofs.theory.narrowed_listings.Goals as goal

pub returns : goal.returns
returns c = record { agree = narrowed_agrees_same; claims = narrowed_claims_same; reasons = narrowed_reasons_same; folded = folded_reasons_same }
