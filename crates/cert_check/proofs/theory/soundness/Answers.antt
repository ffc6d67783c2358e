use Rattle.cert_check.proofs.Derivations.{follows_keeps_truth, lines_true}
use Rattle.cert_check.proofs.Headline.{acceptable_says}
use Rattle.cert_check.proofs.Determined.{accepted_once}
use Rattle.cert_check.proofs.Listings.{listings_agree}
use Rattle.cert_check.proofs.theory.soundness.Goals as goal

pub returns : goal.returns
returns c = record {
  rules = follows_keeps_truth;
  lines = lines_true;
  says = acceptable_says;
  determined = accepted_once;
  listings = listings_agree;
}
