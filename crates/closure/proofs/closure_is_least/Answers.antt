use Rattle.std.proofs.Common.{◌≡◌, true}
use Rattle.closure.proofs.Least.{closed, least}
use Rattle.closure.proofs.closure_is_least.Goals as goal

pub returns : goal.returns
returns c = record {
  closed = closed;
  least = λ o asked is_there. least o asked (λ f. is_there f ≡ true);
}
