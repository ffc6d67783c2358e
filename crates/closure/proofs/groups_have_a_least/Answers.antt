use Rattle.closure.proofs.Groups.{same_as_least, is_least, same_decided}
use Rattle.closure.proofs.groups_have_a_least.Goals as goal

pub returns : goal.returns
returns c = record {
  least = λ o asked a. (same_as_least o asked a, is_least o asked a);
  decided = same_decided;
}
