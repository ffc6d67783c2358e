use Rattle.std.proofs.Common.{◌≡◌, true}
use Rattle.facts.proofs.Least.{closed, least}
use Rattle.facts.proofs.Premises.{two_suffice}
use Rattle.facts.proofs.theory.closure.Goals as goal

pub returns : goal.returns
returns c = record { closed = closed; least = λ k is_there. least k (λ g. is_there g ≡ true); two = two_suffice }
