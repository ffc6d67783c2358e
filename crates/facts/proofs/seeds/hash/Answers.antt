use Rattle.std.proofs.Common.{ap, ◌∙◌}
use Rattle.facts.specs.Hashes.{hash_of, mixed_of}
use Rattle.facts.proofs.seeds.hash.Goals as goal

pub returns : goal.returns
unfolding hash_of
returns c = c.mixed.ensures ∙ ap (λ s. mixed_of s c.args.seeds.now.third) c.sum.ensures
