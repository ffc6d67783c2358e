use Rattle.std.proofs.Common.{◌≡◌, ◌↔◌, ℕ, List, true, ◌∙◌, subst}
use Rattle.number_sets.specs.Members.{has}
use Rattle.generated_part.specs.Search.{IsFound}
use Rattle.generated_part.proofs.search.reached.Goals as goal

pub returns-clause-exact : goal.returns-clause-exact
returns-clause-exact c = λ x.
    subst (λ (first : List ℕ). (has c.run.new.self.seen x ≡ true) ↔ IsFound first c.args.pairs.now x) (c.deref.ensures.value ∙ c.in_ok-starts.ensures) (c.in_ok-run.ensures.seen x)
