use Rattle.std.proofs.Common.{◌≡◌, ◌↔◌, ℕ, Bool, true, false, not, refl, subst, arith}
use Rattle.facts.specs.Closure.{Problem}
use Rattle.indexes.specs.Keys.{by_linked_first}
use Rattle.indexes.specs.FormsUnderKeys.{IsUnder}
use Rattle.indexes.specs.declared.keys.Key.{Key}
use Rattle.indexes.proofs.Listing.{unlisted}
use Rattle.indexes.specs.FormIndex.{listed_at}
use Rattle.indexes.proofs.indexed_problem.IndexedProblem.has_links.Goals as goal

turned : (b : Bool) → (not b ≡ false) ↔ (b ≡ true)
turned true = (λ e. refl, λ e. refl)
turned false = (λ e. grind arith, λ e. grind arith)

pub returns : goal.returns
returns c = subst (λ (p : Problem). (not c.is_empty.result ≡ false) ↔ ((k : Key) (n : ℕ) → IsUnder by_linked_first p.forms k n → ⊥)) c.self.view_is
    (let lists = unlisted by_linked_first _ (listed_at c.self.inside.index.linked_first) c.self.invariant.index.listed.linked_first in (
      λ e. lists.0 (c.is_empty.ensures.0 ((turned c.is_empty.result).0 e)),
      λ none. (turned c.is_empty.result).1 (c.is_empty.ensures.1 (lists.1 none)),
    ))
