use Rattle.std.proofs.Common.{◌≡◌, ℕ, [], sym, ◌∙◌}
use Rattle.std.proofs.lemmas.Bool.{false≢true}
use Rattle.indexes.specs.FormIndex.{at_key, ListsNothing}
use Rattle.indexes.specs.Lists.{list_at}
use Rattle.indexes.specs.declared.key_lists.KeyLists.{KeyLists}
use Rattle.indexes.specs.declared.keys.Key.TheVariants.{Whole, Partial}
use Rattle.indexes.proofs.key_lists.KeyLists.is_empty.Goals as goal

no_lists : (lists : KeyLists) → ((key : ℕ) → list_at lists.wholes.starts.items lists.wholes.numbers.items key ≡ []) → ((key : ℕ) → list_at lists.partials.starts.items lists.partials.numbers.items key ≡ []) → ListsNothing (at_key lists)
no_lists lists wholes partials (Whole k) = wholes k
no_lists lists wholes partials (Partial k) = partials k

pub returns-then-is_empty : goal.returns-then-is_empty
returns-then-is_empty c = (
  λ e. no_lists c.args.self.now (c.is_empty.ensures.0 c.if-is_empty.true) (c.is_empty-then-is_empty.ensures.0 e),
  λ none. c.is_empty-then-is_empty.ensures.1 (λ k. none (Partial k)),
)

pub returns-else-is_empty : goal.returns-else-is_empty
returns-else-is_empty c = (
  λ e. absurd (false≢true (sym c.if-is_empty.false ∙ e)),
  λ none. c.is_empty.ensures.1 (λ k. none (Whole k)),
)
