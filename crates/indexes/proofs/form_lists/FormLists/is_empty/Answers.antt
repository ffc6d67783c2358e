use Rattle.std.proofs.Common.{◌==◌, ℕ, List, length, ap, sym, ◌∙◌}
use Rattle.std.proofs.lemmas.Bool.{false≢true}
use Rattle.indexes.specs.declared.keys.Key.{Key}
use Rattle.indexes.proofs.Putting.{none_changed}
use Rattle.indexes.proofs.form_lists.FormLists.is_empty.Goals as goal

pub returns-else-is_empty : goal.returns-else-is_empty
returns-else-is_empty c = (
  λ e. absurd (false≢true (sym c.if-is_empty.false ∙ e)),
  λ none. c.is_empty.ensures ∙ ap (λ (cs : List (Key × List ℕ)). length cs == 0) (c.as_slice.ensures.value ∙ none_changed c.args.self.now none),
)
