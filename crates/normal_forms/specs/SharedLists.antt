-- Lists of which copies share what was there before.
use Rattle.std.specs.Prelude.{ℕ, List, []}
use Rattle.normal_forms.specs.declared.shared_list.Shared.{Shared}
use Rattle.normal_forms.specs.declared.shared_list.Shared.TheVariants as the

-- what is shared, in its order
abbrev pub shared_items : {T : Type 0} → Shared T → List T
shared_items the.Nothing = []
shared_items (the.Items items) = items.value.items

-- the items, in their order, and for how many more there is room
pub record Listed (T : Type 0) : Type 0 where
  pub items : List T
  pub room : ℕ
