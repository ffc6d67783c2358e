-- How many numbers keys have.
use Rattle.std.specs.Prelude.{◌≡◌, ℕ, ◌+◌, ◌≤◌, ◌⊎◌, List, length, slice_get, slice_index, Option, Some, None}
use Rattle.normal_forms.specs.declared.forms.Form.{Form}
use Rattle.indexes.specs.declared.keys.Key.{Key}
use Rattle.indexes.specs.declared.keys.Key.TheVariants.{Whole, Partial}
use Rattle.indexes.specs.declared.key_counts.KeyCounts.{KeyCounts}
use Rattle.indexes.specs.declared.roles.ByRole.{ByRole}
use Rattle.indexes.specs.Roles.{ForEach, ForEachTwo}
use Rattle.indexes.specs.FormsUnderKeys.{numbers_under}
use Rattle.indexes.specs.Lists.{before}

abbrev pub count_at : KeyCounts → Key → ℕ
count_at counts (Whole k) = slice_index counts.wholes.items k
count_at counts (Partial k) = slice_index counts.partials.items k

-- one more of one key
abbrev pub Counts : List ℕ → List ℕ → ℕ → Type 0
Counts old new key = (k : ℕ) → ((k ≡ key → ⊥) × (slice_index new k ≡ slice_index old k)) ⊎ ((k ≡ key) × (slice_index new k ≡ slice_index old k + 1))

-- one more of the key, if there is one
abbrev pub CountsKey : KeyCounts → KeyCounts → Option Key → Type 0
CountsKey old new None = (new.wholes.items ≡ old.wholes.items) × (new.partials.items ≡ old.partials.items)
CountsKey old new (Some (Whole k)) = Counts old.wholes.items new.wholes.items k × (new.partials.items ≡ old.partials.items)
CountsKey old new (Some (Partial k)) = (new.wholes.items ≡ old.wholes.items) × Counts old.partials.items new.partials.items k

-- each key counts what has it and a number below n, and together they are no more
pub record AreCountsOf {X : Type 0} (key : X → Option Key) (there : ℕ → Option X) (n : ℕ) (counts : KeyCounts) : Type 0 where
  pub exact : (k : Key) → count_at counts k ≡ length (numbers_under key there k n)
  pub wholes : (k : ℕ) → before (slice_index counts.wholes.items) k ≤ n
  pub partials : (k : ℕ) → before (slice_index counts.partials.items) k ≤ n

-- together the keys of each kind have fewer than 2^32
pub record AreFew (counts : KeyCounts) : Type 0 where
  pub wholes : before (slice_index counts.wholes.items) (length counts.wholes.items) ≤ 4294967295
  pub partials : before (slice_index counts.partials.items) (length counts.partials.items) ≤ 4294967295

-- one form more, by each key that it has
abbrev pub CountsForm : ByRole KeyCounts → ByRole KeyCounts → Form → Type 0
CountsForm old new form = ForEachTwo (λ key before after. CountsKey before after (key form)) old new

-- the forms with a number below n are counted by each key that they have
abbrev pub AreFormCounts : List Form → ℕ → ByRole KeyCounts → Type 0
AreFormCounts forms n counts = ForEach (λ key by. AreCountsOf key (slice_get forms) n by) counts
