-- What gave a fact, by the numbers of older facts.
use Rattle.std.specs.Prelude.{◌≡◌, ℕ, List, [], ◌∷◌, slice_get, take, map, if◌then◌else◌, Option, Some, None}
use Rattle.facts.specs.declared.births.Birth.{Birth}
use Rattle.facts.specs.declared.births.Older as code
use Rattle.facts.specs.declared.births.Older.TheVariants as older
use Rattle.facts.specs.declared.contexts.Fact.{Fact}
use Rattle.facts.specs.Closure.{Problem, Gives}

abbrev pub numbers_of : code.Older → List ℕ
numbers_of older.None = []
numbers_of (older.One m) = m.0 ∷ []
numbers_of (older.Two m n) = m.0 ∷ n.0 ∷ []

-- what gave a fact: a condition, the numbers of older facts, and the place of a form, or of a list of what is apart
pub record Reason : Type 0 where
  pub condition : ℕ
  pub older : List ℕ
  pub form : Option ℕ

unfoldable pub reason : Birth → Reason
reason b = record {
  condition = b.condition;
  older = take b.older_count (b.first ∷ b.second ∷ []);
  form = if b.has_form then Some b.form else None;
}

-- the reason gives the fact, from facts that are there
abbrev pub IsBirth : Problem → List Fact → Fact → Reason → Type 0
IsBirth k facts f r = (older : List Fact) × (map (slice_get facts) r.older ≡ map Some older) × Gives k r.condition r.form older f
