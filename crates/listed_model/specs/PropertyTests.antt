-- What tests have shown of properties.
use Rattle.std.specs.Prelude.{ℕ, List, All}
use Rattle.listed_model.specs.declared.shown.Shown.{Shown}
use Rattle.listed_model.specs.Rows.{ClosedAt, LiesWithin}

-- it holds of the rows
pub record AreShown (rows : List (ℕ × ℕ × List ℕ)) (s : Shown) : Type 0 where
  pub within : All (λ p. LiesWithin rows p.0 p.1) s.within.keys
  pub transitive : All (λ r. (x : ℕ) → ClosedAt rows r x) s.transitive.keys
