use Rattle.std.proofs.Common.{◌≡◌, ◌↔◌, ℕ, take, map, length, true}
use Rattle.axioms.specs.View.{prop_numbers}
use Rattle.certificate.specs.View.{pair_row_of}
use Rattle.listed_model.specs.Members.{holds}
use Rattle.listed_model.specs.Rows.{HasListedPath}
use Rattle.listed_model.proofs.paths.Paths.ends_of.Given as goal

abbrev pub invariant-loop-property : goal.invariant-loop-property
invariant-loop-property l = record {
  len : length l.seen ≡ length l.fn.seen;
  members : (y : ℕ) → (holds l.ends.items y ≡ true) ↔ ((x : ℕ) × (holds l.sources x ≡ true) × HasListedPath (map pair_row_of l.self.steps.rows.now) (prop_numbers (take l.property-index l.self.chain.now)) x y);
}
