use Rattle.std.proofs.Common.{◌≡◌, ◌↔◌, ℕ, map, take, true}
use Rattle.certificate.specs.View.{pair_row_of}
use Rattle.listed_model.specs.Members.{holds}
use Rattle.listed_model.specs.Rows.{Joined}
use Rattle.listed_model.proofs.restriction.Pairs.by_fillers.Given as goal

abbrev pub invariant-loop-filler : goal.invariant-loop-filler
invariant-loop-filler l = (x : ℕ) → (holds l.sources.items x ≡ true) ↔ Joined (map pair_row_of l.self.rows.now) l.fn.property.0 (take l.filler-index l.fillers) x
