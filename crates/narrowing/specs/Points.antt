-- The points of the code's rows, and those that lie within a domain.
use Rattle.std.specs.Prelude.{ℕ, suc, List, [], ◌∷◌, ◌&&◌, filter, nat_lt}
use Rattle.std.specs.List.{flat_map}
use Rattle.certificate.specs.View.{targets_in}
use Rattle.certificate.specs.declared.listed.ClassRow.{ClassRow}
use Rattle.certificate.specs.declared.listed.PairRow.{PairRow}
use Rattle.certificate.specs.declared.listed.Claim.{Claim}
use Rattle.narrowing.specs.Cut.{points_in}

-- those where an interval of the domain begins, but for the first interval
abbrev pub within : ℕ → List ℕ → List ℕ
within domain points = filter (λ x. nat_lt 0 x && nat_lt x domain) points

abbrev pub class_points : List ClassRow → List ℕ
class_points rows = flat_map (λ row. points_in row.elements.items) rows

abbrev pub pair_points : List PairRow → List ℕ
pair_points rows = flat_map (λ row. row.source ∷ suc row.source ∷ points_in (targets_in row.targets)) rows

abbrev pub claim_points : List Claim → List ℕ
claim_points claims = flat_map (λ claim. claim.element ∷ suc claim.element ∷ []) claims
