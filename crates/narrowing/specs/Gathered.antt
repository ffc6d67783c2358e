-- The elements that stand in the lines of a listing, line after line.
use Rattle.std.specs.Prelude.{ℕ, List, ◌∷◌, ◌++◌, map}
use Rattle.std.specs.List.{flat_map}
use Rattle.certificate.specs.View.{targets_in}
use Rattle.certificate.specs.declared.listed.ClassRow.{ClassRow}
use Rattle.certificate.specs.declared.listed.PairRow.{PairRow}
use Rattle.certificate.specs.declared.listed.Claim.{Claim}
use Rattle.certificate.specs.declared.listed.Listed.{Listed}

abbrev pub class_elements : List ClassRow → List ℕ
class_elements rows = flat_map (λ row. row.elements.items) rows

abbrev pub pair_elements : List PairRow → List ℕ
pair_elements rows = flat_map (λ row. row.source ∷ targets_in row.targets) rows

abbrev pub claim_elements : List Claim → List ℕ
claim_elements claims = map (λ claim. claim.element) claims

abbrev pub elements_of_lines : Listed → List ℕ
elements_of_lines l = class_elements l.classes.items ++ pair_elements l.pairs.items ++ l.individuals.items ++ claim_elements l.claims.items
