use Rattle.std.proofs.Common.{Bool, ◌&&◌, not, refl}
use Rattle.number_sets.specs.Words.{without_bits}
use Rattle.number_sets.proofs.Bits.{minus_bit}
use Rattle.number_sets.proofs.Rows.{as_many, rows_combined}
use Rattle.number_sets.proofs.row.Row.minus.Goals as goal

pub subtract-requires : goal.subtract-requires
subtract-requires c =
    as_many c.self.invariant c.other.invariant c.self.view_is c.other.view_is c.requires refl c.as_slice.ensures

pub invariant_of-self : goal.invariant_of-self
invariant_of-self c =
    let all =
    rows_combined (λ (a b : Bool). a && not b) refl without_bits minus_bit c.self.invariant c.other.invariant c.self.view_is c.other.view_is c.requires refl c.as_slice.ensures
    c.subtract.ensures.len c.subtract.ensures.each refl in
    all.row

pub returns : goal.returns
returns c =
    let all =
    rows_combined (λ (a b : Bool). a && not b) refl without_bits minus_bit c.self.invariant c.other.invariant c.self.view_is c.other.view_is c.requires refl c.as_slice.ensures
    c.subtract.ensures.len c.subtract.ensures.each refl in
    record { len = all.len; members = all.members }
