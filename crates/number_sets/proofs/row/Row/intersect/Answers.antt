use Rattle.std.proofs.Common.{Bool, ◌&&◌, bit_and, refl}
use Rattle.number_sets.proofs.Bits.{and_bit}
use Rattle.number_sets.proofs.Rows.{as_many, rows_combined}
use Rattle.number_sets.proofs.row.Row.intersect.Goals as goal

pub intersect-requires : goal.intersect-requires
intersect-requires c =
    as_many c.self.invariant c.other.invariant c.self.view_is c.other.view_is c.requires refl c.as_slice.ensures

pub invariant_of-self : goal.invariant_of-self
invariant_of-self c =
    let all =
    rows_combined (λ (a b : Bool). a && b) refl bit_and and_bit c.self.invariant c.other.invariant c.self.view_is c.other.view_is c.requires refl c.as_slice.ensures
    c.intersect.ensures.len c.intersect.ensures.each refl in
    all.row

pub returns : goal.returns
returns c =
    let all =
    rows_combined (λ (a b : Bool). a && b) refl bit_and and_bit c.self.invariant c.other.invariant c.self.view_is c.other.view_is c.requires refl c.as_slice.ensures
    c.intersect.ensures.len c.intersect.ensures.each refl in
    record { len = all.len; members = all.members }
