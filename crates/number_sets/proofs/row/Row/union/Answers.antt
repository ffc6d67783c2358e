use Rattle.std.proofs.Common.{Bool, ◌||◌, bit_or, refl}
use Rattle.number_sets.proofs.Bits.{or_bit}
use Rattle.number_sets.proofs.Rows.{as_many, rows_combined}
use Rattle.number_sets.proofs.row.Row.union.Goals as goal

pub unite-requires : goal.unite-requires
unite-requires c =
    as_many c.self.invariant c.other.invariant c.self.view_is c.other.view_is c.requires refl c.as_slice.ensures

pub invariant_of-self : goal.invariant_of-self
invariant_of-self c =
    let all =
    rows_combined (λ (a b : Bool). a || b) refl bit_or or_bit c.self.invariant c.other.invariant c.self.view_is c.other.view_is c.requires refl c.as_slice.ensures
    c.unite.ensures.len c.unite.ensures.each refl in
    all.row

pub returns : goal.returns
returns c =
    let all =
    rows_combined (λ (a b : Bool). a || b) refl bit_or or_bit c.self.invariant c.other.invariant c.self.view_is c.other.view_is c.requires refl c.as_slice.ensures
    c.unite.ensures.len c.unite.ensures.each refl in
    record { len = all.len; members = all.members }
