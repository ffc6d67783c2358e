use Rattle.std.proofs.Common.{false}
use Rattle.number_sets.proofs.Rows.{as_many, each_member}
use Rattle.number_sets.proofs.row.Row.is_disjoint.Goals as goal

pub are_disjoint-requires : goal.are_disjoint-requires
are_disjoint-requires c =
    as_many c.self.invariant c.other.invariant c.self.view_is c.other.view_is c.requires c.as_slice.ensures c.as_slice-2.ensures

pub returns : goal.returns
returns c =
    each_member false c.self.invariant c.other.invariant c.self.view_is c.other.view_is c.as_slice.ensures c.as_slice-2.ensures c.are_disjoint.ensures
