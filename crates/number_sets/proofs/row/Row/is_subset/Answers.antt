use Rattle.std.proofs.Common.{true}
use Rattle.number_sets.proofs.Rows.{as_many, each_member}
use Rattle.number_sets.proofs.row.Row.is_subset.Goals as goal

pub is_within-requires : goal.is_within-requires
is_within-requires c =
    as_many c.self.invariant c.other.invariant c.self.view_is c.other.view_is c.requires c.as_slice.ensures c.as_slice-2.ensures

pub returns : goal.returns
returns c =
    each_member true c.self.invariant c.other.invariant c.self.view_is c.other.view_is c.as_slice.ensures c.as_slice-2.ensures c.is_within.ensures
