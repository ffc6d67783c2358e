-- Forms, and what is added to them.
use Rattle.std.specs.Prelude.{◌++◌}
use Rattle.axioms.specs.View.{expr_numbers}
use Rattle.normal_forms.specs.Apart.{joined_lists}
use Rattle.normalise.specs.declared.growth.More.{More}
use Rattle.normalise.specs.Listing.{Listing}

abbrev pub joined : Listing → More → Listing
joined v m = record {
  entries = v.entries ++ m.made.entries;
  apart = joined_lists v.apart m.made.apart.lists;
  disjoint_axioms = v.disjoint_axioms ++ m.made.apart.disjoint_axioms;
  different_axioms = v.different_axioms ++ m.made.apart.different_axioms;
  operands = m.made.operands;
  steps = m.made.steps;
  asked = expr_numbers m.asked.items;
  right = m.right;
  left = m.left;
}
