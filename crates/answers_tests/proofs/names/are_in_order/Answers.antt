use Rattle.std.proofs.Common.{sym, subst}
use Rattle.axioms.specs.WellFormedness.{AreDistinct}
use Rattle.answers_tests.proofs.names.are_in_order.Goals as goal

pub names_in_order-requires : goal.names_in_order-requires
names_in_order-requires c = subst AreDistinct (sym c.classes.ensures.names) c.well_formed-2.ensures.distinct_classes
