use Rattle.std.proofs.Common.{slice_get}
use Rattle.indexes.specs.Keys.{by_kind, by_alone, by_first, by_second, by_filler, by_chain, by_end, by_plain, by_linked_first, by_linked_second, by_denied}
use Rattle.indexes.proofs.Counting.{none_counted}
use Rattle.indexes.proofs.form_counts.nothing_counted.Goals as goal

pub returns : goal.returns
returns c = λ forms. record {
  kinds = none_counted by_kind (slice_get forms) c.new.result c.new.ensures.wholes c.new.ensures.partials;
  alone = none_counted by_alone (slice_get forms) c.new-2.result c.new-2.ensures.wholes c.new-2.ensures.partials;
  first = none_counted by_first (slice_get forms) c.new-3.result c.new-3.ensures.wholes c.new-3.ensures.partials;
  second = none_counted by_second (slice_get forms) c.new-4.result c.new-4.ensures.wholes c.new-4.ensures.partials;
  fillers = none_counted by_filler (slice_get forms) c.new-5.result c.new-5.ensures.wholes c.new-5.ensures.partials;
  chains = none_counted by_chain (slice_get forms) c.new-6.result c.new-6.ensures.wholes c.new-6.ensures.partials;
  ends = none_counted by_end (slice_get forms) c.new-7.result c.new-7.ensures.wholes c.new-7.ensures.partials;
  plain = none_counted by_plain (slice_get forms) c.new-8.result c.new-8.ensures.wholes c.new-8.ensures.partials;
  linked_first = none_counted by_linked_first (slice_get forms) c.new-9.result c.new-9.ensures.wholes c.new-9.ensures.partials;
  linked_second = none_counted by_linked_second (slice_get forms) c.new-10.result c.new-10.ensures.wholes c.new-10.ensures.partials;
  denied = none_counted by_denied (slice_get forms) c.new-11.result c.new-11.ensures.wholes c.new-11.ensures.partials;
}
