use Rattle.indexes.proofs.Led.{led_first}
use Rattle.indexes.proofs.indexed_problem.listed_anew.Goals as goal

pub invariant_of-result : goal.invariant_of-result
invariant_of-result c = record {
  listed = c.in_ok-disjoint.ensures;
  index = c.in_ok-index.ensures.index;
  alone = led_first _ c.args.forms c.in_ok-index.index.alone c.in_ok-alone.alone c.in_ok-index.ensures.index.listed.alone c.in_ok-index.ensures.whole.alone c.in_ok-alone.ensures.shared c.in_ok-alone.ensures.end c.in_ok-alone.ensures.changed;
  fillers = led_first _ c.args.forms c.in_ok-index.index.fillers c.in_ok-fillers.fillers c.in_ok-index.ensures.index.listed.fillers c.in_ok-index.ensures.whole.fillers c.in_ok-fillers.ensures.shared c.in_ok-fillers.ensures.end c.in_ok-fillers.ensures.changed;
}
