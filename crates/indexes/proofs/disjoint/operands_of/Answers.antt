use Rattle.std.proofs.Common.{◌++◌, take, ap, sym, ◌∙◌, arith}
use Rattle.indexes.specs.Disjoint.{operands_from, operands_of_list}
use Rattle.indexes.proofs.Operands.{next_list}
use Rattle.indexes.proofs.disjoint.operands_of.Goals as goal

pub loop-list-preserved : goal.loop-list-preserved
loop-list-preserved c =
    let lists = c.args.lists.now in
    let n = c.loop-list.list in
    record {
      operands = c.in_ok-add_list.ensures.added ∙ ap (λ old. old ++ operands_of_list n c.at.result.now) c.loop-list.invariant.operands
          ∙ ap (λ more. operands_from 0 (take n lists) ++ operands_of_list n more) c.at.ensures ∙ sym (next_list lists n (omega (arith, c.loop-list-test.true, c.len-list-end.ensures)));
      few = c.in_ok-add_list.ensures.few;
    }
