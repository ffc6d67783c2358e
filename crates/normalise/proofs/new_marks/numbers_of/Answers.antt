use Rattle.std.proofs.Common.{◌++◌, ap, ◌∙◌}
use Rattle.normalise.proofs.Marked.{ascending_once, of_both}
use Rattle.normalise.proofs.new_marks.numbers_of.Goals as goal

pub returns-clause-distinct : goal.returns-clause-distinct
returns-clause-distinct c = ascending_once c.sort_ascending.new.list.items c.sort_ascending.ensures.ascending

pub returns-clause-all : goal.returns-clause-all
returns-clause-all c = λ e h.
    (c.sort_ascending.ensures.same e).1
    (of_both c.args.right.now c.args.left.now c.extend_from_slice-2.new.self.items
    (c.in_ok-extend_from_slice-2.ensures.items ∙ ap (λ l. l ++ c.args.left.now) (c.in_ok-extend_from_slice.ensures.items ∙ ap (λ l. l ++ c.args.right.now) c.in_ok-numbers.ensures.items)) e h)
