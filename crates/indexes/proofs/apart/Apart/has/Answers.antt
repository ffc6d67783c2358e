use Rattle.std.proofs.Common.{sym, ◌∙◌}
use Rattle.indexes.proofs.Parting.{none_found}
use Rattle.indexes.proofs.apart.Apart.has.Goals as goal

pub returns-else-is_some-clause-no : goal.returns-else-is_some-clause-no
returns-else-is_some-clause-no c = λ no. rw (← c.key_of_class-other.ensures)
    (none_found c.args.self.now.lists.now c.args.self.now.key c.key_of_class-other.result c.list_of.result c.list_of-else-is_some.result (sym c.is_some.ensures ∙ c.if-is_some.false) (sym c.is_some-else-is_some.ensures ∙ no)
    c.list_of.ensures.none c.list_of-else-is_some.ensures.none)
