use Rattle.indexes.specs.Keys.{class_key}
use Rattle.indexes.proofs.Parting.{none_of_one_list, refused}
use Rattle.indexes.proofs.apart.Apart.is_empty.Goals as goal

pub returns : goal.returns
returns c = λ empty b. none_of_one_list c.args.self.now.lists.now c.args.self.now.key (c.has.ensures.no (refused c.has.result empty)) (class_key b)
