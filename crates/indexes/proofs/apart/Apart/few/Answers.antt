use Rattle.indexes.proofs.Parting.{all_classes, only_classes}
use Rattle.indexes.proofs.apart.Apart.few.Goals as goal

pub returns-clause-all : goal.returns-clause-all
returns-clause-all c = all_classes c.args.self.now.lists.now c.args.self.now.key c.beside.result c.beside.ensures.all

pub returns-clause-only : goal.returns-clause-only
returns-clause-only c = only_classes c.args.self.now.lists.now c.args.self.now.key c.beside.result c.beside.ensures.only
