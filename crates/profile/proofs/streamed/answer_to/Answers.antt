use Rattle.profile.proofs.OneByOne.{answered}
use Rattle.profile.proofs.streamed.answer_to.Goals as goal

pub returns-in-Some : goal.returns-in-Some
returns-in-Some c = answered c.args.version c.args.trees.now c.in-Ok.reader c.take_all.new.reader c.finish.result c.in-Ok.ensures c.in-Some.ensures c.finish.ensures.read c.finish.ensures.refused
