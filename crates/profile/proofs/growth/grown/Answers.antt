use Rattle.std.proofs.Common.{refl}
use Rattle.profile.proofs.Takings.{grown, not_grown}
use Rattle.profile.proofs.growth.grown.Goals as goal

pub returns-in-Ok-clause-added : goal.returns-in-Ok-clause-added
returns-in-Ok-clause-added c =
    grown c.args.version c.args.trees.now c.args.trees.now refl c.of_growth-reader.result c.take_all-taken.new.reader c.in-Ok.ensures.taken c.args.ontology c.of_growth-reader.ensures.none c.end-answer.result.0 c.end-answer.result.1 c.end-answer.ensures.added

pub returns-in-Ok-clause-refused : goal.returns-in-Ok-clause-refused
returns-in-Ok-clause-refused c =
    not_grown c.args.version c.args.trees.now c.args.trees.now refl c.of_growth-reader.result c.take_all-taken.new.reader c.in-Ok.ensures.taken c.args.ontology c.of_growth-reader.ensures.none c.end-answer.result.0 c.end-answer.ensures.not_added
