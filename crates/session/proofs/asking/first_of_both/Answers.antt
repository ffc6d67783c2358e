use Rattle.std.proofs.Common.{refl}
use Rattle.session.proofs.Finding.{second_unknown}
use Rattle.session.proofs.asking.first_of_both.Goals as goal

pub returns-then-is_known : goal.returns-then-is_known
returns-then-is_known c = second_unknown c.args.ontology.now c.args.asked c.args.class.now (c.if-is_known.ensures.0 refl) c.requires
