use Rattle.inference.proofs.joins.is_known.Goals as goal

pub returns : goal.returns
returns c = λ yes. ((c.supers.ensures.exact c.args.property).0 (c.is_listed.ensures.0 yes)).0
