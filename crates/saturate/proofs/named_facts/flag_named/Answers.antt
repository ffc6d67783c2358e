use Rattle.std.proofs.lemmas.Result.{on_ok_weaker}
use Rattle.saturate.proofs.Flagging.{named_too, none_named}
use Rattle.saturate.proofs.named_facts.flag_named.Goals as goal

pub returns-in-Some-clause-ok : goal.returns-in-Some-clause-ok
returns-in-Some-clause-ok c = on_ok_weaker c.flag_all.result (named_too c.args.form c.in-Some.class c.class_named.result c.args.facts.now.facts c.class_named.ensures c.in-Some.is) c.flag_all.ensures.ok

pub returns-in-None-clause-ok : goal.returns-in-None-clause-ok
returns-in-None-clause-ok c = none_named c.args.form c.class_named.result c.args.facts.now.facts c.args.flags.now c.class_named.ensures c.in-None.is
