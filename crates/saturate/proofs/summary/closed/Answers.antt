use Rattle.std.proofs.lemmas.Result.{IfOk-weaker}
use Rattle.saturate.proofs.Naming.{all_named, is_closure}
use Rattle.saturate.proofs.summary.closed.Goals as goal

pub close-requires-clause-forms : goal.close-requires-clause-forms
close-requires-clause-forms c = all_named c.counted-counts.result c.args.forms.now c.counted-counts.ensures.has

pub returns : goal.returns
returns c = IfOk-weaker c.close.result _ _ (λ known is. is_closure c.counted-counts.result c.args.forms.now known c.counted-counts.ensures.has is) c.close.ensures
