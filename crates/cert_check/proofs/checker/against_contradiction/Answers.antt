use Rattle.std.proofs.lemmas.Result.{IfOk-weaker}
use Rattle.taxonomy.specs.Texts.{inconsistent_taxonomy_text, inconsistent_instances_text}
use Rattle.cert_check.specs.Verdict.{TextsAgainst, ContradictionAgainstShown}
use Rattle.cert_check.proofs.OneMore.{contradiction_shown}
use Rattle.cert_check.proofs.checker.against_contradiction.Goals as goal

pub returns : goal.returns
returns c =
    let t = c.args.taxonomy.now in
    let i = c.args.instances.now in
    let shown = c.args.is_contradictory in
    IfOk-weaker c.against_texts.result (TextsAgainst t i inconsistent_taxonomy_text inconsistent_instances_text) (ContradictionAgainstShown t i shown)
    (λ reason x. contradiction_shown t i shown reason c.if-not-is_contradictory.false x)
    c.against_texts.ensures
