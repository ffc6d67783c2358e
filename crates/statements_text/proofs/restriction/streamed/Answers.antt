use Rattle.std.proofs.Common.{subst}
use Rattle.program.specs.declared.version.Version.{Version}
use Rattle.statements_text.specs.Restricting.{TakesAll}
use Rattle.statements_text.proofs.Taking.{text_taken}
use Rattle.statements_text.proofs.restriction.streamed.Goals as goal

pub returns : goal.returns
returns c =
    let left = c.in_ok-trees.trees in
    let made = c.take_all.new.restricting in
    let all = subst (λ (v : Version). TakesAll v left made) c.in-Ok.ensures.version_is c.in_ok-take_all.ensures in
    text_taken c.args.version c.args.text.now left made c.utf8.text c.in_ok-trees.ensures all
