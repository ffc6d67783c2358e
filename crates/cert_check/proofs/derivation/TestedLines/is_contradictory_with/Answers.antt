use Rattle.std.proofs.Common.{◌↔◌, ◌||◌, ◌++◌, ◌∷◌, [], Bool, IsTrue, subst}
use Rattle.certificate.specs.View.{line_of}
use Rattle.cert_check.specs.Verdict.{HasContradiction}
use Rattle.cert_check.proofs.OneMore.{contradiction_more}
use Rattle.cert_check.proofs.derivation.TestedLines.is_contradictory_with.Goals as goal

pub returns-else-self : goal.returns-else-self
returns-else-self c = λ lines before.
    let line = line_of c.args.line.now in
    let now = c.is_contradiction.result in
    subst (λ (b : Bool). IsTrue (b || now) ↔ HasContradiction (lines ++ line ∷ [])) c.if-self.false
    (contradiction_more lines line c.args.self.now.is_contradictory now before c.is_contradiction.ensures)
