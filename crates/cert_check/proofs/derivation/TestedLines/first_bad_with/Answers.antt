use Rattle.std.proofs.Common.{◌≡◌, length, arith, ℕ, ◌+◌, ◌++◌, ◌∷◌, [], Option, ap, map, sym, subst, ◌∙◌, Some}
use Rattle.std.proofs.lemmas.Bool.{false≢true}
use Rattle.std.proofs.lemmas.List.{length-map}
use Rattle.certificate.specs.View.{line_of}
use Rattle.cert_check.specs.View.{said_of}
use Rattle.cert_check.specs.Tests.{AreTested}
use Rattle.cert_check.proofs.OneMore.{tested_good, tested_bad, tested_later}
use Rattle.cert_check.proofs.derivation.TestedLines.first_bad_with.Goals as goal

pub returns-in-Some : goal.returns-in-Some
returns-in-Some c = λ lines t.
    let o = c.args.ontology.now in
    let said = map said_of c.args.self.now.said.items in
    tested_later o lines (line_of c.args.line.now) said c.in-Some.number (subst (λ (bad : Option ℕ). AreTested o lines said bad) c.in-Some.is t)

pub returns-then-branch : goal.returns-then-branch
returns-then-branch c = λ lines t.
    let o = c.args.ontology.now in
    let said = map said_of c.args.self.now.said.items in
    tested_good o lines (line_of c.args.line.now) said (subst (λ (bad : Option ℕ). AreTested o lines said bad) c.in_default.is t)
    ((c.in_ok-is_derived.ensures lines (ap (map said_of) c.deref.ensures.value ∙ t.said_is)).0 c.if-branch.true)

pub returns : goal.returns
returns c = λ lines t.
    let o = c.args.ontology.now in
    let line = line_of c.args.line.now in
    let said = map said_of c.args.self.now.said.items in
    let long : length said ≡ c.len.result = omega (arith, c.len.ensures, length-map c.args.self.now.said.items said_of) in
    subst (λ n. AreTested o (lines ++ line ∷ []) (said ++ line.conclusion ∷ []) (Some (n + 1))) long (tested_bad o lines line said (subst (λ (bad : Option ℕ). AreTested o lines said bad) c.in_default.is t)
    (λ d. false≢true (sym c.if-branch.false ∙ (c.in_ok-is_derived.ensures lines (ap (map said_of) c.deref.ensures.value ∙ t.said_is)).1 d)))
