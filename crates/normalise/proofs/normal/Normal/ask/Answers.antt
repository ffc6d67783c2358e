use Rattle.std.proofs.Common.{◌≡◌, length, sym, ap, ◌∙◌, subst}
use Rattle.std.proofs.lemmas.List.{length-map}
use Rattle.axioms.specs.View.{axiom_of}
use Rattle.normalise.specs.Growth.{Grows}
use Rattle.normalise.proofs.Grown.{grown_itself}
use Rattle.normalise.proofs.normal.Normal.ask.Goals as goal

pub returns-clause-ok : goal.returns-clause-ok
returns-clause-ok c = λ o n w.
    let many : length c.args.ontology.now.axioms ≡ length c.axioms.result.now = ap length (sym c.axioms.ensures) ∙ length-map c.axioms.result.now axiom_of in
    c.in_ok-self.ensures.forms o n (subst (Grows o c.args.ontology.now) many w)

pub returns-in_err-self-clause-kept : goal.returns-in_err-self-clause-kept
returns-in_err-self-clause-kept c = grown_itself c.args.self.now
