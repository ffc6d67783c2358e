use Rattle.std.proofs.Common.{sym, ◌∙◌, ◌≡◌, true, false}
use Rattle.certificate.specs.Certificate.{One}
use Rattle.certificate.specs.View.{certificate_from}
use Rattle.certificate.proofs.Meaning.{has_text, text_tests}
use Rattle.certificate.proofs.certificate.Certificate.new.Goals as goal

pub returns-then-not-have_text-clause-none : goal.returns-then-not-have_text-clause-none
returns-then-not-have_text-clause-none c = λ t.
    let parts = certificate_from c.args.lines.items c.args.listed in
    let tested = rw c.deref.ensures.value at c.if-not-have_text.ensures in
    let differ : false ≡ true = tested ∙ text_tests c.args.ontology.now One parts t in
    cc

pub returns-clause-text : goal.returns-clause-text
returns-clause-text c =
    let tested = rw c.deref.ensures.value at c.if-not-have_text.ensures in
    has_text c.args.ontology.now One (certificate_from c.args.lines.items c.args.listed) (sym tested) tt
