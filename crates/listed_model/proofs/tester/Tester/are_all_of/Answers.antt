use Rattle.std.proofs.Common.{sym, ◌∙◌, subst}
use Rattle.std.proofs.lemmas.Slice.Eq.{bytes_eq-Decides}
use Rattle.certificate.specs.View.{listed_of}
use Rattle.listed_model.specs.Extensions.{IsExtension}
use Rattle.listed_model.proofs.Held.{is_all_of}
use Rattle.listed_model.proofs.tester.Tester.are_all_of.Goals as goal

pub returns-in-Some : goal.returns-in-Some
returns-in-Some c =
    let o = c.args.self.now.ontology.now in
    let e = c.args.expression.0 in
    let list = c.in-Some.list.now in
    let elements = c.args.elements.now in
    let from = c.requires.ready.kept.elements e list c.in-Some.ensures in
    let is = is_all_of o (listed_of c.args.self.now.listed.now) e list from elements c.requires.elements in
    let decides = bytes_eq-Decides list elements in
    (λ t. is.0 (decides.0 (sym c.eq.ensures ∙ t)), λ q. c.eq.ensures ∙ decides.1 (is.1 q))

pub returns : goal.returns
returns c =
    let o = c.args.self.now.ontology.now in
    let l = listed_of c.args.self.now.listed.now in
    let e = c.args.expression.0 in
    let list = c.as_slice.result.now in
    let elements = c.args.elements.now in
    let from = subst (IsExtension o l e) (sym c.as_slice.ensures.value) c.in_ok-others.ensures in
    let is = is_all_of o l e list from elements c.requires.elements in
    let decides = bytes_eq-Decides list elements in
    (λ t. is.0 (decides.0 (sym c.eq-2.ensures ∙ t)), λ q. c.eq-2.ensures ∙ decides.1 (is.1 q))
