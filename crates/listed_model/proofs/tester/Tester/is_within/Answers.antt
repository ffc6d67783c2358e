use Rattle.std.proofs.Common.{sym, subst}
use Rattle.std.proofs.lemmas.Result.{IfOk-weaker}
use Rattle.certificate.specs.View.{listed_of}
use Rattle.listed_model.specs.Extensions.{IsExtension}
use Rattle.listed_model.proofs.Held.{all_below}
use Rattle.listed_model.proofs.tester.Tester.is_within.Goals as goal

pub are_in-requires-clause-elements : goal.are_in-requires-clause-elements
are_in-requires-clause-elements c =
    let o = c.args.self.now.ontology.now in
    let sub = c.args.sub.0 in
    let list = c.in-Some.elements.now in
    all_below o (listed_of c.args.self.now.listed.now) sub list (c.requires.ready.kept.elements sub list c.in-Some.ensures)

pub returns-in-Some : goal.returns-in-Some
returns-in-Some c =
    let o = c.args.self.now.ontology.now in
    let sub = c.args.sub.0 in
    let from = c.requires.ready.kept.elements sub c.in-Some.elements.now c.in-Some.ensures in
    IfOk-weaker c.are_in.result _ _
    (λ v h. (
      λ t x e. h.0 t x ((from.members x).1 e),
      λ q. h.1 (λ x m. q x ((from.members x).0 m)),
    ))
    c.are_in.ensures

pub returns : goal.returns
returns c =
    let o = c.args.self.now.ontology.now in
    let l = listed_of c.args.self.now.listed.now in
    let sub = c.args.sub.0 in
    let from : IsExtension o l sub c.deref.result.now = subst (IsExtension o l sub) (sym c.deref.ensures.value) c.in_ok-elements.ensures in
    IfOk-weaker c.are_in-2.result _ _
    (λ v h. (
      λ t x e. h.0 t x ((from.members x).1 e),
      λ q. h.1 (λ x m. q x ((from.members x).0 m)),
    ))
    c.are_in-2.ensures
