use Rattle.std.proofs.Common.{sym, subst}
use Rattle.certificate.specs.View.{listed_of}
use Rattle.listed_model.specs.Extensions.{IsExtension}
use Rattle.listed_model.proofs.Held.{apart_of, put_of}
use Rattle.listed_model.proofs.tester.Tester.put_apart_of.Goals as goal

pub returns-in-Some-clause-apart : goal.returns-in-Some-clause-apart
returns-in-Some-clause-apart c =
    let o = c.args.self.now.ontology.now in
    let e = c.args.expression.0 in
    let list = c.in-Some.list.now in
    let from = c.requires.ready.kept.elements e list c.in-Some.ensures in
    apart_of o (listed_of c.args.self.now.listed.now) e list from c.args.seen.now c.put_apart.result c.put_apart.ensures.apart

pub returns-in-Some-clause-put : goal.returns-in-Some-clause-put
returns-in-Some-clause-put c =
    let o = c.args.self.now.ontology.now in
    let e = c.args.expression.0 in
    let list = c.in-Some.list.now in
    let from = c.requires.ready.kept.elements e list c.in-Some.ensures in
    λ t x b. put_of o (listed_of c.args.self.now.listed.now) e list from c.args.seen.now c.put_apart.new.seen x (c.put_apart.ensures.put t x b)

pub returns-clause-apart : goal.returns-clause-apart
returns-clause-apart c =
    let o = c.args.self.now.ontology.now in
    let l = listed_of c.args.self.now.listed.now in
    let e = c.args.expression.0 in
    let list = c.deref.result.now in
    let from = subst (IsExtension o l e) (sym c.deref.ensures.value) c.in_ok-elements.ensures in
    apart_of o l e list from c.args.seen.now c.put_apart-2.result c.put_apart-2.ensures.apart

pub returns-clause-put : goal.returns-clause-put
returns-clause-put c =
    let o = c.args.self.now.ontology.now in
    let l = listed_of c.args.self.now.listed.now in
    let e = c.args.expression.0 in
    let list = c.deref.result.now in
    let from = subst (IsExtension o l e) (sym c.deref.ensures.value) c.in_ok-elements.ensures in
    λ t x b. put_of o l e list from c.args.seen.now c.put_apart-2.new.seen x (c.put_apart-2.ensures.put t x b)
