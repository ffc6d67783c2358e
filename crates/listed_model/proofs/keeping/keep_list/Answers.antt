use Rattle.std.proofs.Common.{ℕ, Option, Vec, Global, IfSome, sym, subst}
use Rattle.std.proofs.lemmas.Result.{on_ok_weaker}
use Rattle.certificate.specs.View.{listed_of}
use Rattle.listed_model.specs.Extensions.{IsExtension}
use Rattle.listed_model.proofs.Held.{kept_list, kept_nowhere}
use Rattle.listed_model.proofs.keeping.keep_list.Goals as goal

pub returns-in-Some-clause-kept : goal.returns-in-Some-clause-kept
returns-in-Some-clause-kept c =
    let o = c.args.ontology.now in
    let l = c.args.listed.now in
    let xs = c.deref.result.now in
    let Made : Option (Vec ℕ Global) → Type 0 = λ made. IfSome made (λ (elements : Vec ℕ Global). IsExtension o (listed_of l) c.args.expression.0 elements.items) in
    let one = subst (IsExtension o (listed_of l) c.args.expression.0) (sym c.deref.ensures.value) (subst Made c.in-Some.is c.in_ok-made.ensures) in
    on_ok_weaker c.put_list.result
    (λ put. kept_list o l c.args.kept.now c.put_list.new.self xs c.requires.kept (subst (λ (e : ℕ). IsExtension o (listed_of l) e xs) (sym c.requires.next) one) put)
    c.put_list.ensures

pub returns-in-None-clause-kept : goal.returns-in-None-clause-kept
returns-in-None-clause-kept c = on_ok_weaker c.put.result (kept_nowhere c.args.ontology.now c.args.listed.now c.args.kept.now c.put.new.self c.requires.kept) c.put.ensures
