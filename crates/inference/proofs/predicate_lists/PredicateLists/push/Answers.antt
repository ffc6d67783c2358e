use Rattle.std.proofs.Common.{◌≡◌, suc, length, Ok, Err, ap, ◌∙◌, arith}
use Rattle.std.specs.Prelude.{OnErr}
use Rattle.std.specs.declared.result.Result.{Result}
use Rattle.inference.specs.Predicates.{end_at}
use Rattle.inference.proofs.Listing.{listed_push, listed_same}
use Rattle.inference.proofs.predicate_lists.PredicateLists.push.Goals as goal

in_any_case : {T E P : Type 0} (r : Result T E) → P → OnErr r P
in_any_case (Ok x) p = tt
in_any_case (Err e) p = p

pub returns-in_err-lengthen-clause-err : goal.returns-in_err-lengthen-clause-err
returns-in_err-lengthen-clause-err c = rw (← c.self.view_is) (in_any_case c.from_residual.result (λ facts are. listed_same facts c.self.inside.ends c.lengthen.new.self c.self.inside.before.items c.lengthen.ensures.same are))

pub returns-in_err-push-clause-err : goal.returns-in_err-push-clause-err
returns-in_err-push-clause-err c = rw (← c.self.view_is, c.in_err-push.ensures.items) (in_any_case c.from_residual-in_err-push.result (λ facts are. listed_same facts c.self.inside.ends c.lengthen.new.self c.self.inside.before.items c.lengthen.ensures.same are))

pub returns-clause-added : goal.returns-clause-added
returns-clause-added c = rw (← c.self.view_is) (λ facts are.
    let predicate = c.of-predicate.ensures in
    let was = listed_same facts c.self.inside.ends c.lengthen.new.self c.self.inside.before.items c.lengthen.ensures.same are in
    let long : c.len.result ≡ suc (length facts) = omega (arith, c.len.ensures, c.in_ok-push.ensures.len, was.long) in
    listed_push facts c.args.fact c.lengthen.new.self c.replace.new.self c.self.inside.before.items c.push.new.self.items c.of.result c.in_ok-push.ensures.items
    (c.of.ensures ∙ ap (end_at c.lengthen.new.self) predicate)
    ((rw predicate at c.replace.ensures.here) (rw predicate at c.in_ok-lengthen.ensures.there) ∙ long)
    (rw predicate at c.replace.ensures.others) was)
