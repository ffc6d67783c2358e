use Rattle.std.proofs.Common.{ℕ, List, Contains, ⊎_elim, ap, subst, sym}
use Rattle.indexes.specs.Keys.{by_kind, by_alone, by_first, by_second, by_filler, by_chain, by_end, by_plain, by_linked_first, by_linked_second, by_denied, by_restricted, by_target}
use Rattle.indexes.proofs.membership.like.Goals as goal

pub returns-in-N2 : goal.returns-in-N2
returns-in-N2 c = λ n at. c.intersections.ensures.all n (c.args.form, at, ap by_first c.in-N2.is) (c.args.form, at, ap by_second c.in-N2.is)

pub returns-in-N4 : goal.returns-in-N4
returns-in-N4 c = λ n at. (c.restrictions.ensures n).1 ((c.args.form, at, ap by_filler c.in-N4.is), (c.args.form, at, ap by_restricted c.in-N4.is))

pub returns-in-N5 : goal.returns-in-N5
returns-in-N5 c = λ n at. (c.plain_from.ensures n).1 (c.args.form, at, ap by_plain c.in-N5.is)

pub returns-in-N6 : goal.returns-in-N6
returns-in-N6 c = λ n at. (c.chains.ensures n).1 ((c.args.form, at, ap by_chain c.in-N6.is), (c.args.form, at, ap by_end c.in-N6.is))

pub returns-in-N7 : goal.returns-in-N7
returns-in-N7 c = λ n at. (c.reflexive.ensures n).1 (c.args.form, at, ap by_kind c.in-N7.is)

pub returns-in-N8 : goal.returns-in-N8
returns-in-N8 c = λ n at. (c.given.ensures n).1 (c.args.form, at, ⊎_elim (λ is. ap by_kind is.2) (λ is. ap by_kind is.3) c.in-N8.is)

pub returns-in-N1 : goal.returns-in-N1
returns-in-N1 c = λ n at. (c.alone.ensures n).1 (c.args.form, at, ⊎_elim (λ is. ap by_alone is.1) (λ is. ap by_alone is.2) c.in-N1.is)

pub returns-in-N10 : goal.returns-in-N10
returns-in-N10 c = λ n at. ⊎_elim
    (λ is. subst (λ (list : List ℕ). Contains list n) (sym is) ((c.linked_first.ensures n).1 (c.args.form, at, ap by_linked_first c.in-N10.is)))
    (λ is. subst (λ (list : List ℕ). Contains list n) (sym is) ((c.linked_second.ensures n).1 (c.args.form, at, ap by_linked_second c.in-N10.is)))
    c.shorter.ensures

pub returns-in-N12 : goal.returns-in-N12
returns-in-N12 c = λ n at. (c.denied_between.ensures n).1 ((c.args.form, at, ap by_denied c.in-N12.is), (c.args.form, at, ap by_target c.in-N12.is))
