use Rattle.std.proofs.Common.{ℕ, Option, ap, refl, subst, arith}
use Rattle.std.proofs.lemmas.Option.{slice_get_within}
use Rattle.axioms.specs.Ontology.{Ontology}
use Rattle.normal_forms.specs.declared.forms.Class2.TheVariants.{Expr}
use Rattle.inference.specs.declared.predicates.Predicate.TheVariants.{Class}
use Rattle.inference.specs.Predicates.{end_of}
use Rattle.inference.proofs.Listing.{before_as}
use Rattle.answers.specs.Selections.{IsOnly, PutsClass}
use Rattle.answers.proofs.Lent.{same_at, same_bound, same_ontology}
use Rattle.answers.proofs.MarkedFacts.{AreMarksFrom, at_the_end, next_mark, puts_class, with_class}
use Rattle.answers.proofs.marks.mark_below.Goals as goal

pub loop-next-init : goal.loop-next-init
loop-next-init c =
    let o = c.args.indexed.now.ontology in
    let e = c.args.above in
    record {
      next = c.last_of-next.ensures.there;
      marks = at_the_end (PutsClass o e.0) c.args.indexed.now.saturation.state.facts (Expr e) (puts_class o e) c.args.found.now _ c.args.found.now refl c.last_of-next.ensures;
    }

pub bounds-facts-number : goal.bounds-facts-number
bounds-facts-number c =
    let says = c.loop-next.invariant.next c.in-Some.number (ap end_of c.in-Some.is) in
    same_bound c.in-Some.number c.facts-facts.ensures c.closed-closed.ensures (slice_get_within c.args.indexed.now.saturation.state.facts c.in-Some.number says.0 says.1)

pub loop-next-preserved : goal.loop-next-preserved
loop-next-preserved c =
    let o = c.args.indexed.now.ontology in
    let facts = c.args.indexed.now.saturation.state.facts in
    let e = c.args.above in
    let number = c.in-Some.number in
    let f = c.index-facts-number.result in
    let says = c.loop-next.invariant.next number (ap end_of c.in-Some.is) in
    let last = before_as (Class (Expr e)) facts number _ says c.before-next.ensures in
    let at = same_at number f c.facts-facts.ensures c.closed-closed.ensures (slice_get_within facts number says.0 says.1) c.index-facts-number.is in
    let only = subst (λ (o : Ontology). IsOnly (PutsClass o e.0 f) c.below.result) (same_ontology c.ontology-ontology.ensures c.closed-closed.ensures) c.below.ensures in
    record {
      next = last.there;
      marks = next_mark (PutsClass o e.0) facts (Expr e) (puts_class o e) c.args.found.now number _ c.loop-next.found c.mark.new.marks f c.below.result says last at only
          (subst (λ (next : Option ℕ). AreMarksFrom (PutsClass o e.0) facts c.args.found.now (end_of next) c.loop-next.found) c.in-Some.is c.loop-next.invariant.marks) c.mark.ensures.long c.mark.ensures.exact;
    }

pub loop-next-smaller : goal.loop-next-smaller
loop-next-smaller c =
    let facts = c.args.indexed.now.saturation.state.facts in
    let says = c.loop-next.invariant.next c.in-Some.number (ap end_of c.in-Some.is) in
    let last = before_as (Class (Expr c.args.above)) facts c.in-Some.number _ says c.before-next.ensures in
    omega (arith, last.within, ap end_of c.in-Some.is)

pub returns-clause-long : goal.returns-clause-long
returns-clause-long c = c.loop-next.invariant.marks.long

pub returns-clause-exact : goal.returns-clause-exact
returns-clause-exact c =
    let o = c.args.indexed.now.ontology in
    let e = c.args.above in
    let facts = c.args.indexed.now.saturation.state.facts in
    with_class (PutsClass o e.0) facts (Expr e) (puts_class o e) c.args.found.now c.loop-next.found
    (subst (λ (next : Option ℕ). AreMarksFrom (PutsClass o e.0) facts c.args.found.now (end_of next) c.loop-next.found) c.in_default.is c.loop-next.invariant.marks)
