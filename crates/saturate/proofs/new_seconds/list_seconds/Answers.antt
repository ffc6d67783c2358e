use Rattle.std.proofs.Common.{◌≡◌, ◌<◌, ◌≤◌, ℕ, ⊎_elim, refl, subst, arith}
use Rattle.std.proofs.lemmas.Bool.{cases_lt}
use Rattle.normal_forms.specs.declared.forms.PropId2.{PropId2}
use Rattle.facts.specs.declared.contexts.Fact.TheVariants.{Edge}
use Rattle.inference.specs.declared.predicates.Predicate.TheVariants as predicates
use Rattle.inference.specs.Predicates.{SaysAt}
use Rattle.inference.proofs.Edges.{first_edge}
use Rattle.saturate.specs.Requests.{IsNumbered}
use Rattle.saturate.proofs.Listed.{has_number, one_numbered}
use Rattle.saturate.proofs.NewSeconds.{more_seconds, still_listed_for}
use Rattle.saturate.proofs.new_seconds.list_seconds.Goals as goal

pub returns-in_err-list_needed-clause-more : goal.returns-in_err-list_needed-clause-more
returns-in_err-list_needed-clause-more c = more_seconds c.loop-number.invariant.more c.in_err-list_needed.ensures.more

pub loop-number-preserved : goal.loop-number-preserved
loop-number-preserved c =
    let from = c.args.from in
    let k = c.args.ground.now in
    let d = c.args.facts.now in
    let closure = c.closure-closure.result.now in
    let number = c.loop-number.number in
    let more = c.in_ok-list_needed.ensures.more in
    record {
      more = more_seconds c.loop-number.invariant.more more;
      each = λ p i low numbered n says. ⊎_elim
          (λ (below : i < number). still_listed_for from k n more (c.loop-number.invariant.each p i below numbered n says))
          (λ (high : number ≤ i).
          let here : i ≡ number = omega (arith, low, high) in
          let same = one_numbered closure number p c.property_numbered-property.result (subst (λ (j : ℕ). IsNumbered closure j p) here numbered) c.property_numbered-property.ensures.numbered in
          c.in_ok-list_needed.ensures.listed n (subst (λ (q : PropId2). SaysAt (predicates.Property q) d.facts n) same says))
          (cases_lt i number);
    }

pub returns-clause-listed : goal.returns-clause-listed
returns-clause-listed c = λ n x p y at.
    let closure = c.closure-closure.result.now in
    let has = first_edge c.args.ground.now c.closure-closure.ensures c.requires n (Edge x p y) at x p y refl in
    let numbered = has_number closure p has in
    c.loop-number.invariant.each p numbered.0 (omega (arith, numbered.1, c.count_properties-number-end.ensures, c.loop-number-test.false)) numbered.2 n (Edge x p y, at, refl) x p y at
