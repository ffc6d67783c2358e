use Rattle.std.proofs.Common.{◌≡◌, ◌∙◌, ℕ, List, Contains, inl, inr, get_or, sym, subst, arith}
use Rattle.std.proofs.lemmas.Bool.{false≢true}
use Rattle.std.proofs.lemmas.List.Elements.{Contains-get_or}
use Rattle.std.proofs.lemmas.Option.{slice_get-get_or}
use Rattle.facts.specs.declared.contexts.Context.TheVariants.{Individual}
use Rattle.inference.proofs.Edges.{has_property}
use Rattle.inference.proofs.Lists.{one_value}
use Rattle.saturate.specs.Requests.{Denies, IsSuchAt}
use Rattle.saturate.proofs.Flagging.{flagged_as, flagged_one, for_one_more, none_too}
use Rattle.saturate.proofs.asked_facts.flag_denied.Goals as goal
use Rattle.saturate.proofs.asked_facts.flag_denied.Goals.{then-denies+in_ok-add, else-denies}

-- what stands in a list that is lent stands in the one that lends it
listed : {numbers whole : List ℕ} {n : ℕ} → numbers ≡ whole → Contains numbers n → Contains whole n
listed {n = n} is there = subst (λ (list : List ℕ). Contains list n) is there

pub get-requires : goal.get-requires
get-requires c =
    omega (arith, c.requires.below (Individual c.args.individual) _ (inr (inl (listed c.edges_from-edges.ensures (Contains-get_or c.edges_from-edges.result.now c.loop-place.place 0 c.loop-place-test.true)))), c.requires.long)

pub denies-requires : goal.denies-requires
denies-requires c = has_property c.args.ground.now c.closure-closure.ensures c.requires.derived _ c.get.result c.get.ensures

pub add-requires : goal.add-requires
add-requires c =
    omega (arith, c.requires.below (Individual c.args.individual) _ (inr (inl (listed c.edges_from-edges.ensures (Contains-get_or c.edges_from-edges.result.now c.loop-place.place 0 c.loop-place-test.true)))), c.requires.long, c.loop-place.invariant.long)

pub loop-place-preserved : goal.loop-place-preserved
loop-place-preserved c =
    let edges = c.edges_from-edges.result.now in
    let place = c.loop-place.place in
    let facts = c.args.facts.now.facts in
    let D = Denies c.args.ground.now.forms c.args.form in
    let i = get_or edges place 0 in
    let at = slice_get-get_or edges place 0 c.loop-place-test.true in
    let denied = c.denies.ensures c.args.ground.now.forms c.closure-closure.ensures in
    elim c.if-denies.branch [
      | then-denies+in_ok-add w ↦ rw w.flags-is (record {
        long = omega (arith, w.add.ensures.long, c.loop-place.invariant.long);
        too = for_one_more (λ (k n : ℕ). (n ≡ k) × IsSuchAt D facts n) edges place i at c.loop-place.invariant.too
            (flagged_as (λ n. n ≡ i) (λ n. (n ≡ i) × IsSuchAt D facts n)
            (λ n. ((λ e. (e, subst (IsSuchAt D facts) (sym e) (c.get.result, c.get.ensures, denied.0 w.if-denies.true))), (λ v. v.0)))
            (flagged_one i w.in_ok-add.ensures.ok));
      })
      | else-denies w ↦ rw w.flags-is (record {
        long = c.loop-place.invariant.long;
        too = for_one_more (λ (k n : ℕ). (n ≡ k) × IsSuchAt D facts n) edges place i at c.loop-place.invariant.too
            (none_too (λ n. (n ≡ i) × IsSuchAt D facts n) _ (λ n v.
            let such = subst (IsSuchAt D facts) v.0 v.1 in
            false≢true (sym w.if-denies.false ∙ denied.1 (subst D (one_value _ such.0 c.get.result such.1 c.get.ensures) such.2))));
      })
    ]
