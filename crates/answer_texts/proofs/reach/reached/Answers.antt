use Rattle.std.proofs.Common.{◌≡◌, ℕ, ◌+◌, ◌<◌, Bool, false, List, replicate, length, slice_get, Some, sym, ap, ap₂, ◌∙◌, subst, arith}
use Rattle.std.proofs.lemmas.Bool.{both_ways}
use Rattle.std.proofs.lemmas.Option.{slice_get-get_or}
use Rattle.number_sets.specs.Members.{has}
use Rattle.number_sets.specs.Search.{Search, search_of, with_starts}
use Rattle.number_sets.proofs.Members.{has_none}
use Rattle.answer_texts.specs.Reached.{all_targets}
use Rattle.answer_texts.proofs.Reaching.{IsReaching, all_followed, begun_at, followed_at, none_reached, seen_reached}
use Rattle.answer_texts.proofs.reach.reached.Goals as goal

pub returns-then-from-size : goal.returns-then-from-size
returns-then-from-size c = λ y. (
  λ h. absurd (both_ways (has c.in_ok-seen.seen y) (ap (λ (s : List Bool). has s y) c.in_ok-seen.ensures ∙ has_none c.size.result y) h),
  λ h. absurd (none_reached c.args.interpretation.now c.args.from y (omega (arith, c.if-from-size.true, c.size-2.ensures.value)) h),
)

pub loop-next-init : goal.loop-next-init
loop-next-init c =
    let i = c.args.interpretation.now in
    let there : c.args.from < i.size = omega (arith, c.if-from-size.false, c.size-2.ensures.value) in
    let search : List ℕ → List Bool → Search ℕ = λ found seen. record { found = found; seen = seen } in
    begun_at i (length c.args.ontology.now.names.properties) c.args.from there (search_of c.add.new.search) (search c.new-found.result.items c.in_ok-seen.seen) c.in_ok-add.ensures
    (ap₂ search c.new-found.ensures.items (c.in_ok-seen.ensures ∙ ap (λ n. replicate n false) c.size.ensures.value))

pub returns-then-next-len : goal.returns-then-next-len
returns-then-next-len c =
    let there : c.args.from < c.args.interpretation.now.size = omega (arith, c.if-from-size.false, c.size-2.ensures.value) in
    seen_reached c.args.interpretation.now (length c.args.ontology.now.names.properties) c.args.from there c.well_formed-2.ensures
    c.loop-next.next (search_of c.loop-next.search) c.loop-next.invariant c.requires.properties
    (omega (arith, c.if-next-len.true, c.len.ensures, c.loop-next.search.found.ok))

pub loop-next-preserved : goal.loop-next-preserved
loop-next-preserved c =
    let i = c.args.interpretation.now in
    let n = length c.args.ontology.now.names.properties in
    let there : c.args.from < i.size = omega (arith, c.if-from-size.false, c.size-2.ensures.value) in
    let next = c.loop-next.next in
    let search = search_of c.loop-next.search in
    let x = c.index-element.result.now in
    let low : next < length search.found = omega (arith, c.if-next-len.false, c.len.ensures, c.loop-next.search.found.ok) in
    let here : slice_get search.found next ≡ Some x = slice_get-get_or search.found next x low ∙ ap Some (sym c.index-element.ensures) in
    let is = c.in_ok-follow.ensures ∙ ap (λ k. with_starts (λ y. y) search (all_targets i k x)) c.properties-properties.ensures.count in
    subst (IsReaching i n c.args.from (next + 1)) (sym is) (followed_at i n c.args.from there c.well_formed-2.ensures next search c.loop-next.invariant x here)

pub returns : goal.returns
returns c =
    let i = c.args.interpretation.now in
    let n = length c.args.ontology.now.names.properties in
    let there : c.args.from < i.size = omega (arith, c.if-from-size.false, c.size-2.ensures.value) in
    let next = c.loop-next.next in
    let search = search_of c.loop-next.search in
    let all = all_followed i n c.args.from there c.well_formed-2.ensures next search c.loop-next.invariant (omega (arith, c.loop-next-test.false, c.size-next-end.ensures.value)) in
    seen_reached i n c.args.from there c.well_formed-2.ensures next search c.loop-next.invariant c.requires.properties all
