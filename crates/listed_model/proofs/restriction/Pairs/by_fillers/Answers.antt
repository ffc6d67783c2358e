use Rattle.std.proofs.Common.{◌≡◌, inl, inr, ℕ, List, get_or, map, true, refl, sym, subst}
use Rattle.std.specs.List.Sorted.{IsNonDecreasing}
use Rattle.std.proofs.lemmas.List.{take_all}
use Rattle.std.proofs.lemmas.List.Elements.{Contains-get_or}
use Rattle.certificate.specs.View.{pair_row_of}
use Rattle.listed_model.specs.Listing.{targets_of}
use Rattle.listed_model.specs.Members.{holds}
use Rattle.listed_model.specs.Rows.{IsHolders, Joined}
use Rattle.listed_model.proofs.Holding.{places_there, joined_by}
use Rattle.listed_model.proofs.Members.{holds_from_Contains}
use Rattle.listed_model.proofs.Walks.{holds_next}
use Rattle.listed_model.proofs.restriction.Pairs.by_fillers.Goals as goal

pub between-places-requires : goal.between-places-requires
between-places-requires c =
    let fillers = c.args.fillers.now in
    let at = c.loop-filler.filler-index in
    let y = get_or fillers at 0 in
    subst IsNonDecreasing (sym c.at.ensures) (c.requires.holders y (holds_from_Contains fillers y (Contains-get_or fillers at 0 c.loop-filler-test.true))).ascending

pub add_sources-requires : goal.add_sources-requires
add_sources-requires c =
    let fillers = c.args.fillers.now in
    let at = c.loop-filler.filler-index in
    let y = get_or fillers at 0 in
    let holder = c.requires.holders y (holds_from_Contains fillers y (Contains-get_or fillers at 0 c.loop-filler-test.true)) in
    places_there c.args.self.now.rows.now y c.at.result.now c.between-places.result.now (subst (IsHolders c.args.self.now.rows.now y) (sym c.at.ensures) holder) (λ k h. ((c.between-places.ensures k).0 h).0)

pub loop-filler-preserved : goal.loop-filler-preserved
loop-filler-preserved c = λ x.
    let rows = c.args.self.now.rows.now in
    let r = c.args.property.0 in
    let fillers = c.args.fillers.now in
    let at = c.loop-filler.filler-index in
    let y = get_or fillers at 0 in
    let holder = c.requires.holders y (holds_from_Contains fillers y (Contains-get_or fillers at 0 c.loop-filler-test.true)) in
    let joined = joined_by rows r c.start_of-start.result c.end_of-end.result x y c.at.result.now c.between-places.result.now c.requires.rows c.start_of-start.ensures.place c.end_of-end.ensures.place
    (subst (IsHolders rows y) (sym c.at.ensures) holder) c.between-places.ensures in
    let added = c.in_ok-add_sources.ensures x in
    let old = c.loop-filler.invariant x in (
      λ h. elim (added.0 h) [
        | inl m ↦ (let (z, t, s) = old.0 m in (z, t, (holds_next fillers at 0 z c.loop-filler-test.true).1 (inl s)))
        | inr s ↦ (y, joined.0 s, (holds_next fillers at 0 y c.loop-filler-test.true).1 (inr refl))
      ],
      λ (z, t, s). added.1 (elim ((holds_next fillers at 0 z c.loop-filler-test.true).0 s) [
        | inl m ↦ inl (old.1 (z, t, m))
        | inr e ↦ inr (joined.1 (subst (λ (v : ℕ). holds (targets_of (map pair_row_of rows) r x) v ≡ true) (sym e) t))
      ]),
    )

pub returns : goal.returns
returns c = λ x.
    let all = take_all c.loop-filler.filler-index c.args.fillers.now c.loop-filler-test.false in
    let old = c.loop-filler.invariant x in
    let P : List ℕ → Type 0 = λ (fillers : List ℕ). Joined (map pair_row_of c.args.self.now.rows.now) c.args.property.0 fillers x in
    (λ h. subst P all (old.0 h), λ h. old.1 (subst P (sym all) h))
