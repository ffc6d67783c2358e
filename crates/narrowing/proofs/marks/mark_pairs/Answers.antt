use Rattle.std.proofs.Common.{List, ℕ, ◌∷◌, take, refl, sym, subst}
use Rattle.certificate.specs.View.{targets_in}
use Rattle.certificate.specs.declared.listed.PairRow.{PairRow}
use Rattle.narrowing.specs.Gathered.{pair_elements}
use Rattle.narrowing.proofs.Marking.{IsMarked, marked_more, refused, flat_map_more, flat_map_among}
use Rattle.narrowing.proofs.marks.mark_pairs.Goals as goal

pub returns-then-not-mark_pair-clause-in_range : goal.returns-then-not-mark_pair-clause-in_range
returns-then-not-mark_pair-clause-in_range c =
    let rows = c.args.pairs.now in
    let i = c.loop-pair.pair-index in
    let pair = c.pair-item.result in
    let elements = pair.source ∷ targets_in pair.targets in
    refused c.args.row.now c.loop-pair.row (pair_elements (take i rows)) elements c.mark_pair.result c.loop-pair.invariant c.mark_pair.ensures.in_range
    (pair_elements rows) (flat_map_among (λ (pair : PairRow). pair.source ∷ targets_in pair.targets) rows i pair elements c.loop-pair-test.true c.pair-item.is refl) c.if-not-mark_pair.true

pub loop-pair-preserved : goal.loop-pair-preserved
loop-pair-preserved c =
    let rows = c.args.pairs.now in
    let i = c.loop-pair.pair-index in
    let pair = c.pair-item.result in
    let elements = pair.source ∷ targets_in pair.targets in
    subst (λ (xs : List ℕ). IsMarked c.args.row.now xs c.mark_pair.new.row) (sym (flat_map_more (λ (pair : PairRow). pair.source ∷ targets_in pair.targets) rows i pair elements c.loop-pair-test.true c.pair-item.is refl))
    (marked_more c.args.row.now c.loop-pair.row (pair_elements (take i rows)) elements c.mark_pair.result c.loop-pair.invariant c.mark_pair.ensures.in_range c.mark_pair.new.row c.mark_pair.ensures.after c.if-not-mark_pair.false)
