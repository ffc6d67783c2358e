use Rattle.std.proofs.Common.{Some, ap, sym, ◌∙◌, arith}
use Rattle.std.proofs.lemmas.Bool.{false≢true}
use Rattle.std.proofs.lemmas.Option.{slice_get_within, slice_get-get_or}
use Rattle.indexes.specs.declared.keys.Key.{Key}
use Rattle.indexes.proofs.Changing.{none_is, still_none}
use Rattle.indexes.proofs.changed_lists.found.Goals as goal

pub returns-then-is_of-clause-some : goal.returns-then-is_of-clause-some
returns-then-is_of-clause-some c =
    let changed = c.args.changed.now in
    let d = c.index-changed-place.result in
    record {
      items = d.1;
      there = slice_get-get_or changed c.loop-place.place d c.loop-place-test.true ∙ ap Some (sym c.index-changed-place.is) ∙ ap (λ (k : Key). Some (k, d.1)) (c.is_of.ensures.0 c.if-is_of.true);
      first = c.loop-place.invariant;
    }

pub loop-place-preserved : goal.loop-place-preserved
loop-place-preserved c =
    still_none c.args.changed.now c.args.key c.loop-place.place c.index-changed-place.result c.loop-place-test.true c.index-changed-place.is
    (λ e. absurd (false≢true (sym c.if-is_of.false ∙ c.is_of.ensures.1 e))) c.loop-place.invariant

pub returns-clause-none : goal.returns-clause-none
returns-clause-none c = none_is c.args.changed.now c.args.key (λ i d there. c.loop-place.invariant i d (omega (arith, slice_get_within c.args.changed.now i d there, c.loop-place-test.false)) there)
