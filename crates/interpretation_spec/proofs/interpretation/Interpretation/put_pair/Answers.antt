use Rattle.std.proofs.Common.{◌<◌, ℕ, List, sym, ap, subst, length, arith, refl, map}
use Rattle.std.proofs.lemmas.Bool.{lt-ltb}
use Rattle.std.proofs.lemmas.List.{length-map}
use Rattle.std.proofs.lemmas.Result.{err_from_is_err_and}
use Rattle.interpretation_spec.specs.Fields.{kept_pairs, kept_interpretation}
use Rattle.interpretation_spec.specs.NumberedInterpretation.{IsNumberedInterpretation, AreElements}
use Rattle.interpretation_spec.proofs.Keeping.{targets, same_view, more_view}
use Rattle.interpretation_spec.proofs.Wholes.{IsNumbered-with_pair}
use Rattle.interpretation_spec.proofs.interpretation.Interpretation.put_pair.Goals as goal

pub put_target-requires : goal.put_target-requires
put_target-requires c =
    let size = c.self.inside.size in
    let all = c.self.inside.pairs.items in
    let p = c.args.property.0 in
    let old = c.index_mut.result.now in
    let is = targets size all p old old (omega arith) c.index_mut.ensures.value c.args.source (omega arith) in
    (subst (AreElements size) is (c.self.invariant.targets p c.args.source)).ascending

pub invariant_of-self : goal.invariant_of-self
invariant_of-self c =
    let i = kept_interpretation c.self.inside in
    let size = c.self.inside.size in
    let all = c.self.inside.pairs.items in
    let p = c.args.property.0 in
    let same = same_view size all p c.index_mut.result.now c.put_target.new.pairs (omega arith) c.index_mut.ensures.value c.in_err-put_target.ensures.same in
    subst (λ (pairs : List (List (List ℕ))). IsNumberedInterpretation (record i { pairs = pairs })) (sym same) c.self.invariant

pub invariant_of-self-2 : goal.invariant_of-self-2
invariant_of-self-2 c =
    let i = kept_interpretation c.self.inside in
    let size = c.self.inside.size in
    let all = c.self.inside.pairs.items in
    let p = c.args.property.0 in
    let s = c.args.source in
    let t = c.args.target in
    let more = more_view size all p c.index_mut.result.now c.put_target.new.pairs (omega arith) c.index_mut.ensures.value s t (omega arith) c.in_ok-put_target.ensures.after in
    subst (λ (pairs : List (List (List ℕ))). IsNumberedInterpretation (record i { pairs = pairs })) (sym more)
    (IsNumbered-with_pair i p s t (omega (arith, length-map all (kept_pairs size))) (omega arith) (omega arith) c.self.invariant)

pub returns-clause-after : goal.returns-clause-after
returns-clause-after c =
    let i = kept_interpretation c.self.inside in
    let size = c.self.inside.size in
    let all = c.self.inside.pairs.items in
    let p = c.args.property.0 in
    let s = c.args.source in
    let t = c.args.target in
    let more = more_view size all p c.index_mut.result.now c.put_target.new.pairs (omega arith) c.index_mut.ensures.value s t (omega arith) c.in_ok-put_target.ensures.after in
    rw (← c.self.view_is) (ap (λ (pairs : List (List (List ℕ))). record i { pairs = pairs }) more)

pub returns-in_err-put_target-clause-refused : goal.returns-in_err-put_target-clause-refused
returns-in_err-put_target-clause-refused c =
    let i = kept_interpretation c.self.inside in
    let size = c.self.inside.size in
    let all = c.self.inside.pairs.items in
    let p = c.args.property.0 in
    let same = same_view size all p c.index_mut.result.now c.put_target.new.pairs (omega arith) c.index_mut.ensures.value c.in_err-put_target.ensures.same in
    let in_range : p < length (map (kept_pairs size) all) = omega (arith, length-map all (kept_pairs size)) in
    let source_in : c.args.source < size = omega arith in
    let target_in : c.args.target < size = omega arith in
    let e = err_from_is_err_and c.from_residual.result c.from_residual.ensures.1 in
    rw (e.1, e.2, ← c.self.view_is) (
      ap (λ (pairs : List (List (List ℕ))). record i { pairs = pairs }) same,
      rw (lt-ltb p (length (map (kept_pairs size) all)) in_range, lt-ltb c.args.source size source_in, lt-ltb c.args.target size target_in) refl,
    )
