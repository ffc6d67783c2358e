use Rattle.std.proofs.Common.{◌++◌, ℕ, not, ap, sym, ◌∙◌}
use Rattle.std.specs.List.{filter, flat_map}
use Rattle.std.proofs.lemmas.List.Folds.{flat_map-map}
use Rattle.inferred_text.specs.Inferred.{is_no_top, subclass_axiom}
use Rattle.statements_text.specs.Texts.{statement_line}
use Rattle.taxonomy.specs.Relation.{lies_below}
use Rattle.inferred_text.proofs.Pieces.{none_left, passed_more, skipped_more}
use Rattle.inferred_text.proofs.classes.push_above.Goals as goal
use Rattle.inferred_text.proofs.classes.push_above.Goals.{then-not-is_same+in_ok-push_subclass, else-not-is_same}

pub push_subclass-requires-clause-above : goal.push_subclass-requires-clause-above
push_subclass-requires-clause-above c = c.requires.above c.loop-h.h-index 0 c.loop-h-test.true

pub loop-h-preserved : goal.loop-h-preserved
loop-h-preserved c =
    let line = λ (h : ℕ). statement_line (subclass_axiom c.args.ontology.now.names c.args.class h) in
    let told = is_no_top (lies_below c.args.groups.now.rows) in
    let above = c.args.above.now in
    let i = c.loop-h.h-index in
    let out = c.loop-h.out.items in
    let whole = c.args.out.now.items ++ flat_map line (filter told above) in
    elim c.if-not-is_same.branch [
      | then-not-is_same+in_ok-push_subclass w ↦ passed_more line told above i out c.if-not-is_same.out.items whole c.loop-h-test.true
          (ap not (sym c.is_same.ensures ∙ w.if-not-is_same.true)) (ap (λ o. o.items) w.out-is ∙ w.in_ok-push_subclass.ensures) c.loop-h.invariant
      | else-not-is_same w ↦ skipped_more line told above i out c.if-not-is_same.out.items whole c.loop-h-test.true
          (ap not (sym c.is_same.ensures ∙ w.if-not-is_same.false)) (ap (λ o. o.items) w.out-is) c.loop-h.invariant
    ]

pub returns : goal.returns
returns c =
    let names = c.args.ontology.now.names in
    let line = λ (h : ℕ). statement_line (subclass_axiom names c.args.class h) in
    let told = is_no_top (lies_below c.args.groups.now.rows) in
    let above = c.args.above.now in
    let out = c.args.out.now.items in
    none_left line told above c.loop-h.h-index c.loop-h.out.items (out ++ flat_map line (filter told above)) c.loop-h-test.false c.loop-h.invariant
    ∙ ap (λ t. out ++ t) (sym (flat_map-map statement_line (subclass_axiom names c.args.class) (filter told above)))
