use Rattle.std.proofs.Common.{◌++◌, ℕ, not, ap, sym, ◌∙◌}
use Rattle.std.specs.List.{filter, flat_map}
use Rattle.std.proofs.lemmas.List.Folds.{flat_map-map}
use Rattle.inferred_text.specs.Inferred.{is_no_top, type_axiom}
use Rattle.statements_text.specs.Texts.{statement_line}
use Rattle.taxonomy.specs.Relation.{lies_below}
use Rattle.inferred_text.proofs.Pieces.{none_left, passed_more, skipped_more}
use Rattle.inferred_text.proofs.individuals.push_types.Goals as goal
use Rattle.inferred_text.proofs.individuals.push_types.Goals.{then-not-is_same+in_ok-push_type, else-not-is_same}

pub push_type-requires-clause-class : goal.push_type-requires-clause-class
push_type-requires-clause-class c = c.requires.classes c.loop-class.class-index 0 c.loop-class-test.true

pub loop-class-preserved : goal.loop-class-preserved
loop-class-preserved c =
    let line = λ (d : ℕ). statement_line (type_axiom c.args.ontology.now.names c.args.individual d) in
    let told = is_no_top (lies_below c.args.groups.now.rows) in
    let classes = c.args.classes.now in
    let i = c.loop-class.class-index in
    let out = c.loop-class.out.items in
    let whole = c.args.out.now.items ++ flat_map line (filter told classes) in
    elim c.if-not-is_same.branch [
      | then-not-is_same+in_ok-push_type w ↦ passed_more line told classes i out c.if-not-is_same.out.items whole c.loop-class-test.true
          (ap not (sym c.is_same.ensures ∙ w.if-not-is_same.true)) (ap (λ o. o.items) w.out-is ∙ w.in_ok-push_type.ensures) c.loop-class.invariant
      | else-not-is_same w ↦ skipped_more line told classes i out c.if-not-is_same.out.items whole c.loop-class-test.true
          (ap not (sym c.is_same.ensures ∙ w.if-not-is_same.false)) (ap (λ o. o.items) w.out-is) c.loop-class.invariant
    ]

pub returns : goal.returns
returns c =
    let names = c.args.ontology.now.names in
    let line = λ (d : ℕ). statement_line (type_axiom names c.args.individual d) in
    let told = is_no_top (lies_below c.args.groups.now.rows) in
    let classes = c.args.classes.now in
    let out = c.args.out.now.items in
    none_left line told classes c.loop-class.class-index c.loop-class.out.items (out ++ flat_map line (filter told classes)) c.loop-class-test.false c.loop-class.invariant
    ∙ ap (λ t. out ++ t) (sym (flat_map-map statement_line (type_axiom names c.args.individual) (filter told classes)))
