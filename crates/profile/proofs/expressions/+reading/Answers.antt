use Rattle.std.proofs.Common.{◌≡◌, ◌≤◌, length, arith, rules, sym, subst}
use denote.Param.Weighed.{most, at_most}
use Rattle.fs_parser.specs.declared.tree.Tree.{Tree, size-Tree}
use Rattle.std.proofs.lemmas.Grind.{common_steps}
use Rattle.axioms.specs.Expression.{ClassExpression}
use Rattle.axioms.specs.View.{expr_numbers}
use Rattle.fs_parser.specs.View.{tree_of, trees_of}
use Rattle.shapes.proofs.Stating.{no_form}
use Rattle.profile.specs.Additions.{ClassRead}
use Rattle.profile.specs.ClassTrees.{IsClassTree}
use Rattle.profile.specs.Statements.{classes_of}
use Rattle.profile.proofs.ClassReading.{and_fits, and_read}
use Rattle.profile.proofs.Forms.{and_refused, class_at, class_named, two_trees, read_all, read_none, read_pushed, read_refused, some_of, some_property_refused, some_filler_refused, some_values_fits, some_values_read}
use Rattle.axioms.proofs.Fronts.{extends_both}
use Rattle.profile.proofs.Extending.{extends_of}
use Rattle.profile.proofs.expressions.+reading.Goals as goal
use Rattle.profile.proofs.expressions.+reading.Goals.{some_values-in_default-via-then-trees-lt2, some_values-in_default-via-else-trees-lt2+else-trees-lt3}

pub intersection-returns-in-Err-clause-read : goal.intersection-returns-in-Err-clause-read
intersection-returns-in-Err-clause-read t c =
    and_refused (classes_of (trees_of c.args.trees.now)) c.args.builder.now c.class_expressions.new.builder c.requires.many.many c.in-Err.fault c.in-Err.ensures.read

pub intersection-add-requires-clause-fits : goal.intersection-add-requires-clause-fits
intersection-add-requires-clause-fits t c =
    and_fits (classes_of (trees_of c.args.trees.now)) c.args.builder.now c.class_expressions.new.builder (expr_numbers c.in-Ok.operands.items) c.requires.many.many c.requires.many.distinct c.in-Ok.ensures.read

pub intersection-returns-in-Ok-add-clause-read : goal.intersection-returns-in-Ok-add-clause-read
intersection-returns-in-Ok-add-clause-read t c =
    and_read (classes_of (trees_of c.args.trees.now)) c.args.builder.now c.class_expressions.new.builder c.add.new.builder (expr_numbers c.in-Ok.operands.items) c.in-Ok-add.number.0 c.requires.many.many c.in-Ok.ensures.read c.in-Ok-add.ensures.read

pub some_values-returns-in-Err-clause-read : goal.some_values-returns-in-Err-clause-read
some_values-returns-in-Err-clause-read t c =
    let is = some_of c.args.trees.now c.first-item.result c.second-item.result c.requires c.first-item.is c.second-item.is in
    some_property_refused c.args.trees.now c.first-item.result c.second-item.result is c.args.builder.now c.property.new.builder c.property.new.builder c.in-Err.fault c.in-Err.ensures.read

pub some_values-returns-in-Err-class_expression-clause-read : goal.some_values-returns-in-Err-class_expression-clause-read
some_values-returns-in-Err-class_expression-clause-read t c =
    let is = some_of c.args.trees.now c.first-item.result c.second-item.result c.requires c.first-item.is c.second-item.is in
    some_filler_refused c.args.trees.now c.first-item.result c.second-item.result is c.args.builder.now c.property.new.builder c.class_expression.new.builder c.in-Ok.property.0 c.in-Ok.ensures.read c.in-Err-class_expression.fault c.in-Err-class_expression.ensures.read

pub some_values-add-requires-clause-fits : goal.some_values-add-requires-clause-fits
some_values-add-requires-clause-fits t c =
    let is = some_of c.args.trees.now c.first-item.result c.second-item.result c.requires c.first-item.is c.second-item.is in
    some_values_fits c.args.trees.now c.first-item.result c.second-item.result is c.args.builder.now c.property.new.builder c.class_expression.new.builder c.in-Ok.property.0 c.in-Ok-class_expression.filler.0 c.in-Ok.ensures.read c.in-Ok-class_expression.ensures.read

pub some_values-returns-in-Ok-add-clause-read : goal.some_values-returns-in-Ok-add-clause-read
some_values-returns-in-Ok-add-clause-read t c =
    let is = some_of c.args.trees.now c.first-item.result c.second-item.result c.requires c.first-item.is c.second-item.is in
    some_values_read c.args.trees.now c.first-item.result c.second-item.result is c.args.builder.now c.property.new.builder c.class_expression.new.builder c.add.new.builder c.in-Ok.property.0 c.in-Ok-class_expression.filler.0 c.in-Ok-add.number.0 c.in-Ok.ensures.read c.in-Ok-class_expression.ensures.read c.in-Ok-add.ensures.read

pub some_values-returns-in_default-clause-read : goal.some_values-returns-in_default-clause-read
some_values-returns-in_default-clause-read t c =
    let two : length c.args.trees.now ≡ 2 = two_trees c.args.trees.now c.requires in
    absurd (elim c.in_default.branch [
      | some_values-in_default-via-then-trees-lt2 w ↦ grind (arith, two)
      | some_values-in_default-via-else-trees-lt2+else-trees-lt3 w ↦ grind (arith, two)
    ])

pub some_values-class_expression-requires : goal.some_values-class_expression-requires
some_values-class_expression-requires t c =
    let is = some_of c.args.trees.now c.first-item.result c.second-item.result c.requires c.first-item.is c.second-item.is in
    let filler : IsClassTree (tree_of c.second-item.result) = is.filler in
    first_of (search rules, grind (arith, common_steps))

pub class_expressions-class_expression-requires : goal.class_expressions-class_expression-requires
class_expressions-class_expression-requires t c =
    let least : size-Tree c.tree-item.result ≤ most size-Tree c.args.trees.now =
    subst (λ (x : Tree). size-Tree x ≤ most size-Tree c.args.trees.now) (sym c.tree-item.is) (at_most size-Tree c.args.trees.now c.loop-tree.tree-index c.tree-item.result c.loop-tree-test.true) in
    (first_of (omega (arith, least, c.decreases), grind (arith, common_steps, least, c.decreases)), class_at c.args.trees.now c.loop-tree.tree-index c.tree-item.result c.requires c.loop-tree-test.true c.tree-item.is)

pub class_expressions-loop-tree-init : goal.class_expressions-loop-tree-init
class_expressions-loop-tree-init t c = read_none c.args.builder.now c.well_formed-2.ensures _ c.new-expressions.ensures.items

pub class_expressions-returns-in-Err-clause-read : goal.class_expressions-returns-in-Err-clause-read
class_expressions-returns-in-Err-clause-read t c =
    read_refused c.args.trees.now c.loop-tree.tree-index c.tree-item.result c.args.builder.now c.loop-tree.builder c.class_expression.new.builder _ c.loop-tree.invariant c.loop-tree-test.true c.tree-item.is c.in-Err.fault c.in-Err.ensures.read

pub class_expressions-loop-tree-preserved : goal.class_expressions-loop-tree-preserved
class_expressions-loop-tree-preserved t c =
    read_pushed c.args.trees.now c.loop-tree.tree-index c.tree-item.result c.args.builder.now c.loop-tree.builder c.class_expression.new.builder c.loop-tree.expressions.items c.in-Ok.expression _ c.in-Ok-push.ensures.items c.loop-tree.invariant c.loop-tree-test.true c.tree-item.is c.in-Ok.ensures.read

pub class_expressions-returns-clause-read : goal.class_expressions-returns-clause-read
class_expressions-returns-clause-read t c = read_all c.args.trees.now c.loop-tree.tree-index c.args.builder.now c.loop-tree.builder _ c.loop-tree.invariant (omega (arith, c.loop-tree-test.false))

pub class_expression-returns-in_default-clause-read : goal.class_expression-returns-in_default-clause-read
class_expression-returns-in_default-clause-read t c =
    subst (λ (d : ClassExpression). ClassRead c.class.result d c.args.builder.now c.class.new.builder)
    (class_named (tree_of c.args.tree.now) (no_form c.args.tree.now c.in_default.not-Form)) c.class.ensures.read

pub intersection-returns-in-Ok-add-clause-kept : goal.intersection-returns-in-Ok-add-clause-kept
intersection-returns-in-Ok-add-clause-kept t c = extends_both c.args.builder.now c.class_expressions.new.builder c.add.new.builder c.in-Ok.ensures.kept c.in-Ok-add.ensures.kept

pub intersection-returns-in-Err-add-clause-kept : goal.intersection-returns-in-Err-add-clause-kept
intersection-returns-in-Err-add-clause-kept t c = extends_both c.args.builder.now c.class_expressions.new.builder c.add.new.builder c.in-Ok.ensures.kept c.in-Err-add.ensures.kept

pub some_values-returns-in-Err-class_expression-clause-kept : goal.some_values-returns-in-Err-class_expression-clause-kept
some_values-returns-in-Err-class_expression-clause-kept t c = extends_both c.args.builder.now c.property.new.builder c.class_expression.new.builder c.in-Ok.ensures.kept c.in-Err-class_expression.ensures.kept

pub some_values-returns-in-Ok-add-clause-kept : goal.some_values-returns-in-Ok-add-clause-kept
some_values-returns-in-Ok-add-clause-kept t c = extends_both c.args.builder.now c.class_expression.new.builder c.add.new.builder (extends_both c.args.builder.now c.property.new.builder c.class_expression.new.builder c.in-Ok.ensures.kept c.in-Ok-class_expression.ensures.kept) c.in-Ok-add.ensures.kept

pub some_values-returns-in-Err-add-clause-kept : goal.some_values-returns-in-Err-add-clause-kept
some_values-returns-in-Err-add-clause-kept t c = extends_both c.args.builder.now c.class_expression.new.builder c.add.new.builder (extends_both c.args.builder.now c.property.new.builder c.class_expression.new.builder c.in-Ok.ensures.kept c.in-Ok-class_expression.ensures.kept) c.in-Err-add.ensures.kept

pub class_expressions-returns-in-Err-clause-kept : goal.class_expressions-returns-in-Err-clause-kept
class_expressions-returns-in-Err-clause-kept t c = extends_both c.args.builder.now c.loop-tree.builder c.class_expression.new.builder (extends_of _ _ _ _ c.args.builder.now c.loop-tree.builder c.loop-tree.invariant.adds) c.in-Err.ensures.kept

pub class_expressions-returns-in-Err-push-clause-kept : goal.class_expressions-returns-in-Err-push-clause-kept
class_expressions-returns-in-Err-push-clause-kept t c = extends_both c.args.builder.now c.loop-tree.builder c.class_expression.new.builder (extends_of _ _ _ _ c.args.builder.now c.loop-tree.builder c.loop-tree.invariant.adds) c.in-Ok.ensures.kept

pub class_expressions-returns-clause-kept : goal.class_expressions-returns-clause-kept
class_expressions-returns-clause-kept t c = extends_of _ _ _ _ c.args.builder.now c.loop-tree.builder c.loop-tree.invariant.adds
