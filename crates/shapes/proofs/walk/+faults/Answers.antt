use Rattle.std.proofs.Common.{◌∙◌, ◌++◌, [], List, Vec, Global, ◌≤◌, ◌+◌, arith, drop, false, true, refl, sym, subst, ap}
use Rattle.fs_parser.specs.Tree.{Form, Tree}
use Rattle.fs_parser.specs.View.{tree_of, trees_of}
use Rattle.shapes.proofs.Lists.{FindsAmong, earlier, earlier_next, finds_more, was_new, was_repeated, fits_behind, fitting_form, form_found, not_repeated, operand_step, repeated, unfitting_form}
use Rattle.shapes.specs.declared.fault.Fault as code
use Rattle.shapes.specs.Faults.{Fault, faults_among, faults_inside, own_trees, front_faults}
use Rattle.shapes.specs.View.{faults_of, names_of, operand_trees, operands_view}
use Rattle.shapes.specs.Shapes.{Many}
use Rattle.shapes.proofs.walk.+faults.Goals as goal
use Rattle.shapes.proofs.walk.+faults.Goals.{few_faults-then-is_repeated+in_ok-tell, few_faults-else-is_repeated+in_ok-tree_faults, distinct_faults-then-branch+in_ok-tree_faults, distinct_faults-else-branch+in_ok-tell}

pub form_faults-returns-then-not-fits_count-clause-found : goal.form_faults-returns-then-not-fits_count-clause-found
form_faults-returns-then-not-fits_count-clause-found t c =
    let context = c.args.context.now in
    let ts = c.args.trees.now in
    let operands = operands_view c.in-Some.shape.operands in
    let fits = fits_behind c.args.expected operands ts c.annotations_in_front-in_front.result _ c.annotations_in_front-in_front.ensures.others c.if-not-fits_count.ensures in
    c.in_ok-tell-2.ensures
    ∙ ap (λ (fs : List Fault). faults_of c.args.found.now.items ++ fs)
    (sym (unfitting_form context.version (names_of context) c.args.expected c.args.at c.args.keyword.now (trees_of ts) operands (sym c.in-Some.ensures.operands) fits))

pub form_faults-returns-clause-found : goal.form_faults-returns-clause-found
form_faults-returns-clause-found t c =
    let context = c.args.context.now in
    let ts = c.args.trees.now in
    let operands = operands_view c.in-Some.shape.operands in
    let fits = fits_behind c.args.expected operands ts c.annotations_in_front-in_front.result _ c.annotations_in_front-in_front.ensures.others c.if-not-fits_count.ensures in
    let all = fitting_form context.version (names_of context) c.args.expected c.args.at c.args.keyword.now (trees_of ts) operands (sym c.in-Some.ensures.operands) fits in
    form_found context.version (names_of context) (faults_of c.args.found.now.items) (front_faults context.version (names_of context) c.args.expected (trees_of ts)) _ _
    (faults_among context.version (names_of context) c.args.expected (Form c.args.at c.args.keyword.now (trees_of ts))) operands _ (own_trees c.args.expected (trees_of ts))
    c.annotations_in_front-in_front.ensures.others all c.in_ok-annotation_faults.ensures c.in_ok-operand_faults.ensures

pub few_faults-loop-index-preserved : goal.few_faults-loop-index-preserved
few_faults-loop-index-preserved t c =
    let ts = c.args.trees.now in
    let n = c.args.in_front in
    let i = c.loop-index.index in
    let next = c.index-trees-index.result in
    let operands = operands_view c.loop-index.left in
    let before = earlier ts n i in
    let found = faults_of c.loop-index.found.items in
    let step = operand_step c.args.context.now.version (names_of c.args.context.now) (faults_of c.args.found.now.items ++ faults_inside c.args.context.now.version (names_of c.args.context.now) false [] (operands_view c.args.operands) (trees_of (drop n ts)))
    found (faults_of c.if-is_repeated.found.items) operands (operands_view c.later-left.result) ts n i next
    (omega (arith, c.loop-index.auto.index)) c.loop-index-test.true c.index-trees-index.is c.later-left.ensures c.loop-index.invariant in
    elim c.if-is_repeated.branch [
      | few_faults-then-is_repeated+in_ok-tell w ↦ step (ap (λ (v : Vec code.Fault Global). faults_of v.items) w.found-is ∙ w.in_ok-tell.ensures
          ∙ ap (λ (fs : List Fault). found ++ fs) (repeated c.args.context.now.version (names_of c.args.context.now) before operands (tree_of next) w.at.result w.if-is_repeated.ensures w.at.ensures))
      | few_faults-else-is_repeated+in_ok-tree_faults w ↦ step (ap (λ (v : Vec code.Fault Global). faults_of v.items) w.found-is ∙ w.in_ok-tree_faults.ensures
          ∙ ap (λ (fs : List Fault). found ++ fs) (not_repeated c.args.context.now.version (names_of c.args.context.now) before operands (tree_of next) w.next.result w.if-is_repeated.ensures w.next.ensures))
    ]

pub distinct_faults-loop-index-preserved : goal.distinct_faults-loop-index-preserved
distinct_faults-loop-index-preserved t c =
    let version = c.args.context.now.version in
    let names = names_of c.args.context.now in
    let ts = c.args.trees.now in
    let n = c.args.in_front in
    let i = c.loop-index.index in
    let next = c.index-trees-index.result in
    let operand = c.args.operand in
    let before = earlier ts n i in
    let table = operand_trees c.loop-index.seen.keys in
    let found = faults_of c.loop-index.found.items in
    let finds = c.loop-index.invariant.1 in
    let within : n ≤ i = omega (arith, c.loop-index.auto.index) in
    let step = operand_step version names (faults_of c.args.found.now.items ++ faults_inside version names false [] (Many true operand) (trees_of (drop n ts)))
    found (faults_of c.if-branch.found.items) (Many true operand) (Many true operand) ts n i next
    within c.loop-index-test.true c.index-trees-index.is refl c.loop-index.invariant.0 in
    let P : List Tree → Type 0 = FindsAmong (operand_trees c.is_new.new.seen.keys) in
    let finds' : P (earlier ts n (i + 1)) = subst P (sym (earlier_next ts n i next within c.loop-index-test.true c.index-trees-index.is))
    (finds_more table (operand_trees c.is_new.new.seen.keys) before (tree_of next) finds c.in_ok-is_new.ensures.seen) in (
      elim c.if-branch.branch [
        | distinct_faults-then-branch+in_ok-tree_faults w ↦ step (ap (λ (v : Vec code.Fault Global). faults_of v.items) w.found-is ∙ w.in_ok-tree_faults.ensures
            ∙ ap (λ (fs : List Fault). found ++ fs) (was_new version names before table operand (tree_of next) c.in_ok-is_new.field-0 finds c.in_ok-is_new.ensures.new w.if-branch.true))
        | distinct_faults-else-branch+in_ok-tell w ↦ step (ap (λ (v : Vec code.Fault Global). faults_of v.items) w.found-is ∙ w.in_ok-tell.ensures
            ∙ ap (λ (fs : List Fault). found ++ fs) (was_repeated version names before table operand (tree_of next) w.at.result c.in_ok-is_new.field-0 finds c.in_ok-is_new.ensures.new w.if-branch.false w.at.ensures))
      ],
      finds',
    )
