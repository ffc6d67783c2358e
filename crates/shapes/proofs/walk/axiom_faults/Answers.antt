use Rattle.std.proofs.Common.{◌∙◌, sym}
use Rattle.fs_parser.specs.View.{tree_of}
use Rattle.shapes.proofs.Stating.{form_states, no_form, nothing_stated}
use Rattle.shapes.proofs.walk.axiom_faults.Goals as goal

pub returns-in_default-clause-statement : goal.returns-in_default-clause-statement
returns-in_default-clause-statement c = nothing_stated c.args.context.now.version (tree_of c.args.tree.now) (no_form c.args.tree.now c.in_default.not-Form)

pub returns-in-Some-clause-statement : goal.returns-in-Some-clause-statement
returns-in-Some-clause-statement c =
    c.axiom_in.ensures
    ∙ form_states c.args.context.now.version c.args.tree.now c.in-Form.at c.in-Form.keyword c.in-Form.trees c.in-Form.is c.deref-in-Some.result.now c.deref-in-Some-2.result.now
    c.deref-in-Some.ensures.value c.deref-in-Some-2.ensures.value c.annotation_count.result c.annotation_count.ensures.within c.annotation_count.ensures.others
    c.in-Some.form (sym c.in-Some.is ∙ c.in_ok-form.ensures.form)
