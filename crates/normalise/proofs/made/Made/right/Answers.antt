use Rattle.std.proofs.Common.{refl, sym, subst}
use Rattle.axioms.specs.View.{expr_numbers, node_of}
use Rattle.normalise.specs.View.{Adds, From}
use Rattle.normal_forms.specs.Forms.{Whole, N3}
use Rattle.axioms.specs.Ontology.{And}
use Rattle.normal_forms.specs.Origins.{RightGives}
use Rattle.normalise.proofs.made.Made.right.Goals as goal

pub returns-in_ok-right_and-in-And : goal.returns-in_ok-right_and-in-And
returns-in_ok-right_and-in-And c =
    subst (λ a. Adds c.args.self.now c.right_and.new.self (From c.args.origin (RightGives c.args.whole.0 (node_of a)))) (sym c.in-And.is)
    (subst (λ xs. Adds c.args.self.now c.right_and.new.self (From c.args.origin (RightGives c.args.whole.0 (And (expr_numbers xs))))) c.deref.ensures.value c.in_ok-right_and-in-And.ensures)

pub returns-in_ok-add-in-Some : goal.returns-in_ok-add-in-Some
returns-in_ok-add-in-Some c =
    subst (λ a. Adds c.args.self.now c.add.new.self (From c.args.origin (RightGives c.args.whole.0 (node_of a)))) (sym c.in-Some.is)
    (c.in_ok-add-in-Some.ensures.forms (N3 (Whole c.args.whole.0) c.in-Some.prop.0 c.in-Some.filler.0) (Whole c.args.whole.0, refl, refl))
