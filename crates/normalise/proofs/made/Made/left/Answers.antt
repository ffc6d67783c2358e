use Rattle.std.proofs.Common.{ℕ, refl, sym, subst}
use Rattle.axioms.specs.View.{expr_numbers, node_of}
use Rattle.normal_forms.specs.Origins.{AndGives}
use Rattle.normalise.specs.View.{Adds, From}
use Rattle.normal_forms.specs.Forms.{Whole, N4}
use Rattle.normal_forms.specs.Origins.{LeftGives}
use Rattle.normalise.proofs.made.Made.left.Goals as goal

pub returns-in_ok-left_and-in-And : goal.returns-in_ok-left_and-in-And
returns-in_ok-left_and-in-And c =
    subst (λ a. Adds c.args.self.now c.left_and.new.self (From c.args.origin (LeftGives c.args.whole.0 (node_of a)))) (sym c.in-And.is)
    (subst (λ xs. Adds c.args.self.now c.left_and.new.self (From c.args.origin (λ g. (n : ℕ) × AndGives (expr_numbers xs) c.args.whole.0 n g))) c.deref.ensures.value c.in_ok-left_and-in-And.ensures)

pub returns-in_ok-add-in-Some : goal.returns-in_ok-add-in-Some
returns-in_ok-add-in-Some c =
    subst (λ a. Adds c.args.self.now c.add.new.self (From c.args.origin (LeftGives c.args.whole.0 (node_of a)))) (sym c.in-Some.is)
    (c.in_ok-add-in-Some.ensures.forms (N4 c.in-Some.prop.0 (Whole c.in-Some.filler.0) (Whole c.args.whole.0)) (Whole c.in-Some.filler.0, Whole c.args.whole.0, refl, refl, refl))
