use Rattle.std.proofs.Common.{◌≡◌, length, ap, subst, arith}
use Rattle.axioms.specs.View.{expr_numbers}
use Rattle.normal_forms.specs.Occurrences.{AtLeft, AtRight}
use Rattle.normalise.specs.Growth.{AreMarkedAgain}
use Rattle.normalise.specs.Listing.{Listing}
use Rattle.normalise.specs.Named.{AreNamedBelowMarks}
use Rattle.normalise.proofs.Grown.{grown_kept, grown_normal}
use Rattle.normalise.proofs.Named.{left_there, named_more, right_there}
use Rattle.normalise.proofs.normal.Normal.more.Goals as goal

pub returns-clause-kept : goal.returns-clause-kept
returns-clause-kept c = grown_kept c.args.ontology.now c.args.from c.args.self.now _ _ _ _ _ c.in_ok-made.made c.in_ok-made.ensures

pub returns-clause-forms : goal.returns-clause-forms
returns-clause-forms c = λ more o n w.
    let p = c.args.ontology.now in let v = c.args.self.now in let from = c.args.from in
    let asked = expr_numbers c.args.asked.items in
    let right = c.in_ok-right.right.marks in let left = c.in_ok-left.left.marks in
    let named : AreNamedBelowMarks v = subst AreNamedBelowMarks c.self.view_is c.self.invariant in
    let right_again : AreMarkedAgain AtRight p from asked v.right right =
    subst (λ b. AreMarkedAgain AtRight p from asked b right) (ap (λ (v : Listing). v.right) c.self.view_is)
    (subst (λ xs. AreMarkedAgain AtRight p from (expr_numbers xs) c.self.inside.right right) c.deref.ensures.value c.in_ok-right.ensures.again) in
    let left_again : AreMarkedAgain AtLeft p from asked v.left left =
    subst (λ b. AreMarkedAgain AtLeft p from asked b left) (ap (λ (v : Listing). v.left) c.self.view_is)
    (subst (λ xs. AreMarkedAgain AtLeft p from (expr_numbers xs) c.self.inside.left left) c.deref-2.ensures.value c.in_ok-left.ensures.again) in
    grown_normal o p v asked right left from w more
    (right_again o v.asked n.right (right_there o p from v c.well_formed-2.ensures n w named) w more)
    (left_again o v.asked n.left (left_there o p from v c.well_formed-2.ensures n w named) w more)
    c.in_ok-made.made c.in_ok-made.ensures n

pub returns-clause-named : goal.returns-clause-named
returns-clause-named c =
    let p = c.args.ontology.now in let v = c.args.self.now in
    let right = c.in_ok-right.right.marks in
    let named : AreNamedBelowMarks v = subst AreNamedBelowMarks c.self.view_is c.self.invariant in
    let before : length c.self.inside.right ≡ length v.right = ap length (ap (λ (v : Listing). v.right) c.self.view_is) in
    named_more p c.args.from v right c.in_ok-left.left.marks c.in_ok-made.made c.well_formed-2.ensures c.in_ok-made.ensures named (length right)
    (omega (arith, before, c.in_ok-right.ensures.long)) (omega (arith, before, c.in_ok-right.ensures.long))
