use Rattle.std.proofs.Common.{◌≡◌, ◌++◌, ◌-◌, false, length, replicate, sym, ap, ◌∙◌, subst}
use Rattle.std.proofs.lemmas.List.{length-map}
use Rattle.axioms.specs.View.{axiom_of, expr_numbers}
use Rattle.normalise.specs.declared.marks.Marked.{Marked}
use Rattle.normalise.specs.Marks.{AtSide, EachFrom, MarksMore}
use Rattle.normalise.proofs.Occurrences.{marked_again, noted_again}
use Rattle.normalise.proofs.occurring.occurring_again.Goals as goal

pub returns-clause-again : goal.returns-clause-again
returns-clause-again c = λ o before marks there w more.
    let p = c.args.ontology.now in let old = c.args.before.now in let side = AtSide c.args.side in
    let start : Marked = record { marks = c.in_ok-marks.marks; noted = c.new.result } in
    let many : length c.axioms.result.now ≡ length p.axioms = sym (length-map c.axioms.result.now axiom_of) ∙ ap length c.axioms.ensures in
    let first : MarksMore start c.mark_axioms.new.self (EachFrom p.axioms side c.args.from (length p.axioms)) =
    subst (λ n. MarksMore start c.mark_axioms.new.self (EachFrom p.axioms side c.args.from n)) many
    (subst (λ xs. MarksMore start c.mark_axioms.new.self (EachFrom xs side c.args.from (length c.axioms.result.now))) c.axioms.ensures c.in_ok-mark_axioms.ensures) in
    marked_again side p c.well_formed-2.ensures c.args.from (expr_numbers c.args.asked.now) old start c.mark_axioms.new.self c.mark_all.new.self c.close.new.self
    (c.in_ok-marks.ensures ∙ ap (λ n. old ++ replicate (n - length old) false) c.expression_count.ensures) first c.in_ok-mark_all.ensures c.in_ok-close.ensures o before marks there w more

pub returns-clause-noted : goal.returns-clause-noted
returns-clause-noted c =
    let p = c.args.ontology.now in let old = c.args.before.now in let side = AtSide c.args.side in
    let start : Marked = record { marks = c.in_ok-marks.marks; noted = c.new.result } in
    let many : length c.axioms.result.now ≡ length p.axioms = sym (length-map c.axioms.result.now axiom_of) ∙ ap length c.axioms.ensures in
    let first : MarksMore start c.mark_axioms.new.self (EachFrom p.axioms side c.args.from (length p.axioms)) =
    subst (λ n. MarksMore start c.mark_axioms.new.self (EachFrom p.axioms side c.args.from n)) many
    (subst (λ xs. MarksMore start c.mark_axioms.new.self (EachFrom xs side c.args.from (length c.axioms.result.now))) c.axioms.ensures c.in_ok-mark_axioms.ensures) in
    noted_again side p c.well_formed-2.ensures c.args.from (expr_numbers c.args.asked.now) old start c.mark_axioms.new.self c.mark_all.new.self c.close.new.self
    (c.in_ok-marks.ensures ∙ ap (λ n. old ++ replicate (n - length old) false) c.expression_count.ensures) first c.in_ok-mark_all.ensures c.in_ok-close.ensures
