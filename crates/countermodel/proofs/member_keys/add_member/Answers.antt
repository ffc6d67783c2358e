use Rattle.std.proofs.Common.{◌≡◌, arith, sym, ◌∙◌}
use Rattle.std.proofs.lemmas.Bool.{both_ways}
use Rattle.std.proofs.lemmas.Bool.Decides.{Decides-eqb}
use Rattle.std.proofs.lemmas.Result.{on_ok_weaker}
use Rattle.countermodel.proofs.MemberKeys.{first_member, last_grown, row_begun}
use Rattle.countermodel.proofs.member_keys.add_member.Goals as goal

pub returns-in_default : goal.returns-in_default
returns-in_default c =
    on_ok_weaker c.add_row.result
    (first_member c.args.class.0 c.args.element c.args.rows.now.items c.add_row.new.rows.items c.pop.new.self.items (omega (arith, c.in_default.ensures.cases.0, c.args.rows.now.ok)) c.in_default.ensures.items)
    c.add_row.ensures

pub returns-then-eq : goal.returns-then-eq
returns-then-eq c =
    let row = c.in-Some.row in
    let of : row.class.0 ≡ c.args.class.0 = (Decides-eqb row.class.0 c.args.class.0).0 (sym c.eq.ensures ∙ c.if-eq.true) in
    last_grown c.args.class.0 c.args.element c.args.rows.now.items c.push-then-eq.new.self.items c.pop.new.self.items row c.in-Some.ensures.items (record row { elements = c.push.new.self }) of c.in_ok-push-2.ensures.items of
    c.in_ok-push.ensures.items

pub returns : goal.returns
returns c =
    on_ok_weaker c.add_row-2.result
    (row_begun c.args.class.0 c.args.element c.args.rows.now.items c.add_row-2.new.rows.items c.pop.new.self.items c.in-Some.row c.in-Some.ensures.items c.push-2.new.self.items c.in_ok-push-3.ensures.items
    (λ same. both_ways c.eq.result c.if-eq.false (c.eq.ensures ∙ (Decides-eqb c.in-Some.row.class.0 c.args.class.0).1 same)))
    c.add_row-2.ensures
