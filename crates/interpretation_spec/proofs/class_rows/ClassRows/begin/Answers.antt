use Rattle.std.proofs.Common.{◌≡◌, ap, ◌∙◌, length, arith}
use Rattle.interpretation_spec.proofs.ClassRows.{begun_with}
use Rattle.interpretation_spec.proofs.class_rows.ClassRows.begin.Goals as goal

pub invariant_of-self-2 : goal.invariant_of-self-2
invariant_of-self-2 c =
    let rows = c.self.inside.rows.items in
    let behind : c.len-place.result ≡ length rows = omega arith in
    rw (c.in_ok-push.ensures.items, behind)
    (begun_with rows c.self.inside.places.items c.args.self.now c.args.class c.args.element c.len.result c.in_ok-row.row c.self.invariant c.self.view_is c.requires.class c.requires.none c.requires.element (c.len.ensures ∙ ap length c.at.ensures) c.in_ok-row.ensures).0

pub returns-clause-ok : goal.returns-clause-ok
returns-clause-ok c =
    let rows = c.self.inside.rows.items in
    let behind : c.len-place.result ≡ length rows = omega arith in
    rw (c.in_ok-push.ensures.items, behind)
    (begun_with rows c.self.inside.places.items c.args.self.now c.args.class c.args.element c.len.result c.in_ok-row.row c.self.invariant c.self.view_is c.requires.class c.requires.none c.requires.element (c.len.ensures ∙ ap length c.at.ensures) c.in_ok-row.ensures).1
