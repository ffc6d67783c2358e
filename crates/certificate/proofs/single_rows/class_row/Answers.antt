use Rattle.std.proofs.Common.{sym, ap, map, ◌∙◌}
use Rattle.std.proofs.lemmas.List.{map_push}
use Rattle.certificate.specs.Held.{held_class}
use Rattle.certificate.specs.Tests.{key}
use Rattle.certificate.specs.TextLines.{last_of}
use Rattle.certificate.specs.View.{class_row_of, held_row, listing_of}
use Rattle.certificate.proofs.LastRow.{last_held_class}
use Rattle.certificate.proofs.TakenRows.{class_taken, class_none}
use Rattle.certificate.proofs.single_rows.class_row.Goals as goal

pub returns-in_default : goal.returns-in_default
returns-in_default c =
    let l = c.args.listed.now in
    let rows = map class_row_of l.rows.classes.items in
    class_none c.args.ontology.now c.args.format (listing_of l) c.args.bytes.now c.last_class-last.result
    (c.last_class-last.ensures ∙ ap (λ xs. key (last_of (map class_row_of xs))) c.deref.ensures.value ∙ sym (last_held_class rows)) (rw c.in_default.is at c.in_ok-row.ensures)

pub returns : goal.returns
returns c =
    let l = c.args.listed.now in
    let rows = map class_row_of l.rows.classes.items in
    class_taken c.args.ontology.now c.args.format (listing_of l) c.args.bytes.now c.last_class-last.result (held_row c.in-Some.row) (map held_class (map class_row_of c.push.new.self.items))
    (sym c.if-not-may_take_class.ensures)
    (c.last_class-last.ensures ∙ ap (λ xs. key (last_of (map class_row_of xs))) c.deref.ensures.value ∙ sym (last_held_class rows)) (rw c.in-Some.is at c.in_ok-row.ensures)
    (ap (map held_class) (ap (map class_row_of) c.in_ok-push.ensures.items ∙ map_push class_row_of l.rows.classes.items c.in-Some.row) ∙ map_push held_class rows (class_row_of c.in-Some.row))
