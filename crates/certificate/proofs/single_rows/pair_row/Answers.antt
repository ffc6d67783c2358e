use Rattle.std.proofs.Common.{sym, ap, map, ◌∙◌}
use Rattle.std.proofs.lemmas.List.{map_push}
use Rattle.certificate.specs.Held.{held_pairs}
use Rattle.certificate.specs.Tests.{pair_key}
use Rattle.certificate.specs.TextLines.{last_of}
use Rattle.certificate.specs.View.{pair_row_of, held_pair_row, listing_of}
use Rattle.certificate.proofs.LastRow.{last_held_pairs}
use Rattle.certificate.proofs.TakenRows.{pairs_taken, pairs_none}
use Rattle.certificate.proofs.single_rows.pair_row.Goals as goal

pub returns-in_default : goal.returns-in_default
returns-in_default c =
    let l = c.args.listed.now in
    let rows = map pair_row_of l.rows.pairs.items in
    pairs_none c.args.ontology.now c.args.format (listing_of l) c.args.bytes.now c.last_pair-last.result
    (c.last_pair-last.ensures ∙ ap (λ xs. pair_key (last_of (map pair_row_of xs))) c.deref.ensures.value ∙ sym (last_held_pairs rows)) (rw c.in_default.is at c.in_ok-row.ensures)

pub returns : goal.returns
returns c =
    let l = c.args.listed.now in
    let rows = map pair_row_of l.rows.pairs.items in
    pairs_taken c.args.ontology.now c.args.format (listing_of l) c.args.bytes.now c.last_pair-last.result (held_pair_row c.in-Some.row) (map held_pairs (map pair_row_of c.push.new.self.items))
    (sym c.if-not-may_take_pairs.ensures)
    (c.last_pair-last.ensures ∙ ap (λ xs. pair_key (last_of (map pair_row_of xs))) c.deref.ensures.value ∙ sym (last_held_pairs rows)) (rw c.in-Some.is at c.in_ok-row.ensures)
    (ap (map held_pairs) (ap (map pair_row_of) c.in_ok-push.ensures.items ∙ map_push pair_row_of l.rows.pairs.items c.in-Some.row) ∙ map_push held_pairs rows (pair_row_of c.in-Some.row))
