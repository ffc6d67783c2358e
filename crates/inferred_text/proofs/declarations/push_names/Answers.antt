use Rattle.std.proofs.Common.{◌++◌, get_or, map, ap, ◌∙◌}
use Rattle.std.specs.List.{filter, flat_map}
use Rattle.std.specs.String.{string_bytes}
use Rattle.answer_texts.specs.Names.{line_feed}
use Rattle.statements_text.specs.Texts.{declaration_text}
use Rattle.inferred_text.proofs.Declared.{declaration_line, from_here, is_from, not_from_here}
use Rattle.inferred_text.proofs.Pieces.{none_left, passed_more, skipped_more}
use Rattle.inferred_text.proofs.declarations.push_names.Goals as goal
use Rattle.inferred_text.proofs.declarations.push_names.Goals.{then-n-first+in_ok-push_declaration, else-n-first}

pub loop-n-preserved : goal.loop-n-preserved
loop-n-preserved c =
    let kind = c.args.kind.now in
    let line = declaration_line kind (map string_bytes c.args.names.now) in
    let first = c.args.first in
    let order = c.deref-n-items.result.now in
    let i = c.loop-n.n-index in
    let n = get_or order i 0 in
    let out = c.loop-n.out.items in
    let whole = c.args.out.now.items ++ flat_map line (filter (is_from first) order) in
    elim c.if-n-first.branch [
      | then-n-first+in_ok-push_declaration w ↦ passed_more line (is_from first) order i out c.if-n-first.out.items whole c.loop-n-test.true (from_here first n w.if-n-first.true)
          (ap (λ o. o.items) w.out-is ∙ w.in_ok-push_declaration.ensures ∙ ap (λ t. out ++ (declaration_text kind t ++ line_feed)) w.name_of.ensures) c.loop-n.invariant
      | else-n-first w ↦ skipped_more line (is_from first) order i out c.if-n-first.out.items whole c.loop-n-test.true (not_from_here first n w.if-n-first.false)
          (ap (λ o. o.items) w.out-is) c.loop-n.invariant
    ]

pub returns : goal.returns
returns c =
    let line = declaration_line c.args.kind.now (map string_bytes c.args.names.now) in
    let own = is_from c.args.first in
    let order = c.deref-n-items.result.now in
    let out = c.args.out.now.items in
    none_left line own order c.loop-n.n-index c.loop-n.out.items (out ++ flat_map line (filter own order)) c.loop-n-test.false c.loop-n.invariant
    ∙ ap (λ ns. out ++ flat_map line (filter own ns)) (c.deref-n-items.ensures.value ∙ c.in_ok-order.ensures)
