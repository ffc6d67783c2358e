use Rattle.std.proofs.Common.{◌+◌, ◌++◌, get_or, drop, map, sym, ap, ◌∙◌}
use Rattle.std.specs.String.{string_bytes}
use Rattle.axioms.specs.Ontology.{name_at}
use Rattle.taxonomy.specs.Texts.{bracketed, listed}
use Rattle.taxonomy.proofs.Lines.{listed-more, written-more}
use Rattle.taxonomy.proofs.names.write_names.Goals as goal

pub loop-n-preserved : goal.loop-n-preserved
loop-n-preserved c =
    let names = map string_bytes c.args.names.now in
    let i = c.loop-n.n-index in
    let ns = c.args.classes.now in
    let lead = c.loop-n.before.now in
    let between = c.args.between.now in
    let name = bracketed (name_at names (get_or ns i 0)) in
    let rest = listed names between between (drop (i + 1) ns) in
    rw (c.in_ok-write_name.ensures, c.in_ok-extend_from_slice.ensures.items)
    (written-more c.loop-n.out.items lead name rest
    ∙ ap (λ t. c.loop-n.out.items ++ t) (sym (listed-more names lead between ns i c.loop-n-test.true))
    ∙ c.loop-n.invariant)
