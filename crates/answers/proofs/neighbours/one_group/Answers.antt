use Rattle.std.proofs.Common.{◌∙◌, ◌∷◌, [], ◌++◌, List, map, sym, ap, arith}
use Rattle.std.proofs.lemmas.Bool.{eqb-false, eqb-true}
use Rattle.std.proofs.lemmas.List.{length-map}
use Rattle.axioms.specs.Expression.{Iri}
use Rattle.answers.specs.Names.{groups_in}
use Rattle.answers.proofs.Neighbouring as neighbouring
use Rattle.answers.proofs.neighbours.one_group.Goals as goal
use Rattle.answers.proofs.neighbours.one_group.Goals.{then-not-is_empty+in_ok-push, else-not-is_empty}

pub returns : goal.returns
returns c =
    let o = c.args.indexed.now.ontology in
    let found = c.in_ok-names.names in
    let names : List Iri = map (λ s. s.now) found.items in
    let many = length-map found.items (λ s. s.now) in
    elim c.if-not-is_empty.branch [
      | then-not-is_empty+in_ok-push w ↦
          neighbouring.one_group o c.args.marks.now names c.in_ok-names.ensures c.requires (omega (arith, many, found.ok, eqb-false found.len 0 (sym c.is_empty.ensures ∙ w.if-not-is_empty.true))) _
          (rw w.groups-is (ap groups_in (w.in_ok-push.ensures.items ∙ ap (λ gs. gs ++ found ∷ []) c.new-groups.ensures.items)))
      | else-not-is_empty w ↦
          neighbouring.no_group o c.args.marks.now names c.in_ok-names.ensures (omega (arith, many, found.ok, eqb-true found.len 0 (sym c.is_empty.ensures ∙ w.if-not-is_empty.false))) _
          (rw w.groups-is (ap groups_in c.new-groups.ensures.items))
    ]
