use Rattle.std.proofs.Common.{◌+◌, [], ◌∷◌, ◌++◌, ap, sym, ◌∙◌, subst}
use Rattle.std.proofs.lemmas.Option.{MatchOption-at_none, MatchOption-at_some}
use Rattle.std.specs.Prelude.{slice_set}
use Rattle.number_sets.specs.Pieces.{list_at}
use Rattle.countermodel.proofs.Members.{HasPut, none_put, nothing_put, one_put, all_put}
use Rattle.countermodel.proofs.class_rows.members.Goals as goal
use Rattle.countermodel.proofs.class_rows.members.Goals.{in-Some+in_ok-push, in_default}

pub loop-fact-init : goal.loop-fact-init
loop-fact-init c =
    subst (HasPut c.args.ontology.now c.args.elements.now c.args.facts.now 0) (sym c.in_ok-lists.ensures) (none_put c.args.ontology.now c.args.elements.now c.args.facts.now)

pub loop-fact-preserved : goal.loop-fact-preserved
loop-fact-preserved c =
    let o = c.args.ontology.now in
    let elements = c.args.elements.now in
    let facts = c.args.facts.now in
    let k = c.loop-fact.fact-index in
    let lists = c.loop-fact.lists in
    let told = c.member_by.ensures o c.in_ok-own.ensures in
    elim c.match-member_by.branch [
      | in-Some+in_ok-push w ↦
          subst (HasPut o elements facts (k + 1)) (sym (w.lists-is ∙ (w.in_ok-push.ensures.ok ∙ ap (λ e. slice_set lists e (list_at lists e ++ w.in-Some.element ∷ [])) w.index.ensures)))
          (one_put o elements facts k _ lists c.loop-fact-test.true c.loop-fact.invariant c.requires _ w.in-Some.element (rw c.fact-item.is at (MatchOption-at_some _ _ _ w.in-Some.is told)))
      | in_default w ↦
          subst (HasPut o elements facts (k + 1)) (sym w.lists-is)
          (nothing_put o elements facts k _ lists c.loop-fact-test.true c.loop-fact.invariant (rw c.fact-item.is at (MatchOption-at_none _ _ w.in_default.is told)))
    ]

pub returns-clause-members : goal.returns-clause-members
returns-clause-members c = all_put c.args.ontology.now c.args.elements.now c.args.facts.now c.loop-fact.fact-index c.loop-fact.lists c.loop-fact-test.false c.loop-fact.invariant
