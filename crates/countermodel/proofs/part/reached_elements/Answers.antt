use Rattle.std.proofs.Common.{◌↔◌, ℕ, List, Contains, sym, ap, ◌∙◌, subst}
use Rattle.std.proofs.lemmas.Result.{IfOk-weaker}
use Rattle.axioms.specs.Ontology.{Ontology}
use Rattle.axioms.specs.WellFormedness.{IsOntology}
use Rattle.certificate.specs.Writability.{Ascends}
use Rattle.closure.specs.Closure.{Expression}
use Rattle.closure.specs.Denotations.{context_of}
use Rattle.engine.specs.Closed.{Closed}
use Rattle.facts.specs.declared.contexts.Context as code
use Rattle.countermodel.specs.ContextLists.{expression_at}
use Rattle.countermodel.specs.Leading.{IsElementBy}
use Rattle.countermodel.specs.Reached.{IsReachedFrom}
use Rattle.countermodel.specs.Sets.{IsAdmitted, IsWithin}
use Rattle.countermodel.proofs.Facts.{satisfiable_within}
use Rattle.countermodel.proofs.Leading.{leads_by}
use Rattle.countermodel.proofs.Listing.{all_same}
use Rattle.countermodel.proofs.PartListed.{reached_has}
use Rattle.countermodel.proofs.part.reached_elements.Goals as goal

pub reached_from-requires-clause-within : goal.reached_from-requires-clause-within
reached_from-requires-clause-within c =
    let w = subst (λ (k : Closed). IsOntology k.ontology) c.closed-closed.ensures c.well_formed-2.ensures.ontology in
    satisfiable_within c.args.indexed.now.ontology c.args.indexed.now.saturation.normal.asked w (context_of c.args.from) c.requires.satisfiable

pub of_expressions-requires-clause-within : goal.of_expressions-requires-clause-within
of_expressions-requires-clause-within c = λ x admitted.
    let o = c.args.indexed.now.ontology in
    let asked = c.args.indexed.now.saturation.normal.asked in
    let w = subst (λ (k : Closed). IsOntology k.ontology) c.closed-closed.ensures c.well_formed-2.ensures.ontology in
    let is = c.ontology-ontology.ensures ∙ ap (λ (k : Closed). k.ontology) c.closed-closed.ensures in
    let reached = (c.in_ok-found.ensures.reached x).0 (sym (c.in_ok-satisfiable.ensures x) ∙ admitted) in
    subst (λ (k : Ontology). IsWithin k x) (sym is)
    (satisfiable_within o asked w x (reached_has o asked c.requires.consistent (context_of c.args.from) c.requires.satisfiable c.requires.leads x reached).0)

pub of_expressions-requires-clause-ascend : goal.of_expressions-requires-clause-ascend
of_expressions-requires-clause-ascend c = subst Ascends (sym c.deref-2.ensures.value) c.in_ok-expressions.ensures.ascend

pub of_expressions-requires-clause-numbers : goal.of_expressions-requires-clause-numbers
of_expressions-requires-clause-numbers c =
    let s = c.in_ok-satisfiable.satisfiable in
    let search = c.in_ok-found.ensures.search in
    let says : (e : ℕ) → Contains c.in_ok-expressions.expressions.items e ↔ IsAdmitted s (Expression e) = λ e. (
      λ there.
          let c' = subst (λ (xs : List code.Context). Contains xs (expression_at e)) c.deref.ensures.value ((c.in_ok-expressions.ensures.same e).0 there) in
          c.in_ok-satisfiable.ensures (Expression e) ∙ (search.same (expression_at e)).1 c',
      λ is.
          let c' = (search.same (expression_at e)).0 (sym (c.in_ok-satisfiable.ensures (Expression e)) ∙ is) in
          (c.in_ok-expressions.ensures.same e).1 (subst (λ (xs : List code.Context). Contains xs (expression_at e)) (sym c.deref.ensures.value) c'),
    ) in
    subst (λ (ns : List ℕ). (e : ℕ) → Contains ns e ↔ IsAdmitted s (Expression e)) (sym c.deref-2.ensures.value) says

pub returns : goal.returns
returns c =
    let o = c.args.indexed.now.ontology in
    let asked = c.args.indexed.now.saturation.normal.asked in
    let from = context_of c.args.from in
    let leads = leads_by o asked c.args.groups.now c.requires.groups in
    IfOk-weaker c.of_expressions.result _ _
    (λ e are. all_same (IsElementBy c.in_ok-satisfiable.satisfiable c.args.groups.now) (IsReachedFrom o asked from) e
    (λ x. (
      λ h. (c.in_ok-found.ensures.reached x).0 (sym (c.in_ok-satisfiable.ensures x) ∙ h.0),
      λ h. (
        c.in_ok-satisfiable.ensures x ∙ (c.in_ok-found.ensures.reached x).1 h,
        (leads x).1 (reached_has o asked c.requires.consistent from c.requires.satisfiable c.requires.leads x h).1,
      ),
    )) are)
    c.of_expressions.ensures
