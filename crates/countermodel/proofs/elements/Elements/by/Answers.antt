use Rattle.std.proofs.Common.{sym, subst}
use Rattle.std.proofs.lemmas.Result.{IfOk-weaker}
use Rattle.axioms.specs.Ontology.{Ontology}
use Rattle.countermodel.specs.Leading.{IsElementBy}
use Rattle.countermodel.specs.Sets.{IsWithin}
use Rattle.countermodel.proofs.Facts.{satisfiable_within}
use Rattle.countermodel.proofs.Leading.{leads_by}
use Rattle.countermodel.proofs.Listing.{are_satisfiable}
use Rattle.countermodel.proofs.elements.Elements.by.Goals as goal

pub among-requires-clause-within : goal.among-requires-clause-within
among-requires-clause-within c = λ x admitted.
    subst (λ (o : Ontology). IsWithin o x) (sym c.ontology-ontology.ensures)
    (satisfiable_within c.args.closed.now.ontology c.args.closed.now.saturation.normal.asked c.well_formed-2.ensures.ontology x ((c.in_ok-satisfiable.ensures x).0 admitted))

pub returns : goal.returns
returns c =
    let o = c.args.closed.now.ontology in
    let asked = c.args.closed.now.saturation.normal.asked in
    let is = c.in_ok-satisfiable.ensures in
    let leads = leads_by o asked c.args.groups.now c.requires.groups in
    IfOk-weaker c.among.result _ _
    (λ e are. are_satisfiable (IsElementBy c.in_ok-satisfiable.satisfiable c.args.groups.now) e o asked are (λ x. (λ h. ((is x).0 h.0, (leads x).0 h.1), λ h. ((is x).1 h.0, (leads x).1 h.1))))
    c.among.ensures
