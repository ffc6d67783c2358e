use Rattle.std.proofs.Common.{◌↔◌, ◌<◌, List, Contains, length, sym, ap, ◌∙◌, subst, subst₂}
use Rattle.axioms.specs.Ontology.{Ontology}
use Rattle.axioms.specs.declared.ids.IndId.{IndId}
use Rattle.facts.specs.Closure.{Problem}
use Rattle.normal_forms.specs.Apart.{AreListedAt}
use Rattle.normal_forms.specs.Forms.{AtOrderedPlaces}
use Rattle.normal_forms.specs.declared.apart.ApartLists.{ApartLists}
use Rattle.number_sets.specs.Pieces.{list_at}
use Rattle.explain.specs.Search.{AreLeadsWithin, LeadsOver}
use Rattle.explain.proofs.Different.{ChainTo, chain_in_list}
use Rattle.explain.proofs.SameLines.{links_within}
use Rattle.explain.proofs.apart.chain_to_another.Goals as goal

pub chain_to_one-requires-clause-within : goal.chain_to_one-requires-clause-within
chain_to_one-requires-clause-within c =
    subst₂ (λ k (p : Problem). AreLeadsWithin k (LeadsOver p.forms)) (sym (c.individuals-individuals.ensures.count ∙ ap (λ (o : Ontology). length o.names.individuals) c.ontology-ontology.ensures)) (sym c.problem-problem.ensures)
    (links_within c.args.basis.now.closed.now.ontology c.args.basis.now.closed.now.saturation c.well_formed-2.ensures.saturated c.well_formed-2.ensures.ontology)

pub chain_to_one-requires-clause-there : goal.chain_to_one-requires-clause-there
chain_to_one-requires-clause-there c = subst (λ k. c.args.individual.0 < k) (sym (c.individuals-individuals.ensures.count ∙ ap (λ (o : Ontology). length o.names.individuals) c.ontology-ontology.ensures)) c.requires.there

pub returns : goal.returns
returns c =
    let s = c.args.basis.now.closed.now.saturation in
    let i = c.args.individual in
    let members = c.at.ensures ∙ ap (λ (k : ApartLists). list_at k.individuals c.args.list) (c.apart.ensures ∙ ap (λ (p : Problem). p.apart) c.problem-problem.ensures ∙ c.well_formed-2.ensures.saturated.apart) in
    let behind = subst (λ (xs : List IndId). (j : IndId) → Contains c.behind-others.result.now j ↔ AtOrderedPlaces xs i j) members c.behind-others.ensures in
    subst (λ (p : Problem). ChainTo (λ v. v.items) (AreListedAt s.normal.apart.individuals c.args.list i) p.forms i c.chain_to_one.result) c.problem-problem.ensures
    (chain_in_list (λ v. v.items) c.problem-problem.result.now.forms s.normal.apart.individuals c.args.list i c.behind-others.result.now c.chain_to_one.result behind c.chain_to_one.ensures)
