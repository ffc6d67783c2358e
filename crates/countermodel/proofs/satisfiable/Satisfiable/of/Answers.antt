use Rattle.std.proofs.Common.{subst, sym}
use Rattle.axioms.specs.Ontology.{Ontology}
use Rattle.closure.specs.Denotations.{context_of}
use Rattle.normalise.specs.Problem.{prefixes_of}
use Rattle.engine.specs.Saturations.{SayTheClosure}
use Rattle.countermodel.specs.Sets.{IsWithin}
use Rattle.countermodel.proofs.Facts.{said_within, satisfiable_are}
use Rattle.countermodel.proofs.satisfiable.Satisfiable.of.Goals as goal

pub contexts_with-requires : goal.contexts_with-requires
contexts_with-requires c = λ x there.
    let o = c.args.closed.now.ontology in
    let s = c.args.closed.now.saturation in
    let b = prefixes_of s.normal in
    let says = subst (SayTheClosure o s.normal.asked b) (sym c.facts-facts.ensures) c.well_formed-2.ensures.saturated.facts in
    subst (λ (k : Ontology). IsWithin k (context_of x)) (sym c.ontology-ontology.ensures)
    (said_within o s.normal.asked b c.facts-facts.result.now says c.well_formed-2.ensures.ontology (record { 0 = 0 }) x there)

pub contexts_with-requires-2 : goal.contexts_with-requires-2
contexts_with-requires-2 c = λ x there.
    let o = c.args.closed.now.ontology in
    let s = c.args.closed.now.saturation in
    let b = prefixes_of s.normal in
    let says = subst (SayTheClosure o s.normal.asked b) (sym c.facts-facts.ensures) c.well_formed-2.ensures.saturated.facts in
    subst (λ (k : Ontology). IsWithin k (context_of x)) (sym c.ontology-ontology.ensures)
    (said_within o s.normal.asked b c.facts-facts.result.now says c.well_formed-2.ensures.ontology (record { 0 = 1 }) x there)

pub returns : goal.returns
returns c =
    let o = c.args.closed.now.ontology in
    let s = c.args.closed.now.saturation in
    let b = prefixes_of s.normal in
    let says = subst (SayTheClosure o s.normal.asked b) (sym c.facts-facts.ensures) c.well_formed-2.ensures.saturated.facts in
    satisfiable_are o s.normal.asked b c.facts-facts.result.now says c.well_formed-2.ensures.ontology
    (record { things = c.in_ok-things.things; nothings = c.in_ok-nothings.nothings }) c.in_ok-things.ensures c.in_ok-nothings.ensures
