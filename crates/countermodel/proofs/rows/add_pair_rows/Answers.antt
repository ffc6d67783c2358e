use Rattle.std.proofs.Common.{◌↔◌, List, Contains, None, ap, length, map, subst, arith}
use Rattle.std.proofs.lemmas.Result.{on_ok_weaker}
use Rattle.axioms.specs.Ontology.{Ontology}
use Rattle.axioms.specs.WellFormedness.{IsOntology}
use Rattle.certificate.specs.View.{pair_row_of}
use Rattle.certificate.specs.declared.listed.PairRow.{PairRow}
use Rattle.closure.specs.Closure.{Context}
use Rattle.engine.specs.Saturations.{IsSaturated, Saturated}
use Rattle.facts.specs.declared.contexts.Fact.{Fact}
use Rattle.inference.specs.PropertyClosures.{IsClosureOf}
use Rattle.property_closure.specs.PropertyClosures.{Known}
use Rattle.countermodel.specs.declared.pair.Pair.{Pair}
use Rattle.countermodel.specs.Edges.{IsGiven}
use Rattle.countermodel.specs.FactsOf.{AreFactsOf}
use Rattle.countermodel.specs.PairRows.{ArePairRows}
use Rattle.countermodel.specs.Pairs.{AreGrouped}
use Rattle.countermodel.specs.Ranges.{HasRowsBelow}
use Rattle.countermodel.specs.Sinks.{Adds}
use Rattle.countermodel.proofs.GroupedRows.{with_the_last, without_last}
use Rattle.countermodel.proofs.ListedPairs.{are_rows, edge_of_pair, one_place, property_there}
use Rattle.countermodel.proofs.PartFacts.{given_in}
use Rattle.countermodel.proofs.rows.add_pair_rows.Goals as goal

pub cuts_of-requires-clause-distinct : goal.cuts_of-requires-clause-distinct
cuts_of-requires-clause-distinct g c = one_place c.args.elements.now c.requires.ascend

pub add_ranges-requires-clause-distinct : goal.add_ranges-requires-clause-distinct
add_ranges-requires-clause-distinct g c = one_place c.args.elements.now c.requires.ascend

-- the property of a pair that the facts give is there
pub add_ranges-requires-clause-there : goal.add_ranges-requires-clause-there
add_ranges-requires-clause-there g c p h =
    let o = c.args.closed.now.ontology in
    let s = c.args.closed.now.saturation in
    let k = c.closure-closure.result.now in
    let given = (given_in c.args.elements.now s.state.facts c.args.facts.now c.requires.facts k p).0 h in
    let (x, y, _, _, edge) = edge_of_pair o s c.well_formed-2.ensures.saturated k c.closure-closure.ensures c.args.elements.now p given in
    omega (arith, property_there o s.normal.asked c.well_formed-2.ensures.ontology x y p.property.0 edge, c.properties-properties.ensures.count, ap (λ (x : Ontology). length x.names.properties) c.ontology-ontology.ensures)

-- rows of the pairs that the facts give are those of the listed interpretation
all_rows : (o : Ontology) (s : Saturated) → IsSaturated o s → (k : Known) → IsClosureOf s.state.problem.forms k → (elements : List Context) → IsOntology o
    → (facts : List Fact) → AreFactsOf elements s.state.facts facts → (pairs : List Pair) → ((p : Pair) → Contains pairs p ↔ (IsGiven k elements facts p × Unit {0}))
    → (took : List PairRow → Type 0) → Adds (λ rs. AreGrouped pairs (map pair_row_of rs)) took → Adds (λ rs. ArePairRows o s.normal.asked elements (map pair_row_of rs)) took
all_rows o s saturated k closed elements ontology facts of pairs are took a =
    let given : (p : Pair) → Contains pairs p ↔ IsGiven k elements s.state.facts p = λ p. (
      λ c. (given_in elements s.state.facts facts of k p).0 ((are p).0 c).0,
      λ h. (are p).1 ((given_in elements s.state.facts facts of k p).1 h, tt),
    ) in
    record { rows = a.rows; are = are_rows o s saturated k closed elements ontology pairs (map pair_row_of a.rows) given a.are; added = a.added }

pub returns-in-None : goal.returns-in-None
returns-in-None g c =
    let adds = g.S.RowSink.adds in
    let start = c.args.rows.now in
    let now = c.add_ranges.new.rows in
    let k = c.closure-closure.result.now in
    let h = subst (HasRowsBelow adds (IsGiven k c.args.elements.now c.args.facts.now) start None now) c.in-None.is c.in_ok-add_ranges.ensures in
    all_rows c.args.closed.now.ontology c.args.closed.now.saturation c.well_formed-2.ensures.saturated k c.closure-closure.ensures c.args.elements.now c.well_formed-2.ensures.ontology c.args.facts.now c.requires.facts h.pairs h.are
    (adds start now) (without_last adds start h.pairs now h.grouped)

pub returns : goal.returns
returns g c =
    let adds = g.S.RowSink.adds in
    let start = c.args.rows.now in
    let k = c.closure-closure.result.now in
    let h = subst (HasRowsBelow adds (IsGiven k c.args.elements.now c.args.facts.now) start None c.add_ranges.new.rows) c.in-Some.is c.in_ok-add_ranges.ensures in
    on_ok_weaker c.add.result
    (λ takes. all_rows c.args.closed.now.ontology c.args.closed.now.saturation c.well_formed-2.ensures.saturated k c.closure-closure.ensures c.args.elements.now c.well_formed-2.ensures.ontology c.args.facts.now c.requires.facts h.pairs h.are
    (adds start c.add.new.self) (with_the_last adds start h.pairs c.add_ranges.new.rows c.add.new.self c.in-Some.row takes h.grouped))
    c.add.ensures
