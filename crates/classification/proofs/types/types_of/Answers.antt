use Rattle.std.proofs.Common.{All, get_or, subst₂, sym}
use Rattle.std.proofs.lemmas.List.Elements.{Contains-get_or}
use Rattle.std.proofs.lemmas.Result.{IfOk-weaker}
use Rattle.normalise.specs.Problem.{prefixes_of}
use Rattle.classification.specs.Lists.{AreTypeLists, IsAboutIndividualOf}
use Rattle.classification.proofs.Saying.{about_individual, say_alone}
use Rattle.classification.proofs.Taxonomy.{are_types}
use Rattle.classification.proofs.types.types_of.Goals as goal

pub type_lists-requires : goal.type_lists-requires
type_lists-requires c =
    let o = c.args.closed.now.ontology in
    let s = c.args.closed.now.saturation in
    let fs = s.state.facts in
    let each : All (IsAboutIndividualOf o) fs = λ k d l. about_individual o s.normal.asked c.well_formed-2.ensures.ontology (prefixes_of s.normal) fs c.well_formed-2.ensures.saturated.facts (get_or fs k d) (Contains-get_or fs k d l) in
    subst₂ (λ p facts. All (IsAboutIndividualOf p) facts) (sym c.ontology.ensures) (sym c.facts.ensures) each

pub returns : goal.returns
returns c =
    let o = c.args.closed.now.ontology in
    let s = c.args.closed.now.saturation in
    IfOk-weaker c.type_lists.result _ _ (λ lists are. are_types o c.well_formed-2.ensures.ontology (prefixes_of s.normal) s.state.facts (say_alone o s c.well_formed-2.ensures.saturated c.requires.unasked) lists (subst₂ (λ p fs. AreTypeLists p fs lists) c.ontology.ensures c.facts.ensures are)) c.type_lists.ensures
