use Rattle.std.proofs.Common.{◌≡◌, ◌↔◌, ◌++◌, List, All, drop, length, map, sym, ap, ◌∙◌, subst₂}
use Rattle.std.proofs.Math.Seq.{drop-append_seam}
use Rattle.std.specs.List.{flat_map}
use Rattle.axioms.specs.Axiom as tree
use Rattle.axioms.specs.Fronts.{Extends}
use Rattle.axioms.specs.Ontology.{Axiom, Ontology, axiom_trees}
use Rattle.axioms.specs.View.{axiom_of}
use Rattle.axioms.specs.WellFormedness.{IsAxiomOf}
use Rattle.entailment.proofs.Listing.{told_fault, told_of_each, told_within}
use Rattle.entailment.proofs.Saying.{all_said}
use Rattle.entailment.proofs.Stated.{entailed, rest_there}
use Rattle.entailment.specs.Entailment.{Entails}
use Rattle.entailment.specs.Parts.{parts_of}
use Rattle.entailment.specs.Testers.{IsFollowing, IsTold, stated_parts, with_axioms_of}
use Rattle.entailment.proofs.following.entails.Goals as goal

-- what stands behind the known axioms
behind : (known stated : Ontology) (more : Extends known stated) (rest : List Axiom) → rest ≡ drop (length known.axioms) stated.axioms → rest ≡ more.axioms.0
behind known stated more rest is = is ∙ ap (drop (length known.axioms)) more.axioms.1 ∙ drop-append_seam known.axioms more.axioms.0

pub all_follow-requires-clause-axioms : goal.all_follow-requires-clause-axioms
all_follow-requires-clause-axioms c =
    let known = c.args.known.now in
    let stated = c.args.stated.now in
    let extends : Extends known stated = c.requires.extends in
    let same = behind known stated extends (map axiom_of c.stated_more.result.now) c.stated_more.ensures in
    subst₂ (λ (o : Ontology) (axioms : List Axiom). All (IsAxiomOf o) axioms) (sym c.in-Ok.ensures) (sym same) (rest_there known stated extends c.well_formed-2.ensures c.well_formed-3.ensures)

pub returns-clause-exact : goal.returns-clause-exact
returns-clause-exact c =
    let known = c.args.known.now in
    let stated = c.args.stated.now in
    let extends : Extends known stated = c.requires.extends in
    let rest = map axiom_of c.stated_more.result.now in
    let same = behind known stated extends rest c.stated_more.ensures in
    let P : Ontology → List Axiom → Type 0 = λ o axioms. All (IsFollowing o) axioms in
    let law = λ (others : List tree.Axiom) (is : axiom_trees stated ≡ axiom_trees known ++ others).
    (let each = subst₂ (λ (o : Ontology) (axioms : List Axiom). P o axioms ↔ Entails (axiom_trees known) others) (sym c.in-Ok.ensures) (sym same) (entailed known stated extends c.well_formed-2.ensures c.well_formed-3.ensures others is) in
    let parts = all_said c.in-Ok.about rest in
    let whole : All (IsFollowing c.in-Ok.about) (flat_map parts_of rest) ↔ Entails (axiom_trees known) others = (λ h. each.0 (parts.0 h), λ h. parts.1 (each.1 h)) in
    whole) in
    told_of_each c.in-Ok.about (flat_map parts_of rest) c.args.max_facts c.all_follow.result (λ others. axiom_trees stated ≡ axiom_trees known ++ others) (λ others. Entails (axiom_trees known) others) law c.all_follow.ensures

pub returns-clause-within : goal.returns-clause-within
returns-clause-within c =
    let told = subst₂ (λ (o : Ontology) (axioms : List Axiom). IsTold o (flat_map parts_of axioms) c.args.max_facts c.all_follow.result) c.in-Ok.ensures c.stated_more.ensures c.all_follow.ensures in
    told_within (with_axioms_of c.args.known.now c.args.stated.now) (stated_parts c.args.known.now c.args.stated.now) c.args.max_facts c.all_follow.result told

pub returns-clause-fault : goal.returns-clause-fault
returns-clause-fault c =
    let told = subst₂ (λ (o : Ontology) (axioms : List Axiom). IsTold o (flat_map parts_of axioms) c.args.max_facts c.all_follow.result) c.in-Ok.ensures c.stated_more.ensures c.all_follow.ensures in
    told_fault (with_axioms_of c.args.known.now c.args.stated.now) (stated_parts c.args.known.now c.args.stated.now) c.args.max_facts c.all_follow.result told
