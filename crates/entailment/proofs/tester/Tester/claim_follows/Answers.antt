use Rattle.std.proofs.Common.{◌≡◌, ◌↔◌, ◌<◌, ℕ, true, length, sym, ap, ◌∙◌, subst, subst₂}
use Rattle.axioms.specs.Ontology.{axiom_trees, expression, individual_name}
use Rattle.entailment.proofs.Building.{class_in_test, grows_on, individual_in_test, keeps_on}
use Rattle.entailment.proofs.Deciding.{tests_decide}
use Rattle.entailment.proofs.Telling.{full_by, limit_by, told_by}
use Rattle.entailment.specs.Tests.{tested_individual}
use Rattle.interpretation_spec.specs.Interpretation.{IsMember}
use Rattle.entailment.proofs.tester.Tester.claim_follows.Goals as goal

pub is_tested-requires-clause-grows : goal.is_tested-requires-clause-grows
is_tested-requires-clause-grows c = grows_on c.args.self.now.known.now c.args.self.now.about.now c.args.claim c.in-Ok.test c.in-Ok.ensures.test c.requires.ready.grows

pub is_tested-requires-clause-names : goal.is_tested-requires-clause-names
is_tested-requires-clause-names c = keeps_on c.args.self.now.known.now c.args.self.now.about.now c.args.claim c.in-Ok.test c.in-Ok.ensures.test c.requires.ready.names

pub is_tested-requires-clause-individual : goal.is_tested-requires-clause-individual
is_tested-requires-clause-individual c =
    let same = c.tested.ensures.individual ∙ ap (λ n. tested_individual n c.args.claim) c.first_added.ensures in
    subst (λ n. n < length c.in-Ok.test.names.individuals) (sym same) (individual_in_test c.args.self.now.known.now c.args.self.now.about.now c.args.claim c.in-Ok.test c.in-Ok.ensures.test c.requires.claim)

pub is_tested-requires-clause-class : goal.is_tested-requires-clause-class
is_tested-requires-clause-class c =
    subst (λ n. n < length c.in-Ok.test.nodes) (sym c.tested.ensures.class)
    (class_in_test c.args.self.now.known.now c.args.self.now.about.now c.args.claim c.in-Ok.test c.in-Ok.ensures.test c.well_formed-2.ensures c.requires.claim)

pub returns-in-Ok-is_tested : goal.returns-in-Ok-is_tested
returns-in-Ok-is_tested c =
    let o = c.args.self.now.about.now in
    let t = c.in-Ok.test in
    let claim = c.args.claim in
    let same = c.tested.ensures.individual ∙ ap (λ n. tested_individual n claim) c.first_added.ensures in
    let P : ℕ → ℕ → Type 0 = λ a e. (c.in-Ok-is_tested.follows ≡ true) ↔ IsMember (axiom_trees t) (individual_name t a) (expression t e) in
    let told = subst₂ P same c.tested.ensures.class c.in-Ok-is_tested.ensures.exact in
    let law = tests_decide o claim t c.well_formed-2.ensures c.requires.claim c.in-Ok.ensures.test c.well_formed-3.ensures in
    told_by o c.args.self.now.max_facts claim c.requires.claim t _ c.in-Ok.ensures.test c.tested.ensures.class c.in-Ok-is_tested.follows (λ h. law.0 (told.0 h), λ entailed. told.1 (law.1 entailed)) c.in-Ok-is_tested.ensures.few

pub returns-in-Err-Limit : goal.returns-in-Err-Limit
returns-in-Err-Limit c =
    limit_by c.args.self.now.about.now c.args.self.now.max_facts c.args.claim c.requires.claim c.in-Ok.test _ c.in-Ok.ensures.test c.tested.ensures.class (c.is_tested.ensures.limit cc)

pub returns-in-Err-TooManyNames : goal.returns-in-Err-TooManyNames
returns-in-Err-TooManyNames c = full_by c.args.self.now.about.now c.args.self.now.max_facts c.args.claim c.requires.claim (c.test_of.ensures.full cc)
