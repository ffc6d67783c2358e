use Rattle.std.proofs.Common.{◌≡◌, ◌↔◌, ◌<◌, ◌≤◌, ◌∙◌, ◌∷◌, [], ℕ, List, Bor, IsTrue, Contains, length, get_or, map, sym, ap, subst}
use Rattle.std.proofs.lemmas.Bool.{false≢true}
use Rattle.std.proofs.lemmas.List.{length-map, map-append}
use Rattle.std.proofs.lemmas.List.Elements.{All-contains}
use Rattle.std.proofs.lemmas.Option.{slice_get-get_or}
use Rattle.lemmas.proofs.Mapped.{slice_get_map}
use Rattle.lemmas.proofs.Members.{Contains-from_slice_get}
use Rattle.axioms.specs.Expression.{Iri}
use Rattle.answers.specs.Neighbours.{TellsGroup, first_of}
use Rattle.answers.proofs.Grouping.{all_groups, following, has_first, leading, no_groups}
use Rattle.answers.proofs.groups.groups_of.Goals as goal
use Rattle.answers.proofs.groups.groups_of.Goals.{then-leads+in_ok-push, else-leads}

pub loop-name-init : goal.loop-name-init
loop-name-init c = no_groups c.args.ontology.now _ (ap (map _) c.new-groups.ensures.items)

pub group_of-requires-clause-known : goal.group_of-requires-clause-known
group_of-requires-clause-known c =
    let names = map (λ s. s.now) c.args.names.now in
    let k = c.loop-name.name-index in
    let name = get_or c.args.names.now k _ in
    let at = slice_get_map (λ s. s.now) c.args.names.now k name (slice_get-get_or c.args.names.now k _ c.loop-name-test.true) in
    All-contains (Contains c.args.ontology.now.names.classes) names name.now c.requires.known (Contains-from_slice_get names k name.now at)

pub group_of-requires-clause-tells : goal.group_of-requires-clause-tells
group_of-requires-clause-tells c =
    let names = map (λ s. s.now) c.args.names.now in
    let k = c.loop-name.name-index in
    let name = get_or c.args.names.now k _ in
    let at = slice_get_map (λ s. s.now) c.args.names.now k name (slice_get-get_or c.args.names.now k _ c.loop-name-test.true) in
    All-contains (TellsGroup c.args.ontology.now c.args.lists.now) names name.now c.requires.tells (Contains-from_slice_get names k name.now at)

pub leads-requires : goal.leads-requires
leads-requires c =
    let o = c.args.ontology.now in
    let now : List (Bor Iri) → List Iri = λ xs. map (λ s. s.now) xs in
    let names = now c.args.names.now in
    let k = c.loop-name.name-index in
    let name = get_or c.args.names.now k _ in
    let at = slice_get_map (λ s. s.now) c.args.names.now k name (slice_get-get_or c.args.names.now k _ c.loop-name-test.true) in
    let known : (x : Iri) → Contains names x → Contains o.names.classes x = λ x there. All-contains (Contains o.names.classes) names x c.requires.known there in
    let old : List (List Iri) = map (λ g. map (λ s. s.now) g.items) c.loop-name.groups.items in
    let group : List Iri = now c.in_ok-group.group.items in
    let low = has_first o names c.requires.ordered c.requires.closed known k name.now at old c.loop-name.invariant group c.in_ok-group.ensures in
    subst (λ (xs : List (Bor Iri)). 0 < length xs) (sym c.deref.ensures.value) (subst (λ (n : ℕ). 0 < n) (length-map c.in_ok-group.group.items (λ s. s.now)) low)

pub loop-name-preserved : goal.loop-name-preserved
loop-name-preserved c =
    let o = c.args.ontology.now in
    let now : List (Bor Iri) → List Iri = λ xs. map (λ s. s.now) xs in
    let names = now c.args.names.now in
    let k = c.loop-name.name-index in
    let name = get_or c.args.names.now k _ in
    let at = slice_get_map (λ s. s.now) c.args.names.now k name (slice_get-get_or c.args.names.now k _ c.loop-name-test.true) in
    let known : (x : Iri) → Contains names x → Contains o.names.classes x = λ x there. All-contains (Contains o.names.classes) names x c.requires.known there in
    let old : List (List Iri) = map (λ g. map (λ s. s.now) g.items) c.loop-name.groups.items in
    let group : List Iri = now c.in_ok-group.group.items in
    let first = subst (λ (xs : List (Bor Iri)). IsTrue c.leads.result ↔ (first_of (now xs) ≡ name.now)) c.deref.ensures.value c.leads.ensures in
    elim c.if-leads.branch [
      | then-leads+in_ok-push w ↦ leading o names c.requires.ordered c.requires.closed known k name.now at old c.loop-name.invariant group c.in_ok-group.ensures _
          (rw w.groups-is (ap (map _) w.in_ok-push.ensures.items ∙ map-append _ c.loop-name.groups.items (c.in_ok-group.group ∷ []))) (first.0 w.if-leads.true)
      | else-leads w ↦ rw w.groups-is (following o names c.requires.ordered c.requires.closed known k name.now at old c.loop-name.invariant group c.in_ok-group.ensures
          (λ e. false≢true (sym w.if-leads.false ∙ first.1 e)))
    ]

pub returns : goal.returns
returns c =
    let names = map (λ s. s.now) c.args.names.now in
    all_groups c.args.ontology.now names c.loop-name.name-index (subst (λ (n : ℕ). n ≤ c.loop-name.name-index) (sym (length-map c.args.names.now (λ s. s.now))) c.loop-name-test.false)
    (λ name there. All-contains (Contains c.args.ontology.now.names.classes) names name c.requires.known there) _ c.loop-name.invariant
