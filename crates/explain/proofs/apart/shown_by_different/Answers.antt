use Rattle.std.proofs.Common.{◌≡◌, ◌∷◌, [], ◌++◌, ◌<◌, ℕ, List, Option, length, slice_get, sym, ap, ◌∙◌, subst, subst₂, arith}
use Rattle.std.proofs.lemmas.Option.{MatchOption-at_none, MatchOption-at_some, same_Some}
use Rattle.std.specs.Global.{Vec}
use Rattle.axioms.specs.declared.ids.IndId.{IndId}
use Rattle.certificate.specs.declared.line.Rule.TheVariants.{K20}
use Rattle.normal_forms.specs.Apart.{AreListedAt}
use Rattle.normal_forms.specs.declared.forms.Form.{Form}
use Rattle.normalise.specs.Listing.{Listing}
use Rattle.normalise.specs.Problem.{prefixes_of}
use Rattle.explain.specs.LinesOfFacts.{AreShowing}
use Rattle.explain.specs.Paths.{IsChain}
use Rattle.explain.specs.Step.{LeadTo}
use Rattle.explain.specs.Uses.{IsAmong, Uses}
use Rattle.explain.proofs.Different.{another, different_leads, first_within, in_nothing, speaks, two}
use Rattle.explain.proofs.Used.{used_twice}
use Rattle.explain.proofs.apart.shown_by_different.Given.{Over}
use Rattle.explain.proofs.apart.shown_by_different.Goals as goal

-- ---- what was found

lent_chain : (Is : IndId → Type 0) (forms : List Form) (chain : Vec ℕ) (numbers : List ℕ) (i : IndId) → (j : IndId) × Is j × IsChain forms i chain.items j → numbers ≡ chain.items → (j : IndId) × Is j × IsChain forms i numbers j
lent_chain Is forms chain numbers i found are = subst (λ (ns : List ℕ). (j : IndId) × Is j × IsChain forms i ns j) (sym are) found

some_forms : (fs : List Form) (i j : IndId) (numbers : List ℕ) → (i ≡ j → ⊥) → IsChain fs i numbers j → 0 < length numbers
some_forms fs i j [] other chain = absurd (other chain)
some_forms fs i j (n ∷ ns) other chain = omega arith

-- ---- the goals

pub unreachable-requires : goal.unreachable-requires
unreachable-requires g c =
    let (r, born, twelve, place) = c.requires.born in
    speaks c.args.basis.now.closed.now.ontology c.args.basis.now.closed.now.saturation c.well_formed-2.ensures.saturated c.args.fact.0 r born c.fact_of-fact.result c.fact_of-fact.ensures c.args.list place twelve
    (MatchOption-at_none _ _ c.in_default.is c.individual_of.ensures)

pub chain_to_another-requires : goal.chain_to_another-requires
chain_to_another-requires g c =
    let o = c.args.basis.now.closed.now.ontology in
    let s = c.args.basis.now.closed.now.saturation in
    let (r, born, twelve, place) = c.requires.born in
    let (class, is) = MatchOption-at_some _ _ _ c.in-Some.is c.individual_of.ensures in
    let (other, listed, one) = another o s c.well_formed-2.ensures.saturated c.args.fact.0 r born c.fact_of-fact.result c.fact_of-fact.ensures c.args.list place twelve class c.in-Some.individual is in
    record { there = first_within o s c.well_formed-2.ensures.ontology c.well_formed-2.ensures.saturated c.args.list c.in-Some.individual other listed }

pub unreachable-requires-in_default-found : goal.unreachable-requires-in_default-found
unreachable-requires-in_default-found g c =
    let s = c.args.basis.now.closed.now.saturation in
    let i = c.in-Some.individual in
    let (r, born, twelve, place) = c.requires.born in
    let (class, is) = MatchOption-at_some _ _ _ c.in-Some.is c.individual_of.ensures in
    let (other, listed, one) = another c.args.basis.now.closed.now.ontology s c.well_formed-2.ensures.saturated c.args.fact.0 r born c.fact_of-fact.result c.fact_of-fact.ensures c.args.list place twelve class i is in
    MatchOption-at_none _ _ c.in_default-found.is c.in_ok-found.ensures other listed one

pub same_along-requires-clause-some : goal.same_along-requires-clause-some
same_along-requires-clause-some g c =
    let s = c.args.basis.now.closed.now.saturation in
    let i = c.in-Some.individual in
    let (other, listed, chain) = lent_chain (AreListedAt s.normal.apart.individuals c.args.list i) s.state.problem.forms c.in-Some-found.chain c.deref.result.now i (MatchOption-at_some _ _ _ c.in-Some-found.is c.in_ok-found.ensures) c.deref.ensures.value in
    some_forms s.state.problem.forms i other c.deref.result.now (two c.args.basis.now.closed.now.ontology s c.well_formed-2.ensures.ontology c.well_formed-2.ensures.saturated c.args.list i other listed) chain

pub same_along-requires-clause-chain : goal.same_along-requires-clause-chain
same_along-requires-clause-chain g c =
    let s = c.args.basis.now.closed.now.saturation in
    let (other, listed, chain) = lent_chain (AreListedAt s.normal.apart.individuals c.args.list c.in-Some.individual) s.state.problem.forms c.in-Some-found.chain c.deref.result.now c.in-Some.individual (MatchOption-at_some _ _ _ c.in-Some-found.is c.in_ok-found.ensures) c.deref.ensures.value in
    (other, chain)

-- the line leads to the fact
leading : (g : Over) (c : goal.After-drop-chain-2 g) → LeadTo c.args.basis.now.closed.now.ontology (prefixes_of c.args.basis.now.closed.now.saturation.normal) c.same_along.new.derivation K20 c.different_axiom-axiom.result c.push.new.self.items c.fact_of-fact.result
leading g c =
    let o = c.args.basis.now.closed.now.ontology in
    let s = c.args.basis.now.closed.now.saturation in
    let f = c.fact_of-fact.result in
    let i = c.in-Some.individual in
    let (r, born, twelve, place) = c.requires.born in
    let (class, is) = MatchOption-at_some _ _ _ c.in-Some.is c.individual_of.ensures in
    let (other, listed, chain) = lent_chain (AreListedAt s.normal.apart.individuals c.args.list i) s.state.problem.forms c.in-Some-found.chain c.deref.result.now i (MatchOption-at_some _ _ _ c.in-Some-found.is c.in_ok-found.ensures) c.deref.ensures.value in
    let says = c.in_ok-number.ensures.says other chain in
    let here = in_nothing o s c.well_formed-2.ensures.saturated c.args.fact.0 r born f c.fact_of-fact.ensures c.args.list place twelve class i is in
    let to = different_leads o s c.well_formed-2.ensures.ontology c.well_formed-2.ensures.saturated c.args.list i other listed c.args.fact.0 f c.fact_of-fact.ensures here c.same_along.new.derivation c.in_ok-number.number says in
    let numbers : c.push.new.self.items ≡ c.in_ok-number.number ∷ [] = c.in_ok-push.ensures.ok ∙ ap (λ ns. ns ++ c.in_ok-number.number ∷ []) c.new-numbers.ensures.items in
    let by = c.different_axiom-axiom.ensures ∙ ap (λ (v : Listing). slice_get v.different_axioms c.args.list) c.normal.ensures in
    subst₂ (λ (ns : List ℕ) (found : Option ℕ). LeadTo o (prefixes_of s.normal) c.same_along.new.derivation K20 found ns f) (sym numbers) (sym by) to

pub returns-clause-derivation : goal.returns-clause-derivation
returns-clause-derivation g c = c.in_ok-numbers.ensures.derivation c.args.basis.now.closed.now.ontology (prefixes_of c.args.basis.now.closed.now.saturation.normal) c.in_ok-number.ensures.derivation (leading g c)

pub returns-clause-shown : goal.returns-clause-shown
returns-clause-shown g c f at =
    let s = c.args.basis.now.closed.now.saturation in
    subst (AreShowing (prefixes_of s.normal) c.concluded.new.derivation c.in_ok-numbers.numbers.items) (same_Some c.fact_of-fact.result f (sym c.fact_of-fact.ensures ∙ at))
    (c.in_ok-numbers.ensures.shown c.args.basis.now.closed.now.ontology (prefixes_of s.normal) (leading g c))

pub returns-clause-used : goal.returns-clause-used
returns-clause-used g c =
    let numbers : c.push.new.self.items ≡ c.in_ok-number.number ∷ [] = c.in_ok-push.ensures.ok ∙ ap (λ ns. ns ++ c.in_ok-number.number ∷ []) c.new-numbers.ensures.items in
    used_twice c.args.derivation.now c.same_along.new.derivation c.concluded.new.derivation (IsAmong []) (c.in_ok-number.number ∷ []) c.in_ok-numbers.numbers.items c.in_ok-numbers.ensures.longer c.in_ok-number.ensures.used
    (subst (λ ns. Uses c.same_along.new.derivation c.concluded.new.derivation (IsAmong ns) c.in_ok-numbers.numbers.items) numbers c.in_ok-numbers.ensures.used)
