use Rattle.normalise.proofs.Giving.{stated_once}
use Rattle.std.proofs.Common.{◌≡◌, List, length, map, take, refl, sym, subst, arith, slice_get, Some}
use Rattle.std.proofs.lemmas.List.{length-map}
use Rattle.axioms.specs.Ontology.{Axiom}
use Rattle.axioms.specs.View.{axiom_of}
use Rattle.lemmas.proofs.Mapped.{slice_get_map}
use Rattle.lemmas.proofs.Places.{take_push}
use Rattle.std.proofs.lemmas.Option.{slice_get_read}
use Rattle.normalise.specs.FreshNames.{NameChains}
use Rattle.normalise.specs.Steps.{StatedAt, StatedFrom}
use Rattle.normalise.specs.View.{Adds}
use Rattle.normalise.proofs.FreshNames.{all_taken, chains_more}
use Rattle.normalise.proofs.Giving.{within_none, within_more, stated}
use Rattle.normalise.proofs.made.Made.state_all.Goals as goal

pub loop-k-init : goal.loop-k-init
loop-k-init c = (within_none _ (StatedAt (map axiom_of c.args.axioms.now)) c.args.from, λ h. h)

pub loop-k-preserved : goal.loop-k-preserved
loop-k-preserved c =
    let axioms = map axiom_of c.args.axioms.now in let a = axiom_of c.index-axioms-k.result in
    let there : slice_get axioms c.loop-k.k ≡ Some a = slice_get_map axiom_of c.args.axioms.now c.loop-k.k _ (slice_get_read c.args.axioms.now (length c.args.axioms.now) c.loop-k.k c.index-axioms-k.result refl c.loop-k-test.true c.index-axioms-k.is) in (
      within_more (StatedAt axioms) c.args.from c.loop-k.k (omega arith) (stated_once axioms) c.loop-k.invariant.0 (stated axioms c.loop-k.k a there c.in_ok-state.ensures.forms),
      λ h. subst (λ (xs : List Axiom). NameChains xs c.state.new.self.steps) (sym (take_push axioms c.loop-k.k a there)) (chains_more (take c.loop-k.k axioms) a c.loop-k.self.steps c.state.new.self.steps (c.loop-k.invariant.1 h) c.in_ok-state.ensures.names),
    )

pub returns-clause-forms : goal.returns-clause-forms
returns-clause-forms c = let e : c.loop-k.k ≡ length c.args.axioms.now = omega arith in subst (λ n. Adds c.args.self.now c.loop-k.self (StatedFrom (map axiom_of c.args.axioms.now) c.args.from n)) e c.loop-k.invariant.0

pub returns-clause-names : goal.returns-clause-names
returns-clause-names c = λ h.
    let axioms = map axiom_of c.args.axioms.now in
    let e : c.loop-k.k ≡ length axioms = omega (arith, length-map c.args.axioms.now axiom_of) in
    subst (λ (xs : List Axiom). NameChains xs c.loop-k.self.steps) (all_taken c.loop-k.k axioms e) (c.loop-k.invariant.1 h)

pub state-requires : goal.state-requires
state-requires c = c.requires.distinct c.loop-k.k (axiom_of c.index-axioms-k.result) (slice_get_map axiom_of c.args.axioms.now c.loop-k.k _ (slice_get_read c.args.axioms.now (length c.args.axioms.now) c.loop-k.k c.index-axioms-k.result refl c.loop-k-test.true c.index-axioms-k.is))
