use Rattle.std.proofs.Common.{◌≡◌, ◌++◌, Option, ℕ, List, slice_get, sym, ap, ap₂, ◌∙◌, subst}
use Rattle.std.proofs.lemmas.Option.{same_Some}
use Rattle.lemmas.proofs.Places.{slice_get_there}
use Rattle.certificate.specs.declared.line.Rule.TheVariants.{K7}
use Rattle.facts.specs.Births.{reason}
use Rattle.normalise.specs.Listing.{Listing}
use Rattle.normalise.specs.Problem.{prefixes_of}
use Rattle.number_sets.specs.Pieces.{list_at}
use Rattle.explain.specs.LinesOfFacts.{AreShowing}
use Rattle.explain.specs.Step.{LeadTo}
use Rattle.explain.proofs.Disjoint.{disjoint_leads, disjoint_used, two_taken}
use Rattle.explain.proofs.apart.shown_by_disjoint.Given.{Over}
use Rattle.explain.proofs.apart.shown_by_disjoint.Goals as goal

pub unreachable-requires : goal.unreachable-requires
unreachable-requires g c =
    let s = c.args.basis.now.closed.now.saturation in
    let (f, there) = slice_get_there s.state.facts c.args.next.now.fact.0 c.requires.next.there in
    two_taken c.args.basis.now.closed.now.ontology s c.well_formed-2.ensures.ontology c.well_formed-2.ensures.saturated c.args.next.now.fact.0 (reason c.args.next.now.birth.now) c.requires.next.birth f there c.args.list c.requires.list c.requires.disjoint c.older.result c.older.ensures
    c.in_default.not-Two

-- what is taken
taken : (g : Over) (c : goal.Joined-more-3 g) → c.extend_from_slice.new.self.items ≡ list_at c.args.next.now.shown.now c.in-Two.first.0 ++ list_at c.args.next.now.shown.now c.in-Two.second.0
taken g c = c.in_ok-extend_from_slice.ensures.ok ∙ ap₂ (λ (xs ys : List ℕ). xs ++ ys) c.in_ok-numbers.ensures (c.as_slice.ensures ∙ c.in_ok-more.ensures)

-- the line leads to the fact
leading : (g : Over) (c : goal.Joined-more-3 g) → LeadTo c.args.basis.now.closed.now.ontology (prefixes_of c.args.basis.now.closed.now.saturation.normal) c.args.derivation.now K7 c.disjoint_axiom-axiom.result c.extend_from_slice.new.self.items c.fact_of-fact.result
leading g c =
    let o = c.args.basis.now.closed.now.ontology in
    let s = c.args.basis.now.closed.now.saturation in
    let f = c.fact_of-fact.result in
    let to = disjoint_leads o s c.well_formed-2.ensures.ontology c.well_formed-2.ensures.saturated c.args.next.now.fact.0 (reason c.args.next.now.birth.now) c.requires.next.birth f c.fact_of-fact.ensures c.args.list c.requires.list c.requires.disjoint c.older.result c.older.ensures
    c.in-Two.first c.in-Two.second c.in-Two.is c.args.derivation.now c.args.next.now.shown.now c.requires.next.older c.extend_from_slice.new.self.items (taken g c) in
    subst (λ (found : Option ℕ). LeadTo o (prefixes_of s.normal) c.args.derivation.now K7 found c.extend_from_slice.new.self.items f)
    (sym (c.disjoint_axiom-axiom.ensures ∙ ap (λ (v : Listing). slice_get v.disjoint_axioms c.args.list) c.normal.ensures)) to

pub returns : goal.returns
returns g c =
    let o = c.args.basis.now.closed.now.ontology in
    let s = c.args.basis.now.closed.now.saturation in record {
      derivation = c.in_ok-numbers-2.ensures.derivation o (prefixes_of s.normal) c.requires.next.derivation (leading g c);
      longer = c.in_ok-numbers-2.ensures.longer;
      shown = λ f at. subst (AreShowing (prefixes_of s.normal) c.concluded.new.derivation c.in_ok-numbers-2.numbers.items) (same_Some c.fact_of-fact.result f (sym c.fact_of-fact.ensures ∙ at))
          (c.in_ok-numbers-2.ensures.shown o (prefixes_of s.normal) (leading g c));
      used = disjoint_used o s c.well_formed-2.ensures.ontology c.well_formed-2.ensures.saturated c.args.next.now.fact.0 (reason c.args.next.now.birth.now) c.requires.next.birth c.fact_of-fact.result c.fact_of-fact.ensures
          c.args.list c.requires.list c.requires.disjoint c.older.result c.older.ensures c.in-Two.first c.in-Two.second c.in-Two.is c.args.derivation.now c.args.next.now.shown.now
          c.concluded.new.derivation c.extend_from_slice.new.self.items c.in_ok-numbers-2.numbers.items (taken g c) c.in_ok-numbers-2.ensures.used;
    }
