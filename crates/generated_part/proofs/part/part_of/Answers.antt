use Rattle.std.proofs.Common.{◌≡◌, List, ℕ, length, map, subst, subst₂, arith}
use Rattle.std.specs.Prelude.{slice_index}
use Rattle.cert_check.specs.Additions.{AddsMembers, PutsIndividuals}
use Rattle.interpretation_spec.specs.NumberedInterpretation.{NumberedInterpretation, empty_interpretation}
use Rattle.generated_part.specs.Part.{IsMemberAt}
use Rattle.generated_part.proofs.Parts.{part_made, part_is}
use Rattle.generated_part.proofs.part.part_of.Goals as goal

pub returns : goal.returns
returns c =
    let o = c.args.ontology.now in
    let rows = c.args.rows.now in
    let elements = c.args.chosen.now.elements.items in
    let places = c.args.chosen.now.places.items in
    let made = c.in-Ok.ensures.made in
    let first = c.put_classes.new.part in
    let second = c.put_pairs.new.part in
    let third = c.put_individuals.new.part in
    let long : c.len.result ≡ length elements = omega (arith, c.len.ensures, c.args.chosen.now.elements.ok) in
    let started = subst₂ (λ (xs : List ℕ) (i : NumberedInterpretation). AddsMembers (IsMemberAt rows.classes xs) i first) c.deref.ensures.value made.1 c.in_ok-put_classes.ensures in
    let members = subst (λ (n : ℕ). AddsMembers (IsMemberAt rows.classes elements) (empty_interpretation o.names n) first) long started in
    let pairs = c.in_ok-put_pairs.ensures in
    let individuals = subst₂ (λ (xs ys : List ℕ). PutsIndividuals (map (slice_index ys) xs) second third) c.deref-2.ensures.value c.deref-3.ensures.value c.in_ok-put_individuals.ensures in
    record {
      made = part_made o c.well_formed-2.ensures rows elements places first second third members pairs individuals;
      part = part_is o c.well_formed-2.ensures rows elements places first second third members pairs individuals;
    }
