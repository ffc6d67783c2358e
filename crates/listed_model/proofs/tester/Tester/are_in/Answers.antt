use Rattle.std.proofs.Common.{sym, ap, ◌∙◌}
use Rattle.std.proofs.lemmas.List.Kept.{AllPairs-from_increasing}
use Rattle.std.proofs.lemmas.Slice.Eq.{bytes_eq-Decides}
use Rattle.certificate.specs.View.{listed_of}
use Rattle.listed_model.specs.Members.{holds}
use Rattle.listed_model.proofs.Held.{all_are_of}
use Rattle.listed_model.proofs.Said.{same_members}
use Rattle.listed_model.proofs.tester.Tester.are_in.Goals as goal

pub returns-in-Some : goal.returns-in-Some
returns-in-Some c =
    let o = c.args.self.now.ontology.now in
    let e = c.args.expression.0 in
    let list = c.in-Some.list.now in
    let from = c.requires.ready.kept.elements e list c.in-Some.ensures in
    let all = all_are_of o (listed_of c.args.self.now.listed.now) e list from c.args.elements.now in
    (λ t. all.0 (sym c.are_within.ensures ∙ t), λ q. c.are_within.ensures ∙ all.1 q)

pub returns : goal.returns
returns c =
    let elements = c.args.elements.now in
    let those = c.in_ok-those.those.items in
    let said = c.in_ok-those.ensures in
    let value = c.as_slice.ensures.value in
    let decides = bytes_eq-Decides c.as_slice.result.now elements in (
      λ t x h. (let same = decides.0 (sym c.eq.ensures ∙ t) in ((said.members x).0 (ap (λ xs. holds xs x) (sym value ∙ same) ∙ h)).1),
      λ h. c.eq.ensures ∙ decides.1 (value ∙ same_members those elements (AllPairs-from_increasing those said.ascending) (AllPairs-from_increasing elements c.requires.elements.ascending)
          (λ z. (λ m. ((said.members z).0 m).0, λ m. (said.members z).1 (m, h z m)))),
    )

pub are_within-requires : goal.are_within-requires
are_within-requires c = (c.requires.ready.kept.elements c.args.expression.0 c.in-Some.list.now c.in-Some.ensures).ascending
