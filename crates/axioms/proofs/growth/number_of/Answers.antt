use Rattle.std.proofs.Common.{◌≡◌, inl, string_bytes, refl, arith}
use Rattle.std.specs.String.{string_eq}
use Rattle.std.proofs.lemmas.List.{length-map}
use Rattle.lemmas.proofs.Members.{Contains-from_slice_get}
use Rattle.axioms.proofs.Insertions.{text_placed, text_absent, inserted, same_text}
use Rattle.axioms.proofs.growth.number_of.Goals as goal

pub returns-in-Some-clause-ok : goal.returns-in-Some-clause-ok
returns-in-Some-clause-ok c = inl (text_placed c.args.iri.now c.args.names.now.keys c.in-Some.number c.in-Some.ensures.found, refl)

pub returns-in-Some-clause-full : goal.returns-in-Some-clause-full
returns-in-Some-clause-full c =
    let at = text_placed c.args.iri.now c.args.names.now.keys c.in-Some.number c.in-Some.ensures.found in
    (λ h. cc, λ full. absurd (full.0 (Contains-from_slice_get _ c.in-Some.number c.args.iri.now at)))

pub returns-then-len-ge-MOST_NAMES-clause-full : goal.returns-then-len-ge-MOST_NAMES-clause-full
returns-then-len-ge-MOST_NAMES-clause-full c =
    (λ h. (text_absent c.args.iri.now c.args.names.now.keys c.in_default.ensures.absent, omega (arith, length-map c.args.names.now.keys string_bytes)), λ full. refl)

pub returns-clause-ok : goal.returns-clause-ok
returns-clause-ok c =
    let name : string_bytes c.in_ok-text.text ≡ c.args.iri.now = c.in_ok-text.ensures.ok in
    rw (← name) (inserted string_eq string_bytes same_text c.in_ok-text.text c.args.names.now.keys _ c.in_ok-number.number c.in_ok-number.ensures.keys c.in_ok-number.ensures.stored)
