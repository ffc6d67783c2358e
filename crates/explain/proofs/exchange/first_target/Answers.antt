use Rattle.std.proofs.Common.{◌≡◌, ◌∙◌, Some, sym, ap, subst, get_or, option_map, arith}
use Rattle.std.proofs.lemmas.Option.{same_Some}
use Rattle.axioms.specs.View.{at_number}
use Rattle.certificate.specs.Certificate.{Edge}
use Rattle.certificate.specs.View.{subject_of}
use Rattle.exactness.proofs.Derivable.{conclusions}
use Rattle.explain.proofs.MovedWalks.{alone_leads, next_leads}
use Rattle.explain.specs.Step.{subject_in}
use Rattle.explain.proofs.exchange.first_target.Goals as goal

pub returns-then-walk-lt2 : goal.returns-then-walk-lt2
returns-then-walk-lt2 g c x r rs walks =
    subst (λ z. at_number (conclusions c.args.derivation.now) (get_or c.args.walk.now 0 0) ≡ Some (Edge x r z)) (sym c.subject.ensures)
    (alone_leads c.args.derivation.now c.args.walk.now x (subject_in c.args.target) r rs 0 (omega (arith, c.if-walk-lt2.true)) walks)

pub returns : goal.returns
returns g c x r rs walks =
    let (z, first, begins) = next_leads c.args.derivation.now c.args.walk.now x (subject_in c.args.target) r rs 0 (omega (arith, c.if-walk-lt2.false)) walks in
    let next : z ≡ subject_of c.in-Some.next = same_Some z (subject_of c.in-Some.next) (sym begins ∙ sym c.source.ensures ∙ ap (option_map subject_of) c.in-Some.is) in
    subst (λ y. at_number (conclusions c.args.derivation.now) (get_or c.args.walk.now 0 0) ≡ Some (Edge x r y)) next first
