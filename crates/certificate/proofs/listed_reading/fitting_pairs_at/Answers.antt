use Rattle.std.proofs.Common.{◌≡◌, List, ℕ, Some, option_map, sym, ap, subst, ◌∙◌}
use Rattle.certificate.specs.HeldReading.{read_in}
use Rattle.certificate.specs.ListedReading.{elements_at}
use Rattle.certificate.proofs.HeldRows.{pairs_read}
use Rattle.certificate.proofs.listed_reading.fitting_pairs_at.Goals as goal

pub returns : goal.returns
returns c =
    let f = c.args.format in
    let d = c.args.domain in
    let word = sym c.after.ensures ∙ ap (option_map (λ x. x.now)) c.in_ok-rest.ensures.ok_part in
    let number = sym c.small_at.ensures ∙ ap (option_map (λ x. (x.0, x.1.now))) c.in_ok-property.ensures.ok_part in
    let source = sym c.element_at.ensures ∙ ap (option_map (λ x. (x.0, x.1.now))) c.in_ok-source.ensures.ok_part in
    let targets =
    subst (λ (xs : List ℕ). elements_at f d c.in_ok-source.rest.now ≡ Some (read_in f xs, c.in_ok-targets.rest.now)) (sym (c.in_ok-targets-2.ensures ∙ c.deref.ensures)) c.in_ok-targets.ensures.read in
    let end = sym c.after-2.ensures ∙ ap (option_map (λ x. x.now)) c.in_ok-rest-2.ensures.ok_part in
    pairs_read c.args.ontology.now f d c.args.bytes.now _ _ _ _ _ _ targets end c.args.last _ _ word number source (sym c.if-not-fits_read_pairs.ensures)
