use Rattle.std.proofs.Common.{ap, sym, ◌∙◌}
use Rattle.certificate.specs.Text.{certificate_text}
use Rattle.certificate.proofs.Following.{same_certificate}
use Rattle.certificate.proofs.reading.there_and_back.Goals as goal

pub returns : goal.returns
returns g o f h bytes others again c d e t u same v w =
    let back = (same_certificate o h h others d e u w).1 in
    v.spelled ∙ ap (certificate_text f) (sym (same ∙ back)) ∙ sym t.spelled
