use Rattle.std.proofs.Common.{refl}
use Rattle.certificate.specs.Certificate.{Two}
use Rattle.certificate.proofs.Meaning.{in_one, in_format}
use Rattle.certificate.proofs.reading.texts.Goals as goal

pub returns : goal.returns
returns c = record {
  two = λ o d. (λ h. (in_one o Two d h, h.written.0, h.written.1), λ h. in_format o Two d h.0 (h.1, h.2));
  has = λ o f d h. record { has_text = h; spelled = refl };
}
