use Rattle.certificate.specs.Text.{certificate_text}
use Rattle.certificate_text.proofs.Conversions.{conversion_there}
use Rattle.certificate_text.proofs.conversion.convert.Goals as goal

pub returns-in_err-write_certificate-clause-begun : goal.returns-in_err-write_certificate-clause-begun
returns-in_err-write_certificate-clause-begun g c = λ e.
    let certificate = c.in_ok-certificate.certificate in
    let format = c.args.format in
    let fault = c.in_err-write_certificate in
    let told = c.from_residual-in_err-write_certificate in (
      certificate_text format certificate,
      conversion_there c.args.ontology.now c.args.text.now format certificate told.result fault.field-0.0 c.in_ok-certificate.ensures.found c.in_ok-certificate.ensures.text
          fault.ensures.later told.ensures.1 e,
      c.write_certificate.ensures.begun,
    )
