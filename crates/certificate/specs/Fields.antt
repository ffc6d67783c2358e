-- What the fields of a certificate stand for.
use Rattle.certificate.specs.declared.certificate.Certificate.TheInside.{Inside}
use Rattle.certificate.specs.Certificate.{Certificate}
use Rattle.certificate.specs.View.{certificate_from}

abbrev pub kept_certificate : Inside → Certificate
kept_certificate c = certificate_from c.lines.items c.listed
