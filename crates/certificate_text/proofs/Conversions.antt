-- What converting a text answers where the sink failed.
use Rattle.std.proofs.Common.{◌≡◌, Err, IsErrAnd, IsErrOf, List, Ok, Result, ℕ, refl, subst}
use Rattle.axioms.specs.Ontology.{Ontology}
use Rattle.certificate.specs.Certificate.{Certificate}
use Rattle.certificate_text.specs.declared.fault.CertWriteFault.{CertWriteFault}
use Rattle.certificate_text.specs.declared.fault.CertWriteFault.TheVariants as write
use Rattle.certificate.specs.declared.format.Format.{Format}
use Rattle.certificate.specs.declared.format.Format.TheVariants.{One}
use Rattle.certificate_text.specs.LaterPremises.{IsLater}
use Rattle.certificate.specs.Text.{certificate_text}
use Rattle.certificate.specs.Writability.{HasText, IsSomeTextOf}
use Rattle.certificate_text.specs.Conversions.{IsConversion, fault_of_writing}
use Rattle.certificate_text.specs.declared.conversion.ConvertFault.{ConvertFault}
use Rattle.certificate_text.specs.declared.conversion.ConvertFault.TheVariants.{Io}

-- the fault of writing that is told as that of the sink is that of the sink
written_io : (result : Result (Unit {0}) ConvertFault) (fault : CertWriteFault) → IsErrAnd result (λ e. e ≡ fault_of_writing fault) → IsErrOf result Io → fault ≡ write.Io
written_io (Ok x) fault h e = absurd h
written_io (Err y) (write.LaterPremise line) h e = cc
written_io (Err y) write.Io h e = refl
written_io (Err y) write.Memory h e = cc

-- where the sink failed the format has numbers for the premises, and what is read is converted to it
pub conversion_there : (o : Ontology) (text : List ℕ) (format : Format) (c : Certificate) (result : Result (Unit {0}) ConvertFault) (fault : CertWriteFault)
    → IsSomeTextOf o text c → HasText o One c → IsLater format c.lines fault → IsErrAnd result (λ e. e ≡ fault_of_writing fault) → IsErrOf result Io
    → IsConversion o text format (certificate_text format c)
conversion_there o text format c result fault is has later told e = record {
  certificate = c;
  text_is = is;
  other_is = record {
    has_text = record {
      lines = has.lines;
      listed = has.listed;
      premises = has.premises;
      numbers = has.numbers;
      written = subst (IsLater format c.lines) (written_io result fault told e) later;
    };
    spelled = refl;
  };
}
