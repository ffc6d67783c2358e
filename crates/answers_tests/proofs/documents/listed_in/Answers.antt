use Rattle.std.proofs.Common.{Option, subst, sym, IfSome}
use Rattle.certificate.specs.Certificate.{Listed}
use Rattle.certificate.specs.Writability.{IsListedOf}
use Rattle.answers_tests.proofs.documents.listed_in.Goals as goal

pub interpretation_of-requires : goal.interpretation_of-requires
interpretation_of-requires c =
    subst (λ (l : Option Listed). IfSome l (IsListedOf c.args.ontology.now)) (sym c.in-Some.ensures) c.in-Ok.ensures.text.listed
