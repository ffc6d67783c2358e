use Rattle.std.proofs.Common.{◌++◌, ◌∷◌, [], take}
use Rattle.cert_check.specs.Derivation.{IsDerivation}
use Rattle.certificate.specs.Certificate.{Subject}
use Rattle.explain.specs.Uses.{IsAmong, Uses}
use Rattle.explain.specs.LinesOfFacts.{Lengthens}
use Rattle.explain.specs.Walks.{LeadsToNothing}
use Rattle.explain.proofs.nothing.carried_back.Given as goal

abbrev pub invariant-loop-k : goal.invariant-loop-k
invariant-loop-k g l = record {
  derivation : IsDerivation l.closed.ontology l.derivation;
  longer : Lengthens l.fn.derivation l.derivation;
  leads : (x : Subject) → LeadsToNothing l.fn.derivation l.walk l.end x → LeadsToNothing l.derivation (take l.k l.walk) l.number x;
  used : Uses l.fn.derivation l.derivation (IsAmong (l.walk ++ l.end ∷ [])) (take l.k l.walk ++ l.number ∷ []);
}
