-- The seven lines are a derivation.
use Rattle.std.proofs.Common.{zero, suc, List, [], ◌∷◌, take, None, refl, subst, arith}
use Rattle.std.proofs.lemmas.Option.{none-some, same_Some}
use Rattle.axioms.specs.Examples.{one_subclass}
use Rattle.certificate.specs.Certificate.{Expression, Conclusion, Sub, Line}
use Rattle.certificate.specs.declared.line.Rule.{Rule}
use Rattle.certificate.specs.Writability.{IsConclusionOf}
use Rattle.cert_check.specs.Lines.{Follows}
use Rattle.cert_check.specs.Derivation.{IsDerived, IsDerivation}
use Rattle.answers_tests.specs.OneSubclass.{seven_lines}

no_premise : {before : List Line} (conclusion : Conclusion) (rule : Rule) → IsConclusionOf one_subclass conclusion → Follows one_subclass rule [] None conclusion → IsDerived one_subclass before (record { conclusion = conclusion; rule = rule; axiom' = None; premises = [] })
no_premise conclusion rule h f = record { within = record { conclusion = h; axiom' = tt }; premises = []; premises_at = refl; follows = f }

pub derivation : IsDerivation one_subclass seven_lines
derivation zero line g = subst (IsDerived one_subclass (take 0 seven_lines)) (same_Some _ line g) (no_premise _ _ (omega arith) refl)
derivation (suc zero) line g = subst (IsDerived one_subclass (take 1 seven_lines)) (same_Some _ line g) (no_premise _ _ (omega arith) refl)
derivation (suc (suc zero)) line g = subst (IsDerived one_subclass (take 2 seven_lines)) (same_Some _ line g) (no_premise _ _ (omega arith) refl)
derivation (suc (suc (suc zero))) line g = subst (IsDerived one_subclass (take 3 seven_lines)) (same_Some _ line g) (no_premise _ _ (omega arith) refl)
derivation (suc (suc (suc (suc zero)))) line g = subst (IsDerived one_subclass (take 4 seven_lines)) (same_Some _ line g) (record { within = record { conclusion = omega arith; axiom' = omega arith }; premises = Sub (Expression 2) 2 ∷ []; premises_at = refl; follows = (refl, refl, refl) })
derivation (suc (suc (suc (suc (suc zero))))) line g = subst (IsDerived one_subclass (take 5 seven_lines)) (same_Some _ line g) (no_premise _ _ (omega arith) refl)
derivation (suc (suc (suc (suc (suc (suc zero)))))) line g = subst (IsDerived one_subclass (take 6 seven_lines)) (same_Some _ line g) (no_premise _ _ (omega arith) refl)
derivation (suc (suc (suc (suc (suc (suc (suc n))))))) line g = absurd (none-some line g)
