-- Some statements that can be written.
use Rattle.std.proofs.Common.{List, [], ◌∷◌, refl, arith}
use Rattle.std.specs.Prelude.{codes}
use Rattle.axioms.specs.Axiom.{SubClassOf}
use Rattle.axioms.specs.Expression.{Named, SomeValues, Intersection, Pair}
use Rattle.axioms.specs.Numbering.{Statement, DeclaresClass, States}
use Rattle.fs_parser.specs.Name.{CanBeSpelled}
use Rattle.fs_parser.proofs.SmallBytes.{plain}
use Rattle.program.specs.declared.version.Version.TheVariants.{One}
use Rattle.statements_text.specs.Sound.{AllSayable}

abbrev sample : List Statement
sample = States (SubClassOf (Named (codes "x:A")) (SomeValues (codes "x:r") (Intersection (Pair (Named (codes "x:A")) (Named (codes "x:B")))))) ∷ DeclaresClass (codes "http://www.w3.org/2002/07/owl#Thing") ∷ []

a : CanBeSpelled (codes "x:A")
a = record { spelled = refl; utf8 = plain (codes "x:A") refl }

b : CanBeSpelled (codes "x:B")
b = record { spelled = refl; utf8 = plain (codes "x:B") refl }

r : CanBeSpelled (codes "x:r")
r = record { spelled = refl; utf8 = plain (codes "x:r") refl }

thing : CanBeSpelled (codes "http://www.w3.org/2002/07/owl#Thing")
thing = record { spelled = refl; utf8 = plain (codes "http://www.w3.org/2002/07/owl#Thing") refl }

pub sayable : AllSayable One sample
sayable = (
  record { spelled = (refl, (a, ((refl, (r, ((refl, (a, (b, tt))), tt))), tt))); taken = refl; sound = (refl, (refl, ((refl, refl), (refl, (refl, tt))))); shallow = omega arith },
  (record { spelled = (refl, ((refl, (thing, tt)), tt)); taken = refl; sound = refl; shallow = omega arith }, tt),
)
