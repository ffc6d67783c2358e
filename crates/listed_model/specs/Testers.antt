-- What axioms are tested over.
use Rattle.std.specs.Prelude.{ℕ}
use Rattle.certificate.specs.View.{listed_of}
use Rattle.certificate.specs.Writability.{IsListedOf}
use Rattle.listed_model.specs.Extensions.{IsElement}
use Rattle.listed_model.specs.Keeping.{AreKept}
use Rattle.listed_model.specs.declared.tester.Tester.{Tester}

-- the interpretation is listed of the ontology's names, and what is kept are its elements
pub record IsReady (t : Tester) : Type 0 where
  pub listed : IsListedOf t.ontology.now (listed_of t.listed.now)
  pub kept : AreKept t.ontology.now t.listed.now t.kept.now

-- x is an element of the expression of that number
abbrev pub HasElement : Tester → ℕ → ℕ → Type 0
HasElement t e x = IsElement t.ontology.now (listed_of t.listed.now) e x
