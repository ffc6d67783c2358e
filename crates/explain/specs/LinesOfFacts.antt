-- Lines that show facts: of a prefix of an intersection a line for each operand, of one of a chain a walk along it.
use Rattle.std.specs.Prelude.{◌≡◌, ℕ, List, [], ◌∷◌, ◌++◌, map, slice_get, Some}
use Rattle.certificate.specs.Certificate.{Conclusion, Sub, Line}
use Rattle.cert_check.specs.Derivation.{at_numbers}
use Rattle.cert_check.specs.Lines.{IsWalk}
use Rattle.closure.specs.Closure.{Fact, In, Edge}
use Rattle.closure.specs.Denotations.{Prefixes, SaysFact}
use Rattle.engine.specs.Saturations.{Saturated}
use Rattle.exactness.specs.Derivability.{subject_of}
use Rattle.facts.specs.declared.contexts.Fact as code
use Rattle.normal_forms.specs.Forms.{Class2, Whole, Prefix, Property2, Property, Steps}
use Rattle.normalise.specs.Problem.{prefixes_of}

-- a class itself, or the operands of a prefix
abbrev pub operands_of : Class2 → List ℕ
operands_of (Whole e) = e ∷ []
operands_of (Prefix ds) = ds

abbrev pub steps_of : Property2 → List ℕ
steps_of (Property r) = r ∷ []
steps_of (Steps rs) = rs

-- the conclusions say what the fact does
abbrev pub IsShownBy : Fact → List Conclusion → Type 0
IsShownBy (In a x) cs = cs ≡ map (Sub (subject_of x)) (operands_of a)
IsShownBy (Edge x r y) cs = IsWalk (subject_of x) (steps_of r) (subject_of y) cs

-- the lines of these numbers, counted from 1, show what the fact over numbers says
pub record AreShowing (b : Prefixes) (lines : List Line) (numbers : List ℕ) (f : code.Fact) : Type 0 where
  pub fact : Fact
  pub says : SaysFact b f fact
  pub conclusions : List Conclusion
  pub at : at_numbers (map (λ l. l.conclusion) lines) numbers ≡ Some conclusions
  pub shown : IsShownBy fact conclusions

-- they show what the fact of a saturation says
abbrev pub AreShowingIn : Saturated → List Line → List ℕ → code.Fact → Type 0
AreShowingIn s lines numbers f = AreShowing (prefixes_of s.normal) lines numbers f

-- the lines of these numbers show the fact of that number
abbrev pub ShowsFact : Saturated → List Line → ℕ → List ℕ → Type 0
ShowsFact s lines fact numbers = (f : code.Fact) → slice_get s.state.facts fact ≡ Some f → AreShowing (prefixes_of s.normal) lines numbers f

-- the new lines are the old ones with more behind them
pub record Lengthens (old new : List Line) : Type 0 where
  pub more : List Line
  pub new_is : new ≡ old ++ more
