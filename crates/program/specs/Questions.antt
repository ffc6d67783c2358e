-- The words with which commands ask about a class.
use Rattle.std.specs.Prelude.{ℕ, List, codes}
use Rattle.program.specs.declared.question.Related.{Related}
use Rattle.program.specs.declared.question.Related.TheVariants.{Superclasses, Subclasses, Equivalents, Instances}
use Rattle.program.specs.declared.question.Side.{Side}
use Rattle.program.specs.declared.question.Side.TheVariants.{Above, Below}

-- for names that are related to it
abbrev pub related_word : Related → List ℕ
related_word Superclasses = codes "supers"
related_word Subclasses = codes "subs"
related_word Equivalents = codes "equivalents"
related_word Instances = codes "instances"

-- for the classes directly on that side of it
abbrev pub side_word : Side → List ℕ
side_word Above = codes "parents"
side_word Below = codes "children"
