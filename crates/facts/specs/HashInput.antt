-- Numbers that stand for the parts of facts, from which facts are hashed.
use Rattle.std.specs.Prelude.{ℕ, ◌+◌}
use Rattle.facts.specs.declared.contexts.Context.{Context}
use Rattle.facts.specs.declared.contexts.Context.TheVariants as contexts
use Rattle.normal_forms.specs.declared.forms.Class2.{Class2}
use Rattle.normal_forms.specs.declared.forms.Class2.TheVariants as classes
use Rattle.normal_forms.specs.declared.forms.PropId2.{PropId2}
use Rattle.normal_forms.specs.declared.forms.PropId2.TheVariants as properties

-- numbers of the second of two kinds stand above all of the first
abbrev pub class_word : Class2 → ℕ
class_word (classes.Expr e) = e.0
class_word (classes.Partial n) = 4294967296 + n

abbrev pub property_word : PropId2 → ℕ
property_word (properties.Property p) = p.0
property_word (properties.Partial n) = 4294967296 + n

abbrev pub context_word : Context → ℕ
context_word (contexts.Expr e) = e.0
context_word (contexts.Individual a) = 4294967296 + a.0
