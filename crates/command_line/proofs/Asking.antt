-- Where a command's name and words are no question.
use Rattle.std.proofs.Common.{◌≡◌, ℕ, List, Bool, refl, subst}
use Rattle.std.specs.Prelude.{bytes_eq, codes, false, true}
use Rattle.clap.specs.Words.{Row}
use Rattle.command_line.specs.CommandLine.{IsAsked, IsFlag, IsQuestion}
use Rattle.program.specs.declared.question.Asked.{Asked}
use Rattle.program.specs.declared.question.Asked.TheVariants.{Class, Individual}
use Rattle.program.specs.declared.question.Question.{Question}
use Rattle.program.specs.declared.question.Question.TheVariants.{DirectTypes, Groups, Lacks, Names, Types, Unsatisfiable, Why}
use Rattle.program.specs.declared.question.Related.TheVariants.{Equivalents, Instances, Subclasses, Superclasses}
use Rattle.program.specs.declared.question.Side.TheVariants.{Above, Below}

-- where no flag says of what it is asked, it is asked of nothing
pub no_asked : (rows : List Row) → ((b : Bool) → IsFlag (codes "individual") rows b → ⊥) → (asked : Asked) → IsAsked rows asked → ⊥
no_asked rows none (Class c) is = none false is.1
no_asked rows none (Individual a) is = none true is.1

-- where no flag says which of an individual's classes are asked for, none are
pub no_types : (rows : List Row) → ((b : Bool) → IsFlag (codes "direct") rows b → ⊥) → (question : Question) → IsQuestion (codes "types") rows question → ⊥
no_types rows none (Types individual) is = none false is.2
no_types rows none (DirectTypes individual) is = none true is.2
no_types rows none (Names Superclasses class) is = let bad : codes "types" ≡ codes "supers" = is.0 in cc
no_types rows none (Names Subclasses class) is = let bad : codes "types" ≡ codes "subs" = is.0 in cc
no_types rows none (Names Equivalents class) is = let bad : codes "types" ≡ codes "equivalents" = is.0 in cc
no_types rows none (Names Instances class) is = let bad : codes "types" ≡ codes "instances" = is.0 in cc
no_types rows none (Groups Above class) is = let bad : codes "types" ≡ codes "parents" = is.0 in cc
no_types rows none (Groups Below class) is = let bad : codes "types" ≡ codes "children" = is.0 in cc
no_types rows none (Why asked class shown) is = let bad : codes "types" ≡ codes "explain" = is.0 in cc
no_types rows none Unsatisfiable is = let bad : codes "types" ≡ codes "unsatisfiable" = is in cc
no_types rows none (Lacks asked class) is =
    let P : List ℕ → Type 0 = λ word. bytes_eq (codes "types") word ≡ true in
    let bad : false ≡ true = subst P is.0 refl in
    cc
