-- Words behind the first three.
use Rattle.std.proofs.Common.{◌≡◌, ◌∙◌, ◌++◌, ◌∷◌, ◌≤◌, ℕ, List, Bool, true, false, Option, Some, None, length, codes, sym, ap, arith}
use Rattle.program.specs.declared.question.Question.TheVariants.{Names, Groups, Why, Unsatisfiable, Types, DirectTypes, Lacks}
use Rattle.program.specs.declared.question.Spelling.{Spelling}
use Rattle.program.specs.declared.question.Spelling.TheVariants.{Full, Short}
use Rattle.speech.proofs.Splitting.{some_word}
use Rattle.speech.specs.Commands.{AsksOfTwo, AreOptionsOf, IsCommandAmong, IsCommandOf, option_words, shown_words, spelling_words, split_words, words_of}
use Rattle.speech.specs.declared.command.Command.{Command}
use Rattle.speech.specs.declared.command.Command.TheVariants as asked
use Rattle.speech.specs.declared.options.Options.{Options}

few : (reached axioms : Bool) (spelling : Spelling) → length (shown_words reached axioms ++ spelling_words spelling) ≤ 3
few false false Full = omega arith
few false false Short = omega arith
few false true Full = omega arith
few false true Short = omega arith
few true false Full = omega arith
few true false Short = omega arith
few true true Full = omega arith
few true true Short = omega arith

-- options are three words at most
pub too_many : (options : Options) (a b c rest : List ℕ) → option_words options ≡ a ∷ b ∷ c ∷ split_words rest → ⊥
too_many options a b c rest e =
    let low = few options.reached options.axioms options.spelling in
    let more = some_word rest in
    let long : length (option_words options) ≡ length (a ∷ b ∷ c ∷ more.0 ∷ more.1) = ap length (e ∙ ap (λ (w : List (List ℕ)). a ∷ b ∷ c ∷ w) more.2) in
    omega (arith, low, long)

-- a question about a subject and a class has options behind these
options_behind : (verb subject class : List ℕ) (words : List (List ℕ)) (command : Command) → AsksOfTwo command → words_of command ≡ verb ∷ subject ∷ class ∷ words → (options : Options) × (option_words options ≡ words)
options_behind verb subject class words (asked.Ask (Why of in_class shown) spelling) of_two e = (record { reached = shown.reached; axioms = shown.axioms; spelling = spelling }, cc)
options_behind verb subject class words (asked.Ask (Lacks of in_class) spelling) of_two e = (record { reached = false; axioms = false; spelling = spelling }, cc)
options_behind verb subject class words command of_two e = absurd of_two

-- what has a fourth word and does not write is one
is_of_two : (verb subject class word : List ℕ) (words : List (List ℕ)) (command : Command) → (verb ≡ codes "write" → ⊥) → words_of command ≡ verb ∷ subject ∷ class ∷ word ∷ words → AsksOfTwo command
is_of_two verb subject class word words (asked.Add size) other e = absurd (cc)
is_of_two verb subject class word words asked.Run other e = absurd (cc)
is_of_two verb subject class word words (asked.RunSome more) other e = absurd (cc)
is_of_two verb subject class word words (asked.Ask (Names related of) Full) other e = absurd (cc)
is_of_two verb subject class word words (asked.Ask (Names related of) Short) other e = absurd (cc)
is_of_two verb subject class word words (asked.Ask (Groups side of) Full) other e = absurd (cc)
is_of_two verb subject class word words (asked.Ask (Groups side of) Short) other e = absurd (cc)
is_of_two verb subject class word words (asked.Ask (Why of in_class shown) spelling) other e = tt
is_of_two verb subject class word words (asked.Ask Unsatisfiable Full) other e = absurd (cc)
is_of_two verb subject class word words (asked.Ask Unsatisfiable Short) other e = absurd (cc)
is_of_two verb subject class word words (asked.Ask (Types of) Full) other e = absurd (cc)
is_of_two verb subject class word words (asked.Ask (Types of) Short) other e = absurd (cc)
is_of_two verb subject class word words (asked.Ask (DirectTypes of) Full) other e = absurd (cc)
is_of_two verb subject class word words (asked.Ask (DirectTypes of) Short) other e = absurd (cc)
is_of_two verb subject class word words (asked.Ask (Lacks of in_class) spelling) other e = tt
is_of_two verb subject class word words (asked.Query size) other e = absurd (cc)
is_of_two verb subject class word words (asked.Entails size) other e = absurd (cc)
is_of_two verb subject class word words (asked.Write paths) other e = let writes : verb ≡ codes "write" = cc in absurd (other writes)
is_of_two verb subject class word words (asked.Infer path) other e = absurd (cc)
is_of_two verb subject class word words (asked.Axiom number Full) other e = absurd (cc)
is_of_two verb subject class word words (asked.Axiom number Short) other e = absurd (cc)
is_of_two verb subject class word words asked.Status other e = absurd (cc)
is_of_two verb subject class word words asked.Version other e = absurd (cc)

pub of_two : (verb subject class text : List ℕ) (command : Command) → (verb ≡ codes "write" → ⊥) → words_of command ≡ verb ∷ subject ∷ class ∷ split_words text → AsksOfTwo command
of_two verb subject class text command other e =
    let some = some_word text in
    is_of_two verb subject class some.0 some.1 command other (e ∙ ap (λ (w : List (List ℕ)). verb ∷ subject ∷ class ∷ w) some.2)

-- where the text behind three words is of no options, they are no command
pub no_options : (verb subject class text : List ℕ) → (verb ≡ codes "write" → ⊥) → AreOptionsOf (split_words text) None → IsCommandOf (verb ∷ subject ∷ class ∷ split_words text) None
no_options verb subject class text other none command counted e =
    let there = options_behind verb subject class (split_words text) command (of_two verb subject class text command other e) e in
    none there.0 there.1

-- and with options it is what asks about a subject and a class
pub with_options : (verb subject class text : List ℕ) (options : Options) (result : Option Command) → (verb ≡ codes "write" → ⊥) → AreOptionsOf (split_words text) (Some options)
    → IsCommandAmong AsksOfTwo (verb ∷ subject ∷ class ∷ option_words options) result → IsCommandOf (verb ∷ subject ∷ class ∷ split_words text) result
with_options verb subject class text options (Some command) other is (words, counted) = (words ∙ ap (λ (w : List (List ℕ)). verb ∷ subject ∷ class ∷ w) is, counted)
with_options verb subject class text options None other is none =
    λ command counted e. none command (of_two verb subject class text command other e) counted (e ∙ ap (λ (w : List (List ℕ)). verb ∷ subject ∷ class ∷ w) (sym is))
