-- What clap finds by the rules of `elcheck`.
use Rattle.std.proofs.Common.{◌≡◌, Bool, List, true, false, refl, subst, sym}
use Rattle.clap.specs.Simple.{is_simple}
use Rattle.clap.specs.Words.{App, HasMatchesOf, Row, Text, found_of, matches_of, rows_of}
use Rattle.clap.specs.declared.parser.matches.ArgMatches.{ArgMatches}
use Rattle.command_line.specs.Receiver.{IsReceiverTaskOf, IsRuledTask, RefusesReceiver, asks_conversion, ruled_words, rules}
use Rattle.command_line.specs.declared.receiver.ReceiverTask.{ReceiverTask}
use Rattle.command_line.specs.declared.tasks.LineFault.{LineFault}
use Rattle.command_line.specs.declared.tasks.LineFault.TheVariants.{Line, Memory}

simple : (converts : Bool) → is_simple (rules converts) ≡ true
simple true = refl
simple false = refl

-- the rows of the words by the rules
rows_found : (converts : Bool) (words given : List Text) (app : App) (m : ArgMatches) → app ≡ rules converts → given ≡ ruled_words converts words → HasMatchesOf app given m → rows_of (found_of m) ≡ matches_of (rules converts) (ruled_words converts words)
rows_found converts words given app m is_app is_given has =
    let P : App → Type 0 = λ a. HasMatchesOf a given m in
    let Q : List Text → Type 0 = λ ws. HasMatchesOf (rules converts) ws m in
    let there : HasMatchesOf (rules converts) (ruled_words converts words) m = subst Q is_given (subst P is_app has) in
    (there (simple converts)).0

-- a task of these rows is what the words ask for
pub asked : (converts : Bool) (words given : List Text) (app : App) (m : ArgMatches) (task : ReceiverTask) → converts ≡ asks_conversion words → app ≡ rules converts → given ≡ ruled_words converts words → HasMatchesOf app given m → IsRuledTask converts (rows_of (found_of m)) task → IsReceiverTaskOf words task
asked converts words given app m task same is_app is_given has is =
    let R : List Row → Type 0 = λ rows. IsRuledTask converts rows task in
    let S : Bool → Type 0 = λ c. IsRuledTask c (matches_of (rules c) (ruled_words c words)) task in
    subst S same (subst R (rows_found converts words given app m is_app is_given has) is)

-- where these rows have none, the words ask for none
pub refused : (converts : Bool) (words given : List Text) (app : App) (m : ArgMatches) → converts ≡ asks_conversion words → app ≡ rules converts → given ≡ ruled_words converts words → HasMatchesOf app given m → ((task : ReceiverTask) → IsRuledTask converts (rows_of (found_of m)) task → ⊥) → (fault : LineFault) → RefusesReceiver words fault
refused converts words given app m same is_app is_given has none (Line error) = λ taken task of.
    let R : List Row → Type 0 = λ rows. IsRuledTask converts rows task in
    let S : Bool → Type 0 = λ c. IsRuledTask c (matches_of (rules c) (ruled_words c words)) task in
    none task (subst R (sym (rows_found converts words given app m is_app is_given has)) (subst S (sym same) of))
refused converts words given app m same is_app is_given has none Memory = tt
