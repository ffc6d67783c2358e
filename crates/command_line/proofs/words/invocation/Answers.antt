use Rattle.std.proofs.Common.{◌≡◌, map, true, refl, sym, subst, Option, List, []}
use Rattle.clap.specs.Faults.{fault_of, is_simple_and_free}
use Rattle.clap.specs.Kinds.{HasKind}
use Rattle.clap.specs.Values.{kind_of}
use Rattle.clap.specs.Words.{App, HasMatchesOf, Row, Text, subcommand_of, subcommand_rows_of, takes}
use Rattle.clap.specs.declared.error.kind.ErrorKind.TheVariants.{OutOfMemory}
use Rattle.command_line.specs.CommandLine.{NamesTask, elc_app}
use Rattle.command_line.specs.declared.tasks.Task.{Task}
use Rattle.command_line.proofs.NoTask.{not_alone, refuses, told}
use Rattle.command_line.proofs.words.invocation.Goals as goal

pub returns-in-Err : goal.returns-in-Err
returns-in-Err c =
    let words = map (λ w. w.now) c.args.words.now in
    let error = c.in-Err.error in
    let P : App → Type 0 = λ app. takes app words ≡ true → kind_of error ≡ OutOfMemory in
    let Q : App → Type 0 = λ app. is_simple_and_free app ≡ true → HasKind (fault_of app words) error in
    let both = told words error c.untaken.result (subst P c.in-Ok.ensures.app c.in-Err.ensures.passes) (subst Q c.in-Ok.ensures.app c.in-Err.ensures.kinds refl) c.untaken.ensures in
    record { asked = both.0; refused = both.1 }

pub returns-in-None-clause-refused : goal.returns-in-None-clause-refused
returns-in-None-clause-refused c =
    let words = map (λ w. w.now) c.args.words.now in
    let matches = c.in-Ok-try_get_matches_from_mut.matches in
    let P : App → Type 0 = λ app. HasMatchesOf app words matches in
    let has : HasMatchesOf elc_app words matches = subst P c.in-Ok.ensures.app c.in-Ok-try_get_matches_from_mut.ensures.ok.2 in
    let rows : subcommand_rows_of matches ≡ subcommand_of elc_app words = (has refl).1 in
    let Q : Task → Option (Text × List Row) → Type 0 = λ task entered. NamesTask entered task in
    let R : App → Type 0 = λ app. is_simple_and_free app ≡ true → fault_of app words ≡ [] in
    let no_fault = subst R c.in-Ok.ensures.app c.in-Ok-try_get_matches_from_mut.ensures.kinds refl in
    refuses words c.missing_command.result no_fault (λ task h. c.in-None.ensures task (subst (Q task) (sym rows) h))

pub returns-in-Some-clause-asked : goal.returns-in-Some-clause-asked
returns-in-Some-clause-asked c =
    let words = map (λ w. w.now) c.args.words.now in
    let matches = c.in-Ok-try_get_matches_from_mut.matches in
    let P : App → Type 0 = λ app. HasMatchesOf app words matches in
    let has : HasMatchesOf elc_app words matches = subst P c.in-Ok.ensures.app c.in-Ok-try_get_matches_from_mut.ensures.ok.2 in
    let rows : subcommand_rows_of matches ≡ subcommand_of elc_app words = (has refl).1 in
    let Q : Option (Text × List Row) → Type 0 = λ entered. NamesTask entered c.in-Some.task in
    let R : App → Type 0 = λ app. is_simple_and_free app ≡ true → fault_of app words ≡ [] in
    let no_fault = subst R c.in-Ok.ensures.app c.in-Ok-try_get_matches_from_mut.ensures.kinds refl in
    (subst Q rows c.in-Some.ensures, not_alone no_fault)
