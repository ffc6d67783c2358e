use Rattle.std.proofs.Common.{◌≡◌, ◌∷◌, None, Option, codes, rules, subst, sym}
use Rattle.speech.proofs.Asking.{no_options, with_options}
use Rattle.speech.specs.Commands.{AreOptionsOf, IsCommandOf, split_words}
use Rattle.speech.specs.declared.command.Command.{Command}
use Rattle.speech.proofs.commands.command_with_more.Goals as goal

pub returns-in_err-options : goal.returns-in_err-options
returns-in_err-options c =
    let a = c.args in
    let other : a.verb.now ≡ codes "write" → ⊥ = search rules in
    let none : AreOptionsOf (split_words a.text.now) None = search rules in
    let P : Option Command → Type 0 = λ found. IsCommandOf (a.verb.now ∷ a.subject.now ∷ a.class.now ∷ split_words a.text.now) found in
    subst P (sym c.from_residual.ensures) (no_options a.verb.now a.subject.now a.class.now a.text.now other none)

pub returns : goal.returns
returns c =
    let other : c.args.verb.now ≡ codes "write" → ⊥ = search rules in
    with_options c.args.verb.now c.args.subject.now c.args.class.now c.args.text.now c.in_ok-options.options c.ask_of_two.result other c.in_ok-options.ensures c.ask_of_two.ensures
