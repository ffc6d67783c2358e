use Rattle.std.proofs.Common.{arith, refl}
use Rattle.std.proofs.lemmas.Bool.Decides.{Decides-eqb}
use Rattle.std.proofs.lemmas.Slice.Eq.{strip_prefix_is}
use Rattle.speech.proofs.Beginnings.{alone, another, empty_rest, with_more}
use Rattle.speech.proofs.line.begins_with.Goals as goal

pub returns-in_default : goal.returns-in_default
returns-in_default c =
    let none = rw c.in_default.is at (strip_prefix_is Decides-eqb c.args.line.now c.args.word.now c.strip_prefix.result c.strip_prefix.ensures.cases) in
    (λ t. absurd (cc), λ b. absurd (another c.args.word.now c.args.line.now none b))

pub returns-in-empty : goal.returns-in-empty
returns-in-empty c =
    let is = rw c.in-Some.is at (strip_prefix_is Decides-eqb c.args.line.now c.args.word.now c.strip_prefix.result c.strip_prefix.ensures.cases) in
    (λ t. alone c.args.word.now c.args.line.now c.in-Some.rest.now is (empty_rest c.in-Some.rest.now c.in-empty.len_below), λ b. refl)

pub returns-in-len1-up : goal.returns-in-len1-up
returns-in-len1-up c =
    let is = rw c.in-Some.is at (strip_prefix_is Decides-eqb c.args.line.now c.args.word.now c.strip_prefix.result c.strip_prefix.ensures.cases) in
    with_more c.args.word.now c.args.line.now c.in-Some.rest.now is (omega arith)
