use Rattle.std.proofs.Common.{◌++◌, ◌∷◌, [], Some, None, arith}
use Rattle.std.proofs.lemmas.Str.Pattern.{strip_prefix_char, strip_suffix_char}
use Rattle.fs_parser.proofs.Steps.{not_bracketed}
use Rattle.fs_parser.proofs.prefix.in_brackets.Goals as goal

pub returns-in-Some-clause-none : goal.returns-in-Some-clause-none
returns-in-Some-clause-none c =
    not_bracketed c.args.text.now c.in-Some.rest.now c.strip_suffix.result
    (strip_prefix_char 60 c.args.text.now (Some c.in-Some.rest) c.in-Some.ensures.cases (omega arith))
    (strip_suffix_char 62 c.in-Some.rest.now c.strip_suffix.result c.strip_suffix.ensures.cases (omega arith))

pub returns-in-None-clause-none : goal.returns-in-None-clause-none
returns-in-None-clause-none c = λ x e. strip_prefix_char 60 c.args.text.now None c.in-None.ensures.cases (omega arith) (x ++ 62 ∷ []) e
