use Rattle.std.proofs.Common.{arith}
use Rattle.std.proofs.lemmas.Str.Pattern.{strip_suffix_char}
use Rattle.fs_parser.proofs.Steps.{none_before}
use Rattle.fs_parser.proofs.prefix.before_colon.Goals as goal

pub returns-clause-none : goal.returns-clause-none
returns-clause-none c =
    none_before 58 c.args.text.now c.strip_suffix.result (strip_suffix_char 58 c.args.text.now c.strip_suffix.result c.strip_suffix.ensures.cases (omega arith))
