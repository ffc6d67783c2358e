use Rattle.fs_parser.proofs.Faults.{first_starts}
use Rattle.fs_parser.proofs.Steps.{word_found}
use Rattle.fs_parser.proofs.document.expect_word.Goals as goal

pub returns-then-is_word-clause-found : goal.returns-then-is_word-clause-found
returns-then-is_word-clause-found c =
    word_found c.args.word.now c.args.tokens.now c.token-item.result (c.token-item.is, c.in-len1-up.len_at_least) (c.is_word.ensures.0 c.if-is_word.true)

pub returns-else-is_word-clause-said : goal.returns-else-is_word-clause-said
returns-else-is_word-clause-said c = first_starts c.args.tokens.now c.token-item.result (c.token-item.is, c.in-len1-up.len_at_least)
