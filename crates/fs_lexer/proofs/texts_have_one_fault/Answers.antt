use Rattle.fs_lexer.proofs.OnePlace.{one_fault, no_tokens}
use Rattle.fs_lexer.proofs.texts_have_one_fault.Goals as goal

pub returns-clause-one : goal.returns-clause-one
returns-clause-one c = one_fault

pub returns-clause-none : goal.returns-clause-none
returns-clause-none c = no_tokens
