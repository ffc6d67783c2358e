use Rattle.fs_lexer.proofs.State.{spelled_slices}
use Rattle.fs_lexer.proofs.Whole.{one_spelling}
use Rattle.fs_lexer.proofs.texts_spell_one_list.Goals as goal

pub returns-clause-one : goal.returns-clause-one
returns-clause-one c = one_spelling

pub returns-clause-slices : goal.returns-clause-slices
returns-clause-slices c = spelled_slices
