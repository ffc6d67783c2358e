use Rattle.fs_lexer.proofs.bytes.letter_run.Goals as goal

pub returns : goal.returns
returns c = rw (c.split_at.ensures.front, c.split_at.ensures.back) c.letter_count.ensures.front
