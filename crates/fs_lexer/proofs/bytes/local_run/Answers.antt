use Rattle.fs_lexer.proofs.bytes.local_run.Goals as goal

pub returns : goal.returns
returns c = rw (c.split_at.ensures.front, c.split_at.ensures.back) c.local_count.ensures.front
