use Rattle.std.proofs.Common.{◌∙◌, arith, sym}
use Rattle.fs_lexer.specs.Reading.{is_local_byte}
use Rattle.fs_lexer.proofs.Searches.{span_stop}
use Rattle.fs_lexer.proofs.bytes.local_count.Goals as goal

pub returns-else-is_local_byte-clause-front : goal.returns-else-is_local_byte-clause-front
returns-else-is_local_byte-clause-front c = span_stop is_local_byte c.args.bytes.now c.loop-n.n c.loop-n.invariant.0 c.loop-n.invariant.1 (λ l. sym c.is_local_byte.ensures ∙ c.if-is_local_byte.false)

pub returns-after-loop-n-clause-front : goal.returns-after-loop-n-clause-front
returns-after-loop-n-clause-front c = span_stop is_local_byte c.args.bytes.now c.loop-n.n c.loop-n.invariant.0 c.loop-n.invariant.1 (λ l. absurd (omega (arith, c.loop-n-test.false)))
