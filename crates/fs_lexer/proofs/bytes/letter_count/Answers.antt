use Rattle.std.proofs.Common.{◌∙◌, arith, sym}
use Rattle.std.specs.Char.{is_ascii_alphabetic}
use Rattle.fs_lexer.proofs.Searches.{span_stop}
use Rattle.fs_lexer.proofs.bytes.letter_count.Goals as goal

pub returns-else-is_letter-clause-front : goal.returns-else-is_letter-clause-front
returns-else-is_letter-clause-front c = span_stop is_ascii_alphabetic c.args.bytes.now c.loop-n.n c.loop-n.invariant.0 c.loop-n.invariant.1 (λ l. sym c.is_letter.ensures ∙ c.if-is_letter.false)

pub returns-after-loop-n-clause-front : goal.returns-after-loop-n-clause-front
returns-after-loop-n-clause-front c = span_stop is_ascii_alphabetic c.args.bytes.now c.loop-n.n c.loop-n.invariant.0 c.loop-n.invariant.1 (λ l. absurd (omega (arith, c.loop-n-test.false)))
