use Rattle.std.proofs.Common.{rules, ◌≡◌, true}
use Rattle.fs_lexer.specs.Spelling.{begins, is_word_byte}
use Rattle.fs_lexer.specs.Faults.{is_quote, is_angle, is_other}
use Rattle.fs_lexer.proofs.Places.{string_placed, iri_placed, word_placed, byte_placed}
use Rattle.fs_lexer.proofs.reading.fault_at.Goals as goal

pub returns-in-34-clause-placed : goal.returns-in-34-clause-placed
returns-in-34-clause-placed c =
    let first : begins is_quote c.args.bytes.now ≡ true = search rules in
    λ text next. string_placed text c.args.at c.args.bytes.now next c.requires.none first

pub returns-in-60-clause-placed : goal.returns-in-60-clause-placed
returns-in-60-clause-placed c =
    let first : begins is_angle c.args.bytes.now ≡ true = search rules in
    λ text next. iri_placed text c.args.at c.args.bytes.now next c.requires.none first

pub returns-in-len1-up-clause-placed : goal.returns-in-len1-up-clause-placed
returns-in-len1-up-clause-placed c =
    let first : begins is_word_byte c.args.bytes.now ≡ true = search rules in
    λ text next. word_placed text c.args.at c.args.bytes.now next c.requires.none first

pub returns-in_default-2-clause-placed : goal.returns-in_default-2-clause-placed
returns-in_default-2-clause-placed c =
    let first : begins is_other c.args.bytes.now ≡ true = search rules in
    λ text next. byte_placed text c.args.at c.args.bytes.now next c.requires.none first
