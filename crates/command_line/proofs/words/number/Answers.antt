use Rattle.std.specs.contracts.prelude.U64FromStr.TheImpl.{from_str_gives-value as u64_text}
use Rattle.clap.specs.Words.{found_of, rows_of}
use Rattle.clap.proofs.WalkLemmas.{one_text-rows}
use Rattle.command_line.proofs.Numbers.{finds_number}
use Rattle.command_line.proofs.words.number.Goals as goal

pub returns : goal.returns
returns c =
    let f = found_of c.args.inner.now in
    let id = c.args.id.now in
    finds_number u64_text.it id (rows_of f) _ c.get_one.result (one_text-rows f id) c.get_one.ensures.none c.get_one.ensures.value (λ word n h. h.0) (λ word e h. h.0)
