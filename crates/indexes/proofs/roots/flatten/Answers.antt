use Rattle.std.proofs.Common.{◌<◌, length, slice_index, ◌∙◌, arith}
use Rattle.std.proofs.lemmas.List.{length-set}
use Rattle.indexes.proofs.Paths.{flattened, before_more, behind_more}
use Rattle.indexes.proofs.roots.flatten.Goals as goal

pub loop-place-preserved : goal.loop-place-preserved
loop-place-preserved c =
    let t = c.args.table.now in
    let now = c.loop-place.table in
    let place = c.loop-place.place in
    let inv = c.loop-place.invariant in
    let v = slice_index now (slice_index now place) in
    let l : place < length t = omega (arith, c.loop-place-test.true) in
    let l' : place < length now = omega (arith, inv.long, l) in
    record {
      long = length-set now place v ∙ inv.long;
      before = before_more t now place v l' inv.before (flattened t now place c.requires.table l inv.long inv.before inv.behind);
      behind = behind_more t now place v inv.behind;
    }
