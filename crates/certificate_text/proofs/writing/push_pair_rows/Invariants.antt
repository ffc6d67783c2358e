use Rattle.std.proofs.Common.{◌≡◌, ◌++◌, map, take}
use Rattle.std.specs.List.{flat_map}
use Rattle.certificate.specs.Text.{pairs_text}
use Rattle.certificate.specs.View.{pair_row_of}
use Rattle.certificate_text.proofs.writing.push_pair_rows.Given as goal

abbrev pub invariant-loop-row : goal.invariant-loop-row
invariant-loop-row l = l.out.items ≡ l.fn.out.items ++ flat_map (pairs_text l.format) (map pair_row_of (take l.row-index l.rows))
