use Rattle.std.proofs.Common.{◌≡◌, ◌++◌, map, take}
use Rattle.std.specs.List.{flat_map}
use Rattle.certificate.specs.Text.{class_text}
use Rattle.certificate.specs.View.{class_row_of}
use Rattle.certificate_text.proofs.writing.push_class_rows.Given as goal

abbrev pub invariant-loop-row : goal.invariant-loop-row
invariant-loop-row l = l.out.items ≡ l.fn.out.items ++ flat_map (class_text l.format) (map class_row_of (take l.row-index l.rows))
