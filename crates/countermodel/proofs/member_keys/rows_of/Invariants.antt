use Rattle.std.proofs.Common.{map, take}
use Rattle.certificate.specs.View.{class_row_of}
use Rattle.countermodel.specs.Members.{AreRowsBy, HasKey}
use Rattle.countermodel.proofs.member_keys.rows_of.Given as goal

abbrev pub invariant-loop-key : goal.invariant-loop-key
invariant-loop-key l = AreRowsBy (HasKey (take l.key-index l.keys)) (map class_row_of l.rows.items)
