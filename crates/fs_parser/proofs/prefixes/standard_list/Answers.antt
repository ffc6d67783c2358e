use Rattle.std.proofs.Common.{refl}
use Rattle.fs_parser.proofs.SmallBytes.{plain}
use Rattle.fs_parser.proofs.prefixes.standard_list.Goals as goal

pub standard-requires : goal.standard-requires
standard-requires c = ∣ record { spelled = refl; utf8 = plain _ refl } ∣₁

pub standard-requires-2 : goal.standard-requires-2
standard-requires-2 c = ∣ record { spelled = refl; utf8 = plain _ refl } ∣₁

pub standard-requires-3 : goal.standard-requires-3
standard-requires-3 c = ∣ record { spelled = refl; utf8 = plain _ refl } ∣₁

pub standard-requires-4 : goal.standard-requires-4
standard-requires-4 c = ∣ record { spelled = refl; utf8 = plain _ refl } ∣₁
