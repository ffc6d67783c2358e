use Rattle.std.proofs.Common.{List, Contains, sym, subst}
use Rattle.fs_parser.specs.Name.{CanBeSpelled}
use Rattle.fs_parser.specs.declared.prefixes.OwnedPrefix.{OwnedPrefix}
use Rattle.fs_parser.proofs.OwnedBases.{owned_spelled}
use Rattle.fs_parser.proofs.prefixes.Prefixes.list.Goals as goal

pub invariant_of-push : goal.invariant_of-push
invariant_of-push c =
    let p = c.prefix-item.result in
    let there : Contains c.self.inside.declared.items p =
    subst (λ (ps : List OwnedPrefix). Contains ps p) c.deref-prefix-items.ensures.value (c.loop-prefix.prefix-index, c.loop-prefix-test.true, sym c.prefix-item.is) in
    record { spelled = ∣ subst CanBeSpelled (sym c.as_str-in-loop-prefix.ensures.value) (owned_spelled c.self.inside c.self.invariant.1 p there) ∣₁ }
