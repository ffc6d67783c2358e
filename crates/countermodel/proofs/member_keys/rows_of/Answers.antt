use Rattle.std.proofs.Common.{ℕ, List, map, take, sym, subst, subst₂}
use Rattle.certificate.specs.View.{class_row_of}
use Rattle.certificate.specs.declared.listed.ClassRow.{ClassRow}
use Rattle.countermodel.specs.Members.{AddsMember, AreRowsBy, HasKey}
use Rattle.countermodel.proofs.MemberKeys.{all_keys, key_added, no_key}
use Rattle.countermodel.proofs.member_keys.rows_of.Goals as goal

pub loop-key-init : goal.loop-key-init
loop-key-init c = subst (λ (rs : List ClassRow). AreRowsBy (HasKey (take 0 c.args.keys.now)) (map class_row_of rs)) (sym c.new-rows.ensures.items) (no_key c.args.keys.now)

pub loop-key-preserved : goal.loop-key-preserved
loop-key-preserved c =
    let old = map class_row_of c.loop-key.rows.items in
    let new = map class_row_of c.add_member.new.rows.items in
    key_added c.args.keys.now c.requires c.loop-key.key-index c.loop-key-test.true old new
    (subst₂ (λ (e m : ℕ). AddsMember e m old new) c.member_with-element.ensures.class c.member_with-element.ensures.element c.in_ok-add_member.ensures) c.loop-key.invariant

pub returns : goal.returns
returns c = all_keys c.args.keys.now c.loop-key.key-index (map class_row_of c.loop-key.rows.items) c.loop-key-test.false c.loop-key.invariant
