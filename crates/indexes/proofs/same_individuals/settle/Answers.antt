use Rattle.std.proofs.Common.{length, refl, ◌∙◌, arith}
use Rattle.std.specs.List.{All}
use Rattle.std.proofs.lemmas.List.Elements.{All-contains}
use Rattle.lemmas.proofs.Members.{Contains-from_slice_get}
use Rattle.indexes.specs.Groups.{IsBelow}
use Rattle.indexes.proofs.Paths.{alone_down, alone_sound}
use Rattle.indexes.proofs.Grouping.{at_end, joined_more}
use Rattle.indexes.proofs.same_individuals.settle.Goals as goal

pub loop-number-init : goal.loop-number-init
loop-number-init c = record {
  long = refl;
  down = alone_down c.args.table.now c.requires.alone;
  joined = λ k form i j l at link. absurd (omega (arith, l));
  sound = alone_sound c.args.forms.now c.args.table.now c.requires.alone;
}

pub join_by-requires-clause-below : goal.join_by-requires-clause-below
join_by-requires-clause-below c =
    let forms = c.args.forms.now in
    let there = Contains-from_slice_get forms c.loop-number.number c.at.result c.at.ensures in
    rw c.loop-number.invariant.long (All-contains (IsBelow (length c.args.table.now)) forms c.at.result c.requires.below there)

pub loop-number-preserved : goal.loop-number-preserved
loop-number-preserved c =
    let forms = c.args.forms.now in
    let number = c.loop-number.number in
    let inv = c.loop-number.invariant in
    let by = c.join_by.ensures in
    record {
      long = by.long ∙ inv.long;
      down = by.down;
      joined = joined_more forms c.loop-number.table c.join_by.new.table number c.at.result c.at.ensures by inv.joined;
      sound = by.sound forms inv.sound (Contains-from_slice_get forms number c.at.result c.at.ensures);
    }

pub returns : goal.returns
returns c =
    let forms = c.args.forms.now in
    let inv = c.loop-number.invariant in
    let below : All (IsBelow (length c.loop-number.table)) forms = rw inv.long c.requires.below in
    at_end forms c.loop-number.table c.flatten.new.table c.loop-number.number (omega (arith, c.loop-number-test.false, c.len-number-end.ensures))
    below inv.down inv.sound inv.joined c.flatten.ensures.long c.flatten.ensures.roots
