use Rattle.std.proofs.Common.{List, ℕ, subst, sym}
use Rattle.std.proofs.lemmas.Result.{on_ok_weaker}
use Rattle.std.specs.List.{insert}
use Rattle.indexes.specs.Seconds.{IsInOrder}
use Rattle.indexes.proofs.Putting.{put_ordered}
use Rattle.indexes.proofs.form_lists.FormLists.put_in_place.Goals as goal

pub returns-clause-order : goal.returns-clause-order
returns-clause-order c =
    let old = c.args.self.now in
    on_ok_weaker c.put.result
    (λ puts. put_ordered c.args.forms.now old c.put.new.self c.args.key c.place_of-many.result c.args.number c.requires
    (subst (λ (xs : List ℕ). IsInOrder c.args.forms.now (insert xs c.place_of-many.result c.args.number)) c.of.ensures c.place_of-many.ensures.order)
    puts)
    c.put.ensures

pub place_of-many-requires : goal.place_of-many-requires
place_of-many-requires c = subst (IsInOrder c.args.forms.now) (sym c.of.ensures) (c.requires c.args.key)
