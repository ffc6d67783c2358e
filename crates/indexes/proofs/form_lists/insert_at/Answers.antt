use Rattle.std.proofs.Common.{ap, ap₂, sym, ◌∙◌}
use Rattle.std.specs.Prelude.{slice_set}
use Rattle.std.specs.List.{insert}
use Rattle.std.proofs.lemmas.Option.{same_Some}
use Rattle.std.proofs.lemmas.Result.{on_ok_weaker}
use Rattle.indexes.proofs.Changing.{kept_elsewhere, set_one, stands, used_either}
use Rattle.indexes.proofs.form_lists.insert_at.Goals as goal

pub insert-requires : goal.insert-requires
insert-requires c = c.requires.within c.index_mut.result.now.1 (stands c.args.changed.now.items c.args.key c.args.place c.index_mut.result.now c.requires.place c.index_mut.ensures.value).1

pub returns-clause-ok : goal.returns-clause-ok
returns-clause-ok c =
    let changed = c.args.changed.now.items in
    let now = c.index_mut.result.now in
    let w = stands changed c.args.key c.args.place now c.requires.place c.index_mut.ensures.value in
    on_ok_weaker c.insert.result
    (λ is list at. set_one changed (slice_set changed c.args.place c.insert.new.self) c.args.key c.args.place (insert list c.args.many c.args.number) c.requires.place
    (ap (slice_set changed c.args.place) (is ∙ ap₂ (λ k l. (k, insert l c.args.many c.args.number)) w.0 (same_Some now.1 list (sym w.1 ∙ at)))))
    c.insert.ensures.ok

pub returns-clause-used : goal.returns-clause-used
returns-clause-used c =
    let now = c.index_mut.result.now in
    used_either c.insert.result c.args.changed.now.items c.args.place c.args.many c.args.number now c.insert.new.self c.insert.ensures.ok c.insert.ensures.err c.index_mut.ensures.value
    (c.requires.within now.1 (stands c.args.changed.now.items c.args.key c.args.place now c.requires.place c.index_mut.ensures.value).1)

pub returns-clause-elsewhere : goal.returns-clause-elsewhere
returns-clause-elsewhere c = kept_elsewhere c.insert.result c.args.changed.now.items c.args.key c.args.place c.args.many c.args.number c.index_mut.result.now c.insert.new.self c.insert.ensures.ok c.insert.ensures.err c.index_mut.ensures.value c.requires.place
