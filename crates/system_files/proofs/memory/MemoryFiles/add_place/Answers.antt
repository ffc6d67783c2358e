use Rattle.std.proofs.Common.{◌≡◌, ◌∙◌, sym, true, ap, is_some, refl}
use Rattle.std.specs.List.{position}
use Rattle.system_files.specs.MemoryFiles.{has_place_at, file_at, is_at}
use Rattle.system_files.proofs.Places.{added_place, files_stay, is_some_place, places_stay}
use Rattle.system_files.proofs.memory.MemoryFiles.add_place.Goals as goal

pub returns-then-is_some-clause-place : goal.returns-then-is_some-clause-place
returns-then-is_some-clause-place c =
    let files = c.args.self.now.files.items in
    let path = c.args.path.now in
    let is : is_some (position (is_at path) files) ≡ true = ap (λ fs. is_some (position (is_at path) fs)) (sym c.deref.ensures.value) ∙ ap is_some (sym c.place_of.ensures) ∙ sym c.is_some.ensures ∙ c.if-is_some.true in
    is_some_place files path is

pub returns-clause-place : goal.returns-clause-place
returns-clause-place c =
    let added = added_place c.args.self.now.files.items _ c.args.path.now c.in_ok-path.ensures.ok in
    ap (λ fs. has_place_at fs c.args.path.now) c.in_ok-push.ensures.items ∙ added

pub returns-clause-places : goal.returns-clause-places
returns-clause-places c = λ other has. ap (λ fs. has_place_at fs other) c.in_ok-push.ensures.items ∙ places_stay c.args.self.now.files.items _ other has

pub returns-clause-kept : goal.returns-clause-kept
returns-clause-kept c = λ other. ap (λ fs. file_at fs other) c.in_ok-push.ensures.items ∙ files_stay c.args.self.now.files.items _ other refl
