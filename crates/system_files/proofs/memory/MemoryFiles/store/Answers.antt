use Rattle.std.proofs.Common.{◌≡◌, ◌∙◌, sym, ap, subst, set, true, None, Some}
use Rattle.std.proofs.lemmas.List.Quantifiers.{position-Some}
use Rattle.system_files.specs.Contents.{IsPut}
use Rattle.system_files.specs.declared.memory.MemoryFile.{MemoryFile}
use Rattle.std.specs.List.{position}
use Rattle.system_files.specs.MemoryFiles.{file_at, has_place_at, is_at}
use Rattle.system_files.proofs.Places.{bytes_put, missing_place, places_kept}
use Rattle.system_files.proofs.memory.MemoryFiles.store.Goals as goal

pub returns-in_default-clause-put : goal.returns-in_default-clause-put
returns-in_default-clause-put c =
    let files = c.args.self.now.files.items in
    let path = c.args.path.now in
    let none : position (is_at path) files ≡ None = ap (position (is_at path)) (sym c.deref.ensures.value) ∙ sym c.in_default.ensures in
    absurd (missing_place files path c.requires none)

pub returns-in-Some-clause-put : goal.returns-in-Some-clause-put
returns-in-Some-clause-put c =
    let files = c.args.self.now.files.items in
    let path = c.args.path.now in
    let is : position (is_at path) files ≡ Some c.in-Some.place = ap (position (is_at path)) (sym c.deref.ensures.value) ∙ sym c.place_of.ensures ∙ c.in-Some.is in
    let file = c.index_mut-file.result.now in
    let P : MemoryFile → Type 0 = λ f. IsPut (file_at files) (file_at (set files c.in-Some.place (record { path = f.path; bytes = Some c.args.bytes }))) path c.args.bytes.items in
    subst P (sym c.index_mut-file.ensures.value) (bytes_put files path c.in-Some.place c.args.bytes file is)

pub returns-in-Some-clause-places : goal.returns-in-Some-clause-places
returns-in-Some-clause-places c = λ other has.
    let files = c.args.self.now.files.items in
    let path = c.args.path.now in
    let is : position (is_at path) files ≡ Some c.in-Some.place = ap (position (is_at path)) (sym c.deref.ensures.value) ∙ sym c.place_of.ensures ∙ c.in-Some.is in
    let file = c.index_mut-file.result.now in
    let within = (position-Some (is_at path) files c.in-Some.place file is).0 in
    let P : MemoryFile → Type 0 = λ f. has_place_at (set files c.in-Some.place (record { path = f.path; bytes = Some c.args.bytes })) other ≡ true in
    subst P (sym c.index_mut-file.ensures.value) (places_kept files c.in-Some.place other c.args.bytes file within has)
