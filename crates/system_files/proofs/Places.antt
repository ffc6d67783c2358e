-- Places of paths: where one is added, and where bytes are put at one.
use Rattle.std.proofs.Common.{◌≡◌, ◌∙◌, ◌+◌, ◌<◌, ◌||◌, ℕ, true, false, cond, List, [], ◌∷◌, ◌++◌, length, get_or, set, Option, Some, None, refl, sym, ap, find, option_map, option_and_then, arith, string_bytes, not, zero, suc, is_some}
use Rattle.std.proofs.lemmas.Bool.Decides.{nat_tests}
use Rattle.std.specs.List.{list_any, position, position_or_len}
use Rattle.std.proofs.lemmas.List.Folds.{find-set, find_past, list_any-append, list_any_at}
use Rattle.std.proofs.lemmas.List.Quantifiers.{position-Some}
use Rattle.std.proofs.lemmas.Slice.Eq.{bytes_eq-Decides}
use Rattle.std.proofs.lemmas.Grind.{common_steps}
use Rattle.std.specs.Global.{Vec}
use Rattle.system_files.specs.Contents.{IsPut}
use Rattle.system_files.specs.MemoryFiles.{file_at, has_place_at, is_at}
use Rattle.system_files.specs.declared.memory.MemoryFile.{MemoryFile}

-- ---- a place that is found is there, and one that is not found is not

pub found_place : (files : List MemoryFile) (path : List ℕ) (i : ℕ) → position (is_at path) files ≡ Some i → has_place_at files path ≡ true
found_place [] path i is = let bad : None ≡ Some i = is in absurd (cc)
found_place (f ∷ fs) path i is =
    let s = position-Some (is_at path) (f ∷ fs) i f is in
    list_any_at (is_at path) (f ∷ fs) i f s.0 s.1

some_place : (files : List MemoryFile) (path : List ℕ) (found : Option ℕ) → position (is_at path) files ≡ found → is_some found ≡ true → has_place_at files path ≡ true
some_place files path None is some = let bad : false ≡ true = some in absurd (cc)
some_place files path (Some i) is some = found_place files path i is

any_is_placed : (files : List MemoryFile) (path : List ℕ) → has_place_at files path ≡ true → position_or_len (is_at path) files < length files
any_is_placed [] path has = let bad : false ≡ true = has in absurd (cc)
any_is_placed (f ∷ fs) path has =
    (elim (is_at path f) as (λ b. (b || list_any (is_at path) fs) ≡ true → cond (not b) (1 + position_or_len (is_at path) fs) 0 < suc (length fs)) [
      | true ↦ λ h. omega arith
      | false ↦ λ h. let next = any_is_placed fs path h in omega (arith, next)
    ]) has

pub missing_place : (files : List MemoryFile) (path : List ℕ) → has_place_at files path ≡ true → position (is_at path) files ≡ None → ⊥
missing_place files path has none =
    let placed = any_is_placed files path has in
    grind (arith, nat_tests, placed, none)

-- ---- a place is added

abbrev bytes_of : Option MemoryFile → Option (List ℕ)
bytes_of o = option_and_then (λ file. option_map (λ bytes. bytes.items) file.bytes) o

pub added_place : (files : List MemoryFile) (f : MemoryFile) (path : List ℕ) → string_bytes f.path ≡ path → has_place_at (files ++ f ∷ []) path ≡ true
added_place files f path is =
    let same : is_at path f ≡ true = (bytes_eq-Decides (string_bytes f.path) path).1 is in
    grind (arith, common_steps, list_any-append, same)

pub places_stay : (files : List MemoryFile) (f : MemoryFile) (path : List ℕ) → has_place_at files path ≡ true → has_place_at (files ++ f ∷ []) path ≡ true
places_stay files f path has = grind (arith, common_steps, list_any-append, has)

pub files_stay : (files : List MemoryFile) (f : MemoryFile) (path : List ℕ) → f.bytes ≡ None → file_at (files ++ f ∷ []) path ≡ file_at files path
files_stay [] f path none =
    elim (is_at path f) as (λ b. bytes_of (cond b (Some f) None) ≡ None) [ true ↦ ap (option_map (λ (v : Vec ℕ). v.items)) none | false ↦ refl ]
files_stay (g ∷ gs) f path none =
    elim (is_at path g) as (λ b. bytes_of (cond b (Some g) (find (is_at path) (gs ++ f ∷ []))) ≡ bytes_of (cond b (Some g) (find (is_at path) gs))) [
      | true ↦ refl
      | false ↦ files_stay gs f path none
    ]

-- ---- bytes are put at a place

-- a place is that of one path alone
elsewhere : (other path : List ℕ) (f : MemoryFile) → string_bytes f.path ≡ path → (other ≡ path → ⊥) → is_at other f ≡ false
elsewhere other path f here differs =
    let decides = bytes_eq-Decides (string_bytes f.path) other in
    (elim (is_at other f) as (λ b. (b ≡ true → string_bytes f.path ≡ other) → b ≡ false) [
      | true ↦ λ h. absurd (differs (sym (h refl) ∙ here))
      | false ↦ λ h. refl
    ]) decides.0

pub places_kept : (files : List MemoryFile) (i : ℕ) (path : List ℕ) (bytes : Vec ℕ) (d : MemoryFile) → i < length files → has_place_at files path ≡ true → has_place_at (set files i (record { path = (get_or files i d).path; bytes = Some bytes })) path ≡ true
places_kept [] i path bytes d within has = absurd (omega arith)
places_kept (f ∷ fs) zero path bytes d within has = has
places_kept (f ∷ fs) (suc i) path bytes d within has =
    (elim (is_at path f) as (λ b. (b || has_place_at fs path) ≡ true → (b || has_place_at (set fs i (record { path = (get_or fs i d).path; bytes = Some bytes })) path) ≡ true) [
      | true ↦ λ h. refl
      | false ↦ λ h. places_kept fs i path bytes d (omega arith) h
    ]) has

pub bytes_put : (files : List MemoryFile) (path : List ℕ) (i : ℕ) (bytes : Vec ℕ) (d : MemoryFile) → position (is_at path) files ≡ Some i → IsPut (file_at files) (file_at (set files i (record { path = (get_or files i d).path; bytes = Some bytes }))) path bytes.items
bytes_put files path i bytes d is =
    let at = position-Some (is_at path) files i d is in
    let y : MemoryFile = record { path = (get_or files i d).path; bytes = Some bytes } in
    let first : i ≡ position_or_len (is_at path) files = grind (arith, nat_tests, is) in
    let found : find (is_at path) (set files i y) ≡ Some y = find-set (is_at path) files i y first at.0 at.1 in
    record {
      put = ap bytes_of found;
      others = λ other differs.
          let here : string_bytes y.path ≡ path = (bytes_eq-Decides (string_bytes y.path) path).0 at.1 in
          let no : is_at other y ≡ false = elsewhere other path y here differs in
          ap bytes_of (find_past (is_at other) files i y d no no);
    }

pub is_some_place : (files : List MemoryFile) (path : List ℕ) → is_some (position (is_at path) files) ≡ true → has_place_at files path ≡ true
is_some_place files path is = some_place files path (position (is_at path) files) refl is
