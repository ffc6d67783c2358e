-- Files in memory, by their paths.
use Rattle.std.specs.Prelude.{ℕ, List, Bool, Option, find, option_map, option_and_then, string_bytes}
use Rattle.std.specs.Str.{bytes_eq}
use Rattle.std.specs.List.{list_any}
use Rattle.system_files.specs.declared.memory.MemoryFile.{MemoryFile}

-- the place is that of the path
abbrev pub is_at : List ℕ → MemoryFile → Bool
is_at path file = bytes_eq (string_bytes file.path) path

-- there is a place of the path
abbrev pub has_place_at : List MemoryFile → List ℕ → Bool
has_place_at files path = list_any (is_at path) files

-- the bytes of the file at the path, if there is one
abbrev pub file_at : List MemoryFile → List ℕ → Option (List ℕ)
file_at files path = option_and_then (λ file. option_map (λ bytes. bytes.items) file.bytes) (find (is_at path) files)
