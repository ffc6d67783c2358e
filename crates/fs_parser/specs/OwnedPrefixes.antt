-- What prefixes that own their texts are as values.
use Rattle.std.specs.Prelude.{ℕ, List, ◌++◌, map, string_bytes}
use Rattle.fs_parser.specs.declared.prefixes.OwnedPrefix.{OwnedPrefix}
use Rattle.fs_parser.specs.declared.prefixes.Prefixes.TheInside.{Inside}
use Rattle.fs_parser.specs.Name.{Prefixes, StandForOne, StandForSpelled, standard_prefixes}

abbrev pub owned_prefix : OwnedPrefix → List ℕ × List ℕ
owned_prefix p = (string_bytes p.name, string_bytes p.iri)

-- the standard prefixes, and those that the document declares
abbrev pub owned_prefixes : Inside → Prefixes
owned_prefixes p = standard_prefixes ++ map owned_prefix p.declared.items

-- no name stands for two IRIs, and each IRI that one stands for can be spelled
abbrev pub IsOwned : Inside → Type 0
IsOwned p = StandForOne (owned_prefixes p) × StandForSpelled (owned_prefixes p)
