-- The IRIs of prefixes that own their texts.
use Rattle.std.proofs.Common.{Contains, map}
use Rattle.std.specs.Prelude.{string_bytes}
use Rattle.std.proofs.lemmas.List.Elements.{Contains-append_right}
use Rattle.lemmas.proofs.Mapped.{Contains-map}
use Rattle.fs_parser.specs.Name.{CanBeSpelled, StandForSpelled, standard_prefixes}
use Rattle.fs_parser.specs.OwnedPrefixes.{owned_prefix, owned_prefixes}
use Rattle.fs_parser.specs.declared.prefixes.OwnedPrefix.{OwnedPrefix}
use Rattle.fs_parser.specs.declared.prefixes.Prefixes.TheInside.{Inside}

-- one of them can be spelled, where each of all prefixes can
pub owned_spelled : (inside : Inside) → StandForSpelled (owned_prefixes inside) → (p : OwnedPrefix) → Contains inside.declared.items p → CanBeSpelled (string_bytes p.iri)
owned_spelled inside all p there =
    let owned = inside.declared.items in
    all (string_bytes p.name) (string_bytes p.iri) (Contains-append_right standard_prefixes (map owned_prefix owned) (owned_prefix p) (Contains-map owned_prefix owned p there))
