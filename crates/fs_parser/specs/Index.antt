-- Prefixes in an index by their names.
use Rattle.std.specs.Prelude.{ℕ, List, [], ◌∷◌, Option, Some, None, option_map, if◌then◌else◌}
use Rattle.std.specs.Borrow.{Bor}
use Rattle.std.specs.BTreeMap.{BTreeMap, get_by}
use Rattle.std.specs.Cmp.Lexicographic.{slice_cmp}
use Rattle.std.specs.Ordering.{nat_cmp}
use Rattle.std.specs.Str.{bytes_eq}
use Rattle.fs_parser.specs.Name.{Prefixes}

-- what the index has at a name
abbrev pub iri_at : BTreeMap (Bor (List ℕ)) (Bor (List ℕ)) → List ℕ → Option (List ℕ)
iri_at index name = option_map (λ iri. iri.now) (get_by (λ k. slice_cmp nat_cmp name k.now) index)

-- what the last prefix of the name stands for
abbrev pub or_first : List ℕ × List ℕ → List ℕ → Option (List ℕ) → Option (List ℕ)
or_first p name (Some iri) = Some iri
or_first p name None = if bytes_eq p.0 name then Some p.1 else None

abbrev pub last_iri : Prefixes → List ℕ → Option (List ℕ)
last_iri [] name = None
last_iri (p ∷ ps) name = or_first p name (last_iri ps name)
