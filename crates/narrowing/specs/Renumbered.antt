-- A listing with each element renumbered.
use Rattle.std.specs.Prelude.{ℕ, List, map}
use Rattle.certificate.specs.Certificate.{Listed}

abbrev pub renumbered_class : (ℕ → ℕ) → ℕ × List ℕ → ℕ × List ℕ
renumbered_class f row = (row.0, map f row.1)

abbrev pub renumbered_pairs : (ℕ → ℕ) → ℕ × ℕ × List ℕ → ℕ × ℕ × List ℕ
renumbered_pairs f row = (row.0, f row.1, map f row.2)

abbrev pub renumbered_claim : (ℕ → ℕ) → ℕ × ℕ → ℕ × ℕ
renumbered_claim f claim = (claim.0, f claim.1)

-- the domain stays
abbrev pub renumbered_by : (ℕ → ℕ) → Listed → Listed
renumbered_by f l = record l {
  classes = map (renumbered_class f) l.classes;
  pairs = map (renumbered_pairs f) l.pairs;
  individuals = map f l.individuals;
  claims = map (renumbered_claim f) l.claims;
}
