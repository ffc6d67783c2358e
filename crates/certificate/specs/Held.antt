-- A listing as it is held while it is read: runs of elements are held as runs, and are not yet written out.
use Rattle.std.specs.Prelude.{ℕ, List, [], ◌∷◌, ◌++◌, map, nat_lt, if◌then◌else◌}
use Rattle.certificate.specs.Certificate.{Listed}
use Rattle.certificate.specs.Runs.{numbers_in}

-- the numbers of the runs whose last and first numbers these are, run after run
abbrev pub spread : List ℕ → List ℕ
spread (last ∷ first ∷ ends) = numbers_in (record { first = first; last = last }) ++ spread ends
spread _ = []

-- the elements that a list holds: where it ascends at its beginning, these are its numbers; else its numbers are the ends of runs
abbrev pub held_in : List ℕ → List ℕ
held_in (x ∷ y ∷ xs) = if nat_lt x y then x ∷ y ∷ xs else spread (x ∷ y ∷ xs)
held_in xs = xs

abbrev pub held_class : ℕ × List ℕ → ℕ × List ℕ
held_class row = (row.0, held_in row.1)

abbrev pub held_pairs : ℕ × ℕ × List ℕ → ℕ × ℕ × List ℕ
held_pairs row = (row.0, row.1, held_in row.2)

-- the listing whose rows are held so
abbrev pub held_listing : Listed → Listed
held_listing l = record l { classes = map held_class l.classes; pairs = map held_pairs l.pairs }
