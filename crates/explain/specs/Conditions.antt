-- The conditions of the closure by which births are told apart here, by their numbers.
use Rattle.std.specs.Prelude.{ℕ}

-- a context lies in owl:Thing, and in itself
abbrev pub of_context : ℕ
of_context = 1

-- a form of two classes
abbrev pub by_inclusion : ℕ
by_inclusion = 4

-- an edge to what lies in a class, or a domain
abbrev pub by_edge : ℕ
by_edge = 7

-- a reflexive property
abbrev pub by_loop : ℕ
by_loop = 10

-- two individuals differ and are one
abbrev pub by_different : ℕ
by_different = 12

-- two classes have nothing in common
abbrev pub by_disjoint : ℕ
by_disjoint = 14
