use Rattle.std.proofs.Common.{map}
use Rattle.axioms.specs.View.{axiom_of}
use Rattle.normalise.specs.Marks.{AtSide, EachFrom, MarksMore}
use Rattle.normalise.proofs.marks.Marked.mark_axioms.Given as goal

abbrev pub invariant-loop-k : goal.invariant-loop-k
invariant-loop-k l = MarksMore l.initial.self l.self (EachFrom (map axiom_of l.axioms) (AtSide l.side) l.from l.k)
