use Rattle.std.proofs.Common.{◌≡◌, ◌++◌, take}
use Rattle.answer_texts.specs.Graphs as graphs
use Rattle.answer_texts.proofs.graph_of_proof.push_escaped.Given as goal

abbrev pub invariant-loop-byte : goal.invariant-loop-byte
invariant-loop-byte l = l.out.items ≡ l.fn.out.items ++ graphs.escaped (take l.byte-index l.bytes)
