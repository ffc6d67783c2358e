-- What trees of a text's document state, if they have no fault, can be said.
use Rattle.std.proofs.Common.{arith}
use Rattle.statements_text.specs.Theorems.{StatedCanBeSaid}
use Rattle.profile.proofs.TreeNames.{document_names}
use Rattle.statements_text.proofs.Among.{among_names}
use Rattle.statements_text.proofs.Depths.{among_shallow, bare_shallow}
use Rattle.statements_text.proofs.Named.{stated_spelled}
use Rattle.statements_text.proofs.Sayable.{trees_said}

pub stated_said : StatedCanBeSaid
stated_said version bytes d t s text among h e =
    let names = among_names d.trees t among (document_names bytes d text) in
    (trees_said version t s h e).1 (stated_spelled version t h s e names) (omega (arith, bare_shallow t, among_shallow d.trees t among, text.written.ontology.closed.shallow))
