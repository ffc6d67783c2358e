use Rattle.std.proofs.Common.{All, List, subst, sym}
use Rattle.certificate.specs.Certificate.{Line}
use Rattle.certificate.specs.Writability.{IsLineOf}
use Rattle.answers_tests.proofs.texts.are_texts.Goals as goal

pub write_proof-requires : goal.write_proof-requires
write_proof-requires c = subst (λ (ls : List Line). All (IsLineOf c.args.ontology.now) ls) (sym c.lines-lines.ensures) c.requires.lines

pub proof_bytes-requires : goal.proof_bytes-requires
proof_bytes-requires c = subst (λ (ls : List Line). All (IsLineOf c.args.ontology.now) ls) (sym c.lines-lines.ensures) c.requires.lines

pub proof_graph_bytes-requires : goal.proof_graph_bytes-requires
proof_graph_bytes-requires c = subst (λ (ls : List Line). All (IsLineOf c.args.ontology.now) ls) (sym c.lines-lines.ensures) c.requires.lines
