use Rattle.shapes.proofs.Worked.{every_fault, order, repeated_operand, versions}
use Rattle.shapes.proofs.worked_documents.Goals as goal

pub returns : goal.returns
returns c = record { every_fault = every_fault; repeated_operand = repeated_operand; order = order; versions = versions }
