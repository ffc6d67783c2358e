use Rattle.std.proofs.Common.{◌≡◌, ◌++◌, drop, flat_map, string_bytes}
use Rattle.shapes.specs.View.{faults_of}
use Rattle.statements_text.specs.Restrictions.{fault_line}
use Rattle.restricting.proofs.report.plain_faults.Given as goal

abbrev pub invariant-loop-fault : goal.invariant-loop-fault
invariant-loop-fault l = string_bytes l.text ++ flat_map fault_line (faults_of (drop l.fault-index l.faults)) ≡ flat_map fault_line (faults_of l.faults)
