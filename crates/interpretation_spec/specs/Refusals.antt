-- Why an interpretation does not take what is said of it.
use Rattle.std.specs.Prelude.{ℕ, if◌then◌else◌, nat_lt, ◌&&◌, length}
use Rattle.interpretation_spec.specs.declared.fault.InterpretationFault.{InterpretationFault}
use Rattle.interpretation_spec.specs.declared.fault.InterpretationFault.TheVariants as faults
use Rattle.interpretation_spec.specs.NumberedInterpretation.{NumberedInterpretation}

-- that the element is in the class: in range, the class is one of the two that are fixed, or memory was refused
abbrev pub class_refusal : NumberedInterpretation → ℕ → ℕ → InterpretationFault
class_refusal i c x = if nat_lt c (length i.classes) && nat_lt x i.size then (if nat_lt 1 c then faults.Memory else faults.FixedClass) else faults.OutOfDomain

-- that the property joins the two elements: in range, memory was refused
abbrev pub pair_refusal : NumberedInterpretation → ℕ → ℕ → ℕ → InterpretationFault
pair_refusal i r x y = if nat_lt r (length i.pairs) && nat_lt x i.size && nat_lt y i.size then faults.Memory else faults.OutOfDomain
