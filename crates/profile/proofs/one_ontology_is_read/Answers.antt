use Rattle.profile.proofs.OneReading.{one_fault_list, one_reading}
use Rattle.profile.proofs.one_ontology_is_read.Goals as goal

pub returns : goal.returns
returns c = record { ontology = one_reading; faults = one_fault_list }
