-- Faults of a source as faults of a text.
use Rattle.source_lines.specs.declared.fault.StreamFault.{StreamFault}
use Rattle.source_lines.specs.declared.fault.StreamFault.TheVariants as stream
use Rattle.certificate.specs.declared.fault.TextFault.{TextFault}
use Rattle.certificate.specs.declared.fault.TextFault.TheVariants as text

-- the same fault, of a text
abbrev pub stream_fault_as_text : StreamFault → TextFault
stream_fault_as_text stream.Io = text.Io
stream_fault_as_text stream.Memory = text.Memory
