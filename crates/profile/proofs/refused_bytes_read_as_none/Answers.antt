use Rattle.profile.proofs.Refused.{bytes_read_as_none, sources_read_as_none}
use Rattle.profile.proofs.refused_bytes_read_as_none.Goals as goal

pub returns : goal.returns
returns c = record { bytes = bytes_read_as_none; sources = sources_read_as_none }
