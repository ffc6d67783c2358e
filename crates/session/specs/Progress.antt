-- The stages of a session.
use Rattle.std.specs.Prelude.{◌-◌, length}
use Rattle.session.specs.Sessions.{Opened}
use Rattle.telling.specs.declared.progress.Stage.{Stage}
use Rattle.telling.specs.declared.progress.Stage.TheVariants.{Drawn, Read}

-- what was read of a session's document, and of what was added
abbrev pub opened_stage : Opened → Stage
opened_stage s = Read s.bytes (length s.ontology.axioms)

-- how many facts a session has, and how many of these are pending
abbrev pub drawn_stage : Opened → Stage
drawn_stage s = Drawn (length s.saturation.state.facts) (length s.saturation.state.facts - length s.saturation.state.served)
