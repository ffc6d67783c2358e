-- Sources as far as they can be seen.
use Rattle.std.specs.Prelude.{◌≡◌, ℕ, ◌+◌, List, length, Option}
use Rattle.std.specs.Io.KnownBytes.{Consumes, IsAtEnd}
use Rattle.device.specs.declared.device.Source as sources
use Rattle.device.specs.Device.{HasFailed, LosesFront}

-- the bytes that a source has left, where these are known, how many it can still give, and how many of its calls have failed
pub record SourceState : Type 0 where
  pub left : Option (List ℕ)
  pub most : ℕ
  pub failures : ℕ

-- what the words of its trait tell of a source: the bytes that it has left, how many it can still give, and its failed calls
abbrev pub source_state : {S : Type 0} → sources.Ghosts S → S → SourceState
source_state S source = record { left = S.left source; most = S.most source; failures = S.failures source }

-- the source has lost some of its first bytes, or none, and nothing else: it can give as many less, and no call of it failed
pub record IsReadOn (old new : SourceState) : Type 0 where
  pub lost : LosesFront old.left new.left old.most new.most
  pub unfailed : new.failures ≡ old.failures

-- the source is read on, and then it is at its end
pub record IsReadToItsEnd (old new : SourceState) : Type 0 where
  pub on : IsReadOn old new
  pub end : IsAtEnd new.left

-- a call of it failed, and it has lost some of its first bytes, or none
pub record FailsInReading (old new : SourceState) : Type 0 where
  pub lost : LosesFront old.left new.left old.most new.most
  pub failed : HasFailed old.failures new.failures

-- the source gives these bytes, and can give as many less
pub record Gives (old new : SourceState) (bytes : List ℕ) : Type 0 where
  pub consumed : Consumes old.left new.left bytes
  pub fell : new.most + length bytes ≡ old.most
