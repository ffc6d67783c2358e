-- The lines of a source, one at hand.
use Rattle.std.specs.Prelude.{◌≡◌, ℕ, List, [], ◌∷◌, ◌++◌, ◌⊎◌}
use Rattle.std.specs.List.{Contains}
use Rattle.std.specs.Io.KnownBytes.{IsAtEnd}
use Rattle.device.specs.Device.{HasFailed}
use Rattle.source_lines.specs.Sources.{SourceState, Gives, IsReadOn}
use Rattle.source_lines.specs.declared.fault.StreamFault.{StreamFault}
use Rattle.source_lines.specs.declared.fault.StreamFault.TheVariants.{Io, Memory}

-- a line with its line feed, which is its only one
pub record IsWholeLine (line : List ℕ) : Type 0 where
  pub front : List ℕ
  pub ended : line ≡ front ++ 10 ∷ []
  pub single : Contains front 10 → ⊥

-- the line at hand, and what was read behind it
pub record AtHand : Type 0 where
  pub line : List ℕ
  pub ahead : List ℕ

-- a whole line is at hand, or what is left behind the last one, where the source is at its end
abbrev pub IsReady : AtHand → SourceState → Type 0
IsReady hand source = IsWholeLine hand.line ⊎ ((Contains hand.line 10 → ⊥) × (hand.ahead ≡ []) × IsAtEnd source.left)

-- the line at hand is let go and the next is at hand, whatever was read for it
pub record Advances (old new : AtHand) (before after : SourceState) : Type 0 where
  pub read : List ℕ
  pub given : Gives before after read
  pub in_order : old.ahead ++ read ≡ new.line ++ new.ahead
  pub ready : IsReady new after
  pub unfailed : after.failures ≡ before.failures

-- the source failed before it gave the end of the next line
pub record FailsInLine (old : AtHand) (before after : SourceState) : Type 0 where
  pub read : List ℕ
  pub given : Gives before after read
  pub none : Contains (old.ahead ++ read) 10 → ⊥
  pub failed : HasFailed before.failures after.failures

-- why the next line is not at hand: the source failed, or memory was refused and no read has failed
abbrev pub IsNoLine : StreamFault → AtHand → (before after : SourceState) → Type 0
IsNoLine Io old before after = FailsInLine old before after
IsNoLine Memory old before after = IsReadOn before after
