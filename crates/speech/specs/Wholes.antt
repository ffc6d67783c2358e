-- A conversation as a whole: what was read, and what was written.
use Rattle.std.specs.Prelude.{◌≡◌, ◌⊎◌, ◌++◌, ℕ, List, []}
use Rattle.std.specs.List.{flat_map}
use Rattle.telling.specs.Devices.{Device, FailsIn, Takes}
use Rattle.source_lines.specs.Sources.{SourceState}
use Rattle.speech.specs.Conversations.{AreExchanges, Comes, Exchange, IsLast, IsRefused, text_asked, text_told, told_of}
use Rattle.speech.specs.Replies.{reply_text}
use Rattle.speech.specs.declared.conversation.Ending.{Ending}
use Rattle.speech.specs.declared.conversation.Ending.TheVariants as endings
use Rattle.speech.specs.declared.input_fault.InputFault.{InputFault}
use Rattle.speech.specs.declared.service.Service.{Ghosts}

-- the replies
abbrev pub replies : List Exchange → List ℕ
replies xs = flat_map text_told xs

-- what was read behind the exchanges, and what was written: all replies, and what is told of what is refused; or a beginning of that
abbrev pub IsEndBehind : List Exchange → (ahead : List ℕ) → (before after : SourceState) → (sink sink' : Device) → Ending → Type 0
IsEndBehind xs ahead before after sink sink' endings.End = IsLast ahead before after [] × Takes sink sink' (replies xs)
IsEndBehind xs ahead before after sink sink' (endings.Refused fault) = IsRefused fault ahead before after × Takes sink sink' (replies xs ++ reply_text (told_of fault))
IsEndBehind xs ahead before after sink sink' endings.Unwritten =
    ((after ≡ before) × FailsIn sink sink' (replies xs))
    ⊎ ((fault : InputFault) × IsRefused fault ahead before after × FailsIn sink sink' (replies xs ++ reply_text (told_of fault)))

-- lines are answered, one behind the other, what was read spells them and what came behind them, and what was written is what is told
pub record IsExchanged {V : Type 0} (G : Ghosts V) (old new : V) (before after : SourceState) (sink sink' : Device) (ending : Ending) : Type 0 where
  pub xs : List Exchange
  pub run : AreExchanges G old xs new
  pub ahead : List ℕ
  pub then : SourceState
  pub read : Comes [] ahead before then (flat_map text_asked xs)
  pub end : IsEndBehind xs ahead then after sink sink' ending
