-- Texts that are added to a session.
use Rattle.std.specs.Prelude.{◌≡◌, ◌+◌, ◌<◌, ◌≤◌, ℕ, List, length}
use Rattle.engine.specs.Saturations.{KeepsFacts}
use Rattle.profile.specs.AddedTexts.{IsAddedText, RefusesAddition}
use Rattle.profile.specs.declared.fault.DocumentFault.{DocumentFault}
use Rattle.profile.specs.declared.fault.DocumentFault.TheVariants.{TooLarge}
use Rattle.session.specs.Sessions.{Opened}

-- with the text there are no more bytes than there may be
abbrev pub IsWithin : Opened → List ℕ → Type 0
IsWithin s text = s.bytes + length text ≤ s.most_bytes

-- the text is what the new session has more, with the prefixes and in the version of the old one, and its bytes are counted
pub record IsAddition (old : Opened) (text : List ℕ) (new : Opened) : Type 0 where
  pub within : IsWithin old text
  pub text_is : IsAddedText old.version old.prefixes text old.ontology new.ontology
  pub bytes : new.bytes ≡ old.bytes + length text
  pub prefixes : new.prefixes ≡ old.prefixes
  pub most_bytes : new.most_bytes ≡ old.most_bytes
  pub version : new.version ≡ old.version
  -- facts are kept, and exactly the served ones that a new form asks for are pending again: where there are none, as many are served
  -- as before
  pub facts : KeepsFacts old.saturation new.saturation

-- what the fault says of a text that is not added: too many bytes, or not too many and what the fault says of the text
abbrev pub IsRefusedAddition : Opened → List ℕ → DocumentFault → Type 0
IsRefusedAddition s text TooLarge = s.most_bytes < s.bytes + length text
IsRefusedAddition s text fault = IsWithin s text × RefusesAddition s.version s.prefixes text s.ontology fault
