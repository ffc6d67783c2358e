-- What a file holds once its sink is closed.
use Rattle.std.proofs.Common.{◌≡◌, ◌∙◌, ℕ, List, [], ◌∷◌, Bool, true, false, Option, Some, None, refl, sym, ap, subst, take, inl, inr}
use Rattle.std.specs.Io.KnownBytes.{Appends}
use Rattle.telling.specs.Devices.{Device, FailsIn, Takes}
use Rattle.receiving.specs.HeldTexts.{Holds, HoldsPrefix, Stays}
use Rattle.system_files.specs.Contents.{Content, HasTakenSome, IsClosed, nothing_taken}

-- the text is not empty
abbrev pub IsSome : List ℕ → Type 0
IsSome text = HasTakenSome (Some text)

appended : (new : Option (List ℕ)) (text : List ℕ) → Appends (Some []) new text → new ≡ Some text
appended None text appends = absurd appends
appended (Some xs) text appends = ap Some appends

-- a sink that was new has taken just the text, as far as that is known
taken_text : (known : Bool) (taken new : Option (List ℕ)) (text : List ℕ) → taken ≡ nothing_taken known → Appends taken new text → Holds known new text
taken_text false taken new text fresh appends = tt
taken_text true taken new text fresh appends =
    let P : Option (List ℕ) → Type 0 = λ t. Appends t new text in
    appended new text (subst P fresh appends)

-- the file held this, and holds that, since its sink was closed that has taken these bytes
pub record IsLeftBy (old new taken : Option (List ℕ)) : Type 0 where
  pub written : HasTakenSome taken → new ≡ taken
  pub unwritten : taken ≡ Some [] → new ≡ old

holds : (known : Bool) (old new taken : Option (List ℕ)) (text : List ℕ) → IsSome text → IsLeftBy old new taken → Holds known taken text → Holds known new text
holds false old new taken text some left is = tt
holds true old new taken text some left is =
    let P : Option (List ℕ) → Type 0 = HasTakenSome in
    left.written (subst P (sym is) some) ∙ is

front : (old new taken : Option (List ℕ)) (text : List ℕ) (n : ℕ) (bytes : List ℕ) → take n text ≡ bytes → IsLeftBy old new taken → taken ≡ Some bytes → HoldsPrefix true old new text
front old new taken text n [] is left holds = inl (left.unwritten holds)
front old new taken text n (b ∷ bs) is left holds =
    let P : Option (List ℕ) → Type 0 = HasTakenSome in
    inr (n, left.written (subst P (sym holds) tt) ∙ holds ∙ ap Some (sym is))

holds_prefix : (known : Bool) (old new taken : Option (List ℕ)) (text : List ℕ) (n : ℕ) → IsLeftBy old new taken → Holds known taken (take n text) → HoldsPrefix known old new text
holds_prefix false old new taken text n left is = tt
holds_prefix true old new taken text n left is = front old new taken text n (take n text) refl left is

stays_left : (known : Bool) (old new taken : Option (List ℕ)) → IsLeftBy old new taken → taken ≡ nothing_taken known → Stays known old new
stays_left false old new taken left fresh = tt
stays_left true old new taken left fresh = left.unwritten fresh

pub stays : (known : Bool) (old new : Option (List ℕ)) → new ≡ old → Stays known old new
stays false old new same = tt
stays true old new same = same

-- the file of the path held what it did before, and its sink is closed
pub one_left : (first before last : Content) (p path : List ℕ) (taken : Option (List ℕ)) → ((other : List ℕ) → before other ≡ first other) → p ≡ path → IsClosed before last p taken → IsLeftBy (first path) (last path) taken
one_left first before last p path taken kept same closed =
    let P : List ℕ → Type 0 = λ q. IsLeftBy (first q) (last q) taken in
    subst P same (record { written = closed.written; unwritten = λ none. closed.unwritten none ∙ kept p })

pub sink_holds : (known : Bool) (old new : Device) (held held' : Option (List ℕ)) (text : List ℕ) → old.0 ≡ nothing_taken known → IsSome text → Takes old new text → IsLeftBy held held' new.0 → Holds known held' text
sink_holds known old new held held' text fresh some takes left = holds known held held' new.0 text some left (taken_text known old.0 new.0 text fresh takes.0)

pub sink_begins : (known : Bool) (old new : Device) (held held' : Option (List ℕ)) (text : List ℕ) → old.0 ≡ nothing_taken known → FailsIn old new text → IsLeftBy held held' new.0 → HoldsPrefix known held held' text
sink_begins known old new held held' text fresh fails left = holds_prefix known held held' new.0 text fails.0.0 left (taken_text known old.0 new.0 (take fails.0.0 text) fresh fails.0.1)

pub sink_stays : (known : Bool) (old new : Device) (held held' : Option (List ℕ)) → old.0 ≡ nothing_taken known → new ≡ old → IsLeftBy held held' new.0 → Stays known held held'
sink_stays known old new held held' fresh same left = stays_left known held held' new.0 left (ap (λ (d : Device). d.0) same ∙ fresh)
