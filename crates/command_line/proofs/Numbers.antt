-- The number of an option, from what clap's reader of the option says.
use Rattle.std.proofs.Common.{◌≡◌, ◌<◌, ◌^◌, ℕ, List, Option, Some, None, Result, Ok, Err, arith, refl, sym, ◌∙◌}
use Rattle.std.specs.Fmt.{decimal, digits}
use Rattle.std.specs.Prelude.{codes}
use Rattle.std.specs.Str.Parse.{IsNumeral, digits_value, without_leading_plus}
use Rattle.std.proofs.lemmas.Option.{same_Some}
use Rattle.clap.specs.Words.{ReadsOne, Row, Text, one_of}
use Rattle.command_line.specs.CommandLine.{Finds, IsNumber}

-- the text is a number that `u64` reads
abbrev pub IsRead : Text → Type 0
IsRead word = IsNumeral 10 (without_leading_plus word) × (digits_value 10 (without_leading_plus word) < 2 ^ 64)

-- an answer comes from a text that is there
pub is_number : (id : Text) (rows : List Row) (o : Option Text) (n : ℕ) → o ≡ one_of id rows → (o ≡ None → Some n ≡ None) → ((word : Text) → o ≡ Some word → IsRead word × (n ≡ digits_value 10 (without_leading_plus word))) → IsNumber id rows n
is_number id rows None n same none value = let bad : Some n ≡ None = none refl in absurd (cc)
is_number id rows (Some word) n same none value =
    let read = value word refl in
    let below : digits_value 10 (without_leading_plus word) < 2 ^ 64 = read.0.1 in
    let is : n ≡ digits_value 10 (without_leading_plus word) = read.1 in
    record { word = word; given = sym same; numeral = read.0.0; value = is; fits = omega arith }

-- what clap's reader gives is the number of the option; where it gives nothing there is none
pub finds_number : {E : Type 0} (gives : Text → Result ℕ E → Type 0) (id : Text) (rows : List Row) (o : Option Text) (r : Option ℕ) → o ≡ one_of id rows → (o ≡ None → r ≡ None) → ((word : Text) → o ≡ Some word → ReadsOne gives word r) → ((word : Text) (n : ℕ) → gives word (Ok n) → IsRead word × (n ≡ digits_value 10 (without_leading_plus word))) → ((word : Text) (e : E) → gives word (Err e) → IsRead word → ⊥) → Finds (IsNumber id rows) r
finds_number gives id rows o None same none value reads fails = λ n h.
    let value_is : n ≡ digits_value 10 (without_leading_plus h.word) = h.value in
    let fits : n < 2 ^ 64 = h.fits in
    let failed = value h.word (same ∙ h.given) in
    fails h.word failed.0 failed.1 (h.numeral, omega arith)
finds_number gives id rows o (Some n) same none value reads fails = is_number id rows o n same none (λ word given. reads word n (value word given))

-- an option has one number
pub one_number : (id : Text) (rows : List Row) (m n : ℕ) → IsNumber id rows m → IsNumber id rows n → m ≡ n
one_number id rows m n h k =
    let same : h.word ≡ k.word = same_Some _ _ (sym h.given ∙ k.given) in
    h.value ∙ (rw same (sym k.value))

-- the text of the last version of the profile, and of the last format, is its number, written in decimal
pub default_text : codes "2" ≡ decimal 2
unfolding digits
default_text = refl
