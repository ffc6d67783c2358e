-- What was read of the source of a file says whether the file is there, and a source that failed whether it is missing.
use Rattle.std.proofs.Common.{◌≡◌, ◌∙◌, ◌⊎◌, ◌+◌, ◌<◌, ◌-◌, ◌^◌, ◌++◌, ℕ, List, [], ◌∷◌, Bool, true, false, Option, Some, None, length, refl, sym, ap, inl, inr, arith}
use Rattle.std.proofs.lemmas.Grind.{common_steps}
use Rattle.std.specs.Io.KnownBytes.{Consumes, IsAtEnd, Keeps}
use Rattle.receiving.specs.Checks.{IsBegun}
use Rattle.receiving.specs.Files.{BlamesFile, IsSourceOf, IsUnreadable}
use Rattle.device.specs.Device.{HasFailed}
use Rattle.profile.specs.declared.fault.DocumentFault.{DocumentFault}
use Rattle.profile.specs.declared.fault.DocumentFault.TheVariants as reading
use Rattle.telling.specs.Devices.{IsReadUntil}
use Rattle.source_lines.specs.Sources.{FailsInReading, IsReadToItsEnd, SourceState}
use Rattle.system_files.specs.Contents.{IsMissing, IsStuck, IsThere}

-- ---- a source that is stuck

no_more : (bytes : List ℕ) → length bytes ≡ 0 → bytes ≡ []
no_more [] none = refl
no_more (b ∷ bs) none = absurd (cc)

-- what a source gave that could give nothing
none_given : (most most' : ℕ) (taken : List ℕ) → most ≡ 0 → most' + length taken ≡ most → taken ≡ []
none_given most most' taken none fell = no_more taken (omega (arith, none, fell))

-- bytes of which none were taken, and behind which nothing is left
nothing_left : (left left' : Option (List ℕ)) (taken : List ℕ) → Consumes left left' taken → IsAtEnd left' → taken ≡ [] → IsAtEnd left
nothing_left None left' taken consumed end none = tt
nothing_left (Some xs) None taken consumed end none = absurd consumed
nothing_left (Some xs) (Some ys) taken consumed end none = consumed ∙ ap (λ (front : List ℕ). front ++ ys) none ∙ end

-- it is never read to its end
never_ends : (old new : SourceState) → IsStuck old.left old.most → IsReadToItsEnd old new → ⊥
never_ends old new stuck read =
    let lost = read.on.lost in
    stuck.before_end (nothing_left old.left new.left lost.0 lost.1 read.end (none_given old.most new.most lost.0 stuck.none lost.2))

-- it gives no byte
never_begins : (old new : SourceState) → IsStuck old.left old.most → IsBegun old new → ⊥
never_begins old new stuck begun = begun.some (none_given old.most new.most begun.taken stuck.none begun.given.fell)

-- nor more than a limit
never_beyond : (old new : SourceState) (limit : ℕ) → IsStuck old.left old.most → new.most + limit < old.most → ⊥
never_beyond old new limit stuck beyond = absurd (omega (arith, stuck.none, beyond))

-- ---- files that are there

-- a file is there where its source does what none does that is stuck
there : (known : Bool) (held : Option (List ℕ)) (s : SourceState) → IsSourceOf known held s → (IsStuck s.left s.most → ⊥) → IsThere known held
there false held s is free = tt
there true (Some bytes) s is free = refl
there true None s is free = absurd (free (is.missing refl))

pub read_there : (known : Bool) (held : Option (List ℕ)) (old new : SourceState) → IsSourceOf known held old → IsReadToItsEnd old new → IsThere known held
read_there known held old new is read = there known held old is (λ stuck. never_ends old new stuck read)

pub begun_there : (known : Bool) (held : Option (List ℕ)) (old new : SourceState) → IsSourceOf known held old → IsBegun old new → IsThere known held
begun_there known held old new is begun = there known held old is (λ stuck. never_begins old new stuck begun)

pub large_there : (known : Bool) (held : Option (List ℕ)) (old new : SourceState) (limit : ℕ) → IsSourceOf known held old → new.most + limit < old.most → IsThere known held
large_there known held old new limit is beyond = there known held old is (λ stuck. never_beyond old new limit stuck beyond)

-- ---- files that are missing

-- what is known of any source of the files: where no read fails of a file that is there, it is known what they hold, and only a source that
-- is stuck has failed
pub record IsOfFiles (fails known : Bool) (s : SourceState) : Type 0 where
  pub all_known : fails ≡ false → known ≡ true
  pub unfailing : fails ≡ false → (s.failures ≡ 0) ⊎ IsStuck s.left s.most

-- counts that are both 0 tell of no failure
unfailed : (old new : ℕ) → old ≡ 0 → new ≡ 0 → HasFailed old new → ⊥
unfailed old new none none' (inl rose) = absurd (omega (arith, none, none', rose))
unfailed old new none none' (inr last) = let bad : 0 ≡ 2 ^ 64 - 1 = sym none' ∙ last in absurd (cc)

-- a source that can give all that is left in it is not stuck
gives_all : (bytes : List ℕ) (left left' : Option (List ℕ)) (most most' : ℕ) (taken : List ℕ) → Keeps (Some bytes) left → most ≡ length bytes → Consumes left left' taken → most' + length taken ≡ most → IsStuck left' most' → ⊥
gives_all bytes None left' most most' taken kept all consumed fell stuck = absurd kept
gives_all bytes (Some xs) None most most' taken kept all consumed fell stuck = absurd consumed
gives_all bytes (Some xs) (Some ys) most most' taken kept all consumed fell stuck =
    let none = stuck.none in
    let whole : bytes ≡ taken ++ ys = sym kept ∙ consumed in
    let many : length bytes ≡ length (taken ++ ys) = ap length whole in
    stuck.before_end (no_more ys (grind (arith, common_steps, none, all, fell, many)))

failed_missing : (held : Option (List ℕ)) (old new : SourceState) → IsSourceOf true held old → (new.failures ≡ 0) ⊎ IsStuck new.left new.most → FailsInReading old new → IsMissing true held
failed_missing None old new is either failed = refl
failed_missing (Some bytes) old new is (inl none) failed = absurd (unfailed old.failures new.failures is.failures none failed.failed)
failed_missing (Some bytes) old new is (inr stuck) failed = absurd (gives_all bytes old.left new.left old.most new.most failed.lost.0 is.left is.most failed.lost.1 failed.lost.2 stuck)

missing : (known : Bool) (held : Option (List ℕ)) (old new : SourceState) → known ≡ true → IsSourceOf known held old → (new.failures ≡ 0) ⊎ IsStuck new.left new.most → FailsInReading old new → IsMissing known held
missing true held old new is_known is either failed = failed_missing held old new is either failed
missing false held old new is_known is either failed = absurd (cc)

-- a source that failed is one that can fail, or that of a file that is missing
pub unreadable : (fails known : Bool) (held : Option (List ℕ)) (old new : SourceState) → IsSourceOf known held old → IsOfFiles fails known new → FailsInReading old new → IsUnreadable fails known held
unreadable fails known held old new is of failed none = missing known held old new (of.all_known none) is (of.unfailing none) failed

-- ---- documents

-- a document that is read until a fault: its file is to blame where the source failed, and else there
pub read_blamed : (fails known : Bool) (held : Option (List ℕ)) (fault : DocumentFault) (limit : ℕ) (old new : SourceState) → IsSourceOf known held old → IsOfFiles fails known new → IsReadUntil fault old new → (fault ≡ reading.TooLarge → new.most + limit < old.most) → BlamesFile fails known held fault
read_blamed fails known held reading.Io limit old new is of read beyond = unreadable fails known held old new is of read
read_blamed fails known held reading.Memory limit old new is of read beyond = tt
read_blamed fails known held reading.TooLarge limit old new is of read beyond = large_there known held old new limit is (beyond refl)
read_blamed fails known held reading.TooManyNames limit old new is of read beyond = read_there known held old new is read
read_blamed fails known held (reading.NotUtf8 at) limit old new is of read beyond = read_there known held old new is read
read_blamed fails known held (reading.Lex fault) limit old new is of read beyond = read_there known held old new is read
read_blamed fails known held (reading.Parse fault) limit old new is of read beyond = read_there known held old new is read
read_blamed fails known held (reading.Faults found) limit old new is of read beyond = read_there known held old new is read
