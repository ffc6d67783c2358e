-- Bytes that are one text: what a reader gives of all of them, and what follows where it gives none.
use Rattle.std.proofs.Common.{◌≡◌, ℕ, ◌^◌, List, [], ◌++◌, length, Some, None, true, false, eqb, leb, sym, ap, ◌∙◌}
use Rattle.std.specs.Prelude.{codes}
use Rattle.std.proofs.lemmas.Bool.{eqb-true, ltb-true, and_parts, false≢true}
use Rattle.std.proofs.lemmas.List.{append-nil, nil_from_length}
use Rattle.std.proofs.lemmas.Option.{none-some, same_Some}
use Rattle.certificate.specs.Text.{lettered_number, line_feed}
use Rattle.certificate.specs.Tests.{is_small, fits_domain}
use Rattle.certificate.specs.Reading.{Reader}
use Rattle.certificate.specs.ListedReading.{domain_at}
use Rattle.certificate.specs.LineValues.{IsDomainLine}
use Rattle.certificate.proofs.Laws.{Reads, Anything}
use Rattle.certificate.proofs.Whole.{IsDomain, domain_reads}

-- the value of the bytes that it reads, with nothing left
pub read_as : {A : Type 0} (F : List ℕ → Type 0) (V : A → Type 0) (t : A → List ℕ) (r : Reader A) → Reads F V t r
    → (bytes : List ℕ) (x : A) (rest : List ℕ) → r bytes ≡ Some (x, rest) → eqb (length rest) 0 ≡ true → (t x ≡ bytes) × V x
read_as F V t r h bytes x rest e left =
    let a = h.takes bytes x rest e in
    let nothing : rest ≡ [] = nil_from_length rest (eqb-true _ _ left) in
    (sym (a.0 ∙ ap (λ (s : List ℕ). t x ++ s) nothing ∙ append-nil (t x)), a.1)

-- the text of a value is read, with nothing left
pub is_read : {A : Type 0} (F : List ℕ → Type 0) (V : A → Type 0) (t : A → List ℕ) (r : Reader A) → Reads F V t r → F []
    → (bytes : List ℕ) (x : A) → V x → t x ≡ bytes → r bytes ≡ Some (x, [])
is_read F V t r h f bytes x v e = ap r (sym e ∙ sym (append-nil (t x))) ∙ h.again x [] v f

-- where nothing is read, the bytes are the text of no value
pub none_read_as : {A : Type 0} (F : List ℕ → Type 0) (V : A → Type 0) (t : A → List ℕ) (r : Reader A) → Reads F V t r → F []
    → (bytes : List ℕ) → r bytes ≡ None → (x : A) → V x → t x ≡ bytes → ⊥
none_read_as F V t r h f bytes none x v e = none-some (x, []) (sym none ∙ is_read F V t r h f bytes x v e)

-- .. where bytes are left
pub more_than_one : {A : Type 0} (F : List ℕ → Type 0) (V : A → Type 0) (t : A → List ℕ) (r : Reader A) → Reads F V t r → F []
    → (bytes : List ℕ) (y : A) (rest : List ℕ) → r bytes ≡ Some (y, rest) → eqb (length rest) 0 ≡ false → (x : A) → V x → t x ≡ bytes → ⊥
more_than_one {A} F V t r h f bytes y rest some left x v e =
    let same : (y, rest) ≡ (x, []) = same_Some (y, rest) (x, []) (sym some ∙ is_read F V t r h f bytes x v e) in
    let nothing : rest ≡ [] = ap (λ (p : A × List ℕ). p.1) same in
    false≢true (sym left ∙ ap (λ (s : List ℕ). eqb (length s) 0) nothing)

-- ---- the line of the domain

abbrev domain_text : ℕ → List ℕ
domain_text d = lettered_number (codes "domain ") d ++ line_feed

domain_valid : (d : ℕ) → fits_domain d ≡ true → IsDomain d
domain_valid d t = (ltb-true d (2 ^ 32) (and_parts (leb 1 d) (is_small d) t).1, t)

pub domain_read : (bytes : List ℕ) (d : ℕ) (rest : List ℕ) → domain_at bytes ≡ Some (d, rest) → eqb (length rest) 0 ≡ true → IsDomainLine bytes (Some d)
domain_read bytes d rest e left =
    let a = read_as Anything IsDomain domain_text domain_at domain_reads bytes d rest e left in
    (a.0, a.1.1)

pub no_domain : (bytes : List ℕ) → domain_at bytes ≡ None → IsDomainLine bytes None
no_domain bytes none d e t = none_read_as Anything IsDomain domain_text domain_at domain_reads tt bytes none d (domain_valid d t) e

pub more_than_domain : (bytes : List ℕ) (y : ℕ) (rest : List ℕ) → domain_at bytes ≡ Some (y, rest) → eqb (length rest) 0 ≡ false → IsDomainLine bytes None
more_than_domain bytes y rest some left d e t =
    more_than_one Anything IsDomain domain_text domain_at domain_reads tt bytes y rest some left d (domain_valid d t) e
