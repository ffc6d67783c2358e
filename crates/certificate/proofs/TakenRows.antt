-- A row that is taken into a listed interpretation.
use Rattle.std.proofs.Common.{◌≡◌, ℕ, List, [], ◌∷◌, ◌++◌, length, Option, Some, None, Bool, true, false, eqb, ltb, ◌&&◌, refl, sym, ap, ◌∙◌, subst}
use Rattle.std.specs.Prelude.{IfOk}
use Rattle.std.specs.declared.result.Result.{Result}
use Rattle.std.specs.declared.result.Result.TheVariants.{Ok, Err}
use Rattle.std.proofs.lemmas.Bool.{eq-eqb, and_parts, and_from}
use Rattle.axioms.specs.Ontology.{Ontology}
use Rattle.device.specs.declared.fault.Memory.{Memory}
use Rattle.certificate.specs.Certificate.{Listed, Format}
use Rattle.certificate.specs.Text.{class_text, pairs_text, individual_text, claim_text}
use Rattle.certificate.specs.Tests.{is_small, fits_class, fits_pairs, fits_claim, key, pair_key}
use Rattle.certificate.specs.TextLines.{TextLine, FirstLine, DerivedLine, DomainLine, ClassLine, PairLine, IndividualLine, ClaimLine, LastLine, text_of, fits_row, is_format, follows_in, last_of, is_empty, has_individuals}
use Rattle.certificate.specs.LineValues.{TakesRow}
use Rattle.certificate.specs.SingleLines.{IsTextOfOne, TakesKind, individual_line}
use Rattle.certificate.proofs.Parts.{is_own, same_format}

in_own : {own : Bool} (fits : Bool) → own ≡ true → fits ≡ true → (fits && own) ≡ true
in_own {own = own} fits h t = and_from fits own t h

pub class_taken : (o : Ontology) (format : Format) (l : Listed) (bytes : List ℕ) (last : Option ℕ) (row : ℕ × List ℕ) (rows : List (ℕ × List ℕ))
    → (is_empty l.pairs && is_empty l.individuals && is_empty l.claims) ≡ true → last ≡ key (last_of l.classes)
    → IsTextOfOne (class_text format) (fits_class o l.domain last) bytes (Some row) → rows ≡ l.classes ++ row ∷ [] → TakesRow o format l bytes true (record l { classes = rows })
class_taken o format l bytes last row rows may last_is one e = (
  ClassLine format row,
  one.0,
  in_own (fits_row o l (ClassLine format row)) (is_own format)
      (and_from (is_empty l.pairs && is_empty l.individuals && is_empty l.claims) (fits_class o l.domain (key (last_of l.classes)) row) may (ap (λ k. fits_class o l.domain k row) (sym last_is) ∙ one.1)),
  ap (λ (rs : List (ℕ × List ℕ)). record l { classes = rs }) e,
)

pub pairs_taken : (o : Ontology) (format : Format) (l : Listed) (bytes : List ℕ) (last : Option (ℕ × ℕ)) (row : ℕ × ℕ × List ℕ) (rows : List (ℕ × ℕ × List ℕ))
    → (is_empty l.individuals && is_empty l.claims) ≡ true → last ≡ pair_key (last_of l.pairs)
    → IsTextOfOne (pairs_text format) (fits_pairs o l.domain last) bytes (Some row) → rows ≡ l.pairs ++ row ∷ [] → TakesRow o format l bytes true (record l { pairs = rows })
pairs_taken o format l bytes last row rows may last_is one e = (
  PairLine format row,
  one.0,
  in_own (fits_row o l (PairLine format row)) (is_own format)
      (and_from (is_empty l.individuals && is_empty l.claims) (fits_pairs o l.domain (pair_key (last_of l.pairs)) row) may (ap (λ k. fits_pairs o l.domain k row) (sym last_is) ∙ one.1)),
  ap (λ (rs : List (ℕ × ℕ × List ℕ)). record l { pairs = rs }) e,
)

pub element_taken : (o : Ontology) (format : Format) (l : Listed) (bytes : List ℕ) (number element : ℕ) (elements : List ℕ)
    → (is_empty l.claims && ltb (length l.individuals) (length o.names.individuals)) ≡ true → number ≡ length l.individuals
    → IsTextOfOne (λ x. individual_text (number, x)) (λ x. is_small number && ltb x l.domain) bytes (Some element) → elements ≡ l.individuals ++ element ∷ []
    → TakesRow o format l bytes true (record l { individuals = elements })
element_taken o format l bytes number element elements may number_is one e =
    let a = and_parts (is_empty l.claims) (ltb (length l.individuals) (length o.names.individuals)) may in
    let b = and_parts (is_small number) (ltb element l.domain) one.1 in
    let within : ltb number (length o.names.individuals) ≡ true = ap (λ n. ltb n (length o.names.individuals)) number_is ∙ a.1 in
    let first = is_empty l.claims && eqb number (length l.individuals) in (
      IndividualLine number element,
      one.0,
      in_own (fits_row o l (IndividualLine number element)) refl
          (and_from (first && ltb number (length o.names.individuals) && is_small number) (ltb element l.domain)
          (and_from (first && ltb number (length o.names.individuals)) (is_small number)
          (and_from first (ltb number (length o.names.individuals)) (and_from (is_empty l.claims) (eqb number (length l.individuals)) a.0 (eq-eqb number (length l.individuals) number_is)) within) b.0) b.1),
      ap (λ (xs : List ℕ). record l { individuals = xs }) e,
    )

pub claim_taken : (o : Ontology) (format : Format) (l : Listed) (bytes : List ℕ) (last : Option ℕ) (claim : ℕ × ℕ) (claims : List (ℕ × ℕ))
    → has_individuals o l ≡ true → last ≡ key (last_of l.claims)
    → IsTextOfOne claim_text (fits_claim o l.domain last) bytes (Some claim) → claims ≡ l.claims ++ claim ∷ [] → TakesRow o format l bytes true (record l { claims = claims })
claim_taken o format l bytes last claim claims may last_is one e = (
  ClaimLine claim,
  one.0,
  in_own (fits_row o l (ClaimLine claim)) refl
      (and_from (has_individuals o l) (fits_claim o l.domain (key (last_of l.claims)) claim) may (ap (λ k. fits_claim o l.domain k claim) (sym last_is) ∙ one.1)),
  ap (λ (cs : List (ℕ × ℕ)). record l { claims = cs }) e,
)

-- no row of the kind
pub class_none : (o : Ontology) (format : Format) (l : Listed) (bytes : List ℕ) (last : Option ℕ) → last ≡ key (last_of l.classes)
    → IsTextOfOne (class_text format) (fits_class o l.domain last) bytes None → TakesKind (ClassLine format) o format l bytes false l
class_none o format l bytes last last_is none = (
  λ row e t.
      (let fits = (and_parts (fits_row o l (ClassLine format row)) _ t).0 in
      let own = (and_parts (is_empty l.pairs && is_empty l.individuals && is_empty l.claims) (fits_class o l.domain (key (last_of l.classes)) row) fits).1 in
      none row e (ap (λ k. fits_class o l.domain k row) last_is ∙ own)),
  refl,
)

pub pairs_none : (o : Ontology) (format : Format) (l : Listed) (bytes : List ℕ) (last : Option (ℕ × ℕ)) → last ≡ pair_key (last_of l.pairs)
    → IsTextOfOne (pairs_text format) (fits_pairs o l.domain last) bytes None → TakesKind (PairLine format) o format l bytes false l
pairs_none o format l bytes last last_is none = (
  λ row e t.
      (let fits = (and_parts (fits_row o l (PairLine format row)) _ t).0 in
      let own = (and_parts (is_empty l.individuals && is_empty l.claims) (fits_pairs o l.domain (pair_key (last_of l.pairs)) row) fits).1 in
      none row e (ap (λ k. fits_pairs o l.domain k row) last_is ∙ own)),
  refl,
)

-- a row in another format than its text's does not follow
class_not : (o : Ontology) (format f : Format) (l : Listed) (bytes : List ℕ) → ((row : ℕ × List ℕ) → text_of (ClassLine format row) ≡ bytes → follows_in o format l (ClassLine format row) ≡ true → ⊥)
    → (row : ℕ × List ℕ) → text_of (ClassLine f row) ≡ bytes → follows_in o format l (ClassLine f row) ≡ true → ⊥
class_not o format f l bytes h row e t =
    let own : format ≡ f = same_format format f (and_parts (fits_row o l (ClassLine f row)) (is_format format f) t).1 in
    subst (λ g. text_of (ClassLine g row) ≡ bytes → follows_in o format l (ClassLine g row) ≡ true → ⊥) own (h row) e t

pairs_not : (o : Ontology) (format f : Format) (l : Listed) (bytes : List ℕ) → ((row : ℕ × ℕ × List ℕ) → text_of (PairLine format row) ≡ bytes → follows_in o format l (PairLine format row) ≡ true → ⊥)
    → (row : ℕ × ℕ × List ℕ) → text_of (PairLine f row) ≡ bytes → follows_in o format l (PairLine f row) ≡ true → ⊥
pairs_not o format f l bytes h row e t =
    let own : format ≡ f = same_format format f (and_parts (fits_row o l (PairLine f row)) (is_format format f) t).1 in
    subst (λ g. text_of (PairLine g row) ≡ bytes → follows_in o format l (PairLine g row) ≡ true → ⊥) own (h row) e t

-- a row that is of none of the kinds is none
none_taken : (o : Ontology) (format : Format) (l : Listed) (bytes : List ℕ) → TakesKind (ClassLine format) o format l bytes false l → TakesKind (PairLine format) o format l bytes false l → TakesKind individual_line o format l bytes false l
    → TakesKind ClaimLine o format l bytes false l → (row : TextLine) → text_of row ≡ bytes → follows_in o format l row ≡ true → ⊥
none_taken o format l bytes h k i j (ClassLine f row) e t = class_not o format f l bytes h.0 row e t
none_taken o format l bytes h k i j (PairLine f row) e t = pairs_not o format f l bytes k.0 row e t
none_taken o format l bytes h k i j (IndividualLine number element) e t = i.0 (number, element) e t
none_taken o format l bytes h k i j (ClaimLine claim) e t = j.0 claim e t
none_taken o format l bytes h k i j (FirstLine f is_consistent) e t = cc
none_taken o format l bytes h k i j (DerivedLine line) e t = cc
none_taken o format l bytes h k i j (DomainLine domain) e t = cc
none_taken o format l bytes h k i j LastLine e t = cc

last_kind : (o : Ontology) (format : Format) (l new : Listed) (bytes : List ℕ) (taken : Bool) → TakesKind (ClassLine format) o format l bytes false l → TakesKind (PairLine format) o format l bytes false l → TakesKind individual_line o format l bytes false l
    → TakesKind ClaimLine o format l bytes taken new → TakesRow o format l bytes taken new
last_kind o format l new bytes true h k i j = j
last_kind o format l new bytes false h k i j = (none_taken o format l bytes h k i (j.0, refl), j.1)

-- the kinds one after another
pub some_kind : (o : Ontology) (format : Format) (l a b c new : Listed) (bytes : List ℕ) (taken : Result Bool Memory) → TakesKind (ClassLine format) o format l bytes false a
    → TakesKind (PairLine format) o format a bytes false b → ((f : Format) → TakesKind individual_line o f b bytes false c) → IfOk taken (λ t. (f : Format) → TakesKind ClaimLine o f c bytes t new)
    → IfOk taken (λ t. TakesRow o format l bytes t new)
some_kind o format l a b c new bytes (Err fault) h k i j = tt
some_kind o format l a b c new bytes (Ok t) h k i j =
    let own = i format in
    let b_is : b ≡ l = k.1 ∙ h.1 in
    let c_is : c ≡ l = own.1 ∙ b_is in
    last_kind o format l new bytes t (h.0, refl)
    (subst (λ m. TakesKind (PairLine format) o format m bytes false m) h.1 (k.0, refl))
    (subst (λ m. TakesKind individual_line o format m bytes false m) b_is (own.0, refl))
    (subst (λ m. TakesKind ClaimLine o format m bytes t new) c_is (j format))

-- .. where the third takes it
pub third_kind : (o : Ontology) (format : Format) (l a b new : Listed) (bytes : List ℕ) → TakesKind (ClassLine format) o format l bytes false a → TakesKind (PairLine format) o format a bytes false b
    → ((f : Format) → TakesKind individual_line o f b bytes true new) → TakesRow o format l bytes true new
third_kind o format l a b new bytes h k i = subst (λ m. TakesRow o format m bytes true new) (k.1 ∙ h.1) (i format)
