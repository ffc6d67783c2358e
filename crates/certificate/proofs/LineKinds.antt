-- Lines that may follow one part, and have one text, are one line.
use Rattle.std.proofs.Common.{◌≡◌, ℕ, ◌+◌, ◌*◌, ◌^◌, ◌<◌, ◌≤◌, Bool, true, false, cond, eqb, ltb, leb, ◌&&◌, List, [], ◌∷◌, ◌++◌, length, get_or, Some, None, refl, sym, ap, subst, ◌∙◌, arith}
use Rattle.std.specs.Prelude.{codes}
use Rattle.std.proofs.lemmas.Bool.{ltb-true, and_parts}
use Rattle.std.proofs.lemmas.List.Elements.{All-from_recursion, recursion_from_All}
use Rattle.certificate.specs.Writability.{AreElements}
use Rattle.certificate.proofs.Every.{every_weaker}
use Rattle.std.proofs.lemmas.Option.{none-some, same_Some}
use Rattle.lemmas.proofs.Choices.{passed}
use Rattle.axioms.specs.Ontology.{Ontology}
use Rattle.certificate.specs.Certificate.{Conclusion, Sub, Edge, Same, Line, Listed, Format, One, Two}
use Rattle.certificate.specs.Text.{rule_number, lettered_number, spaced_numbers, line_feed, conclusion_text, axiom_text, line_text, written, first_text, class_text, pairs_text, individual_text, claim_text}
use Rattle.certificate.specs.Tests.{is_small, fits_written, fits_domain, fits_class, fits_pairs, fits_claim, key, pair_key}
use Rattle.certificate.specs.TextLines.{TextLine, FirstLine, DerivedLine, DomainLine, ClassLine, PairLine, IndividualLine, ClaimLine, LastLine, text_of, Part, Empty, InLines, InRows, Complete, is_empty, last_of, no_rows, has_individuals, fits_row, is_row_in, follows_in, next_number, with_row, with_line}
use Rattle.certificate.specs.Reading.{Reader}
use Rattle.certificate.proofs.Derivations.{IsSmall, FitsLine, line_reads}
use Rattle.certificate.proofs.Laws.{Reads, Anything}
use Rattle.certificate.proofs.LineMeaning.{line_means, line_tests}
use Rattle.certificate.proofs.Parts.{same_format}
use Rattle.certificate.proofs.WrittenLines.{written_fits}
use Rattle.certificate.proofs.RowLaws.{IsClassText, class_row_reads, IsPairText, pair_row_reads, elements_are_read, IsClaimRow, claim_row_reads, numbered_row_reads}
use Rattle.certificate.proofs.RowMeaning.{class_means, pair_means, claim_means}
use Rattle.certificate.proofs.Whole.{IsDomain, domain_reads}

-- ---- the elements of a listed interpretation have 32 bits

abbrev pub HasSmallDomain : Part → Type 0
HasSmallDomain (InRows format lines listed) = listed.domain ≤ 2 ^ 32
HasSmallDomain _ = Unit {0}

domain_kept : (l : Listed) (line : TextLine) → (with_row l line).domain ≡ l.domain
domain_kept l (ClassLine format row) = refl
domain_kept l (PairLine format row) = refl
domain_kept l (IndividualLine number element) = refl
domain_kept l (ClaimLine claim) = refl
domain_kept l _ = refl

small_domain : (d : ℕ) → fits_domain d ≡ true → IsSmall d
small_domain d t = ltb-true d (2 ^ 32) (and_parts (leb 1 d) (is_small d) t).1

small_row : (o : Ontology) (format : Format) (lines : List Line) (listed : Listed) (next : Part) (line : TextLine) → listed.domain ≤ 2 ^ 32
    → cond (follows_in o format listed line) (Some (InRows format lines (with_row listed line))) None ≡ Some next → HasSmallDomain next
small_row o format lines listed next line small e =
    let p = passed (follows_in o format listed line) (Some (InRows format lines (with_row listed line))) next e in
    subst HasSmallDomain (same_Some _ _ p.1) (omega (arith, domain_kept listed line))

pub small_still : (o : Ontology) (part next : Part) (line : TextLine) → HasSmallDomain part → with_line o part line ≡ Some next → HasSmallDomain next
small_still o Empty next (FirstLine format is_consistent) small e = subst HasSmallDomain (same_Some _ _ e) tt
small_still o (InLines format is_consistent lines) next (DerivedLine line) small e =
    let n = next_number lines in
    subst HasSmallDomain (same_Some _ _ (passed (fits_written o format n line) (Some (InLines format is_consistent (lines ++ written format n line ∷ []))) next e).1) tt
small_still o (InLines format true lines) next (DomainLine domain) small e =
    let p = passed (fits_domain domain) (Some (InRows format lines (no_rows domain))) next e in
    let below : domain < 2 ^ 32 = small_domain domain p.0 in
    subst HasSmallDomain (same_Some _ _ p.1) (omega arith)
small_still o (InLines format false lines) next LastLine small e = subst HasSmallDomain (same_Some _ _ e) tt
small_still o (InRows format lines listed) next LastLine small e =
    subst HasSmallDomain (same_Some _ _ (passed (has_individuals o listed) (Some (Complete format (record { lines = lines; listed = Some listed }))) next e).1) tt
small_still o (InRows format lines listed) next line small e = small_row o format lines listed next line small e
small_still o part next line small e = absurd (none-some next e)

-- ---- a line that may follow has numbers that can be read

-- the format of the lines so far
abbrev pub format_of : Part → Format
format_of Empty = One
format_of (InLines format is_consistent lines) = format
format_of (InRows format lines listed) = format
format_of (Complete format certificate) = format

abbrev pub IsReadable : Format → TextLine → Type 0
IsReadable format (DerivedLine line) = FitsLine line
IsReadable format (DomainLine domain) = IsDomain domain
IsReadable format (ClassLine its row) = (format ≡ its) × IsClassText format (2 ^ 32) row
IsReadable format (PairLine its row) = (format ≡ its) × IsPairText format (2 ^ 32) row
IsReadable format (IndividualLine number element) = IsSmall number × IsSmall element
IsReadable format (ClaimLine claim) = IsClaimRow claim
IsReadable format _ = Unit {0}

small_elements : (d : ℕ) (xs : List ℕ) → d ≤ 2 ^ 32 → AreElements d xs → AreElements (2 ^ 32) xs
small_elements d xs small h =
    let below = every_weaker (λ x. x < d) (λ x. x < 2 ^ 32) (λ x l. omega (arith, l, small)) xs (recursion_from_All (λ x. x < d) xs h.within) in
    record { some = h.some; within = All-from_recursion (λ x. x < 2 ^ 32) xs below; ascend = h.ascend }

readable_row : (o : Ontology) (format : Format) (l : Listed) (line : TextLine) → l.domain ≤ 2 ^ 32 → fits_row o l line ≡ true → is_row_in format line ≡ true → IsReadable format line
readable_row o format l (ClassLine its row) small t is =
    let last = last_of l.classes in
    let p = and_parts (is_empty l.pairs && is_empty l.individuals && is_empty l.claims) (fits_class o l.domain (key last) row) t in
    let i = class_means o l.domain last row p.1 in
    (same_format format its is, (i.1, elements_are_read format (2 ^ 32) row.1 (omega arith) (small_elements l.domain row.1 small i.0.2)))
readable_row o format l (PairLine its row) small t is =
    let last = last_of l.pairs in
    let p = and_parts (is_empty l.individuals && is_empty l.claims) (fits_pairs o l.domain (pair_key last) row) t in
    let i = pair_means o l.domain last row p.1 in
    (same_format format its is, (i.1, omega (arith, i.0.1), elements_are_read format (2 ^ 32) row.2 (omega arith) (small_elements l.domain row.2 small i.0.2)))
readable_row o format l (IndividualLine number element) small t is =
    let front = is_empty l.claims && eqb number (length l.individuals) && ltb number (length o.names.individuals) in
    let p = and_parts (front && is_small number) (ltb element l.domain) t in
    let below : element < l.domain = ltb-true element l.domain p.1 in
    (ltb-true number (2 ^ 32) (and_parts front (is_small number) p.0).1, omega arith)
readable_row o format l (ClaimLine claim) small t is =
    let last = last_of l.claims in
    let i = claim_means o l.domain last claim (and_parts (has_individuals o l) (fits_claim o l.domain (key last) claim) t).1 in
    (i.1, omega (arith, i.0.1))
readable_row o format l (FirstLine its is_consistent) small t is = tt
readable_row o format l LastLine small t is = tt
readable_row o format l (DerivedLine line) small t is = absurd (cc)
readable_row o format l (DomainLine domain) small t is = absurd (cc)

pub readable : (o : Ontology) (part next : Part) (line : TextLine) → HasSmallDomain part → with_line o part line ≡ Some next → IsReadable (format_of part) line
readable o part next (FirstLine format is_consistent) small e = tt
readable o part next LastLine small e = tt
readable o (InLines format is_consistent lines) next (DerivedLine line) small e =
    let n = next_number lines in
    let p = passed (fits_written o format n line) (Some (InLines format is_consistent (lines ++ written format n line ∷ []))) next e in
    (line_tests o line (line_means o line (written_fits o format n line p.0))).0
readable o (InLines format true lines) next (DomainLine domain) small e =
    let t = (passed (fits_domain domain) (Some (InRows format lines (no_rows domain))) next e).0 in
    (small_domain domain t, t)
readable o (InRows format lines listed) next line small e =
    let p = passed (follows_in o format listed line) (Some (InRows format lines (with_row listed line))) next e in
    let q = and_parts (fits_row o listed line) (is_row_in format line) p.0 in
    readable_row o format listed line small q.0 q.1
readable o part next line small e = absurd (none-some next e)

-- ---- the kind of a line by its first bytes

-- the second byte and the fourth
abbrev mark : List ℕ → ℕ
mark bytes = 256 * get_or bytes 1 0 + get_or bytes 3 0

abbrev kind_mark : TextLine → ℕ
kind_mark (FirstLine format is_consistent) = mark (codes "elcert")
kind_mark (DerivedLine line) = mark (codes "edge ")
kind_mark (DomainLine domain) = mark (codes "domain")
kind_mark (ClassLine format row) = mark (codes "class ")
kind_mark (PairLine format row) = mark (codes "succ ")
kind_mark (IndividualLine number element) = mark (codes "ind ")
kind_mark (ClaimLine claim) = mark (codes "claim ")
kind_mark LastLine = mark (codes "end\n")

-- a line of the derivation begins in three ways
abbrev text_mark : List ℕ → ℕ
text_mark bytes =
    cond (eqb (mark bytes) (mark (codes "sub "))) (mark (codes "edge "))
    (cond (eqb (mark bytes) (mark (codes "same i"))) (mark (codes "edge ")) (mark bytes))

derived_mark : (conclusion : Conclusion) (rule axiom' premises end : List ℕ) → text_mark (conclusion_text conclusion ++ rule ++ axiom' ++ premises ++ end) ≡ mark (codes "edge ")
derived_mark (Sub x c) rule axiom' premises end = refl
derived_mark (Edge x r y) rule axiom' premises end = refl
derived_mark (Same a b) rule axiom' premises end = refl

first_mark : (format : Format) (is_consistent : Bool) → text_mark (first_text format is_consistent) ≡ mark (codes "elcert")
first_mark One true = refl
first_mark One false = refl
first_mark Two true = refl
first_mark Two false = refl

class_mark : (format : Format) (row : ℕ × List ℕ) → text_mark (class_text format row) ≡ mark (codes "class ")
class_mark One row = refl
class_mark Two row = refl

pairs_mark : (format : Format) (row : ℕ × ℕ × List ℕ) → text_mark (pairs_text format row) ≡ mark (codes "succ ")
pairs_mark One row = refl
pairs_mark Two row = refl

marked : (line : TextLine) → text_mark (text_of line) ≡ kind_mark line
marked (FirstLine format is_consistent) = first_mark format is_consistent
marked (ClassLine format row) = class_mark format row
marked (PairLine format row) = pairs_mark format row
marked (DerivedLine line) = derived_mark line.conclusion (lettered_number (codes " K") (rule_number line.rule)) (axiom_text line.axiom') (spaced_numbers line.premises) line_feed
marked _ = refl

-- ---- lines of one text

same_value : {A : Type 0} (F : List ℕ → Type 0) (V : A → Type 0) (t : A → List ℕ) (r : Reader A) → Reads F V t r → F [] → (x y : A) → V x → V y → t x ≡ t y → x ≡ y
same_value F V t r h f x y v w e =
    ap (λ p. p.0) (same_Some _ _ (sym (h.again x [] v f) ∙ ap (λ (s : List ℕ). r (s ++ [])) e ∙ h.again y [] w f))

-- the number of the format, and whether the kind is the longer word
first_number : Format → ℕ
first_number One = 49
first_number Two = 50

at_seven : (f : Format) (b : Bool) → get_or (first_text f b) 7 0 ≡ first_number f
unfolding first_number
at_seven One true = refl
at_seven One false = refl
at_seven Two true = refl
at_seven Two false = refl

at_nine : (f : Format) → (get_or (first_text f true) 9 0 ≡ 99) × (get_or (first_text f false) 9 0 ≡ 105)
at_nine One = (refl, refl)
at_nine Two = (refl, refl)

same_number : (f g : Format) → first_number f ≡ first_number g → f ≡ g
unfolding first_number
same_number One One e = refl
same_number Two Two e = refl
same_number One Two e = absurd (omega (arith, e))
same_number Two One e = absurd (omega (arith, e))

same_kind : (f g : Format) (b c : Bool) → get_or (first_text f b) 9 0 ≡ get_or (first_text g c) 9 0 → b ≡ c
same_kind f g true true e = refl
same_kind f g false false e = refl
same_kind f g true false e = absurd (omega (arith, e, (at_nine f).0, (at_nine g).1))
same_kind f g false true e = absurd (omega (arith, e, (at_nine f).1, (at_nine g).0))

same_first : (f g : Format) (b c : Bool) → first_text f b ≡ first_text g c → ◌≡◌ {A = Format × Bool} (f, b) (g, c)
same_first f g b c e =
    let format : f ≡ g = same_number f g (sym (at_seven f b) ∙ ap (λ s. get_or s 7 0) e ∙ at_seven g c) in
    let kind : b ≡ c = same_kind f g b c (ap (λ s. get_or s 9 0) e) in
    ap (λ h. (h, b)) format ∙ ap (λ d. (g, d)) kind

class_same : (format f g : Format) (x y : ℕ × List ℕ) → format ≡ f → format ≡ g → IsClassText format (2 ^ 32) x → IsClassText format (2 ^ 32) y → class_text f x ≡ class_text g y → ClassLine f x ≡ ClassLine g y
class_same format f g x y a b v w e =
    let own : class_text format x ≡ class_text format y = ap (λ h. class_text h x) a ∙ e ∙ ap (λ h. class_text h y) (sym b) in
    let row : x ≡ y = same_value Anything (IsClassText format (2 ^ 32)) (class_text format) _ (class_row_reads format (2 ^ 32)) tt x y v w own in
    ap (λ h. ClassLine h x) (sym a ∙ b) ∙ ap (ClassLine g) row

pair_same : (format f g : Format) (x y : ℕ × ℕ × List ℕ) → format ≡ f → format ≡ g → IsPairText format (2 ^ 32) x → IsPairText format (2 ^ 32) y → pairs_text f x ≡ pairs_text g y → PairLine f x ≡ PairLine g y
pair_same format f g x y a b v w e =
    let own : pairs_text format x ≡ pairs_text format y = ap (λ h. pairs_text h x) a ∙ e ∙ ap (λ h. pairs_text h y) (sym b) in
    let row : x ≡ y = same_value Anything (IsPairText format (2 ^ 32)) (pairs_text format) _ (pair_row_reads format (2 ^ 32)) tt x y v w own in
    ap (λ h. PairLine h x) (sym a ∙ b) ∙ ap (PairLine g) row

same_of_kind : (format : Format) (line line' : TextLine) → kind_mark line ≡ kind_mark line' → IsReadable format line → IsReadable format line' → text_of line ≡ text_of line' → line ≡ line'
same_of_kind format (FirstLine f b) (FirstLine g c) k v w e = ap (λ (p : Format × Bool). FirstLine p.0 p.1) (same_first f g b c e)
same_of_kind format (DerivedLine x) (DerivedLine y) k v w e = ap DerivedLine (same_value Anything FitsLine line_text _ line_reads tt x y v w e)
same_of_kind format (DomainLine x) (DomainLine y) k v w e = ap DomainLine (same_value Anything IsDomain (λ d. lettered_number (codes "domain ") d ++ line_feed) _ domain_reads tt x y v w e)
same_of_kind format (ClassLine f x) (ClassLine g y) k v w e = class_same format f g x y v.0 w.0 v.1 w.1 e
same_of_kind format (PairLine f x) (PairLine g y) k v w e = pair_same format f g x y v.0 w.0 v.1 w.1 e
same_of_kind format (IndividualLine m x) (IndividualLine n y) k v w e =
    ap (λ (p : ℕ × ℕ). IndividualLine p.0 p.1) (same_value Anything IsClaimRow individual_text _ (numbered_row_reads (codes "ind i")) tt (m, x) (n, y) v w e)
same_of_kind format (ClaimLine x) (ClaimLine y) k v w e = ap ClaimLine (same_value Anything IsClaimRow claim_text _ claim_row_reads tt x y v w e)
same_of_kind format LastLine LastLine k v w e = refl
same_of_kind format line line' k v w e = absurd (omega arith)

same_text : (format : Format) (line line' : TextLine) → IsReadable format line → IsReadable format line' → text_of line ≡ text_of line' → line ≡ line'
same_text format line line' v w e = same_of_kind format line line' (sym (marked line) ∙ ap text_mark e ∙ marked line') v w e

-- of lines that may follow the part one text is that of one line
pub one_line : (o : Ontology) (part next next' : Part) (line line' : TextLine) → HasSmallDomain part
    → with_line o part line ≡ Some next → with_line o part line' ≡ Some next' → text_of line ≡ text_of line' → line ≡ line'
one_line o part next next' line line' small f g e = same_text (format_of part) line line' (readable o part next line small f) (readable o part next' line' small g) e
