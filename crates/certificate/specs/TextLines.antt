-- The lines of a certificate's text one after another, and which may follow which.
use Rattle.std.specs.Prelude.{◌≡◌, ℕ, ◌+◌, List, [], ◌∷◌, ◌++◌, length, Option, Some, None, Bool, true, false, ◌&&◌, ◌==◌, nat_lt, if◌then◌else◌, codes}
use Rattle.axioms.specs.Ontology.{Ontology}
use Rattle.certificate.specs.Certificate.{Line, Listed, Certificate, Format, One, Two}
use Rattle.certificate.specs.Text.{line_feed, lettered_number, first_text, line_text, lines_text, written, class_text, pairs_text, individual_text, claim_text, listed_text, certificate_text}
use Rattle.certificate.specs.Tests.{fits_written, fits_domain, fits_class, fits_pairs, fits_claim, is_small, key, pair_key}

-- a line of the text: the first tells the format, and whether the certificate is of a consistent ontology. A line of the derivation has
-- its premises as they are written
pub data TextLine : Type 0 where
  FirstLine : (format : Format) (is_consistent : Bool) → TextLine
  DerivedLine : (line : Line) → TextLine
  DomainLine : (domain : ℕ) → TextLine
  ClassLine : (format : Format) (row : ℕ × List ℕ) → TextLine
  PairLine : (format : Format) (row : ℕ × ℕ × List ℕ) → TextLine
  IndividualLine : (number element : ℕ) → TextLine
  ClaimLine : (claim : ℕ × ℕ) → TextLine
  LastLine : TextLine

abbrev pub text_of : TextLine → List ℕ
text_of (FirstLine format is_consistent) = first_text format is_consistent
text_of (DerivedLine line) = line_text line
text_of (DomainLine domain) = lettered_number (codes "domain ") domain ++ line_feed
text_of (ClassLine format row) = class_text format row
text_of (PairLine format row) = pairs_text format row
text_of (IndividualLine number element) = individual_text (number, element)
text_of (ClaimLine claim) = claim_text claim
text_of LastLine = codes "end" ++ line_feed

-- what the lines so far give: nothing, lines of the derivation, rows of the listed interpretation too, or a whole certificate
pub data Part : Type 0 where
  Empty : Part
  InLines : (format : Format) (is_consistent : Bool) (lines : List Line) → Part
  InRows : (format : Format) (lines : List Line) (listed : Listed) → Part
  Complete : (format : Format) (certificate : Certificate) → Part

abbrev pub part_text : Part → List ℕ
part_text Empty = []
part_text (InLines format is_consistent lines) = first_text format is_consistent ++ lines_text format 1 lines
part_text (InRows format lines listed) = first_text format true ++ lines_text format 1 lines ++ listed_text format (Some listed)
part_text (Complete format certificate) = certificate_text format certificate

-- ---- rows

abbrev pub is_empty : {A : Type 0} → List A → Bool
is_empty [] = true
is_empty (x ∷ xs) = false

abbrev pub last_of : {A : Type 0} → List A → Option A
last_of [] = None
last_of (x ∷ []) = Some x
last_of (x ∷ y ∷ ys) = last_of (y ∷ ys)

-- an interpretation without rows
abbrev pub no_rows : ℕ → Listed
no_rows domain = record { domain = domain; classes = []; pairs = []; individuals = []; claims = [] }

-- each individual has its element
abbrev pub has_individuals : Ontology → Listed → Bool
has_individuals o l = length l.individuals == length o.names.individuals

-- the row may follow those before it: classes, then pairs, then an element for each individual, then claims
abbrev pub fits_row : Ontology → Listed → TextLine → Bool
fits_row o l (ClassLine format row) = is_empty l.pairs && is_empty l.individuals && is_empty l.claims && fits_class o l.domain (key (last_of l.classes)) row
fits_row o l (PairLine format row) = is_empty l.individuals && is_empty l.claims && fits_pairs o l.domain (pair_key (last_of l.pairs)) row
fits_row o l (IndividualLine number element) =
    is_empty l.claims && (number == length l.individuals) && nat_lt number (length o.names.individuals) && is_small number && nat_lt element l.domain
fits_row o l (ClaimLine claim) = has_individuals o l && fits_claim o l.domain (key (last_of l.claims)) claim
fits_row o l _ = false

abbrev pub is_format : Format → Format → Bool
is_format One One = true
is_format Two Two = true
is_format _ _ = false

-- the row is written in the format
abbrev pub is_row_in : Format → TextLine → Bool
is_row_in format (ClassLine its row) = is_format format its
is_row_in format (PairLine its row) = is_format format its
is_row_in format _ = true

-- the row may follow in a text of the format
abbrev pub follows_in : Ontology → Format → Listed → TextLine → Bool
follows_in o format l row = fits_row o l row && is_row_in format row

-- the interpretation with the row behind the others
abbrev pub with_row : Listed → TextLine → Listed
with_row l (ClassLine format row) = record l { classes = l.classes ++ row ∷ [] }
with_row l (PairLine format row) = record l { pairs = l.pairs ++ row ∷ [] }
with_row l (IndividualLine number element) = record l { individuals = l.individuals ++ element ∷ [] }
with_row l (ClaimLine claim) = record l { claims = l.claims ++ claim ∷ [] }
with_row l _ = l

-- ---- lines

-- the number of the line that comes behind these
abbrev pub next_number : List Line → ℕ
next_number lines = length lines + 1

-- what the lines give with one more, where it may follow them
abbrev pub with_line : Ontology → Part → TextLine → Option Part
with_line o Empty (FirstLine format is_consistent) = Some (InLines format is_consistent [])
with_line o (InLines format is_consistent lines) (DerivedLine line) =
    if fits_written o format (next_number lines) line then Some (InLines format is_consistent (lines ++ written format (next_number lines) line ∷ [])) else None
with_line o (InLines format true lines) (DomainLine domain) = if fits_domain domain then Some (InRows format lines (no_rows domain)) else None
with_line o (InLines format false lines) LastLine = Some (Complete format (record { lines = lines; listed = None }))
with_line o (InRows format lines listed) LastLine =
    if has_individuals o listed then Some (Complete format (record { lines = lines; listed = Some listed })) else None
with_line o (InRows format lines listed) line = if follows_in o format listed line then Some (InRows format lines (with_row listed line)) else None
with_line o _ _ = None

-- .. with all of these, in their order
abbrev pub with_all : Ontology → Part → List TextLine → Option Part
with_all o part [] = Some part
with_all o part (line ∷ lines) = elim (with_line o part line) [ None ↦ None | Some next ↦ with_all o next lines ]

-- some lines give it
abbrev pub IsPart : Ontology → Part → Type 0
IsPart o part = (lines : List TextLine) × (with_all o Empty lines ≡ Some part)

-- the bytes are a line that may follow, which gives that
pub record Follows (o : Ontology) (part : Part) (bytes : List ℕ) (line : TextLine) (next : Part) : Type 0 where
  pub text_is : text_of line ≡ bytes
  pub gives : with_line o part line ≡ Some next

-- the bytes are no line that may follow
abbrev pub CannotFollow : Ontology → Part → List ℕ → Type 0
CannotFollow o part bytes = (line : TextLine) → text_of line ≡ bytes → with_line o part line ≡ None
