-- Which certificates have a text in a format: what they name is there, in the order of the text, and their numbers fit.
use Rattle.std.specs.Prelude.{◌≡◌, ℕ, ◌+◌, ◌<◌, ◌≤◌, ◌^◌, ◌⊎◌, List, [], ◌∷◌, ◌++◌, map, length, Some, None, IfSome}
use Rattle.std.specs.declared.option.Option.{Option}
use Rattle.std.specs.List.{All, AllPairs, flat_map, enumerate_from}
use Rattle.axioms.specs.Ontology.{Ontology, IsClassAt}
use Rattle.certificate.specs.Certificate.{Subject, Expression, Individual, Conclusion, Sub, Edge, Same, Line, Listed, Certificate, Format, One, Two}
use Rattle.certificate.specs.Text.{certificate_text}

-- what a subject names is there
abbrev pub IsSubjectOf : Ontology → Subject → Type 0
IsSubjectOf o (Expression e) = e < length o.nodes
IsSubjectOf o (Individual a) = a < length o.names.individuals

-- what a conclusion names is there
abbrev pub IsConclusionOf : Ontology → Conclusion → Type 0
IsConclusionOf o (Sub x c) = IsSubjectOf o x × (c < length o.nodes)
IsConclusionOf o (Edge x r y) = IsSubjectOf o x × (r < length o.names.properties) × IsSubjectOf o y
IsConclusionOf o (Same a b) = (a < length o.names.individuals) × (b < length o.names.individuals)

-- the number is that of an axiom, where there is one
abbrev pub IsAxiomNumberOf : Ontology → Option ℕ → Type 0
IsAxiomNumberOf o None = Unit {0}
IsAxiomNumberOf o (Some n) = (1 ≤ n) × (n ≤ length o.axioms)

-- the line names what the ontology has
pub record IsLineOf (o : Ontology) (line : Line) : Type 0 where
  pub conclusion : IsConclusionOf o line.conclusion
  pub axiom' : IsAxiomNumberOf o line.axiom'

-- each is below the next
abbrev pub Ascends : List ℕ → Type 0
Ascends [] = Unit {0}
Ascends (x ∷ []) = Unit {0}
Ascends (x ∷ y ∷ ys) = (x < y) × Ascends (y ∷ ys)

-- the expression of that number is a class
abbrev pub IsNamedClass : Ontology → ℕ → Type 0
IsNamedClass o e = (c : ℕ) × IsClassAt o c e

-- elements of the domain, at least one, ascending
pub record AreElements (domain : ℕ) (xs : List ℕ) : Type 0 where
  pub some : 0 < length xs
  pub within : All (λ x. x < domain) xs
  pub ascend : Ascends xs

-- p comes before q: by the property, and then by the source
abbrev pub IsPairBefore : ℕ × ℕ × List ℕ → ℕ × ℕ × List ℕ → Type 0
IsPairBefore p q = (p.0 < q.0) ⊎ ((p.0 ≡ q.0) × (p.1 < q.1))

-- the members name what is there, in the order of the text
pub record IsListedOf (o : Ontology) (l : Listed) : Type 0 where
  pub domain : 1 ≤ l.domain
  pub classes : All (λ c. IsNamedClass o c.0 × (2 ≤ c.0) × AreElements l.domain c.1) l.classes
  pub classes_ascend : Ascends (map (λ c. c.0) l.classes)
  pub pairs : All (λ p. (p.0 < length o.names.properties) × (p.1 < l.domain) × AreElements l.domain p.2) l.pairs
  pub pairs_ascend : AllPairs IsPairBefore l.pairs
  pub individuals : All (λ x. x < l.domain) l.individuals
  pub individuals_each : length l.individuals ≡ length o.names.individuals
  pub claims : All (λ c. IsNamedClass o c.0 × (c.1 < l.domain)) l.claims
  pub claims_ascend : Ascends (map (λ c. c.0) l.claims)

-- the numbers in a certificate, but for the premises, and the elements, which are below the domain
abbrev pub subject_number : Subject → ℕ
subject_number (Expression e) = e
subject_number (Individual a) = a

abbrev pub conclusion_numbers : Conclusion → List ℕ
conclusion_numbers (Sub x c) = subject_number x ∷ c ∷ []
conclusion_numbers (Edge x r y) = subject_number x ∷ r ∷ subject_number y ∷ []
conclusion_numbers (Same a b) = a ∷ b ∷ []

abbrev pub axiom_numbers : Option ℕ → List ℕ
axiom_numbers None = []
axiom_numbers (Some n) = n ∷ []

abbrev pub line_numbers : Line → List ℕ
line_numbers line = conclusion_numbers line.conclusion ++ axiom_numbers line.axiom'

abbrev pub listed_numbers : Option Listed → List ℕ
listed_numbers None = []
listed_numbers (Some l) =
    l.domain ∷ map (λ c. c.0) l.classes ++ map (λ p. p.0) l.pairs
    ++ map (λ a. a.0) (enumerate_from 0 l.individuals) ++ map (λ c. c.0) l.claims

abbrev pub certificate_numbers : Certificate → List ℕ
certificate_numbers c = flat_map line_numbers c.lines ++ listed_numbers c.listed

-- the premises of each line, counted from n on, are lines before it
abbrev pub AreEarlier : ℕ → List Line → Type 0
AreEarlier n [] = Unit {0}
AreEarlier n (line ∷ lines) = All (λ p. p < n) line.premises × AreEarlier (n + 1) lines

-- the format has numbers for the premises: distances only of earlier lines, and these are counted by 64 bits
abbrev pub HasNumbers : Format → List Line → Type 0
HasNumbers One lines = Unit {0}
HasNumbers Two lines = (length lines < 2 ^ 64) × AreEarlier 1 lines

-- the certificate can be written
pub record HasText (o : Ontology) (format : Format) (c : Certificate) : Type 0 where
  pub lines : All (IsLineOf o) c.lines
  pub listed : IfSome c.listed (IsListedOf o)
  -- numbers of lines have 64 bits, and all others 32
  pub premises : All (λ line. All (λ n. (1 ≤ n) × (n < 2 ^ 64)) line.premises) c.lines
  pub numbers : All (λ n. n < 2 ^ 32) (certificate_numbers c)
  pub written : HasNumbers format c.lines

-- the text is that of the certificate in the format
pub record IsTextOf (o : Ontology) (format : Format) (text : List ℕ) (c : Certificate) : Type 0 where
  pub has_text : HasText o format c
  pub spelled : text ≡ certificate_text format c

-- .. in some format
abbrev pub IsSomeTextOf : Ontology → List ℕ → Certificate → Type 0
IsSomeTextOf o text c = (format : Format) × IsTextOf o format text c
