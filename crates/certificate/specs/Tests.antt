-- Which certificates have a text, as tests of their parts. Each row of a listed interpretation is tested after the row before it.
use Rattle.std.specs.Prelude.{ℕ, ◌^◌, List, [], ◌∷◌, length, Option, Some, None, Bool, true, false, ◌&&◌, ◌||◌, nat_lt, nat_le, ◌==◌, option_map, slice_get}
use Rattle.std.specs.List.{list_all}
use Rattle.axioms.specs.Ontology.{Ontology, Node, Class, And, Exists}
use Rattle.certificate.specs.Certificate.{Subject, Expression, Individual, Conclusion, Sub, Edge, Same, Line, Listed, Certificate, Format, One, Two}

-- the number has 32 bits
abbrev pub is_small : ℕ → Bool
is_small n = nat_lt n (2 ^ 32)

abbrev pub fits_subject : Ontology → Subject → Bool
fits_subject o (Expression e) = nat_lt e (length o.nodes) && is_small e
fits_subject o (Individual a) = nat_lt a (length o.names.individuals) && is_small a

abbrev pub fits_property : Ontology → ℕ → Bool
fits_property o r = nat_lt r (length o.names.properties) && is_small r

abbrev pub fits_conclusion : Ontology → Conclusion → Bool
fits_conclusion o (Sub x c) = fits_subject o x && fits_subject o (Expression c)
fits_conclusion o (Edge x r y) = fits_subject o x && fits_property o r && fits_subject o y
fits_conclusion o (Same a b) = fits_subject o (Individual a) && fits_subject o (Individual b)

abbrev pub fits_axiom : Ontology → Option ℕ → Bool
fits_axiom o None = true
fits_axiom o (Some n) = nat_le 1 n && nat_le n (length o.axioms) && is_small n

-- the number of a line
abbrev pub is_premise : ℕ → Bool
is_premise n = nat_le 1 n && nat_lt n (2 ^ 64)

abbrev pub fits_line : Ontology → Line → Bool
fits_line o line = fits_conclusion o line.conclusion && fits_axiom o line.axiom' && list_all is_premise line.premises

-- the numbers of premises that line n is written with are read back: as distances they are below n, and 64 bits count the lines
abbrev pub are_back : Format → ℕ → List ℕ → Bool
are_back One n premises = true
are_back Two n premises = nat_lt n (2 ^ 64) && list_all (λ d. nat_lt d n) premises

-- line n, as it is written
abbrev pub fits_written : Ontology → Format → ℕ → Line → Bool
fits_written o format n line = fits_line o line && are_back format n line.premises

-- ---- the listed interpretation

abbrev pub is_after : Option ℕ → ℕ → Bool
is_after None x = true
is_after (Some y) x = nat_lt y x

-- below d, and ascending
abbrev pub ascend : ℕ → Option ℕ → List ℕ → Bool
ascend d last [] = true
ascend d last (x ∷ xs) = nat_lt x d && is_after last x && ascend d (Some x) xs

abbrev pub are_elements : ℕ → List ℕ → Bool
are_elements d xs = nat_lt 0 (length xs) && ascend d None xs

abbrev pub is_class : Option Node → Bool
is_class None = false
is_class (Some (Class c)) = true
is_class (Some (And ds)) = false
is_class (Some (Exists r c)) = false

abbrev pub is_named : Ontology → ℕ → Bool
is_named o e = is_class (slice_get o.nodes e) && is_small e

abbrev pub fits_class : Ontology → ℕ → Option ℕ → ℕ × List ℕ → Bool
fits_class o d last c = is_named o c.0 && nat_le 2 c.0 && is_after last c.0 && are_elements d c.1

-- by the property, and then by the source
abbrev pub is_pair_after : Option (ℕ × ℕ) → ℕ → ℕ → Bool
is_pair_after None r x = true
is_pair_after (Some q) r x = nat_lt q.0 r || (q.0 == r && nat_lt q.1 x)

abbrev pub fits_pairs : Ontology → ℕ → Option (ℕ × ℕ) → ℕ × ℕ × List ℕ → Bool
fits_pairs o d last p = fits_property o p.0 && nat_lt p.1 d && is_pair_after last p.0 p.1 && are_elements d p.2

abbrev pub fits_claim : Ontology → ℕ → Option ℕ → ℕ × ℕ → Bool
fits_claim o d last c = is_named o c.0 && nat_lt c.1 d && is_after last c.0

-- ---- whole lists

-- the number that stands first in the row before
abbrev pub key : {A : Type 0} → Option (ℕ × A) → Option ℕ
key last = option_map (λ p. p.0) last

-- the property and the source in the row before
abbrev pub pair_key : Option (ℕ × ℕ × List ℕ) → Option (ℕ × ℕ)
pair_key last = option_map (λ p. (p.0, p.1)) last

-- each passes the test behind what the one before it has of the kind
abbrev pub all_after : {A K : Type 0} → (A → K) → (Option K → A → Bool) → Option K → List A → Bool
all_after of test last [] = true
all_after of test last (x ∷ xs) = test last x && all_after of test (Some (of x)) xs

abbrev pub fit_classes : Ontology → ℕ → Option ℕ → List (ℕ × List ℕ) → Bool
fit_classes o d last cs = all_after (λ c. c.0) (fits_class o d) last cs

abbrev pub fit_pairs : Ontology → ℕ → Option (ℕ × ℕ) → List (ℕ × ℕ × List ℕ) → Bool
fit_pairs o d last ps = all_after (λ p. (p.0, p.1)) (fits_pairs o d) last ps

abbrev pub fit_claims : Ontology → ℕ → Option ℕ → List (ℕ × ℕ) → Bool
fit_claims o d last cs = all_after (λ c. c.0) (fits_claim o d) last cs

abbrev pub fits_domain : ℕ → Bool
fits_domain d = nat_le 1 d && is_small d

-- an element for each individual
abbrev pub fit_individuals : Ontology → ℕ → List ℕ → Bool
fit_individuals o d xs = length xs == length o.names.individuals && nat_le (length xs) (2 ^ 32) && list_all (λ x. nat_lt x d) xs

abbrev pub fits_listed : Ontology → Listed → Bool
fits_listed o l =
    fits_domain l.domain && fit_classes o l.domain None l.classes && fit_pairs o l.domain None l.pairs
    && fit_individuals o l.domain l.individuals && fit_claims o l.domain None l.claims

abbrev pub fits_option : Ontology → Option Listed → Bool
fits_option o None = true
fits_option o (Some l) = fits_listed o l

abbrev pub fits_certificate : Ontology → Certificate → Bool
fits_certificate o c = list_all (fits_line o) c.lines && fits_option o c.listed
