-- The laws of derivation lines, part by part.
use Rattle.std.proofs.Common.{◌≡◌, ℕ, zero, suc, ◌^◌, ◌<◌, List, [], ◌∷◌, ◌++◌, Option, Some, None, refl, sym, ap, subst, ◌∙◌, inl, inr, ◌⊎◌, arith, append_assoc, lit<}
use Rattle.std.specs.Prelude.{codes}
use Rattle.std.specs.Fmt.{decimal}
use Rattle.std.proofs.lemmas.Bool.{ltb-true, lt-ltb}
use Rattle.std.proofs.lemmas.Option.{none-some, same_Some}
use Rattle.certificate.specs.Certificate.{Subject, Expression, Individual, Conclusion, Sub, Edge, Same, Rule, K1, K2, K3, K4, K5, K6, K7, K8, K9, K10, K11, K12, K13, K14, K15, K16, K17, K18, K19, K20, Line}
use Rattle.certificate.specs.Text.{rule_number, lettered_number, spaced_numbers, subject_text, conclusion_text, axiom_text, line_text, line_feed}
use Rattle.certificate.specs.Tests.{is_small}
use Rattle.certificate.specs.Reading.{◌>>=◌, after, behind, both, number_at}
use Rattle.certificate.specs.LineReading.{small_at, subject_at, conclusion_at, numbered_rule, rule_at, no_axiom_at, axiom_at, premise_at, premises_at, line_from, line_at}
use Rattle.certificate.proofs.Words.{none_is, after_takes}
use Rattle.certificate.proofs.Decimals.{IsApart, number_takes, number_again}
use Rattle.certificate.proofs.Laws.{Reads, Anything, bind_some, restated, behind_reads, both_reads, such_reads, made_reads, ended_reads, by_word_else, by_word_reads}
use Rattle.certificate.proofs.Many.{Chain, ReadsEach, many_reads}

abbrev pub IsNumber : ℕ → Type 0
IsNumber n = n < 2 ^ 64

abbrev pub IsSmall : ℕ → Type 0
IsSmall n = n < 2 ^ 32

pub number_reads : Reads IsApart IsNumber decimal number_at
number_reads = record { takes = number_takes; again = number_again }

pub small_reads : Reads IsApart IsSmall decimal small_at
small_reads =
    restated IsApart IsApart _ IsSmall decimal decimal small_at (such_reads IsApart IsNumber decimal number_at is_small number_reads)
    (λ rest h. h) (λ n h. ltb-true n (2 ^ 32) h.1) (λ n h. (omega (arith, h), lt-ltb n (2 ^ 32) h)) (λ n. refl)

-- ---- subjects and conclusions

abbrev pub FitsSubject : Subject → Type 0
FitsSubject (Expression e) = e < 2 ^ 32
FitsSubject (Individual a) = a < 2 ^ 32

subject_valid : (x : Subject) → (((e : ℕ) × (Expression e ≡ x) × IsSmall e) ⊎ ((a : ℕ) × (Individual a ≡ x) × IsSmall a)) → FitsSubject x
subject_valid x (inl h) = subst FitsSubject h.1 h.2
subject_valid x (inr h) = subst FitsSubject h.1 h.2

subject_from : (x : Subject) → FitsSubject x → ((e : ℕ) × (Expression e ≡ x) × IsSmall e) ⊎ ((a : ℕ) × (Individual a ≡ x) × IsSmall a)
subject_from (Expression e) h = inl (e, refl, h)
subject_from (Individual a) h = inr (a, refl, h)

pub subject_reads : Reads IsApart FitsSubject subject_text subject_at
unfolding subject_at
subject_reads =
    restated IsApart IsApart _ FitsSubject subject_text subject_text subject_at
    (by_word_reads IsApart IsSmall IsSmall decimal (λ a. codes "i" ++ decimal a) subject_text small_at (behind (codes "i") small_at) (codes "e") Expression Individual
    small_reads (behind_reads IsApart IsSmall decimal small_at (codes "i") small_reads) (λ e. refl) (λ a. refl) (λ a rest v h. refl))
    (λ rest h. h) subject_valid subject_from (λ x. refl)

abbrev pub FitsConclusion : Conclusion → Type 0
FitsConclusion (Sub x c) = FitsSubject x × IsSmall c
FitsConclusion (Edge x r y) = FitsSubject x × (IsSmall r × FitsSubject y)
FitsConclusion (Same a b) = IsSmall a × IsSmall b

abbrev sub_from : Subject × ℕ → Conclusion
sub_from p = Sub p.0 p.1

abbrev edge_from : Subject × (ℕ × Subject) → Conclusion
edge_from p = Edge p.0 p.1.0 p.1.1

abbrev same_from : ℕ × ℕ → Conclusion
same_from p = Same p.0 p.1

abbrev IsSub : Conclusion → Type 0
IsSub c = (p : Subject × ℕ) × (sub_from p ≡ c) × (FitsSubject p.0 × IsSmall p.1)

abbrev IsEdge : Conclusion → Type 0
IsEdge c = (p : Subject × (ℕ × Subject)) × (edge_from p ≡ c) × (FitsSubject p.0 × (IsSmall p.1.0 × FitsSubject p.1.1))

abbrev IsSame : Conclusion → Type 0
IsSame c = (p : ℕ × ℕ) × (same_from p ≡ c) × (IsSmall p.0 × IsSmall p.1)

conclusion_valid : (c : Conclusion) → IsSub c ⊎ (IsSame c ⊎ IsEdge c) → FitsConclusion c
conclusion_valid c (inl h) = subst FitsConclusion h.1 h.2
conclusion_valid c (inr (inl h)) = subst FitsConclusion h.1 h.2
conclusion_valid c (inr (inr h)) = subst FitsConclusion h.1 h.2

conclusion_from : (c : Conclusion) → FitsConclusion c → IsSub c ⊎ (IsSame c ⊎ IsEdge c)
conclusion_from (Sub x c) h = inl ((x, c), refl, h)
conclusion_from (Edge x r y) h = inr (inr ((x, (r, y)), refl, h))
conclusion_from (Same a b) h = inr (inl ((a, b), refl, h))

class_reads : Reads IsApart IsSmall (λ c. codes " e" ++ decimal c) (behind (codes " e") small_at)
class_reads = behind_reads IsApart IsSmall decimal small_at (codes " e") small_reads

property_reads : Reads IsApart IsSmall (λ r. codes " p" ++ decimal r) (behind (codes " p") small_at)
property_reads = behind_reads IsApart IsSmall decimal small_at (codes " p") small_reads

target_reads : Reads IsApart FitsSubject (λ y. codes " " ++ subject_text y) (behind (codes " ") subject_at)
target_reads = behind_reads IsApart FitsSubject subject_text subject_at (codes " ") subject_reads

sub_reads : Reads IsApart (λ p. FitsSubject p.0 × IsSmall p.1) (λ p. subject_text p.0 ++ (codes " e" ++ decimal p.1)) (both subject_at (behind (codes " e") small_at))
sub_reads = both_reads IsApart IsApart FitsSubject IsSmall subject_text (λ c. codes " e" ++ decimal c) subject_at (behind (codes " e") small_at) subject_reads class_reads (λ c rest v h. refl)

edge_reads : Reads IsApart (λ p. FitsSubject p.0 × (IsSmall p.1.0 × FitsSubject p.1.1)) (λ p. codes "edge " ++ (subject_text p.0 ++ ((codes " p" ++ decimal p.1.0) ++ (codes " " ++ subject_text p.1.1))))
    (behind (codes "edge ") (both subject_at (both (behind (codes " p") small_at) (behind (codes " ") subject_at))))
edge_reads =
    let targets = both_reads IsApart IsApart IsSmall FitsSubject (λ r. codes " p" ++ decimal r) (λ y. codes " " ++ subject_text y) (behind (codes " p") small_at) (behind (codes " ") subject_at) property_reads target_reads (λ y rest v h. refl) in
    behind_reads IsApart _ _ _ (codes "edge ")
    (both_reads IsApart IsApart FitsSubject _ subject_text _ subject_at _ subject_reads targets (λ p rest v h. refl))

same_reads : Reads IsApart (λ p. IsSmall p.0 × IsSmall p.1) (λ p. decimal p.0 ++ (codes " i" ++ decimal p.1)) (both small_at (behind (codes " i") small_at))
same_reads =
    both_reads IsApart IsApart IsSmall IsSmall decimal (λ b. codes " i" ++ decimal b) small_at (behind (codes " i") small_at) small_reads
    (behind_reads IsApart IsSmall decimal small_at (codes " i") small_reads) (λ b rest v h. refl)

-- a line of two individuals that are one, or of an edge, does not begin as one of a subject in a class
no_sub : (c : Conclusion) (rest : List ℕ) → IsSame c ⊎ IsEdge c → after (codes "sub ") (conclusion_text c ++ rest) ≡ None
no_sub c rest (inl h) = subst (λ d. after (codes "sub ") (conclusion_text d ++ rest) ≡ None) h.1 refl
no_sub c rest (inr h) = subst (λ d. after (codes "sub ") (conclusion_text d ++ rest) ≡ None) h.1 refl

pub conclusion_reads : Reads IsApart FitsConclusion conclusion_text conclusion_at
unfolding conclusion_at
conclusion_reads =
    let others =
    by_word_reads IsApart _ _ _ _ conclusion_text _ _ (codes "same i") same_from edge_from same_reads edge_reads (λ p. refl) (λ p. simp append_assoc) (λ p rest v h. refl) in
    restated IsApart IsApart _ FitsConclusion conclusion_text conclusion_text conclusion_at
    (by_word_else IsApart _ _ _ conclusion_text _ _ (codes "sub ") sub_from sub_reads others (λ p. refl) (λ c rest v h. no_sub c rest v))
    (λ rest h. h) conclusion_valid conclusion_from (λ x. refl)

-- ---- rules

rule_is : (n : ℕ) (rule : Rule) → numbered_rule n ≡ Some rule → n ≡ rule_number rule
unfolding numbered_rule
rule_is zero rule e = absurd (none-some rule e)
rule_is (suc zero) rule e = ap rule_number (same_Some _ _ e)
rule_is (suc (suc zero)) rule e = ap rule_number (same_Some _ _ e)
rule_is (suc (suc (suc zero))) rule e = ap rule_number (same_Some _ _ e)
rule_is (suc (suc (suc (suc zero)))) rule e = ap rule_number (same_Some _ _ e)
rule_is (suc (suc (suc (suc (suc zero))))) rule e = ap rule_number (same_Some _ _ e)
rule_is (suc (suc (suc (suc (suc (suc zero)))))) rule e = ap rule_number (same_Some _ _ e)
rule_is (suc (suc (suc (suc (suc (suc (suc zero))))))) rule e = ap rule_number (same_Some _ _ e)
rule_is (suc (suc (suc (suc (suc (suc (suc (suc zero)))))))) rule e = ap rule_number (same_Some _ _ e)
rule_is (suc (suc (suc (suc (suc (suc (suc (suc (suc zero))))))))) rule e = ap rule_number (same_Some _ _ e)
rule_is (suc (suc (suc (suc (suc (suc (suc (suc (suc (suc zero)))))))))) rule e = ap rule_number (same_Some _ _ e)
rule_is (suc (suc (suc (suc (suc (suc (suc (suc (suc (suc (suc zero))))))))))) rule e = ap rule_number (same_Some _ _ e)
rule_is (suc (suc (suc (suc (suc (suc (suc (suc (suc (suc (suc (suc zero)))))))))))) rule e = ap rule_number (same_Some _ _ e)
rule_is (suc (suc (suc (suc (suc (suc (suc (suc (suc (suc (suc (suc (suc zero))))))))))))) rule e = ap rule_number (same_Some _ _ e)
rule_is (suc (suc (suc (suc (suc (suc (suc (suc (suc (suc (suc (suc (suc (suc zero)))))))))))))) rule e = ap rule_number (same_Some _ _ e)
rule_is (suc (suc (suc (suc (suc (suc (suc (suc (suc (suc (suc (suc (suc (suc (suc zero))))))))))))))) rule e = ap rule_number (same_Some _ _ e)
rule_is (suc (suc (suc (suc (suc (suc (suc (suc (suc (suc (suc (suc (suc (suc (suc (suc zero)))))))))))))))) rule e = ap rule_number (same_Some _ _ e)
rule_is (suc (suc (suc (suc (suc (suc (suc (suc (suc (suc (suc (suc (suc (suc (suc (suc (suc zero))))))))))))))))) rule e = ap rule_number (same_Some _ _ e)
rule_is (suc (suc (suc (suc (suc (suc (suc (suc (suc (suc (suc (suc (suc (suc (suc (suc (suc (suc zero)))))))))))))))))) rule e = ap rule_number (same_Some _ _ e)
rule_is (suc (suc (suc (suc (suc (suc (suc (suc (suc (suc (suc (suc (suc (suc (suc (suc (suc (suc (suc zero))))))))))))))))))) rule e = ap rule_number (same_Some _ _ e)
rule_is (suc (suc (suc (suc (suc (suc (suc (suc (suc (suc (suc (suc (suc (suc (suc (suc (suc (suc (suc (suc zero)))))))))))))))))))) rule e = ap rule_number (same_Some _ _ e)
rule_is (suc (suc (suc (suc (suc (suc (suc (suc (suc (suc (suc (suc (suc (suc (suc (suc (suc (suc (suc (suc (suc n))))))))))))))))))))) rule e = absurd (none-some rule e)

rule_again : (rule : Rule) → numbered_rule (rule_number rule) ≡ Some rule
unfolding numbered_rule
rule_again K1 = refl
rule_again K2 = refl
rule_again K3 = refl
rule_again K4 = refl
rule_again K5 = refl
rule_again K6 = refl
rule_again K7 = refl
rule_again K8 = refl
rule_again K9 = refl
rule_again K10 = refl
rule_again K11 = refl
rule_again K12 = refl
rule_again K13 = refl
rule_again K14 = refl
rule_again K15 = refl
rule_again K16 = refl
rule_again K17 = refl
rule_again K18 = refl
rule_again K19 = refl
rule_again K20 = refl

rule_small : (rule : Rule) → rule_number rule < 2 ^ 64
rule_small K1 = lit< tt
rule_small K2 = lit< tt
rule_small K3 = lit< tt
rule_small K4 = lit< tt
rule_small K5 = lit< tt
rule_small K6 = lit< tt
rule_small K7 = lit< tt
rule_small K8 = lit< tt
rule_small K9 = lit< tt
rule_small K10 = lit< tt
rule_small K11 = lit< tt
rule_small K12 = lit< tt
rule_small K13 = lit< tt
rule_small K14 = lit< tt
rule_small K15 = lit< tt
rule_small K16 = lit< tt
rule_small K17 = lit< tt
rule_small K18 = lit< tt
rule_small K19 = lit< tt
rule_small K20 = lit< tt

rule_word_reads : Reads IsApart IsNumber (λ n. codes " K" ++ decimal n) (behind (codes " K") number_at)
rule_word_reads = behind_reads IsApart IsNumber decimal number_at (codes " K") number_reads

abbrev pub AnyRule : Rule → Type 0
AnyRule rule = Unit {0}

pub rule_reads : Reads IsApart AnyRule (λ rule. lettered_number (codes " K") (rule_number rule)) rule_at
unfolding rule_at
rule_reads = record {
  takes = λ bytes rule rest e.
      let a = bind_some (behind (codes " K") number_at bytes) (λ n. numbered_rule n.0 >>= λ rule. Some (rule, n.1)) (rule, rest) e in
      let b = bind_some (numbered_rule a.0.0) (λ rule. Some (rule, a.0.1)) (rule, rest) a.2 in
      let made : Rule × List ℕ = (b.0, a.0.1) in
      let e' : made ≡ (rule, rest) = same_Some _ _ b.2 in
      let parts = (rule_word_reads.takes bytes a.0.0 a.0.1 a.1).0 in
      subst (λ (m : Rule × List ℕ). (bytes ≡ lettered_number (codes " K") (rule_number m.0) ++ m.1) × Unit {0}) e'
      (parts ∙ ap (λ n. lettered_number (codes " K") n ++ a.0.1) (rule_is a.0.0 b.0 b.1), tt);
  again = λ rule rest v h.
      ap (λ o. o >>= λ n. numbered_rule n.0 >>= λ rule. Some (rule, n.1)) (rule_word_reads.again (rule_number rule) rest (rule_small rule) h)
      ∙ ap (λ o. o >>= λ rule. Some (rule, rest)) (rule_again rule);
}

-- ---- axioms and premises

abbrev pub FitsAxiom : Option ℕ → Type 0
FitsAxiom None = Unit {0}
FitsAxiom (Some n) = n < 2 ^ 32

-- the bytes go on with no digit and with no axiom
abbrev pub NoAxiom : List ℕ → Type 0
NoAxiom rest = IsApart rest × (after (codes " a") rest ≡ None)

abbrev none_of : Unit {0} → Option ℕ
none_of u = None

abbrev some_of : ℕ → Option ℕ
some_of n = Some n

no_axiom_reads : Reads NoAxiom (λ u. Unit {0}) (λ u. []) no_axiom_at
no_axiom_reads = record {
  takes = λ bytes u rest e. (ap (λ (p : Unit {0} × List ℕ). p.1) (same_Some _ _ e), tt);
  again = λ u rest v h. refl;
}

axiom_valid : (a : Option ℕ) → (((n : ℕ) × (some_of n ≡ a) × IsSmall n) ⊎ ((u : Unit {0}) × (none_of u ≡ a) × Unit {0})) → FitsAxiom a
axiom_valid a (inl h) = subst FitsAxiom h.1 h.2
axiom_valid a (inr h) = subst FitsAxiom h.1 tt

axiom_from : (a : Option ℕ) → FitsAxiom a → ((n : ℕ) × (some_of n ≡ a) × IsSmall n) ⊎ ((u : Unit {0}) × (none_of u ≡ a) × Unit {0})
axiom_from None h = inr (tt, refl, tt)
axiom_from (Some n) h = inl (n, refl, h)

axiom_number_reads : Reads NoAxiom IsSmall decimal small_at
axiom_number_reads = restated IsApart NoAxiom IsSmall IsSmall decimal decimal small_at small_reads (λ rest h. h.0) (λ n h. h) (λ n h. h) (λ n. refl)

pub axiom_reads : Reads NoAxiom FitsAxiom axiom_text axiom_at
unfolding axiom_at
axiom_reads =
    restated NoAxiom NoAxiom _ FitsAxiom axiom_text axiom_text axiom_at
    (by_word_reads NoAxiom IsSmall (λ u. Unit {0}) decimal (λ u. []) axiom_text small_at no_axiom_at (codes " a") some_of none_of axiom_number_reads no_axiom_reads (λ n. refl) (λ u. refl) (λ u rest v h. h.1))
    (λ rest h. h) axiom_valid axiom_from (λ x. refl)

abbrev pub EndsLine : List ℕ → Type 0
EndsLine rest = (others : List ℕ) × (rest ≡ 10 ∷ others)

abbrev pub premise_text : ℕ → List ℕ
premise_text n = codes " " ++ decimal n

no_premise : (others : List ℕ) → premise_at (10 ∷ others) ≡ None
unfolding premise_at
no_premise others = refl

premise_reads : Reads IsApart IsNumber premise_text premise_at
unfolding premise_at
premise_reads = behind_reads IsApart IsNumber decimal number_at (codes " ") number_reads

pub each_premise_reads : ReadsEach IsApart EndsLine (λ last. IsNumber) premise_text (λ last. premise_at)
each_premise_reads = record {
  each = λ last. premise_reads;
  ends = λ last rest h. ap premise_at h.1 ∙ no_premise h.0;
  end_follows = λ rest h. subst IsApart (sym h.1) refl;
  next_follows = λ last n rest v. refl;
  some = λ last n v. omega arith;
}

pub premises_reads : Reads EndsLine (Chain (λ last. IsNumber) None) spaced_numbers premises_at
unfolding premises_at
premises_reads = many_reads IsApart EndsLine (λ last. IsNumber) premise_text (λ last. premise_at) each_premise_reads

-- ---- lines

abbrev pub FitsPremises : List ℕ → Type 0
FitsPremises ns = Chain (λ (last : Option ℕ). IsNumber) None ns

-- the numbers fit the types of the code
pub record FitsLine (line : Line) : Type 0 where
  pub conclusion : FitsConclusion line.conclusion
  pub axiom' : FitsAxiom line.axiom'
  pub premises : FitsPremises line.premises

not_letter : (n : ℕ) (rest : List ℕ) → IsNumber n → IsApart rest → after (codes "a") (decimal n ++ rest) ≡ None
unfolding number_at
not_letter n rest v h =
    none_is (after (codes "a") (decimal n ++ rest)) (λ others e.
    none-some (n, rest) (ap number_at (sym (after_takes (codes "a") (decimal n ++ rest) others e)) ∙ number_again n rest v h))

pub premises_follow_apart : (ns rest : List ℕ) → EndsLine rest → IsApart (spaced_numbers ns ++ rest)
premises_follow_apart [] rest h = subst IsApart (sym h.1) refl
premises_follow_apart (n ∷ ns) rest h = refl

pub premises_follow : (last : Option ℕ) (ns rest : List ℕ) → Chain (λ (last : Option ℕ). IsNumber) last ns → EndsLine rest → after (codes " a") (spaced_numbers ns ++ rest) ≡ None
premises_follow last [] rest v h = ap (after (codes " a")) h.1
premises_follow last (n ∷ ns) rest v h =
    ap (λ (s : List ℕ). after (codes "a") s) (append_assoc (decimal n) (spaced_numbers ns) rest) ∙ not_letter n (spaced_numbers ns ++ rest) v.0 (premises_follow_apart ns rest h)

pub axiom_follows : (a : Option ℕ) (s : List ℕ) → IsApart s → IsApart (axiom_text a ++ s)
axiom_follows None s h = h
axiom_follows (Some n) s h = refl

abbrev pub line_front : Line → List ℕ
line_front line = conclusion_text line.conclusion ++ lettered_number (codes " K") (rule_number line.rule) ++ axiom_text line.axiom' ++ spaced_numbers line.premises

tail_reads : Reads EndsLine (λ p. FitsAxiom p.0 × FitsPremises p.1) (λ p. axiom_text p.0 ++ spaced_numbers p.1) (both axiom_at premises_at)
tail_reads = both_reads NoAxiom EndsLine FitsAxiom FitsPremises axiom_text spaced_numbers axiom_at premises_at axiom_reads premises_reads
    (λ ns rest v h. (premises_follow_apart ns rest h, premises_follow None ns rest v h))

abbrev Parts : Type 0
Parts = Conclusion × (Rule × (Option ℕ × List ℕ))

abbrev FitParts : Parts → Type 0
FitParts p = FitsConclusion p.0 × (AnyRule p.1.0 × (FitsAxiom p.1.1.0 × FitsPremises p.1.1.1))

abbrev parts_text : Parts → List ℕ
parts_text p = conclusion_text p.0 ++ (lettered_number (codes " K") (rule_number p.1.0) ++ (axiom_text p.1.1.0 ++ spaced_numbers p.1.1.1))

parts_reads : Reads EndsLine FitParts parts_text (both conclusion_at (both rule_at (both axiom_at premises_at)))
parts_reads =
    both_reads IsApart EndsLine FitsConclusion _ conclusion_text _ conclusion_at _ conclusion_reads
    (both_reads IsApart EndsLine AnyRule _ (λ rule. lettered_number (codes " K") (rule_number rule)) _ rule_at _ rule_reads tail_reads
    (λ p rest v h. subst IsApart (sym (append_assoc (axiom_text p.0) (spaced_numbers p.1) rest)) (axiom_follows p.0 (spaced_numbers p.1 ++ rest) (premises_follow_apart p.1 rest h))))
    (λ p rest v h. refl)

line_valid : (line : Line) → ((p : Parts) × (line_from p ≡ line) × FitParts p) → FitsLine line
line_valid line h = subst FitsLine h.1 (record { conclusion = h.2.0; axiom' = h.2.1.1.0; premises = h.2.1.1.1 })

line_from_valid : (line : Line) → FitsLine line → (p : Parts) × (line_from p ≡ line) × FitParts p
line_from_valid line h = ((line.conclusion, (line.rule, (line.axiom', line.premises))), refl, (h.conclusion, (tt, (h.axiom', h.premises))))

pub line_reads : Reads Anything FitsLine line_text line_at
unfolding line_at
line_reads =
    let parts = made_reads EndsLine FitParts parts_text line_front _ line_from parts_reads (λ p v. simp append_assoc) in
    restated Anything Anything _ FitsLine _ line_text line_at
    (ended_reads EndsLine _ line_front _ line_feed parts (λ rest. (rest, refl)))
    (λ rest h. h) line_valid line_from_valid (λ line. refl)
