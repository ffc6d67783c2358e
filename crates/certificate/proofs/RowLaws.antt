-- The laws of the rows of a listed interpretation.
use Rattle.std.proofs.Common.{◌≡◌, ℕ, if◌then◌else◌, ◌+◌, ◌^◌, ◌<◌, ◌≤◌, Bool, true, false, cond, eqb, ltb, ◌&&◌, List, [], ◌∷◌, ◌++◌, length, Option, Some, None, refl, sym, ap, subst, ◌∙◌, inl, inr, arith, append_assoc}
use Rattle.std.specs.Prelude.{codes}
use Rattle.std.specs.Fmt.{decimal}
use Rattle.std.specs.List.{flat_map, enumerate_from, AllByRecursion}
use Rattle.std.proofs.lemmas.Bool.{cases_eq, ltb-true, lt-ltb, eqb-true, eq-eqb, ne_eqb, and_parts, and_from, false≢true}
use Rattle.std.proofs.lemmas.List.{append-nil}
use Rattle.std.proofs.lemmas.List.Elements.{recursion_from_All}
use Rattle.std.proofs.lemmas.Option.{same_Some}
use Rattle.lemmas.proofs.Choices.{passed}
use Rattle.axioms.specs.Ontology.{Ontology}
use Rattle.certificate.specs.Certificate.{Format, One, Two}
use Rattle.certificate.specs.Runs.{Run, runs_of, numbers_of, AreApart}
use Rattle.certificate.specs.Text.{lettered_number, spaced_numbers, run_text, elements_text, class_text, pairs_text, individual_text, claim_text, line_feed}
use Rattle.certificate.specs.Reading.{◌>>=◌, after, behind, both, ended, many}
use Rattle.certificate.specs.LineReading.{small_at}
use Rattle.certificate.specs.Tests.{fits_class, fits_pairs, fits_claim, key, pair_key}
use Rattle.certificate.specs.Writability.{AreElements}
use Rattle.certificate.specs.ListedReading.{in_turn, element_at, end_at, run_at, fits_run, next_run_at, runs_at, elements_at, class_row_at, pair_row_from, pair_row_at, individual_at, claim_row_at}
use Rattle.certificate.proofs.Words.{after_takes}
use Rattle.certificate.proofs.Decimals.{IsApart}
use Rattle.certificate.proofs.Laws.{Reads, Anything, bind_some, restated, behind_reads, both_reads, such_reads, made_reads, ended_reads}
use Rattle.certificate.proofs.Many.{Chain, ReadsEach, many_reads}
use Rattle.certificate.proofs.Derivations.{IsSmall, small_reads, EndsLine, premise_text}
use Rattle.certificate.proofs.Runs.{runs_are_apart, lists_are_runs, runs_are_lists, runs_below}

no_element : (others : List ℕ) → element_at (10 ∷ others) ≡ None
unfolding element_at
no_element others = refl

element_reads : Reads IsApart IsSmall premise_text element_at
unfolding element_at
element_reads = behind_reads IsApart IsSmall decimal small_at (codes " ") small_reads

pub each_element_reads : ReadsEach IsApart EndsLine (λ last. IsSmall) premise_text (λ last. element_at)
each_element_reads = record {
  each = λ last. element_reads;
  ends = λ last rest h. ap element_at h.1 ∙ no_element h.0;
  end_follows = λ rest h. subst IsApart (sym h.1) refl;
  next_follows = λ last n rest v. refl;
  some = λ last n v. omega arith;
}

abbrev pub AreSmall : List ℕ → Type 0
AreSmall xs = Chain (λ (last : Option ℕ). IsSmall) None xs

singles_reads : Reads EndsLine AreSmall spaced_numbers (many (λ _. element_at))
singles_reads = many_reads IsApart EndsLine (λ last. IsSmall) premise_text (λ last. element_at) each_element_reads

-- ---- runs

-- the bytes go on with no digit and with no end of a run
abbrev pub EndsRun : List ℕ → Type 0
EndsRun rest = IsApart rest × (after (codes "-") rest ≡ None)

-- the end is behind a sign, or there is none
abbrev end_text : ℕ → ℕ → List ℕ
end_text x y = cond (eqb x y) [] (codes "-" ++ decimal y)

abbrev IsEndOf : ℕ → ℕ → Type 0
IsEndOf x y = IsSmall y × (x ≤ y)

-- the end, where it is known whether a sign comes
abbrev end_behind : ℕ → List ℕ → Option (List ℕ) → Option (ℕ × List ℕ)
end_behind x bytes None = Some (x, bytes)
end_behind x bytes (Some others) = small_at others >>= λ z. cond (ltb x z.0) (Some z) None

end_is : (x : ℕ) (bytes : List ℕ) (behind : Option (List ℕ)) → elim behind [ None ↦ Some (x, bytes) | Some rest ↦ (small_at rest >>= λ z. if ltb x z.0 then Some z else None) ] ≡ end_behind x bytes behind
end_is x bytes None = refl
end_is x bytes (Some others) = refl

end_takes : (x : ℕ) (bytes : List ℕ) (y : ℕ) (rest : List ℕ) (behind : Option (List ℕ)) → IsSmall x → after (codes "-") bytes ≡ behind
    → end_behind x bytes behind ≡ Some (y, rest) → (bytes ≡ end_text x y ++ rest) × IsEndOf x y
end_takes x bytes y rest None small is e =
    let same : ◌≡◌ {A = ℕ × List ℕ} (x, bytes) (y, rest) = same_Some _ _ e in
    subst (λ (m : ℕ × List ℕ). (bytes ≡ end_text x m.0 ++ m.1) × IsEndOf x m.0) same (rw (eq-eqb x x refl) refl, (small, omega arith))
end_takes x bytes y rest (Some others) small is e =
    let a = bind_some (small_at others) (λ z. cond (ltb x z.0) (Some z) None) (y, rest) e in
    let p = passed (ltb x a.0.0) (Some a.0) (y, rest) a.2 in
    let b = small_reads.takes others a.0.0 a.0.1 a.1 in
    let above : x < a.0.0 = ltb-true x a.0.0 p.0 in
    let apart : eqb x a.0.0 ≡ false = ne_eqb x a.0.0 (λ e. omega arith) in
    subst (λ (m : ℕ × List ℕ). (bytes ≡ end_text x m.0 ++ m.1) × IsEndOf x m.0) (same_Some _ _ p.1)
    (after_takes (codes "-") bytes others is ∙ ap (λ (s : List ℕ). codes "-" ++ s) b.0 ∙ rw apart refl, (b.1, omega arith))

end_again : (x y : ℕ) (rest : List ℕ) (one : Bool) → eqb x y ≡ one → IsEndOf x y → EndsRun rest → end_at x (cond one [] (codes "-" ++ decimal y) ++ rest) ≡ Some (y, rest)
unfolding end_at
end_again x y rest true e v h =
    let same : x ≡ y = eqb-true x y e in
    rw (h.1) (ap (λ z. Some (z, rest)) same)
end_again x y rest false e v h =
    let above : x < y = below x y e v.1 in
    ap (λ read. read >>= λ z. cond (ltb x z.0) (Some z) None) (small_reads.again y rest v.0 h.0) ∙ ap (λ b. cond b (Some (y, rest)) None) (lt-ltb x y above)
  where
    below : (x y : ℕ) → eqb x y ≡ false → x ≤ y → x < y
    below x y e l = elim (cases_eq x y) [ inl s ↦ absurd (false≢true (sym e ∙ eq-eqb x y s)) | inr d ↦ omega (arith, d) ]

end_reads : (x : ℕ) → IsSmall x → Reads EndsRun (IsEndOf x) (end_text x) (end_at x)
unfolding end_at
end_reads x small = record {
  takes = λ bytes y rest e. end_takes x bytes y rest (after (codes "-") bytes) small refl (sym (end_is x bytes (after (codes "-") bytes)) ∙ e);
  again = λ y rest v h. end_again x y rest (eqb x y) refl v h;
}

abbrev run_parts : ℕ × ℕ → Run
run_parts p = record { first = p.0; last = p.1 }

abbrev pub IsRun : Run → Type 0
IsRun run = IsSmall run.first × IsEndOf run.first run.last

run_valid : (run : Run) → ((p : ℕ × ℕ) × (run_parts p ≡ run) × (IsSmall p.0 × IsEndOf p.0 p.1)) → IsRun run
run_valid run h = subst IsRun h.1 h.2

run_from_valid : (run : Run) → IsRun run → (p : ℕ × ℕ) × (run_parts p ≡ run) × (IsSmall p.0 × IsEndOf p.0 p.1)
run_from_valid run h = ((run.first, run.last), refl, h)

run_spelled : (x y : ℕ) (one : Bool) → (codes " " ++ decimal x) ++ cond one [] (codes "-" ++ decimal y) ≡ codes " " ++ cond one (decimal x) (decimal x ++ codes "-" ++ decimal y)
run_spelled x y true = append-nil (codes " " ++ decimal x)
run_spelled x y false = sym (append_assoc (codes " " ++ decimal x) (codes "-") (decimal y))

end_follows_run : (x y : ℕ) (rest : List ℕ) (one : Bool) → EndsRun rest → IsApart (cond one [] (codes "-" ++ decimal y) ++ rest)
end_follows_run x y rest true h = h.0
end_follows_run x y rest false h = refl

-- the end as it is written depends on the start, so it is read with it
run_parts_read : Reads EndsRun (λ (p : ℕ × ℕ). IsSmall p.0 × IsEndOf p.0 p.1) (λ p. premise_text p.0 ++ end_text p.0 p.1) (in_turn element_at end_at)
run_parts_read = record {
  takes = λ bytes p rest e.
      let a = bind_some (element_at bytes) (λ x. end_at x.0 x.1 >>= λ y. Some ((x.0, y.0), y.1)) (p, rest) e in
      let b = bind_some (end_at a.0.0 a.0.1) (λ y. Some ((a.0.0, y.0), y.1)) (p, rest) a.2 in
      let first = element_reads.takes bytes a.0.0 a.0.1 a.1 in
      let second = (end_reads a.0.0 first.1).takes a.0.1 b.0.0 b.0.1 b.1 in
      let made : (ℕ × ℕ) × List ℕ = ((a.0.0, b.0.0), b.0.1) in
      let e' : made ≡ (p, rest) = same_Some _ _ b.2 in
      subst (λ (m : (ℕ × ℕ) × List ℕ). (bytes ≡ (premise_text m.0.0 ++ end_text m.0.0 m.0.1) ++ m.1) × (IsSmall m.0.0 × IsEndOf m.0.0 m.0.1)) e'
      (first.0 ∙ ap (λ (s : List ℕ). premise_text a.0.0 ++ s) second.0 ∙ sym (append_assoc (premise_text a.0.0) (end_text a.0.0 b.0.0) b.0.1), (first.1, second.1));
  again = λ p rest v h.
      ap (in_turn element_at end_at) (append_assoc (premise_text p.0) (end_text p.0 p.1) rest)
      ∙ ap (λ o. o >>= λ x. end_at x.0 x.1 >>= λ y. Some ((x.0, y.0), y.1)) (element_reads.again p.0 (end_text p.0 p.1 ++ rest) v.0 (end_follows_run p.0 p.1 rest (eqb p.0 p.1) h))
      ∙ ap (λ o. o >>= λ y. Some ((p.0, y.0), y.1)) ((end_reads p.0 v.0).again p.1 rest v.1 h);
}

run_reads : Reads EndsRun IsRun run_text run_at
unfolding run_at
run_reads =
    let parts = run_parts_read in
    restated EndsRun EndsRun _ IsRun _ run_text run_at
    (made_reads EndsRun (λ (p : ℕ × ℕ). IsSmall p.0 × IsEndOf p.0 p.1) _ run_text _ run_parts parts (λ p v. run_spelled p.0 p.1 (eqb p.0 p.1)))
    (λ rest h. h) run_valid run_from_valid (λ run. refl)

no_run : (others : List ℕ) → run_at (10 ∷ others) ≡ None
unfolding run_at
no_run others = rw (no_element others) refl

abbrev pub IsRunAfter : ℕ → Option Run → Run → Type 0
IsRunAfter d last run = IsRun run × (fits_run d last run ≡ true)

run_is_some : (run : Run) → 0 < length (run_text run)
run_is_some run = omega arith

run_follows : (run : Run) (rest : List ℕ) → EndsRun (run_text run ++ rest)
run_follows run rest = (refl, refl)

pub each_run_reads : (d : ℕ) → ReadsEach EndsRun EndsLine (IsRunAfter d) run_text (next_run_at d)
each_run_reads d = record {
  each = λ last. such_reads EndsRun IsRun run_text run_at (fits_run d last) run_reads;
  ends = λ last rest h. ap (λ (s : List ℕ). next_run_at d last s) h.1 ∙ ap (λ read. read >>= λ x. cond (fits_run d last x.0) (Some x) None) (no_run h.0);
  end_follows = λ rest h. subst EndsRun (sym h.1) (refl, refl);
  next_follows = λ last run rest v. run_follows run rest;
  some = λ last run v. run_is_some run;
}

pub runs_reads : (d : ℕ) → Reads EndsLine (Chain (IsRunAfter d) None) (flat_map run_text) (runs_at d)
unfolding runs_at
runs_reads d = many_reads EndsRun EndsLine (IsRunAfter d) run_text (next_run_at d) (each_run_reads d)

apart_after : (d : ℕ) (last : Option Run) (runs : List Run) → Chain (IsRunAfter d) last runs → AreApart runs
apart_after d last [] c = tt
apart_after d last (run ∷ []) c = c.0.0.1.1
apart_after d last (run ∷ next ∷ runs) c =
    let p = and_parts (ltb next.last d) (ltb (run.last + 1) next.first) c.1.0.1 in
    let past : run.last + 1 < next.first = ltb-true (run.last + 1) next.first p.1 in
    (c.0.0.1.1, omega arith, apart_after d (Some run) (next ∷ runs) c.1)

-- ---- elements

-- these are read as elements
abbrev pub AreRead : Format → ℕ → List ℕ → Type 0
AreRead One d xs = AreSmall xs
AreRead Two d xs = (runs : List Run) × (numbers_of runs ≡ xs) × Chain (IsRunAfter d) None runs

pub elements_reads : (format : Format) (d : ℕ) → Reads EndsLine (AreRead format d) (elements_text format) (elements_at format d)
unfolding elements_at
elements_reads One d = singles_reads
elements_reads Two d =
    made_reads EndsLine (Chain (IsRunAfter d) None) (flat_map run_text) (elements_text Two) (runs_at d) numbers_of (runs_reads d)
    (λ runs c. ap (flat_map run_text) (sym (runs_are_lists runs (apart_after d None runs c))))

elements_apart : (format : Format) (xs rest : List ℕ) → EndsLine rest → IsApart (elements_text format xs ++ rest)
elements_apart One [] rest h = subst IsApart (sym h.1) refl
elements_apart One (x ∷ xs) rest h = refl
elements_apart Two xs rest h = go (runs_of xs)
  where
    go : (runs : List Run) → IsApart (flat_map run_text runs ++ rest)
    go [] = subst IsApart (sym h.1) refl
    go (run ∷ runs) = refl

-- ascending elements below a small number are read
pub small_chain : (d : ℕ) (last : Option ℕ) (xs : List ℕ) → d ≤ 2 ^ 32 → AllByRecursion (λ x. x < d) xs → Chain (λ (last : Option ℕ). IsSmall) last xs
small_chain d last [] small a = tt
small_chain d last (x ∷ xs) small a = (omega (arith, a.0), small_chain d (Some x) xs small a.1)

abbrev EndsBefore : Option Run → List Run → Type 0
EndsBefore None runs = Unit {0}
EndsBefore (Some before) [] = Unit {0}
EndsBefore (Some before) (run ∷ runs) = before.last + 2 ≤ run.first

one_run : (d : ℕ) (last : Option Run) (run : Run) (runs : List Run) → d ≤ 2 ^ 32 → run.first ≤ run.last → run.last < d → EndsBefore last (run ∷ runs) → IsRunAfter d last run
one_run d None run runs small l below h = ((omega arith, (omega arith, l)), lt-ltb run.last d below)
one_run d (Some before) run runs small l below h =
    ((omega arith, (omega arith, l)), and_from (ltb run.last d) (ltb (before.last + 1) run.first) (lt-ltb run.last d below) (lt-ltb (before.last + 1) run.first (omega arith)))

runs_chain : (d : ℕ) (last : Option Run) (runs : List Run) → d ≤ 2 ^ 32 → AreApart runs → EndsBefore last runs → AllByRecursion (λ run. run.last < d) runs → Chain (IsRunAfter d) last runs
runs_chain d last [] small h k a = tt
runs_chain d last (run ∷ []) small h k a = (one_run d last run [] small h a.0 k, tt)
runs_chain d last (run ∷ next ∷ runs) small h k a = (one_run d last run (next ∷ runs) small h.0 a.0 k, runs_chain d (Some run) (next ∷ runs) small h.2 h.1 a.1)

pub elements_are_read : (format : Format) (d : ℕ) (xs : List ℕ) → d ≤ 2 ^ 32 → AreElements d xs → AreRead format d xs
elements_are_read One d xs small h = small_chain d None xs small (recursion_from_All (λ x. x < d) xs h.within)
elements_are_read Two d xs small h =
    (runs_of xs, lists_are_runs xs h.ascend, runs_chain d None (runs_of xs) small (runs_are_apart xs h.ascend) tt (runs_below d xs (recursion_from_All (λ x. x < d) xs h.within)))

word_reads : (word : List ℕ) → Reads IsApart IsSmall (λ n. word ++ decimal n) (behind word small_at)
word_reads word = behind_reads IsApart IsSmall decimal small_at word small_reads

-- the bytes do not begin with the word
abbrev pub NoWord : List ℕ → List ℕ → Type 0
NoWord word rest = after word rest ≡ None

-- ---- classes

abbrev pub IsClassRow : ℕ × List ℕ → Type 0
IsClassRow c = IsSmall c.0 × AreSmall c.1

-- a row that is read
abbrev pub IsClassText : Format → ℕ → ℕ × List ℕ → Type 0
IsClassText format d c = IsSmall c.0 × AreRead format d c.1

pub class_row_reads : (format : Format) (d : ℕ) → Reads Anything (IsClassText format d) (class_text format) (class_row_at format d)
unfolding class_row_at
class_row_reads format d =
    ended_reads EndsLine (IsClassText format d) (λ c. lettered_number (codes "class e") c.0 ++ elements_text format c.1) _ line_feed
    (both_reads IsApart EndsLine IsSmall (AreRead format d) (lettered_number (codes "class e")) (elements_text format) _ (elements_at format d) (word_reads (codes "class e")) (elements_reads format d)
    (λ xs rest v h. elements_apart format xs rest h))
    (λ rest. (rest, refl))

abbrev pub FitsClassAfter : Ontology → ℕ → Option (ℕ × List ℕ) → ℕ × List ℕ → Type 0
FitsClassAfter o d last c = IsClassRow c × (fits_class o d (key last) c ≡ true)

-- ---- pairs

abbrev pub IsPairRow : ℕ × ℕ × List ℕ → Type 0
IsPairRow p = IsSmall p.0 × IsSmall p.1 × AreSmall p.2

-- a row that is read
abbrev pub IsPairText : Format → ℕ → ℕ × ℕ × List ℕ → Type 0
IsPairText format d p = IsSmall p.0 × IsSmall p.1 × AreRead format d p.2

abbrev PairParts : Type 0
PairParts = ℕ × (ℕ × List ℕ)

abbrev FitPairParts : Format → ℕ → PairParts → Type 0
FitPairParts format d p = IsSmall p.0 × (IsSmall p.1.0 × AreRead format d p.1.1)

abbrev pair_front : Format → ℕ × ℕ × List ℕ → List ℕ
pair_front format p = lettered_number (codes "succ p") p.0 ++ (lettered_number (codes " ") p.1 ++ elements_text format p.2)

pair_valid : (format : Format) (d : ℕ) (p : ℕ × ℕ × List ℕ) → ((q : PairParts) × (pair_row_from q ≡ p) × FitPairParts format d q) → IsPairText format d p
pair_valid format d p h = subst (IsPairText format d) h.1 (h.2.0, h.2.1.0, h.2.1.1)

pair_from_valid : (format : Format) (d : ℕ) (p : ℕ × ℕ × List ℕ) → IsPairText format d p → (q : PairParts) × (pair_row_from q ≡ p) × FitPairParts format d q
pair_from_valid format d p h = ((p.0, (p.1, p.2)), refl, (h.0, (h.1, h.2)))

pub pair_row_reads : (format : Format) (d : ℕ) → Reads Anything (IsPairText format d) (pairs_text format) (pair_row_at format d)
unfolding pair_row_at
pair_row_reads format d =
    let targets = both_reads IsApart EndsLine IsSmall (AreRead format d) premise_text (elements_text format) element_at (elements_at format d) element_reads (elements_reads format d) (λ xs rest v h. elements_apart format xs rest h) in
    let parts = both_reads IsApart EndsLine IsSmall _ (lettered_number (codes "succ p")) _ _ _ (word_reads (codes "succ p")) targets (λ q rest v h. refl) in
    restated Anything Anything _ (IsPairText format d) _ (pairs_text format) (pair_row_at format d)
    (ended_reads EndsLine _ (pair_front format) _ line_feed (made_reads EndsLine (FitPairParts format d) _ (pair_front format) _ pair_row_from parts (λ q v. refl)) (λ rest. (rest, refl)))
    (λ rest h. h) (pair_valid format d) (pair_from_valid format d) (λ p. refl)

abbrev pub FitsPairsAfter : Ontology → ℕ → Option (ℕ × ℕ × List ℕ) → ℕ × ℕ × List ℕ → Type 0
FitsPairsAfter o d last p = IsPairRow p × (fits_pairs o d (pair_key last) p ≡ true)

-- ---- claims

abbrev pub IsClaimRow : ℕ × ℕ → Type 0
IsClaimRow c = IsSmall c.0 × IsSmall c.1

pub numbered_row_reads : (word : List ℕ) → Reads Anything IsClaimRow (λ c. lettered_number word c.0 ++ spaced_numbers (c.1 ∷ []) ++ line_feed) (ended (both (behind word small_at) element_at) line_feed)
numbered_row_reads word =
    restated Anything Anything IsClaimRow IsClaimRow (λ c. (lettered_number word c.0 ++ premise_text c.1) ++ line_feed) _ _
    (ended_reads IsApart IsClaimRow (λ c. lettered_number word c.0 ++ premise_text c.1) _ line_feed
    (both_reads IsApart IsApart IsSmall IsSmall (lettered_number word) premise_text _ element_at (word_reads word) element_reads (λ x rest v h. refl))
    (λ rest. refl))
    (λ rest h. h) (λ c h. h) (λ c h. h) (λ c. ap (λ (bytes : List ℕ). lettered_number word c.0 ++ bytes ++ line_feed) (sym (append-nil (premise_text c.1))))

pub claim_row_reads : Reads Anything IsClaimRow claim_text claim_row_at
unfolding claim_row_at
claim_row_reads = numbered_row_reads (codes "claim e")

abbrev pub FitsClaimAfter : Ontology → ℕ → Option (ℕ × ℕ) → ℕ × ℕ → Type 0
FitsClaimAfter o d last c = IsClaimRow c × (fits_claim o d (key last) c ≡ true)

-- ---- individuals

abbrev IsIndividual : ℕ → ℕ → ℕ × ℕ → Type 0
IsIndividual d k p = IsClaimRow p × ((eqb p.0 k && ltb p.1 d) ≡ true)

-- an individual with a small number, and an element below d
abbrev pub IsElementOf : ℕ → ℕ × ℕ → Type 0
IsElementOf d a = IsSmall a.0 × (a.1 < d)

individual_valid : (d k x : ℕ) → ((p : ℕ × ℕ) × (p.1 ≡ x) × IsIndividual d k p) → IsElementOf d (k, x)
individual_valid d k x h =
    let t = and_parts (eqb h.0.0 k) (ltb h.0.1 d) h.2.1 in
    (omega (arith, h.2.0.0, eqb-true h.0.0 k t.0), omega (arith, ltb-true h.0.1 d t.1, h.1))

individual_from_valid : (d k x : ℕ) → d ≤ 2 ^ 32 → IsElementOf d (k, x) → (p : ℕ × ℕ) × (p.1 ≡ x) × IsIndividual d k p
individual_from_valid d k x small v = ((k, x), refl, ((v.0, omega (arith, v.1)), rw (eq-eqb k k refl, lt-ltb x d v.1) refl))

pub individual_reads : (d k : ℕ) → d ≤ 2 ^ 32 → Reads Anything (λ x. IsElementOf d (k, x)) (λ x. individual_text (k, x)) (individual_at d k)
unfolding individual_at
individual_reads d k small =
    restated Anything Anything _ (λ x. IsElementOf d (k, x)) _ (λ x. individual_text (k, x)) (individual_at d k)
    (made_reads Anything (IsIndividual d k) individual_text (λ x. individual_text (k, x)) _ (λ p. p.1)
    (such_reads Anything IsClaimRow individual_text _ (λ p. eqb p.0 k && ltb p.1 d) (numbered_row_reads (codes "ind i")))
    (λ p v. ap (λ n. individual_text (n, p.1)) (eqb-true p.0 k (and_parts (eqb p.0 k) (ltb p.1 d) v.1).0)))
    (λ rest h. h) (λ x h. individual_valid d k x h) (λ x h. individual_from_valid d k x small h) (λ x. refl)

-- an element for each of n individuals, from number k on
abbrev pub AreElementsOfAll : ℕ → ℕ → ℕ → List ℕ → Type 0
AreElementsOfAll d k n xs = AllByRecursion (IsElementOf d) (enumerate_from k xs) × (length xs ≡ n)
