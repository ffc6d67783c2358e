-- The loop that reads all premises and keeps some.
use Rattle.std.proofs.Common.{◌≡◌, ℕ, ◌^◌, ◌<◌, List, [], ◌∷◌, ◌++◌, length, Option, Some, None, Bool, true, false, ◌&&◌, leb, ltb, ◌-◌, refl, sym, ap, subst, ◌∙◌}
use Rattle.std.specs.List.{list_all}
use Rattle.std.proofs.lemmas.Bool.{lt-ltb}
use Rattle.std.proofs.lemmas.List.{map_push}
use Rattle.std.proofs.lemmas.List.Folds.{list_all-append}
use Rattle.certificate.specs.Certificate.{Format, One, Two}
use Rattle.certificate.specs.Tests.{is_premise, are_back}
use Rattle.certificate.specs.Text.{written_premises}
use Rattle.certificate.specs.LineReading.{premise_at, premises_at}
use Rattle.certificate.specs.SourceReading.{premises_kept}
use Rattle.certificate.specs.SingleLines.{AreKept, read_premise, is_back}
use Rattle.certificate.proofs.Decimals.{IsApart}
use Rattle.certificate.proofs.Many.{IsReadSoFar, one_more_read, all_read, shorter}
use Rattle.certificate.proofs.Derivations.{EndsLine, IsNumber, premise_text, each_premise_reads}

pub record IsKeptSoFar (format : Format) (number : ℕ) (most : Option ℕ) (bytes kept : List ℕ) (fit : Bool) (rest : List ℕ) : Type 0 where
  pub all : List ℕ
  pub so_far : IsReadSoFar (λ _. premise_at) bytes all rest
  pub kept_is : kept ≡ premises_kept most (written_premises format number all)
  pub fit_is : fit ≡ (list_all is_premise all && are_back format number all)

and_true : (b : Bool) → (b && true) ≡ b
and_true false = refl
and_true true = refl

all_with : (test : ℕ → Bool) (xs : List ℕ) (x : ℕ) → list_all test (xs ++ x ∷ []) ≡ (list_all test xs && test x)
all_with test xs x = list_all-append test xs (x ∷ []) ∙ ap (λ b. list_all test xs && b) (and_true (test x))

premise_is : (n : ℕ) → IsNumber n → is_premise n ≡ leb 1 n
premise_is n small = ap (λ b. leb 1 n && b) (lt-ltb n (2 ^ 64) small) ∙ and_true (leb 1 n)

one_more_premise : (format : Format) (number : ℕ) (all : List ℕ) (n : ℕ) → written_premises format number (all ++ n ∷ []) ≡ written_premises format number all ++ read_premise format number n ∷ []
one_more_premise One number all n = refl
one_more_premise Two number all n = map_push (λ (p : ℕ). number - p) all n

middle : (a b c d : Bool) → ((a && b) && (c && d)) ≡ ((a && c) && (b && d))
middle false b c d = refl
middle true false false d = refl
middle true false true d = refl
middle true true c d = refl

one_more_back : (format : Format) (number : ℕ) (all : List ℕ) (n : ℕ) → are_back format number (all ++ n ∷ []) ≡ (are_back format number all && is_back format number n)
one_more_back One number all n = refl
one_more_back Two number all n = ap (λ b. ltb number (2 ^ 64) && b) (all_with (λ d. ltb d number) all n) ∙ regroup (ltb number (2 ^ 64)) (list_all (λ d. ltb d number) all) (ltb n number)
  where
    regroup : (a b c : Bool) → (a && (b && c)) ≡ ((a && b) && c)
    regroup false b c = refl
    regroup true b c = refl

pub one_more_kept : (format : Format) (number : ℕ) (most : Option ℕ) (bytes kept new : List ℕ) (fit : Bool) (rest : List ℕ) (n : ℕ) (mid : List ℕ) → IsKeptSoFar format number most bytes kept fit rest
    → premise_at rest ≡ Some (n, mid) → ((all : List ℕ) → kept ≡ premises_kept most all → new ≡ premises_kept most (all ++ read_premise format number n ∷ []))
    → IsKeptSoFar format number most bytes new (fit && (leb 1 n && is_back format number n)) mid
one_more_kept format number most bytes kept new fit rest n mid h e keep =
    let small : IsNumber n = ((each_premise_reads.each None).takes rest n mid e).1 in
    let all = list_all is_premise h.all in
    let back = are_back format number h.all in
    record {
      all = h.all ++ n ∷ [];
      so_far = one_more_read (λ _. premise_at) bytes h.all rest n mid h.so_far e;
      kept_is = keep (written_premises format number h.all) h.kept_is ∙ ap (premises_kept most) (sym (one_more_premise format number h.all n));
      fit_is =
          ap (λ b. b && (leb 1 n && is_back format number n)) h.fit_is ∙ middle all back (leb 1 n) (is_back format number n)
          ∙ ap (λ b. (all && b) && (back && is_back format number n)) (sym (premise_is n small)) ∙ ap (λ b. b && (back && is_back format number n)) (sym (all_with is_premise h.all n))
          ∙ ap (λ b. list_all is_premise (h.all ++ n ∷ []) && b) (sym (one_more_back format number h.all n));
    }

-- where no premise before was at fault
pub one_more_fit : (format : Format) (number : ℕ) (most : Option ℕ) (bytes kept new : List ℕ) (fit : Bool) (rest : List ℕ) (n : ℕ) (mid : List ℕ) (test : Bool) → IsKeptSoFar format number most bytes kept fit rest
    → premise_at rest ≡ Some (n, mid) → ((all : List ℕ) → kept ≡ premises_kept most all → new ≡ premises_kept most (all ++ read_premise format number n ∷ [])) → fit ≡ true
    → test ≡ (leb 1 n && is_back format number n) → IsKeptSoFar format number most bytes new test mid
one_more_fit format number most bytes kept new fit rest n mid test h e keep t is =
    subst (λ b. IsKeptSoFar format number most bytes new b mid) (sym is)
    (subst (λ b. IsKeptSoFar format number most bytes new (b && (leb 1 n && is_back format number n)) mid) t (one_more_kept format number most bytes kept new fit rest n mid h e keep))

-- .. and where one was
pub one_more_unfit : (format : Format) (number : ℕ) (most : Option ℕ) (bytes kept new : List ℕ) (fit : Bool) (rest : List ℕ) (n : ℕ) (mid : List ℕ) → IsKeptSoFar format number most bytes kept fit rest
    → premise_at rest ≡ Some (n, mid) → ((all : List ℕ) → kept ≡ premises_kept most all → new ≡ premises_kept most (all ++ read_premise format number n ∷ [])) → fit ≡ false
    → IsKeptSoFar format number most bytes new fit mid
one_more_unfit format number most bytes kept new fit rest n mid h e keep f =
    subst (λ b. IsKeptSoFar format number most bytes new b mid) (ap (λ b. b && (leb 1 n && is_back format number n)) f ∙ sym f) (one_more_kept format number most bytes kept new fit rest n mid h e keep)

pub less_left : (rest : List ℕ) (n : ℕ) (mid : List ℕ) → premise_at rest ≡ Some (n, mid) → length mid < length rest
less_left rest n mid e = shorter IsApart EndsLine (λ last. IsNumber) premise_text (λ last. premise_at) each_premise_reads None rest n mid e

pub all_kept : (format : Format) (number : ℕ) (most : Option ℕ) (bytes kept : List ℕ) (fit : Bool) (rest : List ℕ) → IsKeptSoFar format number most bytes kept fit rest → premise_at rest ≡ None
    → AreKept format number most bytes kept fit rest
unfolding premises_at
all_kept format number most bytes kept fit rest h none = record {
  all = h.all;
  read = all_read IsApart EndsLine (λ last. IsNumber) premise_text (λ last. premise_at) each_premise_reads bytes h.all rest h.so_far none;
  kept_is = h.kept_is;
  fit_is = h.fit_is;
}
