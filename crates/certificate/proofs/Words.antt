-- Words at the front of bytes.
use Rattle.std.proofs.Common.{◌≡◌, ◌≢◌, ℕ, eqb, List, [], ◌∷◌, ◌++◌, Option, Some, None, Bor, refl, sym}
use Rattle.std.specs.Prelude.{MatchOption, option_map}
use Rattle.std.proofs.lemmas.Bool.{eqb-true, eq-eqb}
use Rattle.std.proofs.lemmas.Option.{none-some, same_Some}
use Rattle.lemmas.proofs.Choices.{passed}
use Rattle.certificate.specs.Reading.{after}

-- what is no value is none
pub none_is : {A : Type 0} (o : Option A) → ((x : A) → o ≡ Some x → ⊥) → o ≡ None
none_is None h = refl
none_is (Some x) h = absurd (h x refl)

pub after_takes : (word bytes rest : List ℕ) → after word bytes ≡ Some rest → bytes ≡ word ++ rest
after_takes [] bytes rest e = same_Some bytes rest e
after_takes (c ∷ word) [] rest e = absurd (none-some rest e)
after_takes (c ∷ word) (b ∷ bytes) rest e =
    let p = passed (eqb b c) (after word bytes) rest e in
    let same : b ≡ c = eqb-true b c p.0 in
    let others : bytes ≡ word ++ rest = after_takes word bytes rest p.1 in
    cc

pub after_again : (word rest : List ℕ) → after word (word ++ rest) ≡ Some rest
after_again [] rest = refl
after_again (c ∷ word) rest = rw (eq-eqb c c refl) (after_again word rest)

-- what strip_prefix says
pub stripped : (word bytes : List ℕ) (r : Option (Bor (List ℕ))) → MatchOption r ((rest : List ℕ) → bytes ≢ word ++ rest) (λ x. bytes ≡ word ++ x.now) → option_map (λ x. x.now) r ≡ after word bytes
stripped word bytes None h = sym (none_is (after word bytes) (λ rest e. h rest (after_takes word bytes rest e)))
stripped word bytes (Some x) h = rw h (sym (after_again word x.now))
