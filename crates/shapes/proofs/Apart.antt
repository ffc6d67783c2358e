-- No keyword is both refused and known, and which of those that are listed each version refuses.
use Rattle.std.proofs.Common.{◌≡◌, ℕ, Bool, true, false, ◌&&◌, ◌||◌, not, List, [], ◌∷◌, refl, sym, ap, ◌∙◌, if◌then◌else◌}
use Rattle.std.specs.List.{list_any, list_all}
use Rattle.std.specs.Cmp.{second_so}
use Rattle.std.specs.Str.{bytes_eq}
use Rattle.std.proofs.lemmas.Bool.{false≢true, not-true}
use Rattle.std.proofs.lemmas.Slice.Eq.{bytes_eq-Decides}
use Rattle.shapes.specs.Keywords.{is_known, is_one_of, is_refused, refused_keywords}
use Rattle.shapes.specs.Laws.{KeywordsAreApart, TheFirstRefusesAll, TheSecondRefusesAllOthers, second_keywords}
use Rattle.program.specs.declared.version.Version.TheVariants.{One, Two}

pub apart : KeywordsAreApart
unfolding is_refused
apart version keyword h = not-true (is_known version keyword) (second_so (is_one_of refused_keywords keyword) (not (is_known version keyword)) h)

-- what holds of each keyword of a list holds of one that is found in it
of_one : (test : List ℕ → Bool) (ks : List (List ℕ)) (k : List ℕ) → list_all test ks ≡ true → list_any (λ x. bytes_eq x k) ks ≡ true → test k ≡ true
of_one test [] k all found = absurd (false≢true found)
of_one test (x ∷ xs) k all found = go (bytes_eq x k) (test x) refl refl all found (of_one test xs k)
  where
    go : (b t : Bool) → bytes_eq x k ≡ b → test x ≡ t → (t && list_all test xs) ≡ true → (b || list_any (λ y. bytes_eq y k) xs) ≡ true → (list_all test xs ≡ true → list_any (λ y. bytes_eq y k) xs ≡ true → test k ≡ true) → test k ≡ true
    go true true e f a g more = ap test (sym ((bytes_eq-Decides x k).0 e)) ∙ f
    go false true e f a g more = more a g
    go b false e f a g more = absurd (false≢true a)

refused_are_unknown : list_all (λ k. not (is_known One k)) refused_keywords ≡ true
unfolding is_known
refused_are_unknown = refl

pub first_refuses : TheFirstRefusesAll
unfolding is_refused
first_refuses keyword = go (is_one_of refused_keywords keyword) refl
  where
    go : (b : Bool) → is_one_of refused_keywords keyword ≡ b → (b && not (is_known One keyword)) ≡ b
    go false e = refl
    go true e = of_one (λ k. not (is_known One k)) refused_keywords keyword refused_are_unknown e

-- of those that are listed the second version knows these alone
abbrev is_told : List ℕ → Bool
is_told keyword = if is_one_of second_keywords keyword then is_known Two keyword else not (is_known Two keyword)

all_told : list_all is_told refused_keywords ≡ true
unfolding is_known
all_told = refl

pub second_refuses : TheSecondRefusesAllOthers
unfolding is_refused
second_refuses keyword = go (is_one_of refused_keywords keyword) (is_one_of second_keywords keyword) (is_known Two keyword) refl refl refl
  where
    go : (b c d : Bool) → is_one_of refused_keywords keyword ≡ b → is_one_of second_keywords keyword ≡ c → is_known Two keyword ≡ d → (b && not d) ≡ (b && not c)
    go false c d e f g = refl
    go true true true e f g = refl
    go true false false e f g = refl
    go true true false e f g =
        let told : is_told keyword ≡ true = of_one is_told refused_keywords keyword all_told e in
        absurd (false≢true (sym (rw (f) g) ∙ told))
    go true false true e f g =
        let told : is_told keyword ≡ true = of_one is_told refused_keywords keyword all_told e in
        absurd (false≢true (sym (rw (f) (ap not g)) ∙ told))
