-- Trees that are individuals.
use Rattle.std.proofs.Common.{◌≡◌, ℕ, suc, ◌+◌, ◌<◌, ◌≤◌, List, [], ◌∷◌, ◌++◌, length, map, take, drop, get_or, Err, refl, sym, ap, ◌∙◌, subst}
use Rattle.std.proofs.lemmas.List.{map-append, take_all}
use Rattle.axioms.specs.Expression.{Iri}
use Rattle.axioms.specs.Ontology.{Ontology}
use Rattle.axioms.specs.View.{ind_numbers}
use Rattle.axioms.specs.WellFormedness.{IsOntology}
use Rattle.axioms.specs.declared.fault.BuildFault.{BuildFault}
use Rattle.axioms.specs.declared.fault.BuildFault.TheVariants.{TooManyNames, Memory}
use Rattle.axioms.specs.declared.ids.IndId.{IndId}
use Rattle.fs_parser.specs.View.{trees_of}
use Rattle.fs_parser.specs.declared.tree.Tree as code
use Rattle.profile.specs.Additions.{IndividualRead, IndividualsRead, ReadsIndividual, ReadsIndividuals}
use Rattle.profile.specs.Statements.{iris_of}
use Rattle.profile.proofs.ClassReading.{numbers_kept, numbers_push}
use Rattle.profile.proofs.Overflowing.{overflow_more, overflow_later}
use Rattle.profile.proofs.PropertyForms.{iris_are, one_name_more, split_at, tree_name}
use Rattle.profile.proofs.Steps.{adds_join, adds_nothing, keeps_of}

pub no_individual : (o : Ontology) → IsOntology o → (is : List IndId) → is ≡ [] → ReadsIndividuals [] o o (ind_numbers is)
no_individual o whole is none = let P : List IndId → Type 0 = λ xs. ReadsIndividuals [] o o (ind_numbers xs) in subst P (sym none) (record { adds = adds_nothing o whole; at = refl })

one_more : (as' : List Iri) (a : Iri) (o p q : Ontology) (ns : List ℕ) (n : ℕ) → ReadsIndividuals as' o p ns → ReadsIndividual a p q n → ReadsIndividuals (as' ++ a ∷ []) o q (ns ++ n ∷ [])
one_more as' a o p q ns n read more =
    let keeps = keeps_of [] [] (a ∷ []) [] p q more.0 in
    record {
      adds = adds_join [] [] [] [] as' (a ∷ []) [] [] o p q read.adds more.0;
      at = numbers_push q.names.individuals ns as' n a (numbers_kept p.names.individuals q.names.individuals keeps.kept_individuals ns as' read.at) more.1;
    }

pub individual_pushed : (ts : List code.Tree) (n : ℕ) (t : code.Tree) (o p q : Ontology) (is : List IndId) (i : IndId) (js : List IndId) → js ≡ is ++ i ∷ [] → ReadsIndividuals (map tree_name (take n ts)) o p (ind_numbers is) → n < length ts → t ≡ get_or ts n t → ReadsIndividual (tree_name t) p q i.0 →
    ReadsIndividuals (map tree_name (take (n + 1) ts)) o q (ind_numbers js)
individual_pushed ts n t o p q is i js pushed read within item more =
    let P : List ℕ → Type 0 = λ ns. ReadsIndividuals (map tree_name (take (n + 1) ts)) o q ns in
    let Q : List Iri → Type 0 = λ as'. ReadsIndividuals as' o q (ind_numbers is ++ i.0 ∷ []) in
    subst P (sym (ap ind_numbers pushed ∙ map-append (λ (x : IndId). x.0) is (i ∷ []))) (subst Q (sym (one_name_more ts n t within item)) (one_more (map tree_name (take n ts)) (tree_name t) o p q (ind_numbers is) i.0 read more))

pub all_individuals : (ts : List code.Tree) (n : ℕ) (o p : Ontology) (ns : List ℕ) → ReadsIndividuals (map tree_name (take n ts)) o p ns → length ts ≤ n → ReadsIndividuals (iris_of (trees_of ts)) o p ns
all_individuals ts n o p ns read all =
    let P : List Iri → Type 0 = λ as'. ReadsIndividuals as' o p ns in
    subst P (ap (map tree_name) (take_all n ts all) ∙ sym (iris_are ts)) read

pub individual_refused : (ts : List code.Tree) (n : ℕ) (t : code.Tree) (o p q : Ontology) (ns : List ℕ) → ReadsIndividuals (map tree_name (take n ts)) o p ns → n < length ts → t ≡ get_or ts n t → (fault : BuildFault) → IndividualRead (Err fault) (tree_name t) p q → IndividualsRead (Err fault) (iris_of (trees_of ts)) o q
individual_refused ts n t o p q ns read within is TooManyNames h =
    let P : List Iri → Type 0 = λ as'. IndividualsRead (Err TooManyNames) as' o q in
    let rest = map tree_name (drop (suc n) ts) in
    subst P (sym (iris_are ts ∙ split_at ts n t within is))
    (overflow_later [] [] [] [] (map tree_name (take n ts)) (tree_name t ∷ rest) [] o p read.adds (overflow_more [] [] [] [] (tree_name t ∷ []) rest p h))
individual_refused ts n t o p q ns read within is Memory h = tt
