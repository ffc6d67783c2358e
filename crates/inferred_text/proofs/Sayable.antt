-- The declarations and the lines can be said.
use Rattle.std.proofs.Common.{◌≡◌, ℕ, ◌<◌, List, [], ◌∷◌, ◌++◌, length, map, max, All, refl, sym, ap, true, false, subst, arith}
use Rattle.std.proofs.lemmas.List.{length-map}
use Rattle.std.proofs.lemmas.List.Elements.{All-filter, All-head, All-tail}
use Rattle.std.proofs.lemmas.Option.{unwrap_or-slice_get}
use Rattle.axioms.specs.Expression.{Iri}
use Rattle.axioms.specs.Numbering.{Statement, same_expression}
use Rattle.axioms.specs.Ontology.{Names, name_at}
use Rattle.axioms.specs.WellFormedness.{AreDistinct}
use Rattle.program.specs.declared.version.Version.{Version}
use Rattle.program.specs.declared.version.Version.TheVariants.{One, Two}
use Rattle.shapes.specs.Shapes.{takes}
use Rattle.shapes.specs.Names.{is_class_name, is_reserved}
use Rattle.statements_text.specs.Sound.{AllSayable, AllSound, IsSayable}
use Rattle.fs_parser.specs.Name.{CanBeSpelled}
use Rattle.statements_text.specs.Terms.{HaveSpelling, class_terms, terms_depth}
use Rattle.taxonomy.specs.Following.{class_at}
use Rattle.taxonomy.specs.Texts.{in_byte_order}
use Rattle.taxonomy.proofs.Agreement.{all_in_byte_order}
use Rattle.inferred_text.specs.Inferred.{class_declaration, declarations, individual_declaration, is_own, property_declaration}
use Rattle.profile.specs.Documents.{HasSayableNames}
use Rattle.inferred_text.proofs.Apart.{apart_once}
use Rattle.inferred_text.proofs.Said.{Line, IsGood, Below, Member, Same, said}
use Rattle.inferred_text.proofs.Names.{told_apart}

both_sayable : (version : Version) (ss ts : List Statement) → AllSayable version ss → AllSayable version ts → AllSayable version (ss ++ ts)
both_sayable version [] ts h k = k
both_sayable version (s ∷ ss) ts h k = (h.0, both_sayable version ss ts h.1 k)

each_sayable : {X : Type 0} (version : Version) (f : X → Statement) (xs : List X) → All (λ x. IsSayable version (f x)) xs → AllSayable version (map f xs)
each_sayable version f [] h = tt
each_sayable {X} version f (x ∷ xs) h =
    let P : X → Type 0 = λ x. IsSayable version (f x) in
    (All-head P x xs h, each_sayable version f xs (All-tail P x xs h))

-- what holds of each name holds of the name of a number
named : (P : Iri → Type 0) (names : List Iri) → All P names → (n : ℕ) → n < length names → P (name_at names n)
named P names h n l = subst P (sym (unwrap_or-slice_get names n [])) (h n [] l)

-- each version takes what the first one does
taken_first : (version : Version) → takes version One ≡ true
taken_first One = refl
taken_first Two = refl

module _ (names : Names) (sayable : HasSayableNames names) where
  -- the name of a number
  spelled_class : (c : ℕ) → c < length names.classes → CanBeSpelled (name_at names.classes c) × (is_class_name (name_at names.classes c) ≡ true)
  spelled_class c l = named (λ c. CanBeSpelled c × (is_class_name c ≡ true)) names.classes sayable.classes c l

  spelled_property : (r : ℕ) → r < length names.properties → CanBeSpelled (name_at names.properties r) × (is_reserved (name_at names.properties r) ≡ false)
  spelled_property r l = named (λ r. CanBeSpelled r × (is_reserved r ≡ false)) names.properties sayable.properties r l

  spelled_individual : (a : ℕ) → a < length names.individuals → CanBeSpelled (name_at names.individuals a) × (is_reserved (name_at names.individuals a) ≡ false)
  spelled_individual a l = named (λ a. CanBeSpelled a × (is_reserved a ≡ false)) names.individuals sayable.individuals a l

  classes_spelled : (cs : List ℕ) → All (λ c. c < length names.classes) cs → HaveSpelling (class_terms (map (class_at names) cs))
  classes_spelled [] h = tt
  classes_spelled (c ∷ cs) h =
      let P : ℕ → Type 0 = λ c. c < length names.classes in
      let s = spelled_class c (All-head P c cs h) in
      (s.0, classes_spelled cs (All-tail P c cs h))

  classes_sound : (cs : List ℕ) → All (λ c. c < length names.classes) cs → AllSound (map (class_at names) cs)
  classes_sound [] h = tt
  classes_sound (c ∷ cs) h =
      let P : ℕ → Type 0 = λ c. c < length names.classes in
      let s = spelled_class c (All-head P c cs h) in
      (s.1, classes_sound cs (All-tail P c cs h))

  -- names have no parenthesis
  classes_flat : (cs : List ℕ) → terms_depth (class_terms (map (class_at names) cs)) ≡ 0
  classes_flat [] = refl
  classes_flat (c ∷ cs) = ap (λ n. max 0 n) (classes_flat cs)

  module _ (version : Version) where
    class_sayable : (c : ℕ) → c < length names.classes → IsSayable version (class_declaration names c)
    class_sayable c l = let s = spelled_class c l in record { spelled = (refl, ((refl, (s.0, tt)), tt)); taken = taken_first version; sound = s.1; shallow = omega arith }

    property_sayable : (r : ℕ) → r < length names.properties → IsSayable version (property_declaration names r)
    property_sayable r l = let s = spelled_property r l in record { spelled = (refl, ((refl, (s.0, tt)), tt)); taken = taken_first version; sound = s.1; shallow = omega arith }

    individual_sayable : (a : ℕ) → a < length names.individuals → IsSayable version (individual_declaration names a)
    individual_sayable a l = let s = spelled_individual a l in record { spelled = (refl, ((refl, (s.0, tt)), tt)); taken = taken_first version; sound = s.1; shallow = omega arith }

    pub declarations_sayable : AllSayable version (declarations names)
    declarations_sayable =
        let low = All-filter is_own (λ c. c < length names.classes) (in_byte_order names.classes) (all_in_byte_order names.classes) in
        both_sayable version _ _ (each_sayable version (class_declaration names) _ (λ k d l. class_sayable _ (low k d l)))
        (both_sayable version _ _ (each_sayable version (property_declaration names) _ (λ k d l. property_sayable _ (all_in_byte_order names.properties k d l)))
        (each_sayable version (individual_declaration names) _ (λ k d l. individual_sayable _ (all_in_byte_order names.individuals k d l))))

    module _ (distinct : AreDistinct names.classes) where
      line_sayable : (line : Line) → IsGood names line → IsSayable version (said names line)
      line_sayable (Below c d) h =
          let s = spelled_class c h.0 in
          let t = spelled_class d h.1 in
          record { spelled = (refl, (s.0, (t.0, tt))); taken = taken_first version; sound = (s.1, t.1); shallow = omega arith }
      line_sayable (Same cs) h = record {
        spelled = (refl, classes_spelled cs h.2);
        taken = taken_first version;
        sound = (omega (arith, h.0, length-map cs (class_at names)), classes_sound cs h.2, apart_once (class_at names) same_expression (length names.classes) (told_apart names.classes distinct) cs h.2 h.1);
        shallow = let flat = classes_flat cs in omega (arith, flat);
      }
      line_sayable (Member a c) h =
          let s = spelled_class c h.1 in
          let t = spelled_individual a h.0 in
          record { spelled = (refl, (s.0, (t.0, tt))); taken = taken_first version; sound = (s.1, t.1); shallow = omega arith }

      pub lines_sayable : (lines : List Line) → All (IsGood names) lines → AllSayable version (map (said names) lines)
      lines_sayable [] h = tt
      lines_sayable (l ∷ ls) h = let P = IsGood names in (line_sayable l (All-head P l ls h), lines_sayable ls (All-tail P l ls h))

      pub all_sayable : (lines : List Line) → All (IsGood names) lines → AllSayable version (declarations names ++ map (said names) lines)
      all_sayable lines h = both_sayable version _ _ declarations_sayable (lines_sayable lines h)
