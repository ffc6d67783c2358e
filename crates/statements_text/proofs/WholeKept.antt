-- Of a document without faults all that it states is kept; of any what is kept is stated.
use Rattle.std.proofs.Common.{◌≡◌, ◌∙◌, ◌&&◌, ℕ, Bool, true, false, not, List, [], ◌∷◌, ◌++◌, None, refl, sym, ap, subst, if◌then◌else◌, ◌⊎◌, inl, inr, ◌-◌}
use Rattle.std.specs.List.{Contains}
use Rattle.std.proofs.lemmas.List.Elements.{Contains-append_cases, Contains-append_left, Contains-append_right}
use Rattle.axioms.specs.Numbering.{Statement, IsOntologyOf}
use Rattle.fs_parser.specs.Tree.{Tree, Trees, Empty, Then}
use Rattle.fs_parser.specs.View.{trees_from}
use Rattle.profile.specs.Statements.{statement_of, statements}
use Rattle.profile.proofs.Faultless.{none_first, none_second}
use Rattle.program.specs.declared.version.Version.{Version}
use Rattle.shapes.specs.Faults.{each_faults, faults, faults_among, front_name_faults, is_annotation, is_name, ontology_faults}
use Rattle.shapes.specs.declared.expected.Expected.TheVariants.{Annotation, Axiom}
use Rattle.statements_text.specs.Restrictions.{has_none, is_kept, kept_statements, kept_trees}
use Rattle.statements_text.specs.Theorems.{FaultlessIsKeptWhole, KeptIsStated}
use Rattle.statements_text.proofs.Keeping.{none_is, plain_tree}

module _ (version : Version) where
  -- what states nothing
  silent_kept : (t : Tree) (ts : Trees) → has_none (statement_of version t) ≡ true → kept_statements version (Then t ts) ≡ kept_statements version ts
  silent_kept t ts none = go (has_none (faults version Axiom t))
    where
      go : (b : Bool) → statements version (trees_from (if b && not (has_none (statement_of version t)) then t ∷ kept_trees version ts else kept_trees version ts)) ≡ kept_statements version ts
      go true = rw none refl
      go false = refl

  silent_stated : (t : Tree) (ts : Trees) → has_none (statement_of version t) ≡ true → statements version (Then t ts) ≡ statements version ts
  silent_stated t ts none = ap (λ (ss : List Statement). ss ++ statements version ts) (none_is (statement_of version t) none)

  silent : (t : Tree) (ts : Trees) → has_none (statement_of version t) ≡ true → kept_statements version ts ≡ statements version ts → kept_statements version (Then t ts) ≡ statements version (Then t ts)
  silent t ts none more = silent_kept t ts none ∙ more ∙ sym (silent_stated t ts none)

  -- where axioms are expected
  axiom_kept : (t : Tree) (ts : Trees) → faults version Axiom t ≡ [] → kept_statements version ts ≡ statements version ts → kept_statements version (Then t ts) ≡ statements version (Then t ts)
  axiom_kept t ts none more = go (has_none (statement_of version t)) refl
    where
      go : (b : Bool) → has_none (statement_of version t) ≡ b → kept_statements version (Then t ts) ≡ statements version (Then t ts)
      go true e = silent t ts e more
      go false e =
          let kept : is_kept version t ≡ true = rw (none, e) refl in
          rw kept (ap (λ (ss : List Statement). statement_of version t ++ ss) more)

  axioms_kept : (ts : Trees) → each_faults version None Axiom ts ≡ [] → kept_statements version ts ≡ statements version ts
  axioms_kept Empty h = refl
  axioms_kept (Then t ts) h =
      axiom_kept t ts (none_first (faults version Axiom t) (each_faults version None Axiom ts) h)
      (axioms_kept ts (none_second (faults version Axiom t) (each_faults version None Axiom ts) h))

  -- names and annotations in front state nothing
  named : (t : Tree) → is_name t ≡ true → has_none (statement_of version t) ≡ true
  named t e = go (has_none (statement_of version t)) refl
    where
      go : (b : Bool) → has_none (statement_of version t) ≡ b → b ≡ true
      go true i = refl
      go false i = absurd (let bad : true ≡ false = sym e ∙ (plain_tree version t i).0 in cc)

  annotated : (t : Tree) → is_annotation t ≡ true → has_none (statement_of version t) ≡ true
  annotated t e = go (has_none (statement_of version t)) refl
    where
      go : (b : Bool) → has_none (statement_of version t) ≡ b → b ≡ true
      go true i = refl
      go false i = absurd (let bad : true ≡ false = sym e ∙ (plain_tree version t i).1 in cc)

  front_kept : (count : ℕ) (ts : Trees) → ontology_faults version None count ts ≡ [] → kept_statements version ts ≡ statements version ts
  front_kept count Empty h = refl
  front_kept count (Then t ts) h = go (is_name t) (is_annotation t) refl refl (λ n. front_kept n ts) h
    where
      go : (b c : Bool) → is_name t ≡ b → is_annotation t ≡ c → ((n : ℕ) → ontology_faults version None n ts ≡ [] → kept_statements version ts ≡ statements version ts)
          → (if b then front_name_faults count t ++ ontology_faults version None (count - 1) ts
          else (if c then faults_among version None Annotation t ++ ontology_faults version None 0 ts else each_faults version None Axiom (Then t ts))) ≡ []
          → kept_statements version (Then t ts) ≡ statements version (Then t ts)
      go true c e i more h = silent t ts (named t e) (more (count - 1) (none_second (front_name_faults count t) (ontology_faults version None (count - 1) ts) h))
      go false true e i more h = silent t ts (annotated t i) (more 0 (none_second (faults_among version None Annotation t) (ontology_faults version None 0 ts) h))
      go false false e i more h = axioms_kept (Then t ts) h

pub faultless_kept : FaultlessIsKeptWhole
faultless_kept version bytes d r text h none =
    let same = front_kept version 2 d.trees none in
    record {
      document = d;
      text = text;
      read = record { faultless = none; ontology = subst (λ (ss : List Statement). IsOntologyOf ss h.ontology) same h.numbered; few_names = h.reads.read.few_names };
      well_formed = h.reads.well_formed;
    }

in_both : (version : Version) (t : Tree) (ts : Trees) (s : Statement) → (Contains (kept_statements version ts) s → Contains (statements version ts) s)
    → Contains (statement_of version t) s ⊎ Contains (kept_statements version ts) s → Contains (statement_of version t ++ statements version ts) s
in_both version t ts s more (inl i) = Contains-append_left (statement_of version t) (statements version ts) s i
in_both version t ts s more (inr i) = Contains-append_right (statement_of version t) (statements version ts) s (more i)

pub kept_stated : KeptIsStated
kept_stated version Empty s h = h
kept_stated version (Then t ts) s h = go (is_kept version t) (kept_stated version ts s) h
  where
    go : (b : Bool) → (Contains (kept_statements version ts) s → Contains (statements version ts) s)
        → Contains (statements version (trees_from (if b then t ∷ kept_trees version ts else kept_trees version ts))) s → Contains (statement_of version t ++ statements version ts) s
    go false more k = Contains-append_right (statement_of version t) (statements version ts) s (more k)
    go true more k = in_both version t ts s more (Contains-append_cases (statement_of version t) (kept_statements version ts) s k)
