-- Names that the tokens of a UTF-8 text stand for can be spelled.
use Rattle.std.proofs.Common.{◌≡◌, ℕ, true, List, [], ◌∷◌, ◌++◌, ◌⊎◌, inl, inr, refl, sym, subst, arith}
use Rattle.std.specs.Prelude.{codes, nat_lt}
use Rattle.std.specs.List.{Contains}
use Rattle.std.specs.Str.{IsUtf8}
use Rattle.std.proofs.lemmas.Bool.Decides.{nat_tests}
use Rattle.std.proofs.lemmas.List.Elements.{Contains-append_cases}
use Rattle.std.proofs.lemmas.Str.{IsUtf8-append, IsUtf8-had}
use Rattle.std.proofs.Math.Logic.{∥∥₁_elim, ∥∥₁_map}
use Rattle.std.proofs.Math.Bool.{Bool-set}
use Rattle.lemmas.proofs.Members.{Contains-cons_cases, Contains-none}
use Rattle.fs_lexer.specs.declared.token.Kind.{Kind}
use Rattle.fs_lexer.specs.declared.token.Kind.TheVariants.{FullIri}
use Rattle.fs_lexer.specs.Spelling.{Token, IsOfKind, is_iri_byte, is_run, is_word_byte}
use Rattle.fs_parser.specs.Document.{AreDeclarations}
use Rattle.fs_parser.specs.Name.{Prefixes, CanBeSpelled, IsBracketed, IsNameOf, StandForSpelled, standard_prefixes}
use Rattle.fs_parser.specs.View.{prefixes_of_code}
use Rattle.fs_parser.specs.declared.prefix.Prefix as code
use Rattle.fs_parser.proofs.IriBytes.{full_run, local_run, more_pass, name_run}
use Rattle.fs_parser.proofs.SmallBytes.{is_small, plain}
use Rattle.fs_parser.proofs.Tokens.{AreSpelled, IsSpelled}

-- where there is a spelling
pub spelling_had : (iri : List ℕ) → ∥ CanBeSpelled iri ∥₁ → CanBeSpelled iri
spelling_had iri h = record { spelled = ∥∥₁_elim h (Bool-set (is_run is_iri_byte iri) true) (λ c. c.spelled); utf8 = IsUtf8-had iri (∥∥₁_map h (λ c. c.utf8)) }

-- what stands between < and > in a full IRI
pub bracket_run : (kind : Kind) (text iri : List ℕ) → ∥ IsOfKind kind text ∥₁ → kind ≡ FullIri → IsBracketed iri text → is_run is_iri_byte iri ≡ true
bracket_run kind text iri h is e = ∥∥₁_elim h (Bool-set (is_run is_iri_byte iri) true) (λ k. full_run text iri (subst (λ k. IsOfKind k text) is k) e)

-- ---- the IRIs of prefixes

no_bases : StandForSpelled []
no_bases name base c = absurd (Contains-none (name, base) c)

more_bases : (d : List ℕ × List ℕ) (ds : Prefixes) → CanBeSpelled d.1 → StandForSpelled ds → StandForSpelled (d ∷ ds)
more_bases d ds h more name base c = go (Contains-cons_cases d (name, base) ds c)
  where
    go : (d ≡ (name, base)) ⊎ Contains ds (name, base) → CanBeSpelled base
    go (inl e) = subst (λ (p : List ℕ × List ℕ). CanBeSpelled p.1) e h
    go (inr c) = more name base c

pub both_bases : (ds es : Prefixes) → StandForSpelled ds → StandForSpelled es → StandForSpelled (ds ++ es)
both_bases ds es h k name base c = go (Contains-append_cases ds es (name, base) c)
  where
    go : Contains ds (name, base) ⊎ Contains es (name, base) → CanBeSpelled base
    go (inl c) = h name base c
    go (inr c) = k name base c

-- prefixes of the code
pub code_bases : (ps : List code.Prefix) → StandForSpelled (prefixes_of_code ps)
code_bases [] = no_bases
code_bases (p ∷ ps) = more_bases (p.name.now, p.iri.now) (prefixes_of_code ps) (spelling_had p.iri.now p.spelled) (code_bases ps)

pub standard_bases : StandForSpelled standard_prefixes
unfolding standard_prefixes
standard_bases =
    let rdf : List ℕ × List ℕ = (codes "rdf", codes "http://www.w3.org/1999/02/22-rdf-syntax-ns#") in
    let rdfs : List ℕ × List ℕ = (codes "rdfs", codes "http://www.w3.org/2000/01/rdf-schema#") in
    let xsd : List ℕ × List ℕ = (codes "xsd", codes "http://www.w3.org/2001/XMLSchema#") in
    let owl : List ℕ × List ℕ = (codes "owl", codes "http://www.w3.org/2002/07/owl#") in
    more_bases rdf (rdfs ∷ xsd ∷ owl ∷ []) (record { spelled = refl; utf8 = plain rdf.1 refl })
    (more_bases rdfs (xsd ∷ owl ∷ []) (record { spelled = refl; utf8 = plain rdfs.1 refl })
    (more_bases xsd (owl ∷ []) (record { spelled = refl; utf8 = plain xsd.1 refl })
    (more_bases owl [] (record { spelled = refl; utf8 = plain owl.1 refl }) no_bases)))

-- ---- full IRIs

full_spelled : (t : Token) (iri : List ℕ) → IsSpelled t → t.kind ≡ FullIri → IsBracketed iri t.text → CanBeSpelled iri
full_spelled t iri h kind e = record { spelled = full_run t.text iri (subst (λ k. IsOfKind k t.text) kind h.of_kind) e; utf8 = h.bracketed iri e }

-- what a document declares, and the tokens behind that
pub declared_bases : (ds : Prefixes) (tokens rest : List Token) → AreSpelled tokens → AreDeclarations ds tokens rest → StandForSpelled ds × AreSpelled rest
declared_bases [] tokens rest s h = (no_bases, subst AreSpelled h s)
declared_bases (d ∷ ds) tokens rest s h =
    let p = subst AreSpelled h.1.tokens_are s in
    let more = declared_bases ds h.0 rest p.1.1.1.1.1.1 h.2 in
    (more_bases d ds (full_spelled h.1.iri d.1 p.1.1.1.1.0 h.1.iri_is.0 h.1.iri_is.1) more.0, more.1)

-- ---- names

word_is_small : (b : ℕ) → is_word_byte b ≡ true → nat_lt b 128 ≡ true
word_is_small b h = grind (arith, nat_tests)

name_utf8 : (prefixes : Prefixes) (t : Token) (iri : List ℕ) → StandForSpelled prefixes → IsSpelled t → IsNameOf prefixes t iri → IsUtf8 iri
name_utf8 prefixes t iri bases h (inl n) = h.bracketed iri n.1
name_utf8 prefixes t iri bases h (inr n) =
    let m = n.1 in
    let local = plain m.local (more_pass is_word_byte is_small m.local word_is_small (local_run prefixes t iri h.of_kind n.0 m)) in
    subst IsUtf8 (sym m.iri_is) (IsUtf8-append m.base m.local (bases m.prefix m.base m.declared).utf8 local)

-- the name of a token
pub name_spelled : (prefixes : Prefixes) (t : Token) (iri : List ℕ) → StandForSpelled prefixes → IsSpelled t → IsNameOf prefixes t iri → CanBeSpelled iri
name_spelled prefixes t iri bases h n = record {
  spelled = name_run prefixes t iri (λ name base c. (bases name base c).spelled) h.of_kind n;
  utf8 = name_utf8 prefixes t iri bases h n;
}
