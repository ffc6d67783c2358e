-- Declarations one after the other, and what tokens are as a document.
use Rattle.std.proofs.Common.{◌≡◌, ℕ, zero, suc, ◌+◌, ◌*◌, ◌-◌, ◌≤◌, true, List, [], ◌∷◌, ◌++◌, length, get_or, drop, take, ltb, Some, None, refl, sym, ap, ◌∙◌, subst, inl, inr, arith, append_assoc}
use Rattle.std.specs.Prelude.{codes}
use Rattle.std.specs.List.{Contains}
use Rattle.std.proofs.lemmas.Bool.{ltb-true}
use Rattle.std.proofs.lemmas.List.{append_cancel_right, append-nil, length-drop, drop-drop, same_from_push, take_rest}
use Rattle.std.proofs.lemmas.List.Elements.{Contains-append_left, Contains-push_cases}
use Rattle.lemmas.proofs.Members.{Contains-cons_cases, Contains-none}
use Rattle.fs_lexer.specs.Spelling.{Token}
use Rattle.fs_lexer.specs.declared.token.Token as lexer
use Rattle.fs_parser.specs.Name.{Prefixes, StandForOne, standard_prefixes, IsBracketed}
use Rattle.fs_parser.specs.Tree.{Trees, AreTrees}
use Rattle.fs_parser.specs.Document.{Document, IsDeclaration, AreDeclarations, IsAllowed, AreAllowed, IsOntology, IsDocument, prefixes_of}
use Rattle.fs_parser.specs.Front.{BeginsWith, MayBeNamed, MayStandFor}
use Rattle.fs_parser.specs.State.{Fails, IsRefusal}
use Rattle.fs_parser.specs.View.{tokens_of}
use Rattle.fs_parser.specs.declared.fault.ParseFault.{ParseFault}
use Rattle.fs_parser.specs.declared.fault.ParseFault.TheVariants as faults
use Rattle.fs_parser.proofs.Complete.{one_reading}
use Rattle.fs_parser.proofs.Steps.{same_brackets}

-- ---- what is allowed stands for one IRI

one_more : (known : Prefixes) (d : List ℕ × List ℕ) → StandForOne known → ((iri : List ℕ) → Contains known (d.0, iri) → ⊥) → StandForOne (known ++ d ∷ [])
one_more known d one fresh name iri other c k =
    elim (Contains-push_cases known d (name, iri) c) [
      | inl m ↦ elim (Contains-push_cases known d (name, other) k) [
        | inl n ↦ one name iri other m n
        | inr f ↦ absurd (fresh iri (subst (λ (z : List ℕ). Contains known (z, iri)) (sym (ap (λ (p : List ℕ × List ℕ). p.0) f)) m))
      ]
      | inr e ↦ elim (Contains-push_cases known d (name, other) k) [
        | inl n ↦ absurd (fresh other (subst (λ (z : List ℕ). Contains known (z, other)) (sym (ap (λ (p : List ℕ × List ℕ). p.0) e)) n))
        | inr f ↦ ap (λ (p : List ℕ × List ℕ). p.1) (sym e ∙ f)
      ]
    ]

again : (known : Prefixes) (d : List ℕ × List ℕ) → StandForOne known → Contains known d → StandForOne (known ++ d ∷ [])
again known d one there name iri other c k = one name iri other (inside (name, iri) c) (inside (name, other) k)
  where
    inside : (p : List ℕ × List ℕ) → Contains (known ++ d ∷ []) p → Contains known p
    inside p c = elim (Contains-push_cases known d p c) [ inl l ↦ l | inr e ↦ subst (Contains known) e there ]

all_one : (known ds : Prefixes) → StandForOne known → ((d : List ℕ × List ℕ) → Contains standard_prefixes d → Contains known d) → AreAllowed known ds → StandForOne (known ++ ds)
all_one known [] one has allowed = subst StandForOne (sym (append-nil known)) one
all_one known (d ∷ ds) one has allowed =
    let more : StandForOne (known ++ d ∷ []) = elim allowed.0 [ inl c ↦ again known d one (has d c) | inr fresh ↦ one_more known d one fresh ] in
    let all : StandForOne ((known ++ d ∷ []) ++ ds) = all_one (known ++ d ∷ []) ds more (λ p c. Contains-append_left known (d ∷ []) p (has p c)) allowed.1 in
    subst StandForOne (append_assoc known (d ∷ []) ds) all

-- names that are none of the list's
fresh_none : (name iri : List ℕ) → Contains {X = List ℕ × List ℕ} [] (name, iri) → ⊥
fresh_none name iri c = Contains-none (name, iri) c

fresh_more : (known : Prefixes) (p : List ℕ × List ℕ) (name : List ℕ) → (p.0 ≡ name → ⊥) → ((iri : List ℕ) → Contains known (name, iri) → ⊥) → (iri : List ℕ) → Contains (p ∷ known) (name, iri) → ⊥
fresh_more known p name apart none iri c =
    elim (Contains-cons_cases p (name, iri) known c) [ inl e ↦ apart (ap (λ (r : List ℕ × List ℕ). r.0) e) | inr l ↦ none iri l ]

-- tells the standard names apart
abbrev key : List ℕ → ℕ
key name = get_or name 0 0 + 1000 * get_or name 3 0

less : (a b : List ℕ) → ltb (key a) (key b) ≡ true → a ≡ b → ⊥
less a b h e = let l = ltb-true (key a) (key b) h in let k : key a ≡ key b = ap key e in absurd (omega arith)

more : (a b : List ℕ) → ltb (key b) (key a) ≡ true → a ≡ b → ⊥
more a b h e = less b a h (sym e)

pub standard_one : StandForOne standard_prefixes
unfolding standard_prefixes
standard_one =
    let rdf : List ℕ × List ℕ = (codes "rdf", codes "http://www.w3.org/1999/02/22-rdf-syntax-ns#") in
    let rdfs : List ℕ × List ℕ = (codes "rdfs", codes "http://www.w3.org/2000/01/rdf-schema#") in
    let xsd : List ℕ × List ℕ = (codes "xsd", codes "http://www.w3.org/2001/XMLSchema#") in
    let owl : List ℕ × List ℕ = (codes "owl", codes "http://www.w3.org/2002/07/owl#") in
    let a : StandForOne [] = λ name iri other c k. absurd (Contains-none (name, iri) c) in
    let b : StandForOne (rdf ∷ []) = one_more [] rdf a (fresh_none rdf.0) in
    let c : StandForOne (rdf ∷ rdfs ∷ []) = one_more (rdf ∷ []) rdfs b (fresh_more [] rdf rdfs.0 (less rdf.0 rdfs.0 refl) (fresh_none rdfs.0)) in
    let d : StandForOne (rdf ∷ rdfs ∷ xsd ∷ []) = one_more (rdf ∷ rdfs ∷ []) xsd c
    (fresh_more (rdfs ∷ []) rdf xsd.0 (less rdf.0 xsd.0 refl) (fresh_more [] rdfs xsd.0 (more rdfs.0 xsd.0 refl) (fresh_none xsd.0))) in
    one_more (rdf ∷ rdfs ∷ xsd ∷ []) owl d
    (fresh_more (rdfs ∷ xsd ∷ []) rdf owl.0 (more rdf.0 owl.0 refl) (fresh_more (xsd ∷ []) rdfs owl.0 (more rdfs.0 owl.0 refl) (fresh_more [] xsd owl.0 (more xsd.0 owl.0 refl) (fresh_none owl.0))))

pub allowed_one : (ds : Prefixes) → AreAllowed standard_prefixes ds → StandForOne (standard_prefixes ++ ds)
allowed_one ds allowed = all_one standard_prefixes ds standard_one (λ d c. c) allowed

-- what may be declared, in two parts
pub allowed_from : (known : Prefixes) (name iri : List ℕ) → MayBeNamed known name → MayStandFor name iri → IsAllowed known (name, iri)
allowed_from known name iri (inl (other, c)) stands = inl (subst (λ (z : List ℕ). Contains standard_prefixes (name, z)) (sym (stands other c)) c)
allowed_from known name iri (inr none) stands = inr none

pub stands_from : (declared : Prefixes) (d : List ℕ × List ℕ) → IsAllowed (standard_prefixes ++ declared) d → MayStandFor d.0 d.1
stands_from declared d (inl c) other k = standard_one d.0 d.1 other c k
stands_from declared d (inr none) other k = absurd (none other (Contains-append_left standard_prefixes declared (d.0, other) k))

-- ---- one declaration

same_pair : (c d : List ℕ × List ℕ) → c.0 ≡ d.0 → c.1 ≡ d.1 → c ≡ d
same_pair c d first second = ap (λ (p : List ℕ). (p, c.1)) first ∙ ap (λ (q : List ℕ). (d.0, q)) second

pub same_name : (a b text : List ℕ) → text ≡ a ++ codes ":" → text ≡ b ++ codes ":" → a ≡ b
same_name a b text h k = append_cancel_right a b (codes ":") (sym h ∙ k)

pub one_declaration : (c d : List ℕ × List ℕ) (tokens x y : List Token) → IsDeclaration c tokens x → IsDeclaration d tokens y → (c ≡ d) × (x ≡ y)
one_declaration c d tokens x y h k =
    let all : h.word ∷ h.opening ∷ h.name ∷ h.equals ∷ h.iri ∷ h.closing ∷ x ≡ k.word ∷ k.opening ∷ k.name ∷ k.equals ∷ k.iri ∷ k.closing ∷ y = sym h.tokens_are ∙ k.tokens_are in
    let name : h.name ≡ k.name = cc in
    let iri : h.iri ≡ k.iri = cc in
    let rest : x ≡ y = cc in
    let first : c.0 ≡ d.0 = same_name c.0 d.0 k.name.text (subst (λ (t : Token). t.text ≡ c.0 ++ codes ":") name h.name_is.1) k.name_is.1 in
    let second : c.1 ≡ d.1 = same_brackets d.1 c.1 k.iri.text k.iri_is.1 (subst (λ (t : Token). IsBracketed c.1 t.text) iri h.iri_is.1) in
    (same_pair c d first second, rest)

-- the IRI of a declaration of which the name was read
pub declared_iri : (declared : Prefixes) (d : List ℕ × List ℕ) (tokens rest : List Token) (t u v w x : Token) (more : List Token) (name : List ℕ)
    → tokens ≡ t ∷ u ∷ v ∷ w ∷ x ∷ more → v.text ≡ name ++ codes ":" → IsDeclaration d tokens rest → IsAllowed (standard_prefixes ++ declared) d
    → IsBracketed d.1 x.text × MayStandFor name d.1
declared_iri declared d tokens rest t u v w x more name e f h a =
    let all : h.word ∷ h.opening ∷ h.name ∷ h.equals ∷ h.iri ∷ h.closing ∷ rest ≡ t ∷ u ∷ v ∷ w ∷ x ∷ more = sym h.tokens_are ∙ e in
    let named : h.name ≡ v = cc in
    let iri : h.iri ≡ x = cc in
    let same : d.0 ≡ name = append_cancel_right d.0 name (codes ":") (sym h.name_is.1 ∙ ap (λ (z : Token). z.text) named ∙ f) in
    (subst (λ (z : Token). IsBracketed d.1 z.text) iri h.iri_is.1, subst (λ (n : List ℕ). MayStandFor n d.1) same (stands_from declared d a))

begins_prefix : (d : List ℕ × List ℕ) (tokens x : List Token) → IsDeclaration d tokens x → BeginsWith (codes "Prefix") tokens
begins_prefix d tokens x h = subst (BeginsWith (codes "Prefix")) (sym h.tokens_are) h.keyword

begins_ontology : (limit : ℕ) (prefixes : Prefixes) (trees : Trees) (tokens : List Token) → IsOntology limit prefixes trees tokens → BeginsWith (codes "Ontology") tokens
begins_ontology limit prefixes trees tokens h = subst (BeginsWith (codes "Ontology")) (sym h.tokens_are) h.keyword

not_both : (tokens : List Token) → BeginsWith (codes "Prefix") tokens → BeginsWith (codes "Ontology") tokens → ⊥
not_both [] h k = h
not_both (t ∷ ts) h k = let e : codes "Prefix" ≡ codes "Ontology" = sym h.1 ∙ k.1 in cc

-- ---- declarations one after the other

pub declared_more : (ds : Prefixes) (d : List ℕ × List ℕ) (tokens x y : List Token) → AreDeclarations ds tokens x → IsDeclaration d x y → AreDeclarations (ds ++ d ∷ []) tokens y
declared_more [] d tokens x y h k = (y, subst (λ (ts : List Token). IsDeclaration d ts y) (sym h) k, refl)
declared_more (e ∷ ds) d tokens x y h k = (h.0, h.1, declared_more ds d h.0 x y h.2 k)

pub allowed_more : (known ds : Prefixes) (d : List ℕ × List ℕ) → AreAllowed known ds → IsAllowed (known ++ ds) d → AreAllowed known (ds ++ d ∷ [])
allowed_more known [] d h k = (subst (λ (ps : Prefixes). IsAllowed ps d) (append-nil known) k, tt)
allowed_more known (e ∷ ds) d h k =
    (h.0, allowed_more (known ++ e ∷ []) ds d h.1 (subst (λ (ps : Prefixes). IsAllowed ps d) (sym (append_assoc known (e ∷ []) ds)) k))

allowed_rest : (known ds others : Prefixes) → AreAllowed known (ds ++ others) → AreAllowed (known ++ ds) others
allowed_rest known [] others h = subst (λ (ps : Prefixes). AreAllowed ps others) (sym (append-nil known)) h
allowed_rest known (d ∷ ds) others h =
    subst (λ (ps : Prefixes). AreAllowed ps others) (append_assoc known (d ∷ []) ds) (allowed_rest (known ++ d ∷ []) ds others h.1)

-- what a document declares behind what was read
pub record IsBehind (ds es : Prefixes) (x y : List Token) : Type 0 where
  pub others : Prefixes
  pub declared : es ≡ ds ++ others
  pub declarations : AreDeclarations others x y

behind : (ds es : Prefixes) (tokens x y : List Token) → AreDeclarations ds tokens x → AreDeclarations es tokens y → BeginsWith (codes "Ontology") y → IsBehind ds es x y
behind [] es tokens x y h k b = record { others = es; declared = refl; declarations = subst (λ (ts : List Token). AreDeclarations es ts y) h k }
behind (d ∷ ds) [] tokens x y h k b = absurd (not_both y (subst (BeginsWith (codes "Prefix")) k (begins_prefix d tokens h.0 h.1)) b)
behind (d ∷ ds) (e ∷ es) tokens x y h k b =
    let same = one_declaration d e tokens h.0 k.0 h.1 k.1 in
    let r = behind ds es h.0 x y h.2 (subst (λ (ts : List Token). AreDeclarations es ts y) (sym same.1) k.2) b in
    record {
      others = r.others;
      declared = ap (λ (p : List ℕ × List ℕ). p ∷ es) (sym same.0) ∙ ap (λ (ps : Prefixes). d ∷ ps) r.declared;
      declarations = r.declarations;
    }

-- no more of them
none_behind : (others : Prefixes) (x y : List Token) → AreDeclarations others x y → (BeginsWith (codes "Prefix") x → ⊥) → (others ≡ []) × (x ≡ y)
none_behind [] x y h none = (refl, h)
none_behind (d ∷ ds) x y h none = absurd (none (begins_prefix d x h.0 h.1))

-- ---- documents

-- where a declaration stands that is none, or is not allowed, there is no document
pub no_declaration : (ds : Prefixes) (tokens x : List Token) → AreDeclarations ds tokens x → BeginsWith (codes "Prefix") x
    → ((d : List ℕ × List ℕ) (rest : List Token) → IsDeclaration d x rest → IsAllowed (standard_prefixes ++ ds) d → ⊥)
    → (document : Document) → IsDocument document tokens → ⊥
no_declaration ds tokens x h b refused document k =
    let o = begins_ontology 64 (prefixes_of document) document.trees k.rest k.ontology in
    let r = behind ds document.declared tokens x k.rest h k.declarations o in
    go r.others (subst (AreAllowed standard_prefixes) r.declared k.allowed) r.declarations o
  where
    go : (others : Prefixes) → AreAllowed standard_prefixes (ds ++ others) → AreDeclarations others x k.rest → BeginsWith (codes "Ontology") k.rest → ⊥
    go [] allowed same o = not_both x b (subst (BeginsWith (codes "Ontology")) (sym same) o)
    go (d ∷ more) allowed are o = refused d are.0 are.1 (allowed_rest standard_prefixes ds (d ∷ more) allowed).0

-- where no declaration stands behind those that were read, a document has declared just these, and its ontology stands there
pub is_ontology : (ds : Prefixes) (tokens x : List Token) → AreDeclarations ds tokens x → (BeginsWith (codes "Prefix") x → ⊥)
    → (document : Document) → IsDocument document tokens → (document.declared ≡ ds) × IsOntology 64 (standard_prefixes ++ ds) document.trees x
is_ontology ds tokens x h none document k =
    let o = begins_ontology 64 (prefixes_of document) document.trees k.rest k.ontology in
    let r = behind ds document.declared tokens x k.rest h k.declarations o in
    let (nothing, same) = none_behind r.others x k.rest r.declarations none in
    let declared : document.declared ≡ ds = r.declared ∙ ap (λ (ps : Prefixes). ds ++ ps) nothing ∙ append-nil ds in (
      declared,
      subst (λ (ps : Prefixes). IsOntology 64 (standard_prefixes ++ ps) document.trees x) declared
          (subst (λ (ts : List Token). IsOntology 64 (prefixes_of document) document.trees ts) (sym same) k.ontology),
    )

pub refusal_fails : {Y : Type 0} (e : ParseFault) (y : Y) → IsRefusal e → Fails e (Some y) → ⊥
refusal_fails faults.Memory y r f = r
refusal_fails (faults.Unexpected at) y r f = let k : Some y ≡ None = f in cc
refusal_fails (faults.UnexpectedEnd at) y r f = let k : Some y ≡ None = f in cc
refusal_fails (faults.UnknownPrefix at) y r f = let k : Some y ≡ None = f in cc
refusal_fails (faults.PrefixTwice at) y r f = let k : Some y ≡ None = f in cc
refusal_fails (faults.StandardPrefixChanged at) y r f = let k : Some y ≡ None = f in cc
refusal_fails (faults.TooDeep at) y r f = let k : Some y ≡ None = f in cc

-- ---- there is one

one_ontology : (limit : ℕ) (prefixes : Prefixes) → StandForOne prefixes → (tokens : List Token) (a b : Trees) → IsOntology limit prefixes a tokens → IsOntology limit prefixes b tokens → a ≡ b
one_ontology limit prefixes are tokens a b h k =
    let all : h.word ∷ h.opening ∷ h.inside ≡ k.word ∷ k.opening ∷ k.inside = sym h.tokens_are ∙ k.tokens_are in
    let inside : h.inside ≡ k.inside = cc in
    let ends = sym h.closed.tokens_are ∙ inside ∙ k.closed.tokens_are in
    let inner = (same_from_push h.closed.inner k.closed.inner h.closed.closing k.closed.closing ends).0 in
    one_reading prefixes are h.closed.inner a b h.closed.are_trees (subst (λ (ts : List Token). AreTrees prefixes b ts) (sym inner) k.closed.are_trees)

pub one_document : (tokens : List Token) (d e : Document) → IsDocument d tokens → IsDocument e tokens → d ≡ e
one_document tokens d e h k =
    let o = begins_ontology 64 (prefixes_of d) d.trees h.rest h.ontology in
    let (declared, other) = is_ontology d.declared tokens h.rest h.declarations (λ b. not_both h.rest b o) e k in
    let trees = one_ontology 64 (prefixes_of d) (allowed_one d.declared h.allowed) h.rest d.trees e.trees h.ontology other in
    ap (λ (ts : Trees). record { declared = d.declared; trees = ts }) trees ∙ ap (λ (ps : Prefixes). record { declared = ps; trees = e.trees }) (sym declared)

pub document_prefixes : (document : Document) (tokens : List Token) → IsDocument document tokens → StandForOne (prefixes_of document)
document_prefixes document tokens h = allowed_one document.declared h.allowed

-- ---- the code's tokens

tokens-drop : (ts : List lexer.Token) (i : ℕ) → tokens_of (drop i ts) ≡ drop i (tokens_of ts)
tokens-drop [] zero = refl
tokens-drop [] (suc i) = refl
tokens-drop (t ∷ ts) zero = refl
tokens-drop (t ∷ ts) (suc i) = tokens-drop ts i

pub tokens_from : (ts : List lexer.Token) (i : ℕ) → tokens_of (take (length ts - i) (drop i ts)) ≡ drop i (tokens_of ts)
tokens_from ts i = ap tokens_of (take_rest ts i) ∙ tokens-drop ts i

pub six_behind : (ts : List Token) (i : ℕ) → drop 6 (drop i ts) ≡ drop (i + 6) ts
six_behind ts i = drop-drop 6 i ts ∙ ap (λ (n : ℕ). drop n ts) (omega arith)

pub six_there : (d : List ℕ × List ℕ) (ts rest : List Token) (i : ℕ) → IsDeclaration d (drop i ts) rest → i + 6 ≤ length ts
six_there d ts rest i h = omega (arith, length-drop i ts, ap length h.tokens_are)

-- ---- the loop

-- so many of the tokens are these declarations, which are allowed
abbrev pub HasRead : List lexer.Token → ℕ → Prefixes → Type 0
HasRead ts i ds = (i ≤ length ts) × AreDeclarations ds (tokens_of ts) (drop i (tokens_of ts)) × AreAllowed standard_prefixes ds

pub nothing_read : (ts : List lexer.Token) (ds : Prefixes) → ds ≡ [] → HasRead ts 0 ds
nothing_read ts ds e = rw e (omega arith, refl, tt)

length-tokens : (ts : List lexer.Token) → length (tokens_of ts) ≡ length ts
length-tokens [] = refl
length-tokens (t ∷ ts) = ap (λ (n : ℕ). suc n) (length-tokens ts)

abbrev pub from_there : List lexer.Token → ℕ → List Token
from_there ts i = tokens_of (take (length ts - i) (drop i ts))

pub one_read : (ts : List lexer.Token) (i : ℕ) (ds es : Prefixes) (d : List ℕ × List ℕ) → HasRead ts i ds → IsDeclaration d (from_there ts i) (drop 6 (from_there ts i))
    → IsAllowed (standard_prefixes ++ ds) d → es ≡ ds ++ d ∷ [] → HasRead ts (i + 6) es
one_read ts i ds es d h k a e =
    let there : IsDeclaration d (drop i (tokens_of ts)) (drop 6 (drop i (tokens_of ts))) =
    subst (λ (x : List Token). IsDeclaration d x (drop 6 x)) (tokens_from ts i) k in
    let more : IsDeclaration d (drop i (tokens_of ts)) (drop (i + 6) (tokens_of ts)) =
    subst (λ (x : List Token). IsDeclaration d (drop i (tokens_of ts)) x) (six_behind (tokens_of ts) i) there in
    let enough = six_there d (tokens_of ts) (drop 6 (drop i (tokens_of ts))) i there in
    rw e (
      omega (arith, enough, length-tokens ts),
      declared_more ds d (tokens_of ts) (drop i (tokens_of ts)) (drop (i + 6) (tokens_of ts)) h.1 more,
      allowed_more standard_prefixes ds d h.2 a,
    )

pub none_declared : (ts : List lexer.Token) (i : ℕ) (ds : Prefixes) → HasRead ts i ds → BeginsWith (codes "Prefix") (from_there ts i)
    → ((d : List ℕ × List ℕ) (rest : List Token) → IsDeclaration d (from_there ts i) rest → IsAllowed (standard_prefixes ++ ds) d → ⊥)
    → (document : Document) → IsDocument document (tokens_of ts) → ⊥
none_declared ts i ds h b refused =
    no_declaration ds (tokens_of ts) (drop i (tokens_of ts)) h.1 (subst (BeginsWith (codes "Prefix")) (tokens_from ts i) b)
    (λ d rest k. refused d rest (subst (λ (x : List Token). IsDeclaration d x rest) (sym (tokens_from ts i)) k))

pub document_read : (ts : List lexer.Token) (i : ℕ) (ds : Prefixes) (trees : Trees) → HasRead ts i ds → IsOntology 64 (standard_prefixes ++ ds) trees (from_there ts i)
    → IsDocument (record { declared = ds; trees = trees }) (tokens_of ts)
document_read ts i ds trees h o =
    record {
      rest = drop i (tokens_of ts);
      declarations = h.1;
      allowed = h.2;
      ontology = subst (λ (x : List Token). IsOntology 64 (standard_prefixes ++ ds) trees x) (tokens_from ts i) o;
    }

pub none_read : (ts : List lexer.Token) (i : ℕ) (ds : Prefixes) (e : ParseFault) → HasRead ts i ds → (BeginsWith (codes "Prefix") (from_there ts i) → ⊥)
    → ((trees : Trees) → IsOntology 64 (standard_prefixes ++ ds) trees (from_there ts i) → Fails e (Some trees)) → IsRefusal e
    → (document : Document) → IsDocument document (tokens_of ts) → ⊥
none_read ts i ds e h none only refusal document k =
    let (declared, o) = is_ontology ds (tokens_of ts) (drop i (tokens_of ts)) h.1 (λ b. none (subst (BeginsWith (codes "Prefix")) (sym (tokens_from ts i)) b)) document k in
    refusal_fails e document.trees refusal (only document.trees (subst (λ (x : List Token). IsOntology 64 (standard_prefixes ++ ds) document.trees x) (sym (tokens_from ts i)) o))
