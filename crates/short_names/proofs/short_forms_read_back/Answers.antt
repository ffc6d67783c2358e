use Rattle.std.proofs.Common.{◌≡◌, ◌++◌, ◌∷◌, ℕ, List, Contains, refl, sym, subst, inr}
use Rattle.std.specs.Prelude.{codes}
use Rattle.std.proofs.lemmas.List.{append_cancel_right}
use Rattle.std.proofs.lemmas.List.Elements.{Contains-append_right}
use Rattle.fs_parser.proofs.Names.{ends_at_colon}
use Rattle.fs_parser.specs.Name.{Prefixes}
use Rattle.lemmas.proofs.Members.{Contains-first}
use Rattle.short_names.proofs.short_forms_read_back.Goals as goal

pub returns : goal.returns
returns c = λ ps text iri at form.
    let short = form.short in
    let p = form.prefix in
    let name = ends_at_colon (p.0 ++ codes ":") short.prefix_name in
    let same : p.0 ≡ name.0 = append_cancel_right p.0 name.0 (codes ":") name.1 in (
      (p.0 ++ codes ":", short.local, short.text_is, short.prefix_name, short.local_name),
      inr (
        refl,
        record {
          prefix = p.0;
          base = p.1;
          local = short.local;
          text_is = short.text_is;
          no_colon = subst (λ (xs : List ℕ). Contains xs 58 → ⊥) (sym same) name.2;
          declared = subst (λ (qs : Prefixes). Contains qs p) (sym form.prefixes_are) (Contains-append_right form.before (p ∷ form.behind) p (Contains-first p form.behind));
          iri_is = short.iri_is;
        },
      ),
    )
