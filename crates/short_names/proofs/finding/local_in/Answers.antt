use Rattle.std.proofs.Common.{◌≡◌, ◌++◌, List, ℕ, true, refl, sym, ap, ◌∙◌, subst, Some, None}
use Rattle.std.proofs.lemmas.Bool.Decides.{Decides-eqb}
use Rattle.std.proofs.lemmas.Slice.Eq.{strip_prefix_is}
use Rattle.fs_lexer.proofs.Words.{with_colon}
use Rattle.fs_lexer.specs.Reading.{is_prefix}
use Rattle.short_names.proofs.finding.local_in.Goals as goal

pub returns-in_err-local-clause-none : goal.returns-in_err-local-clause-none
returns-in_err-local-clause-none c =
    let none = strip_prefix_is Decides-eqb c.args.inside.now c.as_slice.result.now None c.in_err-local.ensures.cases in
    rw c.from_residual.ensures (λ text s. none s.local (s.iri_is ∙ ap (λ (xs : List ℕ). xs ++ s.local) (sym c.as_slice.ensures.value)))

pub returns-then-is_local_name-clause-some : goal.returns-then-is_local_name-clause-some
returns-then-is_local_name-clause-some c =
    let found = strip_prefix_is Decides-eqb c.args.inside.now c.as_slice.result.now (Some c.in_ok-local.local) c.in_ok-local.ensures.cases in
    let named : is_prefix c.args.prefix.now.name.now ≡ true = subst (λ (xs : List ℕ). is_prefix xs ≡ true) c.as_bytes.ensures.value (sym c.is_prefix.ensures ∙ c.if-is_prefix.true) in (
      record {
        local = c.in_ok-local.local.now;
        text_is = refl;
        iri_is = found ∙ ap (λ (xs : List ℕ). xs ++ c.in_ok-local.local.now) c.as_slice.ensures.value;
        prefix_name = with_colon c.args.prefix.now.name.now named;
        local_name = sym c.is_local_name.ensures ∙ c.if-is_local_name.true;
      },
      refl,
    )
