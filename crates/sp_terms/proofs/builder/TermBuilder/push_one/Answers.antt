use Rattle.std.proofs.Common.{◌≡◌, ap, sym, ◌∙◌, subst, refl, ◌++◌, ◌∷◌, [], Some, None, ℕ, List, arith}
use Rattle.std.specs.List.{sum_by}
use Rattle.sp_terms.specs.declared.position.Position.{Position}
use Rattle.sp_terms.specs.declared.builder.Ends.{Ends}
use Rattle.sp_terms.specs.declared.builder.PushRefusal.TheVariants.{Short, Limit, Share}
use Rattle.sp_terms.specs.Builder.{refusal_of, is_short, passed_limit}
use Rattle.sp_terms.specs.Ends.{over_ends, initial_at}
use Rattle.sp_terms.proofs.BuilderLemmas.{refusal_is, builder_more, light}
use Rattle.sp_terms.proofs.builder.TermBuilder.push_one.Goals as goal

pub returns-then-short : goal.returns-then-short
returns-then-short c =
    let short =
    ap (λ (n : ℕ). is_short n c.args.p) (sym (c.len.ensures ∙ c.self.inside.ends.ok.0)) ∙ sym c.short.ensures ∙ c.if-short.true in (
      subst (λ (z : List Position). refusal_of z c.args.p ≡ Some Short) c.self.view_is
          (refusal_is _ _ _ _ c.args.p c.self.invariant ∙ rw short refl),
      refl,
    )

pub returns-in-Some : goal.returns-in-Some
returns-in-Some c =
    let short =
    ap (λ (n : ℕ). is_short n c.args.p) (sym (c.len.ensures ∙ c.self.inside.ends.ok.0)) ∙ sym c.short.ensures ∙ c.if-short.false in
    let limit = ap (λ (n : ℕ). passed_limit n c.self.inside.tasks c.self.inside.total c.args.p)
    (sym (c.len-2.ensures ∙ c.self.inside.positions.ok.0))
    ∙ sym c.in-Some.ensures in (
      subst (λ (z : List Position). refusal_of z c.args.p ≡ Some (Limit c.in-Some.name)) c.self.view_is
          (refusal_is _ _ _ _ c.args.p c.self.invariant ∙ rw (short, limit) refl),
      refl,
    )

pub overshared-requires-clause-total : goal.overshared-requires-clause-total
overshared-requires-clause-total c = omega (arith, (light _ _ _ _ c.self.invariant).0, ap (sum_by initial_at) c.deref.ensures.value)

pub append-requires-clause-initial : goal.append-requires-clause-initial
append-requires-clause-initial c = (light _ _ _ _ c.self.invariant).0

pub append-requires-clause-fin : goal.append-requires-clause-fin
append-requires-clause-fin c = (light _ _ _ _ c.self.invariant).1

pub returns-then-overshared : goal.returns-then-overshared
returns-then-overshared c =
    let short =
    ap (λ (n : ℕ). is_short n c.args.p) (sym (c.len.ensures ∙ c.self.inside.ends.ok.0)) ∙ sym c.short.ensures ∙ c.if-short.false in
    let limit = ap (λ (n : ℕ). passed_limit n c.self.inside.tasks c.self.inside.total c.args.p)
    (sym (c.len-2.ensures ∙ c.self.inside.positions.ok.0))
    ∙ sym c.in_default.ensures in
    let over =
    ap (λ (z : List Ends). over_ends z c.args.p) (sym c.deref.ensures.value) ∙ sym c.overshared.ensures ∙ c.if-overshared.true in (
      subst (λ (z : List Position). refusal_of z c.args.p ≡ Some Share) c.self.view_is
          (refusal_is _ _ _ _ c.args.p c.self.invariant ∙ rw (short, limit, over) refl),
      refl,
    )

pub invariant_of-self-2 : goal.invariant_of-self-2
invariant_of-self-2 c =
    let short =
    ap (λ (n : ℕ). is_short n c.args.p) (sym (c.len.ensures ∙ c.self.inside.ends.ok.0)) ∙ sym c.short.ensures ∙ c.if-short.false in
    let limit = ap (λ (n : ℕ). passed_limit n c.self.inside.tasks c.self.inside.total c.args.p)
    (sym (c.len-2.ensures ∙ c.self.inside.positions.ok.0))
    ∙ sym c.in_default.ensures in
    let over =
    ap (λ (z : List Ends). over_ends z c.args.p) (sym c.deref.ensures.value) ∙ sym c.overshared.ensures ∙ c.if-overshared.false in
    rw (c.in_ok-append.ensures.positions, c.in_ok-append.ensures.ends, c.tasks_of_position.ensures, c.size.ensures)
    (builder_more _ _ _ _ c.args.p c.self.invariant c.requires short limit over)

pub returns : goal.returns
returns c =
    let short =
    ap (λ (n : ℕ). is_short n c.args.p) (sym (c.len.ensures ∙ c.self.inside.ends.ok.0)) ∙ sym c.short.ensures ∙ c.if-short.false in
    let limit = ap (λ (n : ℕ). passed_limit n c.self.inside.tasks c.self.inside.total c.args.p)
    (sym (c.len-2.ensures ∙ c.self.inside.positions.ok.0))
    ∙ sym c.in_default.ensures in
    let over =
    ap (λ (z : List Ends). over_ends z c.args.p) (sym c.deref.ensures.value) ∙ sym c.overshared.ensures ∙ c.if-overshared.false in (
      subst (λ (z : List Position). refusal_of z c.args.p ≡ None) c.self.view_is
          (refusal_is _ _ _ _ c.args.p c.self.invariant ∙ rw (short, limit, over) refl),
      c.in_ok-append.ensures.positions ∙ ap (λ (z : List Position). z ++ c.args.p ∷ []) c.self.view_is,
    )
