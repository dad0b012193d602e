use Rattle.std.proofs.Common.{◌≡◌, ◌+◌, ◌∙◌, All, ℕ, List, length, arith, ap, sym, subst}
use Rattle.std.proofs.lemmas.List.Sorted.{length_permutation, All-permutation}
use Rattle.patterns.specs.Pattern.{has}
use Rattle.patterns.specs.Partners.{pairs_in, IsPairBelow}
use Rattle.patterns.proofs.GroupLemmas.{Group}
use Rattle.patterns.proofs.PatternLemmas.{below_from_within, sorted_pattern}
use Rattle.patterns.proofs.pattern.Pattern.from_pairs.Goals as goal

pub partner_counts-requires-clause-few : goal.partner_counts-requires-clause-few
partner_counts-requires-clause-few c =
    omega (
      arith,
      ap (λ (gs : List Group). length (pairs_in gs)) c.deref.ensures.value,
      length_permutation c.args.pairs.items (pairs_in c.in_ok-groups.groups.items) c.in_ok-groups.ensures,
      c.requires.few,
    )

pub partner_counts-requires-clause-below : goal.partner_counts-requires-clause-below
partner_counts-requires-clause-below c =
    let P = IsPairBelow (c.args.order + 1) in
    subst (λ (gs : List Group). All P (pairs_in gs)) (sym c.deref.ensures.value)
    (All-permutation P c.args.pairs.items (pairs_in c.in_ok-groups.groups.items) c.in_ok-groups.ensures
    (below_from_within c.args.order c.args.pairs.items c.requires.within))

pub partner_rows-requires-clause-below : goal.partner_rows-requires-clause-below
partner_rows-requires-clause-below c =
    let count : length c.deref-2.result.now ≡ c.args.order + 1 = ap length c.deref-2.ensures.value ∙ c.in_ok-counts.ensures.len in
    let P = IsPairBelow (c.args.order + 1) in
    subst (λ (n : ℕ). All (IsPairBelow n) (pairs_in c.in_ok-groups.groups.items)) (sym count)
    (All-permutation P c.args.pairs.items (pairs_in c.in_ok-groups.groups.items) c.in_ok-groups.ensures
    (below_from_within c.args.order c.args.pairs.items c.requires.within))

pub invariant_of-result : goal.invariant_of-result
invariant_of-result c =
    let count : length c.deref-2.result.now ≡ c.args.order + 1 = ap length c.deref-2.ensures.value ∙ c.in_ok-counts.ensures.len in
    let e = c.sort_rows.ensures in
    rw c.into_table.ensures
    (sorted_pattern c.args.order c.args.pairs.items
    (pairs_in c.in_ok-groups.groups.items) c.sort_rows.new.self.rows c.requires.order c.requires.within c.in_ok-groups.ensures
    (e.count ∙ c.in_ok-builder.ensures.count ∙ count) e.rising
    (λ v x. e.same v x ∙ ap (λ (l : List ℕ). has l x) (c.in_ok-builder.ensures.each v))).pattern

pub returns : goal.returns
returns c =
    let count : length c.deref-2.result.now ≡ c.args.order + 1 = ap length c.deref-2.ensures.value ∙ c.in_ok-counts.ensures.len in
    let e = c.sort_rows.ensures in
    rw c.into_table.ensures
    (sorted_pattern c.args.order c.args.pairs.items
    (pairs_in c.in_ok-groups.groups.items) c.sort_rows.new.self.rows c.requires.order c.requires.within c.in_ok-groups.ensures
    (e.count ∙ c.in_ok-builder.ensures.count ∙ count) e.rising
    (λ v x. e.same v x ∙ ap (λ (l : List ℕ). has l x) (c.in_ok-builder.ensures.each v)))
