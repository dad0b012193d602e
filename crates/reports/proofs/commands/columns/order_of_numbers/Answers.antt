use Rattle.std.proofs.Common.{◌≡◌, ◌∙◌, ◌<◌, ◌≤◌, ℕ, List, [], ◌∷◌, ◌++◌, length, slice_index, sym, ap, subst, arith}
use Rattle.std.proofs.lemmas.List.{take_all, take_more}
use Rattle.permutations.specs.Perm.{IsPerm, PermState, times}
use Rattle.permutations.proofs.PermLemmas.{fresh_at}
use Rattle.reports.proofs.commands.columns.order_of_numbers.Goals as goal

pub push-requires-clause-vertex : goal.push-requires-clause-vertex
push-requires-clause-vertex c =
    let lt : c.loop-number.number-index < length c.args.numbers.now =
    omega (arith, c.loop-number-test.true, c.loop-number.auto.number-index-end) in
    let is = c.requires.vertices c.loop-number.number-index 0 lt in
    (is.0, omega (arith, is.1, c.loop-number.invariant.1))

pub push-requires-clause-fresh : goal.push-requires-clause-fresh
push-requires-clause-fresh c =
    let lt : c.loop-number.number-index < length c.args.numbers.now =
    omega (arith, c.loop-number-test.true, c.loop-number.auto.number-index-end) in
    ap (λ (taken : List ℕ). times taken (slice_index c.args.numbers.now c.loop-number.number-index)) c.loop-number.invariant.0
    ∙ fresh_at c.args.n c.args.numbers.now c.requires c.loop-number.number-index (omega (arith, lt, c.requires.len))

pub finish-requires : goal.finish-requires
finish-requires c =
    let end : length c.args.numbers.now ≤ c.loop-number.number-index =
    omega (arith, c.loop-number-test.false, c.loop-number.auto.number-index-end) in
    let same : c.loop-number.order.numbers ≡ c.args.numbers.now =
    c.loop-number.invariant.0 ∙ take_all c.loop-number.number-index c.args.numbers.now end in
    let is : IsPerm c.args.n c.loop-number.order.numbers = subst (IsPerm c.args.n) (sym same) c.requires in
    subst (λ (m : ℕ). IsPerm m c.loop-number.order.numbers) (sym is.len) is

pub loop-number-preserved : goal.loop-number-preserved
loop-number-preserved c =
    let lt : c.loop-number.number-index < length c.args.numbers.now =
    omega (arith, c.loop-number-test.true, c.loop-number.auto.number-index-end) in (
      ap (λ (order : PermState). order.numbers) c.in_ok-push.ensures
          ∙ ap (λ (taken : List ℕ). taken ++ slice_index c.args.numbers.now c.loop-number.number-index ∷ []) c.loop-number.invariant.0
          ∙ sym (take_more c.args.numbers.now c.loop-number.number-index 0 lt),
      ap (λ (order : PermState). order.n) c.in_ok-push.ensures ∙ c.loop-number.invariant.1,
    )

pub returns : goal.returns
returns c =
    let end : length c.args.numbers.now ≤ c.loop-number.number-index =
    omega (arith, c.loop-number-test.false, c.loop-number.auto.number-index-end) in
    c.finish.ensures ∙ c.loop-number.invariant.0 ∙ take_all c.loop-number.number-index c.args.numbers.now end
