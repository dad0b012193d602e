use Rattle.std.proofs.Common.{◌≡◌, ◌≢◌, ◌<◌, ◌-◌, ◌+◌, ◌∷◌, ◌++◌, [], ◌∙◌, ℕ, get_or, arith, ap, Vec}
use Rattle.std.proofs.lemmas.List.{get_or_default}
use Rattle.joined_systems.specs.Joins.{join_count}
use Rattle.joined_systems.proofs.Numbering.{number_none, number_next, number_again, count_next, count_kept, count_zero}
use Rattle.joined_systems.proofs.needs.numbers_of.Goals as goal
use Rattle.joined_systems.proofs.needs.numbers_of.Goals.{then-not-needs-i+in_ok-push, else-not-needs-i+then-leader-i+in_ok-push-2, else-not-needs-i+else-leader-i+in_ok-push-3}

pub loop-i-preserved : goal.loop-i-preserved
loop-i-preserved c = elim c.if-not-needs-i.branch [
  | then-not-needs-i+in_ok-push w ↦ (
      let joins = c.loop-i.joins.items in
      let now : c.if-not-needs-i.joins.items ≡ joins ++ 0 ∷ [] = ap (λ (v : Vec ℕ _). v.items) w.joins-is ∙ w.in_ok-push.ensures.items in
      rw (now, w.count-is) (record {
        are = number_none c.args.leaders.now c.args.needs.now joins c.loop-i.i c.loop-i.invariant.are w.if-not-needs-i.true;
        count_is = omega (arith, count_zero joins, c.loop-i.invariant.count_is);
        low = omega (arith, c.loop-i.invariant.low);
      })
      )
  | else-not-needs-i+then-leader-i+in_ok-push-2 w ↦ (
      let joins = c.loop-i.joins.items in
      let i = c.loop-i.i in
      let now : c.if-not-needs-i.joins.items ≡ joins ++ (join_count joins + 1) ∷ [] =
      ap (λ (v : Vec ℕ _). v.items) w.joins-is ∙ w.in_ok-push-2.ensures.items
      ∙ ap (λ (n : ℕ). joins ++ (n + 1) ∷ []) c.loop-i.invariant.count_is in
      let first : (k : ℕ) → k < i → get_or c.args.leaders.now k 0 ≢ get_or c.args.leaders.now i 0 =
      λ k lt e. omega (arith, (c.requires.low k (omega (arith, lt, c.loop-i-test.true))).1, w.if-leader-i.true, e, lt) in
      rw (now, w.count-is) (record {
        are = number_next c.args.leaders.now c.args.needs.now joins i c.loop-i.invariant.are w.if-not-needs-i.false first;
        count_is = omega (arith, count_next joins, c.loop-i.invariant.count_is);
        low = omega (arith, c.loop-i.invariant.low);
      })
      )
  | else-not-needs-i+else-leader-i+in_ok-push-3 w ↦ (
      let joins = c.loop-i.joins.items in
      let i = c.loop-i.i in
      let leader = get_or c.args.leaders.now i 0 in
      let low = c.requires.low i (omega (arith, c.loop-i-test.true)) in
      let before : leader - 1 < i = omega (arith, low.0, low.1, w.if-leader-i.false) in
      let now : c.if-not-needs-i.joins.items ≡ joins ++ get_or joins (leader - 1) 0 ∷ [] =
      ap (λ (v : Vec ℕ _). v.items) w.joins-is ∙ w.in_ok-push-3.ensures.items
      ∙ ap (λ (n : ℕ). joins ++ n ∷ []) (w.index-join.ensures
      ∙ get_or_default joins (leader - 1) w.index-join.result.now 0 (omega (arith, before, c.loop-i.invariant.are.len))) in
      let there = c.requires.same i (omega (arith, c.loop-i-test.true)) ∙ w.if-not-needs-i.false in
      let own = c.requires.own i (omega (arith, c.loop-i-test.true)) in
      rw (now, w.count-is) (record {
        are = number_again c.args.leaders.now c.args.needs.now joins i c.loop-i.invariant.are (leader - 1) before w.if-not-needs-i.false there own;
        count_is = omega (arith, count_kept joins (leader - 1), c.loop-i.invariant.count_is);
        low = omega (arith, c.loop-i.invariant.low);
      })
      )
]
