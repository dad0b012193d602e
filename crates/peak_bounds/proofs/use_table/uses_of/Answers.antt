use Rattle.std.proofs.Common.{◌≡◌, ◌<◌, ◌≤◌, ◌+◌, ℕ, List, length, map, get_or, All, arith, sym, ap, subst, ◌∙◌}
use Rattle.row_table.specs.Rows.{row_at, numbers_with}
use Rattle.peak_bounds.specs.Moments.{uses_of}
use Rattle.peak_bounds.specs.Judging.{maker_of, taker_of, AreRows}
use Rattle.peak_bounds.proofs.UseLists.{ends_all, ends_few, makers_small, takers_small, uses_are}
use Rattle.peak_bounds.proofs.use_table.uses_of.Goals as goal
use Rattle.peak_bounds.proofs.use_table.uses_of.Goals.{After-deref}

makers_are : (c : After-deref) → c.loop-i.makers.items ≡ map maker_of (uses_of c.args.system.now.items)
makers_are c =
    ends_all maker_of c.items-items.result.now c.args.system.now.items c.loop-i.i c.loop-i.makers.items (omega (arith, c.loop-i-test.false, c.len-i-end.ensures)) c.items-items.ensures.value c.loop-i.invariant.makers

takers_are : (c : After-deref) → c.loop-i.takers.items ≡ map taker_of (uses_of c.args.system.now.items)
takers_are c =
    ends_all taker_of c.items-items.result.now c.args.system.now.items c.loop-i.i c.loop-i.takers.items (omega (arith, c.loop-i-test.false, c.len-i-end.ensures)) c.items-items.ensures.value c.loop-i.invariant.takers

count : (c : After-deref) → length c.tasks.result.now ≡ length c.args.system.now.tasks
count c = ap length c.tasks.ensures.value

small : (n m : ℕ) (xs ys : List ℕ) → n ≡ m → xs ≡ ys → All (λ v. v ≤ n) ys → (k d : ℕ) → k < length xs → get_or xs k d < m + 1
small n m xs ys same is all k d lt = (let e = subst (All (λ v. v ≤ n)) (sym is) all k d lt in omega (arith, e, same))

pub group-requires-clause-below : goal.group-requires-clause-below
group-requires-clause-below c =
    let a = (goal.at.group-requires-clause-below c).After-deref in
    small _ _ c.deref.result.now (map maker_of (uses_of c.args.system.now.items)) (sym (count a)) (c.deref.ensures.value ∙ makers_are a) (makers_small (length c.args.system.now.tasks) c.args.system.now.items c.items-items.ensures.system.items)

pub group-requires-clause-fits : goal.group-requires-clause-fits
group-requires-clause-fits c =
    let a = (goal.at.group-requires-clause-fits c).After-deref in
    omega (arith, ends_few c.args.system.now c.items-items.ensures.system maker_of c.deref.result.now (c.deref.ensures.value ∙ makers_are a))

pub group-requires-2-clause-below : goal.group-requires-2-clause-below
group-requires-2-clause-below c =
    let a = (goal.at.group-requires-2-clause-below c).After-deref in
    small _ _ c.deref-2.result.now (map taker_of (uses_of c.args.system.now.items)) (sym (count a)) (c.deref-2.ensures.value ∙ takers_are a) (takers_small (length c.args.system.now.tasks) c.args.system.now.items c.items-items.ensures.system.items)

pub group-requires-2-clause-fits : goal.group-requires-2-clause-fits
group-requires-2-clause-fits c =
    let a = (goal.at.group-requires-2-clause-fits c).After-deref in
    omega (arith, ends_few c.args.system.now c.items-items.ensures.system taker_of c.deref-2.result.now (c.deref-2.ensures.value ∙ takers_are a))

rows_are : (n m : ℕ) (keys given : List ℕ) (rows : List (List ℕ)) → n ≡ m → given ≡ keys → length rows ≡ m + 1
    → ((k : ℕ) → k < m + 1 → row_at rows k ≡ numbers_with given 0 k) → AreRows n keys rows
rows_are n m keys given rows same is len each = record {
  len = omega (arith, len, same);
  each = λ v le. each v (omega (arith, le, same)) ∙ ap (λ (l : List ℕ). numbers_with l 0 v) is;
}

pub returns : goal.returns
returns c =
    let a = (goal.at.returns c).After-deref in
    let n = length c.args.system.now.tasks in
    uses_are c.args.system.now c.items-items.ensures.system _ (makers_are a) (takers_are a)
    (rows_are n _ c.loop-i.makers.items c.deref.result.now c.in_ok-made.made (sym (count a)) c.deref.ensures.value c.in_ok-made.ensures.len c.in_ok-made.ensures.rows)
    (rows_are n _ c.loop-i.takers.items c.deref-2.result.now c.in_ok-taken.taken (sym (count a)) c.deref-2.ensures.value c.in_ok-taken.ensures.len c.in_ok-taken.ensures.rows)
