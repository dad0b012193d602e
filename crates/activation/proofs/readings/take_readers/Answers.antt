use Rattle.std.proofs.Common.{◌≡◌, ◌≢◌, ℕ, ◌+◌, ◌-◌, ◌<◌, ◌≤◌, cond, Bool, true, false, List, length, take, get_or, set, refl, sym, ◌∙◌, ap, arith}
use Rattle.std.proofs.Common.{get_or-set_same, get_or-set_other, ⊎_elim}
use Rattle.std.specs.Prelude.{count_by, ◌==◌}
use Rattle.std.specs.List.{sum_by}
use Rattle.std.proofs.lemmas.Bool.{cases_eq, eq-eqb, ne_eqb}
use Rattle.std.proofs.lemmas.List.Sums.{sum_by_more, sum_by-take-le, sum_by_more_le_part}
use Rattle.activation.proofs.readings.take_readers.Goals as goal
use Rattle.activation.proofs.readings.take_readers.Goals.{then-left-item-eq0, else-left-item-eq0}

-- a number of the row has not come before
not_before : (row : List ℕ) (i : ℕ) → i < length row → ((j : ℕ) → count_by (λ q. q == j) row ≤ 1)
    → count_by (λ q. q == get_or row i 0) (take i row) ≡ 0
not_before row i lt once =
    let here : ◌≡◌ {A = ℕ} (cond (get_or row i 0 == get_or row i 0) 1 0) 1 =
    ap {B = ℕ} (λ (b : Bool). cond b 1 0) (eq-eqb (get_or row i 0) (get_or row i 0) refl) in
    omega (
      arith,
      here,
      sum_by_more (λ q. cond (q == get_or row i 0) 1 0) row i 0 lt,
      sum_by-take-le (λ q. cond (q == get_or row i 0) 1 0) row (i + 1),
      once (get_or row i 0),
    )

module _ (row sizes initial left : List ℕ) (i : ℕ) (lt : i < length row) (once : (j : ℕ) → count_by (λ q. q == j) row ≤ 1)
    (long : length left ≡ length initial) (within : get_or row i 0 < length initial) (some : 1 ≤ get_or initial (get_or row i 0) 0)
    (before : (j : ℕ) → j < length initial → get_or left j 0 + count_by (λ q. q == j) (take i row) ≡ get_or initial j 0) where
  same_left : get_or left (get_or row i 0) 0 ≡ get_or initial (get_or row i 0) 0
  same_left = omega (arith, before (get_or row i 0) within, not_before row i lt once)

  next_left : (j : ℕ) → j < length initial →
      get_or (set left (get_or row i 0) (get_or left (get_or row i 0) 0 - 1)) j 0 + count_by (λ q. q == j) (take (i + 1) row)
      ≡ get_or initial j 0
  next_left j fits =
      let more = sum_by_more (λ q. cond (q == j) 1 0) row i 0 lt in
      ⊎_elim
      (λ (e : get_or row i 0 ≡ j).
      let one : ◌≡◌ {A = ℕ} (cond (get_or row i 0 == j) 1 0) 1 = ap {B = ℕ} (λ (b : Bool). cond b 1 0) (eq-eqb (get_or row i 0) j e) in
      let put : get_or (set left (get_or row i 0) (get_or left (get_or row i 0) 0 - 1)) j 0 ≡ get_or left (get_or row i 0) 0 - 1 =
      rw (← e) (let w : get_or row i 0 < length left = omega (arith, within, long) in rw get_or-set_same) in
      let at : get_or initial (get_or row i 0) 0 ≡ get_or initial j 0 = ap (λ (k : ℕ). get_or initial k 0) e in
      let old : get_or left (get_or row i 0) 0 ≡ get_or left j 0 = ap (λ (k : ℕ). get_or left k 0) e in
      omega (arith, more, one, put, at, old, before j fits, some, same_left))
      (λ (o : get_or row i 0 ≢ j).
      let none : ◌≡◌ {A = ℕ} (cond (get_or row i 0 == j) 1 0) 0 = ap {B = ℕ} (λ (b : Bool). cond b 1 0) (ne_eqb (get_or row i 0) j o) in
      let kept : get_or (set left (get_or row i 0) (get_or left (get_or row i 0) 0 - 1)) j 0 ≡ get_or left j 0 =
      (let m : j ≢ get_or row i 0 = λ z. o (sym z) in rw get_or-set_other) in
      omega (arith, more, none, kept, before j fits))
      (cases_eq (get_or row i 0) j)

  -- one was left exactly where none is now
  none_now : get_or (set left (get_or row i 0) (get_or left (get_or row i 0) 0 - 1)) (get_or row i 0) 0
      ≡ get_or initial (get_or row i 0) 0 - 1
  none_now = (let w : get_or row i 0 < length left = omega (arith, within, long) in rw get_or-set_same) ∙ ap (λ (n : ℕ). n - 1) same_left

  next_freed : (freed more size : ℕ) → freed ≡ sum_by (λ j. cond (get_or initial j 0 == 1) (get_or sizes j 0) 0) (take i row)
      → size ≡ cond (get_or initial (get_or row i 0) 0 == 1) (get_or sizes (get_or row i 0) 0) 0 → more ≡ freed + size
      → more ≡ sum_by (λ j. cond (get_or initial j 0 == 1) (get_or sizes j 0) 0) (take (i + 1) row)
  next_freed freed more size was is sum =
      omega (arith, was, is, sum, sum_by_more (λ j. cond (get_or initial j 0 == 1) (get_or sizes j 0) 0) row i 0 lt)

pub overflow_sub-left : goal.overflow_sub-left
overflow_sub-left c =
    let row = c.args.row.now in
    let i = c.loop-item.item-index in
    let lt = c.loop-item-test.true in
    let within = c.requires.within i 0 lt in
    omega (arith, c.loop-item.invariant.left (get_or row i 0) within.0, not_before row i lt c.requires.once, c.requires.some i 0 lt)

pub overflow_add-freed : goal.overflow_add-freed
overflow_add-freed c =
    let row = c.args.row.now in
    let sizes = c.args.sizes.now in
    let initial = c.args.left.now in
    let i = c.loop-item.item-index in
    let lt = c.loop-item-test.true in
    let within = c.requires.within i 0 lt in
    let now = none_now row sizes initial c.loop-item.left i lt c.requires.once c.loop-item.auto.left within.0
    (c.requires.some i 0 lt) c.loop-item.invariant.left in
    let one : (get_or initial (get_or row i 0) 0 == 1) ≡ true =
    eq-eqb (get_or initial (get_or row i 0) 0) 1 (omega (arith, now, c.if-left-item-eq0.true, c.requires.some i 0 lt)) in
    let term : cond (get_or initial (get_or row i 0) 0 == 1) (get_or sizes (get_or row i 0) 0) 0 ≡ get_or sizes (get_or row i 0) 0 =
    ap (λ (b : Bool). cond b (get_or sizes (get_or row i 0) 0) 0) one in
    let part = sum_by_more_le_part (λ j. cond (get_or initial j 0 == 1) (get_or sizes j 0) 0) (λ j. get_or sizes j 0) row i 0 lt
    (λ j. less (get_or initial j 0 == 1) (get_or sizes j 0)) in
    omega (arith, part, term, c.loop-item.invariant.freed, c.requires.total)
  where
    less : (b : Bool) (n : ℕ) → cond b n 0 ≤ n
    less true n = omega arith
    less false n = omega arith

pub loop-item-preserved : goal.loop-item-preserved
loop-item-preserved c =
    let row = c.args.row.now in
    let sizes = c.args.sizes.now in
    let initial = c.args.left.now in
    let i = c.loop-item.item-index in
    let lt = c.loop-item-test.true in
    let within = c.requires.within i 0 lt in
    let some = c.requires.some i 0 lt in
    let now = none_now row sizes initial c.loop-item.left i lt c.requires.once c.loop-item.auto.left within.0
    some c.loop-item.invariant.left in
    let freed = next_freed row sizes initial c.loop-item.left i lt c.requires.once c.loop-item.auto.left within.0
    some c.loop-item.invariant.left in
    let left = next_left row sizes initial c.loop-item.left i lt c.requires.once c.loop-item.auto.left within.0
    some c.loop-item.invariant.left in
    elim c.if-left-item-eq0.branch [
      | then-left-item-eq0 w ↦
          let one : (get_or initial (get_or row i 0) 0 == 1) ≡ true =
          eq-eqb (get_or initial (get_or row i 0) 0) 1 (omega (arith, now, w.if-left-item-eq0.true, some)) in
          record {
            left = left;
            freed = freed c.loop-item.freed c.if-left-item-eq0.freed (get_or sizes (get_or row i 0) 0) c.loop-item.invariant.freed
                (sym (ap (λ (b : Bool). cond b (get_or sizes (get_or row i 0) 0) 0) one)) w.freed-is;
          }
      | else-left-item-eq0 w ↦
          let none : (get_or initial (get_or row i 0) 0 == 1) ≡ false =
          ne_eqb (get_or initial (get_or row i 0) 0) 1 (λ e. omega (arith, now, w.if-left-item-eq0.false)) in
          record {
            left = left;
            freed = freed c.loop-item.freed c.if-left-item-eq0.freed 0 c.loop-item.invariant.freed
                (sym (ap (λ (b : Bool). cond b (get_or sizes (get_or row i 0) 0) 0) none)) (omega (arith, w.freed-is));
          }
    ]
