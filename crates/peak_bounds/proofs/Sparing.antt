-- What tasks leave beyond what they take up, in lowered sizes, as one size changes.
use Rattle.std.proofs.Common.{◌≡◌, ℕ, zero, suc, ◌+◌, ◌*◌, ◌^◌, ◌<◌, ◌≤◌, Bool, true, false, cond, eqb, List, [], ◌∷◌, length, map, get_or, set, replicate}
use Rattle.std.proofs.Common.{refl, sym, ap, subst, ◌∙◌, arith}
use Rattle.std.specs.Prelude.{ℤ, pos, ◌+ℤ◌, ◌≤ℤ◌, ◌↔◌, All, unsigned_abs}
use Rattle.std.proofs.lemmas.Int.{ints}
use Rattle.std.proofs.lemmas.List.{length-set, length-replicate, get_or-replicate}
use Rattle.std.proofs.lemmas.List.Elements.{All-head, All-tail, All-set}
use Rattle.limits.specs.Limits.{most_total}
use Rattle.mp_system.specs.Replay.{is_marked}
use Rattle.shared_systems.specs.Shared.{SharedTaskSystem, HasTask}
use Rattle.peak_bounds.specs.declared.uses.Use.{Use}
use Rattle.peak_bounds.specs.declared.use_table.UseTable.{UseTable}
use Rattle.peak_bounds.specs.Moments.{uses_of, is_used_by, is_made_for_use, lowered_where}
use Rattle.peak_bounds.specs.Judging.{maker_of, taker_of, size_at, keyed_sum, AreSmall, AreUses, AreEnds, AreSpare, IsWithin}
use Rattle.peak_bounds.proofs.Told.{either_sides}
use Rattle.peak_bounds.proofs.UseTotals.{end_is}

-- ---- sums by a key

-- as the uses have the keys
pub keyed_is : (end : Use → ℕ) (test : Use → Bool) (v : ℕ) → ((u : Use) → eqb (end u) v ≡ test u) → (uses : List Use) (sizes : List ℤ)
    → keyed_sum (map end uses) v sizes ≡ lowered_where test uses sizes
keyed_is end test v same [] sizes = refl
keyed_is end test v same (u ∷ uses) [] = refl
keyed_is end test v same (u ∷ uses) (z ∷ sizes) =
    ap (λ (b : Bool). cond b z (pos 0) +ℤ keyed_sum (map end uses) v sizes) (same u)
    ∙ ap (λ (s : ℤ). cond (test u) z (pos 0) +ℤ s) (keyed_is end test v same uses sizes)

pub keyed_zero : (keys : List ℕ) (v n : ℕ) → keyed_sum keys v (replicate n (pos 0)) ≡ pos 0
keyed_zero [] v n = refl
keyed_zero (key ∷ keys) v zero = refl
keyed_zero (key ∷ keys) v (suc n) = both (eqb key v) (keyed_zero keys v n) where
  both : (b : Bool) → keyed_sum keys v (replicate n (pos 0)) ≡ pos 0 → cond b (pos 0) (pos 0) +ℤ keyed_sum keys v (replicate n (pos 0)) ≡ pos 0
  both true e = omega (arith, ints, e)
  both false e = omega (arith, ints, e)

pub keyed_set : (keys : List ℕ) (v : ℕ) (sizes : List ℤ) (k : ℕ) (z : ℤ) → length keys ≡ length sizes → k < length sizes
    → keyed_sum keys v (set sizes k z) +ℤ cond (eqb (get_or keys k 0) v) (size_at sizes k) (pos 0)
    ≡ keyed_sum keys v sizes +ℤ cond (eqb (get_or keys k 0) v) z (pos 0)
keyed_set keys v [] k z same lt = absurd (omega arith)
keyed_set [] v (s ∷ sizes) k z same lt = absurd (omega arith)
keyed_set (key ∷ keys) v (s ∷ sizes) zero z same lt = omega (arith, ints)
keyed_set (key ∷ keys) v (s ∷ sizes) (suc k) z same lt = omega (arith, ints, keyed_set keys v sizes k z (omega arith) (omega arith))

pub keyed_within : (keys : List ℕ) (v : ℕ) (sizes : List ℤ) → AreSmall sizes → IsWithin (most_total * length sizes) (keyed_sum keys v sizes)
keyed_within [] v sizes small = (omega (arith, ints), omega (arith, ints))
keyed_within (key ∷ keys) v [] small = (omega (arith, ints), omega (arith, ints))
keyed_within (key ∷ keys) v (z ∷ sizes) small =
    let here = either_sides (eqb key v) z (All-head (λ y. unsigned_abs y ≤ most_total) z sizes small) in
    let later = keyed_within keys v sizes (All-tail (λ y. unsigned_abs y ≤ most_total) z sizes small) in
    (omega (arith, ints, here.0, here.1, later.0, later.1), omega (arith, ints, here.0, here.1, later.0, later.1))

-- ---- what is to spare

balance : (made taken : Bool) (km kt km' kt' s half whole old new change back : ℤ) → kt +ℤ s ≡ km → change +ℤ old ≡ new → back +ℤ change ≡ pos 0
    → km' +ℤ cond made old (pos 0) ≡ km +ℤ cond made new (pos 0) → kt' +ℤ cond taken old (pos 0) ≡ kt +ℤ cond taken new (pos 0)
    → half ≡ s +ℤ cond made change (pos 0) → whole ≡ half +ℤ cond taken back (pos 0) → kt' +ℤ whole ≡ km'
balance true true km kt km' kt' s half whole old new change back e1 e2 e3 e4 e5 e6 e7 = omega (arith, ints)
balance true false km kt km' kt' s half whole old new change back e1 e2 e3 e4 e5 e6 e7 = omega (arith, ints)
balance false true km kt km' kt' s half whole old new change back e1 e2 e3 e4 e5 e6 e7 = omega (arith, ints)
balance false false km kt km' kt' s half whole old new change back e1 e2 e3 e4 e5 e6 e7 = omega (arith, ints)

module _ (uses : UseTable) (sizes spare : List ℤ) (are : AreSpare uses sizes spare) where
  pub spare_within : (v : ℕ) → v < length spare → IsWithin (2 ^ 90) (size_at spare v)
  spare_within v lt =
      let made = keyed_within uses.makers.items v sizes are.small in
      let taken = keyed_within uses.takers.items v sizes are.small in (
        omega (arith, ints, are.each v lt, made.0, made.1, taken.0, taken.1, are.few),
        omega (arith, ints, are.each v lt, made.0, made.1, taken.0, taken.1, are.few),
      )

  pub spare_set : (place : ℕ) (size : ℤ) (maker taker : ℕ) (half whole : List ℤ) (change back : ℤ) → place < length sizes → unsigned_abs size ≤ most_total
      → maker ≡ get_or uses.makers.items place 0 → taker ≡ get_or uses.takers.items place 0
      → change +ℤ size_at sizes place ≡ size → back +ℤ change ≡ pos 0 → length half ≡ length spare → length whole ≡ length half
      → ((w : ℕ) → size_at half w ≡ size_at spare w +ℤ cond (eqb maker w) change (pos 0))
      → ((w : ℕ) → size_at whole w ≡ size_at half w +ℤ cond (eqb taker w) back (pos 0)) → AreSpare uses (set sizes place size) whole
  spare_set place size maker taker half whole change back lt fits maker_is taker_is change_is back_is half_len whole_len made taken =
      let len = length-set sizes place size in
      let long : length whole ≡ length spare = whole_len ∙ half_len in
      record {
        makers_len = are.makers_len ∙ sym len;
        takers_len = are.takers_len ∙ sym len;
        makers = subst (λ (n : ℕ). All (λ v. v < n) uses.makers.items) (sym long) are.makers;
        takers = subst (λ (n : ℕ). All (λ v. v < n) uses.takers.items) (sym long) are.takers;
        few = omega (arith, are.few, len);
        small = All-set (λ z. unsigned_abs z ≤ most_total) sizes place size fits are.small;
        each = λ v inside.
            balance (eqb (get_or uses.makers.items place 0) v) (eqb (get_or uses.takers.items place 0) v)
            (keyed_sum uses.makers.items v sizes) (keyed_sum uses.takers.items v sizes)
            (keyed_sum uses.makers.items v (set sizes place size)) (keyed_sum uses.takers.items v (set sizes place size))
            (size_at spare v) (size_at half v) (size_at whole v) (size_at sizes place) size change back
            (are.each v (omega (arith, inside, long))) change_is back_is
            (keyed_set uses.makers.items v sizes place size are.makers_len lt) (keyed_set uses.takers.items v sizes place size are.takers_len lt)
            (made v ∙ ap (λ (m : ℕ). size_at spare v +ℤ cond (eqb m v) change (pos 0)) maker_is)
            (taken v ∙ ap (λ (t : ℕ). size_at half v +ℤ cond (eqb t v) back (pos 0)) taker_is);
      }

-- where all sizes are 0, nothing is to spare
pub spare_zero : (uses : UseTable) (n m : ℕ) (sizes spare : List ℤ) → AreEnds m uses → n ≡ length uses.makers.items → sizes ≡ replicate n (pos 0)
    → spare ≡ replicate (m + 1) (pos 0) → AreSpare uses sizes spare
spare_zero uses n m sizes spare ends n_is zeros nothing =
    let sizes_len = ap (λ (l : List ℤ). length l) zeros ∙ length-replicate n (pos 0) in
    let spare_len = ap (λ (l : List ℤ). length l) nothing ∙ length-replicate (m + 1) (pos 0) in
    record {
      makers_len = omega (arith, sizes_len, n_is);
      takers_len = omega (arith, sizes_len, n_is, ends.same_len);
      makers = λ k d lt. omega (arith, ends.makers k d lt, spare_len);
      takers = λ k d lt. omega (arith, ends.takers k d lt, spare_len);
      few = omega (arith, ends.few, sizes_len, n_is);
      small = λ k d lt.
          subst (λ (z : ℤ). unsigned_abs z ≤ most_total)
          (sym (ap (λ (l : List ℤ). get_or l k d) zeros ∙ get_or-replicate n k (pos 0) d (omega (arith, lt, sizes_len)))) (omega arith);
      each = λ v lt.
          let none = ap (λ (l : List ℤ). size_at l v) nothing ∙ get_or-replicate (m + 1) v (pos 0) (pos 0) (omega (arith, lt, spare_len)) in
          let made = ap (λ (l : List ℤ). keyed_sum uses.makers.items v l) zeros ∙ keyed_zero uses.makers.items v n in
          let taken = ap (λ (l : List ℤ). keyed_sum uses.takers.items v l) zeros ∙ keyed_zero uses.takers.items v n in
          omega (arith, ints, none, made, taken);
    }

-- ---- tasks that rise

-- a task rises just where it has nothing below 0 to spare
module _ (system : SharedTaskSystem) (uses : UseTable) (are_uses : AreUses system uses) (sizes spare : List ℤ) (are : AreSpare uses sizes spare) where
  pub rises_is : (v : ℕ) → 1 ≤ v → v < length spare
      → (pos 0 ≤ℤ size_at spare v)
      ↔ (lowered_where (is_used_by v) (uses_of system.items) sizes ≤ℤ lowered_where (is_made_for_use v) (uses_of system.items) sizes)
  rises_is v some lt =
      let made = ap (λ (keys : List ℕ). keyed_sum keys v sizes) are_uses.makers ∙ keyed_is maker_of (is_made_for_use v) v (λ u. end_is v some u.from) (uses_of system.items) sizes in
      let taken = ap (λ (keys : List ℕ). keyed_sum keys v sizes) are_uses.takers ∙ keyed_is taker_of (is_used_by v) v (λ u. end_is v some u.to) (uses_of system.items) sizes in
      (λ h. omega (arith, ints, h, made, taken, are.each v lt), λ h. omega (arith, ints, h, made, taken, are.each v lt))

  pub open_is : (n : ℕ) (done waiting : List Bool) → n ≡ length system.tasks → length spare ≡ length system.tasks + 1
      → ((v : ℕ) → 1 ≤ v → v ≤ n → is_marked done v ≡ false → is_marked waiting v ≡ false → pos 0 ≤ℤ size_at spare v)
      ↔ ((v : ℕ) → HasTask system v → is_marked done v ≡ false → is_marked waiting v ≡ false
      → lowered_where (is_used_by v) (uses_of system.items) sizes ≤ℤ lowered_where (is_made_for_use v) (uses_of system.items) sizes)
  open_is n done waiting n_is len = (
    λ h v has undone ready. (rises_is v has.0 (omega (arith, has.1, len))).0 (h v has.0 (omega (arith, has.1, n_is)) undone ready),
    λ h v some within undone ready.
        (rises_is v some (omega (arith, within, n_is, len))).1 (h v (some, omega (arith, within, n_is)) undone ready),
  )
