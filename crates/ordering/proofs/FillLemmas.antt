-- Elimination and filling: the pairs that each gives are the same, and the parent of a column.
use Rattle.std.proofs.Common.{◌≡◌, ◌≢◌, ℕ, zero, suc, ◌+◌, ◌-◌, ◌<◌, ◌≤◌, Bool, true, false, not, nat_lt, ◌==◌, inl, inr, refl, arith}
use Rattle.std.specs.Prelude.{find, unwrap_or}
use Rattle.std.specs.List.{range_with_len}
use Rattle.std.proofs.lemmas.Bool.{cases_Bool, cases_eq, and_parts, or_cases, and_from, or_left, or_right, ne_eqb, not_from_false, lt-ltb}
use Rattle.ordering.specs.Fill.{IsAdjacency, graph_at, filled, structure_of, parent_of, IsParent}
use Rattle.lists.proofs.Bools.{same_bool, ne_from_not}
use Rattle.elimination.proofs.Eliminations.{keep_new, keep_old, kept, Kept}

-- ---- one elimination

-- ---- the pattern as each column is eliminated

pub at_suc : (joined : ℕ → ℕ → Bool) (j a b : ℕ) → graph_at joined (suc j) a b ≡ true → Kept (graph_at joined j) j a b
unfolding graph_at
at_suc joined j a b h = kept (graph_at joined j) j a b h

pub to_suc_old : (joined : ℕ → ℕ → Bool) (j a b : ℕ) → a ≢ j → b ≢ j → graph_at joined j a b ≡ true → graph_at joined (suc j) a b ≡ true
unfolding graph_at
to_suc_old joined j a b ha hb h = keep_old (graph_at joined j) j a b ha hb h

pub to_suc_new : (joined : ℕ → ℕ → Bool) (j a b : ℕ) → a ≢ j → b ≢ j → a ≢ b
    → graph_at joined j j a ≡ true → graph_at joined j j b ≡ true → graph_at joined (suc j) a b ≡ true
unfolding graph_at
to_suc_new joined j a b ha hb hab hja hjb = keep_new (graph_at joined j) j a b ha hb hab hja hjb

-- pairs are of columns that are left
pub later : (joined : ℕ → ℕ → Bool) (k a b : ℕ) → graph_at joined k a b ≡ true → (k ≤ a) × (k ≤ b)
later joined zero a b h = (omega arith, omega arith)
later joined (suc j) a b h =
    let q = at_suc joined j a b h in
    let na = q.left in
    let nb = q.right in
    elim q.from [
      | inl e ↦ let le = later joined j a b e in (omega arith, omega arith)
      | inr f ↦ let la = later joined j j a f.1 in let lb = later joined j j b f.2 in (omega arith, omega arith)
    ]

-- ---- filling

filled_from : (joined : ℕ → ℕ → Bool) (k a b : ℕ) → graph_at joined k a b ≡ true → filled joined k a b ≡ true
unfolding filled graph_at
filled_from joined zero a b h = h
filled_from joined (suc j) a b h =
    let q = at_suc joined j a b h in
    let l = later joined (suc j) a b h in
    elim q.from [
      | inl e ↦ or_left _ _ (filled_from joined j a b e)
      | inr f ↦ or_right _ _ (and_from _ _ (lt-ltb j a (omega arith)) (and_from _ _ (lt-ltb j b (omega arith))
          (and_from _ _ (not_from_false (a == b) (ne_eqb a b f.0))
          (and_from _ _ (filled_from joined j j a f.1) (filled_from joined j j b f.2)))))
    ]

filled_to : (joined : ℕ → ℕ → Bool) (k a b : ℕ) → k ≤ a → k ≤ b → filled joined k a b ≡ true → graph_at joined k a b ≡ true
unfolding filled graph_at
filled_to joined zero a b ka kb h = h
filled_to joined (suc j) a b ka kb h =
    elim (or_cases (filled joined j a b) _ h) [
      | inl e ↦ to_suc_old joined j a b (omega arith) (omega arith) (filled_to joined j a b (omega arith) (omega arith) e)
      | inr f ↦
          let p = and_parts (nat_lt j a) _ f in
          let q = and_parts (nat_lt j b) _ p.1 in
          let r = and_parts (not (a == b)) _ q.1 in
          let s = and_parts (filled joined j j a) (filled joined j j b) r.1 in
          to_suc_new joined j a b (omega arith) (omega arith) (ne_from_not a b r.0)
          (filled_to joined j j a (omega arith) (omega arith) s.0) (filled_to joined j j b (omega arith) (omega arith) s.1)
    ]

pub filled_is : (joined : ℕ → ℕ → Bool) (j a b : ℕ) → j ≤ a → j ≤ b → filled joined j a b ≡ graph_at joined j a b
filled_is joined j a b ja jb =
    same_bool (filled joined j a b) (graph_at joined j a b) (filled_to joined j a b ja jb) (filled_from joined j a b)

-- 0 hands nothing on
pub without_0 : (joined : ℕ → ℕ → Bool) (a b : ℕ) → IsAdjacency joined → 1 ≤ a → 1 ≤ b → graph_at joined 1 a b ≡ joined a b
unfolding graph_at
without_0 joined a b is some_a some_b =
    same_bool (graph_at joined 1 a b) (joined a b)
    (λ h. elim (at_suc joined 0 a b h).from [ inl e ↦ e | inr f ↦ absurd (is.none_of_0 a f.1) ])
    (to_suc_old joined 0 a b (omega arith) (omega arith))

-- ---- the parent

-- the first number of a range that passes, or 0
first_in : (ℕ → Bool) → ℕ → ℕ → ℕ
first_in test a k = unwrap_or (find test (range_with_len a k)) 0

first_passes : (test : ℕ → Bool) (a k : ℕ) → 0 < first_in test a k
    → (a ≤ first_in test a k) × (first_in test a k < a + k) × (test (first_in test a k) ≡ true)
unfolding first_in
first_passes test a zero = λ some. absurd (omega arith)
first_passes test a (suc k) =
    elim (cases_Bool (test a)) [
      | inl e ↦ rw e (λ some. (omega arith, omega arith, e))
      | inr e ↦ rw e
          (λ some. let rest = first_passes test (a + 1) k some in let low = rest.0 in
          let high = rest.1 in (omega arith, omega arith, rest.2))
    ]

-- what passes stands above what does not
above : (test : ℕ → Bool) (a i : ℕ) → a ≤ i → test a ≡ false → test i ≡ true → a + 1 ≤ i
above test a i low fails here = elim (cases_eq i a) [ inl e ↦ absurd (let bad : test a ≡ true = rw (← e) here in cc) | inr e ↦ omega arith ]

first_least : (test : ℕ → Bool) (a k : ℕ) → 0 < a → (i : ℕ) → a ≤ i
    → i < a + k → test i ≡ true → (0 < first_in test a k) × (first_in test a k ≤ i)
unfolding first_in
first_least test a zero positive i low high here = absurd (omega arith)
first_least test a (suc k) positive i low high here =
    elim (cases_Bool (test a)) [
      | inl e ↦ rw e (positive, low)
      | inr e ↦ rw e (first_least test (a + 1) k (omega arith) i (above test a i low e here) (omega arith) here)
    ]

pub parent_first : (joined : ℕ → ℕ → Bool) (n j : ℕ) → IsParent joined n j (parent_of joined n j)
unfolding first_in
parent_first joined n j = record {
  reached = λ some. let p = first_passes (structure_of joined j) (j + 1) (n - j) some in
      let low = p.0 in
      let high = p.1 in
      (omega arith, omega arith, p.2);
  least = λ i low high here. first_least (structure_of joined j) (j + 1) (n - j) (omega arith) i (omega arith) (omega arith) here;
}

pub one_parent : (joined : ℕ → ℕ → Bool) (n j p q : ℕ) → IsParent joined n j p → IsParent joined n j q → p ≡ q
one_parent joined n j zero zero one two = refl
one_parent joined n j (suc p) zero one two = let r = one.reached (omega arith) in
    let l = two.least (suc p) r.0 r.1 r.2 in
    absurd (let some = l.0 in omega arith)
one_parent joined n j zero (suc q) one two = let r = two.reached (omega arith) in
    let l = one.least (suc q) r.0 r.1 r.2 in
    absurd (let some = l.0 in omega arith)
one_parent joined n j (suc p) (suc q) one two =
    let r = one.reached (omega arith) in
    let s = two.reached (omega arith) in
    let l = two.least (suc p) r.0 r.1 r.2 in
    let m = one.least (suc q) s.0 s.1 s.2 in
    let below = l.1 in
    let above = m.1 in
    omega arith
