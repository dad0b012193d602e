-- Marks of tasks: one more, and two in either order.
use Rattle.std.proofs.Common.{◌≡◌, ◌≢◌, ℕ, zero, suc, ◌-◌, ◌≤◌, ◌<◌, Bool, true, false, not, ◌&&◌, eqb, eq-eqb, leb, List, [], ◌∷◌}
use Rattle.std.proofs.Common.{length, get_or, set, replicate, refl, sym, ap, ◌∙◌, arith, inl, inr}
use Rattle.std.specs.List.{list_any}
use Rattle.std.proofs.lemmas.List.{get_or-set_same, get_or-set_other, get_or_past, get_or-replicate, length-set}
use Rattle.std.proofs.lemmas.Bool.{cases_eq, cases_lt, ne_eqb, le-leb, leb-true, and_parts}
use Rattle.std.proofs.Math.Bool.{and-false, or-true}
use Rattle.mp_system.specs.Step.{AddsTask}
use Rattle.mp_system.specs.Replay.{is_marked}
use Rattle.lists.proofs.Bools.{or_false}
use Rattle.state_search.specs.States.{without}
use Rattle.state_search.specs.Runs.{with_done}

unmarked : (n i : ℕ) → get_or (replicate n false) i false ≡ false
unmarked zero i = refl
unmarked (suc n) zero = refl
unmarked (suc n) (suc i) = unmarked n i

pub none_marked : (n v : ℕ) → is_marked (replicate n false) v ≡ false
none_marked n v = ap (λ (b : Bool). leb 1 v && b) (unmarked n (v - 1)) ∙ and-false (leb 1 v)

kept : (marks : List Bool) (v u : ℕ) → 1 ≤ v → u ≢ v → is_marked (with_done marks v) u ≡ is_marked marks u
kept marks v zero low other = refl
kept marks v (suc k) low other =
    ap (λ (b : Bool). leb 1 (suc k) && b) (get_or-set_other marks (v - 1) (suc k - 1) true false (omega arith))

-- one more task is marked
pub done_adds : (marks : List Bool) (v : ℕ) → 1 ≤ v → v ≤ length marks → AddsTask (is_marked marks) v (is_marked (with_done marks v))
done_adds marks v low high u = elim (cases_eq u v) [
  | inl same ↦ (
      let there : is_marked (with_done marks v) v ≡ true =
      rw (le-leb 1 v low, get_or-set_same marks (v - 1) true false (omega arith)) in
      ap (is_marked (with_done marks v)) same ∙ there ∙ sym (rw (eq-eqb u v same) (or-true (is_marked marks u)))
      )
  | inr other ↦ kept marks v u low other ∙ sym (rw (ne_eqb u v other) (or_false (is_marked marks u)))
]

set_both : (xs : List Bool) (i j : ℕ) (b : Bool) → set (set xs i b) j b ≡ set (set xs j b) i b
set_both [] i j b = refl
set_both (x ∷ xs) zero zero b = refl
set_both (x ∷ xs) zero (suc j) b = refl
set_both (x ∷ xs) (suc i) zero b = refl
set_both (x ∷ xs) (suc i) (suc j) b = ap (λ (l : List Bool). x ∷ l) (set_both xs i j b)

pub done_length : (marks : List Bool) (v : ℕ) → length (with_done marks v) ≡ length marks
done_length marks v = length-set marks (v - 1) true

-- ---- all tasks

pub all_marked : (n v : ℕ) → 1 ≤ v → v ≤ n → is_marked (replicate n true) v ≡ true
all_marked n v low high = rw (le-leb 1 v low, get_or-replicate n (v - 1) true false (omega (arith, low, high)))

pub is_all : (marks : List Bool) → ((i : ℕ) → i < length marks → get_or marks i false ≡ true) → marks ≡ replicate (length marks) true
is_all [] each = refl
is_all (x ∷ xs) each = let here : x ≡ true = each 0 (omega arith) in
    ap (λ (b : Bool). b ∷ xs) here ∙ ap (λ (l : List Bool). true ∷ l) (is_all xs (λ i lt. each (suc i) (omega arith)))

pub is_none : (marks : List Bool) → list_any (λ mark. mark) marks ≡ false → marks ≡ replicate (length marks) false
is_none [] e = refl
is_none (true ∷ xs) e = absurd cc
is_none (false ∷ xs) e = ap (λ (l : List Bool). false ∷ l) (is_none xs e)

pub some_none : (n : ℕ) → list_any (λ mark. mark) (replicate n false) ≡ false
some_none zero = refl
some_none (suc n) = some_none n

-- ---- a task that is done

pub mark_parts : (marks : List Bool) (v : ℕ) → is_marked marks v ≡ true → (1 ≤ v) × (get_or marks (v - 1) false ≡ true)
mark_parts marks v e =
    let parts = and_parts (leb 1 v) (get_or marks (v - 1) false) e in
    (leb-true 1 v parts.0, parts.1)

pub mark_inside : (marks : List Bool) (v : ℕ) → is_marked marks v ≡ true → (1 ≤ v) × (v ≤ length marks)
mark_inside marks v e =
    let parts = mark_parts marks v e in
    elim (cases_lt (v - 1) (length marks)) [
      | inl inside ↦ (parts.0, omega (arith, inside, parts.0))
      | inr past ↦ absurd (let f : false ≡ true = sym (get_or_past marks (v - 1) false past) ∙ parts.1 in cc)
    ]

-- ---- one task less

taken : (marks : List Bool) (v u : ℕ) → 1 ≤ v → u ≢ v → is_marked (without marks v) u ≡ is_marked marks u
taken marks v zero low other = refl
taken marks v (suc k) low other =
    ap (λ (b : Bool). leb 1 (suc k) && b) (get_or-set_other marks (v - 1) (suc k - 1) false false (omega arith))

whole : (b : Bool) → (b && true) ≡ b
whole true = refl
whole false = refl

-- one task less is marked
pub without_marks : (marks : List Bool) (v : ℕ) → 1 ≤ v → v ≤ length marks → (u : ℕ)
    → is_marked (without marks v) u ≡ (is_marked marks u && not (eqb u v))
without_marks marks v low high u = elim (cases_eq u v) [
  | inl same ↦ (
      let there : is_marked (without marks v) v ≡ false =
      rw (le-leb 1 v low, get_or-set_same marks (v - 1) false false (omega arith)) in
      ap (is_marked (without marks v)) same ∙ there ∙ sym (rw (eq-eqb u v same) (and-false (is_marked marks u)))
      )
  | inr other ↦ taken marks v u low other ∙ sym (rw (ne_eqb u v other) (whole (is_marked marks u)))
]

pub without_length : (marks : List Bool) (v : ℕ) → length (without marks v) ≡ length marks
without_length marks v = length-set marks (v - 1) false

-- of two tasks either may be taken first
pub without_both : (marks : List Bool) (u v : ℕ) → without (without marks u) v ≡ without (without marks v) u
without_both marks u v = set_both marks (u - 1) (v - 1) false

set_back : (marks : List Bool) (i : ℕ) (b c : Bool) → get_or marks i false ≡ b → set (set marks i c) i b ≡ marks
set_back [] i b c e = refl
set_back (x ∷ xs) zero b c e = ap (λ (y : Bool). y ∷ xs) (sym e)
set_back (x ∷ xs) (suc i) b c e = ap (λ (l : List Bool). x ∷ l) (set_back xs i b c e)

-- a task that is done is marked again, and one that waits is taken again
pub without_back : (marks : List Bool) (v : ℕ) → is_marked marks v ≡ true → with_done (without marks v) v ≡ marks
without_back marks v e = set_back marks (v - 1) true false (mark_parts marks v e).1

pub done_back : (marks : List Bool) (v : ℕ) → 1 ≤ v → is_marked marks v ≡ false → without (with_done marks v) v ≡ marks
done_back marks v low waits =
    set_back marks (v - 1) false true (sym (ap (λ (b : Bool). b && get_or marks (v - 1) false) (le-leb 1 v low)) ∙ waits)
