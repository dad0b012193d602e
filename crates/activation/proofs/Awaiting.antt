-- How many items a task waits for.
use Rattle.std.proofs.Common.{◌≡◌, ◌≢◌, ℕ, ◌+◌, Bool, true, false, not, cond, ◌&&◌, List, []}
use Rattle.std.proofs.Common.{◌∷◌, refl, sym, ◌∙◌, ap, arith, ⊎_elim, Option, Some, None}
use Rattle.std.specs.Prelude.{count_by, ◌==◌, ◌||◌}
use Rattle.std.specs.List.{list_all}
use Rattle.std.proofs.lemmas.List.Sums.{sum_by-cons}
use Rattle.std.proofs.lemmas.Bool.{cases_eq, cases_Bool, eq-eqb, ne_eqb, and_parts, not-true, or_right}
use Rattle.std.proofs.Math.Bool.{or-false}
use Rattle.shared_systems.specs.Shared.{SharedItem}
use Rattle.shared_systems.specs.Shared.{SharedTaskSystem, is_read_by}
use Rattle.mp_system.specs.System.{is_named}
use Rattle.mp_system.specs.Memory.{is_done_or}
use Rattle.shared_systems.specs.SharedMemory.{is_made, has_inputs}
use Rattle.mp_system.specs.Step.{AddsTask}
use Rattle.activation.specs.Tables.{is_awaited, is_edge, awaited}
use Rattle.lists.proofs.Lists.{sum-same as sum_same}

done_same : (d e : ℕ → Bool) → ((u : ℕ) → d u ≡ e u) → (from : Option ℕ) → is_done_or true d from ≡ is_done_or true e from
done_same d e same None = refl
done_same d e same (Some a) = same a

-- the counts under tests that agree
pub awaited_same : (s : SharedTaskSystem) (d e : ℕ → Bool) → ((u : ℕ) → d u ≡ e u) → (t : ℕ) → awaited s d t ≡ awaited s e t
unfolding awaited
awaited_same s d e same t =
    sum_same (λ x. cond (is_awaited d t x) 1 0) (λ x. cond (is_awaited e t x) 1 0)
    (λ x. ap (λ (b : Bool). cond (is_read_by t x && not b) 1 0) (done_same d e same x.from)) s.items

-- and when task v is done too
module _ (d e : ℕ → Bool) (v : ℕ) (off : d v ≡ false) (adds : AddsTask d v e) (u : ℕ) where
  on : e v ≡ true
  on = adds v ∙ or_right (d v) (v == v) (eq-eqb v v refl)

  other : (a : ℕ) → a ≢ v → e a ≡ d a
  other a n = adds a ∙ ap (λ (b : Bool). d a || b) (ne_eqb a v n) ∙ or-false (d a)

  awaited_item : (b : Bool) (from : Option ℕ) →
      ◌≡◌ {A = ℕ} (cond (b && not (is_done_or true e from)) 1 0 + cond (is_named from v && b) 1 0)
      (cond (b && not (is_done_or true d from)) 1 0)
  awaited_item false None = refl
  awaited_item true None = refl
  awaited_item false (Some a) = elim (a == v) as (λ q. ◌≡◌ {A = ℕ} (0 + cond (q && false) 1 0) 0) [ true ↦ refl | false ↦ refl ]
  awaited_item true (Some a) =
      ⊎_elim
      (λ q. let q1 : (a == v) ≡ true = eq-eqb a v q in
      let q2 : e a ≡ true = ap e q ∙ on in
      let q3 : d a ≡ false = ap d q ∙ off in
      rw (q1, q2, q3))
      (λ q. let q1 : (a == v) ≡ false = ne_eqb a v q in
      rw (q1, other a q) (omega arith))
      (cases_eq a v)

  awaited_list : (xs : List SharedItem) → count_by (is_awaited e u) xs + count_by (is_edge v u) xs ≡ count_by (is_awaited d u) xs
  awaited_list [] = refl
  awaited_list (x ∷ xs) =
      let ih = awaited_list xs in
      let one = awaited_item (is_read_by u x) x.from in
      omega (
        arith,
        ih,
        one,
        sum_by-cons (λ x. cond (is_awaited e u x) 1 0) x xs,
        sum_by-cons (λ x. cond (is_edge v u x) 1 0) x xs,
        sum_by-cons (λ x. cond (is_awaited d u x) 1 0) x xs,
      )

pub awaited_later : (s : SharedTaskSystem) (d e : ℕ → Bool) (v : ℕ) → d v ≡ false
    → AddsTask d v e → (u : ℕ) → awaited s e u + count_by (is_edge v u) s.items ≡ awaited s d u
unfolding awaited
awaited_later s d e v off adds u = awaited_list d e v off adds u s.items

-- an item is there where it is not awaited
ready_item : (b p : Bool) → (not b || p) ≡ not (b && not p)
ready_item true true = refl
ready_item true false = refl
ready_item false p = refl

list_ready : (d : ℕ → Bool) (u : ℕ) (xs : List SharedItem) → count_by (is_awaited d u) xs ≡ 0
    → list_all (λ x. not (is_read_by u x) || is_made d x) xs ≡ true
list_ready d u [] h = refl
list_ready d u (x ∷ xs) h =
    let e = sum_by-cons (λ x. cond (is_awaited d u x) 1 0) x xs in
    ⊎_elim
    (λ y. let one : ◌≡◌ {A = ℕ} (cond (is_awaited d u x) 1 0) 1 = ap (λ (b : Bool). cond b 1 0) y in absurd (omega (arith, e, one)))
    (λ n. let here : (not (is_read_by u x) || is_made d x) ≡ true = ready_item (is_read_by u x) (is_made d x) ∙ ap not n in
    rw (here, list_ready d u xs (omega (arith, e))))
    (cases_Bool (is_awaited d u x))

list_awaited : (d : ℕ → Bool) (u : ℕ) (xs : List SharedItem)
    → list_all (λ x. not (is_read_by u x) || is_made d x) xs ≡ true → count_by (is_awaited d u) xs ≡ 0
list_awaited d u [] h = refl
list_awaited d u (x ∷ xs) h =
    let p = and_parts (not (is_read_by u x) || is_made d x) (list_all (λ x. not (is_read_by u x) || is_made d x) xs) h in
    let e = sum_by-cons (λ x. cond (is_awaited d u x) 1 0) x xs in
    let here : is_awaited d u x ≡ false = not-true (is_awaited d u x) (sym (ready_item (is_read_by u x) (is_made d x)) ∙ p.0) in
    let zero' : ◌≡◌ {A = ℕ} (cond (is_awaited d u x) 1 0) 0 = ap (λ (b : Bool). cond b 1 0) here in
    omega (arith, e, zero', list_awaited d u xs p.1)

-- a task is ready exactly where it waits for nothing
pub ready_from : (s : SharedTaskSystem) (d : ℕ → Bool) (u : ℕ) → awaited s d u ≡ 0 → has_inputs s d u ≡ true
unfolding awaited
ready_from s d u h = list_ready d u s.items h

pub awaits_none : (s : SharedTaskSystem) (d : ℕ → Bool) (u : ℕ) → has_inputs s d u ≡ true → awaited s d u ≡ 0
unfolding awaited
awaits_none s d u h = list_awaited d u s.items h
