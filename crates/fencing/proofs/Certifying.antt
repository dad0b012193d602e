-- The amounts certify the bound.
use Rattle.std.proofs.Common.{◌≡◌, ℕ, ◌+◌, ◌-◌, ◌*◌, ◌<◌, ◌≤◌, max, Bool, true, false, not, ◌&&◌, Option, None, List, [], ◌∷◌, ◌++◌, length, get_or, map, refl, ap, arith}
use Rattle.std.specs.Prelude.{All}
use Rattle.std.specs.List.{sum_by, zip}
use Rattle.std.proofs.lemmas.List.{get_or-map, length-map}
use Rattle.std.proofs.lemmas.List.Elements.{All-filter}
use Rattle.std.proofs.lemmas.List.Sums.{length-filter, sum_by-append}
use Rattle.lists.proofs.Lists.{sum_by-map}
use Rattle.limits.specs.Limits.{most_positions}
use Rattle.mp_system.specs.declared.system.Item.{Item}
use Rattle.mp_system.specs.System.{TaskSystem, IsTask, inputs_of, is_input, is_named, need_of, outputs_of, size_if, size_where}
use Rattle.mp_system.specs.Memory.{is_done_or, state_memory}
use Rattle.mp_system.specs.Traversal.{IsTraversal}
use Rattle.fences.specs.Amounts.{carrying, certified_bound, drawn_by, handed_on_by, received_by, with_size}
use Rattle.fences.specs.JudgedFences.{Certify, with_fences}
use Rattle.fences.proofs.FencedLists.{is_fenced}
use Rattle.fences.proofs.Fencing.{need_same, size_where_same}
use Rattle.fences.specs.declared.fenced.Fence.{Fence}
use Rattle.fencing.specs.declared.ledger.Taking.{Taking}
use Rattle.fencing.specs.Needs.{taken_need}
use Rattle.fencing.specs.Takings.{AreTakings, GoesForward, amounts_for, fence_of, fences_left, handed_along, is_fence, item_of, taken_by, taken_from, taking_amount}
use Rattle.fencing.proofs.Fitting.{accepted, fence_items}
use Rattle.fencing.proofs.Passing.{are_fences, passes, to_task}
use Rattle.fencing.proofs.Raising.{along_long, along_weight, of_ends, share_of}
use Rattle.fencing.proofs.Relieved.{KeepsLimits}
use Rattle.fencing.proofs.Sums.{sum_none, sums_le, to_among}

-- the fences carry what is taken along them
fences_carry : (left : List Taking) → map with_size (zip (fence_items left) (map taking_amount left)) ≡ map item_of left
fences_carry [] = refl
fences_carry (taking ∷ left) = ap (λ (l : List Item). item_of taking ∷ l) (fences_carry left)

all_carry : (items : List Item) (own : List ℕ) (left : List Taking) → length own ≡ length items
    → map with_size (zip (items ++ fence_items left) (own ++ map taking_amount left)) ≡ map with_size (zip items own) ++ map item_of left
all_carry [] [] left long = fences_carry left
all_carry [] (x ∷ own) left long = absurd cc
all_carry (item ∷ items) [] left long = absurd cc
all_carry (item ∷ items) (x ∷ own) left long = ap (λ (l : List Item). with_size (item, x) ∷ l) (all_carry items own left (omega (arith, long)))

module _ (system : TaskSystem) (sys : KeepsLimits system) (order : List ℕ) (is : IsTraversal system order) (bound : ℕ) (takings : List Taking) (are : AreTakings system order bound takings) where
  abbrev left : List Taking
  left = fences_left takings

  abbrev fenced : TaskSystem
  fenced = with_fences system (map fence_of left)

  abbrev amounts : List ℕ
  amounts = amounts_for system.items takings

  -- for each test of ends, what is carried is what the items are and what is taken
  carried : (f : Option ℕ → Option ℕ → Bool) → size_where (of_ends f) (carrying fenced amounts).items ≡ size_where (of_ends f) system.items + sum_by (share_of system.items f) takings
  carried f =
      omega (
        arith,
        ap (size_where (of_ends f)) (all_carry system.items (handed_along system.items takings) left (along_long system.items takings)),
        sum_by-append (size_if (of_ends f)) (map with_size (zip system.items (handed_along system.items takings))) (map item_of left),
        sum_by-map (size_if (of_ends f)) item_of left,
        along_weight f system.items takings are.carried,
      )

  received : (v : ℕ) → received_by fenced amounts v ≡ inputs_of system v + taken_by takings v
  received v = carried (λ from to. is_named to v)

  handed_on : (v : ℕ) → handed_on_by fenced amounts v ≡ outputs_of system v + taken_from takings v
  handed_on v = carried (λ from to. is_named from v)

  draws : (v : ℕ) → IsTask system v → drawn_by fenced amounts v ≤ taken_need system v - taken_by takings v
  draws v task =
      let fences = is_fenced system (map fence_of left) in
      drawn_from (inputs_of fenced v) (need_of fenced v) (handed_on_by fenced amounts v) (received_by fenced amounts v) (inputs_of system v) (need_of system v) (outputs_of system v) (taken_from takings v) (taken_by takings v)
      (size_where_same system fenced fences (is_input v)) (need_same system fenced fences v) (handed_on v) (received v) (are.given v task)
    where
      drawn_from : (inputs' need' handed received' inputs need outputs from by : ℕ) → inputs' ≡ inputs → need' ≡ need → handed ≡ outputs + from → received' ≡ inputs + by
          → from ≤ inputs + max need (outputs - inputs) - outputs → max (inputs' + need') handed - received' ≤ max need (outputs - inputs) - by
      drawn_from inputs' need' handed received' inputs need outputs from by a b c d e = omega arith

  start : state_memory (carrying fenced amounts) (λ _. false) ≡ state_memory system (λ _. false)
  start =
      let present : Option ℕ → Option ℕ → Bool = λ from to. is_done_or true (λ _. false) from && not (is_done_or false (λ _. false) to) in
      let none = sum_none (share_of system.items present) (λ t. refl) takings in
      let whole : state_memory (carrying fenced amounts) (λ _. false) ≡ state_memory system (λ _. false) + sum_by (share_of system.items present) takings = carried present in
      omega (arith, none, whole)

  within : certified_bound fenced amounts ≤ bound
  within =
      omega (
        arith,
        are.drawn,
        start,
        sums_le (drawn_by fenced amounts) (λ v. taken_need system v - taken_by takings v) 1 (length system.tasks) (λ v low high. draws v (low, omega (arith, high))),
      )

  forward : All (GoesForward order) left
  forward = All-filter is_fence (GoesForward order) takings are.forward

  pub order_passes : IsTraversal fenced order
  order_passes = passes system order is left forward

  pub few_fences : length left ≤ 2 * length system.tasks
  few_fences = omega (arith, length-filter is_fence takings, are.few)

  -- a fence is to a task that takes something
  takes_some : All (λ (t : Taking). 1 ≤ taken_need system t.to) takings
  takes_some k d lt =
      let taking = get_or takings k d in
      omega (arith, are.solid k d lt, to_among takings k d lt, are.taken taking.to (to_task system order is taking (are.forward k d lt)))

  pub needy : All (λ (f : Fence). 1 ≤ taken_need system f.to) (map fence_of left)
  needy k d lt =
      let none : Taking = record { from = 0; to = 0; amount = 0; along = None } in
      let low : k < length left = omega (arith, lt, length-map left fence_of) in
      rw (get_or-map fence_of left k none d low) (All-filter is_fence (λ (t : Taking). 1 ≤ taken_need system t.to) takings takes_some k none low)

  pub certify : length system.items + length left ≤ most_positions → Certify system (map fence_of left) amounts bound
  certify few = record {
    leave = record { are_fences = are_fences system order is left forward few; order = order; traversal = order_passes };
    accepted = accepted system sys order is bound takings are;
    within = within;
  }
