-- Which items are present once one more task has run, and the memory then.
use Rattle.std.proofs.Common.{◌≡◌, ℕ, ◌+◌, ◌≤◌, Bool, true, false, cond, not, ◌&&◌, ◌||◌, eqb, eq-eqb, ◌⊎◌}
use Rattle.std.proofs.Common.{inl, inr, List, [], ◌∷◌, Option, Some, None, refl, sym, ap, ◌∙◌, arith}
use Rattle.std.proofs.Math.Path.{fun_ext}
use Rattle.std.specs.List.{list_all}
use Rattle.std.proofs.lemmas.List.Sums.{sum_by-cons}
use Rattle.std.proofs.lemmas.Bool.{eqb-true, and_parts, or_cases, or_left}
use Rattle.mp_system.specs.declared.system.Item.{Item}
use Rattle.mp_system.specs.System.{TaskSystem, IsSystem, IsTask, is_named, is_input, is_output, size_if, size_where, inputs_of, outputs_of}
use Rattle.mp_system.specs.Memory.{is_done_or, is_produced, is_consumed, is_present, is_ready, state_memory, running_memory}
use Rattle.mp_system.specs.Step.{AddsTask, CanRun}
use Rattle.lists.proofs.Bools.{or_false}

-- whether the item has what task v needs
abbrev pub is_supplied : (ℕ → Bool) → ℕ → Item → Bool
is_supplied done v item = not (is_input v item) || is_produced done item

pub supplied : (input produced : Bool) → (not input || produced) ≡ true → input ≡ true → produced ≡ true
supplied true produced h e = h
supplied false produced h e = absurd cc

-- what is said of a state depends only on which tasks are done
pub state_memory_same : (system : TaskSystem) (done other : ℕ → Bool)
    → ((u : ℕ) → done u ≡ other u) → state_memory system done ≡ state_memory system other
state_memory_same system done other same = ap (state_memory system) (fun_ext same)

-- ---- one item

-- whether an item was produced and was consumed before the task, and whether the task produces it and consumes it
pub record Place (produced consumed output input : Bool) : Type 0 where
  pub order : consumed ≡ true → produced ≡ true
  pub new_output : output ≡ true → produced ≡ false
  pub new_input : input ≡ true → consumed ≡ false
  pub ready : input ≡ true → produced ≡ true

balance : (produced consumed output input : Bool) (size : ℕ) → Place produced consumed output input
    → cond ((produced || output) && not (consumed || input)) size 0 + cond input size 0
    ≡ cond (produced && not consumed) size 0 + cond output size 0
balance true true output true size p = absurd (let h = p.new_input refl in cc)
balance true true true false size p = absurd (let h = p.new_output refl in cc)
balance true true false false size p = refl
balance true false true input size p = absurd (let h = p.new_output refl in cc)
balance true false false true size p = omega arith
balance true false false false size p = refl
balance false true output input size p = absurd (let h = p.order refl in cc)
balance false false output true size p = absurd (let h = p.ready refl in cc)
balance false false true false size p = omega arith
balance false false false false size p = refl

module _ (done later : ℕ → Bool) (v : ℕ) (adds : AddsTask done v later) where
  pub done_or_later : (otherwise : Bool) (named : Option ℕ)
      → is_done_or otherwise later named ≡ (is_done_or otherwise done named || is_named named v)
  done_or_later otherwise None = sym (or_false otherwise)
  done_or_later otherwise (Some u) = adds u

  pub is_present_later : (item : Item)
      → is_present later item ≡ ((is_produced done item || is_output v item) && not (is_consumed done item || is_input v item))
  is_present_later item = rw (done_or_later true item.from, done_or_later false item.to)

-- a task that has not run yet has produced nothing, and consumed nothing
unnamed : (done : ℕ → Bool) (v : ℕ) (otherwise : Bool) (named : Option ℕ)
    → done v ≡ false → is_named named v ≡ true → is_done_or otherwise done named ≡ false
unnamed done v otherwise None fresh e = absurd cc
unnamed done v otherwise (Some u) fresh e = ap done (eqb-true u v e) ∙ fresh

-- what a done task consumed was produced
consumed_produced : (done : ℕ → Bool) (to : Option ℕ) (produced : Bool)
    → ((u : ℕ) → done u ≡ true → (not (is_named to u) || produced) ≡ true) → is_done_or false done to ≡ true → produced ≡ true
consumed_produced done None produced each e = absurd cc
consumed_produced done (Some u) produced each e = supplied (eqb u u) produced (each u e) (eq-eqb u u refl)

place_of : (done : ℕ → Bool) (v : ℕ) (item : Item) → done v ≡ false
    → is_supplied done v item ≡ true → ((u : ℕ) → done u ≡ true → is_supplied done u item ≡ true)
    → Place (is_produced done item) (is_consumed done item) (is_output v item) (is_input v item)
place_of done v item fresh ready suppliers = record {
  order = consumed_produced done item.to (is_produced done item) suppliers;
  new_output = unnamed done v true item.from fresh;
  new_input = unnamed done v false item.to fresh;
  ready = supplied (is_input v item) (is_produced done item) ready;
}

-- ---- more tasks are done

module _ (done later : ℕ → Bool) (more : (u : ℕ) → done u ≡ true → later u ≡ true) (v : ℕ) where
  still_produced : (from : Option ℕ) → is_done_or true done from ≡ true → is_done_or true later from ≡ true
  still_produced None h = refl
  still_produced (Some u) h = more u h

  still_supplied : (input : Bool) (item : Item) → (not input || is_produced done item) ≡ true → (not input || is_produced later item) ≡ true
  still_supplied false item h = refl
  still_supplied true item h = still_produced item.from h

  pub still_ready : (items : List Item) → list_all (is_supplied done v) items ≡ true → list_all (is_supplied later v) items ≡ true
  still_ready [] h = refl
  still_ready (item ∷ items) h =
      let parts = and_parts (is_supplied done v item) (list_all (is_supplied done v) items) h in
      rw (still_supplied (is_input v item) item parts.0) (still_ready items parts.1)

-- ---- all items

pub items_step : (done later : ℕ → Bool) (v : ℕ) → AddsTask done v later → done v ≡ false → (items : List Item)
    → list_all (is_supplied done v) items ≡ true → ((u : ℕ) → done u ≡ true → list_all (is_supplied done u) items ≡ true)
    → size_where (is_present later) items + size_where (is_input v) items
    ≡ size_where (is_present done) items + size_where (is_output v) items
items_step done later v adds fresh [] ready suppliers = refl
items_step done later v adds fresh (item ∷ items) ready suppliers =
    let here = and_parts (is_supplied done v item) (list_all (is_supplied done v) items) ready in
    let each = λ (u : ℕ) (e : done u ≡ true). and_parts (is_supplied done u item) (list_all (is_supplied done u) items) (suppliers u e) in
    let one = balance (is_produced done item) (is_consumed done item) (is_output v item)
    (is_input v item) item.size (place_of done v item fresh here.0 (λ u e. (each u e).0)) in
    let first : size_if (is_present later) item
    ≡ cond ((is_produced done item || is_output v item) && not (is_consumed done item || is_input v item)) item.size 0 =
    ap (λ (b : Bool). cond b item.size 0) (is_present_later done later v adds item) in
    let rest = items_step done later v adds fresh items here.1 (λ u e. (each u e).1) in
    omega (
      arith,
      one,
      first,
      rest,
      sum_by-cons (size_if (is_present later)) item items,
      sum_by-cons (size_if (is_input v)) item items,
      sum_by-cons (size_if (is_present done)) item items,
      sum_by-cons (size_if (is_output v)) item items,
    )

module _ (system : TaskSystem) (done later : ℕ → Bool) (v : ℕ) (can : CanRun system done v) (adds : AddsTask done v later) where
  pub state_step : state_memory system later + inputs_of system v ≡ state_memory system done + outputs_of system v
  state_step = items_step done later v adds can.fresh system.items can.ready can.suppliers

  pub after-le-running : IsSystem system → IsTask system v → state_memory system later ≤ running_memory system done v
  after-le-running within task = let share = within.shares v task in omega (arith, state_step, share.0, share.1)

  -- what the done tasks consumed has been produced, afterwards too
  pub later_suppliers : (u : ℕ) → later u ≡ true → is_ready system later u ≡ true
  later_suppliers u e = still_ready done later (λ w h. adds w ∙ or_left (done w) (eqb w v) h) u system.items
      (was (or_cases (done u) (eqb u v) (sym (adds u) ∙ e))) where
        was : (done u ≡ true) ⊎ (eqb u v ≡ true) → is_ready system done u ≡ true
        was (inl e) = can.suppliers u e
        was (inr e) = rw (eqb-true u v e) can.ready
