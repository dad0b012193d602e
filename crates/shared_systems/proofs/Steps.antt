-- A step of a system: the memory after a task, tasks that are ready one after the other, and tasks that need nothing.
use Rattle.std.proofs.Common.{◌≡◌, ℕ, ◌+◌, ◌-◌, ◌≤◌, Bool, true, false, cond, not, ◌&&◌, ◌||◌, eqb, eq-eqb, List, [], ◌∷◌}
use Rattle.std.proofs.Common.{◌++◌, append_assoc, Option, Some, None, refl, sym, ap, subst, ◌∙◌, arith, inl, inr}
use Rattle.std.specs.Prelude.{All}
use Rattle.std.specs.List.{list_all}
use Rattle.std.proofs.lemmas.List.{append-nil}
use Rattle.std.proofs.lemmas.List.Folds.{list_any-append}
use Rattle.std.proofs.lemmas.List.Sums.{sum_by-cons}
use Rattle.std.proofs.lemmas.List.Elements.{All-head, All-tail, All-weaker}
use Rattle.std.proofs.lemmas.Bool.{and_parts, cases_eq, ne_eqb, eqb-true, or_left}
use Rattle.mp_system.specs.declared.system.Item.{Item}
use Rattle.mp_system.specs.System.{TaskSystem, is_named, is_input, is_output, size_if, size_where, inputs_of, outputs_of, need_of}
use Rattle.mp_system.specs.Memory.{is_done_or, is_produced, is_consumed, is_present, is_ready}
use Rattle.mp_system.specs.Memory.{stands_in, state_memory, running_memory, peak_from}
use Rattle.lists.proofs.Bools.{or_false}
use Rattle.shared_systems.proofs.ItemParts.{is_supplied}

-- ---- what stands in a list with one more task

pub stands_push : (before : List ℕ) (v u : ℕ) → stands_in (before ++ v ∷ []) u ≡ (stands_in before u || eqb v u)
stands_push before v u = list_any-append (λ w. eqb w u) before (v ∷ []) ∙ ap (λ (b : Bool). stands_in before u || b) (or_false (eqb v u))

pub stands_more : (before after : List ℕ) (u : ℕ) → stands_in before u ≡ true → stands_in (before ++ after) u ≡ true
stands_more before after u e = list_any-append (λ w. eqb w u) before after ∙ or_left (stands_in before u) (stands_in after u) e

-- ---- the memory after a task

eqb_comm : (u v : ℕ) → eqb u v ≡ eqb v u
eqb_comm u v = elim (cases_eq u v) [
  | inl same ↦ eq-eqb u v same ∙ sym (eq-eqb v u (sym same))
  | inr other ↦ ne_eqb u v other ∙ sym (ne_eqb v u (λ e. other (sym e)))
]

supplied : (input produced : Bool) → (not input || produced) ≡ true → input ≡ true → produced ≡ true
supplied true produced h e = h
supplied false produced h e = absurd cc

-- produced, consumed, output, input
no_more : (p c o i : Bool) (size : ℕ) → cond ((p || o) && not (c || i)) size 0 ≤ cond (p && not c) size 0 + cond o size 0
no_more true true o i size = omega arith
no_more true false o true size = omega arith
no_more true false true false size = omega arith
no_more true false false false size = omega arith
no_more false true true i size = omega arith
no_more false false true true size = omega arith
no_more false false true false size = omega arith
no_more false c false i size = omega arith

takes : (p c o i : Bool) (size : ℕ) → (i ≡ true → p ≡ true) → (i ≡ true → c ≡ false)
    → cond ((p || o) && not (c || i)) size 0 + cond i size 0 ≤ cond (p && not c) size 0 + cond o size 0
takes p c o false size ready fresh = omega (arith, no_more p c o false size)
takes true true o true size ready fresh = absurd (let e = fresh refl in cc)
takes true false o true size ready fresh = omega arith
takes false c o true size ready fresh = absurd (let e = ready refl in cc)

unnamed : (done : ℕ → Bool) (v : ℕ) (named : Option ℕ) → done v ≡ false → is_named named v ≡ true → is_done_or false done named ≡ false
unnamed done v None fresh e = absurd cc
unnamed done v (Some u) fresh e = ap done (eqb-true u v e) ∙ fresh

module _ (done later : ℕ → Bool) (v : ℕ) (adds : (u : ℕ) → later u ≡ (done u || eqb v u)) where
  named_flip : (named : Option ℕ) (otherwise : Bool)
      → is_done_or otherwise later named ≡ (is_done_or otherwise done named || is_named named v)
  named_flip None otherwise = sym (or_false otherwise)
  named_flip (Some u) otherwise = adds u ∙ ap (λ (b : Bool). done u || b) (eqb_comm v u)

  later_is : (item : Item) → size_if (is_present later) item
      ≡ cond ((is_produced done item || is_output v item) && not (is_consumed done item || is_input v item)) item.size 0
  later_is item = rw (named_flip item.from true, named_flip item.to false) refl

  -- it is at most the memory before it and what the task produces
  after_below : (items : List Item)
      → size_where (is_present later) items ≤ size_where (is_present done) items + size_where (is_output v) items
  after_below [] = omega arith
  after_below (x ∷ items) =
      omega (
        arith,
        later_is x,
        no_more (is_produced done x) (is_consumed done x) (is_output v x) (is_input v x) x.size,
        after_below items,
        sum_by-cons (size_if (is_present later)) x items,
        sum_by-cons (size_if (is_present done)) x items,
        sum_by-cons (size_if (is_output v)) x items,
      )

  -- and less what it reads, if it was ready
  after_takes : done v ≡ false → (items : List Item) → list_all (is_supplied done v) items ≡ true
      → size_where (is_present later) items + size_where (is_input v) items
      ≤ size_where (is_present done) items + size_where (is_output v) items
  after_takes fresh [] ready = omega arith
  after_takes fresh (x ∷ items) ready =
      let parts = and_parts (is_supplied done v x) (list_all (is_supplied done v) items) ready in
      let here = takes (is_produced done x) (is_consumed done x) (is_output v x) (is_input v x) x.size
      (supplied (is_input v x) (is_produced done x) parts.0) (unnamed done v x.to fresh) in
      omega (
        arith,
        later_is x,
        here,
        after_takes fresh items parts.1,
        sum_by-cons (size_if (is_present later)) x items,
        sum_by-cons (size_if (is_present done)) x items,
        sum_by-cons (size_if (is_output v)) x items,
        sum_by-cons (size_if (is_input v)) x items,
      )

-- ---- tasks that are ready one after the other

pub AllReady : TaskSystem → List ℕ → List ℕ → Type 0
AllReady system before [] = Unit {0}
AllReady system before (v ∷ rest) = (is_ready system (stands_in before) v ≡ true) × AllReady system (before ++ v ∷ []) rest

pub all_ready_nil : (system : TaskSystem) (before : List ℕ) → AllReady system before []
unfolding AllReady
all_ready_nil system before = tt

pub all_ready_cons : (system : TaskSystem) (before : List ℕ) (v : ℕ) (rest : List ℕ)
    → is_ready system (stands_in before) v ≡ true → AllReady system (before ++ v ∷ []) rest → AllReady system before (v ∷ rest)
unfolding AllReady
all_ready_cons system before v rest here later = (here, later)

pub all_ready_append : (system : TaskSystem) (before first rest : List ℕ) → AllReady system before first
    → AllReady system (before ++ first) rest → AllReady system before (first ++ rest)
unfolding AllReady
all_ready_append system before [] rest one two = subst (λ (l : List ℕ). AllReady system l rest) (append-nil before) two
all_ready_append system before (v ∷ first) rest one two = (
  one.0,
  all_ready_append system (before ++ v ∷ []) first rest one.1
      (subst (λ (l : List ℕ). AllReady system l rest) (sym (append_assoc before (v ∷ []) first)) two),
)

pub all_ready_at : (system : TaskSystem) (done before : List ℕ) (v : ℕ) (rest : List ℕ)
    → AllReady system done (before ++ v ∷ rest) → is_ready system (stands_in (done ++ before)) v ≡ true
unfolding AllReady
all_ready_at system done [] v rest ready = subst (λ (l : List ℕ). is_ready system (stands_in l) v ≡ true) (sym (append-nil done)) ready.0
all_ready_at system done (x ∷ before) v rest ready =
    subst (λ (l : List ℕ). is_ready system (stands_in l) v ≡ true)
    (append_assoc done (x ∷ []) before) (all_ready_at system (done ++ x ∷ []) before v rest ready.1)

-- tasks that are all ready at once
pub all_ready_once : ((system : TaskSystem) (done later : ℕ → Bool) (v : ℕ)
    → ((u : ℕ) → done u ≡ true → later u ≡ true) → is_ready system done v ≡ true → is_ready system later v ≡ true)
    → (system : TaskSystem) (before ds : List ℕ) → All (λ d. is_ready system (stands_in before) d ≡ true) ds → AllReady system before ds
unfolding AllReady
all_ready_once stays system before [] each = tt
all_ready_once stays system before (d ∷ ds) each = (
  All-head (λ e. is_ready system (stands_in before) e ≡ true) d ds each,
  all_ready_once stays system (before ++ d ∷ []) ds
      (All-weaker (λ e. is_ready system (stands_in before) e ≡ true) (λ e. is_ready system (stands_in (before ++ d ∷ [])) e ≡ true)
      (λ e ready. stays system (stands_in before) (stands_in (before ++ d ∷ [])) e (λ u. stands_more before (d ∷ []) u) ready) ds
      (All-tail (λ e. is_ready system (stands_in before) e ≡ true) d ds each)),
)

-- ---- tasks that need nothing

abbrev pub NeedsNothing : TaskSystem → ℕ → Type 0
NeedsNothing system v = (need_of system v ≡ 0) × (outputs_of system v ≡ 0)

-- they add nothing to the peak
pub peak_without : (system : TaskSystem) (before ds rest : List ℕ) (most : ℕ)
    → All (NeedsNothing system) ds → state_memory system (stands_in before) ≤ most
    → peak_from system (before ++ ds) rest ≤ most → peak_from system before (ds ++ rest) ≤ most
peak_without system before [] rest most each state later = subst (λ (l : List ℕ). peak_from system l rest ≤ most) (append-nil before) later
peak_without system before (d ∷ ds) rest most each state later =
    let here = All-head (NeedsNothing system) d ds each in
    let after = after_below (stands_in before) (stands_in (before ++ d ∷ [])) d (stands_push before d) system.items in
    let more = peak_without system (before ++ d ∷ []) ds rest most (All-tail (NeedsNothing system) d ds each) (omega (arith, here.1))
    (subst (λ (l : List ℕ). peak_from system l rest ≤ most) (sym (append_assoc before (d ∷ []) ds)) later) in
    omega (arith, here.0)

-- ---- a task whose share fits

pub after_running : (system : TaskSystem) (before : List ℕ) (v : ℕ)
    → stands_in before v ≡ false → is_ready system (stands_in before) v ≡ true
    → (share extra : ℕ) → share ≤ inputs_of system v → share ≤ extra + outputs_of system v
    → need_of system v ≡ extra + outputs_of system v - share
    → state_memory system (stands_in (before ++ v ∷ [])) ≤ running_memory system (stands_in before) v
after_running system before v fresh ready share extra small fits need =
    let after = after_takes (stands_in before) (stands_in (before ++ v ∷ [])) v (stands_push before v) fresh system.items ready in
    omega arith
