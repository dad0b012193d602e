-- The amounts along a traversal with fences: they fill up each state to the peak.
use Rattle.std.proofs.Common.{◌≡◌, ℕ, zero, suc, ◌+◌, ◌-◌, ◌<◌, ◌≤◌, max, Bool, true, false, cond, ◌||◌, eqb, eq-eqb, List, [], ◌∷◌, ◌++◌, append_assoc, length, map, refl, sym, ap, ◌∙◌, arith, inl, inr, ⊎_elim}
use Rattle.std.specs.Prelude.{All, count_by}
use Rattle.std.specs.List.{sum_by, zip, range_with_len}
use Rattle.std.proofs.lemmas.List.{append-nil}
use Rattle.std.proofs.lemmas.List.Elements.{All-cons, All-nil}
use Rattle.std.proofs.lemmas.List.Sums.{sum_by-cons, sum_by-append}
use Rattle.std.proofs.lemmas.List.Folds.{list_any-append}
use Rattle.std.proofs.lemmas.Bool.{cases_eq, cases_Bool, ne_eqb, or_left, or_parts}
use Rattle.mp_system.specs.declared.system.Item.{Item}
use Rattle.mp_system.specs.System.{TaskSystem, IsTask, is_input, is_output, size_if, size_where, item_size, inputs_of, outputs_of, need_of}
use Rattle.mp_system.specs.Memory.{is_present, state_memory, running_memory, stands_in, peak_of}
use Rattle.mp_system.specs.Step.{AddsTask, CanRun}
use Rattle.mp_system.specs.Traversal.{IsTraversal}
use Rattle.fences.specs.Moments.{numbers_of}
use Rattle.fences.specs.Amounts.{AreHandedOn, with_size, carrying, received_by, handed_on_by, drawn_by, certified_bound}
use Rattle.fences.specs.Fences.{fence, fences_from, fences_along, chained}
use Rattle.fences.proofs.Going.{ReadyMore}
use Rattle.fences.proofs.Swaps.{count_of, once_in_range}
use Rattle.fences.proofs.Along.{stands_split, done_ready}
use Rattle.fences.proofs.Fencing.{size_where_same, need_same}
use Rattle.fences.proofs.Chains.{StateStep, PeakBound, chain_fenced, task, not_before, not_behind}

-- ---- items, and fences behind them, with numbers as sizes

sizes_then : (items fences : List Item) (amounts : List ℕ) → map with_size (zip (items ++ fences) (map item_size items ++ amounts)) ≡ items ++ map with_size (zip fences amounts)
sizes_then [] fences amounts = refl
sizes_then (item ∷ items) fences amounts = ap (λ (l : List Item). item ∷ l) (sizes_then items fences amounts)

then_long : (items fences : List Item) (amounts : List ℕ) → length amounts ≡ length fences → length (map item_size items ++ amounts) ≡ length (items ++ fences)
then_long [] fences amounts long = long
then_long (item ∷ items) fences amounts long = ap suc (then_long items fences amounts long)

then_covers : (items fences : List Item) (amounts : List ℕ) → All (λ p. p.0.size ≤ p.1) (zip fences amounts) → All (λ p. p.0.size ≤ p.1) (zip (items ++ fences) (map item_size items ++ amounts))
then_covers [] fences amounts covers = covers
then_covers (item ∷ items) fences amounts covers =
    All-cons (λ p. p.0.size ≤ p.1) (item, item.size) (zip (items ++ fences) (map item_size items ++ amounts)) (omega arith) (then_covers items fences amounts covers)

-- ---- what the fences carry: what each state is short of the peak

module _ (system : TaskSystem) (peak : ℕ) where
  -- after the tasks of a list
  abbrev pub short : List ℕ → ℕ
  short done = peak - state_memory system (stands_in done)

  abbrev pub amounts_from : List ℕ → List ℕ → List ℕ
  amounts_from done [] = []
  amounts_from done (v ∷ rest) = short done ∷ amounts_from (done ++ v ∷ []) rest

  abbrev pub amounts_along : List ℕ → List ℕ
  amounts_along [] = []
  amounts_along (u ∷ rest) = amounts_from (u ∷ []) rest

  -- the fences with these as sizes
  abbrev pub full_from : List ℕ → ℕ → List ℕ → List Item
  full_from done u rest = map with_size (zip (fences_from u rest) (amounts_from done rest))

  from_long : (done : List ℕ) (u : ℕ) (rest : List ℕ) → length (amounts_from done rest) ≡ length (fences_from u rest)
  from_long done u [] = refl
  from_long done u (v ∷ rest) = ap suc (from_long (done ++ v ∷ []) v rest)

  from_covers : (done : List ℕ) (u : ℕ) (rest : List ℕ) → All (λ p. p.0.size ≤ p.1) (zip (fences_from u rest) (amounts_from done rest))
  from_covers done u [] = All-nil (λ p. p.0.size ≤ p.1)
  from_covers done u (v ∷ rest) =
      All-cons (λ p. p.0.size ≤ p.1) (fence u v, short done) (zip (fences_from v rest) (amounts_from (done ++ v ∷ []) rest)) (omega arith) (from_covers (done ++ v ∷ []) v rest)

  from_start : (done : List ℕ) (u : ℕ) (rest : List ℕ) → size_where (is_present (λ _. false)) (full_from done u rest) ≡ 0
  from_start done u [] = refl
  from_start done u (v ∷ rest) =
      omega (arith, sum_by-cons (size_if (is_present (λ _. false))) (with_size (fence u v, short done)) (full_from (done ++ v ∷ []) v rest), from_start (done ++ v ∷ []) v rest)

  module _ (v : ℕ) where
    head_out : (done : List ℕ) (u w : ℕ) (rest : List ℕ) → eqb u v ≡ false → size_where (is_output v) (full_from done u (w ∷ rest)) ≡ size_where (is_output v) (full_from (done ++ w ∷ []) w rest)
    head_out done u w rest other =
        let none : cond (eqb u v) (short done) 0 ≡ 0 = rw other refl in
        omega (arith, none, sum_by-cons (size_if (is_output v)) (with_size (fence u w, short done)) (full_from (done ++ w ∷ []) w rest))

    -- no fence leads out of a task that does not stand there
    out_none : (done : List ℕ) (u : ℕ) (rest : List ℕ) → eqb u v ≡ false → stands_in rest v ≡ false → size_where (is_output v) (full_from done u rest) ≡ 0
    out_none done u [] other none = refl
    out_none done u (w ∷ rest) other none =
        let parts = or_parts (eqb w v) (stands_in rest v) none in
        head_out done u w rest other ∙ out_none (done ++ w ∷ []) w rest parts.0 parts.1

    -- one leads out of the first
    out_first : (done rest : List ℕ) → stands_in rest v ≡ false → size_where (is_output v) (full_from done v rest) ≤ short done
    out_first done [] none = omega arith
    out_first done (w ∷ rest) none =
        let parts = or_parts (eqb w v) (stands_in rest v) none in
        let here : cond (eqb v v) (short done) 0 ≡ short done = rw (eq-eqb v v refl) refl in
        omega (arith, here, sum_by-cons (size_if (is_output v)) (with_size (fence v w, short done)) (full_from (done ++ w ∷ []) w rest), out_none (done ++ w ∷ []) w rest parts.0 parts.1)

    -- one leads out of a later one
    out_later : (done : List ℕ) (u : ℕ) (x y : List ℕ) → eqb u v ≡ false → stands_in x v ≡ false → stands_in y v ≡ false
        → size_where (is_output v) (full_from done u (x ++ v ∷ y)) ≤ short (done ++ (x ++ v ∷ []))
    out_later done u [] y other none_x none_y = omega (arith, head_out done u v y other, out_first (done ++ v ∷ []) y none_y)
    out_later done u (w ∷ x) y other none_x none_y =
        let parts = or_parts (eqb w v) (stands_in x v) none_x in
        let later = out_later (done ++ w ∷ []) w x y parts.0 parts.1 none_y in
        let same : short ((done ++ w ∷ []) ++ (x ++ v ∷ [])) ≡ short (done ++ (w ∷ (x ++ v ∷ []))) = ap short (append_assoc done (w ∷ []) (x ++ v ∷ [])) in
        omega (arith, head_out done u w (x ++ v ∷ y) other, later, same)

    -- one leads into each but the first
    in_later : (done : List ℕ) (u : ℕ) (x y : List ℕ) → short (done ++ x) ≤ size_where (is_input v) (full_from done u (x ++ v ∷ y))
    in_later done u [] y =
        let here : cond (eqb v v) (short done) 0 ≡ short done = rw (eq-eqb v v refl) refl in
        let same : short (done ++ []) ≡ short done = ap short (append-nil done) in
        omega (arith, here, same, sum_by-cons (size_if (is_input v)) (with_size (fence u v, short done)) (full_from (done ++ v ∷ []) v y))
    in_later done u (w ∷ x) y =
        let same : short ((done ++ w ∷ []) ++ x) ≡ short (done ++ (w ∷ x)) = ap short (append_assoc done (w ∷ []) x) in
        omega (arith, same, in_later (done ++ w ∷ []) w x y, sum_by-cons (size_if (is_input v)) (with_size (fence u w, short done)) (full_from (done ++ w ∷ []) w (x ++ v ∷ y)))

-- ---- sums over the tasks

sum_zero : (ns : List ℕ) → sum_by (λ (v : ℕ). 0) ns ≡ 0
sum_zero [] = refl
sum_zero (x ∷ xs) = omega (arith, sum_by-cons (λ (v : ℕ). 0) x xs, sum_zero xs)

sum_within : (f g : ℕ → ℕ) (a n : ℕ) → ((v : ℕ) → a ≤ v → v < a + n → f v ≤ g v) → sum_by f (range_with_len a n) ≤ sum_by g (range_with_len a n)
sum_within f g a zero each = omega arith
sum_within f g a (suc n) each =
    omega (arith, each a (omega arith) (omega arith), sum_within f g (a + 1) n (λ v low high. each v (omega arith) (omega arith)), sum_by-cons f a (range_with_len (a + 1) n), sum_by-cons g a (range_with_len (a + 1) n))

one_none : (u s : ℕ) (ns : List ℕ) → count_of ns u ≡ 0 → sum_by (λ v. cond (eqb u v) s 0) ns ≡ 0
one_none u s [] none = refl
one_none u s (x ∷ xs) none = elim (cases_eq u x) [
  | inl same ↦ absurd (let one : ◌≡◌ {A = ℕ} (cond (eqb u x) 1 0) 1 = rw (eq-eqb u x same) in omega (arith, one, none, sum_by-cons (λ v. cond (eqb u v) 1 0) x xs))
  | inr other ↦ (let e = ne_eqb u x other in let here : cond (eqb u x) s 0 ≡ 0 = rw e refl in let zero_here : ◌≡◌ {A = ℕ} (cond (eqb u x) 1 0) 0 = rw e in
      omega (arith, here, sum_by-cons (λ v. cond (eqb u v) s 0) x xs, one_none u s xs (omega (arith, zero_here, none, sum_by-cons (λ v. cond (eqb u v) 1 0) x xs))))
]

pub one_sum : (u s : ℕ) (ns : List ℕ) → count_of ns u ≡ 1 → sum_by (λ v. cond (eqb u v) s 0) ns ≡ s
one_sum u s [] one = absurd (omega (arith, one))
one_sum u s (x ∷ xs) one = elim (cases_eq u x) [
  | inl same ↦ (let e = eq-eqb u x same in let here : cond (eqb u x) s 0 ≡ s = rw e refl in let one_here : ◌≡◌ {A = ℕ} (cond (eqb u x) 1 0) 1 = rw e in
      omega (arith, here, sum_by-cons (λ v. cond (eqb u v) s 0) x xs, one_none u s xs (omega (arith, one_here, one, sum_by-cons (λ v. cond (eqb u v) 1 0) x xs))))
  | inr other ↦ (let e = ne_eqb u x other in let here : cond (eqb u x) s 0 ≡ 0 = rw e refl in let zero_here : ◌≡◌ {A = ℕ} (cond (eqb u x) 1 0) 0 = rw e in
      omega (arith, here, sum_by-cons (λ v. cond (eqb u v) s 0) x xs, one_sum u s xs (omega (arith, zero_here, one, sum_by-cons (λ v. cond (eqb u v) 1 0) x xs))))
]

pub stands_once : (xs : List ℕ) (v : ℕ) → 1 ≤ count_by (λ u. eqb u v) xs → stands_in xs v ≡ true
stands_once [] v one = absurd (omega (arith, one))
stands_once (x ∷ xs) v one =
    ⊎_elim
    (λ s. or_left (eqb x v) (stands_in xs v) s)
    (λ n. let none : ◌≡◌ {A = ℕ} (cond (eqb x v) 1 0) 0 = rw n in
    rw n (stands_once xs v (omega (arith, none, one, sum_by-cons (λ u. cond (eqb u v) 1 0) x xs))))
    (cases_Bool (eqb x v))

pub eqb_comm : (u v : ℕ) → eqb u v ≡ eqb v u
eqb_comm u v = ⊎_elim (λ e. eq-eqb u v e ∙ sym (eq-eqb v u (sym e))) (λ n. ne_eqb u v n ∙ sym (ne_eqb v u (λ e. n (sym e)))) (cases_eq u v)

pub pushed : (before : List ℕ) (v : ℕ) → AddsTask (stands_in before) v (stands_in (before ++ v ∷ []))
pushed before v u = list_any-append (λ w. eqb w u) before (v ∷ []) ∙ ap (λ (b : Bool). stands_in before u || b) (or_none (eqb v u) ∙ eqb_comm v u)
  where
    or_none : (b : Bool) → (b || false) ≡ b
    or_none true = refl
    or_none false = refl

-- ---- the bound that the amounts certify

drawn_first : (input need output handed_on received start later peak : ℕ) → start + need ≤ peak → later + input ≡ start + output → later ≤ peak → handed_on ≤ output + (peak - later) → input ≤ received
    → max (input + need) handed_on - received ≤ peak - start
drawn_first input need output handed_on received start later peak a b c d e = omega arith

drawn_later : (input need output handed_on received start later peak : ℕ) → start + need ≤ peak → later + input ≡ start + output → later ≤ peak → handed_on ≤ output + (peak - later) → input + (peak - start) ≤ received
    → max (input + need) handed_on - received ≡ 0
drawn_later input need output handed_on received start later peak a b c d e = omega arith

module _ (more : ReadyMore) (step : StateStep) (bound : PeakBound) (system : TaskSystem) (order : List ℕ) (is : IsTraversal system order) where
  peak : ℕ
  peak = peak_of system order

  -- the memories along the order
  module _ (before rest : List ℕ) (v : ℕ) (split : order ≡ before ++ v ∷ rest) where
    can : CanRun system (stands_in before) v
    can = record { fresh = not_before system order is before rest v split; ready = is.after_suppliers before rest v split; suppliers = done_ready more system order is before (v ∷ rest) split }

    stepped : state_memory system (stands_in (before ++ v ∷ [])) + inputs_of system v ≡ state_memory system (stands_in before) + outputs_of system v
    stepped = step system (stands_in before) (stands_in (before ++ v ∷ [])) v can (pushed before v)

    running_le : running_memory system (stands_in before) v ≤ peak_of system order
    running_le = bound system order _ (inr (before, rest, v, split, refl))

    later_le : state_memory system (stands_in (before ++ v ∷ [])) ≤ peak_of system order
    later_le = bound system order _ (inl (before ++ v ∷ [], rest, split ∙ sym (append_assoc before (v ∷ []) rest), refl))

  -- the amounts: the sizes, and behind them what the fences carry
  pub full_along : List ℕ → List Item
  full_along l = map with_size (zip (fences_along l) (amounts_along system (peak_of system order) l))

  pub amounts : List ℕ
  amounts = map item_size system.items ++ amounts_along system (peak_of system order) order

  along_long : (l : List ℕ) → length (amounts_along system (peak_of system order) l) ≡ length (fences_along l)
  along_long [] = refl
  along_long (u ∷ rest) = from_long system (peak_of system order) (u ∷ []) u rest

  along_covers : (l : List ℕ) → All (λ p. p.0.size ≤ p.1) (zip (fences_along l) (amounts_along system (peak_of system order) l))
  along_covers [] = All-nil (λ p. p.0.size ≤ p.1)
  along_covers (u ∷ rest) = from_covers system (peak_of system order) (u ∷ []) u rest

  along_start : (l : List ℕ) → size_where (is_present (λ _. false)) (full_along l) ≡ 0
  unfolding full_along
  along_start [] = refl
  along_start (u ∷ rest) = from_start system (peak_of system order) (u ∷ []) u rest

  pub handed : AreHandedOn (chained system order) amounts
  unfolding amounts
  handed = record {
    long = then_long system.items (fences_along order) (amounts_along system (peak_of system order) order) (along_long order);
    covers = then_covers system.items (fences_along order) (amounts_along system (peak_of system order) order) (along_covers order);
  }

  parts : (test : Item → Bool) → size_where test (carrying (chained system order) amounts).items ≡ size_where test system.items + size_where test (full_along order)
  unfolding amounts full_along
  parts test =
      ap (size_where test) (sizes_then system.items (fences_along order) (amounts_along system (peak_of system order) order))
      ∙ sum_by-append (size_if test) system.items (map with_size (zip (fences_along order) (amounts_along system (peak_of system order) order)))

  first_of : List ℕ → ℕ
  first_of [] = 0
  first_of (u ∷ rest) = u

  drawn_at : (a y : List ℕ) (v : ℕ) → order ≡ a ++ v ∷ y
      → drawn_by (chained system order) amounts v ≤ cond (eqb (first_of order) v) (peak_of system order - state_memory system (stands_in [])) 0
  unfolding full_along first_of
  drawn_at [] y v split =
      let top = peak_of system order in
      let first : cond (eqb (first_of order) v) (top - state_memory system (stands_in [])) 0 ≡ top - state_memory system (stands_in []) =
      rw (eq-eqb (first_of order) v (ap first_of split)) refl in
      let full : size_where (is_output v) (full_along order) ≡ size_where (is_output v) (full_from system top (v ∷ []) v y) = ap (λ (l : List ℕ). size_where (is_output v) (full_along l)) split in
      let out = out_first system top v (v ∷ []) y (not_behind system order is [] y v split) in
      let chain = chained system order in
      let same_in : inputs_of chain v ≡ inputs_of system v = size_where_same system chain (chain_fenced system order) (is_input v) in
      let same_need : need_of chain v ≡ need_of system v = need_same system chain (chain_fenced system order) v in
      let moved : state_memory system (stands_in (v ∷ [])) + inputs_of system v ≡ state_memory system (stands_in []) + outputs_of system v = stepped [] y v split in
      let drawn = drawn_first (inputs_of chain v) (need_of chain v) (outputs_of system v) (handed_on_by (chained system order) amounts v) (received_by (chained system order) amounts v)
      (state_memory system (stands_in [])) (state_memory system (stands_in (v ∷ []))) top
      (omega (arith, running_le [] y v split, same_need)) (omega (arith, moved, same_in)) (later_le [] y v split) (omega (arith, parts (is_output v), full, out)) (omega (arith, parts (is_input v), same_in)) in
      omega (arith, first, drawn)
  drawn_at (u ∷ x) y v split =
      let top = peak_of system order in
      let none = or_parts (eqb u v) (stands_in x v) (not_before system order is (u ∷ x) y v split) in
      let full_out : size_where (is_output v) (full_along order) ≡ size_where (is_output v) (full_from system top (u ∷ []) u (x ++ v ∷ y)) = ap (λ (l : List ℕ). size_where (is_output v) (full_along l)) split in
      let full_in : size_where (is_input v) (full_along order) ≡ size_where (is_input v) (full_from system top (u ∷ []) u (x ++ v ∷ y)) = ap (λ (l : List ℕ). size_where (is_input v) (full_along l)) split in
      let out = out_later system top v (u ∷ []) u x y none.0 none.1 (not_behind system order is (u ∷ x) y v split) in
      let into = in_later system top v (u ∷ []) u x y in
      let chain = chained system order in
      let same_in : inputs_of chain v ≡ inputs_of system v = size_where_same system chain (chain_fenced system order) (is_input v) in
      let same_need : need_of chain v ≡ need_of system v = need_same system chain (chain_fenced system order) v in
      let drawn = drawn_later (inputs_of chain v) (need_of chain v) (outputs_of system v) (handed_on_by (chained system order) amounts v) (received_by (chained system order) amounts v)
      (state_memory system (stands_in (u ∷ x))) (state_memory system (stands_in (u ∷ (x ++ v ∷ [])))) top
      (omega (arith, running_le (u ∷ x) y v split, same_need)) (omega (arith, stepped (u ∷ x) y v split, same_in)) (later_le (u ∷ x) y v split) (omega (arith, parts (is_output v), full_out, out)) (omega (arith, parts (is_input v), full_in, into, same_in)) in
      omega (arith, drawn)

  entry_of_task : (v : ℕ) → IsTask system v → drawn_by (chained system order) amounts v ≤ cond (eqb (first_of order) v) (peak_of system order - state_memory system (stands_in [])) 0
  entry_of_task v is_task =
      let at = stands_split order v (stands_once order v (omega (arith, is.once v is_task))) in
      drawn_at at.0 at.1 v at.2

  all_drawn : (l : List ℕ) → order ≡ l → sum_by (drawn_by (chained system order) amounts) (numbers_of system) ≤ peak_of system order - state_memory system (stands_in [])
  unfolding first_of
  all_drawn [] none =
      let zero_sum = sum_within (drawn_by (chained system order) amounts) (λ (v : ℕ). 0) 1 (length system.tasks)
      (λ v low high. absurd (omega (arith, is.once v (low, omega (arith, high)), ap (λ (l : List ℕ). count_by (λ u. eqb u v) l) none))) in
      omega (arith, zero_sum, sum_zero (numbers_of system))
  all_drawn (u ∷ rest) split =
      let top = peak_of system order in
      let first : first_of order ≡ u = ap first_of split in
      let u_task = task system order is [] rest u split in
      let within = sum_within (drawn_by (chained system order) amounts) (λ v. cond (eqb (first_of order) v) (top - state_memory system (stands_in [])) 0) 1 (length system.tasks)
      (λ v low high. entry_of_task v (low, omega (arith, high))) in
      let one = one_sum (first_of order) (top - state_memory system (stands_in [])) (numbers_of system)
      (ap (count_of (numbers_of system)) first ∙ once_in_range 1 (length system.tasks) u u_task.0 (omega (arith, u_task.1))) in
      omega (arith, within, one)

  pub value_le : certified_bound (chained system order) amounts ≤ peak_of system order
  value_le =
      let least : state_memory system (stands_in []) ≤ peak_of system order = bound system order _ (inl ([], order, refl, refl)) in
      omega (arith, all_drawn order refl, parts (is_present (λ _. false)), along_start order, least)

  pub chain_amounts : (f : List ℕ) × AreHandedOn (chained system order) f × (certified_bound (chained system order) f ≤ peak_of system order)
  chain_amounts = (amounts, handed, value_le)
