-- The system of a term is a system within the limits.
use Rattle.std.proofs.Common.{◌≡◌, ℕ, suc, ◌+◌, ◌-◌, ◌<◌, ◌≤◌, Bool, true, false, inl, inr, refl, sym, subst, ap, arith}
use Rattle.std.proofs.Common.{◌∙◌, List, [], ◌∷◌, ◌++◌, length, length-append, take, get_or, Option, Some, None}
use Rattle.std.specs.Prelude.{if◌then◌else◌, ◌⊎◌}
use Rattle.std.specs.Option.{ForSome}
use Rattle.std.specs.List.{All}
use Rattle.std.proofs.lemmas.List.Elements.{All-nil, All-cons, All-head, All-tail, All-append, filter_map-append}
use Rattle.std.specs.List.{sum_by}
use Rattle.std.proofs.lemmas.List.{append-nil, get_or_append_left, get_or-append-add, take_more}
use Rattle.std.proofs.Math.Seq.{get_or-append_seam}
use Rattle.std.proofs.lemmas.List.Sums.{sum_by-append, sum_by-cons}
use Rattle.limits.specs.Limits.{most_size}
use Rattle.mp_system.specs.declared.system.Task.{Task}
use Rattle.mp_system.specs.declared.system.Item.{Item}
use Rattle.mp_system.specs.System.{IsSystem, IsTaskWithin, extra_size, item_size, is_named, is_input, is_output, size_if, size_where}
use Rattle.sp_terms.specs.declared.position.Position.{Position}
use Rattle.sp_terms.specs.declared.position.Position.TheVariants.{Hold, Par}
use Rattle.sp_terms.specs.declared.position.Position.TheVariants as at
use Rattle.sp_terms.specs.Term.{Term, hold, series, par, Parts, no_parts, part, count, width_of, width_of_parts}
use Rattle.sp_terms.specs.Term.{forward, backward, first_memory, first_memory_of_parts, IsAllowed, AreAllowed}
use Rattle.sp_terms.specs.SystemOfTerm.{task_count, task_count_of_parts, tasks_of_term, tasks_of_parts}
use Rattle.sp_terms.specs.SystemOfTerm.{items_of_term, items_of_parts, own_number, system_of_term}
use Rattle.sp_terms.specs.Postfix.{postfix, all_postfix, at_task}
use Rattle.sp_terms.specs.Values.{term_of, IsTerms, IsWithinLimits, added_size, added_tasks}
use Rattle.sp_terms.specs.Pending.{tasks_in, task_of}
use Rattle.sp_terms.proofs.Stacks.{all_pushed, all-split, length-postfix}

-- what is made and used among these items
abbrev pub made : List Item → ℕ → ℕ
made items v = size_where (is_output v) items

abbrev used : List Item → ℕ → ℕ
used items v = size_where (is_input v) items

abbrev no_task : Task
no_task = record { extra = 0; share = 0; time = 0 }

abbrev HasShareIn : Task → List Item → ℕ → Type 0
HasShareIn task items v = (task.share ≤ used items v) × (task.share ≤ task.extra + made items v)

-- tasks

mutual
  tasks-postfix : (t : Term) → tasks_in (postfix t) ≡ tasks_of_term t
  tasks-postfix (hold size) = refl
  tasks-postfix (series a v b) =
      filter_map-append task_of (postfix a) (postfix b ++ at_task v ∷ [])
      ∙ (λ i. tasks-postfix a i ++ filter_map-append task_of (postfix b) (at_task v ∷ []) i)
      ∙ ap (λ z. tasks_of_term a ++ (z ++ v ∷ [])) (tasks-postfix b)
  tasks-postfix (par ts) =
      filter_map-append task_of (all_postfix ts) (Par (count ts) ∷ []) ∙ append-nil (tasks_in (all_postfix ts)) ∙ all_tasks-postfix ts

  all_tasks-postfix : (ts : Parts) → tasks_in (all_postfix ts) ≡ tasks_of_parts ts
  all_tasks-postfix no_parts = refl
  all_tasks-postfix (part t ts) =
      filter_map-append task_of (postfix t) (all_postfix ts) ∙ (λ i. tasks-postfix t i ++ all_tasks-postfix ts i)

mutual
  pub length-tasks : (t : Term) → length (tasks_of_term t) ≡ task_count t
  length-tasks (hold size) = refl
  length-tasks (series a v b) = omega (
    arith,
    length-append (tasks_of_term a) (tasks_of_term b ++ v ∷ []),
    length-append (tasks_of_term b) (v ∷ []),
    length-tasks a,
    length-tasks b,
  )
  length-tasks (par ts) = length-all_tasks ts

  pub length-all_tasks : (ts : Parts) → length (tasks_of_parts ts) ≡ task_count_of_parts ts
  length-all_tasks no_parts = refl
  length-all_tasks (part t ts) = omega (arith, length-append (tasks_of_term t) (tasks_of_parts ts), length-tasks t, length-all_tasks ts)

pub postfix-of : (ps : List Position) → IsTerms ps → ps ≡ postfix (term_of ps)
postfix-of ps h = all_pushed ps [] (term_of ps ∷ []) h.is

pub tasks-of : (ps : List Position) → IsTerms ps → tasks_in ps ≡ tasks_of_term (term_of ps)
tasks-of ps h = ap tasks_in (postfix-of ps h) ∙ tasks-postfix (term_of ps)

-- one more position
more_tasks : (ps : List Position) (n : ℕ) (d : Position) → n < length ps
    → tasks_in (take (n + 1) ps) ≡ tasks_in (take n ps) ++ tasks_in (get_or ps n d ∷ [])
more_tasks ps n d lt = ap tasks_in (take_more ps n d lt) ∙ filter_map-append task_of (take n ps) (get_or ps n d ∷ [])

pub step_task : (ps : List Position) (n : ℕ) (d : Position) (v : Task) (all : List Task) → n < length ps
    → get_or ps n d ≡ at_task v → all ≡ tasks_in (take n ps) → all ++ v ∷ [] ≡ tasks_in (take (n + 1) ps)
step_task ps n d v all lt is e =
    ap (λ z. z ++ v ∷ []) e ∙ sym (more_tasks ps n d lt ∙ ap (λ p. tasks_in (take n ps) ++ tasks_in (p ∷ [])) is)

pub step_other : (ps : List Position) (n : ℕ) (d : Position) (all : List Task) → n < length ps
    → ((x s t : ℕ) → get_or ps n d ≡ at.Task x s t → ⊥) → all ≡ tasks_in (take n ps) → all ≡ tasks_in (take (n + 1) ps)
step_other ps n d all lt not_task e = e
    ∙ sym (more_tasks ps n d lt ∙ ap (λ z. tasks_in (take n ps) ++ z) (none (get_or ps n d) not_task) ∙ append-nil (tasks_in (take n ps)))
  where
    none : (p : Position) → ((x s t : ℕ) → p ≡ at.Task x s t → ⊥) → tasks_in (p ∷ []) ≡ []
    none (Hold size) f = refl
    none (at.Task x s t) f = absurd (f x s t refl)
    none (Par k) f = refl

-- items

tasks-within : (ps : List Position) → All IsWithinLimits ps → All IsTaskWithin (tasks_in ps)
tasks-within [] h = All-nil IsTaskWithin
tasks-within (Hold size ∷ ps) h = tasks-within ps (All-tail IsWithinLimits (Hold size) ps h)
tasks-within (at.Task x s t ∷ ps) h =
    let own = All-head IsWithinLimits (at.Task x s t) ps h in
    All-cons IsTaskWithin (record { extra = x; share = s; time = t }) (tasks_in ps)
    (record { extra = own.0; time = (own.1, own.2) }) (tasks-within ps (All-tail IsWithinLimits (at.Task x s t) ps h))
tasks-within (Par k ∷ ps) h = tasks-within ps (All-tail IsWithinLimits (Par k) ps h)

abbrev pub Within : ℕ → Option ℕ → Type 0
Within n o = ForSome o (λ v. (1 ≤ v) × (v ≤ n))

none_some' : {v : ℕ} → None ≡ Some v → ⊥
none_some' e = cc

some_same' : {u v : ℕ} → Some u ≡ Some v → u ≡ v
some_same' e = cc

abbrev Ends : ℕ → Item → Type 0
Ends n item = (item.size ≤ most_size) × Within n item.from × Within n item.to

mutual
  items-within : (n base : ℕ) (from to : Option ℕ) (t : Term) → All IsWithinLimits (postfix t) → 1 ≤ base
      → base + task_count t ≤ suc n → Within n from → Within n to → All (Ends n) (items_of_term base from to t)
  items-within n base from to (hold size) small some le f g =
      All-cons (Ends n) _ [] (All-head IsWithinLimits (Hold size) [] small, f, g) (All-nil (Ends n))
  items-within n base from to (series a v b) small some le f g =
      let own : Within n (Some (own_number base a b)) = λ u e. (omega (arith, some_same' e), omega (arith, some_same' e)) in
      let split = all-split IsWithinLimits (postfix a) (postfix b ++ at_task v ∷ []) small in
      All-append (Ends n) (items_of_term base from (Some (own_number base a b)) a)
      (items_of_term (base + task_count a) (Some (own_number base a b)) to b)
      (items-within n base from (Some (own_number base a b)) a split.0 (omega arith) (omega arith) f own)
      (items-within n (base + task_count a) (Some (own_number base a b)) to b
      (all-split IsWithinLimits (postfix b) (at_task v ∷ []) split.1).0 (omega arith) (omega arith) own g)
  items-within n base from to (par ts) small some le f g =
      all_items-within n base from to ts (all-split IsWithinLimits (all_postfix ts) (Par (count ts) ∷ []) small).0 some le f g

  all_items-within : (n base : ℕ) (from to : Option ℕ) (ts : Parts) → All IsWithinLimits (all_postfix ts) → 1 ≤ base
      → base + task_count_of_parts ts ≤ suc n → Within n from → Within n to → All (Ends n) (items_of_parts base from to ts)
  all_items-within n base from to no_parts small some le f g = All-nil (Ends n)
  all_items-within n base from to (part t ts) small some le f g =
      let split = all-split IsWithinLimits (postfix t) (all_postfix ts) small in
      All-append (Ends n) (items_of_term base from to t) (items_of_parts (base + task_count t) from to ts)
      (items-within n base from to t split.0 (omega arith) (omega arith) f g)
      (all_items-within n (base + task_count t) from to ts split.1 (omega arith) (omega arith) f g)

mutual
  length-items : (base : ℕ) (from to : Option ℕ) (t : Term) → length (items_of_term base from to t) ≤ width_of t
  length-items base from to (hold size) = omega arith
  length-items base from to (series a v b) =
      omega (
        arith,
        length-append (items_of_term base from (Some (own_number base a b)) a)
            (items_of_term (base + task_count a) (Some (own_number base a b)) to b),
        length-items base from (Some (own_number base a b)) a,
        length-items (base + task_count a) (Some (own_number base a b)) to b,
      )
  length-items base from to (par ts) = omega (arith, length-all_items base from to ts)

  length-all_items : (base : ℕ) (from to : Option ℕ) (ts : Parts) → length (items_of_parts base from to ts) ≤ width_of_parts ts
  length-all_items base from to no_parts = omega arith
  length-all_items base from to (part t ts) = omega (
    arith,
    length-append (items_of_term base from to t) (items_of_parts (base + task_count t) from to ts),
    length-items base from to t,
    length-all_items (base + task_count t) from to ts,
  )

mutual
  sizes : (base : ℕ) (from to : Option ℕ) (t : Term)
      → sum_by extra_size (tasks_of_term t) + sum_by item_size (items_of_term base from to t) ≡ sum_by added_size (postfix t)
  sizes base from to (hold size) = omega arith
  sizes base from to (series a v b) =
      omega (
        arith,
        sum_by-append extra_size (tasks_of_term a) (tasks_of_term b ++ v ∷ []),
        sum_by-append extra_size (tasks_of_term b) (v ∷ []),
        sum_by-append item_size (items_of_term base from (Some (own_number base a b)) a)
            (items_of_term (base + task_count a) (Some (own_number base a b)) to b),
        sum_by-append added_size (postfix a) (postfix b ++ at_task v ∷ []),
        sum_by-append added_size (postfix b) (at_task v ∷ []),
        sizes base from (Some (own_number base a b)) a,
        sizes (base + task_count a) (Some (own_number base a b)) to b,
      )
  sizes base from to (par ts) = omega (arith, sum_by-append added_size (all_postfix ts) (Par (count ts) ∷ []), all_sizes base from to ts)

  all_sizes : (base : ℕ) (from to : Option ℕ) (ts : Parts)
      → sum_by extra_size (tasks_of_parts ts) + sum_by item_size (items_of_parts base from to ts) ≡ sum_by added_size (all_postfix ts)
  all_sizes base from to no_parts = omega arith
  all_sizes base from to (part t ts) =
      omega (
        arith,
        sum_by-append extra_size (tasks_of_term t) (tasks_of_parts ts),
        sum_by-append item_size (items_of_term base from to t) (items_of_parts (base + task_count t) from to ts),
        sum_by-append added_size (postfix t) (all_postfix ts),
        sizes base from to t,
        all_sizes (base + task_count t) from to ts,
      )

-- the number of tasks
runs-count : (ps : List Position) → sum_by added_tasks ps ≡ length (tasks_in ps)
runs-count [] = refl
runs-count (Hold size ∷ ps) = sum_by-cons added_tasks (Hold size) ps ∙ omega (arith, runs-count ps)
runs-count (at.Task x s t ∷ ps) = sum_by-cons added_tasks (at.Task x s t) ps ∙ one_plus (sum_by added_tasks ps) ∙ ap suc (runs-count ps)
  where
    one_plus : (n : ℕ) → 1 + n ≡ suc n
    one_plus n = omega arith
runs-count (Par k ∷ ps) = sum_by-cons added_tasks (Par k) ps ∙ omega (arith, runs-count ps)

-- shares

used-append : (xs ys : List Item) (v : ℕ) → used (xs ++ ys) v ≡ used xs v + used ys v
used-append xs ys v = sum_by-append (size_if (λ item. is_named item.to v)) xs ys

pub made-append : (xs ys : List Item) (v : ℕ) → made (xs ++ ys) v ≡ made xs v + made ys v
made-append xs ys v = sum_by-append (size_if (λ item. is_named item.from v)) xs ys

-- what leads to the task is all that the term leaves
mutual
  leaves : (base : ℕ) (from to : Option ℕ) (t : Term) (v : ℕ) → is_named to v ≡ true
      → first_memory backward t ≤ used (items_of_term base from to t) v
  leaves base from to (hold size) v e = let h : size ≡ used (items_of_term base from to (hold size)) v =
      sym (one_if (is_named to v) size e)
      ∙ sym (sum_by-cons (size_if (λ item. is_named item.to v)) (record { size = size; from = from; to = to }) []) in
      omega (arith, h)
    where
      one_if : (b : Bool) (n : ℕ) → b ≡ true → (if b then n else 0) + 0 ≡ n
      one_if true n e = omega arith
      one_if false n e = absurd (no_true (sym e))
        where
          no_true : true ≡ false → ⊥
          no_true e = cc
  leaves base from to (series a w b) v e =
      omega (
        arith,
        used-append (items_of_term base from (Some (own_number base a b)) a)
            (items_of_term (base + task_count a) (Some (own_number base a b)) to b) v,
        leaves (base + task_count a) (Some (own_number base a b)) to b v e,
      )
  leaves base from to (par ts) v e = all_leaves base from to ts v e

  all_leaves : (base : ℕ) (from to : Option ℕ) (ts : Parts) (v : ℕ) → is_named to v ≡ true
      → first_memory_of_parts backward ts ≤ used (items_of_parts base from to ts) v
  all_leaves base from to no_parts v e = omega arith
  all_leaves base from to (part t ts) v e = omega (
    arith,
    used-append (items_of_term base from to t) (items_of_parts (base + task_count t) from to ts) v,
    leaves base from to t v e,
    all_leaves (base + task_count t) from to ts v e,
  )

-- what comes from the task is all that the term starts with
mutual
  starts : (base : ℕ) (from to : Option ℕ) (t : Term) (v : ℕ) → is_named from v ≡ true
      → first_memory forward t ≤ made (items_of_term base from to t) v
  starts base from to (hold size) v e = let h : size ≡ made (items_of_term base from to (hold size)) v =
      sym (one_if (is_named from v) size e)
      ∙ sym (sum_by-cons (size_if (λ item. is_named item.from v)) (record { size = size; from = from; to = to }) []) in
      omega (arith, h)
    where
      one_if : (b : Bool) (n : ℕ) → b ≡ true → (if b then n else 0) + 0 ≡ n
      one_if true n e = omega arith
      one_if false n e = absurd (no_true (sym e))
        where
          no_true : true ≡ false → ⊥
          no_true e = cc
  starts base from to (series a w b) v e =
      omega (
        arith,
        made-append (items_of_term base from (Some (own_number base a b)) a)
            (items_of_term (base + task_count a) (Some (own_number base a b)) to b) v,
        starts base from (Some (own_number base a b)) a v e,
      )
  starts base from to (par ts) v e = all_starts base from to ts v e

  all_starts : (base : ℕ) (from to : Option ℕ) (ts : Parts) (v : ℕ) → is_named from v ≡ true
      → first_memory_of_parts forward ts ≤ made (items_of_parts base from to ts) v
  all_starts base from to no_parts v e = omega arith
  all_starts base from to (part t ts) v e = omega (
    arith,
    made-append (items_of_term base from to t) (items_of_parts (base + task_count t) from to ts) v,
    starts base from to t v e,
    all_starts (base + task_count t) from to ts v e,
  )

same_named : (v : ℕ) → is_named (Some v) v ≡ true
same_named v = grind arith

-- more items, and another way to the task
wider : (task task' : Task) (xs ys zs : List Item) (v : ℕ) → task' ≡ task → HasShareIn task ys v → HasShareIn task' (xs ++ (ys ++ zs)) v
wider task task' xs ys zs v e h =
    let u : used (xs ++ (ys ++ zs)) v ≡ used xs v + (used ys v + used zs v) =
    used-append xs (ys ++ zs) v ∙ ap (λ n. used xs v + n) (used-append ys zs v) in
    let m : made (xs ++ (ys ++ zs)) v ≡ made xs v + (made ys v + made zs v) =
    made-append xs (ys ++ zs) v ∙ ap (λ n. made xs v + n) (made-append ys zs v) in
    subst (λ t. HasShareIn t (xs ++ (ys ++ zs)) v) (sym e) (omega (arith, u, h.0), omega (arith, m, h.1))

mutual
  shares-at : (base : ℕ) (from to : Option ℕ) (t : Term) (v : ℕ) → IsAllowed t → base ≤ v → v < base + task_count t
      → HasShareIn (get_or (tasks_of_term t) (v - base) no_task) (items_of_term base from to t) v
  shares-at base from to (hold size) v g l m = absurd (omega arith)
  shares-at base from to (series a w b) v (ga, gb, g, h) l m =
      let own = own_number base a b in
      let xs = items_of_term base from (Some own) a in
      let ys = items_of_term (base + task_count a) (Some own) to b in
      three v (base + task_count a) own l m
      (λ le. (wider _ (get_or (tasks_of_term (series a w b)) (v - base) no_task) [] xs ys v
      (get_or_append_left (tasks_of_term a) (tasks_of_term b ++ w ∷ []) no_task (v - base) (omega (arith, length-tasks a)))
      (shares-at base from (Some own) a v g l le)))
      (λ lt le. subst (λ z. HasShareIn (get_or (tasks_of_term (series a w b)) (v - base) no_task) (xs ++ z) v)
      (append-nil ys) (wider _ _ xs ys [] v
      (ap (λ k. get_or (tasks_of_term a ++ (tasks_of_term b ++ w ∷ [])) k no_task) (omega (arith, length-tasks a))
      ∙ get_or-append-add (tasks_of_term a) (tasks_of_term b ++ w ∷ []) (v - (base + task_count a)) no_task
      ∙ get_or_append_left (tasks_of_term b) (w ∷ []) no_task (v - (base + task_count a)) (omega (arith, length-tasks b)))
      (shares-at (base + task_count a) (Some own) to b v h lt (omega arith))))
      (λ e.
      let is_w : get_or (tasks_of_term a ++ (tasks_of_term b ++ w ∷ [])) (v - base) no_task ≡ w =
      ap (λ k. get_or (tasks_of_term a ++ (tasks_of_term b ++ w ∷ [])) k no_task) (omega (arith, length-tasks a, length-tasks b))
      ∙ get_or-append-add (tasks_of_term a) (tasks_of_term b ++ w ∷ []) (length (tasks_of_term b)) no_task
      ∙ get_or-append_seam (tasks_of_term b) w [] no_task in
      let u = leaves base from (Some own) a v (ap (λ z. is_named (Some own) z) e ∙ same_named own) in
      let s = starts (base + task_count a) (Some own) to b v (ap (λ z. is_named (Some own) z) e ∙ same_named own) in
      subst (λ z. HasShareIn z (xs ++ ys) v) (sym is_w)
      (omega (arith, used-append xs ys v, u, ga), omega (arith, made-append xs ys v, s, gb)))
    where
      three : {A : Type 0} (v x own : ℕ) → base ≤ v → v < base + suc (task_count a + task_count b) → (v < base + task_count a → A)
          → (base + task_count a ≤ v → v < base + task_count a + task_count b → A) → (v ≡ own_number base a b → A) → A
      three v x own l m f g e =
          split v (base + task_count a) f (λ h. split v (base + task_count a + task_count b) (λ k. g h k) (λ k. e (omega arith)))
        where
          le_or : (v n : ℕ) → (v < n) ⊎ (n ≤ v)
          le_or v n = grind arith

          split : {A : Type 0} (v n : ℕ) → (v < n → A) → (n ≤ v → A) → A
          split v n f g = elim (le_or v n) [ inl h ↦ f h | inr h ↦ g h ]
  shares-at base from to (par ts) v g l m = all_shares-at base from to ts v g.1 l m

  all_shares-at : (base : ℕ) (from to : Option ℕ) (ts : Parts) (v : ℕ) → AreAllowed ts → base ≤ v
      → v < base + task_count_of_parts ts → HasShareIn (get_or (tasks_of_parts ts) (v - base) no_task) (items_of_parts base from to ts) v
  all_shares-at base from to no_parts v g l m = absurd (omega arith)
  all_shares-at base from to (part t ts) v (g, h) l m =
      let xs = items_of_term base from to t in
      let ys = items_of_parts (base + task_count t) from to ts in
      split v (base + task_count t)
      (λ le. wider _ _ [] xs ys v
      (get_or_append_left (tasks_of_term t) (tasks_of_parts ts) no_task (v - base) (omega (arith, length-tasks t)))
      (shares-at base from to t v g l le))
      (λ lt. subst (λ z. HasShareIn (get_or (tasks_of_parts (part t ts)) (v - base) no_task) (xs ++ z) v)
      (append-nil ys) (wider _ _ xs ys [] v
      (ap (λ k. get_or (tasks_of_term t ++ tasks_of_parts ts) k no_task) (omega (arith, length-tasks t))
      ∙ get_or-append-add (tasks_of_term t) (tasks_of_parts ts) (v - (base + task_count t)) no_task)
      (all_shares-at (base + task_count t) from to ts v h lt (omega arith))))
    where
      le_or : (v n : ℕ) → (v < n) ⊎ (n ≤ v)
      le_or v n = grind arith

      split : {A : Type 0} (v n : ℕ) → (v < n → A) → (n ≤ v → A) → A
      split v n f g = elim (le_or v n) [ inl h ↦ f h | inr h ↦ g h ]

pub is_system : (ps : List Position) → IsTerms ps → IsSystem (system_of_term (term_of ps))
is_system ps h =
    let t = term_of ps in
    let e = postfix-of ps h in
    let small : All IsWithinLimits (postfix t) = subst (All IsWithinLimits) e h.within in
    let each = items-within (task_count t) 1 None None t small (omega arith)
    (omega arith) (λ v e. absurd (none_some' e)) (λ v e. absurd (none_some' e)) in
    let n : task_count t ≡ length (tasks_of_term t) = sym (length-tasks t) in
    record {
      few_tasks = omega (arith, h.few_tasks, runs-count ps, ap length (tasks-of ps h));
      few_items = omega (arith, h.few, ap length e, length-postfix t, length-items 1 None None t);
      tasks = subst (All IsTaskWithin) (tasks-of ps h) (tasks-within ps h.within);
      items = λ i d lt.
          let (size, from, to) = each i d lt in
          let item = get_or (items_of_term 1 None None t) i d in
          record { size = size; producer = subst (λ m. Within m item.from) n from; consumer = subst (λ m. Within m item.to) n to };
      total = omega (arith, h.total, ap (sum_by added_size) e, sizes 1 None None t);
      shares = λ v range. shares-at 1 None None t v h.allowed.0 (omega (arith, range.0)) (omega (arith, range.1, n));
    }
