-- The memory of a composition's states and running tasks, from that of its parts.
use Rattle.std.proofs.Common.{◌≡◌, ℕ, suc, ◌+◌, ◌-◌, ◌<◌, ◌≤◌, Bool, true, false, not, cond, refl, sym, subst}
use Rattle.std.proofs.Common.{ap, arith, ◌∙◌, List, [], ◌∷◌, map, get_or, Option, Some, None, eq-eqb}
use Rattle.std.specs.Prelude.{◌==◌, ◌&&◌, ◌||◌, nat_lt}
use Rattle.mp_system.specs.Memory.{stands_in}
use Rattle.mp_system.specs.System.{size_where, is_named, need_of}
use Rattle.sp_terms.specs.SystemOfTerm.{task_count, task_count_of_parts, tasks_of_term, tasks_of_parts}
use Rattle.sp_terms.specs.SystemOfTerm.{items_of_term, items_of_parts, own_number, system_of_term}
use Rattle.sp_terms.specs.Term.{Term, hold, series, par, Parts, no_parts, part}
use Rattle.sp_term_laws.proofs.Words.{made, done_or, is_there, need_with, no_task, need_in}
use Rattle.sp_term_laws.specs.Along.{memory_while, memory_after}
use Rattle.sp_term_laws.specs.Interleaved.{numbers_within}
use Rattle.sp_term_laws.specs.Composed.{of_part, parts_memory, parts_running}
use Rattle.sp_term_laws.proofs.At.{held-append, held_one}
use Rattle.sp_term_laws.proofs.Ends.{split2, clash}
use Rattle.sp_term_laws.proofs.Next.{made-outside, all_made-outside, length-tasks, need-left, need-right}
use Rattle.sp_terms.proofs.SystemLemmas.{made-append}
use Rattle.std.proofs.lemmas.Bool.{ne_eqb as ne-eqb}
use Rattle.sp_term_laws.proofs.Trails.{own-low, own-high, own-in}

-- items that the same tasks make and take

same_test : (a b c d : Bool) (size : ℕ) → a ≡ c → b ≡ d → cond (a && not b) size 0 ≡ cond (c && not d) size 0
same_test a b c d size e f = λ i. cond (e i && not (f i)) size 0

module _ (done done' : List ℕ) where
  mutual
    pub held-same : (base base' : ℕ) (from to from' to' : Option ℕ) (t : Term)
        → ((u : ℕ) → u < task_count t → stands_in done (base + u) ≡ stands_in done' (base' + u))
        → done_or true done from ≡ done_or true done' from' → done_or false done to ≡ done_or false done' to'
        → size_where (is_there done) (items_of_term base from to t) ≡ size_where (is_there done') (items_of_term base' from' to' t)
    held-same base base' from to from' to' (hold size) h f g =
        held_one (is_there done) (record { size = size; from = from; to = to })
        ∙ same_test _ _ _ _ size f g
        ∙ sym (held_one (is_there done') (record { size = size; from = from'; to = to' }))
    held-same base base' from to from' to' (series a w b) h f g =
        let own_same : stands_in done (own_number base a b) ≡ stands_in done' (own_number base' a b) =
        h (task_count a + task_count b) (omega arith) in
        held-append (is_there done) (items_of_term base from (Some (own_number base a b)) a)
        (items_of_term (base + task_count a) (Some (own_number base a b)) to b)
        ∙ (λ i. held-same base base' from (Some (own_number base a b)) from'
        (Some (own_number base' a b)) a (λ u l. h u (omega arith)) f own_same i
        + held-same (base + task_count a) (base' + task_count a) (Some (own_number base a b)) to (Some (own_number base' a b)) to' b
        (λ u l. ap (stands_in done) (plus base (task_count a) u) ∙ h (task_count a + u) (omega arith)
        ∙ ap (stands_in done') (sym (plus base' (task_count a) u)))
        own_same g i)
        ∙ sym (held-append (is_there done') (items_of_term base' from' (Some (own_number base' a b)) a)
        (items_of_term (base' + task_count a) (Some (own_number base' a b)) to' b))
      where
        plus : (x y z : ℕ) → x + y + z ≡ x + (y + z)
        plus x y z = omega arith
    held-same base base' from to from' to' (par ts) h f g = all_held-same base base' from to from' to' ts h f g

    pub all_held-same : (base base' : ℕ) (from to from' to' : Option ℕ) (ts : Parts)
        → ((u : ℕ) → u < task_count_of_parts ts → stands_in done (base + u) ≡ stands_in done' (base' + u))
        → done_or true done from ≡ done_or true done' from' → done_or false done to ≡ done_or false done' to'
        → size_where (is_there done) (items_of_parts base from to ts) ≡ size_where (is_there done') (items_of_parts base' from' to' ts)
    all_held-same base base' from to from' to' no_parts h f g = refl
    all_held-same base base' from to from' to' (part t ts) h f g =
        held-append (is_there done) (items_of_term base from to t) (items_of_parts (base + task_count t) from to ts)
        ∙ (λ i. held-same base base' from to from' to' t (λ u l. h u (omega arith)) f g i
        + all_held-same (base + task_count t) (base' + task_count t) from to from' to' ts
        (λ u l. ap (stands_in done) (plus base (task_count t) u) ∙ h (task_count t + u) (omega arith)
        ∙ ap (stands_in done') (sym (plus base' (task_count t) u)))
        f g i)
        ∙ sym (held-append (is_there done') (items_of_term base' from' to' t) (items_of_parts (base' + task_count t) from' to' ts))
      where
        plus : (x y z : ℕ) → x + y + z ≡ x + (y + z)
        plus x y z = omega arith

-- items that two numbers make alike
module _ (v v' : ℕ) where
  mutual
    pub made-same : (base base' : ℕ) (from to from' to' : Option ℕ) (t : Term)
        → ((u : ℕ) → u < task_count t → ((base + u) == v) ≡ ((base' + u) == v')) → is_named from v ≡ is_named from' v'
        → made (items_of_term base from to t) v ≡ made (items_of_term base' from' to' t) v'
    made-same base base' from to from' to' (hold size) h f =
        held_one (λ item. is_named item.from v) (record { size = size; from = from; to = to }) ∙ ap (λ x. cond x size 0) f
        ∙ sym (held_one (λ item. is_named item.from v') (record { size = size; from = from'; to = to' }))
    made-same base base' from to from' to' (series a w b) h f =
        made-append (items_of_term base from (Some (own_number base a b)) a)
        (items_of_term (base + task_count a) (Some (own_number base a b)) to b) v
        ∙ (λ i. made-same base base' from (Some (own_number base a b)) from' (Some (own_number base' a b)) a (λ u l. h u (omega arith)) f i
        + made-same (base + task_count a) (base' + task_count a) (Some (own_number base a b)) to (Some (own_number base' a b)) to' b
        (λ u l. ap (λ z. z == v) (plus base (task_count a) u) ∙ h (task_count a + u) (omega arith)
        ∙ ap (λ z. z == v') (sym (plus base' (task_count a) u)))
        (h (task_count a + task_count b) (omega arith)) i)
        ∙ sym (made-append (items_of_term base' from' (Some (own_number base' a b)) a)
        (items_of_term (base' + task_count a) (Some (own_number base' a b)) to' b) v')
      where
        plus : (x y z : ℕ) → x + y + z ≡ x + (y + z)
        plus x y z = omega arith
    made-same base base' from to from' to' (par ts) h f = all_made-same base base' from to from' to' ts h f

    pub all_made-same : (base base' : ℕ) (from to from' to' : Option ℕ) (ts : Parts)
        → ((u : ℕ) → u < task_count_of_parts ts → ((base + u) == v) ≡ ((base' + u) == v')) → is_named from v ≡ is_named from' v'
        → made (items_of_parts base from to ts) v ≡ made (items_of_parts base' from' to' ts) v'
    all_made-same base base' from to from' to' no_parts h f = refl
    all_made-same base base' from to from' to' (part t ts) h f =
        made-append (items_of_term base from to t) (items_of_parts (base + task_count t) from to ts) v
        ∙ (λ i. made-same base base' from to from' to' t (λ u l. h u (omega arith)) f i
        + all_made-same (base + task_count t) (base' + task_count t) from to from' to' ts
        (λ u l. ap (λ z. z == v) (plus base (task_count t) u) ∙ h (task_count t + u) (omega arith)
        ∙ ap (λ z. z == v') (sym (plus base' (task_count t) u)))
        f i)
        ∙ sym (made-append (items_of_term base' from' to' t) (items_of_parts (base' + task_count t) from' to' ts) v')
      where
        plus : (x y z : ℕ) → x + y + z ≡ x + (y + z)
        plus x y z = omega arith

pub eqb-shift : (base u x : ℕ) → ((base + u) == (base + x)) ≡ (u == x)
eqb-shift base u x = go (u == x) refl
  where
    go : (b : Bool) → (u == x) ≡ b → ((base + u) == (base + x)) ≡ (u == x)
    go true e = let same : u ≡ x = grind arith in eq-eqb (base + u) (base + x) (omega arith) ∙ sym e
    go false e = let differ : u ≡ x → ⊥ = (λ same. clash (sym (eq-eqb u x same) ∙ e)) in
        ne-eqb (base + u) (base + x) (λ k. differ (omega arith)) ∙ sym e

pub eqb-iff : (a b c d : ℕ) → (a ≡ b → c ≡ d) → (c ≡ d → a ≡ b) → (a == b) ≡ (c == d)
eqb-iff a b c d f g = go (c == d) refl
  where
    go : (x : Bool) → (c == d) ≡ x → (a == b) ≡ (c == d)
    go true e = let same : c ≡ d = grind arith in eq-eqb a b (g same) ∙ sym e
    go false e = ne-eqb a b (λ h. clash (sym (eq-eqb c d (f h)) ∙ e)) ∙ sym e

-- what a part of a `par` has done

has-own : (base count : ℕ) (done : List ℕ) (u : ℕ) → u < count
    → stands_in (map (λ k. suc (k - base)) (numbers_within base count done)) (suc u) ≡ stands_in done (base + u)
has-own base count [] u l = refl
has-own base count (x ∷ xs) u l =
    split2 x base
    (λ h. ap (λ z. stands_in (map (λ k. suc (k - base)) z) (suc u)) (own-low base count x xs h)
    ∙ has-own base count xs u l ∙ skip x (base + u) xs (λ e. omega arith))
    (λ h. split2 x (base + count)
    (λ k. ap (λ z. stands_in (map (λ k. suc (k - base)) z) (suc u)) (own-in base count x xs h k)
    ∙ (λ i. shifted h i || has-own base count xs u l i))
    (λ k. ap (λ z. stands_in (map (λ k. suc (k - base)) z) (suc u)) (own-high base count x xs k)
    ∙ has-own base count xs u l ∙ skip x (base + u) xs (λ e. omega arith)))
  where
    skip : (x v : ℕ) (xs : List ℕ) → (x ≡ v → ⊥) → stands_in xs v ≡ stands_in (x ∷ xs) v
    skip x v xs ne = ap (λ b. b || stands_in xs v) (sym (ne-eqb x v ne))

    shifted : base ≤ x → (suc (x - base) == suc u) ≡ (x == (base + u))
    shifted h = eqb-iff (suc (x - base)) (suc u) x (base + u) (λ e. omega arith) (λ e. omega arith)

-- the states of a `par`
par_memory : (base : ℕ) (ts : Parts) (done : List ℕ)
    → size_where (is_there done) (items_of_parts base None None ts) ≡ parts_memory base ts done
par_memory base no_parts done = refl
par_memory base (part t ts) done =
    held-append (is_there done) (items_of_term base None None t) (items_of_parts (base + task_count t) None None ts)
    ∙ (λ i. held-same done (of_part base t done) base 1 None None None None t
    (λ u l. sym (has-own base (task_count t) done u l) ∙ ap (stands_in (of_part base t done)) (zero_add u)) refl refl i
    + par_memory (base + task_count t) ts done i)
  where
    zero_add : (u : ℕ) → suc u ≡ 1 + u
    zero_add u = omega arith

-- what a task of a part needs
need-same : (base : ℕ) (t : Term) (u : ℕ)
    → need_in (tasks_of_term t) (items_of_term base None None t) u (base + u) ≡ need_of (system_of_term t) (suc u)
need-same base t u =
    ap (need_with (get_or (tasks_of_term t) u no_task))
    (made-same (base + u) (suc u) base 1 None None None None t
    (λ x l. eqb-iff (base + x) (base + u) (1 + x) (suc u) (λ e. omega arith) (λ e. omega arith)) refl)
    ∙ ap (λ k. need_in (tasks_of_term t) (items_of_term 1 None None t) k (suc u)) (let e : u ≡ suc u - 1 = omega arith in e)

lt_yes : {A : Type 0} (a b : ℕ) (x y : A) → a < b → cond (nat_lt a b) x y ≡ x
lt_yes a b x y h = let e : nat_lt a b ≡ true = grind arith in rw e

lt_not : {A : Type 0} (a b : ℕ) (x y : A) → b ≤ a → cond (nat_lt a b) x y ≡ y
lt_not a b x y h = let e : nat_lt a b ≡ false = grind arith in rw e

par_running : (base : ℕ) (ts : Parts) (done : List ℕ) (v : ℕ) → base ≤ v → v < base + task_count_of_parts ts
    → size_where (is_there done) (items_of_parts base None None ts)
    + need_in (tasks_of_parts ts) (items_of_parts base None None ts) (v - base) v ≡ parts_running base ts done v
par_running base no_parts done v l m = absurd (omega arith)
par_running base (part t ts) done v l m =
    split2 v (base + task_count t)
    (λ h.
    let n = need-left (tasks_of_term t) (tasks_of_parts ts) (items_of_term base None None t)
    (items_of_parts (base + task_count t) None None ts) (v - base) v (omega (arith, length-tasks t))
    (all_made-outside (base + task_count t) None None ts v (λ z. omega arith) refl) in
    let k : need_in (tasks_of_term t) (items_of_term base None None t) (v - base) v ≡ need_of (system_of_term t) (suc (v - base)) =
    subst (λ z. need_in (tasks_of_term t) (items_of_term base None None t) (v - base) z ≡ need_of (system_of_term t) (suc (v - base)))
    (omega arith) (need-same base t (v - base)) in
    omega (
      arith,
      par_memory base (part t ts) done,
      n,
      k,
      lt_yes v (base + task_count t)
          (memory_while (system_of_term t) (of_part base t done) (suc (v - base)) + parts_memory (base + task_count t) ts done)
          (memory_after (system_of_term t) (of_part base t done) + parts_running (base + task_count t) ts done v) h,
    ))
    (λ h.
    let n = need-right (tasks_of_term t) (tasks_of_parts ts) (items_of_term base None None t)
    (items_of_parts (base + task_count t) None None ts) (v - base) (v - (base + task_count t)) v
    (omega (arith, length-tasks t)) (made-outside base None None t v (λ z. omega arith) refl) in
    omega (
      arith,
      par_memory base (part t ts) done,
      par_memory (base + task_count t) ts done,
      n,
      par_running (base + task_count t) ts done v h (omega arith),
      lt_not v (base + task_count t)
          (memory_while (system_of_term t) (of_part base t done) (suc (v - base)) + parts_memory (base + task_count t) ts done)
          (memory_after (system_of_term t) (of_part base t done) + parts_running (base + task_count t) ts done v) h,
    ))

pub par-states : (ts : Parts) (done : List ℕ) → memory_after (system_of_term (par ts)) done ≡ parts_memory 1 ts done
par-states ts done = par_memory 1 ts done

pub par-running : (ts : Parts) (done : List ℕ) (v : ℕ) → 1 ≤ v → v ≤ task_count_of_parts ts
    → memory_while (system_of_term (par ts)) done v ≡ parts_running 1 ts done v
par-running ts done v l m = par_running 1 ts done v l (omega arith)
