-- Tasks named by their numbers.
use Rattle.std.proofs.Common.{◌≡◌, ◌==◌, ℕ, zero, suc, ◌+◌, ◌-◌, ◌≤◌, max, false, refl, sym}
use Rattle.std.proofs.Common.{subst, ap, arith, ◌∙◌, List, [], ◌∷◌, ◌++◌, map, All}
use Rattle.std.specs.Prelude.{slice_index_or}
use Rattle.std.specs.List.{range_with_len}
use Rattle.std.proofs.lemmas.List.Elements.{All-head, All-tail}
use Rattle.std.proofs.lemmas.List.FromFn.{get_or-range_with_len}
use Rattle.mp_system.specs.Memory.{peak_of}
use Rattle.mp_system.specs.Renaming.{name_in}
use Rattle.mp_system.specs.Traversal.{IsTraversal}
use Rattle.sp_terms.specs.SystemOfTerm.{task_count, task_count_of_parts, own_number, system_of_term}
use Rattle.sp_terms.specs.Term.{Term, hold, series, par, Parts, no_parts, part}
use Rattle.cut_laws.specs.Cuts.{Cut, front_peak, back_peak, order_of}
use Rattle.cut_laws.specs.Names.{numbered, numbered_parts, names_of, names_of_parts}
use Rattle.cut_laws.specs.Standing.{StandsFor}
use Rattle.cut_laws.proofs.Needs.{length-tasks}

range_split : (base m n : ℕ) → range_with_len base (m + n) ≡ range_with_len base m ++ range_with_len (base + m) n
range_split base zero n = ap (range_with_len base) (let e : 0 + n ≡ n = omega arith in e)
    ∙ ap (λ b. range_with_len b n) (let e : base ≡ base + 0 = omega arith in e)
range_split base (suc m) n =
    ap (range_with_len base) (let e : suc m + n ≡ suc (m + n) = omega arith in e)
    ∙ ap (λ l. base ∷ l)
    (range_split (base + 1) m n
    ∙ ap (λ b. range_with_len (base + 1) m ++ range_with_len b n) (let e : base + 1 + m ≡ base + suc m = omega arith in e))

one_number : (base : ℕ) → range_with_len base 1 ≡ base ∷ []
one_number base = refl

mutual
  pub names_are_numbers : (t : Term) (base : ℕ) → names_of t (numbered base t) ≡ range_with_len base (task_count t)
  names_are_numbers (hold size) base = refl
  names_are_numbers (series a v b) base =
      let m : ℕ = task_count a in
      let n : ℕ = task_count b in
      let whole : range_with_len base (suc (m + n)) ≡ range_with_len base m ++ (range_with_len (base + m) n ++ (base + m + n) ∷ []) =
      ap (range_with_len base) (let e : suc (m + n) ≡ m + (n + 1) = omega arith in e)
      ∙ range_split base m (n + 1)
      ∙ ap (λ l. range_with_len base m ++ l) (range_split (base + m) n 1) in
      ap (λ l. l ++ (names_of b (numbered (base + m) b) ++ own_number base a b ∷ [])) (names_are_numbers a base)
      ∙ ap (λ l. range_with_len base m ++ (l ++ own_number base a b ∷ [])) (names_are_numbers b (base + m))
      ∙ ap (λ k. range_with_len base m ++ (range_with_len (base + m) n ++ k ∷ []))
      (let e : own_number base a b ≡ base + m + n = omega arith in e)
      ∙ sym whole
  names_are_numbers (par ts) base = names_are_numbers_parts ts base

  names_are_numbers_parts : (ts : Parts) (base : ℕ)
      → names_of_parts ts (numbered_parts base ts) ≡ range_with_len base (task_count_of_parts ts)
  names_are_numbers_parts no_parts base = refl
  names_are_numbers_parts (part t ts) base =
      ap (λ l. l ++ names_of_parts ts (numbered_parts (base + task_count t) ts)) (names_are_numbers t base)
      ∙ ap (λ l. range_with_len base (task_count t) ++ l) (names_are_numbers_parts ts (base + task_count t))
      ∙ sym (range_split base (task_count t) (task_count_of_parts ts))

own_name : (n v : ℕ) → 1 ≤ v → v ≤ n → name_in (range_with_len 1 n) v ≡ v
own_name n zero low high = absurd (omega arith)
own_name n (suc k) low high =
    let e : (suc k == 0) ≡ false = grind arith in
    rw e
    (ap (λ i. slice_index_or (range_with_len 1 n) i 0) (let e : suc k - 1 ≡ k = omega arith in e)
    ∙ get_or-range_with_len 1 n k 0 (omega arith) ∙ omega arith)

own_names : (n : ℕ) (order : List ℕ) → All (λ v. (1 ≤ v) × (v ≤ n)) order → map (name_in (range_with_len 1 n)) order ≡ order
own_names n [] h = refl
own_names n (v ∷ order) h =
    let here : (1 ≤ v) × (v ≤ n) = All-head (λ v. (1 ≤ v) × (v ≤ n)) v order h in
    cons_same (own_name n v here.0 here.1) (own_names n order (All-tail (λ v. (1 ≤ v) × (v ≤ n)) v order h))
  where
    cons_same : {x y : ℕ} {xs ys : List ℕ} → x ≡ y → xs ≡ ys → x ∷ xs ≡ y ∷ ys
    cons_same p q = λ i. p i ∷ q i

pub order_is_traversal : (t : Term) (c : Cut) → StandsFor t (range_with_len 1 (task_count t)) c
    → IsTraversal (system_of_term t) (order_of c) × (peak_of (system_of_term t) (order_of c) ≡ max (front_peak c) (back_peak c))
order_is_traversal t c s =
    let within : All (λ v. (1 ≤ v) × (v ≤ task_count t)) s.order =
    subst (λ (n : ℕ). All (λ v. (1 ≤ v) × (v ≤ n)) s.order) (length-tasks t) s.traversal.tasks in
    let same : s.order ≡ order_of c = sym (own_names (task_count t) s.order within) ∙ s.written in
    (subst (IsTraversal (system_of_term t)) same s.traversal, ap (peak_of (system_of_term t)) (sym same) ∙ s.peak)
