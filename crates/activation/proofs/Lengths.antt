-- A list that holds each of n numbers once is n long.
use Rattle.std.proofs.Common.{◌≡◌, ℕ, zero, suc, ◌+◌, ◌≤◌, Bool, cond, List, [], ◌∷◌, length, refl, sym, ◌∙◌, ap, arith, ⊎_elim}
use Rattle.std.specs.Prelude.{count_by, ◌==◌}
use Rattle.std.specs.List.{AllByRecursion}
use Rattle.std.proofs.lemmas.List.Elements.{recursion_from_All}
use Rattle.std.proofs.lemmas.List.Sums.{sum_by-cons}
use Rattle.std.proofs.lemmas.Bool.{cases_eq, eq-eqb, ne_eqb}
use Rattle.shared_systems.specs.Shared.{SharedTaskSystem, HasTask}
use Rattle.activation.specs.Schedule.{HoldsEach}

-- the sum of f at 1 to n
upto : (ℕ → ℕ) → ℕ → ℕ
upto f zero = 0
upto f (suc n) = upto f n + f (suc n)

upto_add : (f g h : ℕ → ℕ) → ((v : ℕ) → h v ≡ f v + g v) → (n : ℕ) → upto h n ≡ upto f n + upto g n
unfolding upto
upto_add f g h e zero = refl
upto_add f g h e (suc n) = omega (arith, upto_add f g h e n, e (suc n))

upto_ones : (f : ℕ → ℕ) (n : ℕ) → ((v : ℕ) → 1 ≤ v → v ≤ n → f v ≡ 1) → upto f n ≡ n
unfolding upto
upto_ones f zero ones = refl
upto_ones f (suc n) ones = omega (arith, upto_ones f n (λ v low high. ones v low (omega arith)), ones (suc n) (omega arith) (omega arith))

upto_zeros : (f : ℕ → ℕ) (n : ℕ) → ((v : ℕ) → v ≤ n → f v ≡ 0) → upto f n ≡ 0
unfolding upto
upto_zeros f zero zeros = refl
upto_zeros f (suc n) zeros = omega (arith, upto_zeros f n (λ v high. zeros v (omega arith)), zeros (suc n) (omega arith))

hit : ℕ → ℕ → ℕ
hit x v = cond (x == v) 1 0

upto_hit : (x n : ℕ) → 1 ≤ x → x ≤ n → upto (hit x) n ≡ 1
unfolding upto hit
upto_hit x zero low high = absurd (omega arith)
upto_hit x (suc n) low high =
    ⊎_elim
    (λ e.
    let here : ◌≡◌ {A = ℕ} (cond (x == suc n) 1 0) 1 = ap (λ (b : Bool). cond b 1 0) (eq-eqb x (suc n) e) in
    let before = upto_zeros (hit x) n (λ v l. ap (λ (b : Bool). cond b 1 0) (ne_eqb x v (omega arith))) in
    omega (arith, here, before))
    (λ d.
    let here : ◌≡◌ {A = ℕ} (cond (x == suc n) 1 0) 0 = ap (λ (b : Bool). cond b 1 0) (ne_eqb x (suc n) d) in
    omega (arith, here, upto_hit x n low (omega arith)))
    (cases_eq x (suc n))

length_upto : (s : SharedTaskSystem) (xs : List ℕ) → AllByRecursion (HasTask s) xs
    → length xs ≡ upto (λ v. count_by (λ u. u == v) xs) (length s.tasks)
length_upto s [] all = sym (upto_zeros (λ v. count_by (λ u. u == v) []) (length s.tasks) (λ v l. refl))
length_upto s (x ∷ xs) all =
    let ih = length_upto s xs all.1 in
    let one = upto_hit x (length s.tasks) all.0.0 all.0.1 in
    let sum = upto_add (hit x) (λ v. count_by (λ u. u == v) xs) (λ v. count_by (λ u. u == v) (x ∷ xs))
    (λ v. unfold hit in sum_by-cons (λ u. cond (u == v) 1 0) x xs) (length s.tasks) in
    omega (arith, ih, one, sum)

pub each_long : (s : SharedTaskSystem) (xs : List ℕ) → HoldsEach s xs → length xs ≡ length s.tasks
each_long s xs h =
    length_upto s xs (recursion_from_All (HasTask s) xs h.within)
    ∙ upto_ones (λ v. count_by (λ u. u == v) xs) (length s.tasks) (λ v low high. h.once v (low, high))
