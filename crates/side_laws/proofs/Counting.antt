use Rattle.std.proofs.Common.{◌≡◌, ℕ, zero, suc, ◌+◌, ◌-◌, ◌*◌, ◌^◌, ◌<◌, ◌≤◌, min, List}
use Rattle.std.proofs.Common.{[], ◌∷◌, ◌⊎◌, ap, sym, ◌∙◌, arith, subst, inl, inr}
use Rattle.std.specs.List.{AllByRecursion, sum_by}
use Rattle.std.proofs.lemmas.List.Sums.{sum_by-cons}
use Rattle.side_laws.specs.Counting.{Counted, greatest_of, IsCounted}
use Rattle.std.proofs.lemmas.Nat.{pow-add, mul-pow, pow_below}
use Rattle.std.proofs.Math.Nat.{pow-le-pow_left, pow-le-pow_right, mul-le-mul, pow-suc, pow-zero}

-- the smaller of two parts is moved: what 2 ^ moves ≤ tasks ^ tasks says of each, it says of both
half : (x y a b m : ℕ) → b ≤ a → 2 ^ x ≤ a ^ a → 2 ^ y ≤ b ^ b → m ≤ b → 2 ^ (x + y + m) ≤ (a + b) ^ (a + b)
half x y a b m ba hx hy hm =
    let split : 2 ^ (x + y + m) ≡ 2 ^ x * (2 ^ y * 2 ^ m) = pow-add 2 (x + y) m ∙ ap (λ (k : ℕ). k * 2 ^ m) (pow-add 2 x y) ∙ omega arith in
    let both : (a + b) ^ (a + b) ≡ (a + b) ^ a * (a + b) ^ b = pow-add (a + b) a b in
    let doubled : 2 ^ m ≤ 2 ^ b = pow-le-pow_right {n = 2} (omega arith) hm in
    let p : 2 ^ y * 2 ^ m ≤ b ^ b * 2 ^ b = mul-le-mul hy doubled in
    let q : (b * 2) ^ b ≡ b ^ b * 2 ^ b = mul-pow b 2 b in
    let r : (b * 2) ^ b ≤ (a + b) ^ b = pow-le-pow_left (let h : b * 2 ≤ a + b = omega arith in h) b in
    let t : a ^ a ≤ (a + b) ^ a = pow-le-pow_left (let h : a ≤ a + b = omega arith in h) a in
    let u : 2 ^ x ≤ (a + b) ^ a = omega arith in
    let v : 2 ^ y * 2 ^ m ≤ (a + b) ^ b = omega arith in
    let w : 2 ^ x * (2 ^ y * 2 ^ m) ≤ (a + b) ^ a * (a + b) ^ b = mul-le-mul u v in
    omega arith

at_pow : (m n s : ℕ) → m ≡ n → 2 ^ m ≤ s ^ s → 2 ^ n ≤ s ^ s
at_pow m n s h p = subst (λ (k : ℕ). 2 ^ k ≤ s ^ s) h p

at_base : (m s t : ℕ) → s ≡ t → 2 ^ m ≤ s ^ s → 2 ^ m ≤ t ^ t
at_base m s t h p = subst (λ (k : ℕ). 2 ^ m ≤ k ^ k) h p

le_total : (m n : ℕ) → (m ≤ n) ⊎ (n ≤ m)
le_total m n = grind arith

pub grown : (x y a b m : ℕ) → 2 ^ x ≤ a ^ a → 2 ^ y ≤ b ^ b → m ≤ a → m ≤ b → 2 ^ (x + y + m) ≤ (a + b) ^ (a + b)
grown x y a b m hx hy ha hb = elim (le_total b a) [
  | inl h ↦ half x y a b m h hx hy hb
  | inr h ↦
      at_base (x + y + m) (b + a) (a + b) (omega arith) (at_pow (y + x + m) (x + y + m) (b + a) (omega arith) (half y x b a m h hy hx ha))
]

grown_together : (m n a b : ℕ) → 2 ^ m ≤ a ^ a → 2 ^ n ≤ b ^ b → 2 ^ (m + n) ≤ (a + b) ^ (a + b)
grown_together m n a b h k = at_pow (m + n + 0) (m + n) (a + b) (omega arith) (grown m n a b 0 h k (omega arith) (omega arith))

-- no task moves nothing
none_moved : (b : ℕ) → 2 ^ 0 ≤ b ^ b
none_moved zero = omega arith
none_moved (suc b) =
    let x : 1 ^ 1 ≤ suc b ^ 1 = pow-le-pow_left (let h : 1 ≤ suc b = omega arith in h) 1 in
    let y : suc b ^ 1 ≤ suc b ^ suc b = pow-le-pow_right {n = suc b} (omega arith) (let h : 1 ≤ suc b = omega arith in h) in
    omega arith

-- more tasks allow as many moves
pub grown_more : (m a b : ℕ) → 2 ^ m ≤ a ^ a → a ≤ b → 2 ^ m ≤ b ^ b
grown_more m a b h le = at_base m (a + (b - a)) b (omega arith)
    (at_pow (m + 0) m (a + (b - a)) (omega arith) (grown_together m 0 a (b - a) h (none_moved (b - a))))

greatest_le : (f : Counted → ℕ) (ps : List Counted) → greatest_of f ps ≤ sum_by f ps
greatest_le f [] = omega arith
greatest_le f (p ∷ ps) = omega (arith, greatest_le f ps, sum_by-cons f p ps)

sides_le : (ps : List Counted) → AllByRecursion IsCounted ps → sum_by (λ p. p.front) ps + sum_by (λ p. p.back) ps ≤ sum_by (λ p. p.tasks) ps
sides_le [] h = omega arith
sides_le (p ∷ ps) h =
    let ih = sides_le ps h.1 in
    let q = h.0.1 in
    omega (
      arith,
      sum_by-cons (λ (c : Counted). c.front) p ps,
      sum_by-cons (λ (c : Counted). c.back) p ps,
      sum_by-cons (λ (c : Counted). c.tasks) p ps,
    )

-- what merging all but the greatest fronts and backs costs keeps the law
pub par_count : (ps : List Counted) → AllByRecursion IsCounted ps → (m : ℕ)
    → m ≤ sum_by (λ p. p.moves) ps + (sum_by (λ p. p.front) ps - greatest_of (λ p. p.front) ps)
    + (sum_by (λ p. p.back) ps - greatest_of (λ p. p.back) ps)
    → 2 ^ m ≤ sum_by (λ p. p.tasks) ps ^ sum_by (λ p. p.tasks) ps
par_count [] h m le = let z : m ≡ 0 = omega arith in subst (λ (k : ℕ). 2 ^ k ≤ 0 ^ 0) (sym z) (omega arith)
par_count (p ∷ ps) h m le =
    let ms = sum_by (λ (c : Counted). c.moves) ps in
    let fs = sum_by (λ (c : Counted). c.front) ps in
    let bs = sum_by (λ (c : Counted). c.back) ps in
    let ss = sum_by (λ (c : Counted). c.tasks) ps in
    let here = min p.front fs + min p.back bs in
    let rest = ms + (fs - greatest_of (λ c. c.front) ps) + (bs - greatest_of (λ c. c.back) ps) in
    let lf = greatest_le (λ c. c.front) ps in
    let lb = greatest_le (λ c. c.back) ps in
    let sl = sides_le ps h.1 in
    let h1 = h.0.1 in
    let em = sum_by-cons (λ (c : Counted). c.moves) p ps in
    let ef = sum_by-cons (λ (c : Counted). c.front) p ps in
    let eb = sum_by-cons (λ (c : Counted). c.back) p ps in
    let ih = par_count ps h.1 rest (omega arith) in
    let all : 2 ^ (p.moves + rest + here) ≤ (p.tasks + ss) ^ (p.tasks + ss) =
    grown p.moves rest p.tasks ss here h.0.0 ih (omega arith) (omega arith) in
    let more : 2 ^ m ≤ 2 ^ (p.moves + rest + here) = pow-le-pow_right {n = 2} (omega arith) (omega arith) in
    at_base m (p.tasks + ss) (sum_by (λ (c : Counted). c.tasks) (p ∷ ps)) (sym (sum_by-cons (λ (c : Counted). c.tasks) p ps)) (omega arith)

pow_twice : (d s : ℕ) → (2 ^ d) ^ s ≡ 2 ^ (d * s)
pow_twice d zero = pow-zero (2 ^ d) ∙ ap (λ (k : ℕ). 2 ^ k) (let e : 0 ≡ d * 0 = omega arith in e)
pow_twice d (suc s) =
    let e : d * suc s ≡ d * s + d = omega arith in
    pow-suc (2 ^ d) s ∙ ap (λ (k : ℕ). k * 2 ^ d) (pow_twice d s) ∙ sym (pow-add 2 (d * s) d) ∙ ap (λ (k : ℕ). 2 ^ k) (sym e)

-- the bound in digits
pub count_bound : (m s d : ℕ) → 2 ^ m ≤ s ^ s → s < 2 ^ d → m ≤ s * d
count_bound m s d h hd =
    let p : s ^ s ≤ (2 ^ d) ^ s = pow-le-pow_left (let e : s ≤ 2 ^ d = omega arith in e) s in
    let q : (2 ^ d) ^ s ≡ 2 ^ (d * s) = pow_twice d s in
    let r : d * s < m → 2 ^ (d * s) < 2 ^ m = pow_below (d * s) m in
    grind arith
