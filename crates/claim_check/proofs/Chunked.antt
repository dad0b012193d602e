-- The lowest claim that fails, over all chunks and past them.
use Rattle.std.proofs.Common.{◌≡◌, ℕ, zero, suc, ◌+◌, ◌*◌, ◌-◌, ◌/◌, ◌%◌, ◌<◌, ◌≤◌, min, List, length}
use Rattle.std.proofs.Common.{refl, sym, subst, arith, ⊎_elim, true, false, Option, Some, None}
use Rattle.std.specs.Prelude.{slice_index_or, is_some}
use Rattle.std.proofs.lemmas.Bool.{cases_lt}
use Rattle.sp_terms.specs.declared.position.Position.{Position}
use Rattle.claim_rules.specs.Claims.{Claim}
use Rattle.claim_check.specs.Judged.{PassesAt}
use Rattle.claim_check.specs.Lowest.{IsLowestFrom, IsLowestIn, AreLowest, IsFirstOf}

-- the chunks cover the whole
chunks_cover : (n size : ℕ) → 0 < size → n ≤ (n / size + min 1 (n % size)) * size
chunks_cover n size h =
    ⊎_elim
    (λ (none : n % size < 1). let e : (n / size + min 1 (n % size)) ≡ n / size = omega arith in rw e (omega arith))
    (λ (some : 1 ≤ n % size). let e : (n / size + min 1 (n % size)) ≡ n / size + 1 = omega arith in rw e (omega arith))
    (cases_lt (n % size) 1)

module _ (ps : List Position) (f : ℕ → Option Claim) (size : ℕ) (rs : List (Option ℕ)) (each : AreLowest ps f size rs) where
  -- no claim before chunk n fails, where no chunk before it has one that does
  clean_before : (n : ℕ) → n ≤ length rs → ((m : ℕ) → m < n → slice_index_or rs m None ≡ None)
      → (k : ℕ) → 1 ≤ k → k ≤ n * size → k ≤ length ps → PassesAt ps f k
  clean_before zero h none k low l w = absurd (omega arith)
  clean_before (suc n) h none k low l w =
      ⊎_elim
      (λ early. clean_before n (omega arith) (λ m q. none m (omega arith)) k low (omega arith) w)
      (λ late.
      let here : IsLowestIn ps f (n * size + 1) (n * size + 1 + min size (length ps - n * size)) None =
      subst (λ r. IsLowestIn ps f (n * size + 1) (n * size + 1 + min size (length ps - n * size)) r)
      (none n (omega arith)) (each n (omega arith)) in
      here k late (omega arith))
      (cases_lt k (n * size + 1))

  first_of_chunks : length ps ≤ length rs * size → (r : Option ℕ) → IsFirstOf rs r → IsLowestIn ps f 1 (length ps + 1) r
  first_of_chunks all None none = λ k low high. clean_before (length rs) (omega arith) none k low (omega arith) (omega arith)
  first_of_chunks all (Some i) h =
      let n = h.0 in
      let here : IsLowestIn ps f (n * size + 1) (n * size + 1 + min size (length ps - n * size)) (Some i) =
      subst (λ r. IsLowestIn ps f (n * size + 1) (n * size + 1 + min size (length ps - n * size)) r) h.2 (each n h.1) in (
        omega (arith, here.0),
        (
          omega (arith, here.1.0),
          here.1.1,
          λ k low high. ⊎_elim (λ early. clean_before n (omega arith) h.3 k low (omega arith) (omega (arith, here.0)))
              (λ late. here.1.2 k late high) (cases_lt k (n * size + 1)),
        ),
      )

from_0 : (ps : List Position) (f : ℕ → Option Claim) → PassesAt ps f 0 → (k : ℕ) → (1 ≤ k → PassesAt ps f k) → PassesAt ps f k
from_0 ps f none zero more = none
from_0 ps f none (suc k) more = more (omega arith)

-- so with as many chunks as it takes
pub lowest_of_term : (ps : List Position) (f : ℕ → Option Claim) (size : ℕ) (rs : List (Option ℕ))
    → 0 < size → length rs ≡ length ps / size + min 1 (length ps % size)
    → AreLowest ps f size rs → (numbers : List (Option ℕ)) → numbers ≡ rs
    → (r : Option ℕ) → IsFirstOf numbers r → IsLowestIn ps f 1 (length ps + 1) r
lowest_of_term ps f size rs some many each numbers same r first =
    let covered : length ps ≤ length rs * size = subst (λ m. length ps ≤ m * size) (sym many) (chunks_cover (length ps) size some) in
    first_of_chunks ps f size rs each covered r (subst (λ l. IsFirstOf l r) same first)

-- a claim that fails at a position of the term comes before those past it
pub lowest_inside : (ps : List Position) (f : ℕ → Option Claim) → PassesAt ps f 0
    → (r : Option ℕ) → is_some r ≡ true → IsLowestIn ps f 1 (length ps + 1) r → IsLowestFrom ps f 0 r
lowest_inside ps f none None s h = absurd (apart s)
  where
    apart : false ≡ true → ⊥
    apart e = cc
lowest_inside ps f none (Some position) s h = (omega arith, h.1.1, λ k low high. from_0 ps f none k (λ one. h.1.2 k one high))

past : (ps : List Position) (f : ℕ → Option Claim) → PassesAt ps f 0 → IsLowestIn ps f 1 (length ps + 1) None
    → (r : Option ℕ) → IsLowestFrom ps f (length ps + 1) r → IsLowestFrom ps f 0 r
past ps f none inside None out =
    λ k low. from_0 ps f none k (λ one. ⊎_elim (λ early. inside k one early) (λ late. out k late) (cases_lt k (length ps + 1)))
past ps f none inside (Some position) out = (
  omega arith,
  out.1,
  λ k low high.
      from_0 ps f none k (λ one. ⊎_elim (λ early. inside k one early) (λ late. out.2 k late high) (cases_lt k (length ps + 1))),
)

-- where none does, the first one past it is the lowest
pub lowest_outside : (ps : List Position) (f : ℕ → Option Claim) → PassesAt ps f 0
    → (inside : Option ℕ) → is_some inside ≡ false → IsLowestIn ps f 1 (length ps + 1) inside
    → (r : Option ℕ) → IsLowestFrom ps f (length ps + 1) r → IsLowestFrom ps f 0 r
lowest_outside ps f none None s h r out = past ps f none h r out
lowest_outside ps f none (Some position) s h r out = absurd (apart s)
  where
    apart : true ≡ false → ⊥
    apart e = cc

-- one more position passes
pub one_more : (P : ℕ → Type 0) (from here : ℕ) → ((k : ℕ) → from ≤ k → k < here → P k) → P here → (k : ℕ) → from ≤ k → k < here + 1 → P k
one_more P from here before at k low high =
    ⊎_elim (λ early. before k low early) (λ late. let e : here ≡ k = omega arith in subst P e at) (cases_lt k here)

pub is_none : {A : Type 0} (o : Option A) → is_some o ≡ false → o ≡ None
is_none None s = refl
is_none (Some x) s = cc
