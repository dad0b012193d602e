-- The first claim that fails, over all chunks.
use Rattle.std.proofs.Common.{◌≡◌, ℕ, zero, suc, ◌+◌, ◌*◌, ◌-◌, ◌/◌, ◌%◌, ◌<◌, ◌≤◌, min, List, length, sym, subst, arith, ⊎_elim}
use Rattle.std.proofs.Common.{Option, Some, None}
use Rattle.std.specs.Prelude.{slice_index_or}
use Rattle.lists.proofs.Orders.{lt_or_le}
use Rattle.sp_terms.specs.declared.position.Position.{Position}
use Rattle.plans.specs.declared.claim.Claim.{Claim}
use Rattle.bound_check.specs.Failing.{PassesAtPlace, IsFirstIn, AreFirst, IsFirstOf}
use Rattle.bound_check.specs.declared.failing.Failing.{Failing}

-- the chunks cover the whole
chunks_cover : (n size : ℕ) → 0 < size → n ≤ (n / size + min 1 (n % size)) * size
chunks_cover n size h =
    ⊎_elim
    (λ (none : n % size < 1). let e : (n / size + min 1 (n % size)) ≡ n / size = omega arith in rw e (omega arith))
    (λ (some : 1 ≤ n % size). let e : (n / size + min 1 (n % size)) ≡ n / size + 1 = omega arith in rw e (omega arith))
    (lt_or_le (n % size) 1)

module _ (ps : List Position) (cs : List Claim) (size : ℕ) (rs : List (Option Failing)) (each : AreFirst ps cs size rs) where
  abbrev InChunk : ℕ → Option Failing → Type 0
  InChunk n r = IsFirstIn ps cs (n * size) (n * size + min size (length cs - n * size)) r

  -- no claim before chunk n fails, where no chunk before it has one that does
  clean_before : (n : ℕ) → n ≤ length rs → ((m : ℕ) → m < n → slice_index_or rs m None ≡ None)
      → (i : ℕ) → i < n * size → i < length cs → PassesAtPlace ps cs i
  clean_before zero h none i lt w = absurd (omega arith)
  clean_before (suc n) h none i lt w =
      ⊎_elim
      (λ early. clean_before n (omega arith) (λ m q. none m (omega arith)) i early w)
      (λ late. let here : InChunk n None = subst (InChunk n) (none n (omega arith)) (each n (omega arith)) in here i late (omega arith))
      (lt_or_le i (n * size))

  first_of_chunks : length cs ≤ length rs * size → (r : Option Failing) → IsFirstOf rs r → IsFirstIn ps cs 0 (length cs) r
  first_of_chunks all None none = λ i low high. clean_before (length rs) (omega arith) none i (omega arith) high
  first_of_chunks all (Some f) h =
      let n = h.0 in
      let here : InChunk n (Some f) = subst (InChunk n) h.2 (each n h.1) in (
        here.0,
        omega arith,
        omega (arith, here.2),
        here.3,
        λ j low lt. ⊎_elim (λ early. clean_before n (omega arith) h.3 j early (omega (arith, here.2)))
            (λ late. here.4 j late lt) (lt_or_le j (n * size)),
      )

-- so with as many chunks as it takes
pub first_of_all : (ps : List Position) (cs : List Claim) (size : ℕ) (rs : List (Option Failing))
    → 0 < size → length rs ≡ length cs / size + min 1 (length cs % size)
    → AreFirst ps cs size rs → (list : List (Option Failing)) → list ≡ rs
    → (r : Option Failing) → IsFirstOf list r → IsFirstIn ps cs 0 (length cs) r
first_of_all ps cs size rs some many each list same r first =
    let covered : length cs ≤ length rs * size = subst (λ m. length cs ≤ m * size) (sym many) (chunks_cover (length cs) size some) in
    first_of_chunks ps cs size rs each covered r (subst (λ l. IsFirstOf l r) same first)
