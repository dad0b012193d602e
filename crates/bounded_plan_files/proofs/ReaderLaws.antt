-- What the reader of plan files of version 3 does with a line, and with the end, is what the tests of the format say.
use Rattle.std.specs.Prelude.{◌≡◌, ℕ, zero, suc, ◌-◌, false, nat_lt, List, [], ◌∷◌, ◌++◌, length, map, take, drop, codes, refl}
use Rattle.std.proofs.Common.{sym, ap, ◌∙◌, arith, inl, inr, eqb}
use Rattle.std.proofs.Math.Seq.{take-nil, drop-nil}
use Rattle.std.proofs.lemmas.Bool.{ne_eqb}
use Rattle.mp_text.specs.Text.{Row}
use Rattle.mp_text.specs.Grammar.{ArePassed}
use Rattle.mp_text.specs.Reading.{Follows}
use Rattle.mp_text.specs.ReadingLaws.{tested-follows}
use Rattle.file_frame.specs.Frame.{stated_on}
use Rattle.plans.specs.declared.claim.Claim.{Claim}
use Rattle.peak_bounds.specs.declared.evidence.Amount.{Amount}
use Rattle.plan_files.specs.PlanFile.{task_on, claim_on}
use Rattle.plan_files.proofs.ReaderLaws.{within_or_past}
use Rattle.bounded_plan_files.specs.BoundedPlanFile.{Stated, stated, nothing, sort_on, amount_on, own_stated, with_blocker}
use Rattle.bounded_plan_files.specs.BoundedPlanFile.{with_end, with_claims, with_blockers, with_base, with_sort, with_evidence, with_bound}
use Rattle.bounded_plan_files.specs.BoundedPlanFile.{with_peak, with_order, bounded_plan_format, tests_after, end_tests_after}
use Rattle.bounded_plan_files.specs.Reader.{next, sort_next, plan_step, plan_end, took}
use Rattle.bounded_plan_files.specs.declared.sort.Sort.{Sort}
use Rattle.bounded_plan_files.specs.declared.sort.Sort.TheVariants as sorts
use Rattle.bounded_plan_files.specs.declared.stage.Stage.TheVariants as stages

-- ---- claims, one line more

abbrev pub at_claims : Stated → ℕ → List Claim → Stated
at_claims s count claims = record s { stage = stages.Claims; count = count; claims = claims }

end_push : (s : Stated) (count : ℕ) (claims : List Claim) (rows : List Row) (row : Row) → nat_lt (length claims) count ≡ false
    → with_end (at_claims s count claims) (rows ++ row ∷ []) ≡ next (with_end (at_claims s count claims) rows) row
end_push s count claims [] row full = rw full refl
end_push s count claims (last ∷ rows) row full = refl

claims_push : (s : Stated) (n : ℕ) (rows : List Row) (row : Row) → with_claims n s (rows ++ row ∷ []) ≡ next (with_claims n s rows) row
claims_push s n rows row =
    elim (within_or_past claim_on n rows row) [
      | inl w ↦ rw (w.more, w.still_none, w.none, w.open_yet) refl
      | inr p ↦ rw (p.same, p.later) (end_push s n (map claim_on (take n rows)) (drop n rows) row p.full)
    ]

-- ---- the need of a task, or how many states: nothing but `end` is to come

abbrev at_end : Stated → Stated
at_end s = record s { stage = stages.End }

last_push : (s : Stated) (rows : List Row) (row : Row) → with_end (at_end s) (rows ++ row ∷ []) ≡ next (with_end (at_end s) rows) row
last_push s [] row = refl
last_push s (last ∷ rows) row = refl

-- ---- a base and blockers

blockers_none : (b : ℕ) (s : Stated) → with_blockers b s [] ≡ s
blockers_none zero s = refl
blockers_none (suc b) s = refl

pub some_left : (n b : ℕ) → n ≡ suc b → eqb n 0 ≡ false
some_left n b e = ne_eqb n 0 (λ (z : n ≡ 0). omega (arith, e, z))

-- a line that belongs to the section before all of these
step_within : (b : ℕ) (x y : Stated) (row : Row) → x ≡ next y row → with_blockers b x [] ≡ next (with_blockers b y []) row
step_within zero x y row e = e
step_within (suc b) x y row e = e

within_push : (b : ℕ) (x y : Stated) (xs ys : List Row) (row : Row) → xs ≡ [] → ys ≡ [] → x ≡ next y row
    → with_blockers b x xs ≡ next (with_blockers b y ys) row
within_push b x y xs ys row e f step =
    ap (λ (l : List Row). with_blockers b x l) e
    ∙ step_within b x y row step
    ∙ ap (λ (l : List Row). next (with_blockers b y l) row) (sym f)

-- after a blocker, all amounts of which were there
own_push : (b : ℕ) (s : Stated) (line : Row) (own : List Amount) (rows : List Row) (row : Row)
    → s.left - 1 ≡ b → nat_lt (length own) (own_stated line) ≡ false
    → with_blockers b (with_blocker s line own) (rows ++ row ∷ []) ≡ next (with_blockers b (with_blocker s line own) rows) row
own_push zero s line own [] row left full = rw (full, left) refl
own_push zero s line own (last ∷ rows) row left full = refl
own_push (suc b) s line own [] row left full =
    let n = own_stated row in
    rw (drop-nil n, take-nil n, full, some_left (s.left - 1) b left) (blockers_none b (with_blocker (with_blocker s line own) row []))
own_push (suc b) s line own (here ∷ rows) row left full =
    let n = own_stated here in
    let t : Stated = with_blocker s line own in
    elim (within_or_past amount_on n rows row) [
      | inl w ↦
          within_push b (with_blocker t here (map amount_on (take n (rows ++ row ∷ [])))) (with_blocker t here (map amount_on (take n rows)))
          (drop n (rows ++ row ∷ [])) (drop n rows) row w.still_none w.none (rw (w.more, w.open_yet) refl)
      | inr p ↦ rw (p.same, p.later) (own_push b t here (map amount_on (take n rows)) (drop n rows) row (omega arith) p.full)
    ]

abbrev pub at_base : Stated → ℕ → List Amount → Stated
at_base s count base = record s { stage = stages.Base; count = count; uses = count; base = base }

-- after a base, all amounts of which were there
after_base_push : (b : ℕ) (s : Stated) (count : ℕ) (base : List Amount) (rows : List Row) (row : Row)
    → s.left ≡ b → nat_lt (length base) count ≡ false
    → with_blockers b (at_base s count base) (rows ++ row ∷ []) ≡ next (with_blockers b (at_base s count base) rows) row
after_base_push zero s count base [] row left full = rw (full, left) refl
after_base_push zero s count base (last ∷ rows) row left full = refl
after_base_push (suc b) s count base [] row left full =
    let n = own_stated row in
    rw (drop-nil n, take-nil n, full, some_left s.left b left) (blockers_none b (with_blocker (at_base s count base) row []))
after_base_push (suc b) s count base (here ∷ rows) row left full =
    let n = own_stated here in
    let t : Stated = at_base s count base in
    elim (within_or_past amount_on n rows row) [
      | inl w ↦
          within_push b (with_blocker t here (map amount_on (take n (rows ++ row ∷ [])))) (with_blocker t here (map amount_on (take n rows)))
          (drop n (rows ++ row ∷ [])) (drop n rows) row w.still_none w.none (rw (w.more, w.open_yet) refl)
      | inr p ↦ rw (p.same, p.later) (own_push b t here (map amount_on (take n rows)) (drop n rows) row (omega arith) p.full)
    ]

abbrev pub at_section : Stated → Sort → ℕ → Stated
at_section s sort left = record s { stage = stages.BaseSection; sort = sort; left = left }

base_push : (s : Stated) (sort : Sort) (left : ℕ) (rows : List Row) (row : Row)
    → with_base (at_section s sort left) (rows ++ row ∷ []) ≡ next (with_base (at_section s sort left) rows) row
base_push s sort left [] row =
    let n = stated_on (codes "base") row in
    rw (drop-nil n, take-nil n) (blockers_none left (at_base (at_section s sort left) n []))
base_push s sort left (section ∷ rows) row =
    let n = stated_on (codes "base") section in
    let t : Stated = at_section s sort left in
    elim (within_or_past amount_on n rows row) [
      | inl w ↦
          within_push left (at_base t n (map amount_on (take n (rows ++ row ∷ [])))) (at_base t n (map amount_on (take n rows)))
          (drop n (rows ++ row ∷ [])) (drop n rows) row w.still_none w.none (rw (w.more, w.open_yet) refl)
      | inr p ↦ rw (p.same, p.later) (after_base_push left t n (map amount_on (take n rows)) (drop n rows) row refl p.full)
    ]

-- ---- from the line of the evidence up

sort_one : (sort : Sort) (s : Stated) (line : Row) → with_sort sort s line [] ≡ sort_next sort s line
sort_one sorts.Need s line = refl
sort_one sorts.First s line = refl
sort_one sorts.Last s line = refl
sort_one sorts.States s line = refl
sort_one sorts.Claims s line =
    let n = stated_on (codes "claims") line in
    rw (drop-nil n, take-nil n) refl

sort_push : (sort : Sort) (s : Stated) (line : Row) (rows : List Row) (row : Row)
    → with_sort sort s line (rows ++ row ∷ []) ≡ next (with_sort sort s line rows) row
sort_push sorts.Need s line rows row = last_push (record s { sort = sorts.Need; task = stated_on (codes "need") line }) rows row
sort_push sorts.First s line rows row = base_push s sorts.First (stated_on (codes "first") line) rows row
sort_push sorts.Last s line rows row = base_push s sorts.Last (stated_on (codes "last") line) rows row
sort_push sorts.Claims s line rows row = claims_push (record s { sort = sorts.Claims }) (stated_on (codes "claims") line) rows row
sort_push sorts.States s line rows row = last_push (record s { sort = sorts.States; states = stated_on (codes "states") line }) rows row

abbrev pub at_bound : Stated → ℕ → Stated
at_bound s bound = record s { stage = stages.Evidence; bound = bound }

evidence_push : (s : Stated) (bound : ℕ) (rows : List Row) (row : Row)
    → with_evidence (at_bound s bound) (rows ++ row ∷ []) ≡ next (with_evidence (at_bound s bound) rows) row
evidence_push s bound [] row = sort_one (sort_on row) (at_bound s bound) row
evidence_push s bound (line ∷ rows) row = sort_push (sort_on line) (at_bound s bound) line rows row

abbrev pub at_peak : Stated → ℕ → Stated
at_peak s peak = record s { stage = stages.Bound; peak = peak }

bound_push : (s : Stated) (peak : ℕ) (rows : List Row) (row : Row)
    → with_bound (at_peak s peak) (rows ++ row ∷ []) ≡ next (with_bound (at_peak s peak) rows) row
bound_push s peak [] row = refl
bound_push s peak (section ∷ rows) row = evidence_push (at_peak s peak) (stated_on (codes "bound") section) rows row

abbrev pub at_order : Stated → ℕ → List ℕ → Stated
at_order s count order = record s { stage = stages.Order; count = count; order = order }

ordered_push : (s : Stated) (count : ℕ) (order : List ℕ) (rows : List Row) (row : Row) → nat_lt (length order) count ≡ false
    → with_peak (at_order s count order) (rows ++ row ∷ []) ≡ next (with_peak (at_order s count order) rows) row
ordered_push s count order [] row full = rw full refl
ordered_push s count order (section ∷ rows) row full =
    bound_push (at_order s count order) (stated_on (codes "peak") section) rows row

abbrev pub begun : Stated
begun = record nothing { stage = stages.OrderSection }

order_push : (section : Row) (rows : List Row) (row : Row)
    → with_order begun (section ∷ (rows ++ row ∷ [])) ≡ next (with_order begun (section ∷ rows)) row
order_push section rows row =
    let n = stated_on (codes "order") section in
    elim (within_or_past task_on n rows row) [
      | inl w ↦ rw (w.more, w.still_none, w.none, w.open_yet) refl
      | inr p ↦ rw (p.same, p.later) (ordered_push begun n (map task_on (take n rows)) (drop n rows) row p.full)
    ]

pub stated_push : (rows : List Row) (row : Row) → stated (rows ++ row ∷ []) ≡ next (stated rows) row
unfolding stated
stated_push [] row = refl
stated_push (header ∷ []) row =
    let n = stated_on (codes "order") row in
    rw (drop-nil n, take-nil n) refl
stated_push (header ∷ section ∷ rows) row = order_push section rows row

-- ---- the two laws

pub step_follows : (s : Stated) (before : List Row) (row : Row) → took s before → ArePassed bounded_plan_format before →
    Follows (tests_after (stated before) row) (λ after. took after (before ++ row ∷ []) × (bounded_plan_format ≡ bounded_plan_format))
    (plan_step s row)
unfolding plan_step
step_follows s before row taken passed =
    rw taken
    (tested-follows (tests_after (stated before) row) (next (stated before) row)
    (λ after. took after (before ++ row ∷ []) × (bounded_plan_format ≡ bounded_plan_format))
    (λ _. (sym (stated_push before row), refl)))

pub end_follows : (s : Stated) (rows : List Row) (past : ℕ) → took s rows → ArePassed bounded_plan_format rows →
    Follows (end_tests_after (stated rows) past) (λ after. took after rows) (plan_end s past)
unfolding plan_end
end_follows s rows past taken passed =
    rw taken (tested-follows (end_tests_after (stated rows) past) (stated rows) (λ after. took after rows) (λ _. refl))
