-- What well-formed lines of a plan file of version 3 say of what they state.
use Rattle.std.proofs.Common.{◌≡◌, ℕ, zero, suc, ◌+◌, ◌-◌, ◌<◌, ◌≤◌, inl, inr, Bool, true, false, cond, eqb, leb, ltb, List, [], ◌∷◌, ◌++◌}
use Rattle.std.proofs.Common.{length, map, get_or, refl, sym, ap, subst, ◌∙◌, arith, unsigned_abs, is_some, None, append_assoc, append-nil}
use Rattle.std.specs.List.{All, sum_by}
use Rattle.std.specs.List.Sorted.{IsStrictlyIncreasing}
use Rattle.std.proofs.lemmas.List.{length_push, length-map, get_or_append_left, get_or_push}
use Rattle.std.proofs.lemmas.List.Elements.{All-nil, All-push}
use Rattle.std.proofs.lemmas.List.Sums.{sum_by_push}
use Rattle.std.proofs.lemmas.Bool.{and_parts, cases_lt, leb-true, ltb-true}
use Rattle.limits.specs.Limits.{most_tasks, most_positions, most_total}
use Rattle.mp_text.specs.declared.layout.Layout.TheVariants.{Commented}
use Rattle.mp_text.specs.Text.{Row, signed_of}
use Rattle.mp_text.specs.Ahead.{rows_of_bytes}
use Rattle.mp_text.specs.Grammar.{first_failure, ArePassed, token_at}
use Rattle.file_frame.specs.Frame.{last_tests}
use Rattle.file_frame.proofs.TestLemmas.{passes}
use Rattle.plans.specs.Plan.{most_number, IsClaimWithin, RiseFrom}
use Rattle.plans.specs.declared.claim.Claim.{Claim}
use Rattle.plans.proofs.Rising.{rise_push}
use Rattle.plan_files.specs.declared.kind.PlanKind.TheVariants as kinds
use Rattle.plan_files.specs.PlanFile.{is_number_up_to, is_bound, bound_of, task_on, claim_on, claim_tests, order_tests, peak_tests}
use Rattle.plan_files.proofs.FormLemmas.{up_to, hold, order-test, claim-test, last_position_is}
use Rattle.peak_bounds.specs.declared.evidence.Amount.{Amount}
use Rattle.peak_bounds.specs.declared.evidence.Evidence.TheVariants.{Start, Need}
use Rattle.peak_bounds.specs.EventSets.{BlockerValue}
use Rattle.peak_bounds.specs.Evidence.{IsAmount, AreAmounts, place_of}
use Rattle.peak_bounds.proofs.Told.{no_amount, place_at}
use Rattle.bounded_plans.specs.BoundedPlan.{BoundedPlanValue, own_count, IsBlockerWithin, IsWithin, IsBoundedPlan}
use Rattle.bounded_plans.specs.declared.evidence.BoundEvidence.TheVariants.{Sums}
use Rattle.bounded_plan_files.specs.BoundedPlanFile.{Stated, stated, bounded_plan_format, staged_tests, is_ended, sort_on, sort_tests, amount_on}
use Rattle.bounded_plan_files.specs.BoundedPlanFile.{last_place, amount_tests, blocker_tests, blocker_task, own_stated, blockers_at, with_blocker}
use Rattle.bounded_plan_files.specs.BoundedPlanFile.{tests_after_amounts, need_stated, evidence_stated, ReadsBoundedPlan}
use Rattle.bounded_plan_files.specs.Reader.{staged_next, sort_next, with_task, peak_next, with_claim, with_base_amount, with_own_amount}
use Rattle.bounded_plan_files.specs.Reader.{set_ended, after_amounts}
use Rattle.bounded_plan_files.specs.declared.sort.Sort.{Sort}
use Rattle.bounded_plan_files.specs.declared.sort.Sort.TheVariants as sorts
use Rattle.bounded_plan_files.specs.declared.stage.Stage.{Stage}
use Rattle.bounded_plan_files.specs.declared.stage.Stage.TheVariants as stages
use Rattle.bounded_plan_files.proofs.ReaderLaws.{stated_push}

-- ---- amounts

amount-test : (before : List Amount) (row : Row) → first_failure (amount_tests before row) ≡ None
    → IsAmount most_number (amount_on row) × (last_place before < (amount_on row).place)
amount-test before row passed =
    let both = hold _ _ _ _ _ _ passed in
    let all = and_parts (is_number_up_to most_number (token_at 0 row)) (is_bound (token_at 1 row)) both.0 in
    let bound = and_parts (is_some (signed_of (token_at 1 row))) (leb (unsigned_abs (bound_of (token_at 1 row))) most_total) all.1 in
    let rises : last_place before < (amount_on row).place = ltb-true _ _ both.1 in (
      record { some = omega arith; within = up_to most_number (token_at 0 row) all.0; amount = leb-true _ _ bound.1 },
      rises,
    )

pub places_push : (xs : List Amount) (a : Amount) → IsStrictlyIncreasing (map place_of xs) → last_place xs < a.place
    → IsStrictlyIncreasing (map place_of (xs ++ a ∷ []))
places_push xs a rising lt k inside =
    let all : List Amount = xs ++ a ∷ [] in
    let long : length all ≡ length xs + 1 = length_push xs a in
    let within : k + 1 < length all = omega (arith, length-map all place_of) in
    let place : Amount → ℕ = λ x. x.place in
    let kept : k < length xs = omega arith in
    let here = place_at all k (omega arith) in
    let next = place_at all (k + 1) within in
    let here_is = ap place (get_or_append_left xs (a ∷ []) no_amount k kept) in
    elim (cases_lt (k + 1) (length xs)) [
      | inl before ↦
          let next_is = ap place (get_or_append_left xs (a ∷ []) no_amount (k + 1) before) in
          let both = rising k (omega (arith, length-map xs place_of)) in
          omega (arith, both, place_at xs k kept, place_at xs (k + 1) before)
      | inr past ↦
          let next_is = ap place (get_or_push xs a no_amount (k + 1) (omega arith)) in
          let last : k ≡ length xs - 1 = omega arith in
          let last_is = ap (λ (j : ℕ). (get_or xs j no_amount).place) last in
          omega arith
    ]

amounts_push : (xs : List Amount) (a : Amount) → AreAmounts most_number xs → IsAmount most_number a → last_place xs < a.place
    → AreAmounts most_number (xs ++ a ∷ [])
amounts_push xs a are is lt =
    record { each = All-push (IsAmount most_number) xs a are.each is; rising = places_push xs a are.rising lt }

no_amounts : AreAmounts most_number []
no_amounts = record { each = All-nil (IsAmount most_number); rising = λ k lt. absurd (omega arith) }

-- ---- a blocker's line

blocker-test : (uses : ℕ) (row : Row) → first_failure (blocker_tests uses row) ≡ None
    → (blocker_task row ≤ most_number) × (uses + own_stated row ≤ most_positions)
blocker-test uses row passed =
    let both = hold _ _ _ _ _ _ passed in
    let all = and_parts (is_number_up_to most_number (token_at 1 row)) _ both.0 in
    (up_to most_number (token_at 1 row) all.0, leb-true _ _ both.1)

-- ---- what holds after lines that pass

record IsHead (order : List ℕ) (peak bound : ℕ) : Type 0 where
  few : length order ≤ most_tasks
  tasks : All (λ v. v ≤ most_number) order
  peak_fits : peak ≤ most_total
  bound_fits : bound ≤ most_total

abbrev HasHead : Stated → Type 0
HasHead s = IsHead s.order s.peak s.bound

abbrev IsOfSet : Sort → Type 0
IsOfSet sorts.First = Unit {0}
IsOfSet sorts.Last = Unit {0}
IsOfSet _ = ⊥

-- the number behind the word is in its range
abbrev HasNumber : Sort → Stated → Type 0
HasNumber sorts.Need s = s.task ≤ most_number
HasNumber sorts.States s = s.states ≤ most_number
HasNumber _ s = ⊥

record IsInBase (s : Stated) : Type 0 where
  sort : IsOfSet s.sort
  few : s.left ≤ most_tasks
  none : s.blockers ≡ []
  uses : s.uses ≡ s.count
  most : s.count ≤ most_positions
  within : length s.base ≤ s.count
  base : AreAmounts most_number s.base

record IsInOwn (s : Stated) : Type 0 where
  sort : IsOfSet s.sort
  few : length s.blockers + 1 + s.left ≤ most_tasks
  base : AreAmounts most_number s.base
  blockers : All IsBlockerWithin s.blockers
  task : s.task ≤ most_number
  own : AreAmounts most_number s.own
  within : length s.own ≤ s.count
  told : length s.base + sum_by own_count s.blockers + s.count ≤ s.uses
  most : s.uses ≤ most_positions

-- after all amounts, with the blockers so far
record IsClosed (s : Stated) (blockers : List BlockerValue) : Type 0 where
  sort : IsOfSet s.sort
  few : length blockers + s.left ≤ most_tasks
  base : AreAmounts most_number s.base
  each : All IsBlockerWithin blockers
  told : length s.base + sum_by own_count blockers ≤ s.uses
  most : s.uses ≤ most_positions

record AreClaims (count : ℕ) (claims : List Claim) : Type 0 where
  within : length claims ≤ count
  each : All IsClaimWithin claims
  rising : RiseFrom 0 claims

-- what the stage adds
abbrev At : Stage → Stated → Type 0
At stages.Order s = (s.count ≤ most_tasks) × (length s.order ≤ s.count) × (s.blockers ≡ [])
At stages.Claims s = (s.sort ≡ sorts.Claims) × (s.count ≤ most_positions) × AreClaims s.count s.claims
At stages.BaseSection s = IsOfSet s.sort × (s.left ≤ most_tasks) × (s.blockers ≡ [])
At stages.Base s = IsInBase s
At stages.Own s = IsInOwn s
At stages.End s = HasNumber s.sort s
At stages.Ended s = IsWithin (evidence_stated s.sort s)
At _ s = s.blockers ≡ []

abbrev Holds : Stated → Type 0
Holds s = HasHead s × At s.stage s

order-passed : (s : Stated) (row : Row) → s.stage ≡ stages.Order → HasHead s → At stages.Order s
    → first_failure (staged_tests stages.Order s row) ≡ None → Holds (staged_next stages.Order s row)
order-passed s row stage so at = go (ltb (length s.order) s.count) refl where
  go : (b : Bool) → ltb (length s.order) s.count ≡ b → first_failure (cond b (order_tests row) (peak_tests row)) ≡ None
      → Holds (cond b (with_task s row) (peak_next s row))
  go true e passed =
      let lt = ltb-true _ _ e in
      let few = at.0 in
      let long = length_push s.order (task_on row) in (
        record {
          few = omega arith;
          tasks = All-push (λ (v : ℕ). v ≤ most_number) s.order (task_on row) so.tasks (order-test row passed);
          peak_fits = so.peak_fits;
          bound_fits = so.bound_fits;
        },
        subst (λ (st : Stage). At st (with_task s row)) (sym stage) (at.0, omega arith, at.2),
      )
  go false e passed = (
    record { few = so.few; tasks = so.tasks; peak_fits = leb-true _ _ (hold _ _ _ _ _ _ passed).1; bound_fits = so.bound_fits },
    at.2,
  )

sort-passed : (sort : Sort) (s : Stated) (row : Row) → HasHead s → s.blockers ≡ [] → first_failure (sort_tests sort row) ≡ None
    → Holds (sort_next sort s row)
sort-passed sorts.Need s row so none passed = (so, leb-true _ _ (hold _ _ _ _ _ _ passed).1)
sort-passed sorts.First s row so none passed = (so, (tt, leb-true _ _ (hold _ _ _ _ _ _ passed).1, none))
sort-passed sorts.Last s row so none passed = (so, (tt, leb-true _ _ (hold _ _ _ _ _ _ passed).1, none))
sort-passed sorts.Claims s row so none passed = (
  so,
  (
    refl,
    leb-true _ _ (hold _ _ _ _ _ _ passed).1,
    record { within = omega arith; each = All-nil IsClaimWithin; rising = tt },
  ),
)
sort-passed sorts.States s row so none passed = (so, leb-true _ _ (hold _ _ _ _ _ _ passed).1)

claims-passed : (s : Stated) (row : Row) → s.stage ≡ stages.Claims → HasHead s → At stages.Claims s
    → first_failure (staged_tests stages.Claims s row) ≡ None → Holds (staged_next stages.Claims s row)
claims-passed s row stage so at = go (ltb (length s.claims) s.count) refl where
  are : AreClaims s.count s.claims
  are = at.2

  go : (b : Bool) → ltb (length s.claims) s.count ≡ b
      → first_failure (cond b (claim_tests s.claims row) (last_tests kinds.NoEnd row)) ≡ None
      → Holds (cond b (with_claim s row) (record s { stage = stages.Ended }))
  go true e passed =
      let claim = claim-test s.claims row passed in
      let lt = ltb-true _ _ e in
      let long = length_push s.claims (claim_on row) in (
        so,
        subst (λ (st : Stage). At st (with_claim s row)) (sym stage) (
          at.0,
          at.1,
          record {
            within = omega arith;
            each = All-push IsClaimWithin s.claims (claim_on row) are.each claim.0;
            rising = rise_push 0 s.claims (claim_on row) are.rising
                (subst (λ (n : ℕ). n < (claim_on row).position) (last_position_is s.claims) claim.1);
          },
        ),
      )
  go false e passed =
      let within = are.within in
      let few = at.1 in (
        so,
        subst (λ (sort : Sort). IsWithin (evidence_stated sort (record s { stage = stages.Ended }))) (sym at.0)
            (record { few = omega arith; each = are.each; rising = are.rising }),
      )

-- ---- after all amounts

positive : (n : ℕ) → eqb n 0 ≡ false → 1 ≤ n
positive zero e = absurd cc
positive (suc n) e = omega arith

set-within : (sort : Sort) (s : Stated) (blockers : List BlockerValue) → IsOfSet sort → IsClosed s blockers
    → IsWithin (evidence_stated sort (record s { stage = stages.Ended; own = []; blockers = blockers }))
set-within sorts.First s blockers of closed =
    let few = closed.few in
    let told = closed.told in
    let most = closed.most in
    record { base = closed.base; few = omega arith; blockers = closed.each; few_amounts = omega arith }
set-within sorts.Last s blockers of closed =
    let few = closed.few in
    let told = closed.told in
    let most = closed.most in
    record { base = closed.base; few = omega arith; blockers = closed.each; few_amounts = omega arith }
set-within _ s blockers of closed = absurd of

after-passed : (s : Stated) (row : Row) → HasHead s → IsClosed s (blockers_at s.stage s)
    → first_failure (tests_after_amounts s row) ≡ None → Holds (after_amounts s row)
after-passed s row so closed = go (eqb s.left 0) refl where
  go : (b : Bool) → eqb s.left 0 ≡ b → first_failure (cond b (last_tests kinds.NoEnd row) (blocker_tests s.uses row)) ≡ None
      → Holds (cond b (set_ended s) (with_blocker s row []))
  go true e passed = (so, set-within s.sort s (blockers_at s.stage s) closed.sort closed)
  go false e passed =
      let blocker = blocker-test s.uses row passed in
      let some = positive s.left e in
      let few = closed.few in
      let told = closed.told in (
        so,
        record {
          sort = closed.sort;
          few = omega arith;
          base = closed.base;
          blockers = closed.each;
          task = blocker.0;
          own = no_amounts;
          within = omega arith;
          told = omega arith;
          most = blocker.1;
        },
      )

closed-base : (s : Stated) → IsInBase s → IsClosed s s.blockers
closed-base s at =
    let long = ap length at.none in
    let sum = ap (sum_by own_count) at.none in
    let few = at.few in
    let uses = at.uses in
    let within = at.within in
    let most = at.most in
    record {
      sort = at.sort;
      few = omega arith;
      base = at.base;
      each = subst (All IsBlockerWithin) (sym at.none) (All-nil IsBlockerWithin);
      told = omega arith;
      most = omega arith;
    }

closed-own : (s : Stated) → IsInOwn s → IsClosed s (s.blockers ++ record { task = s.task; amounts = s.own } ∷ [])
closed-own s at =
    let last : BlockerValue = record { task = s.task; amounts = s.own } in
    let long = length_push s.blockers last in
    let sum = sum_by_push own_count s.blockers last in
    let few = at.few in
    let told = at.told in
    let within = at.within in
    record {
      sort = at.sort;
      few = omega arith;
      base = at.base;
      each = All-push IsBlockerWithin s.blockers last at.blockers (record { task = at.task; amounts = at.own });
      told = omega arith;
      most = at.most;
    }

base-passed : (s : Stated) (row : Row) → s.stage ≡ stages.Base → HasHead s → IsInBase s
    → first_failure (staged_tests stages.Base s row) ≡ None → Holds (staged_next stages.Base s row)
base-passed s row stage so at = go (ltb (length s.base) s.count) refl where
  go : (b : Bool) → ltb (length s.base) s.count ≡ b → first_failure (cond b (amount_tests s.base row) (tests_after_amounts s row)) ≡ None
      → Holds (cond b (with_base_amount s row) (after_amounts s row))
  go true e passed =
      let amount = amount-test s.base row passed in
      let lt = ltb-true _ _ e in
      let long = length_push s.base (amount_on row) in (
        so,
        subst (λ (st : Stage). At st (with_base_amount s row)) (sym stage) (record {
          sort = at.sort;
          few = at.few;
          none = at.none;
          uses = at.uses;
          most = at.most;
          within = omega arith;
          base = amounts_push s.base (amount_on row) at.base amount.0 amount.1;
        }),
      )
  go false e passed =
      after-passed s row so (subst (λ (st : Stage). IsClosed s (blockers_at st s)) (sym stage) (closed-base s at)) passed

own-passed : (s : Stated) (row : Row) → s.stage ≡ stages.Own → HasHead s → IsInOwn s
    → first_failure (staged_tests stages.Own s row) ≡ None → Holds (staged_next stages.Own s row)
own-passed s row stage so at = go (ltb (length s.own) s.count) refl where
  go : (b : Bool) → ltb (length s.own) s.count ≡ b → first_failure (cond b (amount_tests s.own row) (tests_after_amounts s row)) ≡ None
      → Holds (cond b (with_own_amount s row) (after_amounts s row))
  go true e passed =
      let amount = amount-test s.own row passed in
      let lt = ltb-true _ _ e in
      let long = length_push s.own (amount_on row) in (
        so,
        subst (λ (st : Stage). At st (with_own_amount s row)) (sym stage) (record {
          sort = at.sort;
          few = at.few;
          base = at.base;
          blockers = at.blockers;
          task = at.task;
          own = amounts_push s.own (amount_on row) at.own amount.0 amount.1;
          within = omega arith;
          told = at.told;
          most = at.most;
        }),
      )
  go false e passed =
      after-passed s row so (subst (λ (st : Stage). IsClosed s (blockers_at st s)) (sym stage) (closed-own s at)) passed

-- ---- the need of a task, or how many states

need-within : (task : ℕ) → task ≤ most_number → IsWithin (Sums (need_stated task))
need-within task few = go (eqb task 0) refl where
  go : (b : Bool) → eqb task 0 ≡ b → IsWithin (Sums (cond b Start (Need task)))
  go true e = tt
  go false e = (positive task e, few)

number-within : (sort : Sort) (s : Stated) → HasNumber sort s → IsWithin (evidence_stated sort (record s { stage = stages.Ended }))
number-within sorts.Need s few = need-within s.task few
number-within sorts.States s few = few
number-within _ s few = absurd few

-- ---- all lines

line-passed : (stage : Stage) (s : Stated) (row : Row) → s.stage ≡ stage → HasHead s → At stage s
    → first_failure (staged_tests stage s row) ≡ None → Holds (staged_next stage s row)
line-passed stages.Header s row e so at passed = (so, at)
line-passed stages.OrderSection s row e so at passed = (
  record { few = omega arith; tasks = All-nil _; peak_fits = so.peak_fits; bound_fits = so.bound_fits },
  (leb-true _ _ (hold _ _ _ _ _ _ passed).1, omega arith, at),
)
line-passed stages.Order s row e so at passed = order-passed s row e so at passed
line-passed stages.Bound s row e so at passed = (
  record { few = so.few; tasks = so.tasks; peak_fits = so.peak_fits; bound_fits = leb-true _ _ (hold _ _ _ _ _ _ passed).1 },
  at,
)
line-passed stages.Evidence s row e so at passed = sort-passed (sort_on row) s row so at passed
line-passed stages.Claims s row e so at passed = claims-passed s row e so at passed
line-passed stages.BaseSection s row e so at passed = (
  so,
  record {
    sort = at.0;
    few = at.1;
    none = at.2;
    uses = refl;
    most = leb-true _ _ (hold _ _ _ _ _ _ passed).1;
    within = omega arith;
    base = no_amounts;
  },
)
line-passed stages.Base s row e so at passed = base-passed s row e so at passed
line-passed stages.Own s row e so at passed = own-passed s row e so at passed
line-passed stages.End s row e so at passed = (so, number-within s.sort s at)
line-passed stages.Ended s row e so at passed = absurd cc

rows-passed : (all before rest : List Row) → all ≡ before ++ rest → ArePassed bounded_plan_format all → Holds (stated before)
    → Holds (stated all)
rows-passed all before [] e passed holds = subst (λ (rs : List Row). Holds (stated rs)) (sym (e ∙ append-nil before)) holds
rows-passed all before (row ∷ rest) e passed holds =
    let s = stated before in
    rows-passed all (before ++ row ∷ []) rest (e ∙ sym (append_assoc before (row ∷ []) rest)) passed
    (subst Holds (sym (stated_push before row)) (line-passed s.stage s row refl holds.0 holds.1 (passed before rest row e)))

begins : Holds (stated [])
unfolding stated
begins = (record { few = omega arith; tasks = All-nil _; peak_fits = omega arith; bound_fits = omega arith }, refl)

ended-within : (stage : Stage) (s : Stated) → is_ended stage ≡ true → At stage s → IsWithin (evidence_stated s.sort s)
ended-within stages.Ended s e at = at
ended-within _ s e at = absurd cc

pub reads-is_plan : (bytes : List ℕ) (plan : BoundedPlanValue) → ReadsBoundedPlan bytes plan → IsBoundedPlan plan
reads-is_plan bytes plan reads =
    let rows = rows_of_bytes Commented bytes in
    let s = stated rows in
    let holds = rows-passed rows [] rows refl reads.form.lines begins in
    let so = holds.0 in
    let ended = (passes _ _ _ reads.form.end).0 in
    subst IsBoundedPlan (sym reads.stated) (record {
      few_tasks = so.few;
      tasks = so.tasks;
      peak = so.peak_fits;
      bound = so.bound_fits;
      evidence = ended-within s.stage s ended holds.1;
    })
