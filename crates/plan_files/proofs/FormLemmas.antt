-- What well-formed lines of a plan file say of what they state.
use Rattle.std.proofs.Common.{◌≡◌, ℕ, ◌<◌, ◌≤◌, ◌⊎◌, inl, inr, Bool, true, false, cond, ◌&&◌, eqb, leb, ltb, List, [], ◌∷◌, ◌++◌}
use Rattle.std.proofs.Common.{length, refl, sym, ap, subst, ◌∙◌, arith, unsigned_abs, is_some, None, append_assoc, append-nil}
use Rattle.std.specs.Prelude.{codes}
use Rattle.std.specs.List.{All}
use Rattle.std.proofs.lemmas.List.{length_push}
use Rattle.std.proofs.lemmas.List.Elements.{All-nil, All-push}
use Rattle.std.proofs.lemmas.Bool.{and_parts, or_cases, leb-true, ltb-true, ltb-false, eqb-true}
use Rattle.limits.specs.Limits.{most_tasks, most_positions, most_total}
use Rattle.mp_text.specs.declared.layout.Layout.TheVariants.{Commented}
use Rattle.mp_text.specs.declared.refusals.Refusal.{Refusal}
use Rattle.mp_text.specs.Text.{Row, signed_of}
use Rattle.file_frame.specs.declared.version.Version.{Version}
use Rattle.file_frame.specs.declared.version.Version.TheVariants.{One, Two}
use Rattle.mp_text.specs.Ahead.{rows_of_bytes}
use Rattle.mp_text.specs.Grammar.{test, first_failure, ArePassed, token_at}
use Rattle.permutations.specs.Perm.{IsPart, IsPerm, IsVertex, times}
use Rattle.plans.specs.Plan.{PlanValue, most_number, IsPlan, IsClaimWithin, RiseFrom, IsPriority}
use Rattle.plan_files.specs.PlanFile.{Stated, stated, plan_format, staged_tests, is_ended, is_number_up_to, is_bound, bound_of}
use Rattle.plan_files.specs.PlanFile.{value_of, task_on, claim_on, last_position, claim_tests, order_tests, peak_tests}
use Rattle.plan_files.specs.PlanFile.{priority_tests, priority_section_tests, tests_after_order, ReadsPlan}
use Rattle.plan_files.specs.Reader.{staged_next, with_task, with_rank, with_claim, peak_next, ranks_next, after_order_next}
use Rattle.plan_files.proofs.ReaderLaws.{stated_push}
use Rattle.plans.specs.declared.claim.Claim.{Claim}
use Rattle.plan_files.specs.declared.stage.Stage.{Stage}
use Rattle.plan_files.specs.declared.stage.Stage.TheVariants as stages
use Rattle.plans.proofs.Rising.{last_from, rise_push, rise_at, last_is}
use Rattle.permutations.proofs.PermLemmas.{part-none, part-push, perm_from_part}
use Rattle.file_frame.specs.Frame.{stated_on, last_tests}
use Rattle.file_frame.proofs.TestLemmas.{passes}
use Rattle.plan_files.specs.declared.kind.PlanKind.TheVariants as kinds

-- ---- tests that hold

pub up_to : (most : ℕ) (token : List ℕ) → is_number_up_to most token ≡ true → value_of token ≤ most
up_to most token e = leb-true _ _ (and_parts _ _ e).1

-- of three tests that hold, the second and the third
pub hold : {K : Type 0} (a b c : Bool) (r s t : Refusal K)
    → first_failure (test a r ∷ test b s ∷ test c t ∷ []) ≡ None → (b ≡ true) × (c ≡ true)
hold a b c r s t none =
    let two = passes _ _ _ (passes _ _ _ none).1 in
    (two.0, (passes _ _ _ two.1).0)

pub order-test : (row : Row) → first_failure (order_tests row) ≡ None → task_on row ≤ most_number
order-test row passed = up_to most_number (token_at 0 row) (passes _ _ _ (passes _ _ _ passed).1).0

priority-test : (tasks : ℕ) (before : List ℕ) (row : Row) → first_failure (priority_tests tasks before row) ≡ None
    → IsVertex tasks (task_on row) × (times before (task_on row) ≡ 0)
priority-test tasks before row passed =
    let v = task_on row in
    let all = and_parts (leb 1 v && leb v tasks) (eqb (times before v) 0) (hold _ _ _ _ _ _ passed).1 in
    let task = and_parts (leb 1 v) (leb v tasks) all.0 in
    ((leb-true 1 v task.0, leb-true v tasks task.1), eqb-true (times before v) 0 all.1)

pub claim-test : (before : List Claim) (row : Row) → first_failure (claim_tests before row) ≡ None
    → IsClaimWithin (claim_on row) × (last_position before < (claim_on row).position)
claim-test before row passed =
    let both = hold _ _ _ _ _ _ passed in
    let all = and_parts (is_number_up_to most_number (token_at 0 row) && is_bound (token_at 2 row))
    (is_number_up_to most_total (token_at 3 row)) both.0 in
    let first = and_parts (is_number_up_to most_number (token_at 0 row)) (is_bound (token_at 2 row)) all.0 in
    let bound = and_parts (is_some (signed_of (token_at 2 row))) (leb (unsigned_abs (bound_of (token_at 2 row))) most_total) first.1 in (
      record {
        position = up_to most_number (token_at 0 row) first.0;
        bound = leb-true _ _ bound.1;
        rest = up_to most_total (token_at 3 row) all.1;
      },
      ltb-true _ _ both.1,
    )

-- ---- positions that rise

pub last_position_is : (cs : List Claim) → last_position cs ≡ last_from 0 cs
unfolding last_from
last_position_is [] = refl
last_position_is (c ∷ cs) = last_is 0 c cs

pub last-rises : (cs : List Claim) (c : Claim) (ds : List Claim) → RiseFrom 0 (cs ++ c ∷ ds) → last_position cs < c.position
last-rises cs c ds rise = subst (λ (n : ℕ). n < c.position) (sym (last_position_is cs)) (rise_at 0 cs c ds rise)

-- ---- what holds after lines that pass

abbrev AreTasks : List ℕ → Type 0
AreTasks order = (length order ≤ most_tasks) × All (λ v. v ≤ most_number) order

abbrev AreClaims : List Claim → Type 0
AreClaims claims = (length claims ≤ most_positions) × All IsClaimWithin claims × RiseFrom 0 claims

-- of the order, the peak and the claims so far
record IsSoFar (order : List ℕ) (peak : ℕ) (claims : List Claim) : Type 0 where
  tasks : AreTasks order
  peak_fits : peak ≤ most_total
  claims_fit : AreClaims claims

record IsInPriority (s : Stated) : Type 0 where
  tasks : s.tasks ≡ length s.order
  count : (s.count ≡ 0) ⊎ (s.count ≡ s.tasks)
  within : length s.priority ≤ s.count
  part : IsPart s.tasks s.priority

-- what the stage adds
abbrev At : Stage → Stated → Type 0
At stages.Header s = (s.order ≡ []) × (s.priority ≡ [])
At stages.OrderSection s = (s.order ≡ []) × (s.priority ≡ [])
At stages.Order s = (s.count ≤ most_tasks) × (length s.order ≤ s.count) × (s.priority ≡ [])
At stages.Priority s = IsInPriority s
At stages.ClaimsSection s = IsPriority (length s.order) s.priority
At stages.Claims s = IsPriority (length s.order) s.priority × (s.count ≤ most_positions)
At stages.Ended s = IsPriority (length s.order) s.priority

abbrev Holds : Stated → Type 0
Holds s = IsSoFar s.order s.peak s.claims × At s.stage s

peak-passed : (s : Stated) (row : Row) → IsSoFar s.order s.peak s.claims
    → IsPriority (length s.order) s.priority → first_failure (peak_tests row) ≡ None → Holds (peak_next s row)
peak-passed s row so ranked passed =
    (record { tasks = so.tasks; peak_fits = leb-true _ _ (hold _ _ _ _ _ _ passed).1; claims_fit = so.claims_fit }, ranked)

ranks-passed : (s : Stated) (row : Row) → IsSoFar s.order s.peak s.claims → length s.order ≡ s.count
    → first_failure (priority_section_tests s.count row) ≡ None → Holds (ranks_next s row)
ranks-passed s row so full passed =
    let count : (stated_on (codes "priority") row ≡ 0) ⊎ (stated_on (codes "priority") row ≡ s.count) =
    elim (or_cases _ _ (hold _ _ _ _ _ _ passed).1) [ inl e ↦ inl (eqb-true _ _ e) | inr e ↦ inr (eqb-true _ _ e) ] in
    (so, record { tasks = sym full; count = count; within = omega arith; part = part-none s.count })

after_order-passed : (v : Version) (s : Stated) (row : Row) → IsSoFar s.order s.peak s.claims → length s.order ≡ s.count
    → s.priority ≡ [] → first_failure (tests_after_order v s row) ≡ None → Holds (after_order_next v s row)
after_order-passed One s row so full fresh passed = peak-passed s row so (inl fresh) passed
after_order-passed Two s row so full fresh passed = ranks-passed s row so full passed

order-passed : (s : Stated) (row : Row) → s.stage ≡ stages.Order → IsSoFar s.order s.peak s.claims
    → At stages.Order s → first_failure (staged_tests stages.Order s row) ≡ None → Holds (staged_next stages.Order s row)
order-passed s row stage so at = go (ltb (length s.order) s.count) refl where
  go : (b : Bool) → ltb (length s.order) s.count ≡ b → first_failure (cond b (order_tests row) (tests_after_order s.version s row)) ≡ None
      → Holds (cond b (with_task s row) (after_order_next s.version s row))
  go true e passed =
      let lt = ltb-true _ _ e in
      let few = at.0 in (
        record {
          tasks = (
            omega (arith, length_push s.order (task_on row)),
            All-push (λ (v : ℕ). v ≤ most_number) s.order (task_on row) so.tasks.1 (order-test row passed),
          );
          peak_fits = so.peak_fits;
          claims_fit = so.claims_fit;
        },
        subst (λ (st : Stage). At st (with_task s row)) (sym stage) (at.0, omega (arith, length_push s.order (task_on row)), at.2),
      )
  go false e passed =
      let ge = ltb-false _ _ e in
      let within = at.1 in
      after_order-passed s.version s row so (omega arith) at.2 passed

-- a priority is whole after its last line
whole : (s : Stated) → IsInPriority s → s.count ≤ length s.priority → IsPriority (length s.order) s.priority
whole s at full =
    elim at.count [
      | inl none ↦ inl (empty s.priority (let within = at.within in omega arith))
      | inr all ↦
          inr (subst (λ (n : ℕ). IsPerm n s.priority) at.tasks
          (perm_from_part s.tasks s.priority at.part (let within = at.within in omega arith)))
    ] where
      empty : (xs : List ℕ) → length xs ≤ 0 → xs ≡ []
      empty [] le = refl
      empty (x ∷ xs) le = absurd (omega arith)

priority-passed : (s : Stated) (row : Row) → s.stage ≡ stages.Priority → IsSoFar s.order s.peak s.claims
    → At stages.Priority s → first_failure (staged_tests stages.Priority s row) ≡ None → Holds (staged_next stages.Priority s row)
priority-passed s row stage so at = go (ltb (length s.priority) s.count) refl where
  go : (b : Bool) → ltb (length s.priority) s.count ≡ b
      → first_failure (cond b (priority_tests s.tasks s.priority row) (peak_tests row)) ≡ None
      → Holds (cond b (with_rank s row) (peak_next s row))
  go true e passed =
      let v = task_on row in
      let ranked = priority-test s.tasks s.priority row passed in
      let lt = ltb-true _ _ e in (
        so,
        subst (λ (st : Stage). At st (with_rank s row)) (sym stage) (record {
          tasks = at.tasks;
          count = at.count;
          within = omega (arith, length_push s.priority v);
          part = part-push s.tasks s.priority v at.part ranked.0 ranked.1;
        }),
      )
  go false e passed = peak-passed s row so (whole s at (ltb-false _ _ e)) passed

claims-passed : (s : Stated) (row : Row) → s.stage ≡ stages.Claims → IsSoFar s.order s.peak s.claims
    → At stages.Claims s → first_failure (staged_tests stages.Claims s row) ≡ None → Holds (staged_next stages.Claims s row)
claims-passed s row stage so at = go (ltb (length s.claims) s.count) refl where
  go : (b : Bool) → ltb (length s.claims) s.count ≡ b
      → first_failure (cond b (claim_tests s.claims row) (last_tests kinds.NoEnd row)) ≡ None
      → Holds (cond b (with_claim s row) (record s { stage = stages.Ended }))
  go true e passed =
      let claim = claim-test s.claims row passed in
      let lt = ltb-true _ _ e in
      let few = at.1 in (
        record {
          tasks = so.tasks;
          peak_fits = so.peak_fits;
          claims_fit = (
            omega (arith, length_push s.claims (claim_on row)),
            All-push IsClaimWithin s.claims (claim_on row) so.claims_fit.1 claim.0,
            rise_push 0 s.claims (claim_on row) so.claims_fit.2
                (subst (λ (n : ℕ). n < (claim_on row).position) (last_position_is s.claims) claim.1),
          );
        },
        subst (λ (st : Stage). At st (with_claim s row)) (sym stage) (at.0, at.1),
      )
  go false e passed = (so, at.0)

line-passed : (stage : Stage) (s : Stated) (row : Row) → s.stage ≡ stage → IsSoFar s.order s.peak s.claims
    → At stage s → first_failure (staged_tests stage s row) ≡ None → Holds (staged_next stage s row)
line-passed stages.Header s row e so at passed = (so, at)
line-passed stages.OrderSection s row e so at passed = (so, (leb-true _ _ (hold _ _ _ _ _ _ passed).1, omega (arith, ap length at.0), at.1))
line-passed stages.Order s row e so at passed = order-passed s row e so at passed
line-passed stages.Priority s row e so at passed = priority-passed s row e so at passed
line-passed stages.ClaimsSection s row e so at passed = (so, (at, leb-true _ _ (hold _ _ _ _ _ _ passed).1))
line-passed stages.Claims s row e so at passed = claims-passed s row e so at passed
line-passed stages.Ended s row e so at passed = absurd cc

rows-passed : (all before rest : List Row) → all ≡ before ++ rest → ArePassed plan_format all → Holds (stated before) → Holds (stated all)
rows-passed all before [] e passed holds = subst (λ (rs : List Row). Holds (stated rs)) (sym (e ∙ append-nil before)) holds
rows-passed all before (row ∷ rest) e passed holds =
    let s = stated before in
    rows-passed all (before ++ row ∷ []) rest (e ∙ sym (append_assoc before (row ∷ []) rest)) passed
    (subst Holds (sym (stated_push before row)) (line-passed s.stage s row refl holds.0 holds.1 (passed before rest row e)))

begins : Holds (stated [])
unfolding stated
begins = (
  record { tasks = (omega arith, All-nil _); peak_fits = omega arith; claims_fit = (omega arith, All-nil IsClaimWithin, tt) },
  (refl, refl),
)

ended-ranked : (stage : Stage) (s : Stated) → is_ended stage ≡ true → At stage s → IsPriority (length s.order) s.priority
ended-ranked stages.Ended s e at = at
ended-ranked _ s e at = absurd cc

pub reads-is_plan : (bytes : List ℕ) (plan : PlanValue) → ReadsPlan bytes plan → IsPlan plan
reads-is_plan bytes plan reads =
    let rows = rows_of_bytes Commented bytes in
    let s = stated rows in
    let holds = rows-passed rows [] rows refl reads.form.lines begins in
    let so = holds.0 in
    let ended = (passes _ _ _ reads.form.end).0 in
    subst IsPlan (sym reads.stated) (record {
      few_tasks = so.tasks.0;
      tasks = so.tasks.1;
      peak = so.peak_fits;
      few_claims = so.claims_fit.0;
      claims = so.claims_fit.1;
      rising = so.claims_fit.2;
      priority = ended-ranked s.stage s ended holds.1;
    })
