-- A printed plan of version 3 is read as it was: all its lines.
use Rattle.std.proofs.Common.{◌≡◌, ℕ, ◌+◌, ◌≤◌, true, false, eqb, ltb, List, [], ◌∷◌, ◌++◌, length, map, refl}
use Rattle.std.proofs.Common.{sym, ap, subst, ◌∙◌, arith, Some, None, append_assoc, append-nil}
use Rattle.std.specs.Bool.{IsTrue}
use Rattle.std.specs.Fmt.{decimal, signed_decimal}
use Rattle.std.specs.Prelude.{codes}
use Rattle.std.specs.List.{All, list_all, flat_map, sum_by}
use Rattle.std.proofs.lemmas.Bool.{and_from, le-leb, le-ltb, ne_eqb}
use Rattle.std.proofs.lemmas.List.Elements.{All-head, All-tail, All-nil, All-cons}
use Rattle.std.proofs.lemmas.List.Sums.{sum_by-cons}
use Rattle.std.proofs.lemmas.List.Folds.{list_all-append}
use Rattle.limits.specs.Limits.{most_tasks, most_positions, most_total}
use Rattle.mp_text.specs.declared.layout.Layout.TheVariants.{Commented}
use Rattle.mp_text.specs.Text.{number_of}
use Rattle.mp_text.specs.Ahead.{rows_of_bytes, past_of_bytes}
use Rattle.mp_text.specs.Grammar.{first_failure, ArePassed}
use Rattle.mp_text.specs.Report.{is_counted, is_token, numbered_from, text_of_lines}
use Rattle.file_frame.specs.Words.{after_word}
use Rattle.file_frame.specs.Printed.{section_line, end_line}
use Rattle.file_frame.proofs.PrintedLaws.{AreLaws}
use Rattle.file_frame.proofs.LineLemmas.{section_counted}
use Rattle.plans.specs.Plan.{most_number, IsClaimWithin}
use Rattle.plans.specs.declared.claim.Claim.{Claim}
use Rattle.plans.specs.declared.claim.Direction.{Direction}
use Rattle.plans.specs.declared.claim.Direction.TheVariants.{Forward, Backward}
use Rattle.plan_files.specs.Printed.{task_line, claim_line, dir_word}
use Rattle.plan_files.proofs.PrintedLemmas.{bound-fits}
use Rattle.peak_bounds.specs.declared.step.Event.{Event}
use Rattle.peak_bounds.specs.declared.step.Event.TheVariants as events
use Rattle.peak_bounds.specs.declared.evidence.Amount.{Amount}
use Rattle.peak_bounds.specs.declared.evidence.Evidence.TheVariants.{Start, Need, Set}
use Rattle.peak_bounds.specs.EventSets.{BlockerValue, EventSetValue}
use Rattle.peak_bounds.specs.Evidence.{IsAmount}
use Rattle.bounded_plans.specs.BoundedPlan.{BoundedPlanValue, own_count, IsBlockerWithin, IsSetWithin, IsWithin, IsBoundedPlan}
use Rattle.bounded_plans.specs.declared.evidence.BoundEvidence.{BoundEvidence}
use Rattle.bounded_plans.specs.declared.evidence.BoundEvidence.TheVariants.{Sums, Claims, States}
use Rattle.bounded_plan_files.specs.BoundedPlanFile.{Stated, stated, nothing, sort_named, blockers_at, plan_stated, end_tests_after}
use Rattle.bounded_plan_files.specs.BoundedPlanFile.{bounded_plan_format, ReadsBoundedPlan}
use Rattle.bounded_plan_files.specs.Printed.{amount_line, blocker_line, blocker_lines, event_word, evidence_lines, bound_lines}
use Rattle.bounded_plan_files.specs.Printed.{bounded_plan_lines, bounded_plan_text}
use Rattle.bounded_plan_files.specs.declared.sort.Sort.{Sort}
use Rattle.bounded_plan_files.specs.declared.sort.Sort.TheVariants as sorts
use Rattle.bounded_plan_files.specs.declared.stage.Stage.TheVariants as stages
use Rattle.bounded_plan_files.proofs.ReaderLaws.{at_claims, at_base, at_section, at_bound, at_peak, at_order, begun}
use Rattle.bounded_plan_files.proofs.PrintedLemmas.{Leads, LeadsOn, leads-stated, leads-passed, order-leads, claims-lead, base-leads}
use Rattle.bounded_plan_files.proofs.PrintedLemmas.{put_own, after_blockers}

-- ---- the evidence

abbrev sort_of : Event → Sort
sort_of events.First = sorts.First
sort_of events.Last = sorts.Last

abbrev done_set : Stated → Event → EventSetValue → Stated
done_set s event set =
    after_blockers (at_base (at_section s (sort_of event) (length set.blockers)) (length set.base) set.base) set.blockers

abbrev done : Stated → BoundEvidence → Stated
done s (Sums Start) = record s { stage = stages.Ended; sort = sorts.Need; task = 0 }
done s (Sums (Need task)) = record s { stage = stages.Ended; sort = sorts.Need; task = task }
done s (Sums (Set set)) = done_set s set.event set
done s (Claims claims) = record s { stage = stages.Ended; sort = sorts.Claims; count = length claims; claims = claims }
done s (States most) = record s { stage = stages.Ended; sort = sorts.States; states = most }

abbrev set_rest : EventSetValue → List (List (List ℕ))
set_rest set = section_line (codes "base") (length set.base)
    ∷ ((map amount_line set.base ++ flat_map blocker_lines set.blockers) ++ end_line ∷ [])

set-leads : AreLaws → (s : Stated) (bound : ℕ) (event : Event) (set : EventSetValue) → IsSetWithin set
    → LeadsOn (at_bound s bound) (section_line (event_word event) (length set.blockers) ∷ set_rest set) (done_set (at_bound s bound) event set)
unfolding Leads after_word sort_named
set-leads laws s bound events.First set is n =
    let few = is.few in
    let count : number_of (decimal (length set.blockers)) ≡ Some (length set.blockers) = laws.value (length set.blockers) (omega arith) in
    rw (count, le-leb (length set.blockers) most_tasks is.few) (refl, base-leads laws (at_bound s bound) sorts.First set is (n + 1))
set-leads laws s bound events.Last set is n =
    let few = is.few in
    let count : number_of (decimal (length set.blockers)) ≡ Some (length set.blockers) = laws.value (length set.blockers) (omega arith) in
    rw (count, le-leb (length set.blockers) most_tasks is.few) (refl, base-leads laws (at_bound s bound) sorts.Last set is (n + 1))

evidence-leads : AreLaws → (s : Stated) (bound : ℕ) (evidence : BoundEvidence) → IsWithin evidence
    → LeadsOn (at_bound s bound) (evidence_lines evidence ++ end_line ∷ []) (done (at_bound s bound) evidence)
unfolding Leads after_word sort_named
evidence-leads laws s bound (Sums Start) is n =
    let number : number_of (decimal 0) ≡ Some 0 = laws.value 0 (omega arith) in
    rw number (refl, (refl, refl))
evidence-leads laws s bound (Sums (Need task)) is n =
    let number : number_of (decimal task) ≡ Some task = laws.value task (omega arith) in
    rw (number, le-leb task most_number is.1) (refl, (refl, refl))
evidence-leads laws s bound (Sums (Set set)) is n = set-leads laws s bound set.event set is n
evidence-leads laws s bound (Claims claims) is n =
    let few = is.few in
    let count : number_of (decimal (length claims)) ≡ Some (length claims) = laws.value (length claims) (omega arith) in
    let full : ltb (length claims) (length claims) ≡ false = le-ltb _ _ (omega arith) in
    let at : Stated = record (at_bound s bound) { sort = sorts.Claims } in
    let ends : LeadsOn (at_claims at (length claims) claims) (end_line ∷ []) (done (at_bound s bound) (Claims claims)) =
    λ m. rw full (refl, refl) in
    let lines = claims-lead laws at (length claims) [] claims (end_line ∷ []) (done (at_bound s bound) (Claims claims))
    is.each is.rising (omega arith) ends (n + 1) in
    rw (count, le-leb (length claims) most_positions is.few) (refl, lines)
evidence-leads laws s bound (States most) is n =
    let few : most ≤ most_number = is in
    let number : number_of (decimal most) ≡ Some most = laws.value most (omega arith) in
    rw (number, le-leb most most_number is) (refl, (refl, refl))

-- ---- all lines

abbrev ordered : BoundedPlanValue → Stated
ordered plan = at_order begun (length plan.order) plan.order

abbrev whole : BoundedPlanValue → Stated
whole plan = done (at_bound (at_peak (ordered plan) plan.peak) plan.bound) plan.evidence

abbrev after_order : BoundedPlanValue → List (List (List ℕ))
after_order plan = section_line (codes "peak") plan.peak ∷ bound_lines plan.bound plan.evidence

after_order-leads : AreLaws → (plan : BoundedPlanValue) → IsBoundedPlan plan → LeadsOn (ordered plan) (after_order plan) (whole plan)
unfolding Leads after_word
after_order-leads laws plan is n =
    let peak_fits = is.peak in
    let bound_fits = is.bound in
    let full : ltb (length plan.order) (length plan.order) ≡ false = le-ltb _ _ (omega arith) in
    let peak : number_of (decimal plan.peak) ≡ Some plan.peak = laws.value plan.peak (omega arith) in
    let bound : number_of (decimal plan.bound) ≡ Some plan.bound = laws.value plan.bound (omega arith) in
    let rest = evidence-leads laws (at_peak (ordered plan) plan.peak) plan.bound plan.evidence is.evidence (n + 1 + 1) in
    rw (full, peak, le-leb plan.peak most_total is.peak, bound, le-leb plan.bound most_total is.bound) (refl, (refl, rest))

abbrev all_lines : BoundedPlanValue → List (List (List ℕ))
all_lines plan =
    (codes "plan" ∷ codes "3" ∷ []) ∷ (section_line (codes "order") (length plan.order) ∷ (map task_line plan.order ++ after_order plan))

lines-are : (plan : BoundedPlanValue) → bounded_plan_lines plan ≡ all_lines plan
lines-are plan =
    ap (λ (lines : List (List (List ℕ))).
    (codes "plan" ∷ codes "3" ∷ []) ∷ (section_line (codes "order") (length plan.order) ∷ lines))
    (append_assoc (map task_line plan.order) (section_line (codes "peak") plan.peak ∷ []) (bound_lines plan.bound plan.evidence))

all-lead : AreLaws → (plan : BoundedPlanValue) → IsBoundedPlan plan → Leads nothing (numbered_from 1 (all_lines plan)) (whole plan)
unfolding Leads after_word
all-lead laws plan is =
    let few = is.few_tasks in
    let count : number_of (decimal (length plan.order)) ≡ Some (length plan.order) = laws.value (length plan.order) (omega arith) in
    let lines = order-leads laws begun (length plan.order) [] plan.order (after_order plan) (whole plan) is.tasks (omega arith)
    (after_order-leads laws plan is) (1 + 1 + 1) in
    rw (count, le-leb (length plan.order) most_tasks is.few_tasks) (refl, (refl, lines))

-- ---- what they state

record IsAfter (s : Stated) (blockers : List BlockerValue) (t : Stated) : Type 0 where
  stage : t.stage ≡ stages.Ended
  sort : t.sort ≡ s.sort
  order : t.order ≡ s.order
  peak : t.peak ≡ s.peak
  bound : t.bound ≡ s.bound
  base : t.base ≡ s.base
  blockers_are : t.blockers ≡ blockers

after-is : (s : Stated) (bs : List BlockerValue) → IsAfter s (blockers_at s.stage s ++ bs) (after_blockers s bs)
unfolding after_blockers
after-is s [] = record {
  stage = refl;
  sort = refl;
  order = refl;
  peak = refl;
  bound = refl;
  base = refl;
  blockers_are = sym (append-nil (blockers_at s.stage s));
}
after-is s (b ∷ bs) =
    let rest = after-is (put_own s b b.amounts) bs in
    record {
      stage = rest.stage;
      sort = rest.sort;
      order = rest.order;
      peak = rest.peak;
      bound = rest.bound;
      base = rest.base;
      blockers_are = rest.blockers_are ∙ append_assoc (blockers_at s.stage s) (b ∷ []) bs;
    }

abbrev of_parts : Stated → BoundEvidence → BoundedPlanValue
of_parts s evidence = record { order = s.order; peak = s.peak; bound = s.bound; evidence = evidence }

set-stated : (event : Event) (s t : Stated) (bs : List BlockerValue) → s.sort ≡ sort_of event → IsAfter s bs t
    → plan_stated t ≡ of_parts s (Sums (Set (record { event = event; base = s.base; blockers = bs })))
set-stated events.First s t bs sort is = rw (is.sort ∙ sort, is.order, is.peak, is.bound, is.base, is.blockers_are) refl
set-stated events.Last s t bs sort is = rw (is.sort ∙ sort, is.order, is.peak, is.bound, is.base, is.blockers_are) refl

done-stated : (s : Stated) (evidence : BoundEvidence) → IsWithin evidence → s.blockers ≡ []
    → plan_stated (done s evidence) ≡ of_parts s evidence
done-stated s (Sums Start) is none = refl
done-stated s (Sums (Need task)) is none =
    let some : eqb task 0 ≡ false = ne_eqb task 0 (λ (z : task ≡ 0). omega (arith, is.0, z)) in
    rw some refl
done-stated s (Sums (Set set)) is none =
    let at : Stated = at_base (at_section s (sort_of set.event) (length set.blockers)) (length set.base) set.base in
    set-stated set.event at (done_set s set.event set) (s.blockers ++ set.blockers) refl (after-is at set.blockers)
    ∙ ap (λ (before : List BlockerValue).
    of_parts s (Sums (Set (record { event = set.event; base = set.base; blockers = before ++ set.blockers })))) none
done-stated s (Claims claims) is none = refl
done-stated s (States most) is none = refl

done-ended : (s : Stated) (evidence : BoundEvidence) (past : ℕ) → first_failure (end_tests_after (done s evidence) past) ≡ None
done-ended s (Sums Start) past = refl
done-ended s (Sums (Need task)) past = refl
done-ended s (Sums (Set set)) past =
    let at : Stated = at_base (at_section s (sort_of set.event) (length set.blockers)) (length set.base) set.base in
    let is = after-is at set.blockers in
    rw is.stage refl
done-ended s (Claims claims) past = refl
done-ended s (States most) past = refl

-- ---- the lines count

dir-token : (d : Direction) → IsTrue (is_token (dir_word d))
dir-token Forward = refl
dir-token Backward = refl

-- no blocker has more amounts than all have together
abbrev HasFewAmounts : BlockerValue → Type 0
HasFewAmounts b = length b.amounts ≤ most_positions

each-few : (bs : List BlockerValue) → sum_by own_count bs ≤ most_positions → All HasFewAmounts bs
each-few [] few = All-nil HasFewAmounts
each-few (b ∷ bs) few =
    let sum = sum_by-cons own_count b bs in
    All-cons HasFewAmounts b bs (omega arith) (each-few bs (omega arith))

module _ (laws : AreLaws) where
  tasks-counted : (xs : List ℕ) → All (λ v. v ≤ most_number) xs → list_all (is_counted Commented) (map task_line xs) ≡ true
  tasks-counted [] small = refl
  tasks-counted (x ∷ xs) small =
      let le = All-head (λ (v : ℕ). v ≤ most_number) x xs small in
      and_from _ _ (laws.counted Commented x [] (omega arith) refl)
      (tasks-counted xs (All-tail (λ (v : ℕ). v ≤ most_number) x xs small))

  claims-counted : (cs : List Claim) → All IsClaimWithin cs → list_all (is_counted Commented) (map claim_line cs) ≡ true
  claims-counted [] within = refl
  claims-counted (c ∷ cs) within =
      let here = All-head IsClaimWithin c cs within in
      let rest = laws.token c.rest (let le = here.rest in omega arith) in
      let others = and_from _ _ (dir-token c.dir)
      (and_from _ _ (laws.signed_token c.bound (bound-fits c.bound here.bound)) (and_from _ _ rest refl)) in
      and_from _ _
      (laws.counted Commented c.position (dir_word c.dir ∷ signed_decimal c.bound ∷ decimal c.rest ∷ [])
      (let le = here.position in omega arith) others)
      (claims-counted cs (All-tail IsClaimWithin c cs within))

  amounts-counted : (xs : List Amount) → All (IsAmount most_number) xs → list_all (is_counted Commented) (map amount_line xs) ≡ true
  amounts-counted [] within = refl
  amounts-counted (x ∷ xs) within =
      let here = All-head (IsAmount most_number) x xs within in
      let other = and_from _ _ (laws.signed_token x.amount (bound-fits x.amount here.amount)) refl in
      and_from _ _ (laws.counted Commented x.place (signed_decimal x.amount ∷ []) (let le = here.within in omega arith) other)
      (amounts-counted xs (All-tail (IsAmount most_number) x xs within))

  -- the line counts, and some lines after it do
  with-section : (word : List ℕ) (n : ℕ) (rest : List (List (List ℕ))) → is_counted Commented (section_line word n) ≡ true
      → list_all (is_counted Commented) rest ≡ true → list_all (is_counted Commented) (section_line word n ∷ rest) ≡ true
  with-section word n rest first others = and_from _ _ first others

  with-lines : (xs ys : List (List (List ℕ))) → list_all (is_counted Commented) xs ≡ true → list_all (is_counted Commented) ys ≡ true
      → list_all (is_counted Commented) (xs ++ ys) ≡ true
  with-lines xs ys first others = list_all-append (is_counted Commented) xs ys ∙ and_from _ _ first others

  blockers-counted : (bs : List BlockerValue) → All IsBlockerWithin bs → All HasFewAmounts bs
      → list_all (is_counted Commented) (flat_map blocker_lines bs) ≡ true
  blockers-counted [] within few = refl
  blockers-counted (b ∷ bs) within few =
      let here = All-head IsBlockerWithin b bs within in
      let fits = All-head HasFewAmounts b bs few in
      let task = laws.token b.task (let le = here.task in omega arith) in
      let count = laws.token (length b.amounts) (omega arith) in
      let first : is_counted Commented (blocker_line b) ≡ true =
      and_from _ _ (and_from _ _ refl (and_from _ _ task (and_from _ _ count refl))) refl in
      with-lines (blocker_lines b) (flat_map blocker_lines bs)
      (and_from _ _ first (amounts-counted b.amounts here.amounts.each))
      (blockers-counted bs (All-tail IsBlockerWithin b bs within) (All-tail HasFewAmounts b bs few))

  event-counted : (event : Event) (n : ℕ) → n ≤ most_tasks → is_counted Commented (section_line (event_word event) n) ≡ true
  event-counted events.First n few = section_counted laws (codes "first") n refl refl (omega arith)
  event-counted events.Last n few = section_counted laws (codes "last") n refl refl (omega arith)

  evidence-counted : (evidence : BoundEvidence) → IsWithin evidence → list_all (is_counted Commented) (evidence_lines evidence) ≡ true
  evidence-counted (Sums Start) is = and_from _ _ (section_counted laws (codes "need") 0 refl refl (omega arith)) refl
  evidence-counted (Sums (Need task)) is = and_from _ _ (section_counted laws (codes "need") task refl refl (omega arith)) refl
  evidence-counted (Sums (Set set)) is =
      let few = is.few_amounts in
      and_from _ _ (event-counted set.event (length set.blockers) is.few)
      (and_from _ _ (section_counted laws (codes "base") (length set.base) refl refl (omega arith))
      (with-lines (map amount_line set.base) (flat_map blocker_lines set.blockers) (amounts-counted set.base is.base.each)
      (blockers-counted set.blockers is.blockers (each-few set.blockers (omega arith)))))
  evidence-counted (Claims claims) is =
      let few = is.few in
      and_from _ _ (section_counted laws (codes "claims") (length claims) refl refl (omega arith)) (claims-counted claims is.each)
  evidence-counted (States most) is =
      let few : most ≤ most_number = is in
      and_from _ _ (section_counted laws (codes "states") most refl refl (omega arith)) refl

  lines-counted : (plan : BoundedPlanValue) → IsBoundedPlan plan → list_all (is_counted Commented) (all_lines plan) ≡ true
  lines-counted plan is =
      let few = is.few_tasks in
      let peak = is.peak in
      let bound = is.bound in
      let ended = with-lines (evidence_lines plan.evidence) (end_line ∷ []) (evidence-counted plan.evidence is.evidence) refl in
      let rest = and_from _ _ (section_counted laws (codes "peak") plan.peak refl refl (omega arith))
      (and_from _ _ (section_counted laws (codes "bound") plan.bound refl refl (omega arith)) ended) in
      and_from _ _ refl (and_from _ _ (section_counted laws (codes "order") (length plan.order) refl refl (omega arith))
      (with-lines (map task_line plan.order) (after_order plan) (tasks-counted plan.order is.tasks) rest))

-- ---- the whole file

pub bounded_plan_text-reads : AreLaws → (plan : BoundedPlanValue) → IsBoundedPlan plan → ReadsBoundedPlan (bounded_plan_text plan) plan
unfolding stated
bounded_plan_text-reads laws plan is =
    let text = bounded_plan_text plan in
    let lines = all_lines plan in
    let rows = numbered_from 1 lines in
    let same = lines-are plan in
    let read : rows_of_bytes Commented text ≡ rows =
    subst (λ (ls : List (List (List ℕ))). rows_of_bytes Commented (text_of_lines ls) ≡ rows) (sym same)
    (laws.rows Commented lines (lines-counted laws plan is)) in
    let leads : Leads (stated []) rows (whole plan) = all-lead laws plan is in
    let stated_is : stated (rows_of_bytes Commented text) ≡ whole plan = ap stated read ∙ leads-stated [] rows (whole plan) leads in
    let begun_at : Stated = at_bound (at_peak (ordered plan) plan.peak) plan.bound in
    record {
      form = record {
        lines = subst (ArePassed bounded_plan_format) (sym read) (leads-passed [] rows (whole plan) leads);
        end = subst (λ (s : Stated). first_failure (end_tests_after s (past_of_bytes text)) ≡ None)
            (sym stated_is) (done-ended begun_at plan.evidence (past_of_bytes text));
      };
      stated = sym (ap plan_stated stated_is ∙ done-stated begun_at plan.evidence is.evidence refl);
    }
