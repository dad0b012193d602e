-- A printed plan is read as it was.
use Rattle.std.proofs.Common.{◌≡◌, ℕ, ◌+◌, ◌≤◌, inl, inr, true, false, cond, ◌||◌, eqb, ltb, List, [], ◌∷◌, ◌++◌, length, map, refl}
use Rattle.std.proofs.Common.{sym, ap, subst, ◌∙◌, arith, ℤ, unsigned_abs, Some, None, append_assoc, append-nil, length-append}
use Rattle.std.specs.Bool.{IsTrue}
use Rattle.std.specs.Fmt.{decimal, signed_decimal}
use Rattle.std.specs.Prelude.{FitsSigned, codes}
use Rattle.std.specs.Int.{w64}
use Rattle.std.specs.List.{All, list_all}
use Rattle.std.proofs.lemmas.Bool.{and_from, or_right, le-leb, lt-ltb, le-ltb, eq-eqb}
use Rattle.std.proofs.lemmas.Int.{fits_signed_from_abs}
use Rattle.std.proofs.lemmas.List.Elements.{All-head, All-tail}
use Rattle.std.proofs.lemmas.List.Folds.{list_all-append}
use Rattle.std.proofs.lemmas.List.Sums.{sum_by-append}
use Rattle.limits.specs.Limits.{most_tasks, most_positions, most_total}
use Rattle.mp_text.specs.declared.layout.Layout.TheVariants.{Commented}
use Rattle.file_frame.specs.declared.version.Version.{Version}
use Rattle.file_frame.specs.declared.version.Version.TheVariants.{One, Two}
use Rattle.mp_text.specs.Text.{Row, number_of, signed_of}
use Rattle.file_frame.specs.Words.{after_word, version_of}
use Rattle.mp_text.specs.Ahead.{rows_of_bytes, past_of_bytes}
use Rattle.mp_text.specs.Grammar.{first_failure, ArePassed}
use Rattle.mp_text.specs.Report.{is_counted, numbered_from, is_token}
use Rattle.permutations.specs.Perm.{IsVertex, times}
use Rattle.permutations.proofs.PlaceLemmas.{times-here}
use Rattle.plans.specs.Plan.{PlanValue, most_number, IsPlan, IsClaimWithin, RiseFrom, IsPriority}
use Rattle.plan_files.specs.PlanFile.{Stated, stated, nothing, plan_format, tests_after, plan_stated, end_tests_after}
use Rattle.plan_files.specs.PlanFile.{peak_tests, dir_named, last_position, ReadsPlan}
use Rattle.plan_files.specs.Printed.{task_line, claim_line, dir_word, task_lines, claim_lines, priority_lines, last_lines}
use Rattle.plan_files.specs.Printed.{plan_lines, plan_text_in, plan_version_for, plan_text, plan_text_2}
use Rattle.plan_files.specs.Reader.{next, peak_next}
use Rattle.plan_files.proofs.ReaderLaws.{stated_push, at_claims, at_peak, at_ranks, at_order}
use Rattle.plans.specs.declared.claim.Claim.{Claim}
use Rattle.plans.specs.declared.claim.Direction.{Direction}
use Rattle.plans.specs.declared.claim.Direction.TheVariants.{Forward, Backward}
use Rattle.plan_files.specs.declared.stage.Stage.TheVariants as stages
use Rattle.plan_files.proofs.FormLemmas.{last-rises}
use Rattle.file_frame.specs.Printed.{header_line, section_line, end_line}
use Rattle.file_frame.proofs.PrintedLaws.{AreLaws}
use Rattle.file_frame.proofs.LineLemmas.{section_counted}

-- ---- lines that pass, one after another

-- the lines pass, and lead from what is stated before them to what is stated after
Leads : Stated → List Row → Stated → Type 0
Leads s [] t = s ≡ t
Leads s (row ∷ rows) t = (first_failure (tests_after s row) ≡ None) × Leads (next s row) rows t

leads-stated : (before rows : List Row) (t : Stated) → Leads (stated before) rows t → stated (before ++ rows) ≡ t
unfolding Leads
leads-stated before [] t leads = ap stated (append-nil before) ∙ leads
leads-stated before (row ∷ rows) t leads =
    ap stated (sym (append_assoc before (row ∷ []) rows)) ∙ leads-stated (before ++ row ∷ []) rows t (rw (stated_push before row) leads.1)

leads-passed : (first rows : List Row) (t : Stated) → Leads (stated first) rows t
    → (before after : List Row) (row : Row) → rows ≡ before ++ row ∷ after
    → first_failure (tests_after (stated (first ++ before)) row) ≡ None
unfolding Leads
leads-passed first [] t leads [] after row e = absurd cc
leads-passed first [] t leads (b ∷ before) after row e = absurd cc
leads-passed first (r ∷ rows) t leads [] after row e =
    let same : r ≡ row = cc in
    rw (append-nil first, ← same) leads.0
leads-passed first (r ∷ rows) t leads (b ∷ before) after row e =
    let same : r ≡ b = cc in
    let tail : rows ≡ before ++ row ∷ after = cc in
    rw (← same, ← append_assoc first (r ∷ []) before)
    (leads-passed (first ++ r ∷ []) rows t (rw (stated_push first r) leads.1) before after row tail)

-- the lines from a number on lead there, whichever the number
abbrev LeadsOn : Stated → List (List (List ℕ)) → Stated → Type 0
LeadsOn s lines t = (n : ℕ) → Leads s (numbered_from n lines) t

-- ---- order lines

order-leads : AreLaws → (s : Stated) (count : ℕ) (before xs : List ℕ) (rest : List (List (List ℕ))) (t : Stated)
    → All (λ v. v ≤ most_number) xs → length before + length xs ≡ count
    → LeadsOn (at_order s count (before ++ xs)) rest t → LeadsOn (at_order s count before) (map task_line xs ++ rest) t
unfolding Leads
order-leads laws s count before [] rest t small full more n =
    subst (λ (ys : List ℕ). Leads (at_order s count ys) (numbered_from n rest) t) (append-nil before) (more n)
order-leads laws s count before (x ∷ xs) rest t small full more n =
    let le : x ≤ most_number = All-head (λ (v : ℕ). v ≤ most_number) x xs small in
    let open_yet : ltb (length before) count ≡ true = lt-ltb _ _ (omega arith) in
    let number : number_of (decimal x) ≡ Some x = laws.value x (omega arith) in
    let tail = order-leads laws s count (before ++ x ∷ []) xs rest t
    (All-tail (λ (v : ℕ). v ≤ most_number) x xs small) (omega (arith, length-append before (x ∷ [])))
    (subst (λ (ys : List ℕ). LeadsOn (at_order s count ys) rest t) (sym (append_assoc before (x ∷ []) xs)) more) (n + 1) in
    rw (open_yet, number, le-leb x most_number le) (refl, tail)

-- ---- priority lines

at_place : (P : ℕ → Type 0) (before : List ℕ) (x : ℕ) (xs : List ℕ) → All P (before ++ x ∷ xs) → P x
at_place P [] x xs all = All-head P x xs all
at_place P (b ∷ before) x xs all = at_place P before x xs (All-tail P b (before ++ x ∷ xs) all)

-- a task that stands once in a list, at a place, does not stand before it
times-before : (before : List ℕ) (x : ℕ) (xs : List ℕ) → times (before ++ x ∷ xs) x ≡ 1 → times before x ≡ 0
times-before before x xs once = omega (arith, sum_by-append (λ y. cond (eqb y x) 1 0) before (x ∷ xs), times-here x x xs refl, once)

ranks-lead : AreLaws → (s : Stated) (all before xs : List ℕ) (rest : List (List (List ℕ))) (t : Stated)
    → s.count ≤ most_tasks → IsPriority s.count all → all ≡ before ++ xs
    → LeadsOn (at_ranks s (length all) all) rest t → LeadsOn (at_ranks s (length all) before) (map task_line xs ++ rest) t
unfolding Leads
ranks-lead laws s all before [] rest t few ranked e more n =
    subst (λ (ys : List ℕ). Leads (at_ranks s (length all) ys) (numbered_from n rest) t) (e ∙ append-nil before) (more n)
ranks-lead laws s all before (x ∷ xs) rest t few (inl none) e more n =
    absurd (omega (arith, ap length none, ap length e, length-append before (x ∷ xs)))
ranks-lead laws s all before (x ∷ xs) rest t few (inr ranks) e more n =
    let task = at_place (IsVertex s.count) before x xs (subst (All (IsVertex s.count)) e ranks.vertices) in
    let fresh : times before x ≡ 0 = times-before before x xs (ap (λ (ys : List ℕ). times ys x) (sym e) ∙ ranks.once x task) in
    let open_yet : ltb (length before) (length all) ≡ true = lt-ltb _ _ (omega (arith, ap length e, length-append before (x ∷ xs))) in
    let above = task.1 in
    let number : number_of (decimal x) ≡ Some x = laws.value x (omega arith) in
    let tail =
    ranks-lead laws s all (before ++ x ∷ []) xs rest t few (inr ranks) (e ∙ sym (append_assoc before (x ∷ []) xs)) more (n + 1) in
    rw (open_yet, number, le-leb 1 x task.0, le-leb x s.count task.1, eq-eqb (times before x) 0 fresh) (refl, tail)

-- a priority is not longer than the order, and what its section states passes
priority-fits : (n : ℕ) (xs : List ℕ) → IsPriority n xs → (length xs ≤ n) × ((eqb (length xs) 0 || eqb (length xs) n) ≡ true)
priority-fits n xs (inl none) = rw none (omega arith, refl)
priority-fits n xs (inr ranks) = let len = ranks.len in (omega arith, or_right _ _ (eq-eqb (length xs) n len))

-- ---- claim lines

pub dir-reads : (d : Direction) → dir_named (dir_word d) ≡ Some d
unfolding dir_named
dir-reads Forward = refl
dir-reads Backward = refl

pub bound-fits : (z : ℤ) → unsigned_abs z ≤ most_total → FitsSigned w64 z
bound-fits z le = fits_signed_from_abs w64 z (omega arith)

claims-lead : AreLaws → (s : Stated) (count : ℕ) (before cs : List Claim) (rest : List (List (List ℕ))) (t : Stated)
    → All IsClaimWithin cs → RiseFrom 0 (before ++ cs) → length before + length cs ≡ count
    → LeadsOn (at_claims s count (before ++ cs)) rest t → LeadsOn (at_claims s count before) (map claim_line cs ++ rest) t
unfolding Leads
claims-lead laws s count before [] rest t within rise full more n =
    subst (λ (ys : List Claim). Leads (at_claims s count ys) (numbered_from n rest) t) (append-nil before) (more n)
claims-lead laws s count before (c ∷ cs) rest t within rise full more n =
    let here = All-head IsClaimWithin c cs within in
    let open_yet : ltb (length before) count ≡ true = lt-ltb _ _ (omega arith) in
    let position : number_of (decimal c.position) ≡ Some c.position = laws.value c.position (let le = here.position in omega arith) in
    let rest_is : number_of (decimal c.rest) ≡ Some c.rest = laws.value c.rest (let le = here.rest in omega arith) in
    let bound : signed_of (signed_decimal c.bound) ≡ Some c.bound = laws.signed_value c.bound (bound-fits c.bound here.bound) in
    let dir : dir_named (dir_word c.dir) ≡ Some c.dir = dir-reads c.dir in
    let rises = lt-ltb (last_position before) c.position (last-rises before c cs rise) in
    let tail = claims-lead laws s count (before ++ c ∷ []) cs rest t (All-tail IsClaimWithin c cs within)
    (subst (RiseFrom 0) (sym (append_assoc before (c ∷ []) cs)) rise) (omega (arith, length-append before (c ∷ [])))
    (subst (λ (ys : List Claim). LeadsOn (at_claims s count ys) rest t) (sym (append_assoc before (c ∷ []) cs)) more) (n + 1) in
    rw (
      open_yet,
      position,
      rest_is,
      bound,
      dir,
      le-leb c.position most_number here.position,
      le-leb (unsigned_abs c.bound) most_total here.bound,
      le-leb c.rest most_total here.rest,
      rises,
    ) (refl, tail)

-- ---- the last lines

-- after these lines `peak P` comes next
IsBeforePeak : Stated → Type 0
IsBeforePeak s = (row : Row) → (tests_after s row ≡ peak_tests row) × (next s row ≡ peak_next s row)

abbrev done : Stated → PlanValue → Stated
done s plan = record s { stage = stages.Ended; count = length plan.claims; peak = plan.peak; claims = plan.claims }

last-leads : AreLaws → (s : Stated) (plan : PlanValue) → IsPlan plan
    → s.claims ≡ [] → IsBeforePeak s → LeadsOn s (last_lines plan) (done s plan)
unfolding Leads IsBeforePeak after_word
last-leads laws s plan is fresh before n =
    let peak_row : Row = record { number = n; tokens = section_line (codes "peak") plan.peak } in
    let peak : number_of (decimal plan.peak) ≡ Some plan.peak = laws.value plan.peak (let le = is.peak in omega arith) in
    let count : number_of (decimal (length plan.claims)) ≡ Some (length plan.claims) =
    laws.value (length plan.claims) (let le = is.few_claims in omega arith) in
    let full : ltb (length plan.claims) (length plan.claims) ≡ false = le-ltb _ _ (omega arith) in
    let ends : LeadsOn (at_claims (at_peak s plan.peak) (length plan.claims) plan.claims) (end_line ∷ []) (done s plan) =
    λ m. rw full (refl, refl) in
    let claims = claims-lead laws (at_peak s plan.peak) (length plan.claims) [] plan.claims
    (end_line ∷ []) (done s plan) is.claims is.rising (omega arith) ends (n + 1 + 1) in
    rw (
      (before peak_row).0,
      (before peak_row).1,
      peak,
      le-leb plan.peak most_total is.peak,
      count,
      le-leb (length plan.claims) most_positions is.few_claims,
      fresh,
    ) (refl, (refl, claims))

-- ---- all lines

abbrev begun : Version → Stated
begun version = record nothing { stage = stages.OrderSection; version = version }

abbrev ordered : Version → PlanValue → Stated
ordered version plan = at_order (begun version) (length plan.order) plan.order

-- what is stated by all lines
abbrev whole : Version → PlanValue → Stated
whole One plan = done (ordered One plan) plan
whole Two plan = done (at_ranks (ordered Two plan) (length plan.priority) plan.priority) plan

ordered-before : (plan : PlanValue) → IsBeforePeak (ordered One plan)
unfolding IsBeforePeak
ordered-before plan row =
    let full : ltb (length plan.order) (length plan.order) ≡ false = le-ltb _ _ (omega arith) in
    rw full (refl, refl)

ranked-before : (s : Stated) (priority : List ℕ) → IsBeforePeak (at_ranks s (length priority) priority)
unfolding IsBeforePeak
ranked-before s priority row =
    let full : ltb (length priority) (length priority) ≡ false = le-ltb _ _ (omega arith) in
    rw full (refl, refl)

module _ (laws : AreLaws) (plan : PlanValue) (is : IsPlan plan) where
  -- the priority, if it is printed
  priority-leads : LeadsOn (ordered Two plan) (priority_lines Two plan.priority ++ last_lines plan) (whole Two plan)
  unfolding Leads after_word
  priority-leads n =
      let few = is.few_tasks in
      let fits = priority-fits (length plan.order) plan.priority is.priority in
      let short = fits.0 in
      let full : ltb (length plan.order) (length plan.order) ≡ false = le-ltb _ _ (omega arith) in
      let count : number_of (decimal (length plan.priority)) ≡ Some (length plan.priority) =
      laws.value (length plan.priority) (omega arith) in
      let last = last-leads laws (at_ranks (ordered Two plan) (length plan.priority) plan.priority) plan is refl
      (ranked-before (ordered Two plan) plan.priority) in
      let lines = ranks-lead laws (ordered Two plan) plan.priority [] plan.priority
      (last_lines plan) (whole Two plan) is.few_tasks is.priority refl last (n + 1) in
      rw (full, count, fits.1) (refl, lines)

  after_order-leads : (v : Version) → LeadsOn (ordered v plan) (priority_lines v plan.priority ++ last_lines plan) (whole v plan)
  after_order-leads One = last-leads laws (ordered One plan) plan is refl (ordered-before plan)
  after_order-leads Two = priority-leads

  section-leads : (v : Version)
      → LeadsOn (begun v) (task_lines (codes "order") plan.order ++ (priority_lines v plan.priority ++ last_lines plan)) (whole v plan)
  unfolding Leads after_word
  section-leads v n =
      let few = is.few_tasks in
      let count : number_of (decimal (length plan.order)) ≡ Some (length plan.order) = laws.value (length plan.order) (omega arith) in
      let lines = order-leads laws (begun v) (length plan.order) [] plan.order
      (priority_lines v plan.priority ++ last_lines plan) (whole v plan) is.tasks (omega arith) (after_order-leads v) (n + 1) in
      rw (count, le-leb (length plan.order) most_tasks is.few_tasks) (refl, lines)

  all-lead : (v : Version) → Leads nothing (numbered_from 1 (plan_lines v plan)) (whole v plan)
  unfolding Leads after_word version_of
  all-lead One = (refl, section-leads One (1 + 1))
  all-lead Two = (refl, section-leads Two (1 + 1))

-- ---- the lines count

dir-token : (d : Direction) → IsTrue (is_token (dir_word d))
dir-token Forward = refl
dir-token Backward = refl

module _ (laws : AreLaws) where
  tasks-counted : (xs : List ℕ) → All (λ v. v ≤ most_number) xs → list_all (is_counted Commented) (map task_line xs) ≡ true
  tasks-counted [] small = refl
  tasks-counted (x ∷ xs) small =
      let le : x ≤ most_number = All-head (λ (v : ℕ). v ≤ most_number) x xs small in
      and_from _ _ (laws.counted Commented x [] (omega arith) refl) (tasks-counted xs (All-tail (λ (v : ℕ). v ≤ most_number) x xs small))

  claims-counted : (cs : List Claim) → All IsClaimWithin cs → list_all (is_counted Commented) (map claim_line cs) ≡ true
  claims-counted [] within = refl
  claims-counted (c ∷ cs) within =
      let here = All-head IsClaimWithin c cs within in
      let rest = laws.token c.rest (let le = here.rest in omega arith) in
      let others = and_from _ _ (dir-token c.dir)
      (and_from _ _ (laws.signed_token c.bound (bound-fits c.bound here.bound)) (and_from _ _ rest refl)) in
      and_from _ _
      (laws.counted Commented c.position (dir_word c.dir ∷ signed_decimal c.bound ∷ decimal c.rest ∷ [])
      (let le = here.position in omega arith) others)
      (claims-counted cs (All-tail IsClaimWithin c cs within))

  header-counted : (v : Version) → is_counted Commented (header_line (codes "plan") v) ≡ true
  header-counted One = refl
  header-counted Two = refl

  priority-counted : (v : Version) (n : ℕ) (priority : List ℕ) → n ≤ most_tasks
      → IsPriority n priority → list_all (is_counted Commented) (priority_lines v priority) ≡ true
  priority-counted One n priority few ranked = refl
  priority-counted Two n priority few (inl none) =
      rw none (and_from _ _ (section_counted laws (codes "priority") 0 refl refl (omega arith)) refl)
  priority-counted Two n priority few (inr ranks) =
      let len = ranks.len in
      and_from _ _ (section_counted laws (codes "priority") (length priority) refl refl (omega arith))
      (tasks-counted priority (λ i d lt. let task = ranks.vertices i d lt in let le = task.1 in omega arith))

  lines-counted : (v : Version) (plan : PlanValue) → IsPlan plan → list_all (is_counted Commented) (plan_lines v plan) ≡ true
  lines-counted v plan is =
      let few = is.few_tasks in
      let few_claims = is.few_claims in
      let peak = is.peak in
      let order = and_from _ _ (section_counted laws (codes "order") (length plan.order) refl refl (omega arith))
      (tasks-counted plan.order is.tasks) in
      let claims = and_from _ _ (section_counted laws (codes "claims") (length plan.claims) refl refl (omega arith))
      (claims-counted plan.claims is.claims) in
      let last : list_all (is_counted Commented) (last_lines plan) ≡ true =
      and_from _ _ (section_counted laws (codes "peak") plan.peak refl refl (omega arith))
      (list_all-append (is_counted Commented) (claim_lines plan.claims) (end_line ∷ []) ∙ and_from _ _ claims refl) in
      and_from _ _ (header-counted v)
      (list_all-append (is_counted Commented) (task_lines (codes "order") plan.order) (priority_lines v plan.priority ++ last_lines plan)
      ∙ and_from _ _ order (list_all-append (is_counted Commented) (priority_lines v plan.priority) (last_lines plan)
      ∙ and_from _ _ (priority-counted v (length plan.order) plan.priority is.few_tasks is.priority) last))

-- ---- the whole file

whole-plan : (v : Version) (plan : PlanValue) → (v ≡ One → plan.priority ≡ []) → plan_stated (whole v plan) ≡ plan
whole-plan One plan none = ap (λ (xs : List ℕ). record plan { priority = xs }) (sym (none refl))
whole-plan Two plan none = refl

whole-ended : (v : Version) (plan : PlanValue) (past : ℕ) → first_failure (end_tests_after (whole v plan) past) ≡ None
whole-ended One plan past = refl
whole-ended Two plan past = refl

printed-reads : AreLaws → (v : Version) (plan : PlanValue) → IsPlan plan
    → (v ≡ One → plan.priority ≡ []) → ReadsPlan (plan_text_in v plan) plan
unfolding stated
printed-reads laws v plan is none =
    let text = plan_text_in v plan in
    let rows = numbered_from 1 (plan_lines v plan) in
    let read : rows_of_bytes Commented text ≡ rows = laws.rows Commented (plan_lines v plan) (lines-counted laws v plan is) in
    let leads : Leads (stated []) rows (whole v plan) = all-lead laws plan is v in
    let stated_is : stated (rows_of_bytes Commented text) ≡ whole v plan = ap stated read ∙ leads-stated [] rows (whole v plan) leads in
    record {
      form = record {
        lines = subst (ArePassed plan_format) (sym read) (leads-passed [] rows (whole v plan) leads);
        end = subst (λ (s : Stated). first_failure (end_tests_after s (past_of_bytes text)) ≡ None)
            (sym stated_is) (whole-ended v plan (past_of_bytes text));
      };
      stated = sym (ap plan_stated stated_is ∙ whole-plan v plan none);
    }

-- ---- both versions

unranked : (priority : List ℕ) → plan_version_for priority ≡ One → priority ≡ []
unranked [] e = refl
unranked (x ∷ xs) e = absurd cc

pub plan_text-reads : AreLaws → (plan : PlanValue) → IsPlan plan → ReadsPlan (plan_text plan) plan
plan_text-reads laws plan is = printed-reads laws (plan_version_for plan.priority) plan is (unranked plan.priority)

pub plan_text_2-reads : AreLaws → (plan : PlanValue) → IsPlan plan → ReadsPlan (plan_text_2 plan) plan
plan_text_2-reads laws plan is = printed-reads laws Two plan is (λ never. absurd cc)
