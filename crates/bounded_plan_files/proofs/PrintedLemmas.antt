-- A printed plan of version 3 is read as it was: its lines pass, one after another, and state it.
use Rattle.std.proofs.Common.{◌≡◌, ℕ, ◌+◌, ◌-◌, ◌<◌, ◌≤◌, true, false, ltb, List, [], ◌∷◌, ◌++◌, length, map, get_or, refl}
use Rattle.std.proofs.Common.{sym, ap, subst, ◌∙◌, arith, unsigned_abs, Some, None, append_assoc, append-nil, length-append}
use Rattle.std.specs.Fmt.{decimal, signed_decimal}
use Rattle.std.specs.Prelude.{codes}
use Rattle.std.specs.List.{All, sum_by, flat_map}
use Rattle.std.specs.List.Sorted.{IsStrictlyIncreasing}
use Rattle.std.proofs.lemmas.Bool.{le-leb, lt-ltb, le-ltb}
use Rattle.std.proofs.lemmas.List.{length-map, get_or_append_left, get_or_at}
use Rattle.std.proofs.lemmas.List.Elements.{All-head, All-tail}
use Rattle.std.proofs.lemmas.List.Sums.{sum_by-cons}
use Rattle.limits.specs.Limits.{most_positions, most_total}
use Rattle.mp_text.specs.Text.{Row, number_of, signed_of}
use Rattle.mp_text.specs.Grammar.{first_failure}
use Rattle.mp_text.specs.Report.{numbered_from}
use Rattle.file_frame.specs.Words.{after_word}
use Rattle.file_frame.specs.Printed.{section_line, end_line}
use Rattle.file_frame.proofs.PrintedLaws.{AreLaws}
use Rattle.plans.specs.Plan.{most_number, IsClaimWithin, RiseFrom}
use Rattle.plans.specs.declared.claim.Claim.{Claim}
use Rattle.plan_files.specs.PlanFile.{dir_named, last_position}
use Rattle.plan_files.specs.Printed.{task_line, claim_line, dir_word}
use Rattle.plan_files.proofs.FormLemmas.{last-rises}
use Rattle.plan_files.proofs.PrintedLemmas.{bound-fits, dir-reads}
use Rattle.peak_bounds.specs.declared.evidence.Amount.{Amount}
use Rattle.peak_bounds.specs.EventSets.{BlockerValue, EventSetValue}
use Rattle.peak_bounds.specs.Evidence.{IsAmount, AreAmounts, place_of}
use Rattle.peak_bounds.proofs.Told.{no_amount, place_at}
use Rattle.bounded_plans.specs.BoundedPlan.{own_count, IsBlockerWithin, IsSetWithin}
use Rattle.bounded_plan_files.specs.BoundedPlanFile.{Stated, stated, tests_after, tests_after_amounts, amount_tests, amount_on, last_place, blockers_at}
use Rattle.bounded_plan_files.specs.Printed.{amount_line, blocker_line, blocker_lines}
use Rattle.bounded_plan_files.specs.Reader.{next, after_amounts, set_ended}
use Rattle.bounded_plan_files.specs.declared.sort.Sort.{Sort}
use Rattle.bounded_plan_files.specs.declared.stage.Stage.TheVariants as stages
use Rattle.bounded_plan_files.proofs.ReaderLaws.{stated_push, some_left, at_claims, at_base, at_section, at_order}

-- ---- lines that pass, one after another

-- the lines pass, and lead from what is stated before them to what is stated after
unfoldable pub Leads : Stated → List Row → Stated → Type 0
Leads s [] t = s ≡ t
Leads s (row ∷ rows) t = (first_failure (tests_after s row) ≡ None) × Leads (next s row) rows t

pub leads-stated : (before rows : List Row) (t : Stated) → Leads (stated before) rows t → stated (before ++ rows) ≡ t
unfolding Leads
leads-stated before [] t leads = ap stated (append-nil before) ∙ leads
leads-stated before (row ∷ rows) t leads =
    ap stated (sym (append_assoc before (row ∷ []) rows)) ∙ leads-stated (before ++ row ∷ []) rows t (rw (stated_push before row) leads.1)

pub leads-passed : (first rows : List Row) (t : Stated) → Leads (stated first) rows t
    → (before after : List Row) (row : Row) → rows ≡ before ++ row ∷ after
    → first_failure (tests_after (stated (first ++ before)) row) ≡ None
unfolding Leads
leads-passed first [] t leads [] after row e = absurd cc
leads-passed first [] t leads (b ∷ before) after row e = absurd cc
leads-passed first (r ∷ rows) t leads [] after row e =
    let same : r ≡ row = cc in
    rw (append-nil first, ← same) leads.0
leads-passed first (r ∷ rows) t leads (b ∷ before) after row e =
    let same : r ≡ b = cc in
    let tail : rows ≡ before ++ row ∷ after = cc in
    rw (← same, ← append_assoc first (r ∷ []) before)
    (leads-passed (first ++ r ∷ []) rows t (rw (stated_push first r) leads.1) before after row tail)

-- the lines from a number on lead there, whichever the number
abbrev pub LeadsOn : Stated → List (List (List ℕ)) → Stated → Type 0
LeadsOn s lines t = (n : ℕ) → Leads s (numbered_from n lines) t

-- ---- order lines

pub order-leads : AreLaws → (s : Stated) (count : ℕ) (before xs : List ℕ) (rest : List (List (List ℕ))) (t : Stated)
    → All (λ v. v ≤ most_number) xs → length before + length xs ≡ count
    → LeadsOn (at_order s count (before ++ xs)) rest t → LeadsOn (at_order s count before) (map task_line xs ++ rest) t
unfolding Leads
order-leads laws s count before [] rest t small full more n =
    subst (λ (ys : List ℕ). Leads (at_order s count ys) (numbered_from n rest) t) (append-nil before) (more n)
order-leads laws s count before (x ∷ xs) rest t small full more n =
    let le : x ≤ most_number = All-head (λ (v : ℕ). v ≤ most_number) x xs small in
    let open_yet : ltb (length before) count ≡ true = lt-ltb _ _ (omega arith) in
    let number : number_of (decimal x) ≡ Some x = laws.value x (omega arith) in
    let tail = order-leads laws s count (before ++ x ∷ []) xs rest t
    (All-tail (λ (v : ℕ). v ≤ most_number) x xs small) (omega (arith, length-append before (x ∷ [])))
    (subst (λ (ys : List ℕ). LeadsOn (at_order s count ys) rest t) (sym (append_assoc before (x ∷ []) xs)) more) (n + 1) in
    rw (open_yet, number, le-leb x most_number le) (refl, tail)

-- ---- claim lines

pub claims-lead : AreLaws → (s : Stated) (count : ℕ) (before cs : List Claim) (rest : List (List (List ℕ))) (t : Stated)
    → All IsClaimWithin cs → RiseFrom 0 (before ++ cs) → length before + length cs ≡ count
    → LeadsOn (at_claims s count (before ++ cs)) rest t → LeadsOn (at_claims s count before) (map claim_line cs ++ rest) t
unfolding Leads
claims-lead laws s count before [] rest t within rise full more n =
    subst (λ (ys : List Claim). Leads (at_claims s count ys) (numbered_from n rest) t) (append-nil before) (more n)
claims-lead laws s count before (c ∷ cs) rest t within rise full more n =
    let here = All-head IsClaimWithin c cs within in
    let open_yet : ltb (length before) count ≡ true = lt-ltb _ _ (omega arith) in
    let position : number_of (decimal c.position) ≡ Some c.position = laws.value c.position (let le = here.position in omega arith) in
    let rest_is : number_of (decimal c.rest) ≡ Some c.rest = laws.value c.rest (let le = here.rest in omega arith) in
    let bound : signed_of (signed_decimal c.bound) ≡ Some c.bound = laws.signed_value c.bound (bound-fits c.bound here.bound) in
    let dir : dir_named (dir_word c.dir) ≡ Some c.dir = dir-reads c.dir in
    let rises = lt-ltb (last_position before) c.position (last-rises before c cs rise) in
    let tail = claims-lead laws s count (before ++ c ∷ []) cs rest t (All-tail IsClaimWithin c cs within)
    (subst (RiseFrom 0) (sym (append_assoc before (c ∷ []) cs)) rise) (omega (arith, length-append before (c ∷ [])))
    (subst (λ (ys : List Claim). LeadsOn (at_claims s count ys) rest t) (sym (append_assoc before (c ∷ []) cs)) more) (n + 1) in
    rw (
      open_yet,
      position,
      rest_is,
      bound,
      dir,
      le-leb c.position most_number here.position,
      le-leb (unsigned_abs c.bound) most_total here.bound,
      le-leb c.rest most_total here.rest,
      rises,
    ) (refl, tail)

-- ---- lines of amounts

places-at : (before : List Amount) (a : Amount) (rest : List Amount) → IsStrictlyIncreasing (map place_of (before ++ a ∷ rest))
    → 1 ≤ a.place → last_place before < a.place
places-at [] a rest rising some = omega arith
places-at (b ∷ bs) a rest rising some =
    let all : List Amount = (b ∷ bs) ++ a ∷ rest in
    let k : ℕ = length bs in
    let place : Amount → ℕ = λ x. x.place in
    let long : length all ≡ length (b ∷ bs) + length (a ∷ rest) = length-append (b ∷ bs) (a ∷ rest) in
    let here = place_at all k (omega arith) in
    let after = place_at all (k + 1) (omega arith) in
    let here_is = ap place (get_or_append_left (b ∷ bs) (a ∷ rest) no_amount k (omega arith)) in
    let after_is = ap place (get_or_at (b ∷ bs) a rest no_amount (k + 1) (omega arith)) in
    let both = rising k (omega (arith, length-map all place_of)) in
    let at : k ≡ length (b ∷ bs) - 1 = omega arith in
    let last = ap (λ (j : ℕ). (get_or (b ∷ bs) j no_amount).place) at in
    omega (arith, both)

amount_at : (before : List Amount) (x : Amount) (xs : List Amount) → All (IsAmount most_number) (before ++ x ∷ xs) → IsAmount most_number x
amount_at [] x xs all = All-head (IsAmount most_number) x xs all
amount_at (b ∷ before) x xs all = amount_at before x xs (All-tail (IsAmount most_number) b (before ++ x ∷ xs) all)

-- amounts are put into a state, one after another, until there are so many
abbrev pub TakesAmounts : (List Amount → Stated) → ℕ → Type 0
TakesAmounts put count =
    (xs : List Amount) (row : Row) → ltb (length xs) count ≡ true
    → (tests_after (put xs) row ≡ amount_tests xs row) × (next (put xs) row ≡ put (xs ++ amount_on row ∷ []))

pub amounts-lead : AreLaws → (put : List Amount → Stated) (count : ℕ) (before xs : List Amount) (rest : List (List (List ℕ))) (t : Stated)
    → TakesAmounts put count → AreAmounts most_number (before ++ xs) → length before + length xs ≡ count
    → LeadsOn (put (before ++ xs)) rest t → LeadsOn (put before) (map amount_line xs ++ rest) t
unfolding Leads
amounts-lead laws put count before [] rest t takes are full more n =
    subst (λ (ys : List Amount). Leads (put ys) (numbered_from n rest) t) (append-nil before) (more n)
amounts-lead laws put count before (x ∷ xs) rest t takes are full more n =
    let is : IsAmount most_number x = amount_at before x xs are.each in
    let row : Row = record { number = n; tokens = amount_line x } in
    let step = takes before row (lt-ltb _ _ (omega arith)) in
    let place : number_of (decimal x.place) ≡ Some x.place = laws.value x.place (let le = is.within in omega arith) in
    let amount : signed_of (signed_decimal x.amount) ≡ Some x.amount = laws.signed_value x.amount (bound-fits x.amount is.amount) in
    let rises = lt-ltb (last_place before) x.place (places-at before x xs are.rising is.some) in
    let tail = amounts-lead laws put count (before ++ x ∷ []) xs rest t takes
    (subst (AreAmounts most_number) (sym (append_assoc before (x ∷ []) xs)) are) (omega (arith, length-append before (x ∷ [])))
    (subst (λ (ys : List Amount). LeadsOn (put ys) rest t) (sym (append_assoc before (x ∷ []) xs)) more) (n + 1) in
    rw (
      step.0,
      step.1,
      place,
      amount,
      le-leb x.place most_number is.within,
      le-leb (unsigned_abs x.amount) most_total is.amount,
      rises,
    ) (refl, tail)

-- ---- blockers

-- all amounts are there
abbrev pub IsFull : Stated → Type 0
IsFull s = (row : Row) → (tests_after s row ≡ tests_after_amounts s row) × (next s row ≡ after_amounts s row)

abbrev pub put_own : Stated → BlockerValue → List Amount → Stated
put_own s b own = record s {
  stage = stages.Own;
  count = length b.amounts;
  left = s.left - 1;
  uses = s.uses + length b.amounts;
  task = b.task;
  own = own;
  blockers = blockers_at s.stage s;
}

own-takes : (s : Stated) (b : BlockerValue) → TakesAmounts (put_own s b) (length b.amounts)
own-takes s b xs row open_yet = rw open_yet (refl, refl)

own-full : (s : Stated) (b : BlockerValue) → IsFull (put_own s b b.amounts)
own-full s b row =
    let full : ltb (length b.amounts) (length b.amounts) ≡ false = le-ltb _ _ (omega arith) in
    rw full (refl, refl)

-- what is stated after all blockers and `end`
unfoldable pub after_blockers : Stated → List BlockerValue → Stated
after_blockers s [] = set_ended s
after_blockers s (b ∷ bs) = after_blockers (put_own s b b.amounts) bs

pub blockers-lead : AreLaws → (s : Stated) (bs : List BlockerValue) → IsFull s → s.left ≡ length bs → All IsBlockerWithin bs
    → s.uses + sum_by own_count bs ≤ most_positions → LeadsOn s (flat_map blocker_lines bs ++ end_line ∷ []) (after_blockers s bs)
unfolding Leads after_blockers
blockers-lead laws s [] full left within few n =
    let row : Row = record { number = n; tokens = end_line } in
    rw ((full row).0, (full row).1, left) (refl, refl)
blockers-lead laws s (b ∷ bs) full left within few n =
    let row : Row = record { number = n; tokens = blocker_line b } in
    let here = All-head IsBlockerWithin b bs within in
    let sum = sum_by-cons own_count b bs in
    let task : number_of (decimal b.task) ≡ Some b.task = laws.value b.task (let le = here.task in omega arith) in
    let count : number_of (decimal (length b.amounts)) ≡ Some (length b.amounts) = laws.value (length b.amounts) (omega arith) in
    let fits : s.uses + length b.amounts ≤ most_positions = omega arith in
    let more = blockers-lead laws (put_own s b b.amounts) bs (own-full s b) (omega arith)
    (All-tail IsBlockerWithin b bs within) (omega arith) in
    let lines = amounts-lead laws (put_own s b) (length b.amounts) [] b.amounts (flat_map blocker_lines bs ++ end_line ∷ [])
    (after_blockers (put_own s b b.amounts) bs) (own-takes s b) here.amounts (omega arith) more (n + 1) in
    let joined = subst (λ (ls : List (List (List ℕ))). Leads (put_own s b []) (numbered_from (n + 1) ls) (after_blockers (put_own s b b.amounts) bs))
    (sym (append_assoc (map amount_line b.amounts) (flat_map blocker_lines bs) (end_line ∷ []))) lines in
    rw (
      (full row).0,
      (full row).1,
      some_left s.left (length bs) (omega arith),
      task,
      count,
      le-leb b.task most_number here.task,
      le-leb (s.uses + length b.amounts) most_positions fits,
    ) (refl, joined)

-- ---- a base, and the blockers after it

base-takes : (s : Stated) (count : ℕ) → TakesAmounts (at_base s count) count
base-takes s count xs row open_yet = rw open_yet (refl, refl)

base-full : (s : Stated) (base : List Amount) → IsFull (at_base s (length base) base)
base-full s base row =
    let full : ltb (length base) (length base) ≡ false = le-ltb _ _ (omega arith) in
    rw full (refl, refl)

pub base-leads : AreLaws → (s : Stated) (sort : Sort) (set : EventSetValue) → IsSetWithin set
    → LeadsOn (at_section s sort (length set.blockers))
    (section_line (codes "base") (length set.base)
    ∷ ((map amount_line set.base ++ flat_map blocker_lines set.blockers) ++ end_line ∷ []))
    (after_blockers (at_base (at_section s sort (length set.blockers)) (length set.base) set.base) set.blockers)
unfolding Leads after_word
base-leads laws s sort set is n =
    let few = is.few_amounts in
    let at : Stated = at_section s sort (length set.blockers) in
    let count : number_of (decimal (length set.base)) ≡ Some (length set.base) = laws.value (length set.base) (omega arith) in
    let fits : length set.base ≤ most_positions = omega arith in
    let end : Stated = after_blockers (at_base at (length set.base) set.base) set.blockers in
    let more = blockers-lead laws (at_base at (length set.base) set.base) set.blockers (base-full at set.base) refl is.blockers few in
    let lines = amounts-lead laws (at_base at (length set.base)) (length set.base) [] set.base
    (flat_map blocker_lines set.blockers ++ end_line ∷ []) end (base-takes at (length set.base)) is.base (omega arith) more (n + 1) in
    let joined = subst (λ (ls : List (List (List ℕ))). Leads (at_base at (length set.base) []) (numbered_from (n + 1) ls) end)
    (sym (append_assoc (map amount_line set.base) (flat_map blocker_lines set.blockers) (end_line ∷ []))) lines in
    rw (count, le-leb (length set.base) most_positions fits) (refl, joined)
