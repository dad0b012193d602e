-- What `spill` prints: the items of which some is spilled, and the volume of the plan that their amounts make.
use Rattle.std.proofs.Common.{◌≡◌, ◌∙◌, ◌+◌, ◌<◌, ◌≤◌, ℕ, zero, suc, Bool, true, false, cond, List, [], ◌∷◌}
use Rattle.std.proofs.Common.{◌++◌, length, map, take, get_or, refl, sym, ap, ap₂, inl, inr, arith}
use Rattle.std.specs.Prelude.{sum, nat_lt, decimal}
use Rattle.std.specs.List.{filter, enumerate_from}
use Rattle.std.proofs.lemmas.Bool.{lt-ltb, le-ltb}
use Rattle.std.proofs.lemmas.List.{take_all, map-append, append-nil}
use Rattle.std.proofs.lemmas.List.Elements.{filter_more}
use Rattle.std.proofs.lemmas.List.FromFn.{length-enumerate_from, get_or-enumerate_from}
use Rattle.std.proofs.lemmas.List.Sums.{sum_by-cons}
use Rattle.mp_text.specs.Report.{line_text, text_of_lines}
use Rattle.spill_plan.specs.SpillPlans.{sum_from, most_among, plan_by_amounts}
use Rattle.least_peak.specs.Problem.{system_of}
use Rattle.judging.specs.Files.{Answer, IsOrderFrom}
use Rattle.judging.specs.Judged.{AreTasksOf}
use Rattle.judging.specs.declared.inputs.Tasks.{Tasks}
use Rattle.judging.specs.declared.inputs.Tasks.TheVariants as read
use Rattle.judging.proofs.InputLemmas.{problem_has_system}
use Rattle.requests.specs.Request.{Input, TaskSource, input_tasks, graph_tasks, OrderSource}
use Rattle.reports.specs.Spill.{spilled_items, amount_line, IsItemSpillOf, IsSpilled}
use Rattle.reports.specs.SpilledGaps.{IsSpillOf, IsSpillAnswerOf, AreSpilled}
use Rattle.reports.proofs.GapLemmas.{gaps_spilled}
use Rattle.judging.specs.declared.status.Status.TheVariants.{Done}
use Rattle.spill_plan.proofs.LeastAmounts.{plan_volume-le}

-- ---- the items

abbrev is_spilled : ℕ × ℕ → Bool
is_spilled p = nat_lt 0 p.1

-- of the amounts before a place
abbrev pub lines_before : List ℕ → ℕ → List (List (List ℕ))
lines_before amounts i = map amount_line (filter is_spilled (take i (enumerate_from 1 amounts)))

pub lines_of_all : (amounts : List ℕ) → lines_before amounts (length amounts) ≡ map amount_line (spilled_items amounts)
lines_of_all amounts =
    ap (λ (ps : List (ℕ × ℕ)). map amount_line (filter is_spilled ps))
    (take_all (length amounts) (enumerate_from 1 amounts) (omega (arith, length-enumerate_from 1 amounts)))

-- and of one more
item_at : (amounts : List ℕ) (i : ℕ) → i < length amounts → get_or (enumerate_from 1 amounts) i (0, 0) ≡ (i + 1, get_or amounts i 0)
item_at amounts i h = get_or-enumerate_from 1 amounts i (0, 0) h ∙ ap (λ (n : ℕ). (n, get_or amounts i 0)) (omega arith)

one_more : (amounts : List ℕ) (i : ℕ) → i < length amounts → (b : Bool) → nat_lt 0 (get_or amounts i 0) ≡ b
    → lines_before amounts (i + 1) ≡ lines_before amounts i ++ map amount_line (cond b ((i + 1, get_or amounts i 0) ∷ []) [])
one_more amounts i h b is =
    let all = enumerate_from 1 amounts in
    let here = item_at amounts i h in
    let picked = λ (c : Bool) (p : ℕ × ℕ). cond c (p ∷ []) [] in
    let test : is_spilled (get_or all i (0, 0)) ≡ b = ap is_spilled here ∙ is in
    ap (map amount_line) (filter_more is_spilled all i (0, 0) (omega (arith, h, length-enumerate_from 1 amounts)))
    ∙ map-append amount_line (filter is_spilled (take i all)) (cond (is_spilled (get_or all i (0, 0))) (get_or all i (0, 0) ∷ []) [])
    ∙ ap (λ (ps : List (ℕ × ℕ)). lines_before amounts i ++ map amount_line ps) (ap₂ picked test here)

pub skipped : (amounts : List ℕ) (i : ℕ) → i < length amounts
    → get_or amounts i 0 ≤ 0 → lines_before amounts (i + 1) ≡ lines_before amounts i
skipped amounts i h none = one_more amounts i h false (le-ltb 0 (get_or amounts i 0) none) ∙ append-nil (lines_before amounts i)

pub printed : ((text : List ℕ) (lines : List (List (List ℕ))) (line : List (List ℕ))
    → (text ++ text_of_lines lines) ++ line_text line ≡ text ++ text_of_lines (lines ++ line ∷ []))
    → (amounts : List ℕ) (i : ℕ) → i < length amounts → 0 < get_or amounts i 0 → (start before after : List ℕ)
    → before ≡ start ++ text_of_lines (lines_before amounts i)
    → after ≡ before ++ line_text (decimal (i + 1) ∷ decimal (get_or amounts i 0) ∷ [])
    → after ≡ start ++ text_of_lines (lines_before amounts (i + 1))
printed more amounts i h some start before after was is =
    let line = decimal (i + 1) ∷ decimal (get_or amounts i 0) ∷ [] in
    is ∙ ap (λ (t : List ℕ). t ++ line_text line) was ∙ more start (lines_before amounts i) line
    ∙ ap (λ (ls : List (List (List ℕ))). start ++ text_of_lines ls) (sym (one_more amounts i h true (lt-ltb 0 (get_or amounts i 0) some)))

-- as many as there are amounts above 0
pub as_many : (first : ℕ) (amounts : List ℕ)
    → length (filter (λ a. nat_lt 0 a) amounts) ≡ length (filter is_spilled (enumerate_from first amounts))
as_many first [] = refl
as_many first (a ∷ amounts) =
    let rest = as_many (first + 1) amounts in
    let one = filter (λ x. nat_lt 0 x) amounts in
    let two = filter is_spilled (enumerate_from (first + 1) amounts) in
    elim (nat_lt 0 a) as (λ b. length (cond b (a ∷ one) one) ≡ length (cond b ((first, a) ∷ two) two)) [ true ↦ ap suc rest | false ↦ rest ]

-- ---- the volume

most_within : (n : ℕ) (f : ℕ → ℕ) (a : ℕ) → ((k : ℕ) → f k ≤ a) → most_among n f ≤ a
most_within zero f a each = omega arith
most_within (suc n) f a each = omega (arith, each n, most_within n f a each)

sum_within : {X : Type 0} (f : ℕ → X → ℕ) (first : ℕ) (xs : List X) (amounts : List ℕ) → length amounts ≡ length xs
    → ((i k : ℕ) → i ≡ first + k → (x : X) → f i x ≤ get_or amounts k 0) → sum_from first f xs ≤ sum amounts
sum_within f first [] amounts len each = omega arith
sum_within f first (x ∷ xs) [] len each = absurd (omega (arith, len))
sum_within f first (x ∷ xs) (a ∷ amounts) len each =
    let rest = sum_within f (suc first) xs amounts (omega (arith, len)) (λ i k e y. each i (suc k) (omega (arith, e)) y) in
    omega (arith, each first 0 (omega arith) x, rest, sum_by-cons (λ n. n) a amounts)

at_most : (b : Bool) (a : ℕ) → cond b a 0 ≤ a
at_most true a = omega arith
at_most false a = omega arith

-- the plan that has each item's amount wherever it is held writes at most the amounts

-- ---- what is said of a spill that is done

pub spilled : (input : Input) (source : OrderSource) (bound : ℕ) (texts : List (List ℕ)) (answer : Answer)
    → IsItemSpillOf input source bound texts answer → answer.status ≡ Done → IsSpilled input source bound texts answer.text
spilled input source bound texts answer (mine, text, system, order, split, is_system, is_order, inl (place, kind, fault, e)) done =
    absurd (cc (sym (ap (λ (a : Answer). a.status) e) ∙ done))
spilled input source bound texts answer
    (mine, text, system, order, split, is_system, is_order, inr (inl (step, need, traversal, first, e))) done =
    absurd (cc (sym (ap (λ (a : Answer). a.status) e) ∙ done))
spilled input source bound texts answer
    (mine, text, system, order, split, is_system, is_order, inr (inr (volume, amounts, traversal, is, e))) done =
    let plan = plan_by_amounts system order amounts in
    record {
      mine = mine;
      text = text;
      texts_are = split;
      system = system;
      is_system = is_system;
      order = order;
      is_order = is_order;
      traversal = traversal;
      volume = volume;
      amounts = amounts;
      len = is.len;
      plan = is.plan;
      volume_is = omega (arith, plan_volume-le system order amounts is.len, is.volume_is, is.least plan is.plan);
      sum_is = sym is.volume_is;
      least = is.least;
      printed_is = ap (λ (a : Answer). a.text) e;
    }

pub spilled_tasks : (tasks : TaskSource) (source : OrderSource) (bound : ℕ) (texts : List (List ℕ)) (answer : Answer)
    → IsSpillOf tasks source bound texts answer → answer.status ≡ Done → AreSpilled tasks source bound texts answer.text
spilled_tasks (input_tasks input) source bound texts answer is done = spilled input source bound texts answer is done
spilled_tasks (graph_tasks name) source bound texts answer is done = gaps_spilled (graph_tasks name) source bound texts answer is done

-- ---- what is told of tasks is what is told of their files

pub spill_told : (tasks : TaskSource) (source : OrderSource) (bound : ℕ) (texts mine : List (List ℕ)) (text : List ℕ) (value : Tasks)
    (order : List ℕ) (answer : Answer) → texts ≡ mine ++ text ∷ [] → AreTasksOf tasks mine value → IsOrderFrom source text order
    → IsSpillAnswerOf value order bound answer → IsSpillOf tasks source bound texts answer
spill_told (input_tasks input) source bound texts mine text (read.Problem problem) order answer split is is_order told =
    (mine, text, system_of problem, order, split, problem_has_system input mine problem is, is_order, told)
spill_told (input_tasks input) source bound texts mine text (read.Graph system) order answer split is is_order told = absurd is
spill_told (graph_tasks name) source bound texts [] text value order answer split is is_order told = absurd is
spill_told (graph_tasks name) source bound texts (one ∷ []) text (read.Problem problem) order answer split is is_order told = absurd is
spill_told (graph_tasks name) source bound texts (one ∷ []) text (read.Graph system) order answer split is is_order told =
    (one ∷ [], text, system, order, split, is, is_order, told)
spill_told (graph_tasks name) source bound texts (one ∷ two ∷ more) text value order answer split is is_order told = absurd is
