-- What `segments` prints: the terms that have a number, each with its staircases.
use Rattle.std.proofs.Common.{◌≡◌, ◌∙◌, ℕ, zero, suc, ◌+◌, ◌-◌, ◌<◌, List, [], ◌∷◌, length}
use Rattle.std.proofs.Common.{map, get_or, refl, sym, ap, subst, inl, inr, arith}
use Rattle.std.specs.Prelude.{Contains}
use Rattle.std.specs.List.{enumerate_from, range_with_len}
use Rattle.std.proofs.lemmas.List.{get_or-map}
use Rattle.std.proofs.lemmas.List.FromFn.{length-enumerate_from, get_or-enumerate_from}
use Rattle.sp_terms.specs.declared.position.Position.{Position}
use Rattle.sp_terms.specs.Places.{term_of_position}
use Rattle.sp_terms.specs.Term.{Term, Direction, forward, backward}
use Rattle.sp_terms.specs.Values.{term_at}
use Rattle.sp_cuts.specs.StairLaws.{OneStairs, EachStepIsReached}
use Rattle.sp_cuts.specs.Stairs.{BothSteps, IsStaircaseOf, AreStairsOf, AreStairsFrom, AreStairs, step_total}
use Rattle.judging.specs.Files.{Answer, AreAccepted}
use Rattle.judging.specs.Judged.{AreWithin}
use Rattle.requests.specs.Request.{Input, tree_input, workflow_named, input_files}
use Rattle.reports.specs.Segments.{IsSegmentsAnswer, IsSegmentsOf, IsReached, ReportRow, no_steps}
use Rattle.reports.specs.Segments.{report_row_at, report_rows, segments_answer, steps_in}
use Rattle.judging.specs.Numbered.{IsNumberedTerm}
use Rattle.judging.specs.declared.status.Status.TheVariants.{Done}
use Rattle.judging.proofs.InputLemmas.{tree_accepted}
use Rattle.reports.proofs.StairPages.{length-rows}

-- ---- rows

-- of the term at each position
stairs_at : (ps : List Position) (k i j : ℕ) (all : List BothSteps) → AreStairsFrom ps k all → i < length all → k + i ≡ j
    → AreStairsOf (term_at ps j) (get_or all i no_steps)
stairs_at ps k i j [] are h e = absurd (omega (arith, h))
stairs_at ps k zero j (s ∷ all) are h e = let same : k ≡ j = omega (arith, e) in subst (λ (n : ℕ). AreStairsOf (term_at ps n) s) same are.0
stairs_at ps k (suc i) j (s ∷ all) are h e = stairs_at ps (k + 1) i j all are.1 (omega (arith, h)) (omega (arith, e))

row_is : (ps : List Position) (all : List BothSteps) (numbered : List ℕ) (i : ℕ) (d : ReportRow) → i < length numbered
    → get_or (report_rows ps all numbered) i d ≡ report_row_at ps all (i + 1, get_or numbered i 0)
row_is ps all numbered i d h =
    get_or-map (report_row_at ps all) (enumerate_from 1 numbered) i (0, 0) d (omega (arith, h, length-enumerate_from 1 numbered))
    ∙ ap (report_row_at ps all) (get_or-enumerate_from 1 numbered i (0, 0) h ∙ ap (λ (n : ℕ). (n, get_or numbered i 0)) (omega arith))

each_row : (ps : List Position) (all : List BothSteps) (numbered : List ℕ) → AreStairs ps all → AreWithin (length ps) numbered
    → (row : ReportRow) → Contains (report_rows ps all numbered) row → AreStairsOf row.term row.steps
each_row ps all numbered stairs within row (i, h, is) =
    let short : i < length numbered = omega (arith, h, length-rows ps all numbered) in
    let k = get_or numbered i 0 in
    let at = within i 0 short in
    subst (λ (r : ReportRow). AreStairsOf r.term r.steps) (sym (row_is ps all numbered i row short) ∙ is)
    (stairs_at ps 0 (k - 1) (k - 1) all stairs.each (omega (arith, at.0, at.1, stairs.many)) (omega arith))

numbers_from : (ps : List Position) (all : List BothSteps) (n : ℕ) (ks : List ℕ)
    → map (λ row. row.number) (map (report_row_at ps all) (enumerate_from n ks)) ≡ range_with_len n (length ks)
numbers_from ps all n [] = refl
numbers_from ps all n (k ∷ ks) = ap (λ (ns : List ℕ). n ∷ ns) (numbers_from ps all (n + 1) ks)

terms_from : (ps : List Position) (all : List BothSteps) (n : ℕ) (ks : List ℕ)
    → map (λ row. row.term) (map (report_row_at ps all) (enumerate_from n ks)) ≡ map (term_of_position ps) ks
terms_from ps all n [] = refl
terms_from ps all n (k ∷ ks) = ap (λ (ts : List Term). term_of_position ps k ∷ ts) (terms_from ps all (n + 1) ks)

staircase_in : (d : Direction) (row : ReportRow) → AreStairsOf row.term row.steps → IsStaircaseOf d row.term (steps_in d row.steps)
staircase_in forward row are = are.front
staircase_in backward row are = are.back

-- ---- what is said of staircases that were printed

pub reached : EachStepIsReached
    → ((input : Input) (texts : List (List ℕ)) (ps : List Position) (ks : List ℕ)
    → IsNumberedTerm input texts ps ks → AreWithin (length ps) ks)
    → (input : Input) (texts : List (List ℕ)) (answer : Answer)
    → IsSegmentsOf input texts answer → answer.status ≡ Done → IsReached input texts answer.text
reached each within input texts answer (ps, numbered, is, inl (passes, e)) done = absurd (cc (sym (ap (λ (a : Answer). a.status) e) ∙ done))
reached each within input texts answer (ps, numbered, is, inr (all, stairs, few, e)) done =
    let rows = each_row ps all numbered stairs (within input texts ps numbered is) in
    record {
      positions = ps;
      numbered = numbered;
      is_numbered = is;
      rows = report_rows ps all numbered;
      many = length-rows ps all numbered;
      numbers = numbers_from ps all 1 numbered;
      terms = terms_from ps all 1 numbered;
      stairs = rows;
      pairs = λ row has d s is_step. each d row.term (steps_in d row.steps) (staircase_in d row (rows row has)) s is_step;
      printed_is = ap (λ (a : Answer). a.text) e;
    }

-- ---- there is one answer

one_answer : OneStairs → (input : Input) (ps : List Position) (numbered : List ℕ) (a b : Answer)
    → IsSegmentsAnswer input ps numbered a → IsSegmentsAnswer input ps numbered b → a ≡ b
one_answer one input ps numbered a b (inl (passes, e)) (inl (passes', e')) = e ∙ sym e'
one_answer one input ps numbered a b (inl (passes, e)) (inr (all, stairs, few, e')) =
    absurd (omega (arith, passes.many, few, ap step_total (one ps passes.all all passes.are stairs)))
one_answer one input ps numbered a b (inr (all, stairs, few, e)) (inl (passes, e')) =
    absurd (omega (arith, passes.many, few, ap step_total (one ps passes.all all passes.are stairs)))
one_answer one input ps numbered a b (inr (all, stairs, few, e)) (inr (others, stairs', few', e')) =
    e ∙ ap (λ (ss : List BothSteps). segments_answer (report_rows ps ss numbered)) (one ps all others stairs stairs') ∙ sym e'

pub one_segments : ((input : Input) (texts : List (List ℕ)) (ps qs : List Position) (ks ls : List ℕ)
    → IsNumberedTerm input texts ps ks → IsNumberedTerm input texts qs ls
    → (ps ≡ qs) × (ks ≡ ls) × AreWithin (length ps) ks)
    → OneStairs → (input : Input) (texts : List (List ℕ)) (a b : Answer) → IsSegmentsOf input texts a → IsSegmentsOf input texts b → a ≡ b
one_segments same one input texts a b (ps, ks, is, told) (qs, ls, is', told') =
    let e = same input texts ps qs ks ls is is' in
    one_answer one input ps ks a b told (coe 1 0 (i. IsSegmentsAnswer input (e.0 i) (e.1 i) b) told')

pub numbered_accepted : (input : Input) (texts : List (List ℕ)) (ps : List Position) (numbered : List ℕ)
    → IsNumberedTerm input texts ps numbered → AreAccepted (input_files input) [] texts
numbered_accepted (tree_input input) texts ps numbered (nodes, forest, is, is_forest, at, numbers) = tree_accepted input texts nodes is
numbered_accepted (workflow_named name) [] ps numbered is = absurd is
numbered_accepted (workflow_named name) (text ∷ []) ps numbered (workflow, numbers) = ((ps, workflow), tt)
numbered_accepted (workflow_named name) (text ∷ more ∷ texts) ps numbered is = absurd is
