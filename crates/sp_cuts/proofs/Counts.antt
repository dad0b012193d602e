-- The numbers of the cut of a term, and how many segments it has.
use Rattle.std.proofs.Common.{◌≡◌, ℕ, ◌+◌, ◌-◌, ◌≤◌, max, leb, cond, Bool, true, false, List, [], ◌∷◌, ◌++◌, refl, ap, arith, length}
use Rattle.std.specs.List.{sum_by}
use Rattle.std.proofs.lemmas.List.Sums.{sum_by-cons}
use Rattle.std.proofs.lemmas.Bool.Decides.{nat_tests}
use Rattle.std.proofs.lemmas.Grind.{common_steps}
use Rattle.sp_terms.specs.Term.{Term, hold, series, par, Parts, no_parts, part, initial_of, final_of}
use Rattle.sp_terms.specs.Term.{first_memory_of_parts, hill_of, forward, backward}
use Rattle.sp_terms.specs.SystemOfTerm.{task_count, task_count_of_parts}
use Rattle.hill_valley.specs.Side.{Run, append_run, insert_run}
use Rattle.segment_merge.specs.Merging.{insert_runs, merge_runs}
use Rattle.segment_merge.specs.Crossing.{append_runs, hill_run, cross_hill_runs}
use Rattle.cut_laws.specs.Cuts.{Cut, cut_first, cut_second, series_cut, par_cut, over_task, front_peak, back_peak, fronts, backs}
use Rattle.cut_laws.specs.Names.{Names, NamesOfParts}
use Rattle.cut_laws.specs.TermCuts.{cut_of_term, cuts_of_parts}

-- ---- the first and the last memory

pick_initial : (b : Bool) (x y : Cut) (n : ℕ) → x.initial ≡ n → y.initial ≡ n → (cond b x y).initial ≡ n
pick_initial true x y n p q = p
pick_initial false x y n p q = q

pick_fin : (b : Bool) (x y : Cut) (n : ℕ) → x.fin ≡ n → y.fin ≡ n → (cond b x y).fin ≡ n
pick_fin true x y n p q = p
pick_fin false x y n p q = q

series_initial : (a : Cut) (task hill : ℕ) (b : Cut) → (series_cut a task hill b).initial ≡ a.initial
series_initial a task hill b = pick_initial (leb a.least b.least) (cut_first a task hill b) (cut_second a task hill b) a.initial refl refl

series_fin : (a : Cut) (task hill : ℕ) (b : Cut) → (series_cut a task hill b).fin ≡ b.fin
series_fin a task hill b = pick_fin (leb a.least b.least) (cut_first a task hill b) (cut_second a task hill b) b.fin refl refl

mutual
  pub cut_initial : (t : Term) (n : Names t) → (cut_of_term t n).initial ≡ initial_of t
  cut_initial (hold size) n = refl
  cut_initial (series a v b) (na, x, nb) =
      omega (arith, series_initial (cut_of_term a na) x (hill_of a v b) (cut_of_term b nb), cut_initial a na)
  cut_initial (par ts) ns = cuts_initial ts ns

  cuts_initial : (ts : Parts) (ns : NamesOfParts ts) → sum_by (λ c. c.initial) (cuts_of_parts ts ns) ≡ first_memory_of_parts forward ts
  cuts_initial no_parts ns = refl
  cuts_initial (part t ts) (n, ns) =
      omega (arith, cut_initial t n, cuts_initial ts ns, sum_by-cons (λ (c : Cut). c.initial) (cut_of_term t n) (cuts_of_parts ts ns))

mutual
  pub cut_fin : (t : Term) (n : Names t) → (cut_of_term t n).fin ≡ final_of t
  cut_fin (hold size) n = refl
  cut_fin (series a v b) (na, x, nb) = omega (arith, series_fin (cut_of_term a na) x (hill_of a v b) (cut_of_term b nb), cut_fin b nb)
  cut_fin (par ts) ns = cuts_fin ts ns

  cuts_fin : (ts : Parts) (ns : NamesOfParts ts) → sum_by (λ c. c.fin) (cuts_of_parts ts ns) ≡ first_memory_of_parts backward ts
  cuts_fin no_parts ns = refl
  cuts_fin (part t ts) (n, ns) =
      omega (arith, cut_fin t n, cuts_fin ts ns, sum_by-cons (λ (c : Cut). c.fin) (cut_of_term t n) (cuts_of_parts ts ns))

-- ---- how many segments

length_appended_last : (r s : Run) → length (append_run r (s ∷ [])) ≤ 2
length_appended_last r s = grind (arith, nat_tests, common_steps)

length_append_run : (r : Run) (es : List Run) → length (append_run r es) ≤ length es + 1
length_append_run r [] = omega arith
length_append_run r (s ∷ []) = let h = length_appended_last r s in omega arith
length_append_run r (s ∷ e ∷ es) = let h = length_append_run r (e ∷ es) in omega arith

pub one_longer : (r : Run) (es es' : List Run) → es' ≡ append_run r es → length es' ≤ length es + 1
one_longer r es es' e = omega (arith, ap (length {A = Run}) e, length_append_run r es)

length_append_runs : (far near : List Run) → length (append_runs far near) ≤ length far + length near
length_append_runs [] near = omega arith
length_append_runs (s ∷ far) near = let h = length_append_runs far (append_run s near) in let k = length_append_run s near in omega arith

length_pick : (b : Bool) (x y : List Run) (n : ℕ) → length x ≤ n → length y ≤ n → length (cond b x y) ≤ n
length_pick true x y n p q = p
length_pick false x y n p q = q

length_cross : (end hill level : ℕ) (ts : List ℕ) (far near : List Run)
    → length (cross_hill_runs end hill level ts far near) ≤ length far + (length near + 1)
length_cross end hill level ts [] near = let h = length_append_run (hill_run end hill level ts) near in omega arith
length_cross end hill level ts (s ∷ far) near =
    length_pick (leb level end) (append_runs (s ∷ far) (append_run (hill_run end hill level ts) near))
    (cross_hill_runs end (max hill (level + s.up)) (level - s.net) (ts ++ s.tasks) far near) (length (s ∷ far) + (length near + 1))
    (let h = length_append_runs (s ∷ far) (append_run (hill_run end hill level ts) near) in
    let k = length_append_run (hill_run end hill level ts) near in
    omega arith)
    (let h = length_cross end (max hill (level + s.up)) (level - s.net) (ts ++ s.tasks) far near in omega arith)

abbrev pub count_of : Cut → ℕ
count_of c = length c.front + length c.back

count_pick : (b : Bool) (x y : Cut) (n : ℕ) → count_of x ≤ n → count_of y ≤ n → count_of (cond b x y) ≤ n
count_pick true x y n p q = p
count_pick false x y n p q = q

series_count : (a : Cut) (task hill : ℕ) (b : Cut) → count_of (series_cut a task hill b) ≤ count_of a + (count_of b + 1)
series_count a task hill b =
    count_pick (leb a.least b.least) (cut_first a task hill b) (cut_second a task hill b) (count_of a + (count_of b + 1))
    (let h = length_cross b.least (max (front_peak b) hill) a.fin (over_task b.front task) a.back b.back in omega arith)
    (let h = length_cross a.least (max (back_peak a) hill) b.initial (over_task a.back task) b.front a.front in omega arith)

length_insert_step : (s e : Run) (es : List Run) → length (insert_run true s es) ≤ length es + 1
    → length (insert_run true s (e ∷ es)) ≤ length es + 2
length_insert_step s e es h = grind (arith, nat_tests, common_steps)

length_insert : (s : Run) (es : List Run) → length (insert_run true s es) ≤ length es + 1
length_insert s [] = omega arith
length_insert s (e ∷ es) = let h = length_insert_step s e es (length_insert s es) in omega arith

length_inserts : (ss es : List Run) → length (insert_runs ss es) ≤ length ss + length es
length_inserts [] es = omega arith
length_inserts (s ∷ ss) es = let h = length_insert s (insert_runs ss es) in let k = length_inserts ss es in omega arith

abbrev counts : List Cut → ℕ
counts [] = 0
counts (c ∷ cs) = count_of c + counts cs

par_count : (cs : List Cut) → count_of (par_cut cs) ≤ counts cs
par_count [] = omega arith
par_count (c ∷ cs) = let h = length_inserts c.front (merge_runs (fronts cs)) in
    let k = length_inserts c.back (merge_runs (backs cs)) in
    let r = par_count cs in
    omega arith

mutual
  pub cut_count : (t : Term) (n : Names t) → count_of (cut_of_term t n) ≤ task_count t
  cut_count (hold size) n = omega arith
  cut_count (series a v b) (na, x, nb) =
      omega (arith, series_count (cut_of_term a na) x (hill_of a v b) (cut_of_term b nb), cut_count a na, cut_count b nb)
  cut_count (par ts) ns = omega (arith, par_count (cuts_of_parts ts ns), cuts_count ts ns)

  cuts_count : (ts : Parts) (ns : NamesOfParts ts) → counts (cuts_of_parts ts ns) ≤ task_count_of_parts ts
  cuts_count no_parts ns = omega arith
  cuts_count (part t ts) (n, ns) = omega (arith, cut_count t n, cuts_count ts ns)
