-- How many segments are moved while a term's part is made.
use Rattle.std.proofs.Common.{◌≡◌, ℕ, zero, suc, ◌+◌, ◌*◌, ◌<◌, ◌≤◌, ◌^◌, ◌⊎◌, inl, inr}
use Rattle.std.proofs.Common.{List, [], ◌∷◌, refl, ap, sym, arith, subst, length, Some}
use Rattle.std.proofs.lemmas.Bool.Decides.{nat_tests}
use Rattle.std.specs.List.{AllByRecursion, sum_by}
use Rattle.std.proofs.lemmas.List.Sums.{sum_by-cons}
use Rattle.side_laws.specs.Counting.{Counted, greatest_of, IsCounted}
use Rattle.hill_valley.specs.declared.side.Seg.{Seg}
use Rattle.segment_merge.specs.Merging.{segment_count, longest}
use Rattle.mp_system.specs.declared.system.Task.{Task}
use Rattle.sp_terms.specs.Term.{Term, hold, series, par, Parts, no_parts, part}
use Rattle.sp_terms.specs.Postfix.{gather}
use Rattle.sp_terms.specs.SystemOfTerm.{task_count, task_count_of_parts}
use Rattle.cut_laws.specs.Names.{numbered}
use Rattle.sp_cuts.specs.declared.parts.Part.{Part}
use Rattle.sp_cuts.specs.Parts.{front_sides, backs_of, moves_between, moves_in}
use Rattle.segment_merge.specs.Laws.{SideLaws}
use Rattle.sp_cuts.specs.Stacks.{IsPartOf, ArePartsOf, stack_tasks, AreMoved, AreMovedParts}
use Rattle.sp_cuts.proofs.Appended.{length_runs}
use Rattle.sp_cuts.proofs.Counts.{count_of, cut_count}
use Rattle.lists.proofs.Options.{some_same}
use Rattle.lists.proofs.Options.{none_some}

few : (lists : List (List ℕ)) (base : ℕ) (t : Term) (p : Part) → IsPartOf lists base t p → length p.front + length p.back ≤ task_count t
few lists base t p h = omega (arith, ap count_of h.cut, cut_count t (numbered base t), length_runs lists p.front, length_runs lists p.back)

pub moved_hold : (size : ℕ) (st : List Term) (total : ℕ) → AreMoved st total → AreMoved (hold size ∷ st) total
moved_hold size st total h = (0, total, omega arith, omega arith, h)

moves_few : (a b : Part) (m n : ℕ) → length a.front + length a.back ≤ m → length b.front + length b.back ≤ n
    → ((moves_between a b ≤ m) × (moves_between a b ≤ n + 1)) ⊎ ((moves_between a b ≤ m + 1) × (moves_between a b ≤ n))
moves_few a b m n h k = grind (arith, nat_tests)

pub moved_series : SideLaws
    → (lists : List (List ℕ)) (base next : ℕ) (a : Term) (v : Task) (b : Term) (pa pb : Part) (st : List Term) (total : ℕ)
    → IsPartOf lists base a pa → IsPartOf lists next b pb → AreMoved (b ∷ a ∷ st) total
    → AreMoved (series a v b ∷ st) (total + moves_between pa pb)
moved_series laws lists base next a v b pa pb st total ha hb (m, rest, h, e, (n, rest', k, f, g)) =
    let x = moves_between pa pb in (
      n + m + x,
      rest',
      elim (moves_few pa pb (task_count a) (task_count b) (few lists base a pa ha) (few lists next b pb hb)) [
        | inl w ↦
            let more = laws.more_tasks m (task_count b) (task_count b + 1) h (omega arith) in
            laws.more_tasks (n + m + x) (task_count a + (task_count b + 1)) (task_count (series a v b))
            (laws.series n m x (task_count a) (task_count b + 1) k more w.0 w.1) (omega arith)
        | inr w ↦
            let more = laws.more_tasks n (task_count a) (task_count a + 1) k (omega arith) in
            laws.more_tasks (n + m + x) (task_count a + 1 + task_count b) (task_count (series a v b))
            (laws.series n m x (task_count a + 1) (task_count b) more h w.0 w.1) (omega arith)
      ],
      omega arith,
      g,
    )

-- ---- a par

record Parted (ts : Parts) (rest : List Term) (total : ℕ) : Type 0 where
  x : ℕ
  y : ℕ
  parts : AreMovedParts ts x
  below : AreMoved rest y
  sum : x + y ≡ total

parted : (k : ℕ) (st : List Term) (acc ts : Parts) (rest : List Term) (total extra : ℕ) → AreMoved st total
    → AreMovedParts acc extra → gather k st acc ≡ Some (ts, rest) → Parted ts rest (extra + total)
parted zero st acc ts rest total extra h a e =
    subst (λ (r : Parts × List Term). Parted r.0 r.1 (extra + total)) (some_same e)
    (record { x = extra; y = total; parts = a; below = h; sum = refl })
parted (suc k) [] acc ts rest total extra h a e = absurd (none_some e)
parted (suc k) (t ∷ st) acc ts rest total extra (m, left, p, q, g) a e =
    let r = parted k st (part t acc) ts rest left (m + extra) g (m, extra, p, refl, a) e in
    subst (λ (n : ℕ). Parted ts rest n) (let w : m + extra + left ≡ extra + total = omega arith in w) r

record AreCounted (ts : Parts) (ps : List Part) (x : ℕ) (cs : List Counted) : Type 0 where
  all : AllByRecursion IsCounted cs
  moves : sum_by (λ p. p.moves) cs ≡ x
  tasks : sum_by (λ p. p.tasks) cs ≡ task_count_of_parts ts
  front : sum_by (λ p. p.front) cs ≡ segment_count (front_sides ps)
  back : sum_by (λ p. p.back) cs ≡ segment_count (backs_of ps)
  long_front : greatest_of (λ p. p.front) cs ≡ longest (front_sides ps)
  long_back : greatest_of (λ p. p.back) cs ≡ longest (backs_of ps)

are_counted : (lists : List (List ℕ)) (base : ℕ) (ts : Parts) (ps : List Part) (x : ℕ)
    → ArePartsOf lists base ts ps → AreMovedParts ts x → (cs : List Counted) × AreCounted ts ps x cs
are_counted lists base no_parts [] x h a =
    ([], record { all = tt; moves = sym a; tasks = refl; front = refl; back = refl; long_front = refl; long_back = refl })
are_counted lists base no_parts (p ∷ ps) x h a = absurd h
are_counted lists base (part t ts) [] x h a = absurd h
are_counted lists base (part t ts) (p ∷ ps) x h (m, rest, g, e, a) =
    let (cs, r) = are_counted lists (base + task_count t) ts ps rest h.1 a in
    let c : Counted = record { moves = m; tasks = task_count t; front = length p.front; back = length p.back } in (
      c ∷ cs,
      record {
        all = ((g, few lists base t p h.0), r.all);
        moves = omega (arith, r.moves, sum_by-cons (λ (x : Counted). x.moves) c cs);
        tasks = omega (arith, r.tasks, sum_by-cons (λ (x : Counted). x.tasks) c cs);
        front =
            omega (arith, r.front, sum_by-cons (λ (x : Counted). x.front) c cs, sum_by-cons (length {A = Seg}) p.front (front_sides ps));
        back = omega (arith, r.back, sum_by-cons (λ (x : Counted). x.back) c cs, sum_by-cons (length {A = Seg}) p.back (backs_of ps));
        long_front = omega (arith, r.long_front);
        long_back = omega (arith, r.long_back);
      },
    )

pub moved_par : SideLaws
    → (lists : List (List ℕ)) (base k : ℕ) (st : List Term) (ts : Parts) (rest : List Term) (ps : List Part) (total : ℕ)
    → ArePartsOf lists base ts ps → AreMoved st total → gather k st no_parts ≡ Some (ts, rest)
    → AreMoved (par ts ∷ rest) (total + moves_in ps)
moved_par laws lists base k st ts rest ps total h g e =
    let s = parted k st no_parts ts rest total 0 g refl e in
    let (cs, r) = are_counted lists base ts ps s.x h s.parts in
    let p = laws.parallel cs r.all (s.x + moves_in ps) (omega (arith, r.moves, r.front, r.back, r.long_front, r.long_back)) in
    let q : 2 ^ (s.x + moves_in ps) ≤ task_count_of_parts ts ^ task_count_of_parts ts =
    subst (λ (n : ℕ). 2 ^ (s.x + moves_in ps) ≤ n ^ n) r.tasks p in
    (s.x + moves_in ps, s.y, q, omega (arith, s.sum), s.below)

-- ---- the whole

moved_stack : SideLaws → (st : List Term) (total : ℕ) → AreMoved st total → 2 ^ total ≤ stack_tasks st ^ stack_tasks st
moved_stack laws [] total h = subst (λ (k : ℕ). 2 ^ k ≤ 0 ^ 0) (sym h) (omega arith)
moved_stack laws (t ∷ st) total (m, rest, h, e, g) =
    subst (λ (k : ℕ). 2 ^ k ≤ stack_tasks (t ∷ st) ^ stack_tasks (t ∷ st)) (let n : m + rest + 0 ≡ total = omega arith in n)
    (laws.series m rest 0 (task_count t) (stack_tasks st) h (moved_stack laws st rest g) (omega arith) (omega arith))

pub moved_bound : SideLaws → (st : List Term) (total s d : ℕ) → AreMoved st total → stack_tasks st ≤ s → s < 2 ^ d → total ≤ s * d
moved_bound laws st total s d h le hd =
    laws.bounded total s d (laws.more_tasks total (stack_tasks st) s (moved_stack laws st total h) le) hd
