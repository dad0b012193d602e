-- Parts on a stack, and what joining some of them makes.
use Rattle.std.proofs.Common.{◌≡◌, ℕ, zero, suc, ◌+◌, ◌≤◌, max, List, [], ◌∷◌, ◌++◌, refl, ap, sym, ◌∙◌, arith}
use Rattle.std.proofs.Common.{◌<◌, ◌-◌, subst, length, reverse, Some, take, drop, set, get_or, length-drop, take-append-drop}
use Rattle.std.proofs.lemmas.Grind.{common_steps}
use Rattle.std.specs.List.{sum_by}
use Rattle.std.proofs.lemmas.List.{reverse-append, nil_from_length, set_split, set-get_or}
use Rattle.std.proofs.lemmas.List.Sums.{sum_by-cons}
use Rattle.limits.specs.Limits.{most_total}
use Rattle.hill_valley.specs.Ropes.{Extends}
use Rattle.mp_system.specs.declared.system.Task.{Task}
use Rattle.sp_terms.specs.Term.{Term, hold, series, par, Parts, no_parts, part, initial_of, final_of, hill_of}
use Rattle.sp_terms.specs.Postfix.{gather}
use Rattle.sp_terms.specs.SystemOfTerm.{task_count}
use Rattle.cut_laws.specs.Cuts.{Cut, hold_cut, series_cut, par_cut}
use Rattle.cut_laws.specs.Names.{numbered, numbered_parts}
use Rattle.cut_laws.specs.TermCuts.{cut_of_term, cuts_of_parts}
use Rattle.sp_cuts.specs.declared.parts.Part.{Part}
use Rattle.sp_cuts.specs.Parts.{cut_of, cuts_of, IsPart, hill_between, CanJoin}
use Rattle.sp_cuts.specs.Splits.{IsRough, AreRough}
use Rattle.segment_merge.specs.Laws.{SideLaws}
use Rattle.sp_cuts.specs.Stacks.{total_of, total_of_parts, IsPartOf, ArePiled, ArePartsOf, stack_tasks}
use Rattle.sp_cuts.proofs.Kept.{cut_kept, rough_kept, rough, within}
use Rattle.sp_cuts.proofs.Counts.{cut_initial, cut_fin}
use Rattle.lists.proofs.Options.{none_some, some_same}

-- ---- one part

pub initial_is : (lists : List (List ℕ)) (base : ℕ) (t : Term) (p : Part) → IsPartOf lists base t p → p.initial ≡ initial_of t
initial_is lists base t p h = ap (λ (c : Cut). c.initial) h.cut ∙ cut_initial t (numbered base t)

pub fin_is : (lists : List (List ℕ)) (base : ℕ) (t : Term) (p : Part) → IsPartOf lists base t p → p.fin ≡ final_of t
fin_is lists base t p h = ap (λ (c : Cut). c.fin) h.cut ∙ cut_fin t (numbered base t)

pub hold_of : (lists : List (List ℕ)) (base size : ℕ) (p : Part) → cut_of lists p ≡ hold_cut size
    → IsPart lists p → p.peak ≡ size → IsPartOf lists base (hold size) p
hold_of lists base size p e h peak = record { cut = e; rough = rough lists p h; weight = omega arith }

module _ (laws : SideLaws) where
  of_kept : (old new : List (List ℕ)) (base : ℕ) (t : Term) (p : Part) → IsPartOf old base t p → Extends old new → IsPartOf new base t p
  of_kept old new base t p h k =
      record { cut = cut_kept laws old new p h.rough.both k ∙ h.cut; rough = rough_kept laws old new p h.rough k; weight = h.weight }

  pub piled_kept : (old new : List (List ℕ)) (st : List Term) (ps : List Part) → ArePiled old st ps → Extends old new → ArePiled new st ps
  piled_kept old new [] [] h k = tt
  piled_kept old new [] (p ∷ ps) h k = absurd h
  piled_kept old new (t ∷ st) [] h k = absurd h
  piled_kept old new (t ∷ st) (p ∷ ps) h k = (of_kept old new (suc (stack_tasks st)) t p h.0 k, piled_kept old new st ps h.1 k)

  -- the first and the last memory are within the bound
  pub start_within : (lists : List (List ℕ)) (base : ℕ) (t : Term) (p : Part) → IsPartOf lists base t p → p.initial ≤ p.peak
  start_within lists base t p h = let w = (within laws lists p h.rough.both).start in let b = h.rough.bound in omega arith

  pub end_within : (lists : List (List ℕ)) (base : ℕ) (t : Term) (p : Part) → IsPartOf lists base t p → p.fin ≤ p.peak
  end_within lists base t p h = let w = (within laws lists p h.rough.both).end in let b = h.rough.bound in omega arith

  series_of : (r0 r2 : List (List ℕ)) (base : ℕ) (a : Term) (v : Task) (b : Term) (pa pb p : Part)
      → IsPartOf r0 base a pa → IsPartOf r0 (base + task_count a) b pb
      → cut_of r2 p ≡ series_cut (cut_of r0 pa) (base + (task_count a + task_count b)) (hill_between pa v pb) (cut_of r0 pb)
      → IsRough r2 p → v.share ≤ pa.fin → p.peak ≡ max pa.peak (max (hill_between pa v pb) pb.peak) → IsPartOf r2 base (series a v b) p
  series_of r0 r2 base a v b pa pb p ha hb e r share peak =
      let own : ℕ = base + (task_count a + task_count b) in
      let hi : hill_between pa v pb ≡ hill_of a v b = omega (arith, fin_is r0 base a pa ha, initial_is r0 (base + task_count a) b pb hb) in
      let wa = end_within r0 base a pa ha in
      let wb = start_within r0 (base + task_count a) b pb hb in
      let la = ha.weight in let lb = hb.weight in
      record {
        cut = e ∙ ap (λ (c : Cut). series_cut c own (hill_between pa v pb) (cut_of r0 pb)) ha.cut
            ∙ ap (series_cut (cut_of_term a (numbered base a)) own (hill_between pa v pb)) hb.cut
            ∙ ap (λ (n : ℕ). series_cut (cut_of_term a (numbered base a)) own n (cut_of_term b (numbered (base + task_count a) b))) hi;
        rough = r;
        weight = omega arith;
      }

-- ---- several parts

cuts_are : (lists : List (List ℕ)) (base : ℕ) (ts : Parts) (ps : List Part)
    → ArePartsOf lists base ts ps → cuts_of lists ps ≡ cuts_of_parts ts (numbered_parts base ts)
cuts_are lists base no_parts [] h = refl
cuts_are lists base no_parts (p ∷ ps) h = absurd h
cuts_are lists base (part t ts) [] h = absurd h
cuts_are lists base (part t ts) (p ∷ ps) h = rw (h.0.cut, cuts_are lists (base + task_count t) ts ps h.1) refl

pub all_rough : (lists : List (List ℕ)) (base : ℕ) (ts : Parts) (ps : List Part) → ArePartsOf lists base ts ps → AreRough lists ps
all_rough lists base no_parts [] h = tt
all_rough lists base no_parts (p ∷ ps) h = absurd h
all_rough lists base (part t ts) [] h = absurd h
all_rough lists base (part t ts) (p ∷ ps) h = (h.0.rough, all_rough lists (base + task_count t) ts ps h.1)

pub all_peaks : (lists : List (List ℕ)) (base : ℕ) (ts : Parts) (ps : List Part)
    → ArePartsOf lists base ts ps → sum_by (λ p. p.peak) ps ≤ total_of_parts ts
all_peaks lists base no_parts [] h = omega arith
all_peaks lists base no_parts (p ∷ ps) h = absurd h
all_peaks lists base (part t ts) [] h = absurd h
all_peaks lists base (part t ts) (p ∷ ps) h = let r = all_peaks lists (base + task_count t) ts ps h.1 in
    let w = h.0.weight in
    omega (arith, sum_by-cons (λ (q : Part). q.peak) p ps)

par_of : (r0 r2 : List (List ℕ)) (base : ℕ) (ts : Parts) (ps : List Part) (p : Part) → ArePartsOf r0 base ts ps
    → cut_of r2 p ≡ par_cut (cuts_of r0 ps) → IsRough r2 p → p.peak ≡ sum_by (λ p. p.peak) ps → IsPartOf r2 base (par ts) p
par_of r0 r2 base ts ps p h e r peak =
    let w = all_peaks r0 base ts ps h in
    record { cut = e ∙ ap par_cut (cuts_are r0 base ts ps h); rough = r; weight = omega arith }

-- ---- what a par takes from the stack

pub record Taken (lists : List (List ℕ)) (ts : Parts) (rest : List Term) (ps below : List Part) : Type 0 where
  pub all : ArePartsOf lists (suc (stack_tasks rest)) ts ps
  pub piled : ArePiled lists rest below

taken_go : (lists : List (List ℕ)) (k : ℕ) (st : List Term) (acc ts : Parts) (rest : List Term) (xs below done : List Part)
    → length xs ≡ k → ArePiled lists st (xs ++ below)
    → ArePartsOf lists (suc (stack_tasks st)) acc done → gather k st acc ≡ Some (ts, rest) → Taken lists ts rest (reverse xs ++ done) below
taken_go lists zero st acc ts rest [] below done n h a e =
    let s = some_same e in
    record {
      all = subst (λ (r : Parts × List Term). ArePartsOf lists (suc (stack_tasks r.1)) r.0 done) s a;
      piled = subst (λ (r : Parts × List Term). ArePiled lists r.1 below) s h;
    }
taken_go lists zero st acc ts rest (x ∷ xs) below done n h a e = absurd (omega arith)
taken_go lists (suc k) st acc ts rest [] below done n h a e = absurd (omega arith)
taken_go lists (suc k) [] acc ts rest (x ∷ xs) below done n h a e = absurd h
taken_go lists (suc k) (t ∷ st) acc ts rest (x ∷ xs) below done n h a e =
    let b : suc (task_count t + stack_tasks st) ≡ suc (stack_tasks st) + task_count t = omega arith in
    let r = taken_go lists k st (part t acc) ts rest xs below (x ∷ done)
    (omega arith) h.1 (h.0, subst (λ (m : ℕ). ArePartsOf lists m acc done) b a) e in
    let same : reverse xs ++ x ∷ done ≡ reverse (x ∷ xs) ++ done = grind (arith, common_steps) in
    subst (λ (l : List Part). Taken lists ts rest l below) same r

taken : (lists : List (List ℕ)) (k : ℕ) (st : List Term) (ts : Parts) (rest : List Term) (ps below : List Part)
    → length ps ≡ k → ArePiled lists st (reverse ps ++ below)
    → gather k st no_parts ≡ Some (ts, rest) → Taken lists ts rest ps below
taken lists k st ts rest ps below n h e =
    let r = taken_go lists k st no_parts ts rest (reverse ps) below []
    (let l : length (reverse ps) ≡ length ps = grind (arith, common_steps) in omega arith) h tt e in
    let same : reverse (reverse ps) ++ [] ≡ ps = grind (arith, common_steps) in
    subst (λ (l : List Part). Taken lists ts rest l below) same r

cut_at : (at : ℕ) (items : List Part) → reverse items ≡ reverse (drop at items) ++ reverse (take at items)
cut_at at items = ap (reverse {A = Part}) (sym (take-append-drop at items)) ∙ reverse-append (take at items) (drop at items)

pub par_taken : (r0 : List (List ℕ)) (st : List Term) (ts : Parts) (rest : List Term) (items low ps : List Part) (at many : ℕ)
    → gather many st no_parts ≡ Some (ts, rest) → ArePiled r0 st (reverse items)
    → at + many ≡ length items → low ≡ take at items → ps ≡ drop at items → Taken r0 ts rest ps (reverse low)
par_taken r0 st ts rest items low ps at many g piled n l d =
    let e : reverse items ≡ reverse ps ++ reverse low = cut_at at items ∙ rw (l, d) refl in
    taken r0 many st ts rest ps (reverse low)
    (ap (length {A = Part}) d ∙ length-drop at items ∙ omega arith) (subst (ArePiled r0 st) e piled) g

piled_length : (lists : List (List ℕ)) (st : List Term) (ps : List Part) → ArePiled lists st ps → length ps ≡ length st
piled_length lists [] [] h = refl
piled_length lists [] (p ∷ ps) h = absurd h
piled_length lists (t ∷ st) [] h = absurd h
piled_length lists (t ∷ st) (p ∷ ps) h = let r = piled_length lists st ps h.1 in omega arith

gathered_length : (k : ℕ) (st : List Term) (acc ts : Parts) (rest : List Term) → gather k st acc ≡ Some (ts, rest) → k ≤ length st
gathered_length zero st acc ts rest e = omega arith
gathered_length (suc k) [] acc ts rest e = absurd (none_some e)
gathered_length (suc k) (t ∷ st) acc ts rest e = let r = gathered_length k st (part t acc) ts rest e in omega arith

-- a stack of terms has as many parts
pub stack_length : (r0 : List (List ℕ)) (st : List Term) (items : List Part) → ArePiled r0 st (reverse items) → length items ≡ length st
stack_length r0 st items piled = let b = piled_length r0 st (reverse items) piled in
    let c : length (reverse items) ≡ length items = grind (arith, common_steps) in
    omega arith

pub many_fit : (r0 : List (List ℕ)) (st : List Term) (ts : Parts) (rest : List Term) (items : List Part) (many : ℕ)
    → gather many st no_parts ≡ Some (ts, rest) → ArePiled r0 st (reverse items) → many ≤ length items
many_fit r0 st ts rest items many g piled =
    omega (arith, gathered_length many st no_parts ts rest g, stack_length r0 st items piled)

-- ---- one more part on top

pub one_more : (lists : List (List ℕ)) (st : List Term) (t : Term) (low : List Part) (p : Part)
    → IsPartOf lists (suc (stack_tasks st)) t p → ArePiled lists st (reverse low) → ArePiled lists (t ∷ st) (reverse (low ++ p ∷ []))
one_more lists st t low p h k = let e : p ∷ reverse low ≡ reverse (low ++ p ∷ []) = grind (arith, common_steps) in
    subst (ArePiled lists (t ∷ st)) e (h, k)

pub par_done : SideLaws → (r0 r2 : List (List ℕ)) (ts : Parts) (rest : List Term) (low ps : List Part) (p : Part) (items' : List Part)
    → Taken r0 ts rest ps (reverse low) → Extends r0 r2
    → cut_of r2 p ≡ par_cut (cuts_of r0 ps) → IsRough r2 p → p.peak ≡ sum_by (λ p. p.peak) ps
    → items' ≡ low ++ p ∷ [] → ArePiled r2 (par ts ∷ rest) (reverse items')
par_done laws r0 r2 ts rest low ps p items' t kept cut r peak new =
    let f = par_of r0 r2 (suc (stack_tasks rest)) ts ps p t.all cut r peak in
    subst (λ (l : List Part). ArePiled r2 (par ts ∷ rest) (reverse l)) (sym new)
    (one_more r2 rest (par ts) low p f (piled_kept laws r0 r2 rest (reverse low) t.piled kept))

-- the part on top, where it is changed in place
module _ (items : List Part) (top : ℕ) (some : 0 < length items) (last : top ≡ length items - 1) where
  none_above : drop (suc top) items ≡ []
  none_above = nil_from_length (drop (suc top) items) (length-drop (suc top) items ∙ omega arith)

  pub with_top : (p : Part) → set items top p ≡ take top items ++ p ∷ []
  with_top p = set_split items top p (omega arith) ∙ ap (λ (l : List Part). take top items ++ p ∷ l) none_above

  pub is_top : (p : Part) → p ≡ get_or items top p → items ≡ take top items ++ p ∷ []
  is_top p here = sym (set-get_or items top p) ∙ ap (set items top) (sym here) ∙ with_top p

-- ---- the two parts on top

pub record TwoTops (lists : List (List ℕ)) (st : List Term) (a b : Term) (low : List Part) (pa pb : Part) : Type 0 where
  pub first : IsPartOf lists (suc (stack_tasks st)) a pa
  pub second : IsPartOf lists (suc (stack_tasks st) + task_count a) b pb
  pub below : ArePiled lists st (reverse low)

reverse_two : (items low1 low : List Part) (pa pb : Part) → items ≡ low1 ++ pb ∷ []
    → low1 ≡ low ++ pa ∷ [] → reverse items ≡ pb ∷ pa ∷ reverse low
reverse_two items low1 low pa pb e f = rw (e, f) (grind (arith, common_steps))

pub two_tops : (lists : List (List ℕ)) (st : List Term) (a b : Term) (items low1 low : List Part) (pa pb : Part)
    → ArePiled lists (b ∷ a ∷ st) (reverse items) → items ≡ low1 ++ pb ∷ [] → low1 ≡ low ++ pa ∷ [] → TwoTops lists st a b low pa pb
two_tops lists st a b items low1 low pa pb h e f =
    let g = subst (ArePiled lists (b ∷ a ∷ st)) (reverse_two items low1 low pa pb e f) h in
    let n : suc (task_count a + stack_tasks st) ≡ suc (stack_tasks st) + task_count a = omega arith in
    record { first = g.1.0; second = subst (λ (m : ℕ). IsPartOf lists m b pb) n g.0; below = g.1.1 }

pub two_taken : (r0 : List (List ℕ)) (st : List Term) (ts : Parts) (rest : List Term) (items low1 low : List Part) (pa pb : Part)
    → gather 2 st no_parts ≡ Some (ts, rest) → ArePiled r0 st (reverse items) → items ≡ low1 ++ pb ∷ [] → low1 ≡ low ++ pa ∷ []
    → Taken r0 ts rest (pa ∷ pb ∷ []) (reverse low)
two_taken r0 st ts rest items low1 low pa pb g piled e f =
    taken r0 2 st ts rest (pa ∷ pb ∷ []) (reverse low) refl (subst (ArePiled r0 st) (reverse_two items low1 low pa pb e f) piled) g

-- what series_part asks
pub record Joined (lists : List (List ℕ)) (v : Task) (pa pb : Part) : Type 0 where
  pub first : IsRough lists pa
  pub second : IsRough lists pb
  pub joins : CanJoin pa v pb

module _ (laws : SideLaws) (r0 r2 : List (List ℕ)) (st : List Term)
    (a b : Term) (items low1 low : List Part) (pa pb : Part) (number : ℕ) (v : Task)
    (piled : ArePiled r0 (b ∷ a ∷ st) (reverse items)) (top1 : items ≡ low1 ++ pb ∷ []) (top2 : low1 ≡ low ++ pa ∷ []) where
  pub joins_fit : v.share ≤ final_of a → v.share ≤ v.extra + initial_of b
      → total_of a + v.extra + total_of b ≤ most_total → Joined r0 v pa pb
  joins_fit i o h =
      let t = two_tops r0 st a b items low1 low pa pb piled top1 top2 in
      let wa = end_within laws r0 (suc (stack_tasks st)) a pa t.first in
      let wb = start_within laws r0 (suc (stack_tasks st) + task_count a) b pb t.second in
      let ea = fin_is r0 (suc (stack_tasks st)) a pa t.first in
      let eb = initial_is r0 (suc (stack_tasks st) + task_count a) b pb t.second in
      let la = t.first.weight in let lb = t.second.weight in
      record {
        first = t.first.rough;
        second = t.second.rough;
        joins = record { inputs = omega arith; outputs = omega arith; hill = omega arith };
      }

  pub series_done : (p : Part) (items' : List Part) → v.share ≤ final_of a → number ≡ suc (stack_tasks (b ∷ a ∷ st)) → Extends r0 r2
      → cut_of r2 p ≡ series_cut (cut_of r0 pa) number (hill_between pa v pb) (cut_of r0 pb)
      → IsRough r2 p → p.peak ≡ max pa.peak (max (hill_between pa v pb) pb.peak)
      → items' ≡ low ++ p ∷ [] → ArePiled r2 (series a v b ∷ st) (reverse items')
  series_done p items' ok tk kept cut r peak new =
      let t = two_tops r0 st a b items low1 low pa pb piled top1 top2 in
      let n : number ≡ suc (stack_tasks st) + (task_count a + task_count b) = omega arith in
      let e : cut_of r2 p
      ≡ series_cut (cut_of r0 pa) (suc (stack_tasks st) + (task_count a + task_count b)) (hill_between pa v pb) (cut_of r0 pb) =
      cut ∙ ap (λ (k : ℕ). series_cut (cut_of r0 pa) k (hill_between pa v pb) (cut_of r0 pb)) n in
      let f = series_of laws r0 r2 (suc (stack_tasks st)) a v b pa pb p t.first t.second e r
      (omega (arith, fin_is r0 (suc (stack_tasks st)) a pa t.first)) peak in
      subst (λ (l : List Part). ArePiled r2 (series a v b ∷ st) (reverse l)) (sym new)
      (one_more r2 st (series a v b) low p f (piled_kept laws r0 r2 st (reverse low) t.below kept))
