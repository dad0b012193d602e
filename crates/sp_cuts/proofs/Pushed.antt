-- What each kind of position does, and what holds along the positions.
use Rattle.std.proofs.Common.{◌≡◌, ℕ, zero, suc, ◌+◌, ◌-◌, ◌*◌, ◌<◌, ◌≤◌, ◌^◌, List, [], ◌∷◌, ◌++◌, refl, ap, sym, ◌∙◌}
use Rattle.std.proofs.Common.{arith, subst, length, reverse, Option, Some, None, take, drop, get_or, slice_index_or}
use Rattle.std.specs.Prelude.{option_and_then}
use Rattle.std.specs.List.{sum_by}
use Rattle.std.proofs.lemmas.Grind.{common_steps}
use Rattle.std.proofs.lemmas.List.Sums.{sum_by-cons}
use Rattle.limits.specs.Limits.{most_total, most_tasks}
use Rattle.mp_system.specs.declared.system.Task.{Task}
use Rattle.sp_terms.specs.declared.position.Position.{Position}
use Rattle.sp_terms.specs.declared.position.Position.TheVariants.{Hold, Par}
use Rattle.sp_terms.specs.declared.position.Position.TheVariants as at
use Rattle.sp_terms.specs.Term.{Term, hold, series, par, Parts, no_parts, part, AreAllowed}
use Rattle.sp_terms.specs.Postfix.{gather, push, push_all}
use Rattle.sp_terms.specs.SystemOfTerm.{task_count, task_count_of_parts}
use Rattle.sp_terms.specs.Values.{IsTerms, term_of, AllAllowed, added_size, added_tasks}
use Rattle.cut_laws.specs.Cuts.{hold_cut}
use Rattle.sp_cuts.specs.declared.parts.Part.{Part}
use Rattle.sp_cuts.specs.Parts.{cut_of, IsPart, moves_between, moves_in}
use Rattle.segment_merge.specs.Laws.{SideLaws}
use Rattle.sp_cuts.specs.Stacks.{total_of_parts, IsPartOf, ArePiled, stack_tasks, stack_total, SeriesReady, SeriesDone, SeriesSteps}
use Rattle.sp_cuts.specs.Stacks.{ParReady, ParDone, PositionReady, PositionDone, AreMoved, ParSteps, PositionSteps}
use Rattle.sp_cuts.proofs.Moves.{moved_hold, moved_series, moved_par, moved_bound}
use Rattle.sp_cuts.proofs.Stacked.{one_more, hold_of, par_taken, two_tops, two_taken, stack_length}
use Rattle.lists.proofs.Options.{some_same}
use Rattle.lists.proofs.Options.{none_some}

-- ---- a data item

hold_go : (old : List (List ℕ)) (items : List Part) (size next : ℕ) (p : Part) (items' : List Part)
    → ((lists : List (List ℕ)) → cut_of lists p ≡ hold_cut size)
    → ((lists : List (List ℕ)) → IsPart lists p) → p.peak ≡ size → items' ≡ items ++ p ∷ []
    → PositionDone old old items items' (Hold size) next next
hold_go old items size next p items' cut is_part peak new st st' piled pushed allowed next_is =
    let e : hold size ∷ st ≡ st' = some_same pushed in
    let f : IsPartOf old (suc (stack_tasks st)) (hold size) p = hold_of old (suc (stack_tasks st)) size p (cut old) (is_part old) peak in
    let q : ArePiled old (hold size ∷ st) (reverse items') =
    subst (λ (l : List Part). ArePiled old (hold size ∷ st) (reverse l)) (sym new) (one_more old st (hold size) items p f piled) in
    (subst (λ (s : List Term). ArePiled old s (reverse items')) e q, let w = ap stack_tasks e in omega arith)

pub hold_done : (old : List (List ℕ)) (items : List Part) (position : Position) (size next : ℕ) (p : Part) (items' : List Part)
    → position ≡ Hold size → ((lists : List (List ℕ)) → cut_of lists p ≡ hold_cut size)
    → ((lists : List (List ℕ)) → IsPart lists p) → p.peak ≡ size
    → items' ≡ items ++ p ∷ [] → PositionDone old old items items' position next next
hold_done old items position size next p items' is cut is_part peak new =
    subst (λ (x : Position). PositionDone old old items items' x next next)
    (sym is) (hold_go old items size next p items' cut is_part peak new)

pub hold_fits : (lists : List (List ℕ)) (items : List Part) (position : Position) (size next : ℕ)
    → position ≡ Hold size → PositionReady lists items position next → size ≤ most_total
hold_fits lists items position size next is r =
    let s = subst (λ (x : Position). PositionReady lists items x next) is r in
    let e = ap stack_total (some_same s.pushed) in
    let w = s.within in
    omega arith

-- ---- a task

-- the task of a position
abbrev pub task_of : ℕ → ℕ → ℕ → Task
task_of extra share time = record { extra = extra; share = share; time = time }

series_go : (lists : List (List ℕ)) (items : List Part) (extra share time next : ℕ) (st st' : List Term)
    → ArePiled lists st (reverse items) → push (at.Task extra share time) st ≡ Some st' → AllAllowed st' → stack_total st' ≤ most_total
    → SeriesReady lists items (task_of extra share time)
series_go lists items extra share time next [] st' piled pushed allowed within = absurd (none_some pushed)
series_go lists items extra share time next (b ∷ []) st' piled pushed allowed within = absurd (none_some pushed)
series_go lists items extra share time next (b ∷ a ∷ st) st' piled pushed allowed within =
    let e = ap stack_total (some_same pushed) in
    let f = (subst AllAllowed (sym (some_same pushed)) allowed).0 in
    record { st = st; a = a; b = b; piled = piled; inputs = f.0; outputs = f.1; within = omega arith }

pub series_ready : (lists : List (List ℕ)) (items : List Part) (position : Position) (extra share time next : ℕ)
    → position ≡ at.Task extra share time → PositionReady lists items position next → SeriesReady lists items (task_of extra share time)
series_ready lists items position extra share time next is r =
    let s = subst (λ (x : Position). PositionReady lists items x next) is r in
    series_go lists items extra share time next s.st s.st' s.piled s.pushed s.allowed s.within

next_go : (extra share time : ℕ) (st st' : List Term)
    → push (at.Task extra share time) st ≡ Some st' → stack_tasks st' ≡ suc (stack_tasks st)
next_go extra share time [] st' pushed = absurd (none_some pushed)
next_go extra share time (b ∷ []) st' pushed = absurd (none_some pushed)
next_go extra share time (b ∷ a ∷ st) st' pushed = let e = ap stack_tasks (some_same pushed) in omega arith

pub next_fits : (lists : List (List ℕ)) (items : List Part) (position : Position) (extra share time next : ℕ)
    → position ≡ at.Task extra share time → PositionReady lists items position next → next ≤ most_tasks
next_fits lists items position extra share time next is r =
    let s = subst (λ (x : Position). PositionReady lists items x next) is r in
    let e = next_go extra share time s.st s.st' s.pushed in
    let n = s.next_is in
    let f = s.few in
    omega arith

task_go : (old new : List (List ℕ)) (items items' : List Part) (extra share time next : ℕ)
    → SeriesDone old new items items' next (task_of extra share time)
    → PositionDone old new items items' (at.Task extra share time) next (next + 1)
task_go old new items items' extra share time next h [] st' piled pushed allowed next_is = absurd (none_some pushed)
task_go old new items items' extra share time next h (b ∷ []) st' piled pushed allowed next_is = absurd (none_some pushed)
task_go old new items items' extra share time next h (b ∷ a ∷ st) st' piled pushed allowed next_is =
    let e : series a (task_of extra share time) b ∷ st ≡ st' = some_same pushed in
    let w = ap stack_tasks e in
    let f = (subst AllAllowed (sym e) allowed).0 in
    (subst (λ (s : List Term). ArePiled new s (reverse items')) e (h st a b f.0 next_is piled), omega arith)

pub task_done : (old new : List (List ℕ)) (items items' : List Part) (position : Position) (extra share time next : ℕ)
    → position ≡ at.Task extra share time → SeriesDone old new items items' next (task_of extra share time)
    → PositionDone old new items items' position next (next + 1)
task_done old new items items' position extra share time next is h =
    subst (λ (x : Position). PositionDone old new items items' x next (next + 1))
    (sym is) (task_go old new items items' extra share time next h)

-- ---- a par

record Gathered (o : Option (Parts × List Term)) (st' : List Term) : Type 0 where
  ts : Parts
  rest : List Term
  is : o ≡ Some (ts, rest)
  pushed : par ts ∷ rest ≡ st'

gathered : (o : Option (Parts × List Term)) (st' : List Term)
    → option_and_then (λ (p : Parts × List Term). Some (par p.0 ∷ p.1)) o ≡ Some st' → Gathered o st'
gathered None st' e = absurd (none_some e)
gathered (Some p) st' e = record { ts = p.0; rest = p.1; is = refl; pushed = some_same e }

pub par_ready : (lists : List (List ℕ)) (items : List Part) (position : Position) (many next : ℕ)
    → position ≡ Par many → PositionReady lists items position next → ParReady lists items many
par_ready lists items position many next is r =
    let s = subst (λ (x : Position). PositionReady lists items x next) is r in
    let q = gathered (gather many s.st no_parts) s.st' s.pushed in
    let e = ap stack_total q.pushed in
    let w = s.within in
    record { st = s.st; ts = q.ts; rest = q.rest; piled = s.piled; gathered = q.is; within = omega arith }

gather_tasks : (k : ℕ) (st : List Term) (acc ts : Parts) (rest : List Term) → gather k st acc ≡ Some (ts, rest)
    → task_count_of_parts ts + stack_tasks rest ≡ task_count_of_parts acc + stack_tasks st
gather_tasks zero st acc ts rest e = ap (λ (r : Parts × List Term). task_count_of_parts r.0 + stack_tasks r.1) (sym (some_same e))
gather_tasks (suc k) [] acc ts rest e = absurd (none_some e)
gather_tasks (suc k) (t ∷ st) acc ts rest e = let r = gather_tasks k st (part t acc) ts rest e in omega arith

par_go : (old new : List (List ℕ)) (items items' : List Part) (many next : ℕ)
    → ParDone old new items items' many → PositionDone old new items items' (Par many) next next
par_go old new items items' many next h st st' piled pushed allowed next_is =
    let q = gathered (gather many st no_parts) st' pushed in
    let w = gather_tasks many st no_parts q.ts q.rest q.is in
    let v = ap stack_tasks q.pushed in
    (subst (λ (s : List Term). ArePiled new s (reverse items')) q.pushed (h st q.ts q.rest q.is piled), omega arith)

pub par_position : (old new : List (List ℕ)) (items items' : List Part) (position : Position) (many next : ℕ)
    → position ≡ Par many → ParDone old new items items' many → PositionDone old new items items' position next next
par_position old new items items' position many next is h =
    subst (λ (x : Position). PositionDone old new items items' x next next) (sym is) (par_go old new items items' many next h)

-- ---- steps

pub par_steps : SideLaws
    → (lists : List (List ℕ)) (st : List Term) (ts : Parts) (rest : List Term) (total : ℕ) (items ps : List Part) (at many s s' : ℕ)
    → gather many st no_parts ≡ Some (ts, rest) → ArePiled lists st (reverse items) → AreMoved st total
    → at + many ≡ length items → ps ≡ drop at items → s' ≤ s + moves_in ps
    → (more : ℕ) × (s' ≤ s + more) × AreMoved (par ts ∷ rest) (total + more)
par_steps laws lists st ts rest total items ps at many s s' g piled moved n d le = (
  moves_in ps,
  le,
  moved_par laws lists (suc (stack_tasks rest)) many st ts rest ps total
      (par_taken lists st ts rest items (take at items) ps at many g piled n refl d).all moved g,
)

pub pair_steps : SideLaws
    → (lists : List (List ℕ)) (st : List Term) (ts : Parts) (rest : List Term) (total : ℕ) (items low1 low : List Part) (pa pb : Part)
    → (s s' : ℕ)
    → gather 2 st no_parts ≡ Some (ts, rest) → ArePiled lists st (reverse items) → AreMoved st total
    → items ≡ low1 ++ pb ∷ [] → low1 ≡ low ++ pa ∷ [] → s' ≤ s + moves_in (pa ∷ pb ∷ [])
    → (more : ℕ) × (s' ≤ s + more) × AreMoved (par ts ∷ rest) (total + more)
pair_steps laws lists st ts rest total items low1 low pa pb s s' g piled moved top1 top2 le = (
  moves_in (pa ∷ pb ∷ []),
  le,
  moved_par laws lists (suc (stack_tasks rest)) 2 st ts rest (pa ∷ pb ∷ []) total
      (two_taken lists st ts rest items low1 low pa pb g piled top1 top2).all moved g,
)

hold_steps_go : (lists : List (List ℕ)) (items : List Part) (size s s' : ℕ) → s' ≤ s → PositionSteps lists items (Hold size) s s'
hold_steps_go lists items size s s' le st st' total piled pushed moved = (
  0,
  omega arith,
  subst (λ (l : List Term). AreMoved l (total + 0)) (some_same pushed)
      (subst (AreMoved (hold size ∷ st)) (let n : total ≡ total + 0 = omega arith in n) (moved_hold size st total moved)),
)

pub hold_steps : (lists : List (List ℕ)) (items : List Part) (position : Position) (size s s' : ℕ)
    → position ≡ Hold size → s' ≤ s → PositionSteps lists items position s s'
hold_steps lists items position size s s' is le =
    subst (λ (x : Position). PositionSteps lists items x s s') (sym is) (hold_steps_go lists items size s s' le)

pub series_steps : SideLaws
    → (lists : List (List ℕ)) (st : List Term) (a b : Term) (v : Task) (total : ℕ) (items low1 low : List Part) (pa pb : Part) (s s' : ℕ)
    → ArePiled lists (b ∷ a ∷ st) (reverse items) → items ≡ low1 ++ pb ∷ [] → low1 ≡ low ++ pa ∷ []
    → AreMoved (b ∷ a ∷ st) total → s' ≤ s + moves_between pa pb
    → (more : ℕ) × (s' ≤ s + more) × AreMoved (series a v b ∷ st) (total + more)
series_steps laws lists st a b v total items low1 low pa pb s s' piled top1 top2 moved le =
    let t = two_tops lists st a b items low1 low pa pb piled top1 top2 in (
      moves_between pa pb,
      le,
      moved_series laws lists (suc (stack_tasks st))
          (suc (stack_tasks st) + task_count a) a v b pa pb st total t.first t.second moved,
    )

task_steps_go : (lists : List (List ℕ)) (items : List Part) (extra share time s s' : ℕ)
    → SeriesSteps lists items (task_of extra share time) s s' → PositionSteps lists items (at.Task extra share time) s s'
task_steps_go lists items extra share time s s' h [] st' total piled pushed moved = absurd (none_some pushed)
task_steps_go lists items extra share time s s' h (b ∷ []) st' total piled pushed moved = absurd (none_some pushed)
task_steps_go lists items extra share time s s' h (b ∷ a ∷ st) st' total piled pushed moved =
    let r = h st a b total piled moved in
    (r.0, r.1, subst (λ (l : List Term). AreMoved l (total + r.0)) (some_same pushed) r.2)

pub task_steps : (lists : List (List ℕ)) (items : List Part) (position : Position) (extra share time s s' : ℕ)
    → position ≡ at.Task extra share time → SeriesSteps lists items (task_of extra share time) s s'
    → PositionSteps lists items position s s'
task_steps lists items position extra share time s s' is h =
    subst (λ (x : Position). PositionSteps lists items x s s') (sym is) (task_steps_go lists items extra share time s s' h)

par_steps_go : (lists : List (List ℕ)) (items : List Part) (many s s' : ℕ)
    → ParSteps lists items many s s' → PositionSteps lists items (Par many) s s'
par_steps_go lists items many s s' h st st' total piled pushed moved =
    let q = gathered (gather many st no_parts) st' pushed in
    let r = h st q.ts q.rest total q.is piled moved in
    (r.0, r.1, subst (λ (l : List Term). AreMoved l (total + r.0)) q.pushed r.2)

pub par_position_steps : (lists : List (List ℕ)) (items : List Part) (position : Position) (many s s' : ℕ)
    → position ≡ Par many → ParSteps lists items many s s' → PositionSteps lists items position s s'
par_position_steps lists items position many s s' is h =
    subst (λ (x : Position). PositionSteps lists items x s s') (sym is) (par_steps_go lists items many s s' h)

-- ---- along the positions

gather_total : (k : ℕ) (st : List Term) (acc ts : Parts) (rest : List Term) → gather k st acc ≡ Some (ts, rest)
    → total_of_parts ts + stack_total rest ≡ total_of_parts acc + stack_total st
gather_total zero st acc ts rest e = ap (λ (r : Parts × List Term). total_of_parts r.0 + stack_total r.1) (sym (some_same e))
gather_total (suc k) [] acc ts rest e = absurd (none_some e)
gather_total (suc k) (t ∷ st) acc ts rest e = let r = gather_total k st (part t acc) ts rest e in omega arith

gather_allowed : (k : ℕ) (st : List Term) (acc ts : Parts) (rest : List Term)
    → gather k st acc ≡ Some (ts, rest) → AreAllowed ts → AllAllowed rest → AllAllowed st
gather_allowed k st acc ts rest e h g = (go k st acc ts rest e h g).0
  where
    go : (k : ℕ) (st : List Term) (acc ts : Parts) (rest : List Term) → gather k st acc ≡ Some (ts, rest)
        → AreAllowed ts → AllAllowed rest → AllAllowed st × AreAllowed acc
    go zero st acc ts rest e h g =
        let s = some_same e in
        (subst (λ (r : Parts × List Term). AllAllowed r.1) (sym s) g, subst (λ (r : Parts × List Term). AreAllowed r.0) (sym s) h)
    go (suc k) [] acc ts rest e h g = absurd (none_some e)
    go (suc k) (t ∷ st) acc ts rest e h g = let r = go k st (part t acc) ts rest e h g in ((r.1.0, r.0), r.1.1)

-- what a position adds, and that what was allowed after it was so before
pub record Adds (q : Position) (st st' : List Term) : Type 0 where
  pub total_is : stack_total st' ≡ stack_total st + added_size q
  pub tasks_is : stack_tasks st' ≡ stack_tasks st + added_tasks q
  pub allowed : AllAllowed st' → AllAllowed st

pub adds : (q : Position) (st st' : List Term) → push q st ≡ Some st' → Adds q st st'
adds (Hold size) st st' e =
    let t = ap stack_total (some_same e) in let w = ap stack_tasks (some_same e) in
    record { total_is = omega arith; tasks_is = omega arith; allowed = λ h. (subst AllAllowed (sym (some_same e)) h).1 }
adds (at.Task extra share time) [] st' e = absurd (none_some e)
adds (at.Task extra share time) (b ∷ []) st' e = absurd (none_some e)
adds (at.Task extra share time) (b ∷ a ∷ st) st' e =
    let t = ap stack_total (some_same e) in let w = ap stack_tasks (some_same e) in
    record {
      total_is = omega arith;
      tasks_is = omega arith;
      allowed = λ h. let f = subst AllAllowed (sym (some_same e)) h in (f.0.3, (f.0.2, f.1));
    }
adds (Par k) st st' e =
    let q = gathered (gather k st no_parts) st' e in
    let w = gather_tasks k st no_parts q.ts q.rest q.is in
    let t = gather_total k st no_parts q.ts q.rest q.is in
    let ws = ap stack_tasks q.pushed in
    let ts = ap stack_total q.pushed in
    record {
      total_is = omega arith;
      tasks_is = omega arith;
      allowed = λ h. let f = subst AllAllowed (sym q.pushed) h in gather_allowed k st no_parts q.ts q.rest q.is f.0.1 f.1;
    }

pub pushed_pick : (o : Option (List Term)) (qs : List Position) (out : List Term)
    → option_and_then (push_all qs) o ≡ Some out → (next : List Term) × (o ≡ Some next) × (push_all qs next ≡ Some out)
pushed_pick None qs out e = absurd (none_some e)
pushed_pick (Some next) qs out e = (next, refl, e)

pub record AllAdd (qs : List Position) (st out : List Term) : Type 0 where
  pub total_is : stack_total out ≡ stack_total st + sum_by added_size qs
  pub tasks_is : stack_tasks out ≡ stack_tasks st + sum_by added_tasks qs
  pub allowed : AllAllowed out → AllAllowed st

pub all_add : (qs : List Position) (st out : List Term) → push_all qs st ≡ Some out → AllAdd qs st out
all_add [] st out e = let t = ap stack_total (some_same e) in
    let w = ap stack_tasks (some_same e) in
    record { total_is = omega arith; tasks_is = omega arith; allowed = λ h. subst AllAllowed (sym (some_same e)) h }
all_add (q ∷ qs) st out e =
    let (next, f, g) = pushed_pick (push q st) qs out e in
    let a = adds q st next f in
    let b = all_add qs next out g in
    let a0 = a.total_is in let a1 = a.tasks_is in let b0 = b.total_is in let b1 = b.tasks_is in
    record {
      total_is = omega (arith, sum_by-cons added_size q qs);
      tasks_is = omega (arith, sum_by-cons added_tasks q qs);
      allowed = λ h. a.allowed (b.allowed h);
    }

pub push_all_append : (qs rs : List Position) (st mid : List Term) → push_all qs st ≡ Some mid → push_all (qs ++ rs) st ≡ push_all rs mid
push_all_append [] rs st mid e = ap (push_all rs) (some_same e)
push_all_append (q ∷ qs) rs st mid e =
    let (next, f, g) = pushed_pick (push q st) qs mid e in
    ap (option_and_then (push_all (qs ++ rs))) f ∙ push_all_append qs rs next mid g

pub split_at : (ps : List Position) (i : ℕ) (p : Position) → i < length ps
    → get_or ps i p ≡ p → (after : List Position) × (ps ≡ take i ps ++ p ∷ after)
split_at [] i p h e = absurd (omega arith)
split_at (q ∷ ps) zero p h e = (ps, ap (λ (x : Position). x ∷ ps) e)
split_at (q ∷ ps) (suc i) p h e = let r = split_at ps i p (omega arith) e in (r.0, ap (λ (l : List Position). q ∷ l) r.1)

pub take_more : (ps : List Position) (i : ℕ) (p : Position) → i < length ps → get_or ps i p ≡ p → take (suc i) ps ≡ take i ps ++ p ∷ []
take_more [] i p h e = absurd (omega arith)
take_more (q ∷ ps) zero p h e = ap (λ (x : Position). x ∷ []) e
take_more (q ∷ ps) (suc i) p h e = ap (λ (l : List Position). q ∷ l) (take_more ps i p (omega arith) e)

take_all : (ps : List Position) (n : ℕ) → n ≡ length ps → take n ps ≡ ps
take_all [] zero e = refl
take_all [] (suc n) e = absurd (omega arith)
take_all (p ∷ ps) zero e = absurd (omega arith)
take_all (p ∷ ps) (suc n) e = ap (λ (l : List Position). p ∷ l) (take_all ps n (omega arith))

-- the positions before this one leave a stack, and the parts are those of its terms
pub record Standing (ps : List Position) (i : ℕ) (lists : List (List ℕ)) (items : List Part) (next : ℕ) : Type 0 where
  pub st : List Term
  pub pushed : push_all (take i ps) [] ≡ Some st
  pub piled : ArePiled lists st (reverse items)
  pub next_is : next ≡ suc (stack_tasks st)

pub standing_starts : (ps : List Position) (lists : List (List ℕ)) (items : List Part) → items ≡ [] → Standing ps 0 lists items 1
standing_starts ps lists items e =
    record { st = []; pushed = refl; piled = subst (λ (l : List Part). ArePiled lists [] (reverse l)) (sym e) tt; next_is = omega arith }

-- the stack after this position too
pub record OneOn (ps : List Position) (i : ℕ) (p : Position) (st : List Term) : Type 0 where
  pub st' : List Term
  pub pushed : push p st ≡ Some st'
  pub pushed_all : push_all (take (i + 1) ps) [] ≡ Some st'
  pub allowed : AllAllowed st'
  pub total_le : stack_total st' ≤ most_total
  pub tasks_le : stack_tasks st' ≤ task_count (term_of ps)
  pub few : stack_tasks st' ≤ most_tasks

pub one_on : (ps : List Position) (i : ℕ) (p : Position) (st : List Term) → IsTerms ps
    → i < length ps → get_or ps i p ≡ p → push_all (take i ps) [] ≡ Some st → OneOn ps i p st
one_on ps i p st a lt here pushed =
    let (after, e) = split_at ps i p lt here in
    let whole : push_all (take i ps ++ p ∷ after) [] ≡ Some (term_of ps ∷ []) =
    subst (λ (l : List Position). push_all l [] ≡ Some (term_of ps ∷ [])) e a.is in
    let on : push_all (p ∷ after) st ≡ Some (term_of ps ∷ []) = sym (push_all_append (take i ps) (p ∷ after) [] st pushed) ∙ whole in
    let (st', f, g) = pushed_pick (push p st) after (term_of ps ∷ []) on in
    let rest = all_add after st' (term_of ps ∷ []) g in
    let all = all_add ps [] (term_of ps ∷ []) a.is in
    let t = rest.total_is in let w = rest.tasks_is in
    let t' = all.total_is in let w' = all.tasks_is in
    let within = a.total in let few = a.few_tasks in
    let n : i + 1 ≡ suc i = omega arith in
    record {
      st' = st';
      pushed = f;
      pushed_all = ap (λ (l : List Position). push_all l []) (ap (λ (k : ℕ). take k ps) n ∙ take_more ps i p lt here)
          ∙ push_all_append (take i ps) (p ∷ []) [] st pushed ∙ ap (option_and_then (push_all [])) f;
      allowed = rest.allowed a.allowed;
      total_le = omega arith;
      tasks_le = omega arith;
      few = omega arith;
    }

pub index_there : (ps : List Position) (i : ℕ) (p : Position) → ((d : Position) → p ≡ slice_index_or ps (i + 1 - 1) d) → get_or ps i p ≡ p
index_there ps i p h = let e : i + 1 - 1 ≡ i = omega arith in subst (λ (k : ℕ). get_or ps k p ≡ p) e (sym (h p))

module _ (ps : List Position) (i : ℕ) (p : Position) (lists : List (List ℕ)) (items : List Part) (next : ℕ)
    (a : IsTerms ps) (s : Standing ps i lists items next) (lt : i < length ps) (here : get_or ps i p ≡ p) where
  pub standing_ready : PositionReady lists items p next
  standing_ready =
      let o = one_on ps i p s.st a lt here s.pushed in
      record {
        st = s.st;
        st' = o.st';
        piled = s.piled;
        pushed = o.pushed;
        allowed = o.allowed;
        next_is = s.next_is;
        within = o.total_le;
        few = o.few;
      }

  pub standing_on : (lists' : List (List ℕ)) (items' : List Part) (next' : ℕ)
      → PositionDone lists lists' items items' p next next' → Standing ps (i + 1) lists' items' next'
  standing_on lists' items' next' done =
      let o = one_on ps i p s.st a lt here s.pushed in
      let d = done s.st o.st' s.piled o.pushed o.allowed s.next_is in
      record { st = o.st'; pushed = o.pushed_all; piled = d.0; next_is = d.1 }

-- at the end one part is that of the whole term
pub standing_ends : (ps : List Position) (i : ℕ) (lists : List (List ℕ)) (items : List Part) (next : ℕ)
    → IsTerms ps → Standing ps i lists items next → i ≡ length ps → ArePiled lists (term_of ps ∷ []) (reverse items)
standing_ends ps i lists items next a s n =
    let e : s.st ≡ term_of ps ∷ [] = some_same (sym s.pushed ∙ ap (λ (l : List Position). push_all l []) (take_all ps i n) ∙ a.is) in
    subst (λ (st : List Term). ArePiled lists st (reverse items)) e s.piled

pub standing_top : (lists : List (List ℕ)) (t : Term) (items low : List Part) (p : Part)
    → ArePiled lists (t ∷ []) (reverse items) → items ≡ low ++ p ∷ [] → IsPartOf lists 1 t p
standing_top lists t items low p h e =
    let f : reverse items ≡ p ∷ reverse low = rw e (grind (arith, common_steps)) in
    (subst (ArePiled lists (t ∷ [])) f h).0

pub standing_some : (lists : List (List ℕ)) (t : Term) (items : List Part) → ArePiled lists (t ∷ []) (reverse items) → length items ≡ 1
standing_some lists t items h = stack_length lists (t ∷ []) items h

-- what was moved before a position
pub record Spent (ps : List Position) (i s0 s : ℕ) : Type 0 where
  pub st : List Term
  pub pushed : push_all (take i ps) [] ≡ Some st
  pub total : ℕ
  pub moved : AreMoved st total
  pub le : s ≤ s0 + total

pub spent_starts : (ps : List Position) (s0 : ℕ) → Spent ps 0 s0 s0
spent_starts ps s0 = record { st = []; pushed = refl; total = 0; moved = refl; le = omega arith }

module _ (laws : SideLaws) (ps : List Position) (i : ℕ) (p : Position) (lists : List (List ℕ)) (items : List Part)
    (next : ℕ) (a : IsTerms ps) (s : Standing ps i lists items next) (lt : i < length ps) (here : get_or ps i p ≡ p)
    (s0 n n' : ℕ) (x : Spent ps i s0 n) (more : PositionSteps lists items p n n') where
  record After : Type 0 where
    st' : List Term
    pushed : push_all (take (i + 1) ps) [] ≡ Some st'
    total : ℕ
    moved : AreMoved st' total
    le : n' ≤ s0 + total
    tasks_le : stack_tasks st' ≤ task_count (term_of ps)

  after_it : After
  after_it =
      let o = one_on ps i p s.st a lt here s.pushed in
      let same : x.st ≡ s.st = some_same (sym x.pushed ∙ s.pushed) in
      let r = more s.st o.st' x.total s.piled o.pushed (subst (λ (l : List Term). AreMoved l x.total) same x.moved) in
      let le = x.le in
      let le' = r.1 in
      record { st' = o.st'; pushed = o.pushed_all; total = x.total + r.0; moved = r.2; le = omega arith; tasks_le = o.tasks_le }

  pub spent_on : Spent ps (i + 1) s0 n'
  spent_on = let y = after_it in record { st = y.st'; pushed = y.pushed; total = y.total; moved = y.moved; le = y.le }

  pub spent_stopped : (d : ℕ) → task_count (term_of ps) < 2 ^ d → n' ≤ s0 + task_count (term_of ps) * d
  spent_stopped d h =
      let y = after_it in
      let le = y.le in
      let b = moved_bound laws y.st' y.total (task_count (term_of ps)) d y.moved y.tasks_le h in
      omega arith

-- no more was moved than before the position
pub spent_here : SideLaws → (ps : List Position) (i : ℕ) (p : Position) (s0 n : ℕ) → IsTerms ps → Spent ps i s0 n
    → i < length ps → get_or ps i p ≡ p → (d : ℕ) → task_count (term_of ps) < 2 ^ d → n ≤ s0 + task_count (term_of ps) * d
spent_here laws ps i p s0 n a x lt here d h =
    let o = one_on ps i p x.st a lt here x.pushed in
    let w = (adds p x.st o.st' o.pushed).tasks_is in
    let t = o.tasks_le in
    let le = x.le in
    let b = moved_bound laws x.st x.total (task_count (term_of ps)) d x.moved (omega arith) h in
    omega arith

pub spent_ends : SideLaws → (ps : List Position) (i s0 s : ℕ) → IsTerms ps → Spent ps i s0 s
    → i ≡ length ps → (d : ℕ) → task_count (term_of ps) < 2 ^ d → s ≤ s0 + task_count (term_of ps) * d
spent_ends laws ps i s0 s a x n d h =
    let e : x.st ≡ term_of ps ∷ [] = some_same (sym x.pushed ∙ ap (λ (l : List Position). push_all l []) (take_all ps i n) ∙ a.is) in
    let w = ap stack_tasks e in
    let le = x.le in
    let b = moved_bound laws x.st x.total (task_count (term_of ps)) d x.moved (omega arith) h in
    omega arith
