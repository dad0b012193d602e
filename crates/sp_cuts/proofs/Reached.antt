-- The staircases of the positions, one after the other.
use Rattle.std.proofs.Common.{◌≡◌, ℕ, suc, ◌+◌, ◌-◌, ◌<◌, ◌≤◌, List, [], ◌∷◌, ◌++◌, Option, Some}
use Rattle.std.proofs.Common.{None, length, length-append, get_or, reverse, take, refl, ap, sym}
use Rattle.std.proofs.Common.{◌∙◌, subst, arith}
use Rattle.std.specs.Prelude.{option_and_then}
use Rattle.std.specs.List.{slice_get}
use Rattle.std.proofs.lemmas.Grind.{common_steps}
use Rattle.std.proofs.lemmas.List.Sums.{sum_by-append}
use Rattle.std.proofs.lemmas.Option.{slice_get_read, slice_get-get_or}
use Rattle.limits.specs.Limits.{most_steps}
use Rattle.side_laws.specs.Segments.{lowest}
use Rattle.hill_valley.specs.Side.{profile}
use Rattle.hill_valley.specs.Staircase.{AreSteps}
use Rattle.segment_merge.specs.Laws.{SideLaws}
use Rattle.sp_terms.specs.declared.position.Position.{Position}
use Rattle.sp_terms.specs.declared.position.Position.TheVariants.{Hold, Par}
use Rattle.sp_terms.specs.declared.position.Position.TheVariants as at
use Rattle.sp_terms.specs.Postfix.{gather, push, push_all}
use Rattle.sp_terms.specs.Term.{Term, par, Parts, no_parts, forward, backward, IsAllowed}
use Rattle.sp_terms.specs.Values.{IsTerms, term_at, last_term, stack_from}
use Rattle.cut_laws.specs.Names.{Names, names_of, numbered}
use Rattle.cut_laws.specs.Standing.{IsLowestReached, StandsFor}
use Rattle.cut_laws.specs.TermCuts.{cut_of_term}
use Rattle.sp_cuts.specs.declared.parts.Part.{Part}
use Rattle.sp_cuts.specs.Parts.{cut_of}
use Rattle.sp_cuts.specs.Reaching.{CanBeRun, AreStepsOf, IsLast}
use Rattle.sp_cuts.specs.Stacks.{IsPartOf, ArePiled, stack_tasks, PositionReady, PositionDone}
use Rattle.sp_cuts.specs.Stairs.{BothSteps, AreStairsOf, AreStairsFrom, AreStairs, step_total}
use Rattle.sp_cuts.specs.Stairs.{PassesLimit, both_of, all_of}
use Rattle.sp_cuts.specs.StairLaws.{OneStaircase}
use Rattle.sp_cuts.specs.declared.reaching.Stairs.{Stairs}
use Rattle.sp_cuts.proofs.Kept.{within}
use Rattle.sp_cuts.proofs.OneStaircase.{staircase_of, start_is, first_have_fewer}
use Rattle.sp_cuts.proofs.Pushed.{Standing, standing_ready, standing_on}
use Rattle.sp_cuts.proofs.Stacked.{stack_length, start_within, end_within}
use Rattle.lists.proofs.Options.{some_same}
use Rattle.lists.proofs.Options.{none_some}

-- ---- the last part

pub last_split : (items : List Part) (p : Part) → IsLast items p → (low : List Part)
    × (items ≡ low ++ p ∷ [])
last_split [] p h = absurd (none_some h)
last_split (x ∷ []) p h =
    let z : length (x ∷ []) - 1 ≡ 0 = omega arith in
    let e : x ≡ p = some_same (subst (λ (k : ℕ). slice_get (x ∷ []) k ≡ Some p) z h) in
    ([], ap (λ (y : Part). y ∷ []) e)
last_split (x ∷ y ∷ ys) p h =
    let z : length (x ∷ y ∷ ys) - 1 ≡ suc (length (y ∷ ys) - 1) = omega arith in
    let r = last_split (y ∷ ys) p (subst (λ (k : ℕ). slice_get (x ∷ y ∷ ys) k ≡ Some p) z h) in
    (x ∷ r.0, ap (λ (l : List Part). x ∷ l) r.1)

-- it is that of the last term
pub record IsTop (lists : List (List ℕ)) (st : List Term) (p : Part) : Type 0 where
  pub t : Term
  pub rest : List Term
  pub is : st ≡ t ∷ rest
  pub part : IsPartOf lists (suc (stack_tasks rest)) t p

turned : (items low : List Part) (p : Part) → items ≡ low ++ p ∷ []
    → reverse items ≡ p ∷ reverse low
turned items low p e = rw e (grind (arith, common_steps))

pub top_of : (lists : List (List ℕ)) (st : List Term) (items : List Part) (p : Part)
    → ArePiled lists st (reverse items) → IsLast items p
    → IsTop lists st p
top_of lists st items p piled last =
    let r = last_split items p last in
    go st (reverse r.0) (subst (ArePiled lists st) (turned items r.0 p r.1) piled)
  where
    go : (st : List Term) (below : List Part) → ArePiled lists st (p ∷ below) → IsTop lists st p
    go [] below h = absurd h
    go (t ∷ st) below h = record { t = t; rest = st; is = refl; part = h.0 }

pub has_room : SideLaws → (lists : List (List ℕ)) (base : ℕ) (t : Term) (p : Part)
    → IsPartOf lists base t p → CanBeRun p
has_room laws lists base t p h =
    let w = within laws lists p h.rough.both in
    let f = w.front_net in
    let b = w.back_net in
    let start = start_within laws lists base t p h in
    let end = end_within laws lists base t p h in
    let most = h.rough.within in
    record { front = omega arith; back = omega arith; initial = omega arith; fin = omega arith }

-- ---- its staircases

module _ (laws : SideLaws) (stands : (t : Term) (n : Names t) → IsAllowed t
    → StandsFor t (names_of t n) (cut_of_term t n)) where
  pub stairs_of : (lists : List (List ℕ)) (base : ℕ) (t : Term) (p : Part) (s : BothSteps)
      → IsAllowed t → IsPartOf lists base t p
      → AreStepsOf p s → AreStairsOf t s
  stairs_of lists base t p s allowed h steps =
      let names = names_of t (numbered base t) in
      let c = cut_of lists p in
      let stand : StandsFor t names c = subst (StandsFor t names) (sym h.cut)
      (stands t (numbered base t) allowed) in
      let f = laws.runs.profile lists p.front in
      let b = laws.runs.profile lists p.back in
      record {
        front = staircase_of forward t p.initial (profile p.front) s.front
            (start_is forward t names c stand)
            (λ limit lt. subst (λ ss. IsLowestReached forward t limit (lowest limit p.initial ss)) f
            (stand.staircase forward limit lt)) steps.front;
        back = staircase_of backward t p.fin (profile p.back) s.back
            (start_is backward t names c stand)
            (λ limit lt. subst (λ ss. IsLowestReached backward t limit (lowest limit p.fin ss)) b
            (stand.staircase backward limit lt)) steps.back;
      }

-- ---- the stack after a position

picked : (o : Option (Parts × List Term)) (st' : List Term) → option_and_then (λ (p : Parts
    × List Term). Some (par p.0 ∷ p.1)) o ≡ Some st'
    → 0 < length st'
picked None st' e = absurd (none_some e)
picked (Some p) st' e = let l = ap length (some_same e) in omega arith

pushed_some : (p : Position) (st st' : List Term) → push p st ≡ Some st' → 0 < length st'
pushed_some (Hold size) st st' e = let l = ap length (some_same e) in omega arith
pushed_some (at.Task extra share time) [] st' e = absurd (none_some e)
pushed_some (at.Task extra share time) (b ∷ []) st' e = absurd (none_some e)
pushed_some (at.Task extra share time) (b ∷ a ∷ st) st' e =
    let l = ap length (some_same e) in omega arith
pushed_some (Par k) st st' e = picked (gather k st no_parts) st' e

pub some_last : (old new : List (List ℕ)) (items items' : List Part) (p : Position) (next next' : ℕ)
    → PositionReady old items p next
    → PositionDone old new items items' p next next' → 0 < length items'
some_last old new items items' p next next' r done =
    let d = done r.st r.st' r.piled r.pushed r.allowed r.next_is in
    omega (arith, stack_length new r.st' items' d.0, pushed_some p r.st r.st' r.pushed)

-- the last term is that which ends at the position
pub ends_here : (ps : List Position) (i : ℕ) (st : List Term) (t : Term) (rest : List Term)
    → push_all (take (i + 1) ps) [] ≡ Some st
    → st ≡ t ∷ rest → t ≡ term_at ps i
ends_here ps i st t rest pushed is =
    let n : i + 1 ≡ suc i = omega arith in
    let e : push_all (take (suc i) ps) [] ≡ Some (t ∷ rest) =
    subst (λ (k : ℕ). push_all (take k ps) [] ≡ Some (t ∷ rest)) n (pushed ∙ ap Some is) in
    sym (ap (λ (o : Option (List Term)). last_term (stack_from o)) e)

module _ (laws : SideLaws) (stands : (t : Term) (n : Names t) → IsAllowed t
    → StandsFor t (names_of t n) (cut_of_term t n))
    (ps : List Position) (i : ℕ) (lists : List (List ℕ)) (items : List Part) (next : ℕ)
    (now : Standing ps (i + 1) lists items next) where
  pub last_has_room : (p : Part) → IsLast items p → CanBeRun p
  last_has_room p last =
      let x = top_of lists now.st items p now.piled last in
      has_room laws lists (suc (stack_tasks x.rest)) x.t p x.part

  pub last_is_stairs : (p : Part) (s : BothSteps) → IsAllowed (term_at ps i) → IsLast items p
      → AreStepsOf p s → AreStairsOf (term_at ps i) s
  last_is_stairs p s allowed last steps =
      let x = top_of lists now.st items p now.piled last in
      let e = ends_here ps i now.st x.t x.rest now.pushed x.is in
      stairs_of laws stands lists (suc (stack_tasks x.rest)) (term_at ps i) p s allowed
      (subst (λ (t : Term). IsPartOf lists (suc (stack_tasks x.rest)) t p) e x.part) steps

some_is_last : (items : List Part) → 0 < length items → (p : Part) × IsLast items p
some_is_last [] some = absurd (omega arith)
some_is_last (x ∷ xs) some = (
  get_or (x ∷ xs) (length (x ∷ xs) - 1) x,
  slice_get-get_or (x ∷ xs)
      (length (x ∷ xs) - 1) x (omega arith),
)

-- a position was put on the stack
module _ (laws : SideLaws) (stands : (t : Term) (n : Names t) → IsAllowed t
    → StandsFor t (names_of t n) (cut_of_term t n))
    (ps : List Position) (i : ℕ) (p : Position) (lists : List (List ℕ)) (items : List Part)
    (next : ℕ) (a : IsTerms ps)
    (s : Standing ps i lists items next) (lt : i < length ps) (here : get_or ps i p ≡ p)
    (lists' : List (List ℕ)) (items' : List Part) (next' : ℕ)
    (done : PositionDone lists lists' items items' p next next') where
  now : Standing ps (i + 1) lists' items' next'
  now = standing_on ps i p lists items next a s lt here lists' items' next' done

  pub some_here : 0 < length items'
  some_here = some_last lists lists' items items' p next next'
      (standing_ready ps i p lists items next a s lt here) done

  pub room_here : (q : Part) → IsLast items' q → CanBeRun q
  room_here q last = last_has_room laws stands ps i lists' items' next' now q last

  pub stairs_here : IsAllowed (term_at ps i) → (both : BothSteps) → ((q : Part) → IsLast items' q
      → AreStepsOf q both)
      → AreStairsOf (term_at ps i) both
  stairs_here allowed both steps =
      let last = some_is_last items' some_here in
      last_is_stairs laws stands ps i lists' items' next' now last.0 both allowed last.1
      (steps last.0 last.1)

-- ---- the list so far

pub with_next : (ps : List Position) (k : ℕ) (all : List BothSteps) (s : BothSteps)
    → AreStairsFrom ps k all
    → AreStairsOf (term_at ps (k + length all)) s → AreStairsFrom ps k (all ++ s ∷ [])
with_next ps k [] s h one = let e : k + 0 ≡ k = omega arith
    in (subst (λ (j : ℕ). AreStairsOf (term_at ps j) s) e one, tt)
with_next ps k (x ∷ all) s h one =
    let e : k + length (x ∷ all) ≡ k + 1 + length all = omega arith in
    (h.0, with_next ps (k + 1) all s h.1 (subst (λ (j : ℕ). AreStairsOf (term_at ps j) s) e one))

pub total_next : (all : List BothSteps) (s : BothSteps)
    → step_total (all ++ s ∷ []) ≡ step_total all + (length s.front + length s.back)
total_next all s = sum_by-append (λ (x : BothSteps). length x.front + length x.back) all (s ∷ [])
    ∙ omega arith

-- ---- in code

pub is_last : (ps : List Part) (p : Part) → 0 < length ps → p ≡ get_or ps (length ps - 1) p
    → IsLast ps p
is_last ps p some is = slice_get_read ps (length ps) (length ps - 1) p refl (omega arith) is

pub steps_are : (ps : List Part) (q p : Part) (s : BothSteps) → IsLast ps q → IsLast ps p
    → AreSteps q.initial (profile q.front) s.front
    → AreSteps q.fin (profile q.back) s.back → AreStepsOf p s
steps_are ps q p s is last front back =
    let e : q ≡ p = some_same (sym is ∙ last) in
    subst (λ (x : Part). AreStepsOf x s) e (record { front = front; back = back })

length_all : (found : List Stairs) → length (all_of found) ≡ length found
length_all [] = refl
length_all (x ∷ found) = ap suc (length_all found)

all_next : (found : List Stairs) (s : Stairs) → all_of (found ++ s ∷ []) ≡ all_of found ++ both_of s
    ∷ []
all_next [] s = refl
all_next (x ∷ found) s = ap (λ (l : List BothSteps). both_of x ∷ l) (all_next found s)

module _ (ps : List Position) (done : ℕ) (found : List Stairs) (s : Stairs)
    (many : length found ≡ done) (made : AreStairsFrom ps 0 (all_of found))
    (stairs : AreStairsOf (term_at ps done) (both_of s)) where
  all_made : AreStairsFrom ps 0 (all_of found ++ both_of s ∷ [])
  all_made =
      let e : done ≡ 0 + length (all_of found) = omega (arith, length_all found) in
      with_next ps 0 (all_of found) (both_of s) made
      (subst (λ (j : ℕ). AreStairsOf (term_at ps j) (both_of s)) e stairs)

  pub made_next : (found' : List Stairs) → found' ≡ found ++ s ∷ []
      → AreStairsFrom ps 0 (all_of found')
  made_next found' is = subst (AreStairsFrom ps 0) (sym (ap all_of is ∙ all_next found s)) all_made

  pub total_is : (found' : List Stairs) (total count : ℕ) → found' ≡ found ++ s ∷ []
      → total ≡ step_total (all_of found)
      → count ≡ length s.front.items + length s.back.items
      → total + count ≡ step_total (all_of found')
  total_is found' total count is before own =
      let e = ap step_total (ap all_of is ∙ all_next found s) in
      let f = total_next (all_of found) (both_of s) in
      omega arith

  pub passes_limit : OneStaircase → (all : List BothSteps) → AreStairs ps all → done < length ps
      → (total count : ℕ)
      → total ≡ step_total (all_of found) → count ≡ length s.front.items + length s.back.items
      → most_steps < total + count → PassesLimit ps
  passes_limit one all are lt total count before own more =
      let mine = all_of found ++ both_of s ∷ [] in
      let n = are.many in
      let e = length_all found in
      let len : length mine ≤ length all =
      omega (arith, length-append (all_of found) (both_of s ∷ [])) in
      let fewer = first_have_fewer one ps 0 mine all len all_made are.each in
      let f = total_next (all_of found) (both_of s) in
      record { all = all; are = are; many = omega arith }
