-- What a builder keeps, one position further.
use Rattle.std.proofs.Common.{◌≡◌, ℕ, zero, suc, ◌+◌, ◌-◌, ◌≤◌, false, refl, sym, subst, ap, arith, ◌∙◌, List, [], ◌∷◌, ◌++◌}
use Rattle.std.proofs.Common.{length, length-append, take, drop, get_or, Some, None, append_assoc, length-take, slice_set}
use Rattle.std.specs.Prelude.{◌||◌, nat_lt, if◌then◌else◌, option_and_then}
use Rattle.std.specs.List.{sum_by}
use Rattle.std.proofs.lemmas.List.{append-nil, take-take, take_rest, get_or_read}
use Rattle.std.proofs.lemmas.Bool.{ltb-false, or_parts}
use Rattle.std.proofs.lemmas.List.Elements.{All-push}
use Rattle.std.proofs.Math.Seq.{take-append_seam, get_or-append_seam, drop-append_seam}
use Rattle.std.proofs.lemmas.List.Sums.{sum_by-append, sum_by-cons, sum_by-take-drop}
use Rattle.sp_terms.specs.declared.position.Position.{Position}
use Rattle.sp_terms.specs.declared.position.Position.TheVariants.{Hold, Par}
use Rattle.sp_terms.specs.declared.position.Position.TheVariants as at
use Rattle.sp_terms.specs.declared.builder.Ends.{Ends}
use Rattle.limits.specs.Limits.{most_tasks, most_positions, most_total}
use Rattle.sp_terms.specs.declared.builder.PushRefusal.TheVariants.{Short}
use Rattle.sp_terms.specs.Term.{Term, hold, series, par, Parts, no_parts, part, count, forward}
use Rattle.sp_terms.specs.Term.{backward, first_memory, first_memory_of_parts, AreAllowed}
use Rattle.sp_terms.specs.Postfix.{gather, push, push_all, postfix}
use Rattle.sp_terms.specs.Values.{stack_from, stack_of, last_term, Leaves, IsTerms, AllAllowed, IsWithinLimits, added_tasks, added_size}
use Rattle.sp_terms.specs.Builder.{IsPosition, is_short, passed_limit, limit_of, is_overshared, share_refusal, limit_or, refusal_of}
use Rattle.sp_terms.specs.Ends.{ends_of, all_ends, IsBuilder, initial_at, fin_at, no_ends}
use Rattle.sp_terms.specs.Ends.{beside, par_ends, series_ends, next_ends, over_ends}
use Rattle.sp_terms.proofs.Stacks.{onto, Pushed, held, ran, beside as abreast, pushed, push_then, stack_postfix, all_pushed}
use Rattle.sp_terms.proofs.Standing.{stack_few}
use Rattle.sp_terms.proofs.ValuesLemmas.{first-le-weight}

-- one term

ends-length : (stack : List Term) → length (all_ends stack) ≡ length stack
ends-length [] = refl
ends-length (t ∷ stack) = length-append (all_ends stack) (ends_of t ∷ []) ∙ omega (arith, ends-length stack)

pub height : (ps : List Position) (ends : List Ends) (tasks total : ℕ) → IsBuilder ps ends tasks total → length ends ≡ length (stack_of ps)
height ps ends tasks total h = ap length h.ends_are ∙ ends-length (stack_of ps)

pub one_term : (ps : List Position) (ends : List Ends) (tasks total : ℕ) → IsBuilder ps ends tasks total → length ends ≡ 1 → IsTerms ps
one_term ps ends tasks total h e = subst (Leaves ps) (single (stack_of ps) (sym (height ps ends tasks total h) ∙ e)) h.leave
  where
    single : (stack : List Term) → length stack ≡ 1 → stack ≡ last_term stack ∷ []
    single [] e = absurd (omega (arith, e))
    single (t ∷ []) e = refl
    single (t ∷ (u ∷ stack)) e = absurd (omega (arith, e))

-- lists

pub set_last : {A : Type 0} (xs : List A) (n : ℕ) (v : A) → length xs ≡ suc n → slice_set xs n v ≡ take n xs ++ v ∷ []
set_last [] n v e = absurd (omega (arith, e))
set_last (x ∷ []) zero v e = refl
set_last (x ∷ (y ∷ xs)) zero v e = absurd (omega (arith, e))
set_last (x ∷ xs) (suc n) v e = ap (λ z. x ∷ z) (set_last xs n v (omega (arith, e)))

-- what was cut after a place, and that place set
pub cut_set : {A : Type 0} (xs cut : List A) (n m : ℕ) (v : A) → m ≡ suc n
    → m ≤ length xs → cut ≡ take m xs → slice_set cut n v ≡ take n xs ++ v ∷ []
cut_set xs cut n m v e le c =
    let cut_is : cut ≡ take (suc n) xs = c ∙ ap (λ k. take k xs) e in
    ap (λ z. slice_set z n v) cut_is
    ∙ set_last (take (suc n) xs) n v (length-take (suc n) xs ∙ omega (arith, le, e))
    ∙ ap (λ z. z ++ v ∷ []) (take-take n (suc n) xs (omega arith))

-- a position finds enough terms

gather_some : (k : ℕ) (stack : List Term) (us : Parts) → k ≤ length stack → (r : Parts × List Term) × (gather k stack us ≡ Some r)
gather_some zero stack us le = ((us, stack), refl)
gather_some (suc k) [] us le = absurd (omega arith)
gather_some (suc k) (t ∷ stack) us le = gather_some k stack (part t us) (omega arith)

pub push_some : (p : Position) (stack : List Term) → is_short (length stack) p ≡ false → (out : List Term) × (push p stack ≡ Some out)
push_some (Hold size) stack e = (hold size ∷ stack, refl)
push_some (at.Task x s t) [] e = absurd (omega (arith, ltb-false 0 2 e))
push_some (at.Task x s t) (b ∷ []) e = absurd (omega (arith, ltb-false (length (b ∷ [])) 2 e))
push_some (at.Task x s t) (b ∷ (a ∷ stack)) e = (series a (record { extra = x; share = s; time = t }) b ∷ stack, refl)
push_some (Par k) stack e =
    let (r, g) = gather_some k stack no_parts (ltb-false (length stack) k e) in
    (par r.0 ∷ r.1, ap (λ o. option_and_then (λ (p : Parts × List Term). Some (par p.0 ∷ p.1)) o) g)

-- the ends after a position

abbrev ends_list : Parts → List Ends
ends_list no_parts = []
ends_list (part t ts) = ends_of t ∷ ends_list ts

onto-ends : (ts : Parts) (stack : List Term) → all_ends (onto ts stack) ≡ all_ends stack ++ ends_list ts
onto-ends no_parts stack = sym (append-nil (all_ends stack))
onto-ends (part t ts) stack = onto-ends ts (t ∷ stack) ∙ append_assoc (all_ends stack) (ends_of t ∷ []) (ends_list ts)

list-length : (ts : Parts) → length (ends_list ts) ≡ count ts
list-length no_parts = refl
list-length (part t ts) = ap suc (list-length ts)

list-initial : (ts : Parts) → sum_by initial_at (ends_list ts) ≡ first_memory_of_parts forward ts
list-initial no_parts = refl
list-initial (part t ts) = sum_by-cons initial_at (ends_of t) (ends_list ts) ∙ ap (λ n. first_memory forward t + n) (list-initial ts)

list-fin : (ts : Parts) → sum_by fin_at (ends_list ts) ≡ first_memory_of_parts backward ts
list-fin no_parts = refl
list-fin (part t ts) = sum_by-cons fin_at (ends_of t) (ends_list ts) ∙ ap (λ n. first_memory backward t + n) (list-fin ts)

par-ends : (xs ys : List Ends) (k : ℕ) → length ys ≡ k → par_ends (xs ++ ys) k ≡ xs ++ beside ys ∷ []
par-ends xs ys k e =
    let n : length (xs ++ ys) - k ≡ length xs = omega (arith, length-append xs ys, e) in
    (λ i. take (n i) (xs ++ ys) ++ beside (drop (n i) (xs ++ ys)) ∷ [])
    ∙ (λ i. take-append_seam xs ys i ++ beside (drop-append_seam xs ys i) ∷ [])

series-ends : (xs : List Ends) (a b : Ends)
    → series_ends ((xs ++ a ∷ []) ++ b ∷ []) ≡ xs ++ record { initial = a.initial; fin = b.fin } ∷ []
series-ends xs a b =
    let all = (xs ++ a ∷ []) ++ b ∷ [] in
    let same : all ≡ xs ++ a ∷ (b ∷ []) = append_assoc xs (a ∷ []) (b ∷ []) in
    let n : length all - 2 ≡ length xs = omega (arith, ap length same, length-append xs (a ∷ (b ∷ []))) in
    let m : length all - 1 ≡ length (xs ++ a ∷ []) = omega (arith, length-append (xs ++ a ∷ []) (b ∷ [])) in
    let low : take (length all - 2) all ≡ xs = (λ i. take (n i) (same i)) ∙ take-append_seam xs (a ∷ (b ∷ [])) in
    let first : get_or all (length all - 2) no_ends ≡ a = (λ i. get_or (same i) (n i) no_ends) ∙ get_or-append_seam xs a (b ∷ []) no_ends in
    let last : get_or all (length all - 1) no_ends ≡ b =
    ap (λ k. get_or all k no_ends) m ∙ get_or-append_seam (xs ++ a ∷ []) b [] no_ends in
    λ i. low i ++ record { initial = (first i).initial; fin = (last i).fin } ∷ []

pub ends_push : (p : Position) (stack out : List Term) → Pushed p stack out → next_ends p (all_ends stack) ≡ all_ends out
ends_push p stack out (held size st) = refl
ends_push p stack out (ran v a b st) = series-ends (all_ends st) (ends_of a) (ends_of b)
ends_push p stack out (abreast ts st g) =
    ap (λ z. par_ends z (count ts)) (onto-ends ts st) ∙ par-ends (all_ends st) (ends_list ts) (count ts) (list-length ts)
    ∙ (λ i. all_ends st ++ record { initial = list-initial ts i; fin = list-fin ts i } ∷ [])

-- shares

onto-good : (ts : Parts) (stack : List Term) → AllAllowed (onto ts stack) → AreAllowed ts × AllAllowed stack
onto-good no_parts stack h = (tt, h)
onto-good (part t ts) stack h = let k = onto-good ts (t ∷ stack) h in ((k.1.0, k.0), k.1.1)

good_push : (p : Position) (stack out : List Term) → Pushed p stack out
    → IsPosition p → is_overshared p stack ≡ false → AllAllowed stack → AllAllowed out
good_push p stack out (held size st) a o g = (tt, g)
good_push p stack out (ran v x b st) a o g =
    let k = or_parts _ _ o in ((ltb-false _ _ k.0, ltb-false _ _ k.1, g.1.0, g.0), g.1.1)
good_push p stack out (abreast ts st f) a o g = let k = onto-good ts st g in ((a, k.0), k.1)

pub over_same : (p : Position) (stack : List Term) → is_short (length stack) p ≡ false
    → over_ends (all_ends stack) p ≡ is_overshared p stack
over_same (Hold size) stack e = refl
over_same (at.Task x s t) [] e = absurd (omega (arith, ltb-false 0 2 e))
over_same (at.Task x s t) (b ∷ []) e = absurd (omega (arith, ltb-false (length (b ∷ [])) 2 e))
over_same (at.Task x s t) (b ∷ (a ∷ stack)) e =
    let xs = all_ends stack in
    let all = (xs ++ ends_of a ∷ []) ++ ends_of b ∷ [] in
    let same : all ≡ xs ++ ends_of a ∷ (ends_of b ∷ []) = append_assoc xs (ends_of a ∷ []) (ends_of b ∷ []) in
    let n : length all - 2 ≡ length xs = omega (arith, ap length same, length-append xs (ends_of a ∷ (ends_of b ∷ []))) in
    let m : length all - 1 ≡ length (xs ++ ends_of a ∷ []) = omega (arith, length-append (xs ++ ends_of a ∷ []) (ends_of b ∷ [])) in
    let first : get_or all (length all - 2) no_ends ≡ ends_of a =
    (λ i. get_or (same i) (n i) no_ends) ∙ get_or-append_seam xs (ends_of a) (ends_of b ∷ []) no_ends in
    let last : get_or all (length all - 1) no_ends ≡ ends_of b =
    ap (λ k. get_or all k no_ends) m ∙ get_or-append_seam (xs ++ ends_of a ∷ []) (ends_of b) [] no_ends in
    λ i. nat_lt (first i).fin s || nat_lt (x + (last i).initial) s
over_same (Par k) stack e = refl

-- limits

pub record Fits (ps tasks total : ℕ) (p : Position) : Type 0 where
  pub within : IsWithinLimits p
  pub few : ps + 1 ≤ most_positions
  pub few_tasks : tasks + added_tasks p ≤ most_tasks
  pub total_is : total + added_size p ≤ most_total

pub fits : (n tasks total : ℕ) (p : Position) → IsPosition p → tasks ≤ most_tasks
    → total ≤ most_total → passed_limit n tasks total p ≡ None → Fits n tasks total p
fits n tasks total p a l m e = grind arith

-- the sums of the ends

ends-weight : (stack : List Term)
    → (sum_by initial_at (all_ends stack) ≤ sum_by added_size (stack_postfix stack))
    × (sum_by fin_at (all_ends stack) ≤ sum_by added_size (stack_postfix stack))
ends-weight [] = (omega arith, omega arith)
ends-weight (t ∷ stack) =
    let k = ends-weight stack in
    let s = sum_by-append added_size (stack_postfix stack) (postfix t) in (
      omega (arith, k.0, s, sum_by-append initial_at (all_ends stack) (ends_of t ∷ []), first-le-weight forward t),
      omega (arith, k.1, s, sum_by-append fin_at (all_ends stack) (ends_of t ∷ []), first-le-weight backward t),
    )

pub light : (ps : List Position) (ends : List Ends) (tasks total : ℕ) → IsBuilder ps ends tasks total
    → (sum_by initial_at ends ≤ most_total) × (sum_by fin_at ends ≤ most_total)
light ps ends tasks total h =
    let eq : ps ≡ stack_postfix (stack_of ps) = all_pushed ps [] (stack_of ps) h.leave.is in
    let k = ends-weight (stack_of ps) in (
      omega (arith, k.0, ap (sum_by added_size) eq, h.leave.total, ap (sum_by initial_at) h.ends_are),
      omega (arith, k.1, ap (sum_by added_size) eq, h.leave.total, ap (sum_by fin_at) h.ends_are),
    )

-- there are no more terms than positions

pub few_terms : (ps : List Position) (ends : List Ends) (tasks total : ℕ)
    → IsBuilder ps ends tasks total → length (stack_of ps) ≤ most_positions
few_terms ps ends tasks total h = omega (arith, stack_few ps (stack_of ps) h.leave.is, h.leave.few)

-- one position more

module _ (ps : List Position) (ends : List Ends) (tasks total : ℕ) (p : Position) (h : IsBuilder ps ends tasks total) where
  same_short : is_short (length ends) p ≡ is_short (length (stack_of ps)) p
  same_short = ap (λ n. is_short n p) (height ps ends tasks total h)

  same_limit : passed_limit (length ps) tasks total p ≡ limit_of ps p
  same_limit = λ i. passed_limit (length ps) (h.tasks_are i) (h.total_is i) p

  same_over : is_short (length ends) p ≡ false → over_ends ends p ≡ is_overshared p (stack_of ps)
  same_over e = ap (λ z. over_ends z p) h.ends_are ∙ over_same p (stack_of ps) (sym same_short ∙ e)

  -- the refusal, told from what the builder keeps
  pub refusal_is : refusal_of ps p ≡ (if is_short (length ends) p then Some Short
      else limit_or (passed_limit (length ps) tasks total p) (share_refusal (over_ends ends p)))
  refusal_is = let short = same_short in let limit = same_limit in let over = same_over in grind arith

  pub builder_more : IsPosition p → is_short (length ends) p ≡ false
      → passed_limit (length ps) tasks total p ≡ None → over_ends ends p ≡ false
      → IsBuilder (ps ++ p ∷ []) (next_ends p ends) (tasks + added_tasks p) (total + added_size p)
  builder_more a e l o =
      let (out, k) = push_some p (stack_of ps) (sym same_short ∙ e) in
      let step = pushed p (stack_of ps) out k in
      let all : push_all (ps ++ p ∷ []) [] ≡ Some out =
      push_then ps (p ∷ []) [] (stack_of ps) h.leave.is ∙ ap (option_and_then (push_all [])) k in
      let is_out : out ≡ stack_of (ps ++ p ∷ []) = sym (ap stack_from all) in
      let f =
      fits (length ps) tasks total p a (omega (arith, h.tasks_are, h.leave.few_tasks)) (omega (arith, h.total_is, h.leave.total)) l in
      let n = length-append ps (p ∷ []) in
      let r = sum_by-append added_tasks ps (p ∷ []) in
      let w = sum_by-append added_size ps (p ∷ []) in
      record {
        leave = subst (Leaves (ps ++ p ∷ [])) is_out (record {
          is = all;
          allowed = good_push p (stack_of ps) out step a (sym (same_over e) ∙ o) h.leave.allowed;
          within = All-push IsWithinLimits ps p h.leave.within f.within;
          few = omega (arith, n, f.few);
          few_tasks = omega (arith, r, f.few_tasks, h.tasks_are);
          total = omega (arith, w, f.total_is, h.total_is);
        });
        ends_are = ap (next_ends p) h.ends_are ∙ ends_push p (stack_of ps) out step ∙ ap all_ends is_out;
        tasks_are = omega (arith, r, h.tasks_are);
        total_is = omega (arith, w, h.total_is);
      }

-- what the code does to the ends

pub par_is : (xs ds cut : List Ends) (k n m : ℕ) (all : Ends) → n ≡ m → m ≡ length xs → 1 ≤ k → k ≤ length xs
    → ds ≡ xs → cut ≡ take (n - k + 1) xs → all ≡ beside (take (length ds - (n - k)) (drop (n - k) ds))
    → slice_set cut (n - k) all ≡ par_ends xs k
par_is xs ds cut k n m all e f a b d c g =
    let len : n ≡ length xs = e ∙ f in
    cut_set xs cut (n - k) (n - k + 1) all (omega arith) (omega (arith, len)) c
    ∙ (λ i. take (len i - k) xs ++ (g ∙ ap (λ z. beside (take (length z - (n - k)) (drop (n - k) z))) d
    ∙ ap beside (take_rest xs (n - k)) ∙ ap (λ q. beside (drop (q - k) xs)) len) i ∷ [])

pub rest_light : (xs ds : List Ends) (m : ℕ) → ds ≡ xs → (sum_by initial_at xs ≤ most_total) × (sum_by fin_at xs ≤ most_total)
    → (sum_by initial_at (take (length ds - m) (drop m ds)) ≤ most_total) × (sum_by fin_at (take (length ds - m) (drop m ds)) ≤ most_total)
rest_light xs ds m d h =
    let e : take (length ds - m) (drop m ds) ≡ drop m xs = take_rest ds m ∙ ap (drop m) d in (
      omega (arith, h.0, ap (sum_by initial_at) e, sum_by-take-drop initial_at xs m),
      omega (arith, h.1, ap (sum_by fin_at) e, sum_by-take-drop fin_at xs m),
    )

pub series_is : (xs cut : List Ends) (n m : ℕ) (a b : Ends) → 2 ≤ length xs → n ≡ m
    → m ≡ length xs → cut ≡ take (n - 1) xs → a ≡ get_or xs (n - 1 - 1) a → b ≡ get_or xs (n - 1) b
    → slice_set cut (n - 1 - 1) (record { initial = a.initial; fin = b.fin }) ≡ series_ends xs
series_is xs cut n m a b two e f c first last =
    let len : n ≡ length xs = e ∙ f in
    let low : n - 1 - 1 ≡ length xs - 2 = omega (arith, len) in
    let high : n - 1 ≡ length xs - 1 = omega (arith, len) in
    let a_is : a ≡ get_or xs (length xs - 2) no_ends =
    get_or_read xs (n - 1 - 1) a (omega (arith, len, two)) first no_ends ∙ ap (λ k. get_or xs k no_ends) low in
    let b_is : b ≡ get_or xs (length xs - 1) no_ends =
    get_or_read xs (n - 1) b (omega (arith, len, two)) last no_ends ∙ ap (λ k. get_or xs k no_ends) high in
    cut_set xs cut (n - 1 - 1) (n - 1) (record { initial = a.initial; fin = b.fin }) (omega (arith, len, two)) (omega (arith, len)) c
    ∙ (λ i. take (low i) xs ++ record { initial = (a_is i).initial; fin = (b_is i).fin } ∷ [])
