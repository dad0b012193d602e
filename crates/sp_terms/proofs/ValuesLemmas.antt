-- The values of the term that ends at a position, from those of the terms that end before it.
use Rattle.std.proofs.Common.{◌≡◌, ℕ, suc, ◌+◌, ◌-◌, ◌<◌, ◌≤◌, min, refl, sym, subst, ap, arith, ◌∙◌, List, []}
use Rattle.std.proofs.Common.{◌∷◌, ◌++◌, length, length-append, take, get_or, Some, append_assoc, length-take}
use Rattle.std.specs.List.{sum_by}
use Rattle.std.proofs.lemmas.List.{append-nil}
use Rattle.std.proofs.lemmas.Grind.{common_steps}
use Rattle.std.proofs.lemmas.List.Sums.{sum_by-append, sum_by-take-le}
use Rattle.limits.specs.Limits.{most_total}
use Rattle.mp_system.specs.declared.system.Task.{Task}
use Rattle.sp_terms.specs.declared.position.Position.{Position}
use Rattle.sp_terms.specs.declared.position.Values.{Values}
use Rattle.sp_terms.specs.declared.position.Position.TheVariants.{Hold, Par}
use Rattle.sp_terms.specs.declared.position.Position.TheVariants as at
use Rattle.sp_terms.specs.Term.{Term, hold, series, par, Parts, no_parts, part, count, width_of, width_of_parts, Direction}
use Rattle.sp_terms.specs.Term.{forward, backward, first_memory, first_memory_of_parts, least_of, least_of_parts}
use Rattle.sp_terms.specs.Postfix.{gather, push_all, postfix, all_postfix, at_task}
use Rattle.sp_terms.specs.Values.{stack_from, last_term, term_at, IsTerms, AreValues, values_of, added_size, IsTaskPosition}
use Rattle.sp_terms.proofs.Stacks.{onto, Pushed, held, ran, beside, place, under, length-all_postfix}
use Rattle.lists.proofs.Options.{some_same}
use Rattle.lists.proofs.Options.{none_some}

-- what a position is, and what it found
pub as_task : (p : Position) (before after : List Term) → Pushed p before after → IsTaskPosition p
    → (v : Task) × (a b : Term) × (stack : List Term) × (before ≡ b ∷ a ∷ stack) × (after ≡ series a v b ∷ stack)
as_task p before after (held size stack) h = absurd h
as_task p before after (ran v a b stack) h = (v, a, b, stack, refl, refl)
as_task p before after (beside ts stack e) h = absurd h

hold_par : {size k : ℕ} → Hold size ≡ Par k → ⊥
hold_par e = cc

task_par : {x s t k : ℕ} → at.Task x s t ≡ Par k → ⊥
task_par e = cc

hold_same : {x y : ℕ} → Hold x ≡ Hold y → x ≡ y
hold_same e = cc

task_hold : {x s t k : ℕ} → at.Task x s t ≡ Hold k → ⊥
task_hold e = cc

par_hold : {x y : ℕ} → Par x ≡ Hold y → ⊥
par_hold e = cc

par_same : {x y : ℕ} → Par x ≡ Par y → x ≡ y
par_same e = cc

pub as_hold : (p : Position) (before after : List Term) → Pushed p before after → (size : ℕ) → p ≡ Hold size → after ≡ hold size ∷ before
as_hold p before after (held size stack) n e = ap (λ z. hold z ∷ before) (hold_same e)
as_hold p before after (ran v a b stack) n e = absurd (task_hold e)
as_hold p before after (beside ts stack g) n e = absurd (par_hold e)

pub as_par : (p : Position) (before after : List Term) → Pushed p before after → (k : ℕ) → p ≡ Par k
    → (ts : Parts) × (stack : List Term) × (count ts ≡ k) × (before ≡ onto ts stack)
    × (after ≡ par ts ∷ stack) × (gather k before no_parts ≡ Some (ts, stack))
as_par p before after (held size stack) k e = absurd (hold_par e)
as_par p before after (ran v a b stack) k e = absurd (task_par e)
as_par p before after (beside ts stack g) k e =
    (ts, stack, par_same e, refl, refl, subst (λ n. gather n before no_parts ≡ Some (ts, stack)) (par_same e) g)

-- the term that ends before a place
pub ends : (ps : List Position) (n : ℕ) (t : Term) (stack : List Term)
    → 0 < n → push_all (take n ps) [] ≡ Some (t ∷ stack) → term_at ps (n - 1) ≡ t
ends ps n t stack lt e =
    let one : suc (n - 1) ≡ n = omega arith in
    ap (λ m. last_term (stack_from (push_all (take m ps) []))) one ∙ ap (λ o. last_term (stack_from o)) e

-- bounds

mutual
  pub first-le-weight : (d : Direction) (t : Term) → first_memory d t ≤ sum_by added_size (postfix t)
  first-le-weight d (hold size) = omega arith
  first-le-weight forward (series a v b) =
      omega (arith, sum_by-append added_size (postfix a) (postfix b ++ at_task v ∷ []), first-le-weight forward a)
  first-le-weight backward (series a v b) = omega (
    arith,
    sum_by-append added_size (postfix a) (postfix b ++ at_task v ∷ []),
    sum_by-append added_size (postfix b) (at_task v ∷ []),
    first-le-weight backward b,
  )
  first-le-weight d (par ts) = omega (arith, sum_by-append added_size (all_postfix ts) (Par (count ts) ∷ []), all_first-le-weight d ts)

  pub all_first-le-weight : (d : Direction) (ts : Parts) → first_memory_of_parts d ts ≤ sum_by added_size (all_postfix ts)
  all_first-le-weight d no_parts = omega arith
  all_first-le-weight d (part t ts) =
      omega (arith, sum_by-append added_size (postfix t) (all_postfix ts), first-le-weight d t, all_first-le-weight d ts)

mutual
  pub least-le-first : (t : Term) → least_of t ≤ first_memory forward t
  least-le-first (hold size) = omega arith
  least-le-first (series a v b) = omega (arith, least-le-first a)
  least-le-first (par ts) = all_least-le-first ts

  pub all_least-le-first : (ts : Parts) → least_of_parts ts ≤ first_memory_of_parts forward ts
  all_least-le-first no_parts = omega arith
  all_least-le-first (part t ts) = omega (arith, least-le-first t, all_least-le-first ts)

-- a series

abbrev pub no_values : Values
no_values = record { initial = 0; fin = 0; least = 0; width = 0 }

-- the values of the second part, and those of the first part before it
abbrev pub right_at : List Values → ℕ → Values
right_at values at = get_or values (at - 1) no_values

abbrev pub left_at : List Values → ℕ → Values
left_at values at = get_or values (at - 1 - (right_at values at).width) no_values

pub record SeriesAt (ps : List Position) (values : List Values) (at : ℕ) : Type 0 where
  pub some : 0 < at
  pub room : (right_at values at).width ≤ at - 1
  pub few : (left_at values at).width + (right_at values at).width ≤ at
  pub own : record {
    initial = (left_at values at).initial;
    fin = (right_at values at).fin;
    least = min (left_at values at).least (right_at values at).least;
    width = (left_at values at).width + (right_at values at).width + 1;
  }
      ≡ values_of (term_at ps at)

-- the values of a series are those of its two parts, put together
series_own : (left right : Values) (a b : Term) (v : Task) (whole : Term) → left ≡ values_of a → right ≡ values_of b → whole ≡ series a v b
    → record { initial = left.initial; fin = right.fin; least = min left.least right.least; width = left.width + right.width + 1 }
    ≡ values_of whole
series_own left right a b v whole is_left is_right is_whole =
    (λ i. record {
      initial = (is_left i).initial;
      fin = (is_right i).fin;
      least = min (is_left i).least (is_right i).least;
      width = (is_left i).width + (is_right i).width + 1;
    })
    ∙ ap (λ n. record { initial = first_memory forward a; fin = first_memory backward b; least = min (least_of a) (least_of b); width = n })
    (more (width_of a) (width_of b))
    ∙ sym (ap values_of is_whole)
  where
    more : (m n : ℕ) → m + n + 1 ≡ suc (m + n)
    more m n = omega arith

pub series_at : (ps : List Position) (values : List Values) (at : ℕ) → IsTerms ps → at < length ps
    → AreValues ps values at → ((d : Position) → IsTaskPosition (get_or ps at d)) → SeriesAt ps values at
series_at ps values at h lt known task =
    let p = place ps _ at (Par 0) h.is lt in
    let (v, a, b, stack, e, f) = as_task _ p.before p.after p.step (task (Par 0)) in
    let u = under ps at b (a ∷ stack) (omega arith) (p.is ∙ ap Some e) in
    let w = under ps (at - width_of b) a stack (omega arith) u.is in
    let right_is : term_at ps (at - 1) ≡ b = ends ps at b (a ∷ stack) (omega (arith, u.room, u.some)) (p.is ∙ ap Some e) in
    let left_is : term_at ps (at - width_of b - 1) ≡ a = ends ps (at - width_of b) a stack (omega (arith, w.room, w.some)) u.is in
    let own_is : term_at ps at ≡ series a v b = ap (λ o. last_term (stack_from o)) p.then ∙ ap last_term f in
    let right : right_at values at ≡ values_of b = known (at - 1) no_values (omega (arith, u.room, u.some)) ∙ ap values_of right_is in
    let wide : (right_at values at).width ≡ width_of b = ap (λ (v : Values). v.width) right in
    let left : left_at values at ≡ values_of a =
    ap (λ n. get_or values n no_values) (let e : at - 1 - (right_at values at).width ≡ at - width_of b - 1 = omega arith in e)
    ∙ known (at - width_of b - 1) no_values (omega (arith, u.room, u.some)) ∙ ap values_of left_is in
    let long : (left_at values at).width ≡ width_of a = ap (λ (v : Values). v.width) left in
    record {
      some = omega (arith, u.room, u.some);
      room = omega (arith, wide, u.room, w.room, w.some);
      few = omega (arith, wide, long, u.room, w.room);
      own = series_own _ _ a b v _ left right own_is;
    }

-- a parallel composition: parts that were taken, from the last one on

abbrev pub all_values : Parts → Values
all_values ts = record {
  initial = first_memory_of_parts forward ts;
  fin = first_memory_of_parts backward ts;
  least = least_of_parts ts;
  width = suc (width_of_parts ts);
}

pub record Taken (ps : List Position) (at left end : ℕ) (all : Values) : Type 0 where
  pub parts : Parts
  pub whole : Parts
  pub stack : List Term
  pub rest : List Term
  pub few : end ≤ at
  pub is : push_all (take end ps) [] ≡ Some stack
  pub gathers : gather left stack parts ≡ Some (whole, rest)
  pub top : term_at ps at ≡ par whole
  pub cut : take end ps ++ all_postfix parts ≡ take at ps
  pub all_is : all ≡ all_values parts

pub taken_none : (ps : List Position) (at k : ℕ) → IsTerms ps → at < length ps
    → ((d : Position) → get_or ps at d ≡ Par k) → Taken ps at k at (record { initial = 0; fin = 0; least = 0; width = 1 })
taken_none ps at k h lt is =
    let p = place ps _ at (Par 0) h.is lt in
    let (ts, stack, n, e, f, g) = as_par _ p.before p.after p.step k (is (Par 0)) in
    record {
      parts = no_parts;
      whole = ts;
      stack = p.before;
      rest = stack;
      few = omega arith;
      is = p.is;
      gathers = g;
      top = ap (λ o. last_term (stack_from o)) p.then ∙ ap last_term f;
      cut = append-nil (take at ps);
      all_is = refl;
    }

pub taken_all : (ps : List Position) (at left end : ℕ) (all : Values)
    → Taken ps at left end all → left ≡ 0 → all ≡ values_of (term_at ps at)
taken_all ps at left end all h zero_left =
    let same : Some (h.parts, h.stack) ≡ Some (h.whole, h.rest) =
    subst (λ n. gather n h.stack h.parts ≡ Some (h.whole, h.rest)) zero_left h.gathers in
    let parts : h.parts ≡ h.whole = ap (λ p. p.0) (some_same same) in
    h.all_is ∙ ap (λ ts. values_of (par ts)) parts ∙ sym (ap values_of h.top)

pub record Take (ps : List Position) (at left end : ℕ) (all next : Values) : Type 0 where
  pub some : 0 < end
  pub room : next.width ≤ end
  pub few : all.width + next.width ≤ at + 1
  pub initial : all.initial + next.initial ≤ most_total
  pub fin : all.fin + next.fin ≤ most_total
  pub least : all.least + next.least ≤ most_total
  pub taken : Taken ps at (left - 1) (end - next.width) (record {
    initial = all.initial + next.initial;
    fin = all.fin + next.fin;
    least = all.least + next.least;
    width = all.width + next.width;
  })

pub take_next : (ps : List Position) (values : List Values) (at left end : ℕ) (all : Values) → IsTerms ps → at < length ps
    → AreValues ps values at → 0 < left → Taken ps at left end all → Take ps at left end all (right_at values end)
take_next ps values at left end all h lt known some_left k =
    let more : left ≡ suc (left - 1) = omega arith in
    go k.stack k.is (subst (λ n. gather n k.stack k.parts ≡ Some (k.whole, k.rest)) more k.gathers)
  where
    go : (stack : List Term) → push_all (take end ps) [] ≡ Some stack
        → gather (suc (left - 1)) stack k.parts ≡ Some (k.whole, k.rest) → Take ps at left end all (right_at values end)
    go [] e g = absurd (none_some g)
    go (t ∷ stack) e g =
        let u = under ps end t stack (omega (arith, k.few)) e in
        let top_is : term_at ps (end - 1) ≡ t = ends ps end t stack (omega (arith, u.room, u.some)) e in
        let cut : take (end - width_of t) ps ++ (postfix t ++ all_postfix k.parts) ≡ take at ps =
        sym (append_assoc (take (end - width_of t) ps) (postfix t) (all_postfix k.parts))
        ∙ ap (λ z. z ++ all_postfix k.parts) u.cut ∙ k.cut in
        let total : sum_by added_size (take at ps) ≤ most_total = omega (arith, sum_by-take-le added_size ps at, h.total) in
        let fits : sum_by added_size (postfix t ++ all_postfix k.parts) ≤ most_total = omega (
          arith,
          total,
          ap (sum_by added_size) cut,
          sum_by-append added_size (take (end - width_of t) ps) (postfix t ++ all_postfix k.parts),
        ) in
        let lens : end + width_of_parts k.parts ≡ at = omega (
          arith,
          ap length k.cut,
          length-append (take end ps) (all_postfix k.parts),
          length-take end ps,
          length-take at ps,
          k.few,
          length-all_postfix k.parts,
        ) in
        let a_initial : all.initial ≡ first_memory_of_parts forward k.parts = ap (λ (v : Values). v.initial) k.all_is in
        let a_fin : all.fin ≡ first_memory_of_parts backward k.parts = ap (λ (v : Values). v.fin) k.all_is in
        let a_least : all.least ≡ least_of_parts k.parts = ap (λ (v : Values). v.least) k.all_is in
        let a_width : all.width ≡ suc (width_of_parts k.parts) = ap (λ (v : Values). v.width) k.all_is in
        let b_initial : first_memory_of_parts forward (part t k.parts) ≤ most_total =
        omega (arith, fits, all_first-le-weight forward (part t k.parts)) in
        let b_fin : first_memory_of_parts backward (part t k.parts) ≤ most_total =
        omega (arith, fits, all_first-le-weight backward (part t k.parts)) in
        let b_least : least_of_parts (part t k.parts) ≤ most_total = omega (arith, b_initial, all_least-le-first (part t k.parts)) in
        let e_initial : all.initial + first_memory forward t ≡ first_memory_of_parts forward (part t k.parts) = omega (arith, a_initial) in
        let e_fin : all.fin + first_memory backward t ≡ first_memory_of_parts backward (part t k.parts) = omega (arith, a_fin) in
        let e_least : all.least + least_of t ≡ least_of_parts (part t k.parts) = omega (arith, a_least) in
        let e_width : all.width + width_of t ≡ suc (width_of_parts (part t k.parts)) = omega (arith, a_width) in
        subst (Take ps at left end all)
        (sym (known (end - 1) no_values (omega (arith, u.room, u.some, k.few)) ∙ ap values_of top_is)) (record {
          some = omega (arith, u.room, u.some);
          room = u.room;
          few = omega (arith, a_width, lens, u.room);
          initial = omega (arith, e_initial, b_initial);
          fin = omega (arith, e_fin, b_fin);
          least = omega (arith, e_least, b_least);
          taken = record {
            parts = part t k.parts;
            whole = k.whole;
            stack = stack;
            rest = k.rest;
            few = omega (arith, k.few);
            is = u.is;
            gathers = g;
            top = k.top;
            cut = cut;
            all_is = λ i. record { initial = e_initial i; fin = e_fin i; least = e_least i; width = e_width i };
          };
        })

pub hold_at : (ps : List Position) (at size : ℕ) (d : Position) → IsTerms ps → at < length ps
    → get_or ps at d ≡ Hold size → record { initial = size; fin = size; least = size; width = 1 } ≡ values_of (term_at ps at)
hold_at ps at size d h lt is =
    let p = place ps _ at d h.is lt in
    let top : term_at ps at ≡ hold size =
    ap (λ o. last_term (stack_from o)) p.then ∙ ap last_term (as_hold _ p.before p.after p.step size is) in
    sym (ap values_of top)

-- one more value
pub values_more : (ps : List Position) (values : List Values) (n : ℕ) (v : Values) → length values ≡ n
    → AreValues ps values n → v ≡ values_of (term_at ps n) → AreValues ps (values ++ v ∷ []) (n + 1)
values_more ps values n v len known e j d lt = grind (arith, common_steps, known j d)
