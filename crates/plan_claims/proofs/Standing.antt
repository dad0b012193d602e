-- The rows of terms that the first positions leave.
use Rattle.std.proofs.Common.{◌≡◌, ℕ, zero, suc, ◌+◌, ◌<◌, ◌≤◌, refl, sym, subst, ap, arith, ◌∙◌, List}
use Rattle.std.proofs.Common.{[], ◌∷◌, ◌++◌, take, length, reverse, get_or, Option, Some, None}
use Rattle.std.specs.Prelude.{option_and_then}
use Rattle.std.proofs.lemmas.Grind.{common_steps}
use Rattle.sp_terms.specs.declared.position.Position.{Position}
use Rattle.sp_terms.specs.declared.position.Position.TheVariants.{Hold, Par}
use Rattle.sp_terms.specs.declared.position.Position.TheVariants as at
use Rattle.sp_terms.specs.Places.{parts_of, list_of_parts, IsTermAt, positions_after}
use Rattle.sp_terms.specs.Postfix.{gather, push, push_all}
use Rattle.sp_terms.specs.Term.{Term, hold, series, par, Parts, no_parts, part, count, width_of, width_of_parts}
use Rattle.sp_terms.specs.Values.{IsTerms, AllAllowed, added_size, last_term, stack_from, stack_of, term_of, term_at}
use Rattle.sp_cuts.specs.Stacks.{total_of, total_of_parts}
use Rattle.plan_claims.specs.Rows.{row_of, IsNextRow}
use Rattle.sp_cuts.proofs.Pushed.{pushed_pick, split_at, take_more, all_add, push_all_append}
use Rattle.lists.proofs.Options.{none_some, some_same}

-- ---- sums over a stack

abbrev pub stack_total : List Term → ℕ
stack_total [] = 0
stack_total (t ∷ st) = total_of t + stack_total st

abbrev pub row_width : List Term → ℕ
row_width [] = 0
row_width (t ∷ ts) = width_of t + row_width ts

row_width_append : (a b : List Term) → row_width (a ++ b) ≡ row_width a + row_width b
row_width_append [] b = omega arith
row_width_append (t ∷ a) b = omega (arith, row_width_append a b)

total_append : (a b : List Term) → stack_total (a ++ b) ≡ stack_total a + stack_total b
total_append [] b = omega arith
total_append (t ∷ a) b = omega (arith, total_append a b)

allowed_append : (a b : List Term) → AllAllowed a → AllAllowed b → AllAllowed (a ++ b)
allowed_append [] b ha hb = hb
allowed_append (t ∷ a) b ha hb = (ha.0, allowed_append a b ha.1 hb)

-- ---- one position on a stack

-- the stack is this term on top of others, in place of its parts
record Pushed (p : Position) (st st' : List Term) : Type 0 where
  t : Term
  rest : List Term
  is : st' ≡ t ∷ rest
  was : st ≡ reverse (parts_of t) ++ rest
  own : IsTermAt p t

gathered : (k : ℕ) (st : List Term) (acc ts : Parts) (rest : List Term) → gather k st acc ≡ Some (ts, rest)
    → (count ts ≡ k + count acc) × (reverse (list_of_parts acc) ++ st ≡ reverse (list_of_parts ts) ++ rest)
gathered zero st acc ts rest e =
    let s = some_same e in
    subst
    (λ (r : Parts × List Term). (count r.0 ≡ 0 + count acc) × (reverse (list_of_parts acc) ++ st ≡ reverse (list_of_parts r.0) ++ r.1))
    s (omega arith, refl)
gathered (suc k) [] acc ts rest e = absurd (none_some e)
gathered (suc k) (t ∷ st) acc ts rest e =
    let r = gathered k st (part t acc) ts rest e in
    let move : reverse (list_of_parts acc) ++ t ∷ st ≡ reverse (t ∷ list_of_parts acc) ++ st = grind (arith, common_steps) in
    (omega (arith, r.0), move ∙ r.1)

picked : (o : Option (Parts × List Term)) (st' : List Term) → option_and_then (λ p. Some (par p.0 ∷ p.1)) o ≡ Some st'
    → (ts : Parts) × (rest : List Term) × (o ≡ Some (ts, rest)) × (st' ≡ par ts ∷ rest)
picked None st' e = absurd (none_some e)
picked (Some (ts, rest)) st' e = (ts, rest, refl, sym (some_same e))

pushed : (p : Position) (st st' : List Term) → push p st ≡ Some st' → Pushed p st st'
pushed (Hold size) st st' e = record { t = hold size; rest = st; is = sym (some_same e); was = grind (arith, common_steps); own = refl }
pushed (at.Task extra share time) [] st' e = absurd (none_some e)
pushed (at.Task extra share time) (b ∷ []) st' e = absurd (none_some e)
pushed (at.Task extra share time) (b ∷ a ∷ st) st' e =
    record {
      t = series a (record { extra = extra; share = share; time = time }) b;
      rest = st;
      is = sym (some_same e);
      was = two a b st;
      own = (a, b, refl);
    }
  where
    two : (a b : Term) (st : List Term) → ◌≡◌ {A = List Term} (b ∷ a ∷ st) (reverse (a ∷ b ∷ []) ++ st)
    two a b st = grind (arith, common_steps)
pushed (Par k) st st' e =
    let (ts, rest, g, is) = picked (gather k st no_parts) st' e in
    let r = gathered k st no_parts ts rest g in
    record { t = par ts; rest = rest; is = is; was = none st ∙ r.1; own = (ts, omega (arith, r.0), refl) }
  where
    none : (st : List Term) → st ≡ reverse (list_of_parts no_parts) ++ st
    none st = grind (arith, common_steps)

-- ---- the same as rows

-- the parts of a term that is allowed are allowed, and its sum is theirs and its own

total_of_list : (ts : Parts) → stack_total (list_of_parts ts) ≡ total_of_parts ts
total_of_list no_parts = refl
total_of_list (part t ts) = omega (arith, total_of_list ts)

width_of_list : (ts : Parts) → row_width (list_of_parts ts) ≡ width_of_parts ts
width_of_list no_parts = refl
width_of_list (part t ts) = omega (arith, width_of_list ts)

pub width_parts : (t : Term) → width_of t ≡ suc (row_width (parts_of t))
width_parts (hold size) = refl
width_parts (series a v b) = omega arith
width_parts (par ts) = omega (arith, width_of_list ts)

total_parts : (p : Position) (t : Term) → IsTermAt p t → total_of t ≡ stack_total (parts_of t) + added_size p
total_parts (Hold size) t e = ap total_of e ∙ omega (arith, ap (λ (u : Term). stack_total (parts_of u)) e)
total_parts (at.Task extra share time) t (a, b, e) = ap total_of e ∙ omega (arith, ap (λ (u : Term). stack_total (parts_of u)) e)
total_parts (Par k) t (ts, n, e) = ap total_of e ∙ omega (arith, total_of_list ts, ap (λ (u : Term). stack_total (parts_of u)) e)

reverse_total : (xs : List Term) → stack_total (reverse xs) ≡ stack_total xs
reverse_total [] = refl
reverse_total (t ∷ xs) =
    let e : reverse (t ∷ xs) ≡ reverse xs ++ t ∷ [] = grind (arith, common_steps) in
    ap stack_total e ∙ total_append (reverse xs) (t ∷ []) ∙ omega (arith, reverse_total xs)

reverse_allowed : (xs : List Term) → AllAllowed xs → AllAllowed (reverse xs)
reverse_allowed [] h = tt
reverse_allowed (t ∷ xs) h =
    let e : reverse (t ∷ xs) ≡ reverse xs ++ t ∷ [] = grind (arith, common_steps) in
    subst AllAllowed (sym e) (allowed_append (reverse xs) (t ∷ []) (reverse_allowed xs h.1) (h.0, tt))

split_push : (qs rs : List Position) (st out : List Term) → push_all (qs ++ rs) st ≡ Some out
    → (mid : List Term) × (push_all qs st ≡ Some mid) × (push_all rs mid ≡ Some out)
split_push [] rs st out e = (st, refl, e)
split_push (q ∷ qs) rs st out e =
    let (next, f, g) = pushed_pick (push q st) (qs ++ rs) out e in
    let (mid, a, b) = split_push qs rs next out g in
    (mid, ap (option_and_then (push_all qs)) f ∙ a, b)

pub next_at : (ps : List Position) (i : ℕ) (p : Position) → IsTerms ps → i < length ps
    → get_or ps i p ≡ p → IsNextRow p (term_at ps i) (row_of ps i) (row_of ps (suc i))
next_at ps i p a lt here =
    let (after, e) = split_at ps i p lt here in
    let whole : push_all (take i ps ++ p ∷ after) [] ≡ Some (term_of ps ∷ []) =
    subst (λ (l : List Position). push_all l [] ≡ Some (term_of ps ∷ [])) e a.is in
    let (mid, before, on) = split_push (take i ps) (p ∷ after) [] (term_of ps ∷ []) whole in
    let (next, f, g) = pushed_pick (push p mid) after (term_of ps ∷ []) on in
    let x = pushed p mid next f in
    let rest = all_add after next (term_of ps ∷ []) g in
    let all = all_add ps [] (term_of ps ∷ []) a.is in
    let r0 = rest.total_is in let a0 = all.total_is in
    let fits = a.total in
    let now : push_all (take (suc i) ps) [] ≡ Some next =
    ap (λ (l : List Position). push_all l []) (take_more ps i p lt here)
    ∙ push_all_append (take i ps) (p ∷ []) [] mid before ∙ ap (option_and_then (push_all [])) f in
    let stack0 : stack_of (take i ps) ≡ mid = ap stack_from before in
    let stack1 : stack_of (take (suc i) ps) ≡ x.t ∷ x.rest = ap stack_from now ∙ x.is in
    let term : term_at ps i ≡ x.t = ap last_term stack1 in
    let ok : AllAllowed (x.t ∷ x.rest) = subst AllAllowed x.is (rest.allowed a.allowed) in
    let y : IsNextRow p x.t (row_of ps i) (row_of ps (suc i)) =
    record {
      before = reverse x.rest;
      was = ap reverse (stack0 ∙ x.was) ∙ turned (parts_of x.t) x.rest;
      now_is = ap reverse stack1 ∙ one x.t x.rest;
      own = x.own;
      allowed = ok.0;
      within = omega (arith, ap stack_total x.is);
    } in
    subst (λ (t : Term). IsNextRow p t (row_of ps i) (row_of ps (suc i))) (sym term) y
  where
    turned : (xs ys : List Term) → reverse (reverse xs ++ ys) ≡ reverse ys ++ xs
    turned xs ys = grind (arith, common_steps)

    one : (t : Term) (ys : List Term) → reverse (t ∷ ys) ≡ reverse ys ++ t ∷ []
    one t ys = grind (arith, common_steps)

-- the row of all positions is the whole term
pub row_whole : (ps : List Position) → IsTerms ps → row_of ps (length ps) ≡ term_of ps ∷ []
row_whole ps a = ap (λ (l : List Position). reverse (stack_of l)) (all_taken ps)
    ∙ ap (λ (o : Option (List Term)). reverse (stack_from o)) a.is ∙ one (term_of ps)
  where
    all_taken : (xs : List Position) → take (length xs) xs ≡ xs
    all_taken xs = grind (arith, common_steps)

    one : (t : Term) → reverse (t ∷ []) ≡ t ∷ []
    one t = grind (arith, common_steps)

next_width : (p : Position) (t : Term) (row row' : List Term) → IsNextRow p t row row' → row_width row' ≡ suc (row_width row)
next_width p t row row' n =
    omega (
      arith,
      ap row_width n.was,
      ap row_width n.now_is,
      row_width_append n.before (parts_of t),
      row_width_append n.before (t ∷ []),
      width_parts t,
    )

pub index_there : (ps : List Position) (i : ℕ) → i < length ps → (p : Position) × (get_or ps i p ≡ p)
index_there [] i h = absurd (omega arith)
index_there (p ∷ ps) zero h = (p, refl)
index_there (p ∷ ps) (suc i) h = index_there ps i (omega arith)

pub next_there : (ps : List Position) (i : ℕ) → IsTerms ps → i < length ps
    → (p : Position) × IsNextRow p (term_at ps i) (row_of ps i) (row_of ps (suc i))
next_there ps i a lt = let (p, here) = index_there ps i lt in (p, next_at ps i p a lt here)

pub row_width_is : (ps : List Position) (i : ℕ) → IsTerms ps → i ≤ length ps → row_width (row_of ps i) ≡ i
row_width_is ps zero a h = refl
row_width_is ps (suc i) a h =
    let (p, n) = next_there ps i a (omega arith) in
    omega (arith, next_width p (term_at ps i) (row_of ps i) (row_of ps (suc i)) n, row_width_is ps i a (omega arith))

pub row_width_before : (before : List Term) (t : Term) → row_width (before ++ t ∷ []) ≡ row_width before + width_of t
row_width_before before t = row_width_append before (t ∷ []) ∙ omega arith

pub ends_append : (n : ℕ) (a b : List Term) → positions_after n (a ++ b) ≡ positions_after n a ++ positions_after (n + row_width a) b
ends_append n [] b = ap (λ (m : ℕ). positions_after m b) (omega arith)
ends_append n (t ∷ a) b = ap (λ (l : List ℕ). (n + width_of t) ∷ l)
    (ends_append (n + width_of t) a b ∙ ap (λ (m : ℕ). positions_after (n + width_of t) a ++ positions_after m b) (omega arith))

pub ends_length : (n : ℕ) (a : List Term) → length (positions_after n a) ≡ length a
ends_length n [] = refl
ends_length n (t ∷ a) = ap suc (ends_length (n + width_of t) a)
