-- The items of the terms on a stack, from the last position on.
use Rattle.std.proofs.Common.{◌≡◌, ℕ, zero, suc, ◌+◌, ◌-◌, ◌<◌, ◌≤◌, refl, sym, subst, ap, arith, ◌∙◌, List, [], ◌∷◌, ◌++◌}
use Rattle.std.proofs.Common.{length, length-append, take, get_or, replicate, reverse, Some, None, append_assoc, add-one}
use Rattle.std.proofs.lemmas.List.{append-nil, reverse-append, replicate_more}
use Rattle.std.proofs.Math.Seq.{take-length, take-append_seam, get_or-append_seam}
use Rattle.mp_system.specs.declared.system.Item.{Item}
use Rattle.sp_terms.specs.declared.position.Position.{Position}
use Rattle.sp_terms.specs.declared.position.Position.TheVariants.{Hold, Par}
use Rattle.sp_terms.specs.declared.system.Pending.{Pending}
use Rattle.sp_terms.specs.Term.{Term, series, par, Parts, no_parts, part, count}
use Rattle.sp_terms.specs.SystemOfTerm.{task_count, task_count_of_parts, items_of_term, items_of_parts, own_number}
use Rattle.sp_terms.specs.Postfix.{push_all}
use Rattle.sp_terms.specs.Values.{term_of, IsTerms, IsTaskPosition}
use Rattle.sp_terms.specs.Pending.{next_number, pending_items}
use Rattle.sp_terms.proofs.Stacks.{head_same, tail_same, onto, Pushed, held, ran, beside, place}
use Rattle.lists.proofs.Options.{some_same}
use Rattle.sp_terms.proofs.ValuesLemmas.{as_task, as_hold, as_par}

-- copies

reverse-more : {A : Type 0} (x : A) (xs : List A) → reverse (x ∷ xs) ≡ reverse xs ++ x ∷ []
reverse-more x xs = reverse-append (x ∷ []) xs

replicate-move : {A : Type 0} (n : ℕ) (x : A) (ys : List A) → x ∷ (replicate n x ++ ys) ≡ replicate n x ++ x ∷ ys
replicate-move zero x ys = refl
replicate-move (suc n) x ys = ap (λ z. x ∷ z) (replicate-move n x ys)

reverse-replicate : {A : Type 0} (n : ℕ) (x : A) → reverse (replicate n x) ≡ replicate n x
reverse-replicate zero x = refl
reverse-replicate (suc n) x =
    reverse-more x (replicate n x) ∙ ap (λ z. z ++ x ∷ []) (reverse-replicate n x)
    ∙ replicate_more n x ∙ ap (λ m. replicate m x) (add-one n)

-- the parts of a parallel composition
beside-items : (ts : Parts) (stack : List Term) (waiting : List Pending) (o : Pending)
    → pending_items (onto ts stack) (replicate (count ts) o ++ waiting)
    ≡ pending_items stack waiting ++ items_of_parts (next_number stack) o.from o.to ts
beside-items no_parts stack waiting o = sym (append-nil (pending_items stack waiting))
beside-items (part t ts) stack waiting o =
    ap (pending_items (onto ts (t ∷ stack))) (replicate-move (count ts) o waiting)
    ∙ beside-items ts (t ∷ stack) (o ∷ waiting) o
    ∙ append_assoc (pending_items stack waiting) (items_of_term (next_number stack) o.from o.to t)
    (items_of_parts (next_number stack + task_count t) o.from o.to ts)

beside-number : (ts : Parts) (stack : List Term) → next_number (onto ts stack) ≡ next_number stack + task_count_of_parts ts
beside-number no_parts stack = omega arith
beside-number (part t ts) stack = omega (arith, beside-number ts (t ∷ stack))

beside-length : {A : Type 0} (ts : Parts) (stack : List Term) (waiting : List A) (o : A)
    → length waiting ≡ length stack → length (replicate (count ts) o ++ waiting) ≡ length (onto ts stack)
beside-length no_parts stack waiting o e = e
beside-length (part t ts) stack waiting o e =
    ap length (replicate-move (count ts) o waiting) ∙ beside-length ts (t ∷ stack) (o ∷ waiting) o (ap suc e)

some_number : (stack : List Term) → 0 < next_number stack
some_number [] = omega arith
some_number (t ∷ stack) = omega (arith, some_number stack)

-- what is still to come after the positions from `at` on
pub record Opened (ps : List Position) (at own : ℕ) (pending : List Pending) (found : List Item) : Type 0 where
  pub stack : List Term
  pub waiting : List Pending
  pub few : at ≤ length ps
  pub is : push_all (take at ps) [] ≡ Some stack
  pub pending_is : pending ≡ reverse waiting
  pub same : length waiting ≡ length stack
  pub own_is : suc own ≡ next_number stack
  pub items_is : items_of_term 1 None None (term_of ps) ≡ pending_items stack waiting ++ reverse found

pub opened_none : (ps : List Position) (own : ℕ) → IsTerms ps → own ≡ task_count (term_of ps)
    → Opened ps (length ps) own (record { from = None; to = None } ∷ []) []
opened_none ps own h e = record {
  stack = term_of ps ∷ [];
  waiting = record { from = None; to = None } ∷ [];
  few = omega arith;
  is = ap (λ z. push_all z []) (take-length ps) ∙ h.is;
  pending_is = refl;
  same = refl;
  own_is = omega (arith, e);
  items_is = sym (append-nil (items_of_term 1 None None (term_of ps)));
}

pub opened_all : (ps : List Position) (at own : ℕ) (pending : List Pending) (found : List Item)
    → at ≡ 0 → Opened ps at own pending found → reverse found ≡ items_of_term 1 None None (term_of ps)
opened_all ps at own pending found zero_at h =
    let nothing : [] ≡ h.stack = some_same (subst (λ n. push_all (take n ps) [] ≡ Some h.stack) zero_at h.is) in
    sym (h.items_is ∙ ap (λ z. pending_items z h.waiting ++ reverse found) (sym nothing))

pub record Last (ps : List Position) (at own : ℕ) (pending : List Pending) (found : List Item) (p : Position) (o : Pending) : Type 0 where
  pub t : Term
  pub stack : List Term
  pub before : List Term
  pub waiting : List Pending
  pub few : at ≤ length ps
  pub some : 0 < length pending
  pub last : (d : Pending) → get_or pending (length pending - 1) d ≡ o
  pub rest : take (length pending - 1) pending ≡ reverse waiting
  pub same : length waiting ≡ length stack
  pub is : push_all (take (at - 1) ps) [] ≡ Some before
  pub step : Pushed p before (t ∷ stack)
  pub own_is : suc own ≡ next_number stack + task_count t
  pub items_is : items_of_term 1 None None (term_of ps)
      ≡ (pending_items stack waiting ++ items_of_term (next_number stack) o.from o.to t) ++ reverse found

pub last_of : (ps : List Position) (at own : ℕ) (pending : List Pending) (found : List Item) (d : Position)
    → IsTerms ps → 0 < at → Opened ps at own pending found
    → (o : Pending) × Last ps at own pending found (get_or ps (at - 1) d) o
last_of ps at own pending found d terms some_at h =
    let p = place ps _ (at - 1) d terms.is (omega (arith, h.few)) in
    let one : suc (at - 1) ≡ at = omega arith in
    let after : p.after ≡ h.stack = some_same (sym p.then ∙ ap (λ n. push_all (take n ps) []) one ∙ h.is) in
    go p.before p.after p.is p.step h.stack h.waiting after h.pending_is h.same h.own_is h.items_is
  where
    go : (before after : List Term) → push_all (take (at - 1) ps) [] ≡ Some before
        → Pushed (get_or ps (at - 1) d) before after → (stack : List Term) (waiting : List Pending)
        → after ≡ stack → pending ≡ reverse waiting → length waiting ≡ length stack → suc own ≡ next_number stack
        → items_of_term 1 None None (term_of ps) ≡ pending_items stack waiting ++ reverse found
        → (o : Pending) × Last ps at own pending found (get_or ps (at - 1) d) o
    go before after is step [] waiting e f same o g = absurd (nothing (get_or ps (at - 1) d) before after step e)
      where
        nil_cons : {A : Type 0} {x : A} {xs : List A} → x ∷ xs ≡ [] → ⊥
        nil_cons h = cc

        nothing : (p : Position) (before after : List Term) → Pushed p before after → after ≡ [] → ⊥
        nothing p before after (held size st) e = nil_cons e
        nothing p before after (ran v a b st) e = nil_cons e
        nothing p before after (beside ts st g) e = nil_cons e
    go before after is step (t ∷ stack) [] e f same o g = absurd (omega (arith, same))
    go before after is step (t ∷ stack) (s ∷ waiting) e f same o g =
        let eq : pending ≡ reverse waiting ++ s ∷ [] = f ∙ reverse-more s waiting in
        let len : length pending - 1 ≡ length (reverse waiting) = omega (arith, ap length eq, length-append (reverse waiting) (s ∷ [])) in (
          s,
          record {
            t = t;
            stack = stack;
            before = before;
            waiting = waiting;
            few = h.few;
            some = omega (arith, ap length eq, length-append (reverse waiting) (s ∷ []));
            last = λ x. (λ i. get_or (eq i) (len i) x) ∙ get_or-append_seam (reverse waiting) s [] x;
            rest = (λ i. take (len i) (eq i)) ∙ take-append_seam (reverse waiting) (s ∷ []);
            same = omega (arith, same);
            is = is;
            step = subst (Pushed (get_or ps (at - 1) d) before) e step;
            own_is = o;
            items_is = g;
          },
        )

module _ (ps : List Position) (at own : ℕ) (pending : List Pending) (found : List Item)
    (p : Position) (o : Pending) (h : Last ps at own pending found p o) where
  pub after_hold : (size : ℕ) → p ≡ Hold size
      → Opened ps (at - 1) own (take (length pending - 1) pending) (found ++ record { size = size; from = o.from; to = o.to } ∷ [])
  after_hold size e =
      let f = as_hold p h.before (h.t ∷ h.stack) h.step size e in
      let item : Item = record { size = size; from = o.from; to = o.to } in
      record {
        stack = h.before;
        waiting = h.waiting;
        few = omega (arith, h.few);
        is = h.is;
        pending_is = h.rest;
        same = h.same ∙ ap length (tail_same f);
        own_is = h.own_is ∙ plus_zero _ _ (ap task_count (head_same f)) ∙ ap next_number (tail_same f);
        items_is = h.items_is
            ∙ (λ i. (pending_items (tail_same f i) h.waiting ++ items_of_term (next_number (tail_same f i)) o.from o.to (head_same f i))
            ++ reverse found)
            ∙ append_assoc (pending_items h.before h.waiting) (item ∷ []) (reverse found)
            ∙ ap (λ z. pending_items h.before h.waiting ++ z) (sym (reverse-append found (item ∷ [])));
      }
    where
      plus_zero : (m n : ℕ) → n ≡ 0 → m + n ≡ m
      plus_zero m n e = omega arith

  pub after_task : IsTaskPosition p
      → (0 < own)
      × Opened ps (at - 1) (own - 1)
      ((take (length pending - 1) pending ++ record { from = o.from; to = Some own } ∷ []) ++ record { from = Some own; to = o.to } ∷ [])
      found
  after_task task =
      let (v, a, b, st, e, f) = as_task p h.before (h.t ∷ h.stack) h.step task in
      let top : h.t ≡ series a v b = head_same f in
      let low : h.stack ≡ st = tail_same f in
      let number : own ≡ own_number (next_number st) a b =
      plus_suc own (next_number st) (task_count a + task_count b) (h.own_is ∙ (λ i. next_number (low i) + task_count (top i))) in
      let one : Pending = record { from = o.from; to = Some own } in
      let two : Pending = record { from = Some own; to = o.to } in (
        omega (arith, number, some_number st),
        record {
          stack = h.before;
          waiting = two ∷ (one ∷ h.waiting);
          few = omega (arith, h.few);
          is = h.is;
          pending_is = ap (λ z. (z ++ one ∷ []) ++ two ∷ []) h.rest
              ∙ ap (λ z. z ++ two ∷ []) (sym (reverse-more one h.waiting)) ∙ sym (reverse-more two (one ∷ h.waiting));
          same = ap suc (ap suc (h.same ∙ ap length low)) ∙ sym (ap length e);
          own_is = less own (next_number st) (task_count a) (task_count b) number (some_number st) ∙ sym (ap next_number e);
          items_is = h.items_is
              ∙ (λ i. (pending_items (low i) h.waiting ++ items_of_term (next_number (low i)) o.from o.to (top i)) ++ reverse found)
              ∙ (λ i. (pending_items st h.waiting ++ (items_of_term (next_number st) o.from (Some (sym number i)) a
              ++ items_of_term (next_number st + task_count a) (Some (sym number i)) o.to b)) ++ reverse found)
              ∙ ap (λ z. z ++ reverse found) (sym (append_assoc (pending_items st h.waiting)
              (items_of_term (next_number st) o.from (Some own) a) (items_of_term (next_number st + task_count a) (Some own) o.to b)))
              ∙ ap (λ z. pending_items z (two ∷ (one ∷ h.waiting)) ++ reverse found) (sym e);
        },
      )
    where
      plus_suc : (own m n : ℕ) → suc own ≡ m + suc n → own ≡ m + n
      plus_suc own m n e = omega arith

      less : (own m x y : ℕ) → own ≡ m + (x + y) → 0 < m → suc (own - 1) ≡ m + x + y
      less own m x y e l = omega arith

  pub after_par : (k : ℕ) → p ≡ Par k → Opened ps (at - 1) own (take (length pending - 1) pending ++ replicate k o) found
  after_par k e =
      let (ts, st, n, x, f, g) = as_par p h.before (h.t ∷ h.stack) h.step k e in
      let top : h.t ≡ par ts = head_same f in
      let low : h.stack ≡ st = tail_same f in
      record {
        stack = h.before;
        waiting = replicate (count ts) o ++ h.waiting;
        few = omega (arith, h.few);
        is = h.is;
        pending_is = ap (λ z. z ++ replicate k o) h.rest ∙ ap (λ m. reverse h.waiting ++ replicate m o) (sym n)
            ∙ ap (λ z. reverse h.waiting ++ z) (sym (reverse-replicate (count ts) o))
            ∙ sym (reverse-append (replicate (count ts) o) h.waiting);
        same = beside-length ts st h.waiting o (h.same ∙ ap length low) ∙ sym (ap length x);
        own_is = h.own_is ∙ (λ i. next_number (low i) + task_count (top i)) ∙ sym (beside-number ts st) ∙ sym (ap next_number x);
        items_is = h.items_is
            ∙ (λ i. (pending_items (low i) h.waiting ++ items_of_term (next_number (low i)) o.from o.to (top i)) ++ reverse found)
            ∙ ap (λ z. z ++ reverse found) (sym (beside-items ts st h.waiting o))
            ∙ ap (λ z. pending_items z (replicate (count ts) o ++ h.waiting) ++ reverse found) (sym x);
      }

-- the same with what the code reads
pub last_read : (ps : List Position) (at own : ℕ) (pending : List Pending) (found : List Item) (d : Position)
    → IsTerms ps → 0 < at → Opened ps at own pending found
    → (n m : ℕ) → n ≡ m → m ≡ length pending → (x : Pending)
    → x ≡ get_or pending (n - 1) x → Last ps at own pending found (get_or ps (at - 1) d) x
last_read ps at own pending found d terms some_at h n m same len x read =
    let (o, l) = last_of ps at own pending found d terms some_at h in
    subst (Last ps at own pending found (get_or ps (at - 1) d))
    (sym (l.last x) ∙ ap (λ k. get_or pending (k - 1) x) (sym (same ∙ len)) ∙ sym read) l

pub some_pending : (ps : List Position) (at own : ℕ) (pending : List Pending) (found : List Item)
    → IsTerms ps → 0 < at → Opened ps at own pending found → 0 < length pending
some_pending ps at own pending found terms some_at h = (last_of ps at own pending found (Par 0) terms some_at h).1.some
