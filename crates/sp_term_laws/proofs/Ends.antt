-- Every term takes something in and leaves something, and so does each of its tasks.
use Rattle.std.proofs.Common.{◌≡◌, ℕ, suc, ◌+◌, ◌<◌, ◌≤◌, ◌⊎◌, inl, inr, true, false, refl, sym}
use Rattle.std.proofs.Common.{subst, ap, arith, ◌∙◌, List, [], ◌∷◌, ◌++◌, Option, Some}
use Rattle.mp_system.specs.declared.system.Item.{Item}
use Rattle.sp_terms.specs.SystemOfTerm.{own_number, task_count, task_count_of_parts, items_of_term, items_of_parts}
use Rattle.sp_terms.specs.Term.{Term, hold, series, par, Parts, no_parts, part, backward}
use Rattle.sp_term_laws.proofs.Parts.{IsSomePart, HasParts, HaveParts}
use Rattle.sp_term_laws.proofs.Words.{done_or}
use Rattle.sp_term_laws.specs.Moves.{State, States, first_state, first_states}
use Rattle.sp_term_laws.proofs.At.{Fresh, Ended, At, AllAt}

abbrev pub In : Item → List Item → Type 0
In x [] = ⊥
In x (y ∷ ys) = (x ≡ y) ⊎ In x ys

pub in_left : (x : Item) (xs ys : List Item) → In x xs → In x (xs ++ ys)
in_left x [] ys h = absurd h
in_left x (z ∷ xs) ys (inl e) = inl e
in_left x (z ∷ xs) ys (inr h) = inr (in_left x xs ys h)

pub in_right : (x : Item) (xs ys : List Item) → In x ys → In x (xs ++ ys)
in_right x [] ys h = h
in_right x (z ∷ xs) ys h = inr (in_right x xs ys h)

pub in_split : (x : Item) (xs ys : List Item) → In x (xs ++ ys) → In x xs ⊎ In x ys
in_split x [] ys h = inr h
in_split x (z ∷ xs) ys (inl e) = inl (inl e)
in_split x (z ∷ xs) ys (inr h) = elim (in_split x xs ys h) [ inl k ↦ inl (inr k) | inr k ↦ inr k ]

-- a producer from outside, or one of these tasks
pub data Near (base count : ℕ) (from o : Option ℕ) : Type 0 where
  outside : o ≡ from → Near base count from o
  inside : (u : ℕ) → o ≡ Some u → base ≤ u → u < base + count → Near base count from o

pub near_wider : (base count base' count' : ℕ) (from o : Option ℕ) → base' ≤ base
    → base + count ≤ base' + count' → Near base count from o → Near base' count' from o
near_wider base count base' count' from o l m (outside e) = outside e
near_wider base count base' count' from o l m (inside u e p q) = inside u e (omega arith) (omega arith)

pub near_within : (base count base' count' m : ℕ) (from o : Option ℕ) → base' ≤ base → base + count ≤ base' + count'
    → base' ≤ m → m < base' + count' → Near base count (Some m) o → Near base' count' from o
near_within base count base' count' m from o l k p q (outside e) = inside m e p q
near_within base count base' count' m from o l k p q (inside u e p' q') = inside u e (omega arith) (omega arith)

pub clash : true ≡ false → ⊥
clash e = cc

-- what such a producer makes is not there while it and the outside are not done
pub near_absent : (base count : ℕ) (from o : Option ℕ) (done : List ℕ) → Near base count from o
    → Fresh base count done → done_or true done from ≡ false → done_or true done o ≡ false
near_absent base count from o done (outside e) h f = rw e f
near_absent base count from o done (inside u e p q) h f = rw e (h u p q)

pub near_there : (base count : ℕ) (from o : Option ℕ) (done : List ℕ) → Near base count from o
    → Ended base count done → done_or true done from ≡ true → done_or true done o ≡ true
near_there base count from o done (outside e) h f = rw e f
near_there base count from o done (inside u e p q) h f = rw e (h u p q)

pub record Found (base count : ℕ) (from : Option ℕ) (all : List Item) (to : Option ℕ) : Type 0 where
  pub item : Item
  pub listed : In item all
  pub leads : item.to ≡ to
  pub near : Near base count from item.from

-- a term leaves something
mutual
  pub has_final : (base : ℕ) (from to : Option ℕ) (t : Term) → HasParts t → Found base (task_count t) from (items_of_term base from to t) to
  has_final base from to (hold size) g =
      record { item = record { size = size; from = from; to = to }; listed = inl refl; leads = refl; near = outside refl }
  has_final base from to (series a v b) g =
      let f = has_final (base + task_count a) (Some (own_number base a b)) to b g.1 in
      record {
        item = f.item;
        listed = in_right f.item (items_of_term base from (Some (own_number base a b)) a) _ f.listed;
        leads = f.leads;
        near = near_within _ _ base _ (own_number base a b) from f.item.from (omega arith) (omega arith) (omega arith) (omega arith) f.near;
      }
  has_final base from to (par ts) g = all_has_final base from to ts g.0 g.1

  pub all_has_final : (base : ℕ) (from to : Option ℕ) (ts : Parts) → IsSomePart ts
      → HaveParts ts → Found base (task_count_of_parts ts) from (items_of_parts base from to ts) to
  all_has_final base from to no_parts some g = absurd some
  all_has_final base from to (part t ts) some g =
      let f = has_final base from to t g.0 in
      record {
        item = f.item;
        listed = in_left f.item (items_of_term base from to t) _ f.listed;
        leads = f.leads;
        near = near_wider _ _ base _ from f.item.from (omega arith) (omega arith) f.near;
      }

lt_or_le : (v m : ℕ) → (v < m) ⊎ (m ≤ v)
lt_or_le v m = grind arith

eq_or_lt : (v m : ℕ) → m ≤ v → (v ≡ m) ⊎ (m < v)
eq_or_lt v m h = grind arith

pub split2 : {A : Type 0} (v m : ℕ) → (v < m → A) → (m ≤ v → A) → A
split2 v m f g = elim (lt_or_le v m) [ inl h ↦ f h | inr h ↦ g h ]

pub split3 : {A : Type 0} (v m : ℕ) → (v < m → A) → (v ≡ m → A) → (m < v → A) → A
split3 v m f e g = split2 v m f (λ h. elim (eq_or_lt v m h) [ inl k ↦ e k | inr k ↦ g k ])

pub found_left : (base count base' count' : ℕ) (from to : Option ℕ) (xs ys : List Item) → base' ≤ base
    → base + count ≤ base' + count' → Found base count from xs to → Found base' count' from (xs ++ ys) to
found_left base count base' count' from to xs ys l m f = record {
  item = f.item;
  listed = in_left f.item xs ys f.listed;
  leads = f.leads;
  near = near_wider base count base' count' from f.item.from l m f.near;
}

pub found_right : (base count base' count' : ℕ) (from to : Option ℕ) (xs ys : List Item) → base' ≤ base
    → base + count ≤ base' + count' → Found base count from ys to → Found base' count' from (xs ++ ys) to
found_right base count base' count' from to xs ys l m f = record {
  item = f.item;
  listed = in_right f.item xs ys f.listed;
  leads = f.leads;
  near = near_wider base count base' count' from f.item.from l m f.near;
}

pub found_inside : (base count base' count' m : ℕ) (from to : Option ℕ) (xs ys : List Item) → base' ≤ base → base + count ≤ base' + count'
    → base' ≤ m → m < base' + count' → Found base count (Some m) ys to → Found base' count' from (xs ++ ys) to
found_inside base count base' count' m from to xs ys l k p q f = record {
  item = f.item;
  listed = in_right f.item xs ys f.listed;
  leads = f.leads;
  near = near_within base count base' count' m from f.item.from l k p q f.near;
}

-- a task of the first part, of the second, or the series' own
pub split_own : {A : Type 0} (v base : ℕ) (a b : Term) → v < base + suc (task_count a + task_count b) → (v < base + task_count a → A)
    → (base + task_count a ≤ v → v < base + task_count a + task_count b → A) → (v ≡ own_number base a b → A) → A
split_own v base a b m f g e =
    split2 v (base + task_count a) f (λ h. split2 v (base + task_count a + task_count b) (λ k. g h k) (λ k. e (omega arith)))

-- each task takes something in
mutual
  pub has_input : (base : ℕ) (from to : Option ℕ) (t : Term) (v : ℕ) → HasParts t → base ≤ v
      → v < base + task_count t → Found base (task_count t) from (items_of_term base from to t) (Some v)
  has_input base from to (hold size) v g l m = absurd (omega arith)
  has_input base from to (series a w b) v g l m =
      split_own v base a b m
      (λ h. found_left base (task_count a) base _ from (Some v) _ _ (omega arith)
      (omega arith) (has_input base from (Some (own_number base a b)) a v g.0 l h))
      (λ h h2. found_inside (base + task_count a) (task_count b) base _ (own_number base a b) from
      (Some v) _ _ (omega arith) (omega arith) (omega arith) (omega arith)
      (has_input (base + task_count a) (Some (own_number base a b)) to b v g.1 h h2))
      (λ e. found_left base (task_count a) base _ from (Some v) _ _ (omega arith) (omega arith)
      (subst (λ x. Found base (task_count a) from (items_of_term base from (Some (own_number base a b)) a) (Some x))
      (sym e) (has_final base from (Some (own_number base a b)) a g.0)))
  has_input base from to (par ts) v g l m = all_has_input base from to ts v g.1 l m

  pub all_has_input : (base : ℕ) (from to : Option ℕ) (ts : Parts) (v : ℕ) → HaveParts ts → base ≤ v
      → v < base + task_count_of_parts ts → Found base (task_count_of_parts ts) from (items_of_parts base from to ts) (Some v)
  all_has_input base from to no_parts v g l m = absurd (omega arith)
  all_has_input base from to (part t ts) v g l m =
      split2 v (base + task_count t)
      (λ h. found_left base (task_count t) base _ from (Some v) _ _ (omega arith) (omega arith) (has_input base from to t v g.0 l h))
      (λ h. found_right (base + task_count t) (task_count_of_parts ts) base _ from (Some v) _ _
      (omega arith) (omega arith) (all_has_input (base + task_count t) from to ts v g.1 h (omega arith)))

-- where all that a term leaves is there, it has ended
mutual
  pub all_out : (base : ℕ) (from to : Option ℕ) (done : List ℕ) (t : Term) (s : State t) → HasParts t → At base done t s
      → ((item : Item) → In item (items_of_term base from to t) → item.to ≡ to → done_or true done item.from ≡ true)
      → s ≡ first_state backward t
  all_out base from to done (hold size) s g h out = refl
  all_out base from to done (series a v b) (inl s) g (h, k) out =
      let f = has_final (base + task_count a) (Some (own_number base a b)) to b g.1 in
      let x = out f.item (in_right f.item (items_of_term base from (Some (own_number base a b)) a) _ f.listed) f.leads in
      let y = near_absent _ _ _ f.item.from done f.near (λ w l m. k w (omega arith) (omega arith))
      (k (own_number base a b) (omega arith) (omega arith)) in
      absurd (clash (sym x ∙ y))
  all_out base from to done (series a v b) (inr s) g (k, h) out =
      ap inr
      (all_out (base + task_count a) (Some (own_number base a b)) to done b s g.1 h
      (λ i l e. out i (in_right i (items_of_term base from (Some (own_number base a b)) a) _ l) e))
  all_out base from to done (par ts) ss g h out = all_all_out base from to done ts ss g.1 h out

  pub all_all_out : (base : ℕ) (from to : Option ℕ) (done : List ℕ) (ts : Parts) (ss : States ts) → HaveParts ts → AllAt base done ts ss
      → ((item : Item) → In item (items_of_parts base from to ts) → item.to ≡ to → done_or true done item.from ≡ true)
      → ss ≡ first_states backward ts
  all_all_out base from to done no_parts ss g h out = refl
  all_all_out base from to done (part t ts) (s, ss) g (h, k) out =
      let p = all_out base from to done t s g.0 h (λ i l e. out i (in_left i (items_of_term base from to t) _ l) e) in
      let q =
      all_all_out (base + task_count t) from to done ts ss g.1 k (λ i l e. out i (in_right i (items_of_term base from to t) _ l) e) in
      λ i. (p i, q i)
