-- A step of a term is the next task of its system.
use Rattle.std.proofs.Common.{◌≡◌, ℕ, suc, ◌+◌, ◌<◌, ◌≤◌, inl, inr, false, sym, ap, arith, ◌∙◌, List, ◌++◌, Option, Some}
use Rattle.mp_system.specs.System.{is_named}
use Rattle.mp_system.specs.declared.system.Item.{Item}
use Rattle.sp_terms.specs.SystemOfTerm.{own_number, task_count, task_count_of_parts, items_of_term, items_of_parts}
use Rattle.sp_terms.specs.Term.{Term, hold, series, par, Parts, no_parts, part}
use Rattle.sp_term_laws.proofs.Ends.{In, in_split, clash, Near, outside, near_wider, near_within}
use Rattle.sp_term_laws.proofs.Next.{Apart, Ready}
use Rattle.std.proofs.lemmas.Bool.{ne_eqb as ne-eqb}
use Rattle.lists.proofs.Bools.{eqb_same}

-- each item is made by one of the term's tasks, or outside
mutual
  pub producers : (base : ℕ) (from to : Option ℕ) (t : Term) (item : Item)
      → In item (items_of_term base from to t) → Near base (task_count t) from item.from
  producers base from to (hold size) item (inl e) = outside (ap (λ i. i.from) e)
  producers base from to (hold size) item (inr e) = absurd e
  producers base from to (series a w b) item l =
      elim (in_split item (items_of_term base from (Some (own_number base a b)) a)
      (items_of_term (base + task_count a) (Some (own_number base a b)) to b) l) [
        | inl k ↦ near_wider base (task_count a) base (suc (task_count a + task_count b)) from item.from
            (omega arith) (omega arith) (producers base from (Some (own_number base a b)) a item k)
        | inr k ↦ near_within (base + task_count a) (task_count b) base (suc (task_count a + task_count b))
            (own_number base a b) from item.from (omega arith) (omega arith) (omega arith) (omega arith)
            (producers (base + task_count a) (Some (own_number base a b)) to b item k)
      ]
  producers base from to (par ts) item l = all_producers base from to ts item l

  pub all_producers : (base : ℕ) (from to : Option ℕ) (ts : Parts) (item : Item)
      → In item (items_of_parts base from to ts) → Near base (task_count_of_parts ts) from item.from
  all_producers base from to no_parts item l = absurd l
  all_producers base from to (part t ts) item l =
      elim (in_split item (items_of_term base from to t) (items_of_parts (base + task_count t) from to ts) l) [
        | inl k ↦ near_wider base (task_count t) base (task_count t + task_count_of_parts ts) from item.from
            (omega arith) (omega arith) (producers base from to t item k)
        | inr k ↦ near_wider (base + task_count t) (task_count_of_parts ts) base (task_count t + task_count_of_parts ts) from item.from
            (omega arith) (omega arith) (all_producers (base + task_count t) from to ts item k)
      ]

-- a own_number that is none of the term's tasks, and takes nothing outside, consumes none of its items
mutual
  pub no_consumer : (base : ℕ) (from to : Option ℕ) (t : Term) (v : ℕ) → Apart base (task_count t) v
      → is_named to v ≡ false → (item : Item) → In item (items_of_term base from to t) → item.to ≡ Some v → ⊥
  no_consumer base from to (hold size) v o f item (inl e) h =
      clash (sym (eqb_same v) ∙ ap (λ x. is_named x v) (sym h ∙ ap (λ i. i.to) e) ∙ f)
  no_consumer base from to (hold size) v o f item (inr e) h = absurd e
  no_consumer base from to (series a w b) v o f item l h =
      elim (in_split item (items_of_term base from (Some (own_number base a b)) a)
      (items_of_term (base + task_count a) (Some (own_number base a b)) to b) l) [
        | inl k ↦ no_consumer base from (Some (own_number base a b)) a v
            (λ z. omega arith) (ne-eqb (own_number base a b) v (λ e. omega arith)) item k h
        | inr k ↦ no_consumer (base + task_count a) (Some (own_number base a b)) to b v (λ z. omega arith) f item k h
      ]
  no_consumer base from to (par ts) v o f item l h = all_no_consumer base from to ts v o f item l h

  pub all_no_consumer : (base : ℕ) (from to : Option ℕ) (ts : Parts) (v : ℕ) → Apart base (task_count_of_parts ts) v
      → is_named to v ≡ false → (item : Item) → In item (items_of_parts base from to ts) → item.to ≡ Some v → ⊥
  all_no_consumer base from to no_parts v o f item l h = l
  all_no_consumer base from to (part t ts) v o f item l h =
      elim (in_split item (items_of_term base from to t) (items_of_parts (base + task_count t) from to ts) l) [
        | inl k ↦ no_consumer base from to t v (λ z. omega arith) f item k h
        | inr k ↦ all_no_consumer (base + task_count t) from to ts v (λ z. omega arith) f item k h
      ]

pub ready_both : (done : List ℕ) (xs ys : List Item) (v : ℕ) → Ready done xs v → Ready done ys v → Ready done (xs ++ ys) v
ready_both done xs ys v p q i h e = elim (in_split i xs ys h) [ inl k ↦ p i k e | inr k ↦ q i k e ]

pub ready_none : (done : List ℕ) (ys : List Item) (v : ℕ) → ((item : Item) → In item ys → item.to ≡ Some v → ⊥) → Ready done ys v
ready_none done ys v n i h e = absurd (n i h e)

-- the own_number is none of these tasks
abbrev pub Elsewhere : ℕ → ℕ → Option ℕ → Type 0
Elsewhere base count o = (v : ℕ) → base ≤ v → v < base + count → is_named o v ≡ false
