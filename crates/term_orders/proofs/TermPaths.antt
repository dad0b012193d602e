-- Paths in the items of a term: from what makes its first items through it to what takes its last ones.
use Rattle.std.proofs.Common.{◌≡◌, ℕ, ◌+◌, ◌<◌, ◌≤◌, Bool, true, ◌&&◌, ◌||◌, eqb, eq-eqb, List, [], ◌∷◌, ◌++◌, map}
use Rattle.std.proofs.Common.{Option, Some, None, refl, ap, subst, ◌∙◌, arith, inl, inr}
use Rattle.std.specs.List.{list_any}
use Rattle.std.proofs.lemmas.List.Folds.{list_any-append}
use Rattle.std.proofs.lemmas.Bool.{cases_lt, cases_eq, or_left, or_right}
use Rattle.lists.proofs.Bools.{or_false}
use Rattle.mp_system.specs.declared.system.Item.{Item}
use Rattle.mp_system.specs.System.{TaskSystem, is_input, is_output, is_named}
use Rattle.sp_terms.specs.Term.{Term, hold, series, par, Parts, no_parts, part, IsAllowed, AreAllowed}
use Rattle.sp_terms.specs.SystemOfTerm.{task_count, task_count_of_parts, own_number, items_of_term, items_of_parts}
use Rattle.shared_systems.specs.OneReader.{readers_of, shared_item_of, shared_of}
use Rattle.shared_systems.specs.Shared.{is_made_by, is_read_by}
use Rattle.shared_systems.specs.Paths.{ComesAfter, reads}
use Rattle.carried_graphs.proofs.Following.{joined}

-- ---- paths in a list of items

-- whether an item leads from task u to task v
abbrev pub leads : List Item → ℕ → ℕ → Bool
leads items u v = list_any (λ x. is_output u x && is_input v x) items

pub data Path (items : List Item) : ℕ → ℕ → Type 0 where
  link : {u v : ℕ} → leads items u v ≡ true → Path items u v
  onto : {u w v : ℕ} → Path items u w → Path items w v → Path items u v

wider : (xs ys : List Item) → ((u v : ℕ) → leads xs u v ≡ true → leads ys u v ≡ true) → (u v : ℕ) → Path xs u v → Path ys u v
wider xs ys more u v (link e) = link (more u v e)
wider xs ys more u v (onto {w = w} one two) = onto (wider xs ys more u w one) (wider xs ys more w v two)

pub on_left : (xs ys : List Item) (u v : ℕ) → Path xs u v → Path (xs ++ ys) u v
on_left xs ys u v path = wider xs (xs ++ ys)
    (λ a b e. list_any-append (λ x. is_output a x && is_input b x) xs ys ∙ or_left (leads xs a b) (leads ys a b) e) u v path

pub on_right : (xs ys : List Item) (u v : ℕ) → Path ys u v → Path (xs ++ ys) u v
on_right xs ys u v path = wider ys (xs ++ ys)
    (λ a b e. list_any-append (λ x. is_output a x && is_input b x) xs ys ∙ or_right (leads xs a b) (leads ys a b) e) u v path

-- ---- as tasks of a shared system

read_same : (v : ℕ) (to : Option ℕ) → list_any (λ c. eqb c v) (readers_of to) ≡ is_named to v
read_same v None = refl
read_same v (Some c) = or_false (eqb c v)

pub reads_same : (u v : ℕ) (xs : List Item)
    → list_any (λ x. is_made_by u x && is_read_by v x) (map shared_item_of xs) ≡ leads xs u v
reads_same u v [] = refl
reads_same u v (x ∷ xs) =
    ap (λ (b : Bool). (is_output u x && b) || list_any (λ y. is_made_by u y && is_read_by v y) (map shared_item_of xs)) (read_same v x.to)
    ∙ ap (λ (b : Bool). (is_output u x && is_input v x) || b) (reads_same u v xs)

pub comes_after : (system : TaskSystem) (u v : ℕ) → Path system.items u v → ComesAfter (shared_of system) u v
comes_after system u v (link e) = reads (reads_same u v system.items ∙ e)
comes_after system u v (onto {w = w} one two) =
    joined (shared_of system) u w v (comes_after system u w one) (comes_after system w v two)

-- ---- through a term

-- u is the number of one of so many tasks, which are numbered from `base` on
abbrev pub IsFrom : ℕ → ℕ → ℕ → Type 0
IsFrom base n u = (base ≤ u) × (u < base + n)

held : (p w size : ℕ) → leads (record { size = size; from = Some p; to = Some w } ∷ []) p w ≡ true
held p w size = rw (eq-eqb p p refl, eq-eqb w w refl) refl

pub through : (base p w : ℕ) (t : Term) → IsAllowed t → Path (items_of_term base (Some p) (Some w) t) p w
through base p w (hold size) allowed = link (held p w size)
through base p w (series a v b) allowed =
    let own = own_number base a b in
    let one = items_of_term base (Some p) (Some own) a in
    let two = items_of_term (base + task_count a) (Some own) (Some w) b in
    onto (on_left one two p own (through base p own a allowed.2)) (on_right one two own w (through (base + task_count a) own w b allowed.3))
through base p w (par no_parts) allowed = absurd (omega (arith, allowed.0))
through base p w (par (part t ts)) allowed =
    on_left (items_of_term base (Some p) (Some w) t) (items_of_parts (base + task_count t) (Some p) (Some w) ts) p w
    (through base p w t allowed.1.0)

-- ---- from each task to what takes the last items

mutual
  pub to_end : (base w : ℕ) (from : Option ℕ) (t : Term) (u : ℕ) → IsAllowed t → IsFrom base (task_count t) u
      → Path (items_of_term base from (Some w) t) u w
  to_end base w from (hold size) u allowed is = absurd (omega (arith, is.0, is.1))
  to_end base w from (series a v b) u allowed is =
      let own = own_number base a b in
      let next = base + task_count a in
      let one = items_of_term base from (Some own) a in
      let two = items_of_term next (Some own) (Some w) b in
      let across = on_right one two own w (through next own w b allowed.3) in
      elim (cases_lt u next) [
        | inl early ↦ onto (on_left one two u own (to_end base own from a u allowed.2 (is.0, early))) across
        | inr late ↦ elim (cases_eq own u) [
          | inl same ↦ subst (λ (x : ℕ). Path (one ++ two) x w) same across
          | inr other ↦ on_right one two u w
              (to_end next w (Some own) b u allowed.3 (late, omega (arith, is.1, other)))
        ]
      ]
  to_end base w from (par ts) u allowed is = to_end_parts base w from ts u allowed.1 is

  to_end_parts : (base w : ℕ) (from : Option ℕ) (ts : Parts) (u : ℕ) → AreAllowed ts → IsFrom base (task_count_of_parts ts) u
      → Path (items_of_parts base from (Some w) ts) u w
  to_end_parts base w from no_parts u allowed is = absurd (omega (arith, is.0, is.1))
  to_end_parts base w from (part t ts) u allowed is =
      let next = base + task_count t in
      let one = items_of_term base from (Some w) t in
      let two = items_of_parts next from (Some w) ts in
      elim (cases_lt u next) [
        | inl early ↦ on_left one two u w (to_end base w from t u allowed.0 (is.0, early))
        | inr late ↦ on_right one two u w (to_end_parts next w from ts u allowed.1 (late, omega (arith, is.1)))
      ]

-- ---- from what makes the first items to each task

mutual
  pub from_start : (base p : ℕ) (to : Option ℕ) (t : Term) (u : ℕ) → IsAllowed t → IsFrom base (task_count t) u
      → Path (items_of_term base (Some p) to t) p u
  from_start base p to (hold size) u allowed is = absurd (omega (arith, is.0, is.1))
  from_start base p to (series a v b) u allowed is =
      let own = own_number base a b in
      let next = base + task_count a in
      let one = items_of_term base (Some p) (Some own) a in
      let two = items_of_term next (Some own) to b in
      let across = on_left one two p own (through base p own a allowed.2) in
      elim (cases_lt u next) [
        | inl early ↦ on_left one two p u (from_start base p (Some own) a u allowed.2 (is.0, early))
        | inr late ↦ elim (cases_eq own u) [
          | inl same ↦ subst (λ (x : ℕ). Path (one ++ two) p x) same across
          | inr other ↦ onto across (on_right one two own u
              (from_start next own to b u allowed.3 (late, omega (arith, is.1, other))))
        ]
      ]
  from_start base p to (par ts) u allowed is = from_start_parts base p to ts u allowed.1 is

  from_start_parts : (base p : ℕ) (to : Option ℕ) (ts : Parts) (u : ℕ) → AreAllowed ts → IsFrom base (task_count_of_parts ts) u
      → Path (items_of_parts base (Some p) to ts) p u
  from_start_parts base p to no_parts u allowed is = absurd (omega (arith, is.0, is.1))
  from_start_parts base p to (part t ts) u allowed is =
      let next = base + task_count t in
      let one = items_of_term base (Some p) to t in
      let two = items_of_parts next (Some p) to ts in
      elim (cases_lt u next) [
        | inl early ↦ on_left one two p u (from_start base p to t u allowed.0 (is.0, early))
        | inr late ↦ on_right one two p u (from_start_parts next p to ts u allowed.1 (late, omega (arith, is.1)))
      ]
