-- The supernodes that are left, and their numbers.
use Rattle.std.proofs.Common.{◌≡◌, ℕ, zero, suc, ◌+◌, ◌-◌, ◌<◌, ◌≤◌, Bool, true, false, not, cond, List}
use Rattle.std.proofs.Common.{[], ◌∷◌, length, get_or, take, map, filter, sym, ap, ◌∙◌, inl, inr, arith}
use Rattle.std.specs.List.{sum_by, count_by}
use Rattle.std.proofs.lemmas.List.{take_all, take-take}
use Rattle.std.proofs.lemmas.List.Sums.{sum_by-cons, length-filter, sum_by-take-le, count_by_more_yes}
use Rattle.std.proofs.lemmas.Bool.{cases_Bool, cases_eq, eq-eqb, ne_eqb, false≢true}
use Rattle.assembly_tree.specs.declared.assembly.Super.{Super}
use Rattle.assembly_tree.specs.Assembly.{IsSuper, no_super, super_at, columns_in, reparented}
use Rattle.assembly_tree.specs.Amalgamation.{is_left, new_number}
use Rattle.assembly_tree.proofs.ListLemmas.{sum_by-take-map, sum_by-filter, sum_by_agree}

abbrev bit : Bool → ℕ
bit b = cond b 1 0

pub left-some : (x : Super) → 1 ≤ x.columns → is_left x ≡ true
left-some x some = ap not (ne_eqb x.columns 0 (omega (arith, some)))

pub left-none : (x : Super) → x.columns ≡ 0 → is_left x ≡ false
left-none x none = ap not (eq-eqb x.columns 0 none)

pub some-left : (x : Super) → is_left x ≡ true → 1 ≤ x.columns
some-left x is =
    elim (cases_eq x.columns 0) [
      | inl none ↦ absurd (false≢true (sym (left-none x none) ∙ is))
      | inr some ↦ omega (arith, some)
    ]

-- ---- a filtered list by places

module _ {X : Type 0} (p : X → Bool) where
  filter-yes : (x : X) (xs : List X) → p x ≡ true → filter p (x ∷ xs) ≡ x ∷ filter p xs
  filter-yes x xs is = ap (λ (b : Bool). cond b (x ∷ filter p xs) (filter p xs)) is

  filter-no : (x : X) (xs : List X) → p x ≡ false → filter p (x ∷ xs) ≡ filter p xs
  filter-no x xs is = ap (λ (b : Bool). cond b (x ∷ filter p xs) (filter p xs)) is

  count-cons : (x : X) (xs : List X) → count_by p (x ∷ xs) ≡ cond (p x) 1 0 + count_by p xs
  count-cons x xs = sum_by-cons (λ y. cond (p y) 1 0) x xs

  -- what passes stands after those before it that pass
  pub filter-place : (xs : List X) (i : ℕ) (d : X) → i < length xs → p (get_or xs i d) ≡ true
      → get_or (filter p xs) (count_by p (take i xs)) d ≡ get_or xs i d
  filter-place [] i d lt is = absurd (omega arith)
  filter-place (x ∷ xs) zero d lt is = ap (λ (ys : List X). get_or ys 0 d) (filter-yes x xs is)
  filter-place (x ∷ xs) (suc i) d lt is =
      let rest = filter-place xs i d (omega arith) is in
      elim (cases_Bool (p x)) [
        | inl here ↦ (
            let count : count_by p (x ∷ take i xs) ≡ suc (count_by p (take i xs)) = omega (arith, count-cons x (take i xs), ap bit here) in
            ap (λ (k : ℕ). get_or (filter p (x ∷ xs)) k d) count
            ∙ ap (λ (ys : List X). get_or ys (suc (count_by p (take i xs))) d) (filter-yes x xs here) ∙ rest
            )
        | inr other ↦ (
            let count : count_by p (x ∷ take i xs) ≡ count_by p (take i xs) = omega (arith, count-cons x (take i xs), ap bit other) in
            ap (λ (k : ℕ). get_or (filter p (x ∷ xs)) k d) count
            ∙ ap (λ (ys : List X). get_or ys (count_by p (take i xs)) d) (filter-no x xs other) ∙ rest
            )
      ]

  -- and each of the filtered list stands somewhere
  pub filter-pick : (xs : List X) (t : ℕ) (d : X) → t < length (filter p xs)
      → (i : ℕ) × (i < length xs) × (p (get_or xs i d) ≡ true) × (count_by p (take i xs) ≡ t)
  filter-pick [] t d lt = absurd (omega arith)
  filter-pick (x ∷ xs) t d lt =
      elim (cases_Bool (p x)) [
        | inl here ↦ (
            let len = ap length (filter-yes x xs here) in
            elim (cases_eq t 0) [
              | inl none ↦ (0, omega arith, here, sym none)
              | inr some ↦ (
                  let rest = filter-pick xs (t - 1) d (omega (arith, lt, len, some)) in
                  (suc rest.0, omega (arith, rest.1), rest.2, omega (arith, count-cons x (take rest.0 xs), ap bit here, rest.3, some))
                  )
            ]
            )
        | inr other ↦ (
            let rest = filter-pick xs t d (omega (arith, lt, ap length (filter-no x xs other))) in
            (suc rest.0, omega (arith, rest.1), rest.2, omega (arith, count-cons x (take rest.0 xs), ap bit other, rest.3))
            )
      ]

-- ---- numbers

pub number-le : (supers : List Super) (s t : ℕ) → s ≤ t → new_number supers s ≤ new_number supers t
number-le supers s t le =
    omega (arith, sum_by-take-le (λ x. cond (is_left x) 1 0) (take t supers) s, ap (count_by is_left) (take-take s t supers le))

pub number-left : (supers : List Super) (s : ℕ) → IsSuper supers s
    → 1 ≤ (super_at supers s).columns → new_number supers s ≡ new_number supers (s - 1) + 1
number-left supers s is some =
    let back : s ≡ s - 1 + 1 = omega (arith, is.0) in
    ap (new_number supers) back
    ∙ count_by_more_yes is_left supers (s - 1) no_super (omega (arith, is.0, is.1)) (left-some (super_at supers s) some)

pub number-all : (supers : List Super) → new_number supers (length supers) ≡ length (filter is_left supers)
number-all supers = ap (count_by is_left) (take_all (length supers) supers (omega arith)) ∙ sym (length-filter is_left supers)

pub number-within : (supers : List Super) (s : ℕ) → s ≤ length supers → new_number supers s ≤ length (filter is_left supers)
number-within supers s le = omega (arith, number-le supers s (length supers) le, number-all supers)

-- a supernode that is left, by its number
pub left-at : (supers : List Super) (s : ℕ) → IsSuper supers s → 1 ≤ (super_at supers s).columns
    → get_or (filter is_left supers) (new_number supers s - 1) no_super ≡ super_at supers s
left-at supers s is some =
    let place = filter-place is_left supers (s - 1) no_super (omega (arith, is.0, is.1)) (left-some (super_at supers s) some) in
    let back : new_number supers s - 1 ≡ new_number supers (s - 1) = omega (arith, number-left supers s is some) in
    ap (λ (k : ℕ). get_or (filter is_left supers) k no_super) back ∙ place

-- each number is that of one that is left
pub left-pick : (supers : List Super) (t : ℕ) → 1 ≤ t → t ≤ length (filter is_left supers)
    → (s : ℕ) × IsSuper supers s × (1 ≤ (super_at supers s).columns) × (new_number supers s ≡ t)
left-pick supers t low high =
    let there = filter-pick is_left supers (t - 1) no_super (omega (arith, low, high)) in
    let i = there.0 in
    let back : i + 1 - 1 ≡ i = omega arith in
    let is : IsSuper supers (i + 1) = (omega arith, omega (arith, there.1)) in
    let some : 1 ≤ (super_at supers (i + 1)).columns =
    omega (arith, ap (λ (k : ℕ). (get_or supers k no_super).columns) back, some-left (get_or supers i no_super) there.2) in
    (i + 1, is, some, omega (arith, number-left supers (i + 1) is some, ap (new_number supers) back, there.3, low))

-- merged supernodes have no columns
pub sum-left : (xs : List Super) → sum_by columns_in (filter is_left xs) ≡ sum_by columns_in xs
sum-left xs =
    sum_by-filter columns_in is_left xs ∙ sum_by_agree (λ x. cond (is_left x) x.columns 0) columns_in no_super xs (λ i lt.
    let x = get_or xs i no_super in
    elim (cases_eq x.columns 0) [
      | inl none ↦ ap (λ (b : Bool). cond b x.columns 0) (left-none x none) ∙ sym none
      | inr some ↦ ap (λ (b : Bool). cond b x.columns 0) (left-some x (omega (arith, some)))
    ])

-- with other parents

pub number-reparented : (name : ℕ → ℕ) (supers : List Super) (s : ℕ) → new_number (map (reparented name) supers) s ≡ new_number supers s
number-reparented name supers s = sum_by-take-map (λ x. cond (is_left x) 1 0) (reparented name) s supers
