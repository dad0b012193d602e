-- Numbers sorted into blocks, and the blocks one after another: each number stands once, and none before one that has to be there first.
use Rattle.std.proofs.Common.{sym, ◌∙◌, subst, ap, ◌≡◌, ◌≢◌, ◌⊎◌, inl, inr, ℕ, zero, suc, ◌+◌, ◌-◌, ◌<◌, ◌≤◌, Bool, true, false, cond}
use Rattle.std.proofs.Common.{◌==◌, List, [], ◌∷◌, ◌++◌, length, get_or, filter, arith, refl}
use Rattle.std.specs.List.{All, AllPairs, range_with_len, flat_map, sum_by}
use Rattle.std.proofs.lemmas.Bool.{cases_eq, cases_lt, cases_Bool, eq-eqb, ne_eqb, eqb-true}
use Rattle.std.proofs.lemmas.List.{get_or_append_left, get_or-append_right, length-append}
use Rattle.std.proofs.lemmas.List.Elements.{All-nil, All-append, All-filter, filter_passes}
use Rattle.std.proofs.lemmas.List.FromFn.{get_or-range_with_len, length-range_with_len}
use Rattle.std.proofs.lemmas.List.Kept.{AllPairs-filter}
use Rattle.std.proofs.lemmas.List.Sums.{sum_by-append, sum_by-cons}
use Rattle.permutations.specs.Perm.{IsVertex, IsPart, IsPerm, times, vertex_at, place_of}
use Rattle.permutations.proofs.IdentityLemmas.{perm_identity}
use Rattle.permutations.proofs.PlaceLemmas.{times-here, times-beyond, times-none, place-vertex, place-le, place-at}
use Rattle.permutations.proofs.PermLemmas.{vertex_of_place, place_of_vertex, length-part, some_left}
use Rattle.elim_tree.proofs.OnePostorder.{place_within}
use Rattle.assembly_tree.proofs.ListLemmas.{sum_by-filter, sum_by_agree}

-- ---- lists in which each number stands once

pub perm_by_times : (n : ℕ) (xs : List ℕ) → All (IsVertex n) xs → ((v : ℕ) → IsVertex n v → times xs v ≡ 1) → IsPerm n xs
perm_by_times n xs vertices once = record { len = all; vertices = vertices; once = once }
  where
    at_most : (v : ℕ) → times xs v ≤ 1
    at_most v =
        elim (cases_eq (place_of xs v) 0) [
          | inl e ↦ let none = times-none xs v e in omega arith
          | inr ne ↦
              let le = place-le xs v in
              let back = place-vertex xs v ne in
              let there = vertices (place_of xs v - 1) 0 (omega arith) in
              let one = once v (subst (IsVertex n) (at_index xs (place_of xs v) ne ∙ back) there) in
              omega arith
        ]
      where
        at_index : (ys : List ℕ) (k : ℕ) → k ≢ 0 → get_or ys (k - 1) 0 ≡ vertex_at ys k
        at_index ys zero ne = absurd (ne refl)
        at_index ys (suc i) ne = let e : suc i - 1 ≡ i = omega arith in ap (λ (k : ℕ). get_or ys k 0) e

    part : IsPart n xs
    part = record { vertices = vertices; once = at_most }

    all : length xs ≡ n
    all =
        let le = length-part n xs part in
        elim (cases_lt (length xs) n) [
          | inl lt ↦ let left = some_left n xs part lt in let one = once left.0 left.1 in let none = left.2 in absurd (omega arith)
          | inr ge ↦ omega arith
        ]

-- ---- pairs

pub pairs-append : {X : Type 0} (R : X → X → Type 0) (ps qs : List X) → AllPairs R ps → AllPairs R qs
    → ((i j : ℕ) (d : X) → i < length ps → j < length qs → R (get_or ps i d) (get_or qs j d)) → AllPairs R (ps ++ qs)
pairs-append R ps qs first second across i j d lt below =
    let all = length-append ps qs in
    elim (cases_lt j (length ps)) [
      | inl jl ↦ subst (λ y. R (get_or (ps ++ qs) i d) y) (sym (get_or_append_left ps qs d j jl))
          (subst (λ x. R x (get_or ps j d)) (sym (get_or_append_left ps qs d i (omega arith))) (first i j d lt jl))
      | inr jg ↦ subst (λ y. R (get_or (ps ++ qs) i d) y) (sym (get_or-append_right ps qs (length ps) j d refl jg))
          (elim (cases_lt i (length ps)) [
            | inl il ↦ subst (λ x. R x (get_or qs (j - length ps) d)) (sym (get_or_append_left ps qs d i il))
                (across i (j - length ps) d il (omega arith))
            | inr ig ↦ subst (λ x. R x (get_or qs (j - length ps) d)) (sym (get_or-append_right ps qs (length ps) i d refl ig))
                (second (i - length ps) (j - length ps) d (omega arith) (omega arith))
          ])
    ]

-- ---- the numbers that pass a test

-- how often a number stands among those that pass
times_passing : (p : ℕ → Bool) (xs : List ℕ) (v : ℕ) → times (filter p xs) v ≡ cond (p v) (times xs v) 0
times_passing p xs v =
    sum_by-filter (λ x. cond (x == v) 1 0) p xs
    ∙ elim (cases_Bool (p v)) [
      | inl e ↦ sum_by_agree (λ x. cond (p x) (cond (x == v) 1 0) 0) (λ x. cond (x == v) 1 0) 0 xs (λ i lt. passes e (get_or xs i 0))
          ∙ sym (ap (λ b. cond b (times xs v) 0) e)
      | inr e ↦ nothing (λ x. cond (p x) (cond (x == v) 1 0) 0) xs (λ x. fails e x) ∙ sym (ap (λ b. cond b (times xs v) 0) e)
    ]
  where
    same : (b : Bool) (m : ℕ) → cond b m m ≡ m
    same true m = refl
    same false m = refl

    passes : p v ≡ true → (x : ℕ) → ◌≡◌ {A = ℕ} (cond (p x) (cond (x == v) 1 0) 0) (cond (x == v) 1 0)
    passes e x =
        elim (cases_eq x v) [
          | inl here ↦ ap (λ b. cond b (cond (x == v) 1 0) 0) (ap p here ∙ e)
          | inr ne ↦ ap (λ b. cond (p x) (cond b 1 0) 0) (ne_eqb x v ne) ∙ same (p x) 0 ∙ sym (ap (λ b. cond b 1 0) (ne_eqb x v ne))
        ]

    fails : p v ≡ false → (x : ℕ) → ◌≡◌ {A = ℕ} (cond (p x) (cond (x == v) 1 0) 0) 0
    fails e x =
        elim (cases_eq x v) [
          | inl here ↦ ap (λ b. cond b (cond (x == v) 1 0) 0) (ap p here ∙ e)
          | inr ne ↦ ap (λ b. cond (p x) (cond b 1 0) 0) (ne_eqb x v ne) ∙ same (p x) 0
        ]

    nothing : (f : ℕ → ℕ) (ys : List ℕ) → ((x : ℕ) → f x ≡ 0) → sum_by f ys ≡ 0
    nothing f [] none = refl
    nothing f (y ∷ ys) none = let here = none y in let rest = nothing f ys none in omega (arith, sum_by-cons f y ys)

-- ---- blocks

module _ (n : ℕ) (block : ℕ → ℕ) where
  -- the numbers of a block, by rising number
  abbrev pub members : ℕ → List ℕ
  members s = filter (λ j. block j == s) (range_with_len 1 n)

  pub members_vertices : (s : ℕ) → All (IsVertex n) (members s)
  members_vertices s = All-filter (λ j. block j == s) (IsVertex n) (range_with_len 1 n) ((perm_identity n).vertices)

  member_of : (s i d : ℕ) → i < length (members s) → block (get_or (members s) i d) ≡ s
  member_of s i d lt = eqb-true _ s (filter_passes (λ j. block j == s) (range_with_len 1 n) i d lt)

  members_rise : (s : ℕ) → AllPairs (λ x y. x < y) (members s)
  members_rise s = AllPairs-filter (λ x y. x < y) (λ j. block j == s) (range_with_len 1 n) range_rises
    where
      range_rises : AllPairs (λ x y. x < y) (range_with_len 1 n)
      range_rises i j d lt below =
          let len = length-range_with_len 1 n in
          let here = get_or-range_with_len 1 n i d (omega arith) in
          let there = get_or-range_with_len 1 n j d (omega arith) in
          omega arith

  times_members : (s v : ℕ) → IsVertex n v → times (members s) v ≡ cond (block v == s) 1 0
  times_members s v vertex =
      times_passing (λ j. block j == s) (range_with_len 1 n) v ∙ ap (λ m. cond (block v == s) m 0) ((perm_identity n).once v vertex)

  -- the blocks one after another
  abbrev pub blocks : List ℕ → List ℕ
  blocks order = flat_map members order

  blocks_vertices : (order : List ℕ) → All (IsVertex n) (blocks order)
  blocks_vertices [] = All-nil (IsVertex n)
  blocks_vertices (s ∷ order) = All-append (IsVertex n) (members s) (blocks order) (members_vertices s) (blocks_vertices order)

  -- a number stands there as often as its block
  times_blocks : (order : List ℕ) (v : ℕ) → IsVertex n v → times (blocks order) v ≡ times order (block v)
  times_blocks [] v vertex = refl
  times_blocks (s ∷ order) v vertex =
      sum_by-append (λ x. cond (x == v) 1 0) (members s) (blocks order)
      ∙ ap (λ m. m + times (blocks order) v) (times_members s v vertex)
      ∙ ap (λ m. cond (block v == s) 1 0 + m) (times_blocks order v vertex)
      ∙ elim (cases_eq s (block v)) [
        | inl e ↦ ap (λ b. cond b 1 0 + times order (block v)) (eq-eqb (block v) s (sym e)) ∙ sym (times-here s (block v) order e)
        | inr ne ↦ ap (λ b. cond b 1 0 + times order (block v)) (ne_eqb (block v) s (λ e. ne (sym e)))
            ∙ (let none : 0 + times order (block v) ≡ times order (block v) = omega arith in none)
            ∙ sym (times-beyond s (block v) order ne)
      ]

  -- the block of a number that stands there stands in the order
  block_stands : (order : List ℕ) (i d : ℕ) → i < length (blocks order)
      → (k : ℕ) × (k < length order) × (get_or order k d ≡ block (get_or (blocks order) i d))
  block_stands [] i d lt = absurd (omega arith)
  block_stands (s ∷ order) i d lt =
      let all = length-append (members s) (blocks order) in
      elim (cases_lt i (length (members s))) [
        | inl il ↦ (zero, omega arith, sym (ap block (get_or_append_left (members s) (blocks order) d i il) ∙ member_of s i d il))
        | inr ig ↦
            let r = block_stands order (i - length (members s)) d (omega arith) in (
              suc r.0,
              (let l = r.1 in omega arith),
              r.2 ∙ sym (ap block (get_or-append_right (members s) (blocks order) (length (members s)) i d refl ig)),
            )
      ]

  module _ (m : ℕ) (order : List ℕ) (is_order : IsPerm m order) (sorted : (j : ℕ) → IsVertex n j → IsVertex m (block j)) where
    pub blocks_perm : IsPerm n (blocks order)
    blocks_perm = perm_by_times n (blocks order) (blocks_vertices order)
        (λ v vertex. times_blocks order v vertex ∙ is_order.once (block v) (sorted v vertex))

    -- each number has to come before another one, its parent: that is greater, and stands in the same block or in a later one
    module _ (parent : ℕ → ℕ) (rises : (j : ℕ) → 0 < parent j → (j < parent j) × (parent j ≤ n))
        (follows : (j : ℕ) → IsVertex n j → 0 < parent j
        → (block (parent j) ≡ block j) ⊎ (place_of order (block j) < place_of order (block (parent j)))) where
      -- no number is the parent of a later one
      abbrev NoParent : ℕ → ℕ → Type 0
      NoParent a b = parent b ≢ a

      -- nor is one in a block the parent of one in a later block
      abbrev NoParents : ℕ → ℕ → Type 0
      NoParents s t = (b : ℕ) → IsVertex n b → block b ≡ t → 0 < parent b → block (parent b) ≢ s

      index_of : (s i : ℕ) → i < length order → get_or order i 0 ≡ s → place_of order s ≡ suc i
      index_of s i lt e =
          ap (place_of order) (sym e) ∙ place-at order i lt (let le = is_order.len in is_order.once _ (is_order.vertices i 0 lt))

      blocks_apart : AllPairs NoParents order
      blocks_apart i j d lt below b vb at some =
          let same : (k : ℕ) → k < length order → get_or order k d ≡ get_or order k 0 = λ k kl. get_or_default order k d kl in
          λ e.
          let there = index_of (block b) j below (sym (at ∙ same j below)) in
          let here = index_of (block (parent b)) i (omega arith) (sym (e ∙ same i (omega arith))) in
          elim (follows b vb some) [
            | inl eq ↦ let z = ap (place_of order) eq in absurd (omega arith)
            | inr less ↦ absurd (omega arith)
          ]
        where
          get_or_default : (xs : List ℕ) (k e : ℕ) → k < length xs → get_or xs k e ≡ get_or xs k 0
          get_or_default [] k e kl = absurd (omega arith)
          get_or_default (x ∷ xs) zero e kl = refl
          get_or_default (x ∷ xs) (suc k) e kl = get_or_default xs k e (omega arith)

      apart : (xs : List ℕ) → AllPairs NoParents xs → AllPairs NoParent (blocks xs)
      apart [] pairs = λ i j d lt below. absurd (omega arith)
      apart (s ∷ xs) pairs =
          pairs-append NoParent (members s) (blocks xs) within
          (apart xs (λ i j d lt below. pairs (suc i) (suc j) d (omega arith) (omega arith)))
          across
        where
          within : AllPairs NoParent (members s)
          within i j d lt below e =
              let less = members_rise s i j d lt below in
              let low = (members_vertices s i d (omega arith)).0 in
              let up = (rises (get_or (members s) j d) (omega arith)).0 in
              omega arith

          across : (i j d : ℕ) → i < length (members s) → j < length (blocks xs)
              → NoParent (get_or (members s) i d) (get_or (blocks xs) j d)
          across i j d lt below e =
              let r = block_stands xs j d below in
              let low = (members_vertices s i d lt).0 in
              let k = r.0 in
              let kl = r.1 in
              pairs zero (suc k) d (omega arith) (omega arith) (get_or (blocks xs) j d) (blocks_vertices xs j d below) (sym r.2)
              (omega arith) (ap block e ∙ member_of s i d lt)

      pub blocks_keep : (j : ℕ) → IsVertex n j → 0 < parent j → place_of (blocks order) j < place_of (blocks order) (parent j)
      blocks_keep j vj some =
          let up = rises j some in
          let vp : IsVertex n (parent j) = (some, up.1) in
          let here = place_within vertex_of_place place_of_vertex n (blocks order) blocks_perm j vj in
          let there = place_within vertex_of_place place_of_vertex n (blocks order) blocks_perm (parent j) vp in
          let len = blocks_perm.len in
          let at_j = vertex_of_place n (blocks order) blocks_perm j vj.1 in
          let at_p = vertex_of_place n (blocks order) blocks_perm (parent j) vp.1 in
          elim (cases_lt (place_of (blocks order) j) (place_of (blocks order) (parent j))) [
            | inl lt ↦ lt
            | inr ge ↦ elim (cases_eq (place_of (blocks order) j) (place_of (blocks order) (parent j))) [
              | inl e ↦ let z = sym at_j ∙ ap (vertex_at (blocks order)) e ∙ at_p in absurd (let rise = up.0 in omega arith)
              | inr ne ↦ absurd (
                  apart order blocks_apart (place_of (blocks order) (parent j) - 1) (place_of (blocks order) j - 1) 0
                  (let a = here.0 in let b = there.0 in omega arith) (let a = here.0 in let b = here.1 in omega arith)
                  (ap parent (at_index (blocks order) (place_of (blocks order) j) here.0 ∙ at_j)
                  ∙ sym (at_index (blocks order) (place_of (blocks order) (parent j)) there.0 ∙ at_p))
                  )
            ]
          ]
        where
          at_index : (ys : List ℕ) (k : ℕ) → 1 ≤ k → get_or ys (k - 1) 0 ≡ vertex_at ys k
          at_index ys zero some = absurd (omega arith)
          at_index ys (suc i) some = let e : suc i - 1 ≡ i = omega arith in ap (λ (k : ℕ). get_or ys k 0) e
