-- The positions of tasks, and which of them is that of the task of a name.
use Rattle.std.proofs.Common.{◌≡◌, ◌≢◌, ◌∙◌, ℕ, zero, suc, ◌+◌, ◌-◌, ◌<◌, ◌≤◌, eqb, eq-eqb, ne_eqb, List, [], ◌∷◌, ◌++◌, length, map}
use Rattle.std.proofs.Common.{take, get_or, refl, sym, ap, subst, inl, inr, arith, length-append, length-take-le, IsPermutation}
use Rattle.std.specs.Prelude.{Contains}
use Rattle.std.specs.List.{range_with_len, IsDistinct}
use Rattle.std.proofs.lemmas.Bool.{cases_lt}
use Rattle.std.proofs.lemmas.Grind.{get_or_default_zero}
use Rattle.std.proofs.lemmas.List.{take_more, ext_get_or}
use Rattle.std.proofs.lemmas.List.FromFn.{length-range_with_len, get_or-range_with_len, length-map-range_with_len}
use Rattle.std.proofs.lemmas.List.FromFn.{get_or-map-range_with_len}
use Rattle.std.proofs.lemmas.List.Sorted.{IsPermutation-sym, All-permutation, Contains-permutation, length_permutation}
use Rattle.std.proofs.lemmas.Map.Keys.{IsDistinct-IsPermutation, IsDistinct-from_apart, apart_from_distinct}
use Rattle.sp_terms.specs.declared.position.Position.{Position}
use Rattle.sp_terms.specs.declared.position.Position.TheVariants.{Hold, Par}
use Rattle.sp_terms.specs.declared.position.Position.TheVariants as at
use Rattle.trees.specs.declared.node.Node.{Node}
use Rattle.trees.specs.Forest.{Forest, no_trees, tree, roots_of, all_numbers}
use Rattle.trees.specs.TreeTerm.{beside_positions, own_positions, tree_positions, forest_positions}
use Rattle.judging.specs.Judged.{IsNaming, AreWithin}
use Rattle.judging.specs.Numbered.{task_positions, position_named, node_positions}

-- ---- the positions of tasks

pub tasks-append : (k j : ℕ) (ps qs : List Position) → k + length ps ≡ j
    → task_positions k (ps ++ qs) ≡ task_positions k ps ++ task_positions j qs
tasks-append k j [] qs e = let same : k ≡ j = omega (arith, e) in ap (λ (i : ℕ). task_positions i qs) same
tasks-append k j (Hold size ∷ ps) qs e = tasks-append (k + 1) j ps qs (omega (arith, e))
tasks-append k j (at.Task extra share time ∷ ps) qs e = ap (λ (ks : List ℕ). k ∷ ks) (tasks-append (k + 1) j ps qs (omega (arith, e)))
tasks-append k j (Par parts ∷ ps) qs e = tasks-append (k + 1) j ps qs (omega (arith, e))

-- of one more position
pub tasks_more : (ps : List Position) (i : ℕ) (d : Position) → i < length ps
    → task_positions 1 (take (i + 1) ps) ≡ task_positions 1 (take i ps) ++ task_positions (i + 1) (get_or ps i d ∷ [])
tasks_more ps i d h =
    let long = length-take-le i ps (omega (arith, h)) in
    ap (task_positions 1) (take_more ps i d h) ∙ tasks-append 1 (i + 1) (take i ps) (get_or ps i d ∷ []) (omega (arith, long))

pub no_task : (k : ℕ) (p : Position) → ((extra share time : ℕ) → p ≡ at.Task extra share time → ⊥) → task_positions k (p ∷ []) ≡ []
no_task k (Hold size) not = refl
no_task k (at.Task extra share time) not = absurd (not extra share time refl)
no_task k (Par parts) not = refl

pub task_pushed : (ps : List Position) (i : ℕ) (p : Position) → i < length ps → p ≡ get_or ps i p → (found more : List ℕ)
    → found ≡ task_positions 1 (take i ps) → more ≡ found ++ task_positions (i + 1) (p ∷ []) → more ≡ task_positions 1 (take (i + 1) ps)
task_pushed ps i p h is found more was pushed =
    pushed ∙ ap (λ (ks : List ℕ). ks ++ task_positions (i + 1) (p ∷ [])) was
    ∙ ap (λ (q : Position). task_positions 1 (take i ps) ++ task_positions (i + 1) (q ∷ [])) is ∙ sym (tasks_more ps i p h)

-- each is a position
within : (low k most : ℕ) (ps : List Position) → low ≤ k → k + length ps ≤ most + 1 → (i d : ℕ) → i < length (task_positions k ps)
    → (low ≤ get_or (task_positions k ps) i d) × (get_or (task_positions k ps) i d ≤ most)
within low k most [] above few i d h = absurd (omega (arith, h))
within low k most (Hold size ∷ ps) above few i d h = within low (k + 1) most ps (omega (arith, above)) (omega (arith, few)) i d h
within low k most (Par parts ∷ ps) above few i d h = within low (k + 1) most ps (omega (arith, above)) (omega (arith, few)) i d h
within low k most (at.Task extra share time ∷ ps) above few zero d h = (above, omega (arith, few))
within low k most (at.Task extra share time ∷ ps) above few (suc i) d h =
    within low (k + 1) most ps (omega (arith, above)) (omega (arith, few)) i d (omega (arith, h))

pub tasks_within : (ps : List Position) → AreWithin (length ps) (task_positions 1 ps)
tasks_within ps i d h = within 1 1 (length ps) ps (omega arith) (omega arith) i d h

-- ---- as many as there are nodes

count : (k j : ℕ) (ps qs : List Position) → k + length ps ≡ j
    → length (task_positions k (ps ++ qs)) ≡ length (task_positions k ps) + length (task_positions j qs)
count k j ps qs e = ap length (tasks-append k j ps qs e) ∙ length-append (task_positions k ps) (task_positions j qs)

none_beside : (k n : ℕ) → length (task_positions k (beside_positions n)) ≡ 0
none_beside k zero = refl
none_beside k (suc zero) = refl
none_beside k (suc (suc n)) = refl

own_one : (nodes : List Node) (v k : ℕ) → length (task_positions k (own_positions nodes v)) ≡ 1
own_one nodes v k = refl

tree_tasks : (nodes : List Node) (f : Forest) (k : ℕ) → length (task_positions k (tree_positions nodes f)) ≡ length (all_numbers f)
tree_tasks nodes no_trees k = refl
tree_tasks nodes (tree v below others) k =
    let first = tree_positions nodes below in
    let beside = beside_positions (length (roots_of below)) in
    let own = own_positions nodes v in
    let rest = tree_positions nodes others in
    let i = k + length first in
    let j = k + length (first ++ beside) in
    let l = k + length ((first ++ beside) ++ own) in
    let one : length (task_positions k (((first ++ beside) ++ own) ++ rest))
    ≡ length (task_positions k ((first ++ beside) ++ own)) + length (task_positions l rest) =
    count k l ((first ++ beside) ++ own) rest refl in
    let two : length (task_positions k ((first ++ beside) ++ own))
    ≡ length (task_positions k (first ++ beside)) + length (task_positions j own) =
    count k j (first ++ beside) own refl in
    let three : length (task_positions k (first ++ beside)) ≡ length (task_positions k first) + length (task_positions i beside) =
    count k i first beside refl in
    omega (
      arith,
      one,
      two,
      three,
      none_beside i (length (roots_of below)),
      own_one nodes v j,
      tree_tasks nodes below k,
      tree_tasks nodes others l,
      length-append (all_numbers below ++ v ∷ []) (all_numbers others),
      length-append (all_numbers below) (v ∷ []),
    )

pub forest_tasks : (nodes : List Node) (f : Forest) → length (task_positions 1 (forest_positions nodes f)) ≡ length (all_numbers f)
forest_tasks nodes f =
    let all = tree_positions nodes f in
    let n = length (roots_of f) in
    omega (arith, count 1 (1 + length all) all (beside_positions n) refl, none_beside (1 + length all) n, tree_tasks nodes f 1)

-- ---- names

pub range_more : (a n j : ℕ) → a + n ≡ j → range_with_len a (suc n) ≡ range_with_len a n ++ j ∷ []
range_more a zero j e = let same : a ≡ j = omega (arith, e) in ap (λ (x : ℕ). x ∷ []) same
range_more a (suc n) j e = ap (λ (xs : List ℕ). a ∷ xs) (range_more (a + 1) n j (omega (arith, e)))

pub range_within : (n : ℕ) → AreWithin n (range_with_len 1 n)
range_within n i d h =
    let few = length-range_with_len 1 n in
    let value = get_or-range_with_len 1 n i d (omega (arith, h, few)) in
    (omega (arith, value), omega (arith, value, h, few))

-- a permutation of the numbers from 1 on holds each of them once
pub names_of : (names : List ℕ) (n : ℕ) → IsPermutation names (range_with_len 1 n) → IsNaming names
names_of names n is =
    let back = IsPermutation-sym names (range_with_len 1 n) is in
    let long : length names ≡ n = omega (arith, length_permutation names (range_with_len 1 n) is, length-range_with_len 1 n) in
    let distinct : IsDistinct eqb names = IsDistinct-IsPermutation eqb eqb_flips (range_with_len 1 n) names back
    (IsDistinct-from_apart eqb (range_with_len 1 n) (λ i j d ij jn.
    let few = length-range_with_len 1 n in
    ne_eqb _ _ (λ e. omega (
      arith,
      e,
      ij,
      get_or-range_with_len 1 n i d (omega (arith, ij, jn, few)),
      get_or-range_with_len 1 n j d (omega (arith, jn, few)),
    )))) in
    record {
      within = subst (λ (m : ℕ). AreWithin m names) (sym long)
          (All-permutation (λ k. (1 ≤ k) × (k ≤ n)) (range_with_len 1 n) names back (range_within n));
      once = λ i j ij jn e.
          absurd (cc (sym (apart_from_distinct eqb names i j 0 distinct ij jn) ∙ eq-eqb (get_or names i 0) (get_or names j 0) e));
      each = λ v low high. Contains-permutation (range_with_len 1 n) names v back (held v n low (omega (arith, high, long)));
    }
  where
    eqb_flips : (x y : ℕ) → eqb x y ≡ eqb y x
    eqb_flips x y = grind arith

    held : (v n : ℕ) → 1 ≤ v → v ≤ n → Contains (range_with_len 1 n) v
    held v n low high = (
      v - 1,
      omega (arith, low, high, length-range_with_len 1 n),
      get_or-range_with_len 1 n (v - 1) v (omega (arith, low, high)) ∙ omega (arith, low),
    )

-- the position of the task of a name
pub position_at : (v i : ℕ) (names ks : List ℕ) → i < length names → i < length ks → get_or names i 0 ≡ v
    → ((j : ℕ) → j < i → get_or names j 0 ≢ v) → position_named v names ks ≡ get_or ks i 0
position_at v i [] ks many more is first = absurd (omega (arith, many))
position_at v i (name ∷ names) [] many more is first = absurd (omega (arith, more))
position_at v zero (name ∷ names) (k ∷ ks) many more is first = rw (eq-eqb name v is) refl
position_at v (suc i) (name ∷ names) (k ∷ ks) many more is first =
    rw (ne_eqb name v (first 0 (omega arith)))
    (position_at v i names ks (omega (arith, many)) (omega (arith, more)) is (λ j h. first (suc j) (omega (arith, h))))

module _ (names ks : List ℕ) (are : IsNaming names) (many : length ks ≡ length names) where
  -- a name is at one place
  pub one_place : (i j : ℕ) → i < length names → j < length names → get_or names i 0 ≡ get_or names j 0 → i ≡ j
  one_place i j hi hj e = elim (cases_lt i j) [
    | inl lt ↦ absurd (are.once i j lt hj e)
    | inr le ↦ elim (cases_lt j i) [ inl gt ↦ absurd (are.once j i gt hi (sym e)) | inr same ↦ omega (arith, le, same) ]
  ]

  -- the position at the place of a name
  pub position_there : (i : ℕ) → i < length names → position_named (get_or names i 0) names ks ≡ get_or ks i 0
  position_there i h =
      position_at (get_or names i 0) i names ks h (omega (arith, h, many)) refl (λ j lt e. are.once j i lt h e)

  -- a table that has, for the name at each place, what stands there
  pub by_names : (named : List ℕ) → length named ≡ length names
      → ((i : ℕ) → i < length names → get_or named (get_or names i 0 - 1) 0 ≡ get_or ks i 0)
      → named ≡ map (λ v. position_named v names ks) (range_with_len 1 (length names))
  by_names named long each =
      ext_get_or 0 named (map (λ v. position_named v names ks) (range_with_len 1 (length names)))
      (long ∙ sym (length-map-range_with_len (λ v. position_named v names ks) 1 (length names)))
      (λ q h.
      let found = are.each (q + 1) (omega arith) (omega (arith, h, long)) in
      let i = found.0 in
      let is : get_or names i 0 ≡ q + 1 = sym (get_or_default_zero names i (q + 1) found.1) ∙ found.2 in
      let here : get_or names i 0 - 1 ≡ q = omega (arith, is) in
      subst (λ (p : ℕ). get_or named p 0 ≡ get_or ks i 0) here (each i found.1)
      ∙ sym (position_there i found.1) ∙ ap (λ (v : ℕ). position_named v names ks) is
      ∙ sym
      (get_or-map-range_with_len (λ v. position_named v names ks) 1 (length names) q (q + 1) 0 (omega (arith, h, long)) (omega arith)))

  -- each name has a position
  pub named_within : (most : ℕ) → AreWithin most ks
      → AreWithin most (map (λ v. position_named v names ks) (range_with_len 1 (length names)))
  named_within most within q d h =
      let few = length-map-range_with_len (λ v. position_named v names ks) 1 (length names) in
      let found = are.each (q + 1) (omega arith) (omega (arith, h, few)) in
      let i = found.0 in
      let is : get_or names i 0 ≡ q + 1 = sym (get_or_default_zero names i (q + 1) found.1) ∙ found.2 in
      let value : get_or ks i 0 ≡ get_or (map (λ v. position_named v names ks) (range_with_len 1 (length names))) q d =
      sym (position_there i found.1) ∙ ap (λ (v : ℕ). position_named v names ks) is
      ∙ sym (get_or-map-range_with_len (λ v. position_named v names ks) 1
      (length names) q (q + 1) d (omega (arith, h, few)) (omega arith)) in
      subst (λ (k : ℕ). (1 ≤ k) × (k ≤ most)) value (within i 0 (omega (arith, found.1, many)))

pub nodes_within : (names : List ℕ) (ps : List Position) → IsNaming names
    → length (task_positions 1 ps) ≡ length names → AreWithin (length ps) (node_positions names ps)
nodes_within names ps are many = named_within names (task_positions 1 ps) are many (length ps) (tasks_within ps)

-- those of the nodes of a forest
pub forest_within : (nodes : List Node) (f : Forest) (ps : List Position)
    → ps ≡ forest_positions nodes f → IsPermutation (all_numbers f) (range_with_len 1 (length nodes))
    → AreWithin (length ps) (node_positions (all_numbers f) ps)
forest_within nodes f ps is each =
    nodes_within (all_numbers f) ps (names_of (all_numbers f) (length nodes) each)
    (ap (λ (rs : List Position). length (task_positions 1 rs)) is ∙ forest_tasks nodes f)
