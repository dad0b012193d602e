-- Arcs counted by their ends, the arcs that are added, and sizes summed by the ends of arcs.
use Rattle.std.proofs.Common.{◌≡◌, ℕ, ◌+◌, ◌-◌, ◌<◌, ◌≤◌, Bool, true, false, cond, eqb, List, [], ◌∷◌, ◌++◌}
use Rattle.std.proofs.Common.{length, take, get_or, map, filter, refl, sym, ap, ◌∙◌, arith, append_assoc}
use Rattle.std.specs.List.{sum_by, count_by, range_with_len, All}
use Rattle.std.proofs.lemmas.List.{map-append, map-id, append-nil, length-take-le}
use Rattle.std.proofs.lemmas.List.Elements.{filter_agree, All-map}
use Rattle.std.proofs.lemmas.List.FromFn.{filter_of_map_range_with_len_more}
use Rattle.std.proofs.lemmas.List.Sums.{sum_by-cons, count_by-le-length, sum_by_more_le_part}
use Rattle.graphs.specs.declared.arc.Arc.{Arc}
use Rattle.graphs.specs.Graph.{IsArcWithin, is_into, is_out_of, arc_between, without_into, without_out}
use Rattle.graphs.specs.Graph.{completed_arcs, size_into, size_out_of, arc_size}
use Rattle.graphs.specs.Queue.{to_of, from_of}

pub heads-within : (n : ℕ) (arcs : List Arc) → All (IsArcWithin n) arcs → All (λ v. v ≤ n) (map to_of arcs)
heads-within n arcs within = All-map (λ v. v ≤ n) to_of arcs (λ i d lt. (within i d lt).to)

pub tails-within : (n : ℕ) (arcs : List Arc) → All (IsArcWithin n) arcs → All (λ v. v ≤ n) (map from_of arcs)
tails-within n arcs within = All-map (λ v. v ≤ n) from_of arcs (λ i d lt. (within i d lt).from)

pub tails-below : (n : ℕ) (arcs : List Arc) → All (IsArcWithin n) arcs → All (λ v. v < n + 1) (map from_of arcs)
tails-below n arcs within = All-map (λ v. v < n + 1) from_of arcs (λ i d lt. (let le = (within i d lt).from in omega arith))

count-heads : (v : ℕ) (arcs : List Arc) → count_by (λ e. eqb e v) (map to_of arcs) ≡ count_by (is_into v) arcs
count-heads v [] = refl
count-heads v (x ∷ xs) = omega (
  arith,
  sum_by-cons (λ e. cond {A = ℕ} (eqb e v) 1 0) x.to (map to_of xs),
  sum_by-cons (λ a. cond {A = ℕ} (is_into v a) 1 0) x xs,
  count-heads v xs,
)

count-tails : (v : ℕ) (arcs : List Arc) → count_by (λ e. eqb e v) (map from_of arcs) ≡ count_by (is_out_of v) arcs
count-tails v [] = refl
count-tails v (x ∷ xs) = omega (
  arith,
  sum_by-cons (λ e. cond {A = ℕ} (eqb e v) 1 0) x.from (map from_of xs),
  sum_by-cons (λ a. cond {A = ℕ} (is_out_of v a) 1 0) x xs,
  count-tails v xs,
)

-- a count of the first ends is below their number
pub count-fits : (v : ℕ) (ends : List ℕ) (i : ℕ) → i < length ends → count_by (λ e. eqb e v) (take i ends) ≤ i
count-fits v ends i lt = omega (arith, count_by-le-length (λ e. eqb e v) (take i ends), length-take-le i ends (omega arith))

-- ---- arcs that are added, one task more at a time

range-more : (p : ℕ → Bool) (v : ℕ) → 1 ≤ v
    → filter p (range_with_len 1 (v + 1 - 1)) ≡ filter p (range_with_len 1 (v - 1)) ++ cond (p v) (v ∷ []) []
range-more p v some =
    let next : v + 1 - 1 ≡ v - 1 + 1 = omega arith in
    ap (λ (n : ℕ). filter p (range_with_len 1 n)) next ∙ sym (ap (filter p) (map-id (range_with_len 1 (v - 1 + 1))))
    ∙ filter_of_map_range_with_len_more p (λ x. x) 1 (v - 1) v (omega arith)
    ∙ ap (λ (xs : List ℕ). filter p xs ++ cond (p v) (v ∷ []) []) (map-id (range_with_len 1 (v - 1)))

module _ (f : ℕ → Arc) (p : ℕ → Bool) (base old : List Arc) (v : ℕ) (some : 1 ≤ v)
    (is : old ≡ base ++ map f (filter p (range_with_len 1 (v - 1)))) where
  pub added-yes : p v ≡ true → old ++ f v ∷ [] ≡ base ++ map f (filter p (range_with_len 1 (v + 1 - 1)))
  added-yes passes =
      let xs = filter p (range_with_len 1 (v - 1)) in
      let more : filter p (range_with_len 1 (v + 1 - 1)) ≡ xs ++ v ∷ [] =
      range-more p v some ∙ ap (λ (b : Bool). xs ++ cond b (v ∷ []) []) passes in
      ap (λ (front : List Arc). front ++ f v ∷ []) is ∙ append_assoc base (map f xs) (f v ∷ [])
      ∙ ap (λ (more : List Arc). base ++ more) (sym (ap (map f) more ∙ map-append f xs (v ∷ [])))

  pub added-no : p v ≡ false → old ≡ base ++ map f (filter p (range_with_len 1 (v + 1 - 1)))
  added-no fails =
      let xs = filter p (range_with_len 1 (v - 1)) in
      let more : filter p (range_with_len 1 (v + 1 - 1)) ≡ xs =
      range-more p v some ∙ ap (λ (b : Bool). xs ++ cond b (v ∷ []) []) fails ∙ append-nil xs in
      is ∙ ap (λ (more : List Arc). base ++ more) (sym (ap (map f) more))

pub all-added : (n : ℕ) (arcs all one two : List Arc) (heads tails : List ℕ) → all ≡ arcs
    → ((v : ℕ) → get_or heads v 0 ≡ count_by (λ e. eqb e v) (map to_of arcs))
    → ((v : ℕ) → get_or tails v 0 ≡ count_by (λ e. eqb e v) (map from_of arcs))
    → one ≡ all ++ map (λ v. arc_between 0 v) (filter (λ v. eqb (get_or heads v 0) 0) (range_with_len 1 n))
    → two ≡ one ++ map (λ v. arc_between v 0) (filter (λ v. eqb (get_or tails v 0) 0) (range_with_len 1 n))
    → two ≡ completed_arcs n arcs
all-added n arcs all one two heads tails all_is heads_are tails_are one_is two_is =
    let first : filter (λ v. eqb (get_or heads v 0) 0) (range_with_len 1 n) ≡ without_into n arcs =
    filter_agree (λ v. eqb (get_or heads v 0) 0) (λ v. eqb (count_by (is_into v) arcs) 0)
    (λ v. ap (λ (k : ℕ). eqb k 0) (heads_are v ∙ count-heads v arcs)) (range_with_len 1 n) in
    let last : filter (λ v. eqb (get_or tails v 0) 0) (range_with_len 1 n) ≡ without_out n arcs =
    filter_agree (λ v. eqb (get_or tails v 0) 0) (λ v. eqb (count_by (is_out_of v) arcs) 0)
    (λ v. ap (λ (k : ℕ). eqb k 0) (tails_are v ∙ count-tails v arcs)) (range_with_len 1 n) in
    two_is ∙ (λ i. (one_is i) ++ map (λ v. arc_between v 0) (last i))
    ∙ (λ i. (all_is i ++ map (λ v. arc_between 0 v) (first i)) ++ map (λ v. arc_between v 0) (without_out n arcs))
    ∙ append_assoc arcs (map (λ v. arc_between 0 v) (without_into n arcs)) (map (λ v. arc_between v 0) (without_out n arcs))

-- ---- sizes

into-le : (v : ℕ) (x : Arc) → size_into v x ≤ arc_size x
into-le v x = elim (eqb x.to v) as (λ b. cond b x.size 0 ≤ x.size) [ true ↦ omega arith | false ↦ omega arith ]

pub out-le : (v : ℕ) (x : Arc) → size_out_of v x ≤ arc_size x
out-le v x = elim (eqb x.from v) as (λ b. cond b x.size 0 ≤ x.size) [ true ↦ omega arith | false ↦ omega arith ]

pub into-fits : (v : ℕ) (arcs : List Arc) (i : ℕ) (d : Arc) → i < length arcs
    → sum_by (size_into v) (take i arcs) + (get_or arcs i d).size ≤ sum_by arc_size arcs
into-fits v arcs i d lt = sum_by_more_le_part (size_into v) arc_size arcs i d lt (into-le v)

pub out-fits : (v : ℕ) (arcs : List Arc) (i : ℕ) (d : Arc) → i < length arcs
    → sum_by (size_out_of v) (take i arcs) + (get_or arcs i d).size ≤ sum_by arc_size arcs
out-fits v arcs i d lt = sum_by_more_le_part (size_out_of v) arc_size arcs i d lt (out-le v)
