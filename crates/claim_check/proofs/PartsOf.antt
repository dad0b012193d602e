-- The parts of a term, from the last one back.
use Rattle.std.proofs.Common.{◌≡◌, refl, sym, ap, ◌∙◌, subst, ℕ, zero, suc, ◌+◌, ◌-◌, ◌<◌, ◌≤◌}
use Rattle.std.proofs.Common.{All, List, [], ◌∷◌, length, drop, map, get_or, Option, arith}
use Rattle.std.proofs.Math.Seq.{drop-cons}
use Rattle.std.proofs.lemmas.List.{get_or-map, length-map}
use Rattle.std.proofs.lemmas.List.Elements.{All-get_or}
use Rattle.mp_system.specs.declared.system.Task.{Task}
use Rattle.sp_terms.specs.Term.{Term, hold, series, par, Parts, no_parts, part, width_of, width_of_parts, count}
use Rattle.sp_terms.specs.Places.{list_of_parts, positions_after, parts_of, part_positions}
use Rattle.claim_rules.specs.Claims.{Claim}

pub widths : List Term → ℕ
widths [] = 0
widths (t ∷ ts) = width_of t + widths ts

pub length_ends : (before : ℕ) (ts : List Term) → length (positions_after before ts) ≡ length ts
length_ends before [] = refl
length_ends before (t ∷ ts) = ap suc (length_ends (before + width_of t) ts)

-- each part ends its width behind the one before it
ends_next : (before : ℕ) (ts : List Term) (i : ℕ) → suc i < length ts
    → get_or (positions_after before ts) (suc i) 0 ≡ get_or (positions_after before ts) i 0 + width_of (get_or ts (suc i) (hold 0))
ends_next before [] i lt = absurd (omega arith)
ends_next before (t ∷ []) i lt = absurd (omega arith)
ends_next before (t ∷ u ∷ ts) zero lt = refl
ends_next before (t ∷ u ∷ ts) (suc i) lt = ends_next (before + width_of t) (u ∷ ts) i (omega arith)

ends_wide : (before : ℕ) (ts : List Term) (i : ℕ) → i < length ts → width_of (get_or ts i (hold 0)) ≤ get_or (positions_after before ts) i 0
ends_wide before [] i lt = absurd (omega arith)
ends_wide before (t ∷ ts) zero lt = omega arith
ends_wide before (t ∷ ts) (suc i) lt = ends_wide (before + width_of t) ts i (omega arith)

pub ends_last : (before : ℕ) (ts : List Term) (i : ℕ) → suc i ≡ length ts → get_or (positions_after before ts) i 0 ≡ before + widths ts
unfolding widths
ends_last before [] i e = absurd (omega arith)
ends_last before (t ∷ []) zero e = omega arith
ends_last before (t ∷ []) (suc i) e = absurd (omega arith)
ends_last before (t ∷ u ∷ ts) zero e = absurd (omega arith)
ends_last before (t ∷ u ∷ ts) (suc i) e = omega (arith, ends_last (before + width_of t) (u ∷ ts) i (omega arith))

pub widths_of_parts : (ts : Parts) → widths (list_of_parts ts) ≡ width_of_parts ts
unfolding widths
widths_of_parts no_parts = refl
widths_of_parts (part t ts) = ap (λ n. width_of t + n) (widths_of_parts ts)

pub length_parts : (ts : Parts) → length (list_of_parts ts) ≡ count ts
length_parts no_parts = refl
length_parts (part t ts) = ap suc (length_parts ts)

-- so many parts are left, and the last of them stands here
pub record Walk (before : ℕ) (ts : List Term) (left here : ℕ) : Type 0 where
  pub few : left ≤ length ts
  pub stands : 0 < left → here ≡ get_or (positions_after before ts) (left - 1) 0

-- the part that stands here, and what comes before it
pub record Step (term : ℕ → Term) (k before : ℕ) (ts : List Term) (left here : ℕ) : Type 0 where
  pub low : 1 ≤ here
  pub high : here < k
  pub room : width_of (term here) ≤ here
  pub terms : drop (left - 1) ts ≡ term here ∷ drop left ts
  pub claims : (f : ℕ → Option Claim)
      → drop (left - 1) (map f (positions_after before ts)) ≡ f here ∷ drop left (map f (positions_after before ts))
  pub walk : Walk before ts (left - 1) (here - width_of (term here))

pub step : (term : ℕ → Term) (k before : ℕ) (ts : List Term) (left here : ℕ) → map term (positions_after before ts) ≡ ts
    → All (λ j. (1 ≤ j) × (j < k)) (positions_after before ts) → 0 < left → Walk before ts left here → Step term k before ts left here
step term k before ts left here are within some w =
    let ends = positions_after before ts in
    let lens : length ends ≡ length ts = length_ends before ts in
    let lt : left - 1 < length ts = omega (arith, w.few) in
    let lt_ends : left - 1 < length ends = omega arith in
    let stands : here ≡ get_or ends (left - 1) 0 = w.stands some in
    let within_here = subst (λ j. (1 ≤ j) × (j < k)) (sym stands) (All-get_or (λ j. (1 ≤ j) × (j < k)) ends (left - 1) 0 lt_ends within) in
    let one : suc (left - 1) ≡ left = omega arith in
    let is : term here ≡ get_or ts (left - 1) (hold 0) =
    ap term stands ∙ sym (get_or-map term ends (left - 1) 0 (hold 0) lt_ends) ∙ ap (λ l. get_or l (left - 1) (hold 0)) are in
    let wide : width_of (term here) ≤ here = omega (arith, ends_wide before ts (left - 1) lt, ap width_of is) in
    record {
      low = within_here.0;
      high = within_here.1;
      room = wide;
      terms = drop-cons ts (left - 1) (hold 0) lt ∙ ap (λ t. t ∷ drop (suc (left - 1)) ts) (sym is) ∙ ap (λ n. term here ∷ drop n ts) one;
      claims = λ f. drop-cons (map f ends) (left - 1) (f 0) (omega (arith, length-map ends f))
          ∙ ap (λ c. c ∷ drop (suc (left - 1)) (map f ends)) (get_or-map f ends (left - 1) 0 (f 0) lt_ends ∙ ap f (sym stands))
          ∙ ap (λ n. f here ∷ drop n (map f ends)) one;
      walk = record {
        few = omega arith;
        stands = λ more.
            let next = ends_next before ts (left - 1 - 1) (omega arith) in
            let two : suc (left - 1 - 1) ≡ left - 1 = omega arith in
            let wider : get_or ends (left - 1) 0 ≡ get_or ends (left - 1 - 1) 0 + width_of (get_or ts (left - 1) (hold 0)) =
            subst (λ n. get_or ends n 0 ≡ get_or ends (left - 1 - 1) 0 + width_of (get_or ts n (hold 0))) two next in
            omega (arith, wider, stands, ap width_of is);
      };
    }

-- the last part stands just before the whole
pub first_step : (k : ℕ) (t : Term) → width_of t ≡ suc (widths (parts_of t))
    → All (λ j. (1 ≤ j) × (j < k)) (part_positions k t) → Walk (k - width_of t) (parts_of t) (length (parts_of t)) (k - 1)
first_step k t wide within =
    let before = k - width_of t in
    let ts = parts_of t in
    let lens : length (positions_after before ts) ≡ length ts = length_ends before ts in
    record {
      few = omega arith;
      stands = λ some.
          let last = ends_last before ts (length ts - 1) (omega arith) in
          let low = All-get_or (λ j. (1 ≤ j) × (j < k)) (positions_after before ts) (length ts - 1) 0 (omega arith) within in
          omega (arith, last, low.1, wide);
    }

pub width_of_par : (ts : Parts) → width_of (par ts) ≡ suc (widths (parts_of (par ts)))
width_of_par ts = ap suc (sym (widths_of_parts ts))

pub width_of_series : (a : Term) (v : Task) (b : Term) → width_of (series a v b) ≡ suc (widths (parts_of (series a v b)))
unfolding widths
width_of_series a v b = omega arith
