-- Which claims on parts side by side a claim on the whole needs.
use Rattle.std.proofs.Common.{◌≡◌, ℕ, ◌+◌, ◌-◌, ◌<◌, ◌≤◌, ◌⊎◌, inl, inr, refl, sym, subst}
use Rattle.std.proofs.Common.{ap, arith, ◌∙◌, List, [], ◌∷◌, Option, Some, None}
use Rattle.std.specs.Prelude.{ℤ, pos, ◌-ℤ◌}
use Rattle.std.specs.List.{sum_by}
use Rattle.std.proofs.lemmas.Bool.Decides.{nat_tests}
use Rattle.std.proofs.lemmas.List.Sums.{sum_by-cons}
use Rattle.side_laws.specs.Segments.{Segment, net_sum, lowest, top, Passes, IsRising}
use Rattle.side_laws.specs.Merging.{merge_segments, AllRising}
use Rattle.side_laws.specs.Levels.{level_sum, AllStart, EachStuck, EachPasses}
use Rattle.hill_valley.specs.Side.{limit_from, run_profile}
use Rattle.segment_merge.specs.Merging.{run_profiles}
use Rattle.sp_terms.specs.Places.{list_of_parts}
use Rattle.sp_terms.specs.Term.{Term, Parts, no_parts, part, Direction, forward, backward, least_of, count}
use Rattle.claim_rules.specs.Claims.{Claim}
use Rattle.claim_rules.specs.Rules.{MeetsPar, value_in, values_in, HasRoom, HaveRoom, SomeClaim}
use Rattle.segment_merge.specs.Laws.{SideLaws}
use Rattle.cut_laws.specs.Cuts.{Cut, side_of, start_of, top_of, par_cut, fronts, backs, starts, sides}
use Rattle.cut_laws.proofs.Wanted.{Wants, WantsIf, AllWant, Fits, AllFit, part_claim, par_claims, AreStuckWithin}
use Rattle.cut_laws.proofs.Levels.{lowest_stuck, lowest_end, passes_from_top, top_from_passes}
use Rattle.lists.proofs.Orders.{lt_or_le}
use Rattle.cut_laws.proofs.Limits.{limit-less, same-bound}

-- the parts show what is asked of them, and the rule of parts side by side is met
pub record ParChoice (ts : Parts) (cs : List Cut) (k : Claim) (ks : List (Option Claim)) : Type 0 where
  pub wants : AllWant cs ks
  pub meets : MeetsPar (list_of_parts ts) ks k

claim_yes : (d : Direction) (bound : ℤ) (c : Cut) (level : ℕ) → limit_from bound ≤ top_of d c
    → part_claim d bound c level ≡ Some (record { direction = d; bound = bound; rest = level })
claim_yes d bound c level h = grind (arith, nat_tests)

claim_none : (d : Direction) (bound : ℤ) (c : Cut) (level : ℕ) → top_of d c < limit_from bound → part_claim d bound c level ≡ None
claim_none d bound c level h = grind (arith, nat_tests)

pub value_same : (d : Direction) (t : Term) (bound : ℤ) (rest : ℕ)
    → value_in d t (Some (record { direction = d; bound = bound; rest = rest })) ≡ rest
value_same forward t bound rest = refl
value_same backward t bound rest = refl

pub fit_low : (d : Direction) (t : Term) (c : Cut) → Fits t c → net_sum (run_profile (side_of d c)) + least_of t ≡ start_of d c
fit_low forward t c f = let q = f.front in omega (arith, f.low)
fit_low backward t c f = let q = f.back in omega (arith, f.low)

record PartChosen (d : Direction) (bound : ℤ) (total m : ℕ) (t : Term) (c : Cut) (level : ℕ) (k : Option Claim) : Type 0 where
  wants : WantsIf c k
  value_is : value_in d t k ≡ level
  room : HasRoom bound (total - value_in d t k) k
  some : ((ks : List (Option Claim)) → SomeClaim (k ∷ ks)) ⊎ ((k ≡ None) × (top_of d c < m))

some_later : (c : Option Claim) (cs : List (Option Claim)) → SomeClaim cs → SomeClaim (c ∷ cs)
some_later None cs h = h
some_later (Some c) cs h = tt

record AllChosen (d : Direction) (bound : ℤ) (total others : ℕ) (ts : Parts)
    (cs : List Cut) (ls : List ℕ) (ks : List (Option Claim)) : Type 0 where
  wants : AllWant cs ks
  values : values_in d (list_of_parts ts) ks ≡ level_sum ls
  room : HaveRoom d bound total (list_of_parts ts) ks
  some : SomeClaim ks ⊎ EachPasses (limit_from bound) others (starts d cs) (sides d cs) ls

module _ (laws : SideLaws) (d : Direction) (bound : ℤ) (total : ℕ) where
  part_chosen : (t : Term) (c : Cut) (level : ℕ) → Fits t c → level ≤ total
      → lowest (limit_from bound - (total - level)) (start_of d c) (run_profile (side_of d c)) ≡ level
      → PartChosen d bound total (limit_from bound - (total - level)) t c level (part_claim d (bound -ℤ pos (total - level)) c level)
  part_chosen t c level f le e =
      let own : ℤ = bound -ℤ pos (total - level) in
      let is : limit_from own ≡ limit_from bound - (total - level) = limit-less bound (total - level) in
      elim (lt_or_le (top_of d c) (limit_from own)) [
        | inl h ↦ subst (PartChosen d bound total (limit_from bound - (total - level)) t c level) (sym (claim_none d own c level h))
            (record {
              wants = tt;
              value_is = let q = fit_low d t c f in
                  omega (
                    arith,
                    lowest_end laws (limit_from bound - (total - level)) (start_of d c) (run_profile (side_of d c)) (omega arith),
                    e,
                  );
              room = tt;
              some = inr (refl, omega arith);
            })
        | inr h ↦ subst (PartChosen d bound total (limit_from bound - (total - level)) t c level) (sym (claim_yes d own c level h))
            (record {
              wants = record {
                below = h;
                low = subst (λ (n : ℕ). level ≤ lowest n (start_of d c) (run_profile (side_of d c))) (sym is) (omega arith);
              };
              value_is = value_same d t own level;
              room = subst (λ (n : ℕ). HasRoom bound (total - n) (Some (record { direction = d; bound = own; rest = level })))
                  (sym (value_same d t own level)) (same-bound own);
              some = inl (λ ks. tt);
            })
      ]

  all_chosen : (others : ℕ) (ts : Parts) (cs : List Cut) (ls : List ℕ) → AllFit ts cs
      → EachStuck (limit_from bound) others (starts d cs) (sides d cs) ls → total ≡ others + level_sum ls
      → AllChosen d bound total others ts cs ls (par_claims d bound total cs ls)
  all_chosen others no_parts [] [] f e h = record { wants = tt; values = refl; room = tt; some = inr tt }
  all_chosen others no_parts [] (l ∷ ls) f e h = absurd e
  all_chosen others no_parts (c ∷ cs) ls f e h = absurd f
  all_chosen others (part t ts) [] ls f e h = absurd f
  all_chosen others (part t ts) (c ∷ cs) [] f e h = absurd e
  all_chosen others (part t ts) (c ∷ cs) (l ∷ ls) f e h =
      let limit : ℕ = limit_from bound in
      let own : ℤ = bound -ℤ pos (total - l) in
      let m : limit - (others + level_sum ls) ≡ limit - (total - l) = omega arith in
      let low : lowest (limit - (total - l)) (start_of d c) (run_profile (side_of d c)) ≡ l =
      subst (λ (n : ℕ). lowest n (start_of d c) (run_profile (side_of d c)) ≡ l) m e.0 in
      let x : PartChosen d bound total (limit - (total - l)) t c l (part_claim d own c l) = part_chosen t c l f.0 (omega arith) low in
      let r : AllChosen d bound total (others + l) ts cs ls (par_claims d bound total cs ls) =
      all_chosen (others + l) ts cs ls f.1 e.2 (omega arith) in
      record {
        wants = (x.wants, r.wants);
        values = omega (arith, x.value_is, r.values);
        room = (x.room, r.room);
        some = elim x.some [
          | inl s ↦ inl (s (par_claims d bound total cs ls))
          | inr s ↦ elim r.some [
            | inl u ↦ inl (some_later (part_claim d own c l) (par_claims d bound total cs ls) u)
            | inr p ↦ inr (
              subst (λ (n : ℕ). Passes n (start_of d c) (run_profile (side_of d c))) (sym m)
                  (passes_from_top laws (limit - (total - l)) (start_of d c) (run_profile (side_of d c)) s.1),
              p,
            )
          ]
        ];
      }

  -- where the starts together reach the limit, the first part is claimed
  first_claimed : (ts : Parts) (cs : List Cut) (ls : List ℕ) → 1 ≤ count ts → AllFit ts cs
      → EachStuck (limit_from bound) 0 (starts d cs) (sides d cs) ls → level_sum ls ≡ total → limit_from bound ≤ total
      → SomeClaim (par_claims d bound total cs ls)
  first_claimed no_parts cs ls some f e h le = absurd (omega arith)
  first_claimed (part t ts) [] ls some f e h le = absurd f
  first_claimed (part t ts) (c ∷ cs) [] some f e h le = absurd e
  first_claimed (part t ts) (c ∷ cs) (l ∷ ls) some f e h le =
      let q = e.1 in
      let high : limit_from (bound -ℤ pos (total - l)) ≤ top_of d c =
      omega (arith, laws.above (start_of d c) (run_profile (side_of d c)), limit-less bound (total - l)) in
      subst (λ (k : Option Claim). SomeClaim (k ∷ par_claims d bound total cs ls))
      (sym (claim_yes d (bound -ℤ pos (total - l)) c l high)) tt

-- ---- the merged side

pub sides_forward : (cs : List Cut) → run_profiles (fronts cs) ≡ sides forward cs
sides_forward [] = refl
sides_forward (c ∷ cs) = ap (λ (l : List (List Segment)). run_profile c.front ∷ l) (sides_forward cs)

pub sides_backward : (cs : List Cut) → run_profiles (backs cs) ≡ sides backward cs
sides_backward [] = refl
sides_backward (c ∷ cs) = ap (λ (l : List (List Segment)). run_profile c.back ∷ l) (sides_backward cs)

pub start_initial : (cs : List Cut) → sum_by (λ c. c.initial) cs ≡ level_sum (starts forward cs)
start_initial [] = refl
start_initial (c ∷ cs) = omega (arith, start_initial cs, sum_by-cons (λ (x : Cut). x.initial) c cs)

pub start_fin : (cs : List Cut) → sum_by (λ c. c.fin) cs ≡ level_sum (starts backward cs)
start_fin [] = refl
start_fin (c ∷ cs) = omega (arith, start_fin cs, sum_by-cons (λ (x : Cut). x.fin) c cs)

pub start_par : (d : Direction) (cs : List Cut) → start_of d (par_cut cs) ≡ level_sum (starts d cs)
start_par forward cs = start_initial cs
start_par backward cs = start_fin cs

module _ (laws : SideLaws) where
  pub side_par : (d : Direction) (cs : List Cut) → run_profile (side_of d (par_cut cs)) ≡ merge_segments (sides d cs)
  side_par forward cs = laws.profile_merge (fronts cs) ∙ ap merge_segments (sides_forward cs)
  side_par backward cs = laws.profile_merge (backs cs) ∙ ap merge_segments (sides_backward cs)

  pub choice_par : (ts : Parts) (cs : List Cut) (d : Direction) (bound : ℤ) (rest : ℕ) (ls : List ℕ)
      → 1 ≤ count ts → AllFit ts cs → AreStuckWithin d bound cs ls
      → Wants (par_cut cs) (record { direction = d; bound = bound; rest = rest })
      → ParChoice ts cs (record { direction = d; bound = bound; rest = rest }) (par_claims d bound (level_sum ls) cs ls)
  choice_par ts cs d bound rest ls some f levels w =
      let limit : ℕ = limit_from bound in
      let start : ℕ = level_sum (starts d cs) in
      let all : List Segment = merge_segments (sides d cs) in
      let zero_less : limit - 0 ≡ limit = omega arith in
      let below : limit ≤ top start all = subst (λ (n : ℕ). limit ≤ top n all) (start_par d cs)
      (subst (λ (l : List Segment). limit ≤ top (start_of d (par_cut cs)) l) (side_par d cs) w.below) in
      let low : rest ≤ lowest limit start all = subst (λ (n : ℕ). rest ≤ lowest limit n all) (start_par d cs)
      (subst (λ (l : List Segment). rest ≤ lowest limit (start_of d (par_cut cs)) l) (side_par d cs) w.low) in
      let together : lowest limit start all ≡ level_sum ls =
      subst (λ (n : ℕ). lowest n start all ≡ level_sum ls) zero_less levels.together in
      let pass : EachPasses limit 0 (starts d cs) (sides d cs) ls → Passes limit start all =
      λ p. subst (λ (n : ℕ). Passes n start all) zero_less (levels.pass p) in
      let x : AllChosen d bound (level_sum ls) 0 ts cs ls (par_claims d bound (level_sum ls) cs ls) =
      all_chosen laws d bound (level_sum ls) 0 ts cs ls f levels.each (omega arith) in
      record {
        wants = x.wants;
        meets = record {
          some = elim x.some [
            | inl s ↦ s
            | inr p ↦ elim (lt_or_le start limit) [
              | inl lt ↦ absurd (let q = top_from_passes laws limit start all lt (pass p) in omega arith)
              | inr le ↦ first_claimed laws d bound (level_sum ls) ts cs ls some f levels.each refl
                  (omega (arith, lowest_stuck limit start all le, together))
            ]
          ];
          room = subst (λ (n : ℕ). HaveRoom d bound n (list_of_parts ts) (par_claims d bound (level_sum ls) cs ls)) (sym x.values) x.room;
          rest = omega (arith, x.values, together);
        };
      }

abbrev pub AllRise : List Cut → Type 0
AllRise [] = Unit {0}
AllRise (c ∷ cs) = (IsRising (run_profile c.front) × IsRising (run_profile c.back)) × AllRise cs

all_rising : (d : Direction) (cs : List Cut) → AllRise cs → AllRising (sides d cs)
all_rising d [] h = tt
all_rising forward (c ∷ cs) h = (h.0.0, all_rising forward cs h.1)
all_rising backward (c ∷ cs) h = (h.0.1, all_rising backward cs h.1)

all_start : (d : Direction) (ts : Parts) (cs : List Cut) → AllFit ts cs → AllStart (starts d cs) (sides d cs)
all_start d no_parts [] f = tt
all_start d no_parts (c ∷ cs) f = absurd f
all_start d (part t ts) [] f = absurd f
all_start d (part t ts) (c ∷ cs) f = (let q = fit_low d t c f.0 in omega arith, all_start d ts cs f.1)

pub some_levels : SideLaws → (d : Direction) (bound : ℤ) (ts : Parts) (cs : List Cut)
    → AllFit ts cs → AllRise cs → (ls : List ℕ) × AreStuckWithin d bound cs ls
some_levels laws d bound ts cs f r = laws.levels (limit_from bound) 0 (starts d cs) (sides d cs) (all_rising d cs r) (all_start d ts cs f)
