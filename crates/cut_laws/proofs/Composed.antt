-- Cuts of a data item, of a series and of parts side by side, made of cuts of the parts.
use Rattle.std.proofs.Common.{◌≡◌, ℕ, ◌+◌, ◌<◌, ◌≤◌, inl, inr, true, false, nat_le, max, refl}
use Rattle.std.proofs.Common.{sym, subst, ap, arith, ◌∙◌, List, [], ◌∷◌, Option, Some, None}
use Rattle.std.specs.List.{sum_by}
use Rattle.std.proofs.lemmas.Bool.Decides.{nat_tests}
use Rattle.std.proofs.lemmas.List.Sums.{sum_by-cons}
use Rattle.mp_system.specs.declared.system.Task.{Task}
use Rattle.side_laws.specs.Segments.{net_sum, IsRising}
use Rattle.side_laws.specs.Levels.{level_sum}
use Rattle.hill_valley.specs.Side.{Run, run_profile}
use Rattle.segment_merge.specs.Crossing.{cross_hill_runs}
use Rattle.segment_merge.specs.Merging.{insert_runs, merge_runs}
use Rattle.sp_terms.specs.Places.{list_of_parts}
use Rattle.sp_terms.specs.Term.{Term, hold, series, par, Parts, no_parts, part, Direction, forward, backward}
use Rattle.sp_terms.specs.Term.{first_memory_of_parts, least_of_parts, hill_of, IsAllowed, AreAllowed}
use Rattle.sp_term_laws.specs.Moves.{States, memory_of, first_state}
use Rattle.claim_rules.specs.Claims.{Claim, IsSound, IsSoundIf, AreSound}
use Rattle.claim_rules.specs.Rules.{MeetsData}
use Rattle.segment_merge.specs.Laws.{SideLaws}
use Rattle.cut_laws.specs.Below.{LawsBelow}
use Rattle.cut_laws.specs.Cuts.{Cut, hold_cut, cut_first, cut_second, series_cut, par_cut, fronts, backs, over_task, front_peak, back_peak}
use Rattle.cut_laws.proofs.Leading.{IsCutOf, AreCutsOf}
use Rattle.cut_laws.specs.Names.{Names, NamesOfParts}
use Rattle.cut_laws.specs.TermCuts.{cut_of_term, cuts_of_parts}
use Rattle.cut_laws.proofs.Wanted.{Wants, WantsIf, AllWant, AllFit, first_claim, second_claim, par_claims}
use Rattle.cut_laws.proofs.Choice.{SeriesChoice, choice_first, choice_second}
use Rattle.cut_laws.proofs.Down.{down_net, first_here, second_here, first_over, second_over}
use Rattle.cut_laws.proofs.Limits.{above-beyond}
use Rattle.cut_laws.proofs.Merging.{EachLeadsDown, rising_merged, par_down}
use Rattle.cut_laws.proofs.ParChoice.{AllRise, choice_par, some_levels}
use Rattle.lists.proofs.Orders.{le_or_lt}

-- ---- a data item

pub hold_rest : (size : ℕ) (d : Direction) (k : Claim) → k.direction ≡ d → Wants (hold_cut size) k → MeetsData size k
hold_rest size forward k is w =
    let v : Wants (hold_cut size) (record { direction = forward; bound = k.bound; rest = k.rest }) =
    subst (λ (d : Direction). Wants (hold_cut size) (record { direction = d; bound = k.bound; rest = k.rest })) is w in
    (above-beyond size k.bound v.below, v.low)
hold_rest size backward k is w =
    let v : Wants (hold_cut size) (record { direction = backward; bound = k.bound; rest = k.rest }) =
    subst (λ (d : Direction). Wants (hold_cut size) (record { direction = d; bound = k.bound; rest = k.rest })) is w in
    (above-beyond size k.bound v.below, v.low)

module _ (laws : LawsBelow) where
  pub hold_is_cut : (size : ℕ) → IsCutOf (hold size) tt (hold_cut size)
  hold_is_cut size = record {
    fits = record { initial = refl; final = refl; low = refl; front = omega arith; back = omega arith };
    sound = λ k w. laws.rules (hold size) [] k tt tt (hold_rest size k.direction k refl w);
    front_rises = tt;
    back_rises = tt;
    cut = tt;
    front = refl;
    back = refl;
  }

  pub cut_low : (t : Term) (n : Names t) (c : Cut) (s : IsCutOf t n c) → memory_of t s.cut ≡ c.least
  cut_low t n c s = let f = s.fits.front in
      omega (arith, down_net forward t n (first_state forward t) c.front s.cut s.front, f, s.fits.initial, laws.terms.first forward t)

-- ---- a series

sound_if : (t : Term) (n : Names t) (c : Cut) (k : Option Claim) → IsCutOf t n c → WantsIf c k → IsSoundIf t k
sound_if t n c None h w = tt
sound_if t n c (Some k) h w = h.sound k w

pub crossed_net : SideLaws → (end hill level : ℕ) (ts : List ℕ) (far near : List Run)
    → level ≤ end + net_sum (run_profile far) → net_sum (run_profile far) ≤ level
    → net_sum (run_profile (cross_hill_runs end hill level ts far near)) + level
    ≡ net_sum (run_profile near) + (end + net_sum (run_profile far))
crossed_net laws end hill level ts far near h k = ap (λ l. net_sum l + level) (laws.profile_crossing end hill level ts far near)
    ∙ laws.crossing_net end hill level (run_profile far) (run_profile near) h k

pub crossed_rises : SideLaws → (end hill level : ℕ) (ts : List ℕ) (far near : List Run)
    → IsRising (run_profile near) → IsRising (run_profile (cross_hill_runs end hill level ts far near))
crossed_rises laws end hill level ts far near r = subst IsRising (sym (laws.profile_crossing end hill level ts far near))
    (laws.crossing_rises end hill level (run_profile far) (run_profile near) r)

pub is_first : (a : Cut) (task hill : ℕ) (b : Cut) → a.least ≤ b.least → series_cut a task hill b ≡ cut_first a task hill b
is_first a task hill b h = let e : nat_le a.least b.least ≡ true = grind (arith, nat_tests) in rw e refl

pub is_second : (a : Cut) (task hill : ℕ) (b : Cut) → b.least < a.least → series_cut a task hill b ≡ cut_second a task hill b
is_second a task hill b h = let e : nat_le a.least b.least ≡ false = grind (arith, nat_tests) in rw e refl

module _ (laws : LawsBelow) (a : Term) (v : Task) (b : Term) (na : Names a) (x : ℕ) (nb : Names b)
    (ca cb : Cut) (allowed : IsAllowed (series a v b)) (sa : IsCutOf a na ca) (sb : IsCutOf b nb cb) where
  by_choice : (k : Claim) → SeriesChoice a v b ca cb k (first_claim k ca cb (hill_of a v b)) (second_claim k ca cb (hill_of a v b))
      → IsSound (series a v b) k
  by_choice k c =
      let p : Option Claim = first_claim k ca cb (hill_of a v b) in
      let q : Option Claim = second_claim k ca cb (hill_of a v b) in
      laws.rules (series a v b) (p ∷ q ∷ []) k allowed (sound_if a na ca p sa c.first, (sound_if b nb cb q sb c.second, tt)) c.meets

  first_is_cut : ca.least ≤ cb.least → IsCutOf (series a v b) (na, x, nb) (cut_first ca x (hill_of a v b) cb)
  first_is_cut le =
      let la = cut_low laws a na ca sa in
      let lb = cut_low laws b nb cb sb in
      let fa = sa.fits in
      let fb = sb.fits in
      record {
        fits = record {
          initial = fa.initial;
          final = fb.final;
          low = omega (arith, fa.low, fb.low);
          front = fa.front;
          back = omega (
            arith,
            crossed_net laws.sides cb.least (max (front_peak cb) (hill_of a v b)) ca.fin
                (over_task cb.front x) ca.back cb.back (let q = fa.back in omega arith) (let q = fa.back in omega arith),
            fa.back,
            fb.back,
          );
        };
        sound = λ k w. by_choice k (choice_first laws.sides a v b ca cb allowed.0 fa fb x k le w);
        front_rises = sa.front_rises;
        back_rises = crossed_rises laws.sides cb.least (max (front_peak cb) (hill_of a v b)) ca.fin
            (over_task cb.front x) ca.back cb.back sb.back_rises;
        cut = inl sa.cut;
        front = first_here laws.terms a v b na x nb allowed.0 ca.front sa.cut sa.front;
        back = rw (fb.initial, fa.final, ← lb)
            (first_over laws.terms a v b na x nb allowed.0 ca.back cb.back cb.front sa.cut sb.cut (omega arith) sb.back sb.front sa.back);
      }

  second_is_cut : cb.least ≤ ca.least → IsCutOf (series a v b) (na, x, nb) (cut_second ca x (hill_of a v b) cb)
  second_is_cut le =
      let la = cut_low laws a na ca sa in
      let lb = cut_low laws b nb cb sb in
      let fa = sa.fits in
      let fb = sb.fits in
      record {
        fits = record {
          initial = fa.initial;
          final = fb.final;
          low = omega (arith, fa.low, fb.low);
          back = fb.back;
          front = omega (
            arith,
            crossed_net laws.sides ca.least (max (back_peak ca) (hill_of a v b)) cb.initial
                (over_task ca.back x) cb.front ca.front (let q = fb.front in omega arith) (let q = fb.front in omega arith),
            fa.front,
            fb.front,
          );
        };
        sound = λ k w. by_choice k (choice_second laws.sides a v b ca cb allowed.0 fa fb x k le w);
        front_rises = crossed_rises laws.sides ca.least (max (back_peak ca) (hill_of a v b)) cb.initial
            (over_task ca.back x) cb.front ca.front sa.front_rises;
        back_rises = sb.back_rises;
        cut = inr sb.cut;
        back = second_here laws.terms a v b na x nb allowed.0 cb.back sb.cut sb.back;
        front = rw (fa.final, fb.initial, ← la)
            (second_over laws.terms a v b na x nb allowed.0 ca.front ca.back cb.front sa.cut sb.cut
            (omega arith) sa.front sa.back sb.front);
      }

  pub series_is_cut : IsCutOf (series a v b) (na, x, nb) (series_cut ca x (hill_of a v b) cb)
  series_is_cut = elim (le_or_lt ca.least cb.least) [
    | inl h ↦ subst (IsCutOf (series a v b) (na, x, nb)) (sym (is_first ca x (hill_of a v b) cb h)) (first_is_cut h)
    | inr h ↦ subst (IsCutOf (series a v b) (na, x, nb)) (sym (is_second ca x (hill_of a v b) cb h)) (second_is_cut (omega arith))
  ]

-- ---- parts side by side

pub all_fit : (ts : Parts) (ns : NamesOfParts ts) (cs : List Cut) → AreCutsOf ts ns cs → AllFit ts cs
all_fit no_parts ns [] h = tt
all_fit no_parts ns (c ∷ cs) h = absurd h
all_fit (part t ts) ns [] h = absurd h
all_fit (part t ts) (n, ns) (c ∷ cs) h = (h.0.fits, all_fit ts ns cs h.1)

all_sound : (ts : Parts) (ns : NamesOfParts ts) (cs : List Cut) (ks : List (Option Claim))
    → AreCutsOf ts ns cs → AllWant cs ks → AreSound (list_of_parts ts) ks
all_sound no_parts ns [] [] h w = tt
all_sound no_parts ns [] (k ∷ ks) h w = absurd w
all_sound no_parts ns (c ∷ cs) ks h w = absurd h
all_sound (part t ts) ns [] ks h w = absurd h
all_sound (part t ts) ns (c ∷ cs) [] h w = absurd w
all_sound (part t ts) (n, ns) (c ∷ cs) (k ∷ ks) h w = (sound_if t n c k h.0 w.0, all_sound ts ns cs ks h.1 w.1)

pub all_rise : (ts : Parts) (ns : NamesOfParts ts) (cs : List Cut) → AreCutsOf ts ns cs → AllRise cs
all_rise no_parts ns [] h = tt
all_rise no_parts ns (c ∷ cs) h = absurd h
all_rise (part t ts) ns [] h = absurd h
all_rise (part t ts) (n, ns) (c ∷ cs) h = ((h.0.front_rises, h.0.back_rises), all_rise ts ns cs h.1)

cuts : (ts : Parts) (ns : NamesOfParts ts) (cs : List Cut) → AreCutsOf ts ns cs → States ts
cuts no_parts ns [] h = tt
cuts no_parts ns (c ∷ cs) h = absurd h
cuts (part t ts) ns [] h = absurd h
cuts (part t ts) (n, ns) (c ∷ cs) h = (h.0.cut, cuts ts ns cs h.1)

all_front : (ts : Parts) (ns : NamesOfParts ts) (cs : List Cut) (h : AreCutsOf ts ns cs)
    → EachLeadsDown forward ts ns (fronts cs) (cuts ts ns cs h)
unfolding cuts
all_front no_parts ns [] h = tt
all_front no_parts ns (c ∷ cs) h = absurd h
all_front (part t ts) ns [] h = absurd h
all_front (part t ts) (n, ns) (c ∷ cs) h = ((h.0.front, h.0.front_rises), all_front ts ns cs h.1)

all_back : (ts : Parts) (ns : NamesOfParts ts) (cs : List Cut) (h : AreCutsOf ts ns cs)
    → EachLeadsDown backward ts ns (backs cs) (cuts ts ns cs h)
unfolding cuts
all_back no_parts ns [] h = tt
all_back no_parts ns (c ∷ cs) h = absurd h
all_back (part t ts) ns [] h = absurd h
all_back (part t ts) (n, ns) (c ∷ cs) h = ((h.0.back, h.0.back_rises), all_back ts ns cs h.1)

record Sums (ts : Parts) (cs : List Cut) : Type 0 where
  initial : sum_by (λ c. c.initial) cs ≡ first_memory_of_parts forward ts
  fin : sum_by (λ c. c.fin) cs ≡ first_memory_of_parts backward ts
  low : sum_by (λ c. c.least) cs ≡ least_of_parts ts
  front : net_sum (run_profile (merge_runs (fronts cs))) + sum_by (λ c. c.least) cs ≡ sum_by (λ c. c.initial) cs
  back : net_sum (run_profile (merge_runs (backs cs))) + sum_by (λ c. c.least) cs ≡ sum_by (λ c. c.fin) cs

pub inserted_net : SideLaws → (ss es : List Run)
    → net_sum (run_profile (insert_runs ss es)) ≡ net_sum (run_profile ss) + net_sum (run_profile es)
inserted_net laws ss es = ap net_sum (laws.profile_inserts ss es) ∙ laws.inserts_net (run_profile ss) (run_profile es)

sums : SideLaws → (ts : Parts) (cs : List Cut) → AllFit ts cs → Sums ts cs
sums laws no_parts [] h = record { initial = refl; fin = refl; low = refl; front = omega arith; back = omega arith }
sums laws no_parts (c ∷ cs) h = absurd h
sums laws (part t ts) [] h = absurd h
sums laws (part t ts) (c ∷ cs) h =
    let r = sums laws ts cs h.1 in
    let f = h.0 in
    let start = sum_by-cons (λ (x : Cut). x.initial) c cs in
    let end = sum_by-cons (λ (x : Cut). x.fin) c cs in
    let low = sum_by-cons (λ (x : Cut). x.least) c cs in
    record {
      initial = omega (arith, r.initial, f.initial);
      fin = omega (arith, r.fin, f.final);
      low = omega (arith, r.low, f.low);
      front = omega (arith, r.front, f.front, inserted_net laws c.front (merge_runs (fronts cs)));
      back = omega (arith, r.back, f.back, inserted_net laws c.back (merge_runs (backs cs)));
    }

pub par_is_cut : LawsBelow → (ts : Parts) (ns : NamesOfParts ts) (cs : List Cut)
    → IsAllowed (par ts) → AreCutsOf ts ns cs → IsCutOf (par ts) ns (par_cut cs)
par_is_cut laws ts ns cs allowed h =
    let r = sums laws.sides ts cs (all_fit ts ns cs h) in
    record {
      fits = record { initial = r.initial; final = r.fin; low = r.low; front = r.front; back = r.back };
      sound = λ k w.
          let l = some_levels laws.sides k.direction k.bound ts cs (all_fit ts ns cs h) (all_rise ts ns cs h) in
          let x = choice_par laws.sides ts cs k.direction k.bound k.rest l.0 (omega (arith, allowed.0)) (all_fit ts ns cs h) l.1 w in
          laws.rules (par ts) (par_claims k.direction k.bound (level_sum l.0) cs l.0) k allowed
          (all_sound ts ns cs (par_claims k.direction k.bound (level_sum l.0) cs l.0) h x.wants) x.meets;
      front_rises = rising_merged laws.sides (fronts cs);
      back_rises = rising_merged laws.sides (backs cs);
      cut = cuts ts ns cs h;
      front = par_down laws.sides forward ts ns (fronts cs) (cuts ts ns cs h) (all_front ts ns cs h);
      back = par_down laws.sides backward ts ns (backs cs) (cuts ts ns cs h) (all_back ts ns cs h);
    }

-- ---- all terms

module _ (laws : LawsBelow) where
  mutual
    pub term_is_cut : (t : Term) (n : Names t) → IsAllowed t → IsCutOf t n (cut_of_term t n)
    term_is_cut (hold size) n h = hold_is_cut laws size
    term_is_cut (series a v b) (na, x, nb) h =
        series_is_cut laws a v b na x nb (cut_of_term a na) (cut_of_term b nb) h (term_is_cut a na h.2) (term_is_cut b nb h.3)
    term_is_cut (par ts) ns h = par_is_cut laws ts ns (cuts_of_parts ts ns) h (parts_are_cuts ts ns h.1)

    pub parts_are_cuts : (ts : Parts) (ns : NamesOfParts ts) → AreAllowed ts → AreCutsOf ts ns (cuts_of_parts ts ns)
    parts_are_cuts no_parts ns h = tt
    parts_are_cuts (part t ts) (n, ns) h = (term_is_cut t n h.0, parts_are_cuts ts ns h.1)
