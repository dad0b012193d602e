-- The numbers of a cut do not hang on what the tasks are called.
use Rattle.std.proofs.Common.{◌≡◌, ℕ, ◌+◌, max, leb, cond, Bool, true, false, List, [], ◌∷◌, refl, ap, sym, ◌∙◌, map}
use Rattle.std.specs.List.{sum_by}
use Rattle.std.proofs.lemmas.List.Sums.{sum_by-cons}
use Rattle.side_laws.specs.Appending.{cross_hill}
use Rattle.side_laws.specs.Merging.{merge_segments}
use Rattle.side_laws.specs.Segments.{Segment, top}
use Rattle.hill_valley.specs.Side.{run_profile}
use Rattle.segment_merge.specs.Laws.{SideLaws}
use Rattle.segment_merge.specs.Merging.{run_profiles}
use Rattle.sp_terms.specs.Term.{Term, hold, series, par, Parts, no_parts, part, hill_of}
use Rattle.cut_laws.specs.Cuts.{Cut, cut_first, cut_second, series_cut, par_cut, over_task, front_peak, back_peak, fronts, backs}
use Rattle.cut_laws.specs.Names.{Names, NamesOfParts}
use Rattle.cut_laws.specs.TermCuts.{cut_of_term, cuts_of_parts}
use Rattle.sp_cuts.specs.Notes.{CutNumbers, cut_numbers}

abbrev made : List Segment → List Segment → ℕ → ℕ → ℕ → CutNumbers
made front back initial fin least = record { front = front; back = back; initial = initial; fin = fin; least = least }

-- ---- a series

abbrev crossed_first : CutNumbers → ℕ → CutNumbers → CutNumbers
crossed_first a hill b = made a.front (cross_hill b.least (max (top b.initial b.front) hill) a.fin a.back b.back) a.initial b.fin a.least

abbrev crossed_second : CutNumbers → ℕ → CutNumbers → CutNumbers
crossed_second a hill b = made (cross_hill a.least (max (top a.fin a.back) hill) b.initial b.front a.front) b.back a.initial b.fin b.least

abbrev crossed : CutNumbers → ℕ → CutNumbers → CutNumbers
crossed a hill b = cond (leb a.least b.least) (crossed_first a hill b) (crossed_second a hill b)

pick : (c : Bool) (x y : Cut) (p q : CutNumbers) → cut_numbers x ≡ p → cut_numbers y ≡ q → cut_numbers (cond c x y) ≡ cond c p q
pick true x y p q e f = e
pick false x y p q e f = f

-- ---- parts side by side

abbrev beside : List CutNumbers → CutNumbers
beside ns = made (merge_segments (map (λ n. n.front) ns)) (merge_segments (map (λ n. n.back) ns))
    (sum_by (λ n. n.initial) ns) (sum_by (λ n. n.fin) ns) (sum_by (λ n. n.least) ns)

same_made : (f f' b b' : List Segment) (i i' e e' l l' : ℕ) → f ≡ f'
    → b ≡ b' → i ≡ i' → e ≡ e' → l ≡ l' → made f b i e l ≡ made f' b' i' e' l'
same_made f f' b b' i i' e e' l l' pf pb pi pe pl = rw (pf, pb, pi, pe, pl) refl

fronts_are : (cs : List Cut) → run_profiles (fronts cs) ≡ map (λ (n : CutNumbers). n.front) (map cut_numbers cs)
fronts_are [] = refl
fronts_are (c ∷ cs) = ap (λ (l : List (List Segment)). run_profile c.front ∷ l) (fronts_are cs)

backs_are : (cs : List Cut) → run_profiles (backs cs) ≡ map (λ (n : CutNumbers). n.back) (map cut_numbers cs)
backs_are [] = refl
backs_are (c ∷ cs) = ap (λ (l : List (List Segment)). run_profile c.back ∷ l) (backs_are cs)

sum_of : (f : CutNumbers → ℕ) (cs : List Cut) → sum_by (λ c. f (cut_numbers c)) cs ≡ sum_by f (map cut_numbers cs)
sum_of f [] = refl
sum_of f (c ∷ cs) = sum_by-cons (λ (x : Cut). f (cut_numbers x)) c cs
    ∙ ap (λ (n : ℕ). f (cut_numbers c) + n) (sum_of f cs) ∙ sym (sum_by-cons f (cut_numbers c) (map cut_numbers cs))

-- ---- any term

module _ (laws : SideLaws) where
  series_is : (a : Cut) (x hill : ℕ) (b : Cut) → cut_numbers (series_cut a x hill b) ≡ crossed (cut_numbers a) hill (cut_numbers b)
  series_is a x hill b =
      pick (leb a.least b.least) (cut_first a x hill b) (cut_second a x hill b)
      (crossed_first (cut_numbers a) hill (cut_numbers b)) (crossed_second (cut_numbers a) hill (cut_numbers b))
      (ap (λ (l : List Segment). made (run_profile a.front) l a.initial b.fin a.least)
      (laws.profile_crossing b.least (max (front_peak b) hill) a.fin (over_task b.front x) a.back b.back))
      (ap (λ (l : List Segment). made l (run_profile b.back) a.initial b.fin b.least)
      (laws.profile_crossing a.least (max (back_peak a) hill) b.initial (over_task a.back x) b.front a.front))

  par_is : (cs : List Cut) → cut_numbers (par_cut cs) ≡ beside (map cut_numbers cs)
  par_is cs =
      let ns = map cut_numbers cs in
      same_made _ _ _ _ _ _ _ _ _ _
      (laws.profile_merge (fronts cs) ∙ ap merge_segments (fronts_are cs))
      (laws.profile_merge (backs cs) ∙ ap merge_segments (backs_are cs))
      (sum_of (λ (n : CutNumbers). n.initial) cs)
      (sum_of (λ (n : CutNumbers). n.fin) cs)
      (sum_of (λ (n : CutNumbers). n.least) cs)

  series_same : (a a' b b' : Cut) (x x' hill : ℕ) → cut_numbers a ≡ cut_numbers a'
      → cut_numbers b ≡ cut_numbers b' → cut_numbers (series_cut a x hill b) ≡ cut_numbers (series_cut a' x' hill b')
  series_same a a' b b' x x' hill ea eb =
      series_is a x hill b ∙ ap (λ (n : CutNumbers). crossed n hill (cut_numbers b)) ea
      ∙ ap (crossed (cut_numbers a') hill) eb ∙ sym (series_is a' x' hill b')

  both_same : (c d : CutNumbers) (cs ds : List CutNumbers) → c ≡ d → cs ≡ ds → ◌≡◌ {A = List CutNumbers} (c ∷ cs) (d ∷ ds)
  both_same c d cs ds e f = rw (e, f) refl

  mutual
    pub same_numbers : (t : Term) (n m : Names t) → cut_numbers (cut_of_term t n) ≡ cut_numbers (cut_of_term t m)
    same_numbers (hold size) n m = refl
    same_numbers (series a v b) (na, x, nb) (ma, y, mb) = series_same (cut_of_term a na) (cut_of_term a ma)
        (cut_of_term b nb) (cut_of_term b mb) x y (hill_of a v b) (same_numbers a na ma) (same_numbers b nb mb)
    same_numbers (par ts) ns ms = par_is (cuts_of_parts ts ns) ∙ ap beside (all_same ts ns ms) ∙ sym (par_is (cuts_of_parts ts ms))

    all_same : (ts : Parts) (ns ms : NamesOfParts ts) → map cut_numbers (cuts_of_parts ts ns) ≡ map cut_numbers (cuts_of_parts ts ms)
    all_same no_parts ns ms = refl
    all_same (part t ts) (n, ns) (m, ms) = both_same (cut_numbers (cut_of_term t n)) (cut_numbers (cut_of_term t m))
        (map cut_numbers (cuts_of_parts ts ns)) (map cut_numbers (cuts_of_parts ts ms)) (same_numbers t n m) (all_same ts ns ms)
