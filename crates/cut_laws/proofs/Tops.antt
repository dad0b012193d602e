-- The sides and the peaks of a cut that is made of others.
use Rattle.std.proofs.Common.{◌≡◌, ℕ, suc, ◌+◌, ◌-◌, ◌<◌, ◌≤◌, ◌⊎◌, inl, inr, max, refl, sym, subst, ap, arith, ◌∙◌, List, [], ◌∷◌}
use Rattle.std.specs.List.{AllByRecursion}
use Rattle.std.proofs.lemmas.List.Sums.{sum_by-cons}
use Rattle.side_laws.specs.Appending.{cross_hill}
use Rattle.side_laws.specs.Levels.{level_sum, AllStart, EachStuck, EachPasses, AreLevels}
use Rattle.side_laws.specs.Merging.{merge_segments, AllRising}
use Rattle.side_laws.specs.Segments.{Segment, net_sum, top, Passes}
use Rattle.hill_valley.specs.Side.{run_profile}
use Rattle.segment_merge.specs.Merging.{merge_runs}
use Rattle.sp_terms.specs.Term.{Direction}
use Rattle.segment_merge.specs.Laws.{SideLaws}
use Rattle.cut_laws.specs.Cuts.{Cut, side_of, start_of, top_of, front_peak, back_peak, over_task, cut_first}
use Rattle.cut_laws.specs.Cuts.{cut_second, series_cut, par_cut, fronts, backs, starts, sides}
use Rattle.cut_laws.specs.Tops.{MeetsAtLeast, BothRise, LiesInFirst, LiesInSecond, SomeReaches, tops}
use Rattle.cut_laws.proofs.Composed.{is_first, is_second, crossed_net, crossed_rises, inserted_net}
use Rattle.lists.proofs.Orders.{le_or_lt}
use Rattle.cut_laws.proofs.Merging.{rising_merged}
use Rattle.cut_laws.proofs.Levels.{passes_from_top, top_from_passes}
use Rattle.lists.proofs.Orders.{lt_or_le}
use Rattle.cut_laws.proofs.ParChoice.{side_par, start_par}

module _ (laws : SideLaws) where
  -- ---- a series

  crossed_top : (start mid hill next low : ℕ) (near between far : List Segment)
      → net_sum near + low ≡ start → low ≤ mid → next ≤ hill → next ≤ low + net_sum far → net_sum far ≤ next
      → top start (cross_hill low (max (top mid between) hill) next far near)
      ≡ max (top start near) (max (max (top mid between) hill) (top next far))
  crossed_top start mid hill next low near between far room wide enough falls room' =
      let peak : ℕ = max (top mid between) hill in
      let at : start - net_sum near ≡ low = omega arith in
      let high : low ≤ peak = omega (arith, laws.above mid between) in
      subst (λ (n : ℕ). top start (cross_hill n peak next far near) ≡ max (top start near) (max peak (top next far))) at
      (laws.crossing_top start peak next far near (omega arith) (omega arith) (omega arith) (omega arith) room')

  module _ (a b : Cut) (task hill : ℕ) (ea : MeetsAtLeast a) (eb : MeetsAtLeast b) (final : a.fin ≤ hill) (initial : b.initial ≤ hill) where
    first_kind : a.least ≤ b.least → LiesInFirst a b hill (cut_first a task hill b)
    first_kind le =
        let qa = ea.back in
        let qb = eb.front in
        let peak : ℕ = max (front_peak b) hill in
        let e : back_peak (cut_first a task hill b) ≡ top b.fin (cross_hill b.least peak a.fin (run_profile a.back) (run_profile b.back)) =
        ap (top b.fin) (laws.profile_crossing b.least peak a.fin (over_task b.front task) a.back b.back) in
        let x = crossed_top b.fin b.initial hill a.fin b.least (run_profile b.back) (run_profile b.front)
        (run_profile a.back) eb.back (omega arith) final (omega arith) (omega arith) in
        record { front = refl; back = omega (arith, e, x) }

    second_kind : b.least ≤ a.least → LiesInSecond a b hill (cut_second a task hill b)
    second_kind le =
        let qa = ea.back in
        let qb = eb.front in
        let peak : ℕ = max (back_peak a) hill in
        let e : front_peak (cut_second a task hill b)
        ≡ top a.initial (cross_hill a.least peak b.initial (run_profile b.front) (run_profile a.front)) =
        ap (top a.initial) (laws.profile_crossing a.least peak b.initial (over_task a.back task) b.front a.front) in
        let x = crossed_top a.initial a.fin hill b.initial a.least (run_profile a.front) (run_profile a.back)
        (run_profile b.front) ea.front (omega arith) initial (omega arith) (omega arith) in
        record { front = omega (arith, e, x); back = refl }

    pub in_first : a.least ≤ b.least → LiesInFirst a b hill (series_cut a task hill b)
    in_first le = subst (LiesInFirst a b hill) (sym (is_first a task hill b le)) (first_kind le)

    pub in_second : b.least < a.least → LiesInSecond a b hill (series_cut a task hill b)
    in_second lt = subst (LiesInSecond a b hill) (sym (is_second a task hill b lt)) (second_kind (omega arith))

  -- ---- parts side by side

  top_par : (d : Direction) (cs : List Cut) → top_of d (par_cut cs) ≡ top (level_sum (starts d cs)) (merge_segments (sides d cs))
  top_par d cs = ap (λ (n : ℕ). top n (run_profile (side_of d (par_cut cs)))) (start_par d cs)
      ∙ ap (top (level_sum (starts d cs))) (side_par laws d cs)

  some_or_all : (d : Direction) (limit total others : ℕ) (cs : List Cut) (ls : List ℕ)
      → EachStuck limit others (starts d cs) (sides d cs) ls → total ≡ others + level_sum ls
      → SomeReaches d limit total cs ls ⊎ EachPasses limit others (starts d cs) (sides d cs) ls
  some_or_all d limit total others [] [] e h = inr tt
  some_or_all d limit total others [] (l ∷ ls) e h = absurd e
  some_or_all d limit total others (c ∷ cs) [] e h = absurd e
  some_or_all d limit total others (c ∷ cs) (l ∷ ls) e h =
      let m : limit - (others + level_sum ls) ≡ limit - (total - l) = omega arith in
      elim (lt_or_le (top_of d c) (limit - (total - l))) [
        | inr le ↦ inl (inl le)
        | inl lt ↦ elim (some_or_all d limit total (others + l) cs ls e.2 (omega arith)) [
          | inl later ↦ inl (inr later)
          | inr all ↦ inr (
            passes_from_top laws (limit - (others + level_sum ls)) (start_of d c) (run_profile (side_of d c)) (omega (arith, lt, m)),
            all,
          )
        ]
      ]

  pub some_reaches : (d : Direction) (limit : ℕ) (cs : List Cut) (ls : List ℕ)
      → AreLevels limit 0 (starts d cs) (sides d cs) ls → limit ≤ top_of d (par_cut cs) → level_sum (starts d cs) < limit
      → SomeReaches d limit (level_sum ls) cs ls
  some_reaches d limit cs ls levels le lt =
      let zero_less : limit - 0 ≡ limit = omega arith in
      let start : ℕ = level_sum (starts d cs) in
      let all : List Segment = merge_segments (sides d cs) in
      elim (some_or_all d limit (level_sum ls) 0 cs ls levels.each (omega arith)) [
        | inl some ↦ some
        | inr each ↦
            absurd (let q = top_from_passes laws limit start all lt (subst (λ (n : ℕ). Passes n start all) zero_less (levels.pass each)) in
            omega (arith, q, le, top_par d cs))
      ]

  levels_le : (d : Direction) (limit others : ℕ) (cs : List Cut) (ls : List ℕ)
      → EachStuck limit others (starts d cs) (sides d cs) ls → level_sum ls ≤ tops d cs
  levels_le d limit others [] [] e = omega arith
  levels_le d limit others [] (l ∷ ls) e = absurd e
  levels_le d limit others (c ∷ cs) [] e = absurd e
  levels_le d limit others (c ∷ cs) (l ∷ ls) e = let q = e.1 in
      omega (arith, laws.above (start_of d c) (run_profile (side_of d c)), levels_le d limit (others + l) cs ls e.2)

  each_passes : (d : Direction) (limit others : ℕ) (cs : List Cut) (ls : List ℕ) → EachStuck limit others (starts d cs) (sides d cs) ls
      → others + tops d cs < limit → EachPasses limit others (starts d cs) (sides d cs) ls
  each_passes d limit others [] [] e h = tt
  each_passes d limit others [] (l ∷ ls) e h = absurd e
  each_passes d limit others (c ∷ cs) [] e h = absurd e
  each_passes d limit others (c ∷ cs) (l ∷ ls) e h =
      let r = levels_le d limit (others + l) cs ls e.2 in
      let q = e.1 in (
        passes_from_top laws (limit - (others + level_sum ls)) (start_of d c) (run_profile (side_of d c)) (omega arith),
        each_passes d limit (others + l) cs ls e.2 (omega (arith, laws.above (start_of d c) (run_profile (side_of d c)))),
      )

  starts_le : (d : Direction) (cs : List Cut) → level_sum (starts d cs) ≤ tops d cs
  starts_le d [] = omega arith
  starts_le d (c ∷ cs) = omega (arith, laws.above (start_of d c) (run_profile (side_of d c)), starts_le d cs)

  pub par_top : (d : Direction) (cs : List Cut) → AllRising (sides d cs)
      → AllStart (starts d cs) (sides d cs) → top_of d (par_cut cs) ≤ tops d cs
  par_top d cs rising room =
      let limit : ℕ = suc (tops d cs) in
      let (ls, levels) = laws.levels limit 0 (starts d cs) (sides d cs) rising room in
      let z : limit - 0 ≡ limit = omega arith in
      let p : Passes limit (level_sum (starts d cs)) (merge_segments (sides d cs)) =
      subst (λ (n : ℕ). Passes n (level_sum (starts d cs)) (merge_segments (sides d cs))) z
      (levels.pass (each_passes d limit 0 cs ls levels.each (omega arith))) in
      let t = top_from_passes laws limit (level_sum (starts d cs)) (merge_segments (sides d cs)) (omega (arith, starts_le d cs)) p in
      omega (arith, t, top_par d cs)

  -- ---- what stays of both sides

  first_meets : (a b : Cut) (task hill : ℕ) → MeetsAtLeast a → MeetsAtLeast b → a.least ≤ b.least → MeetsAtLeast (cut_first a task hill b)
  first_meets a b task hill ea eb le =
      let qa = ea.back in
      record {
        front = ea.front;
        back = omega (
          arith,
          crossed_net laws b.least (max (front_peak b) hill) a.fin (over_task b.front task) a.back b.back (omega arith) (omega arith),
          ea.back,
          eb.back,
        );
      }

  second_meets : (a b : Cut) (task hill : ℕ) → MeetsAtLeast a → MeetsAtLeast b → b.least ≤ a.least → MeetsAtLeast (cut_second a task hill b)
  second_meets a b task hill ea eb le =
      let qb = eb.front in
      record {
        front = omega (
          arith,
          crossed_net laws a.least (max (back_peak a) hill) b.initial
              (over_task a.back task) b.front a.front (omega arith) (omega arith),
          ea.front,
          eb.front,
        );
        back = eb.back;
      }

  pub series_meets : (a b : Cut) (task hill : ℕ) → MeetsAtLeast a → MeetsAtLeast b → MeetsAtLeast (series_cut a task hill b)
  series_meets a b task hill ea eb = elim (le_or_lt a.least b.least) [
    | inl h ↦ subst MeetsAtLeast (sym (is_first a task hill b h)) (first_meets a b task hill ea eb h)
    | inr h ↦ subst MeetsAtLeast (sym (is_second a task hill b h)) (second_meets a b task hill ea eb (omega arith))
  ]

  pub series_rises : (a b : Cut) (task hill : ℕ) → BothRise a → BothRise b → BothRise (series_cut a task hill b)
  series_rises a b task hill ra rb = elim (le_or_lt a.least b.least) [
    | inl h ↦ subst BothRise (sym (is_first a task hill b h))
        (record {
          front = ra.front;
          back = crossed_rises laws b.least (max (front_peak b) hill) a.fin (over_task b.front task) a.back b.back rb.back;
        })
    | inr h ↦ subst BothRise (sym (is_second a task hill b h))
        (record {
          front = crossed_rises laws a.least (max (back_peak a) hill) b.initial (over_task a.back task) b.front a.front ra.front;
          back = rb.back;
        })
  ]

  pub par_meets : (cs : List Cut) → AllByRecursion MeetsAtLeast cs → MeetsAtLeast (par_cut cs)
  par_meets [] h = record { front = omega arith; back = omega arith }
  par_meets (c ∷ cs) h =
      let here : MeetsAtLeast c = h.0 in
      let rest : MeetsAtLeast (par_cut cs) = par_meets cs h.1 in
      let start = sum_by-cons (λ (x : Cut). x.initial) c cs in
      let end = sum_by-cons (λ (x : Cut). x.fin) c cs in
      let low = sum_by-cons (λ (x : Cut). x.least) c cs in
      record {
        front = omega (arith, here.front, rest.front, inserted_net laws c.front (merge_runs (fronts cs)));
        back = omega (arith, here.back, rest.back, inserted_net laws c.back (merge_runs (backs cs)));
      }

  pub par_rises : (cs : List Cut) → BothRise (par_cut cs)
  par_rises cs = record { front = rising_merged laws (fronts cs); back = rising_merged laws (backs cs) }
