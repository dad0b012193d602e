-- Parts that are split into their sides, and the part that the merged sides make.
use Rattle.std.proofs.Common.{◌≡◌, ℕ, ◌+◌, ◌-◌, ◌≤◌, min, true, false, length, List, [], ◌∷◌, ◌++◌, refl, ap, sym, ◌∙◌, arith, subst, append_assoc}
use Rattle.std.specs.List.{AllByRecursion, sum_by}
use Rattle.std.proofs.lemmas.List.{append-nil, map-append, nil_from_length}
use Rattle.std.proofs.lemmas.List.Sums.{sum_by-append, sum_by-cons}
use Rattle.limits.specs.Limits.{most_total}
use Rattle.side_laws.specs.Levels.{AllStart}
use Rattle.side_laws.specs.Merging.{AllRising}
use Rattle.side_laws.specs.Segments.{net_sum, IsRising}
use Rattle.hill_valley.specs.declared.side.Seg.{Seg}
use Rattle.hill_valley.specs.Ropes.{Extends}
use Rattle.hill_valley.specs.Side.{profile, HaveRopes, Run, runs_of, run_profile}
use Rattle.segment_merge.specs.Laws.{SideLaws}
use Rattle.segment_merge.specs.Merging.{insert_runs, move_runs, merge_runs, all_runs_of, AllHaveRopes, net_sum_all, segment_count, longest}
use Rattle.sp_terms.specs.Term.{Direction, forward, backward}
use Rattle.cut_laws.specs.Cuts.{Cut, par_cut, fronts, backs, top_of, starts, sides}
use Rattle.cut_laws.specs.Tops.{MeetsAtLeast, BothRise, tops}
use Rattle.sp_cuts.specs.declared.parts.Part.{Part}
use Rattle.sp_cuts.specs.Parts.{cut_of, cuts_of, AreParts, front_sides, backs_of, moves_in}
use Rattle.sp_cuts.specs.Splits.{IsRough, AreRough, AreSplit}
use Rattle.sp_cuts.proofs.Kept.{same_cut, sides_of, peak_of_cut, within, rough}

-- the part of these
abbrev pub part_with : List Seg → List Seg → ℕ → ℕ → ℕ → ℕ → Part
part_with f b i e l k = record { front = f; back = b; initial = i; fin = e; least = l; peak = k }

pub all_rough : (lists : List (List ℕ)) (ps : List Part) → AreParts lists ps → AreRough lists ps
all_rough lists [] h = tt
all_rough lists (p ∷ ps) h = (rough lists p h.0, all_rough lists ps h.1)

-- ---- splitting

pub record Splitting (yielded rest parts : List Part) (fs bs : List (List Seg)) (start end low most : ℕ) : Type 0 where
  pub all : yielded ++ rest ≡ parts
  pub splits : AreSplit yielded fs bs start end low most

pub splitting_starts : (parts all : List Part) → parts ≡ all → Splitting [] parts all [] [] 0 0 0 0
splitting_starts parts all e =
    record { all = e; splits = record { front = refl; back = refl; start_is = refl; end_is = refl; low_is = refl; most_is = refl } }

-- the next sums fit
pub record Fit (start end low most : ℕ) (p : Part) : Type 0 where
  pub start_fits : start + p.initial ≤ most_total
  pub end_fits : end + p.fin ≤ most_total
  pub low_fits : low + p.least ≤ most_total
  pub most_fits : most + p.peak ≤ most_total

module _ (yielded rest' rest parts : List Part) (fs bs : List (List Seg)) (start end low most : ℕ) (p : Part)
    (s : Splitting yielded rest' parts fs bs start end low most) (first : rest' ≡ p ∷ rest) where
  together : yielded ++ p ∷ rest ≡ parts
  together = ap (λ (l : List Part). yielded ++ l) (sym first) ∙ s.all

  fits : (f : Part → ℕ) (n : ℕ) → n ≡ sum_by f yielded → sum_by f parts ≤ most_total → n + f p ≤ most_total
  fits f n e h = omega (arith, e, ap (sum_by f) together, sum_by-append f yielded (p ∷ rest), sum_by-cons f p rest)

  pub splitting_fit : sum_by (λ p. p.initial) parts ≤ most_total → sum_by (λ p. p.fin) parts ≤ most_total
      → sum_by (λ p. p.least) parts ≤ most_total → sum_by (λ p. p.peak) parts ≤ most_total → Fit start end low most p
  splitting_fit a b c d = record {
    start_fits = fits (λ p. p.initial) start s.splits.start_is a;
    end_fits = fits (λ p. p.fin) end s.splits.end_is b;
    low_fits = fits (λ p. p.least) low s.splits.low_is c;
    most_fits = fits (λ p. p.peak) most s.splits.most_is d;
  }

  more : (f : Part → ℕ) (n : ℕ) → n ≡ sum_by f yielded → n + f p ≡ sum_by f (yielded ++ p ∷ [])
  more f n e = omega (arith, e, sum_by-append f yielded (p ∷ []))

  pub splitting_on : Splitting (yielded ++ p ∷ []) rest parts (fs ++ p.front ∷ [])
      (bs ++ p.back ∷ []) (start + p.initial) (end + p.fin) (low + p.least) (most + p.peak)
  splitting_on = record {
    all = append_assoc yielded (p ∷ []) rest ∙ together;
    splits = record {
      front = ap (λ (l : List (List Seg)). l ++ p.front ∷ []) s.splits.front ∙ sym (map-append (λ (q : Part). q.front) yielded (p ∷ []));
      back = ap (λ (l : List (List Seg)). l ++ p.back ∷ []) s.splits.back ∙ sym (map-append (λ (q : Part). q.back) yielded (p ∷ []));
      start_is = more (λ p. p.initial) start s.splits.start_is;
      end_is = more (λ p. p.fin) end s.splits.end_is;
      low_is = more (λ p. p.least) low s.splits.low_is;
      most_is = more (λ p. p.peak) most s.splits.most_is;
    };
  }

pub splitting_ends : (yielded rest parts : List Part) (fs bs : List (List Seg)) (start end low most : ℕ)
    → Splitting yielded rest parts fs bs start end low most → length rest ≡ 0 → AreSplit parts fs bs start end low most
splitting_ends yielded rest parts fs bs start end low most s e =
    let all : yielded ≡ parts = sym (append-nil yielded) ∙ ap (λ (l : List Part). yielded ++ l) (sym (nil_from_length rest e)) ∙ s.all in
    subst (λ (y : List Part). AreSplit y fs bs start end low most) all s.splits

-- ---- what merge needs

fronts_ropes : (lists : List (List ℕ)) (ps : List Part) → AreRough lists ps → AllHaveRopes lists (front_sides ps)
fronts_ropes lists [] h = tt
fronts_ropes lists (p ∷ ps) h = (h.0.both.front_ropes, fronts_ropes lists ps h.1)

backs_ropes : (lists : List (List ℕ)) (ps : List Part) → AreRough lists ps → AllHaveRopes lists (backs_of ps)
backs_ropes lists [] h = tt
backs_ropes lists (p ∷ ps) h = (h.0.both.back_ropes, backs_ropes lists ps h.1)

-- each sum over the parts is within that of their peaks
pub record Sums (ps : List Part) : Type 0 where
  pub start : sum_by (λ p. p.initial) ps ≤ sum_by (λ p. p.peak) ps
  pub end : sum_by (λ p. p.fin) ps ≤ sum_by (λ p. p.peak) ps
  pub low : sum_by (λ p. p.least) ps ≤ sum_by (λ p. p.peak) ps
  pub front : net_sum_all (front_sides ps) ≤ sum_by (λ p. p.peak) ps
  pub back : net_sum_all (backs_of ps) ≤ sum_by (λ p. p.peak) ps

pub sums : SideLaws → (lists : List (List ℕ)) (ps : List Part) → AreRough lists ps → Sums ps
sums laws lists [] h = record { start = omega arith; end = omega arith; low = omega arith; front = omega arith; back = omega arith }
sums laws lists (p ∷ ps) h =
    let r = sums laws lists ps h.1 in
    let rs = r.start in let re = r.end in let rl = r.low in let rf = r.front in let rb = r.back in
    let w = within laws lists p h.0.both in
    let ws = w.start in let we = w.end in let wf = w.front_net in let wb = w.back_net in
    let b = h.0.bound in
    let peak = sum_by-cons (λ (q : Part). q.peak) p ps in
    record {
      start = omega (arith, sum_by-cons (λ (q : Part). q.initial) p ps);
      end = omega (arith, sum_by-cons (λ (q : Part). q.fin) p ps);
      low = omega (arith, sum_by-cons (λ (q : Part). q.least) p ps);
      front = omega (arith, sum_by-cons (λ (s : List Seg). net_sum (profile s)) p.front (front_sides ps));
      back = omega (arith, sum_by-cons (λ (s : List Seg). net_sum (profile s)) p.back (backs_of ps));
    }

-- what merge asks of the sides
pub record Ready (lists : List (List ℕ)) (fs bs : List (List Seg)) : Type 0 where
  pub front_ropes : AllHaveRopes lists fs
  pub back_ropes : AllHaveRopes lists bs
  pub front_net : net_sum_all fs ≤ most_total
  pub back_net : net_sum_all bs ≤ most_total

pub ready : SideLaws → (lists : List (List ℕ)) (parts : List Part) (fs bs : List (List Seg)) (start end low most : ℕ)
    → AreRough lists parts → sum_by (λ p. p.peak) parts ≤ most_total → AreSplit parts fs bs start end low most → Ready lists fs bs
ready laws lists parts fs bs start end low most h room s =
    let t = sums laws lists parts h in
    let a = t.front in let b = t.back in
    record {
      front_ropes = rw s.front (fronts_ropes lists parts h);
      back_ropes = rw s.back (backs_ropes lists parts h);
      front_net = omega (arith, ap net_sum_all s.front);
      back_net = omega (arith, ap net_sum_all s.back);
    }

pub moves_of : (parts : List Part) (fs bs : List (List Seg)) (start end low most : ℕ)
    → AreSplit parts fs bs start end low most → (segment_count fs - longest fs) + (segment_count bs - longest bs) ≡ moves_in parts
moves_of parts fs bs start end low most s = rw (s.front, s.back) refl

-- ---- two sides, and two parts

module _ (laws : SideLaws) where
  alone : (rs : List Run) → IsRising (run_profile rs) → insert_runs rs [] ≡ rs
  alone rs h = sym (laws.behind [] rs tt h)

  module _ (old new : List (List ℕ)) (first second all : List Seg) (r : IsRising (profile first)) (s : IsRising (profile second)) where
    first_runs : IsRising (run_profile (runs_of old first))
    first_runs = rw (laws.runs.profile old first) r

    second_runs : IsRising (run_profile (runs_of old second))
    second_runs = rw (laws.runs.profile old second) s

    both : insert_runs (runs_of old first) (runs_of old second) ≡ merge_runs (runs_of old first ∷ runs_of old second ∷ [])
    both = ap (insert_runs (runs_of old first)) (sym (alone (runs_of old second) second_runs))

    pub first_moved : runs_of new all ≡ move_runs true (runs_of old first) (runs_of old second)
        → runs_of new all ≡ merge_runs (runs_of old first ∷ runs_of old second ∷ [])
    first_moved e = e ∙ laws.before (runs_of old first) (runs_of old second) first_runs ∙ both

    pub second_moved : runs_of new all ≡ move_runs false (runs_of old second) (runs_of old first)
        → runs_of new all ≡ merge_runs (runs_of old first ∷ runs_of old second ∷ [])
    second_moved e = e ∙ laws.behind (runs_of old second) (runs_of old first) second_runs first_runs ∙ both

    pub second_none : second ≡ [] → runs_of old first ≡ merge_runs (runs_of old first ∷ runs_of old second ∷ [])
    second_none none = sym (alone (runs_of old first) first_runs)
        ∙ ap (λ (l : List Seg). merge_runs (runs_of old first ∷ runs_of old l ∷ [])) (sym none)

pub pair_split : (a b : Part) → AreSplit (a ∷ b ∷ []) (front_sides (a ∷ b ∷ [])) (backs_of (a ∷ b ∷ []))
    (a.initial + b.initial) (a.fin + b.fin) (a.least + b.least) (a.peak + b.peak)
pair_split a b = record {
  front = refl;
  back = refl;
  start_is = omega arith;
  end_is = omega arith;
  low_is = omega arith;
  most_is = omega arith;
}

pub pair_moves : (a b : Part) → min (length a.front) (length b.front) + min (length a.back) (length b.back) ≤ moves_in (a ∷ b ∷ [])
pair_moves a b = omega arith

-- ---- what the cuts of the parts keep

each_meets : (lists : List (List ℕ)) (ps : List Part) → AreRough lists ps → AllByRecursion MeetsAtLeast (cuts_of lists ps)
each_meets lists [] h = tt
each_meets lists (p ∷ ps) h = (h.0.both.meets, each_meets lists ps h.1)

each_rises : (d : Direction) (lists : List (List ℕ)) (ps : List Part) → AreRough lists ps → AllRising (sides d (cuts_of lists ps))
each_rises d lists [] h = tt
each_rises forward lists (p ∷ ps) h = (h.0.both.rising.front, each_rises forward lists ps h.1)
each_rises backward lists (p ∷ ps) h = (h.0.both.rising.back, each_rises backward lists ps h.1)

each_starts : (d : Direction) (lists : List (List ℕ)) (ps : List Part)
    → AreRough lists ps → AllStart (starts d (cuts_of lists ps)) (sides d (cuts_of lists ps))
each_starts d lists [] h = tt
each_starts forward lists (p ∷ ps) h = (let m = h.0.both.meets.front in omega arith, each_starts forward lists ps h.1)
each_starts backward lists (p ∷ ps) h = (let m = h.0.both.meets.back in omega arith, each_starts backward lists ps h.1)

tops_le : (d : Direction) (lists : List (List ℕ)) (ps : List Part) → AreRough lists ps → tops d (cuts_of lists ps) ≤ sum_by (λ p. p.peak) ps
tops_le d lists [] h = omega arith
tops_le forward lists (p ∷ ps) h = let b = h.0.bound in omega (arith, tops_le forward lists ps h.1, sum_by-cons (λ (q : Part). q.peak) p ps)
tops_le backward lists (p ∷ ps) h = let b = h.0.bound in
    omega (arith, tops_le backward lists ps h.1, sum_by-cons (λ (q : Part). q.peak) p ps)

-- ---- what the merged sides make

-- the sides and the numbers of several parts are those of their cuts
pub record Told (lists : List (List ℕ)) (ps : List Part) : Type 0 where
  pub front : all_runs_of lists (front_sides ps) ≡ fronts (cuts_of lists ps)
  pub back : all_runs_of lists (backs_of ps) ≡ backs (cuts_of lists ps)
  pub start : sum_by (λ p. p.initial) ps ≡ sum_by (λ c. c.initial) (cuts_of lists ps)
  pub end : sum_by (λ p. p.fin) ps ≡ sum_by (λ c. c.fin) (cuts_of lists ps)
  pub low : sum_by (λ p. p.least) ps ≡ sum_by (λ c. c.least) (cuts_of lists ps)

told : (lists : List (List ℕ)) (ps : List Part) → Told lists ps
told lists [] = record { front = refl; back = refl; start = refl; end = refl; low = refl }
told lists (p ∷ ps) =
    let r = told lists ps in
    let cs = cuts_of lists ps in
    record {
      front = ap (λ (l : List (List Run)). runs_of lists p.front ∷ l) r.front;
      back = ap (λ (l : List (List Run)). runs_of lists p.back ∷ l) r.back;
      start = omega (arith, r.start, sum_by-cons (λ (q : Part). q.initial) p ps, sum_by-cons (λ (c : Cut). c.initial) (cut_of lists p) cs);
      end = omega (arith, r.end, sum_by-cons (λ (q : Part). q.fin) p ps, sum_by-cons (λ (c : Cut). c.fin) (cut_of lists p) cs);
      low = omega (arith, r.low, sum_by-cons (λ (q : Part). q.least) p ps, sum_by-cons (λ (c : Cut). c.least) (cut_of lists p) cs);
    }

same_numbers : (f b : List Run) (i i' e e' l l' : ℕ) → i ≡ i' → e ≡ e' → l ≡ l'
    → ◌≡◌ {A = Cut} (record { front = f; back = b; initial = i; fin = e; least = l })
    (record { front = f; back = b; initial = i'; fin = e'; least = l' })
same_numbers f b i i' e e' l l' p q r = rw (p, q, r) refl

module _ (laws : SideLaws) (r0 r1 r2 : List (List ℕ)) (parts : List Part)
    (fs bs : List (List Seg)) (start end low most : ℕ) (front back : List Seg)
    (h : AreRough r0 parts) (s : AreSplit parts fs bs start end low most) (k01 : Extends r0 r1)
    (k12 : Extends r1 r2) (front_ropes : HaveRopes r1 front) (back_ropes : HaveRopes r2 back)
    (f : runs_of r1 front ≡ merge_runs (all_runs_of r0 fs)) (b : runs_of r2 back ≡ merge_runs (all_runs_of r1 bs)) where
  front_is : runs_of r2 front ≡ merge_runs (fronts (cuts_of r0 parts))
  front_is = (laws.runs.stay r1 r2 front front_ropes k12).1 ∙ f
      ∙ ap (λ (l : List (List Seg)). merge_runs (all_runs_of r0 l)) s.front ∙ ap merge_runs (told r0 parts).front

  back_is : runs_of r2 back ≡ merge_runs (backs (cuts_of r0 parts))
  back_is = b ∙ ap merge_runs (laws.all_stay r0 r1 bs (rw s.back (backs_ropes r0 parts h)) k01).1
      ∙ ap (λ (l : List (List Seg)). merge_runs (all_runs_of r0 l)) s.back ∙ ap merge_runs (told r0 parts).back

  pub together_cut : ◌≡◌ {A = Cut}
      (record { front = runs_of r2 front; back = runs_of r2 back; initial = start; fin = end; least = low }) (par_cut (cuts_of r0 parts))
  together_cut =
      let cs = cuts_of r0 parts in
      same_cut (runs_of r2 front) (merge_runs (fronts cs)) (runs_of r2 back) (merge_runs (backs cs)) start end low front_is back_is
      ∙ same_numbers (merge_runs (fronts cs)) (merge_runs (backs cs)) start
      (sum_by (λ c. c.initial) cs) end (sum_by (λ c. c.fin) cs) low (sum_by (λ c. c.least) cs)
      (s.start_is ∙ (told r0 parts).start) (s.end_is ∙ (told r0 parts).end) (s.low_is ∙ (told r0 parts).low)

  pub together_rough : ((cs : List Cut) → AllByRecursion MeetsAtLeast cs → MeetsAtLeast (par_cut cs))
      → ((cs : List Cut) → BothRise (par_cut cs))
      → ((d : Direction) (cs : List Cut) → AllRising (sides d cs) → AllStart (starts d cs) (sides d cs) → top_of d (par_cut cs) ≤ tops d cs)
      → sum_by (λ p. p.peak) parts ≤ most_total → IsRough r2 (part_with front back start end low most)
  together_rough meets rises high room =
      let cs = cuts_of r0 parts in
      let p = part_with front back start end low most in
      record {
        both = sides_of r2 p (par_cut cs) together_cut
            (laws.runs.stay r1 r2 front front_ropes k12).0 back_ropes (meets cs (each_meets r0 parts h)) (rises cs);
        bound = omega (
          arith,
          ap peak_of_cut together_cut,
          s.most_is,
          high forward cs (each_rises forward r0 parts h) (each_starts forward r0 parts h),
          high backward cs (each_rises backward r0 parts h) (each_starts backward r0 parts h),
          tops_le forward r0 parts h,
          tops_le backward r0 parts h,
        );
        within = let e = s.most_is in omega arith;
      }
