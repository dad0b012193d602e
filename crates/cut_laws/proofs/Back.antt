-- A cut that stands for a term is one of the term: along its traversal both sides lead down.
use Rattle.std.proofs.Common.{◌≡◌, ℕ, suc, ◌+◌, ◌-◌, ◌<◌, ◌≤◌, ◌⊎◌, inl, inr, max, refl, sym, subst, ap, arith}
use Rattle.std.proofs.Common.{◌∙◌, List, [], ◌∷◌, ◌++◌, append_assoc, reverse, length, length-append, map}
use Rattle.std.proofs.lemmas.List.{append-nil, map-append, reverse-append}
use Rattle.mp_system.specs.Memory.{peak_from, peak_of}
use Rattle.mp_system.specs.Renaming.{name_in}
use Rattle.mp_system.specs.Traversal.{IsTraversal}
use Rattle.side_laws.specs.Segments.{net_sum}
use Rattle.hill_valley.specs.Side.{Run, run_profile, tasks_of, limit_from}
use Rattle.sp_terms.specs.SystemOfTerm.{system_of_term}
use Rattle.sp_terms.specs.Term.{Term, Direction, forward, backward, first_memory, IsAllowed}
use Rattle.sp_term_laws.specs.Along.{memory_after}
use Rattle.sp_term_laws.specs.Moves.{State, other, memory_of, first_state}
use Rattle.sp_term_laws.specs.Ways.{Way, still, onward}
use Rattle.claim_rules.specs.Claims.{Claim, IsSound, peak_up_to}
use Rattle.cut_laws.specs.Below.{LawsBelow}
use Rattle.cut_laws.specs.Cuts.{Cut, side_of, start_of, top_of, lowest_of, front_peak, back_peak}
use Rattle.cut_laws.proofs.Leading.{LeadsDown, IsCutOf}
use Rattle.cut_laws.specs.Names.{Names, names_of}
use Rattle.cut_laws.proofs.NamedWays.{NamedWay}
use Rattle.cut_laws.specs.Standing.{in_order, HasLevel, HasHigh, StandsFor}
use Rattle.cut_laws.proofs.Wanted.{Wants}
use Rattle.cut_laws.proofs.Limits.{within-below, above-beyond}
use Rattle.cut_laws.proofs.Numbers.{shape, named_way, names_from, by_numbers}
use Rattle.cut_laws.proofs.Peaks.{memory_at, peak_along}
use Rattle.cut_laws.proofs.Stands.{map_reverse}

-- ---- lists that are cut at one place

list_head : {x y : ℕ} {xs ys : List ℕ} → x ∷ xs ≡ y ∷ ys → x ≡ y
list_head e = cc

list_tail : {x y : ℕ} {xs ys : List ℕ} → x ∷ xs ≡ y ∷ ys → xs ≡ ys
list_tail e = cc

one_more : {x y : ℕ} {xs ys : List ℕ} → x ≡ y → xs ≡ ys → x ∷ xs ≡ y ∷ ys
one_more p q = λ i. p i ∷ q i

same_cut : (xs ys : List ℕ) {us vs : List ℕ} → xs ++ us ≡ ys ++ vs → length xs ≡ length ys → (xs ≡ ys) × (us ≡ vs)
same_cut [] [] e h = (refl, e)
same_cut [] (y ∷ ys) e h = absurd (omega arith)
same_cut (x ∷ xs) [] e h = absurd (omega arith)
same_cut (x ∷ xs) (y ∷ ys) e h = let r = same_cut xs ys (list_tail e) (omega arith) in (one_more (list_head e) r.0, r.1)

same_end : (xs ys : List ℕ) {us vs : List ℕ} → xs ++ us ≡ ys ++ vs → length us ≡ length vs → (xs ≡ ys) × (us ≡ vs)
same_end xs ys {us} {vs} e h = same_cut xs ys e (omega (arith, ap length e, length-append xs us, length-append ys vs))

map_length : (f : ℕ → ℕ) (xs : List ℕ) → length (map f xs) ≡ length xs
map_length f [] = refl
map_length f (x ∷ xs) = ap suc (map_length f xs)

same_length : (f : ℕ → ℕ) (xs ys : List ℕ) → map f xs ≡ map f ys → length xs ≡ length ys
same_length f xs ys e = omega (arith, map_length f xs, map_length f ys, ap length e)

reverse_twice : (xs : List ℕ) → reverse (reverse xs) ≡ xs
reverse_twice [] = refl
reverse_twice (x ∷ xs) = ap reverse (reverse-append (x ∷ []) xs) ∙ reverse-append (reverse xs) (x ∷ []) ∙ ap (λ l. x ∷ l) (reverse_twice xs)

none_mapped : (f : ℕ → ℕ) (xs : List ℕ) → map f xs ≡ [] → xs ≡ []
none_mapped f [] e = refl
none_mapped f (x ∷ xs) e = absurd (omega (arith, ap length e))

map_cut : (f : ℕ → ℕ) (ks xs ys : List ℕ) → map f ks ≡ xs ++ ys
    → (one two : List ℕ) × (ks ≡ one ++ two) × (map f one ≡ xs) × (map f two ≡ ys)
map_cut f ks [] ys e = ([], ks, refl, refl, e)
map_cut f [] (x ∷ xs) ys e = absurd (omega (arith, ap length e))
map_cut f (k ∷ ks) (x ∷ xs) ys e =
    let (one, two, is, p, q) = map_cut f ks xs ys (list_tail e) in
    (k ∷ one, two, ap (λ l. k ∷ l) is, one_more (list_head e) p, q)

last_of : (xs : List ℕ) → (xs ≡ []) ⊎ ((ys : List ℕ) × (y : ℕ) × (xs ≡ ys ++ y ∷ []))
last_of [] = inl refl
last_of (x ∷ xs) = elim (last_of xs) [
  | inl e ↦ inr ([], x, ap (λ l. x ∷ l) e)
  | inr u ↦ inr (x ∷ u.0, u.1, ap (λ l. x ∷ l) u.2)
]

-- ---- ways that are cut

way_nil : {d : Direction} {base : ℕ} {t : Term} {s u : State t} {xs : List ℕ} {h : ℕ} → Way d base t s xs h u → xs ≡ [] → s ≡ u
way_nil (still s) e = refl
way_nil (onward {xs = xs} v r w step) e = absurd (omega (arith, ap length e, length-append xs (v ∷ [])))

way_begin : {d : Direction} {base : ℕ} {t : Term} {s u : State t} {xs : List ℕ} {h : ℕ} → Way d base t s xs h u → memory_of t s ≤ h
way_begin (still s) = omega arith
way_begin (onward v r w step) = omega (arith, way_begin w)

way_end : {d : Direction} {base : ℕ} {t : Term} {s u : State t} {xs : List ℕ} {h : ℕ} → Way d base t s xs h u → memory_of t u ≤ h
way_end (still s) = omega arith
way_end (onward v r w step) = omega arith

record WayCut (d : Direction) (base : ℕ) (t : Term) (s : State t) (xs ys : List ℕ) (u : State t) : Type 0 where
  at : State t
  before : ℕ
  after : ℕ
  first : Way d base t s xs before at
  second : Way d base t at ys after u

way_cut : {d : Direction} {base : ℕ} {t : Term} {s u : State t} {zs : List ℕ} {h : ℕ}
    → Way d base t s zs h u → (xs ys : List ℕ) → zs ≡ xs ++ ys → WayCut d base t s xs ys u
way_cut {d} {base} {t} (still s) xs ys e =
    let nx : [] ≡ xs = sym (no_more xs (omega (arith, ap length e, length-append xs ys))) in
    let ny : [] ≡ ys = sym (no_more ys (omega (arith, ap length e, length-append xs ys))) in
    record {
      at = s;
      before = memory_of t s;
      after = memory_of t s;
      first = subst (λ l. Way d base t s l (memory_of t s) s) nx (still s);
      second = subst (λ l. Way d base t s l (memory_of t s) s) ny (still s);
    }
  where
    no_more : (xs : List ℕ) → length xs ≡ 0 → xs ≡ []
    no_more [] h = refl
    no_more (x ∷ xs) h = absurd (omega arith)
way_cut {d} {base} {t} (onward {s = s} {s' = m} {s'' = u} {xs = zs} {h = h} v r w step) xs ys e = elim (last_of ys) [
  | inl none ↦
      let whole : zs ++ v ∷ [] ≡ xs = e ∙ ap (λ l. xs ++ l) none ∙ append-nil xs in
      record {
        at = u;
        before = max h (max r (memory_of t u));
        after = memory_of t u;
        first = subst (λ l. Way d base t s l (max h (max r (memory_of t u))) u) whole (onward v r w step);
        second = subst (λ l. Way d base t u l (memory_of t u) u) (sym none) (still u);
      }
  | inr some ↦
      let same = same_end zs (xs ++ some.0) (e ∙ ap (λ l. xs ++ l) some.2 ∙ sym (append_assoc xs some.0 (some.1 ∷ []))) (omega arith) in
      let c : WayCut d base t s xs some.0 m = way_cut w xs some.0 same.0 in
      record {
        at = c.at;
        before = c.before;
        after = max c.after (max r (memory_of t u));
        first = c.first;
        second = subst (λ l. Way d base t c.at l (max c.after (max r (memory_of t u))) u)
            (ap (λ l. some.0 ++ l) same.1 ∙ sym some.2) (onward v r c.second step);
      }
]

nets : (xs ys : List Run) → net_sum (run_profile (xs ++ ys)) ≡ net_sum (run_profile xs) + net_sum (run_profile ys)
nets [] ys = omega arith
nets (x ∷ xs) ys = omega (arith, nets xs ys)

tasks_append : (xs ys : List Run) → tasks_of (xs ++ ys) ≡ tasks_of xs ++ tasks_of ys
tasks_append [] ys = refl
tasks_append (x ∷ xs) ys = ap (λ l. x.tasks ++ l) (tasks_append xs ys) ∙ sym (append_assoc x.tasks (tasks_of xs) (tasks_of ys))

-- ---- the sides of a cut that stands

module _ (laws : LawsBelow) (t : Term) (allowed : IsAllowed t) (names : List ℕ) (c : Cut) (stands : StandsFor t names c) where
  starts_at : (d : Direction) → memory_of t (first_state d t) ≡ start_of d c
  starts_at forward = laws.terms.first forward t ∙ sym stands.initial
  starts_at backward = laws.terms.first backward t ∙ sym stands.final

  room : (d : Direction) → net_sum (run_profile (side_of d c)) ≤ start_of d c
  room forward = let q = stands.front_net in omega arith
  room backward = let q = stands.back_net in omega arith

  -- ---- what is known along the traversal

  backwards : (first rest : List ℕ) → reverse stands.order ≡ first ++ rest → stands.order ≡ reverse rest ++ reverse first
  backwards first rest e = sym (reverse_twice stands.order) ∙ ap reverse e ∙ reverse-append first rest

  level_at : (d : Direction) (before after : List Run) → side_of d c ≡ before ++ after → (first rest : List ℕ)
      → in_order d stands.order ≡ first ++ rest → map (name_in names) first ≡ tasks_of before
      → (s : State t) (h k : ℕ) → Way d 1 t (first_state d t) first h s
      → Way d 1 t s rest k (first_state (other d) t) → memory_of t s ≡ start_of d c - net_sum (run_profile before)
  level_at forward before after e first rest whole named s h k w v =
      let x : HasLevel forward t names stands.order (tasks_of before) (c.initial - net_sum (run_profile before)) =
      stands.levels forward before after e in
      let same = same_cut first x.done (sym whole ∙ x.whole) (same_length (name_in names) first x.done (named ∙ sym x.named)) in
      sym (memory_at laws.terms t allowed s first h w) ∙ ap (memory_after (system_of_term t)) same.0 ∙ x.memory
  level_at backward before after e first rest whole named s h k w v =
      let x : HasLevel backward t names stands.order (tasks_of before) (c.fin - net_sum (run_profile before)) =
      stands.levels backward before after e in
      let turned : map (name_in names) (reverse first) ≡ map (name_in names) x.rest =
      map_reverse (name_in names) first ∙ ap reverse named ∙ sym x.named in
      let same = same_end (reverse rest) x.done (sym (backwards first rest whole) ∙ x.whole)
      (same_length (name_in names) (reverse first) x.rest turned) in
      sym (memory_at laws.terms t allowed s (reverse rest) k (laws.terms.back backward 1 t s (first_state forward t) rest k v))
      ∙ ap (memory_after (system_of_term t)) same.0 ∙ x.memory

  high_at : (d : Direction) (before after : List Run) (g : Run) → side_of d c ≡ before ++ g ∷ after
      → (first between rest : List ℕ) → in_order d stands.order ≡ first ++ (between ++ rest)
      → map (name_in names) first ≡ tasks_of before → map (name_in names) between ≡ g.tasks
      → (s m : State t) (h k l : ℕ) → Way d 1 t (first_state d t) first h s → Way d 1 t s between k m
      → Way d 1 t m rest l (first_state (other d) t) → k ≡ start_of d c - net_sum (run_profile before) + g.up
  high_at forward before after g e first between rest whole named ran s m h k l w u v =
      let x : HasHigh forward t names stands.order (tasks_of before) g.tasks (c.initial - net_sum (run_profile before) + g.up) =
      stands.highs forward before after g e in
      let same = same_cut first x.done (sym whole ∙ x.whole) (same_length (name_in names) first x.done (named ∙ sym x.named)) in
      let same' = same_cut between x.between same.1 (same_length (name_in names) between x.between (ran ∙ sym x.named_run)) in
      sym (peak_along laws.terms t allowed first h w u) ∙ ap (λ y. peak_from (system_of_term t) y between) same.0
      ∙ ap (peak_from (system_of_term t) x.done) same'.0 ∙ x.greatest
  high_at backward before after g e first between rest whole named ran s m h k l w u v =
      let x : HasHigh backward t names stands.order (tasks_of before) g.tasks (c.fin - net_sum (run_profile before) + g.up) =
      stands.highs backward before after g e in
      let turned : map (name_in names) (reverse first) ≡ map (name_in names) x.rest =
      map_reverse (name_in names) first ∙ ap reverse named ∙ sym x.named in
      let ran' : map (name_in names) (reverse between) ≡ map (name_in names) x.between =
      map_reverse (name_in names) between ∙ ap reverse ran ∙ sym x.named_run in
      let whole' : stands.order ≡ reverse rest ++ (reverse between ++ reverse first) =
      backwards first (between ++ rest) whole ∙ ap (λ y. y ++ reverse first) (reverse-append between rest)
      ∙ append_assoc (reverse rest) (reverse between) (reverse first) in
      let lf = same_length (name_in names) (reverse first) x.rest turned in
      let lb = same_length (name_in names) (reverse between) x.between ran' in
      let same = same_end (reverse rest) x.done (sym whole' ∙ x.whole)
      (omega (arith, lf, lb, length-append (reverse between) (reverse first), length-append x.between x.rest)) in
      let same' = same_cut (reverse between) x.between same.1 lb in
      let start = laws.terms.back backward 1 t m (first_state forward t) rest l v in
      let on = laws.terms.back backward 1 t s m between k u in
      sym (peak_along laws.terms t allowed (reverse rest) l start on) ∙ ap (λ y. peak_from (system_of_term t) y (reverse between)) same.0
      ∙ ap (peak_from (system_of_term t) x.done) same'.0 ∙ x.greatest

  -- ---- the runs of a side, one after the other

  chain : (d : Direction) (before after : List Run) → side_of d c ≡ before ++ after
      → (first rest behind : List ℕ) → in_order d stands.order ≡ first ++ (rest ++ behind)
      → map (name_in names) first ≡ tasks_of before → map (name_in names) rest ≡ tasks_of after
      → (s m : State t) (h k l : ℕ) → Way d 1 t (first_state d t) first h s
      → Way d 1 t s rest k m → Way d 1 t m behind l (first_state (other d) t)
      → memory_of t s ≡ start_of d c - net_sum (run_profile before) → LeadsDown d t (shape (name_in names) 1 t) s after m
  chain d before [] e first rest behind whole named named' s m h k l w v on at = way_nil v (none_mapped (name_in names) rest named')
  chain d before (g ∷ gs) e first rest behind whole named named' s m h k l w v on at =
      let f : ℕ → ℕ = name_in names in
      let (one, two, is, n1, n2) = map_cut f rest g.tasks (tasks_of gs) named' in
      let x : WayCut d 1 t s one two m = way_cut v one two is in
      let whole1 : in_order d stands.order ≡ first ++ (one ++ (two ++ behind)) =
      whole ∙ ap (λ y. first ++ (y ++ behind)) is ∙ ap (λ y. first ++ y) (append_assoc one two behind) in
      let whole2 : in_order d stands.order ≡ (first ++ one) ++ (two ++ behind) = whole1 ∙ sym (append_assoc first one (two ++ behind)) in
      let rest_way = laws.terms.ways_joined d 1 t x.at m (first_state (other d) t) two behind x.after l x.second on in
      let high = high_at d before gs g e first one (two ++ behind) whole1 named n1 s x.at h x.before (max x.after l) w x.first rest_way in
      let e' : side_of d c ≡ (before ++ g ∷ []) ++ gs = e ∙ sym (append_assoc before (g ∷ []) gs) in
      let first_way = laws.terms.ways_joined d 1 t (first_state d t) s x.at first one h x.before w x.first in
      let names1 : map f (first ++ one) ≡ tasks_of (before ++ g ∷ []) =
      map-append f first one ∙ ap (λ y. y ++ map f one) named
      ∙ ap (λ y. tasks_of before ++ y) (n1 ∙ sym (append-nil g.tasks)) ∙ sym (tasks_append before (g ∷ [])) in
      let level = level_at d (before ++ g ∷ []) gs e' (first ++ one)
      (two ++ behind) whole2 names1 x.at (max h x.before) (max x.after l) first_way rest_way in
      let all = nets before (g ∷ gs) in
      let to_here = nets before (g ∷ []) in
      let size = ap (λ (y : List Run). net_sum (run_profile y)) e in
      let r = room d in
      let way : NamedWay d t (shape f 1 t) s g.tasks (memory_of t s + g.up) x.at =
      subst (λ y. NamedWay d t (shape f 1 t) s y (memory_of t s + g.up) x.at) n1
      (subst (λ y. NamedWay d t (shape f 1 t) s (map f one) y x.at) (omega (arith, high, at)) (named_way f d 1 t x.first)) in (
        x.at,
        way,
        omega (arith, level, at, all, to_here, size, r),
        chain d (before ++ g ∷ []) gs e' (first ++ one) two behind whole2 names1 n2 x.at m
            (max h x.before) x.after l first_way x.second on level,
      )

  record BothSides : Type 0 where
    cut : State t
    front : LeadsDown forward t (shape (name_in names) 1 t) (first_state forward t) c.front cut
    back : LeadsDown backward t (shape (name_in names) 1 t) (first_state backward t) c.back cut

  both_sides : BothSides
  both_sides =
      let f : ℕ → ℕ = name_in names in
      let (down, up, is, n1, n2) = map_cut f stands.order (tasks_of c.front) (reverse (tasks_of c.back)) stands.written in
      let x : WayCut forward 1 t (first_state forward t) down up (first_state backward t) =
      way_cut (laws.terms.traversal t allowed stands.order stands.traversal) down up is in
      let turned : reverse stands.order ≡ [] ++ (reverse up ++ reverse down) = ap reverse is ∙ reverse-append down up in
      let named : map f (reverse up) ≡ tasks_of c.back = map_reverse f up ∙ ap reverse n2 ∙ reverse_twice (tasks_of c.back) in
      let up_way = laws.terms.back forward 1 t x.at (first_state backward t) up x.after x.second in
      let down_way = laws.terms.back forward 1 t (first_state forward t) x.at down x.before x.first in
      record {
        cut = x.at;
        front = chain forward [] c.front refl [] down up is refl n1 (first_state forward t) x.at (memory_of t (first_state forward t))
            x.before x.after (still (first_state forward t)) x.first x.second (omega (arith, starts_at forward));
        back = chain backward [] c.back refl [] (reverse up) (reverse down) turned refl named
            (first_state backward t) x.at (memory_of t (first_state backward t)) x.after x.before
            (still (first_state backward t)) up_way down_way (omega (arith, starts_at backward));
      }

  -- ---- what the sides show

  under_peak : (d : Direction) → top_of d c ≤ max (front_peak c) (back_peak c)
  under_peak forward = omega arith
  under_peak backward = omega arith

  start_below : (d : Direction) (done rest : List ℕ) → IsTraversal (system_of_term t) (done ++ rest)
      → start_of d c ≤ peak_up_to d (system_of_term t) done rest
  start_below forward done rest traversal =
      let (s, memory, before, behind) = laws.terms.cut t allowed done rest traversal in
      omega (arith, way_begin before, starts_at forward)
  start_below backward done rest traversal =
      let (s, memory, before, behind) = laws.terms.cut t allowed done rest traversal in
      omega (arith, way_end behind, starts_at backward)

  first_is : (d : Direction) → start_of d c ≡ first_memory d t
  first_is d = sym (starts_at d) ∙ laws.terms.first d t

  low_rest : (d : Direction) (limit rest : ℕ) → rest ≤ lowest_of d limit c
      → (done after : List ℕ) → IsTraversal (system_of_term t) (done ++ after)
      → peak_up_to d (system_of_term t) done after < limit → rest ≤ memory_after (system_of_term t) done
  low_rest d limit rest le done after traversal lt =
      let begins : start_of d c < limit = omega (arith, start_below d done after traversal, lt) in
      omega (arith, le, (stands.staircase d limit begins).least done after traversal lt)

  sides_sound : (k : Claim) → Wants c k → IsSound t k
  sides_sound k w = record {
    no_traversal = λ order traversal. above-beyond (peak_of (system_of_term t) order) k.bound
        (omega (arith, w.below, under_peak k.direction, stands.least.least order traversal));
    rest = λ done after traversal within. low_rest k.direction (limit_from k.bound) k.rest w.low done after traversal
        (within-below (peak_up_to k.direction (system_of_term t) done after) k.bound within);
    start = omega (
      arith,
      w.low,
      (laws.sides.between (limit_from k.bound) (start_of k.direction c) (run_profile (side_of k.direction c))).1,
      first_is k.direction,
    );
  }

  pub stands_cut : (n : Names t) × (names_of t n ≡ names) × IsCutOf t n c
  stands_cut =
      let (n, is) = names_from t names stands.named in
      let shaped : shape (name_in names) 1 t ≡ n = ap (λ l. shape (name_in l) 1 t) (sym is) ∙ sym (by_numbers t n) in
      let x = both_sides in (
        n,
        is,
        record {
          fits = record {
            initial = stands.initial;
            final = stands.final;
            low = stands.low;
            front = stands.front_net;
            back = stands.back_net;
          };
          sound = sides_sound;
          front_rises = stands.front_rises;
          back_rises = stands.back_rises;
          cut = x.cut;
          front = subst (λ m. LeadsDown forward t m (first_state forward t) c.front x.cut) shaped x.front;
          back = subst (λ m. LeadsDown backward t m (first_state backward t) c.back x.cut) shaped x.back;
        },
      )
