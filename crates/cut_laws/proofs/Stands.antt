-- A cut of a term stands for it.
use Rattle.std.proofs.Common.{◌≡◌, ℕ, ◌+◌, ◌-◌, ◌<◌, ◌≤◌, inl, inr, max, refl, sym, subst, ap}
use Rattle.std.proofs.Common.{arith, ◌∙◌, List, [], ◌∷◌, ◌++◌, append_assoc, reverse, map}
use Rattle.std.specs.Prelude.{pos, ◌-ℤ◌}
use Rattle.std.proofs.lemmas.List.{map-append, reverse-append}
use Rattle.mp_system.specs.Memory.{peak_from, peak_of}
use Rattle.mp_system.specs.Renaming.{name_in}
use Rattle.mp_system.specs.Traversal.{IsTraversal}
use Rattle.side_laws.specs.Segments.{Segment, net_sum, lowest, top}
use Rattle.hill_valley.specs.Side.{Run, run_profile, tasks_of}
use Rattle.sp_terms.specs.SystemOfTerm.{system_of_term}
use Rattle.sp_terms.specs.Term.{Term, Direction, forward, backward, first_memory, IsAllowed}
use Rattle.sp_term_laws.specs.Along.{memory_after}
use Rattle.sp_term_laws.specs.Moves.{State, memory_of, first_state}
use Rattle.sp_term_laws.specs.Ways.{Way}
use Rattle.claim_rules.specs.Claims.{IsSound, peak_up_to}
use Rattle.cut_laws.specs.Below.{LawsBelow}
use Rattle.cut_laws.specs.Cuts.{Cut, side_of, start_of, top_of, lowest_of, front_peak, back_peak, order_of}
use Rattle.cut_laws.proofs.Leading.{LeadsDown, IsCutOf}
use Rattle.cut_laws.specs.Names.{Names, names_of}
use Rattle.cut_laws.specs.Standing.{HasLevel, HasHigh, StandsFor}
use Rattle.cut_laws.proofs.Wanted.{claim_below}
use Rattle.cut_laws.proofs.Levels.{lowest_end, top_from_passes}
use Rattle.lists.proofs.Orders.{lt_or_le}
use Rattle.cut_laws.proofs.Limits.{below-within, beyond-above, limit-below}
use Rattle.cut_laws.proofs.Numbered.{NumbersLeadDown, numbered_down, down_names, down_net, down_split, down_way}
use Rattle.cut_laws.proofs.Numbers.{by_numbers, count_names}
use Rattle.cut_laws.proofs.Peaks.{to_end, memory_at, peak_along}

pub map_reverse : (f : ℕ → ℕ) (xs : List ℕ) → map f (reverse xs) ≡ reverse (map f xs)
map_reverse f [] = refl
map_reverse f (x ∷ xs) = ap (map f) (reverse-append (x ∷ []) xs) ∙ map-append f (reverse xs) (x ∷ [])
    ∙ ap (λ l. l ++ f x ∷ []) (map_reverse f xs) ∙ sym (reverse-append (f x ∷ []) (map f xs))

head_same : {x y : Segment} {xs ys : List Segment} → x ∷ xs ≡ y ∷ ys → x ≡ y
head_same e = cc

tail_same : {x y : Segment} {xs ys : List Segment} → x ∷ xs ≡ y ∷ ys → xs ≡ ys
tail_same e = cc

not_empty : (b : Segment) (l : List Segment) → [] ≡ b ∷ l → ⊥
not_empty b l e = cc

cons_same : {x y : Segment} {xs ys : List Segment} → x ≡ y → xs ≡ ys → x ∷ xs ≡ y ∷ ys
cons_same p q = λ i. p i ∷ q i

-- runs whose numbers are cut
cut_runs : (gs : List Run) (before rest : List Segment) → run_profile gs ≡ before ++ rest
    → (one two : List Run) × (gs ≡ one ++ two) × (run_profile one ≡ before)
cut_runs gs [] rest e = ([], gs, refl, refl)
cut_runs [] (b ∷ before) rest e = absurd (not_empty b (before ++ rest) e)
cut_runs (g ∷ gs) (b ∷ before) rest e =
    let (one, two, is, same) = cut_runs gs before rest (tail_same e) in
    (g ∷ one, two, ap (λ l. g ∷ l) is, cons_same (head_same e) same)

-- both sides of a cut, with the numbers of their tasks under these names
pub record Numbered (t : Term) (names : List ℕ) (c : Cut) : Type 0 where
  pub cut : State t
  pub down : List ℕ
  pub up : List ℕ
  pub front : NumbersLeadDown forward t (name_in names) (first_state forward t) c.front down cut
  pub back : NumbersLeadDown backward t (name_in names) (first_state backward t) c.back up cut

pub numbers_of : (t : Term) (n : Names t) (c : Cut) → IsCutOf t n c → Numbered t (names_of t n) c
numbers_of t n c s =
    let f : ℕ → ℕ = name_in (names_of t n) in
    let (down, front) = numbered_down forward t f (first_state forward t) c.front s.cut
    (subst (λ m. LeadsDown forward t m (first_state forward t) c.front s.cut) (by_numbers t n) s.front) in
    let (up, back) = numbered_down backward t f (first_state backward t) c.back s.cut
    (subst (λ m. LeadsDown backward t m (first_state backward t) c.back s.cut) (by_numbers t n) s.back) in
    record { cut = s.cut; down = down; up = up; front = front; back = back }

module _ (laws : LawsBelow) (t : Term) (allowed : IsAllowed t) (names : List ℕ) (c : Cut)
    (initial : c.initial ≡ first_memory forward t) (final : c.fin ≡ first_memory backward t) (numbers : Numbered t names c) where
  order : List ℕ
  order = numbers.down ++ reverse numbers.up

  front_way : Way forward 1 t (first_state forward t) numbers.down (front_peak c) numbers.cut
  front_way = subst (λ n. Way forward 1 t (first_state forward t) numbers.down (top n (run_profile c.front)) numbers.cut)
      (laws.terms.first forward t ∙ sym initial)
      (down_way laws.terms forward t (name_in names) (first_state forward t) c.front numbers.down numbers.cut numbers.front)

  back_way : Way backward 1 t (first_state backward t) numbers.up (back_peak c) numbers.cut
  back_way = subst (λ n. Way backward 1 t (first_state backward t) numbers.up (top n (run_profile c.back)) numbers.cut)
      (laws.terms.first backward t ∙ sym final)
      (down_way laws.terms backward t (name_in names) (first_state backward t) c.back numbers.up numbers.cut numbers.back)

  whole_way : Way forward 1 t (first_state forward t) (numbers.down ++ reverse numbers.up)
      (max (front_peak c) (back_peak c)) (first_state backward t)
  whole_way = laws.terms.ways_joined forward 1 t (first_state forward t) numbers.cut
      (first_state backward t) numbers.down (reverse numbers.up) (front_peak c) (back_peak c) front_way
      (laws.terms.back backward 1 t (first_state backward t) numbers.cut numbers.up (back_peak c) back_way)

  pub legal : IsTraversal (system_of_term t) (numbers.down ++ reverse numbers.up)
  legal = (laws.terms.way t allowed (numbers.down ++ reverse numbers.up) (max (front_peak c) (back_peak c)) whole_way).0

  pub peak_is : peak_of (system_of_term t) (numbers.down ++ reverse numbers.up) ≡ max (front_peak c) (back_peak c)
  peak_is = sym ((laws.terms.way t allowed (numbers.down ++ reverse numbers.up) (max (front_peak c) (back_peak c)) whole_way).1)

  pub written_is : map (name_in names) (numbers.down ++ reverse numbers.up) ≡ order_of c
  written_is =
      map-append (name_in names) numbers.down (reverse numbers.up)
      ∙ ap (λ l. l ++ map (name_in names) (reverse numbers.up))
      (down_names forward t (name_in names) (first_state forward t) c.front numbers.down numbers.cut numbers.front)
      ∙ ap (λ l. tasks_of c.front ++ l)
      (map_reverse (name_in names) numbers.up
      ∙ ap reverse (down_names backward t (name_in names) (first_state backward t) c.back numbers.up numbers.cut numbers.back))

  -- ---- levels

  front_level : (before after : List Run) → c.front ≡ before ++ after
      → HasLevel forward t names (numbers.down ++ reverse numbers.up) (tasks_of before) (c.initial - net_sum (run_profile before))
  front_level before after e =
      let f : ℕ → ℕ = name_in names in
      let s : State t = first_state forward t in
      let (m, one, two, is, first, second) = down_split forward t f s before after numbers.down numbers.cut
      (subst (λ l. NumbersLeadDown forward t f s l numbers.down numbers.cut) e numbers.front) in
      let net = down_net forward t f s before one m first in
      let at = laws.terms.first forward t in
      record {
        done = one;
        rest = two ++ reverse numbers.up;
        whole = ap (λ l. l ++ reverse numbers.up) is ∙ append_assoc one two (reverse numbers.up);
        named = down_names forward t f s before one m first;
        memory = memory_at laws.terms t allowed m one (top (memory_of t s) (run_profile before))
            (down_way laws.terms forward t f s before one m first)
            ∙ omega (arith, net, at, initial);
      }

  -- the way to a state that the back comes by
  from_start : (m : State t) (two : List ℕ) (h : ℕ) → Way backward 1 t m two h numbers.cut
      → Way forward 1 t (first_state forward t) (numbers.down ++ reverse two) (max (front_peak c) h) m
  from_start m two h w =
      laws.terms.ways_joined forward 1 t (first_state forward t) numbers.cut m numbers.down
      (reverse two) (front_peak c) h front_way (laws.terms.back backward 1 t m numbers.cut two h w)

  turned : (one two : List ℕ) → numbers.up ≡ one ++ two → numbers.down ++ reverse numbers.up ≡ (numbers.down ++ reverse two) ++ reverse one
  turned one two is = ap (λ l. numbers.down ++ reverse l) is ∙ ap (λ l. numbers.down ++ l) (reverse-append one two)
      ∙ sym (append_assoc numbers.down (reverse two) (reverse one))

  back_level : (before after : List Run) → c.back ≡ before ++ after
      → HasLevel backward t names (numbers.down ++ reverse numbers.up) (tasks_of before) (c.fin - net_sum (run_profile before))
  back_level before after e =
      let f : ℕ → ℕ = name_in names in
      let s : State t = first_state backward t in
      let (m, one, two, is, first, second) = down_split backward t f s before after numbers.up numbers.cut
      (subst (λ l. NumbersLeadDown backward t f s l numbers.up numbers.cut) e numbers.back) in
      let net = down_net backward t f s before one m first in
      let at = laws.terms.first backward t in
      let way =
      from_start m two (top (memory_of t m) (run_profile after)) (down_way laws.terms backward t f m after two numbers.cut second) in
      record {
        done = numbers.down ++ reverse two;
        rest = reverse one;
        whole = turned one two is;
        named = map_reverse f one ∙ ap reverse (down_names backward t f s before one m first);
        memory = memory_at laws.terms t allowed m (numbers.down ++ reverse two)
            (max (front_peak c) (top (memory_of t m) (run_profile after))) way
            ∙ omega (arith, net, at, final);
      }

  level_of : (d : Direction) (before after : List Run) → side_of d c ≡ before ++ after
      → HasLevel d t names (numbers.down ++ reverse numbers.up) (tasks_of before) (start_of d c - net_sum (run_profile before))
  level_of forward before after e = front_level before after e
  level_of backward before after e = back_level before after e

  -- ---- highs

  front_high : (before after : List Run) (run : Run) → c.front ≡ before ++ run ∷ after
      → HasHigh forward t names (numbers.down ++ reverse numbers.up)
      (tasks_of before) run.tasks (c.initial - net_sum (run_profile before) + run.up)
  front_high before after run e =
      let f : ℕ → ℕ = name_in names in
      let s : State t = first_state forward t in
      let (m, one, two, is, first, (u, three, four, is', way, named, net', rest)) = down_split forward t f s before
      (run ∷ after) numbers.down numbers.cut (subst (λ l. NumbersLeadDown forward t f s l numbers.down numbers.cut) e numbers.front) in
      let net = down_net forward t f s before one m first in
      let at = laws.terms.first forward t in
      record {
        done = one;
        between = three;
        rest = four ++ reverse numbers.up;
        whole = ap (λ l. l ++ reverse numbers.up) (is ∙ ap (λ l. one ++ l) is')
            ∙ append_assoc one (three ++ four) (reverse numbers.up) ∙ ap (λ l. one ++ l) (append_assoc three four (reverse numbers.up));
        named = down_names forward t f s before one m first;
        named_run = named;
        greatest = peak_along laws.terms t allowed one (top (memory_of t s) (run_profile before))
            (down_way laws.terms forward t f s before one m first) way
            ∙ omega (arith, net, at, initial);
      }

  back_high : (before after : List Run) (run : Run) → c.back ≡ before ++ run ∷ after
      → HasHigh backward t names (numbers.down ++ reverse numbers.up)
      (tasks_of before) run.tasks (c.fin - net_sum (run_profile before) + run.up)
  back_high before after run e =
      let f : ℕ → ℕ = name_in names in
      let s : State t = first_state backward t in
      let (m, one, two, is, first, (u, three, four, is', way, named, net', rest)) = down_split backward t f s before
      (run ∷ after) numbers.up numbers.cut (subst (λ l. NumbersLeadDown backward t f s l numbers.up numbers.cut) e numbers.back) in
      let net = down_net backward t f s before one m first in
      let at = laws.terms.first backward t in
      let start =
      from_start u four (top (memory_of t u) (run_profile after)) (down_way laws.terms backward t f u after four numbers.cut rest) in
      record {
        done = numbers.down ++ reverse four;
        between = reverse three;
        rest = reverse one;
        whole = turned one two is ∙ ap (λ l. (numbers.down ++ l) ++ reverse one) (ap reverse is' ∙ reverse-append three four)
            ∙ ap (λ l. l ++ reverse one) (sym (append_assoc numbers.down (reverse four) (reverse three)))
            ∙ append_assoc (numbers.down ++ reverse four) (reverse three) (reverse one);
        named = map_reverse f one ∙ ap reverse (down_names backward t f s before one m first);
        named_run = map_reverse f three ∙ ap reverse named;
        greatest =
            peak_along laws.terms t allowed (numbers.down ++ reverse four) (max (front_peak c) (top (memory_of t u) (run_profile after)))
            start (laws.terms.back backward 1 t m u three (memory_of t m + run.up) way)
            ∙ omega (arith, net, at, final);
      }

  high_of : (d : Direction) (before after : List Run) (run : Run) → side_of d c ≡ before ++ run ∷ after
      → HasHigh d t names (numbers.down ++ reverse numbers.up)
      (tasks_of before) run.tasks (start_of d c - net_sum (run_profile before) + run.up)
  high_of forward before after run e = front_high before after run e
  high_of backward before after run e = back_high before after run e

  -- ---- staircases: attained

  lowest_front : (limit : ℕ) → c.initial < limit
      → (done rest : List ℕ) × IsTraversal (system_of_term t) (done ++ rest) × (peak_of (system_of_term t) done < limit)
      × (memory_after (system_of_term t) done ≡ lowest limit c.initial (run_profile c.front))
  lowest_front limit lt =
      let f : ℕ → ℕ = name_in names in
      let s : State t = first_state forward t in
      let (before, rest, split, passes, is_lowest, stuck) = laws.sides.stuck limit c.initial (run_profile c.front) in
      let (runs, after, is_runs, same) = cut_runs c.front before rest split in
      let (m, one, two, is, first, second) = down_split forward t f s runs after numbers.down numbers.cut
      (subst (λ l. NumbersLeadDown forward t f s l numbers.down numbers.cut) is_runs numbers.front) in
      let net = down_net forward t f s runs one m first in
      let at = laws.terms.first forward t in
      let below : top c.initial before < limit = top_from_passes laws.sides limit c.initial before lt passes in
      let way = down_way laws.terms forward t f s runs one m first in
      let (on, k, further) = to_end laws.terms t allowed m in
      let (traversal, memory, peak, _) = laws.terms.joined t allowed m one on (top (memory_of t s) (run_profile runs)) k way further in
      let high : top (memory_of t s) (run_profile runs) ≡ top c.initial before =
      ap (λ n. top n (run_profile runs)) (at ∙ sym initial) ∙ ap (top c.initial) same in
      (one, on, traversal, omega (arith, peak, high, below), omega (arith, memory, net, at, initial, is_lowest, ap net_sum same))

  lowest_back : (limit : ℕ) → c.fin < limit
      → (done rest : List ℕ) × IsTraversal (system_of_term t) (done ++ rest) × (peak_from (system_of_term t) done rest < limit)
      × (memory_after (system_of_term t) done ≡ lowest limit c.fin (run_profile c.back))
  lowest_back limit lt =
      let f : ℕ → ℕ = name_in names in
      let s : State t = first_state backward t in
      let (before, rest, split, passes, is_lowest, stuck) = laws.sides.stuck limit c.fin (run_profile c.back) in
      let (runs, after, is_runs, same) = cut_runs c.back before rest split in
      let (m, one, two, is, first, second) = down_split backward t f s runs after numbers.up numbers.cut
      (subst (λ l. NumbersLeadDown backward t f s l numbers.up numbers.cut) is_runs numbers.back) in
      let net = down_net backward t f s runs one m first in
      let at = laws.terms.first backward t in
      let below : top c.fin before < limit = top_from_passes laws.sides limit c.fin before lt passes in
      let way = laws.terms.back backward 1 t s m one (top (memory_of t s) (run_profile runs))
      (down_way laws.terms backward t f s runs one m first) in
      let (on, k, further) = laws.terms.each forward 1 t m in
      let (traversal, memory, _, peak) =
      laws.terms.joined t allowed m on (reverse one) k (top (memory_of t s) (run_profile runs)) further way in
      let high : top (memory_of t s) (run_profile runs) ≡ top c.fin before =
      ap (λ n. top n (run_profile runs)) (at ∙ sym final) ∙ ap (top c.fin) same in
      (on, reverse one, traversal, omega (arith, peak, high, below), omega (arith, memory, net, at, final, is_lowest, ap net_sum same))

  attained : (d : Direction) (limit : ℕ) → start_of d c < limit
      → (done rest : List ℕ) × IsTraversal (system_of_term t) (done ++ rest)
      × (peak_up_to d (system_of_term t) done rest < limit) × (memory_after (system_of_term t) done ≡ lowest_of d limit c)
  attained forward limit lt = lowest_front limit lt
  attained backward limit lt = lowest_back limit lt

-- ---- over all traversals

fit_end : (t : Term) (n : Names t) (c : Cut) → IsCutOf t n c → (d : Direction)
    → net_sum (run_profile (side_of d c)) + c.least ≡ start_of d c
fit_end t n c h forward = h.fits.front
fit_end t n c h backward = h.fits.back

module _ (laws : LawsBelow) (t : Term) (allowed : IsAllowed t) (n : Names t) (c : Cut) (h : IsCutOf t n c) where
  -- the claim that a side shows below its top
  shown : (d : Direction) (limit : ℕ) → limit ≤ top_of d c → IsSound t (claim_below d limit (lowest_of d limit c))
  shown d limit le =
      let e = limit-below limit in
      h.sound (claim_below d limit (lowest_of d limit c)) (record {
        below = omega (arith, e);
        low = subst (λ (m : ℕ). lowest_of d limit c ≤ lowest_of d m c) (sym e) (omega arith);
      })

  none_lower : (d : Direction) (limit : ℕ) (done rest : List ℕ)
      → IsTraversal (system_of_term t) (done ++ rest) → peak_up_to d (system_of_term t) done rest < limit
      → lowest_of d limit c ≤ memory_after (system_of_term t) done
  none_lower d limit done rest traversal lt = elim (lt_or_le (top_of d c) limit) [
    | inl below ↦ omega (
      arith,
      lowest_end laws.sides limit (start_of d c) (run_profile (side_of d c)) below,
      fit_end t n c h d,
      h.fits.low,
      laws.terms.least_after t allowed done rest traversal,
    )
    | inr le ↦ (shown d limit le).rest done rest traversal
        (below-within (peak_up_to d (system_of_term t) done rest) (pos limit -ℤ pos 1) (omega (arith, limit-below limit)))
  ]

  above : (d : Direction) (order : List ℕ) → IsTraversal (system_of_term t) order → top_of d c ≤ peak_of (system_of_term t) order
  above d order traversal =
      omega (
        arith,
        limit-below (top_of d c),
        beyond-above (peak_of (system_of_term t) order) (pos (top_of d c) -ℤ pos 1)
            ((shown d (top_of d c) (omega arith)).no_traversal order traversal),
      )

  pub cut_stands : StandsFor t (names_of t n) c
  cut_stands =
      let numbers : Numbered t (names_of t n) c = numbers_of t n c h in
      let traversal = legal laws t allowed (names_of t n) c h.fits.initial h.fits.final numbers in
      let peak = peak_is laws t allowed (names_of t n) c h.fits.initial h.fits.final numbers in
      record {
        initial = h.fits.initial;
        final = h.fits.final;
        low = h.fits.low;
        named = count_names t n;
        order = numbers.down ++ reverse numbers.up;
        traversal = traversal;
        written = written_is laws t allowed (names_of t n) c h.fits.initial h.fits.final numbers;
        peak = peak;
        front_net = h.fits.front;
        back_net = h.fits.back;
        front_rises = h.front_rises;
        back_rises = h.back_rises;
        levels = level_of laws t allowed (names_of t n) c h.fits.initial h.fits.final numbers;
        highs = high_of laws t allowed (names_of t n) c h.fits.initial h.fits.final numbers;
        least = record {
          order = numbers.down ++ reverse numbers.up;
          traversal = traversal;
          attained = peak;
          least = λ other tr. omega (arith, above forward other tr, above backward other tr);
        };
        staircase = λ d limit lt. record {
          some = attained laws t allowed (names_of t n) c h.fits.initial h.fits.final numbers d limit lt;
          least = none_lower d limit;
        };
      }
