-- What steps list: one step more or less, and the steps of a term in place of the step of the term.
use Rattle.std.proofs.Common.{◌≡◌, ℕ, suc, ◌+◌, ◌-◌, ◌*◌, ◌<◌, ◌≤◌, List, [], ◌∷◌, ◌++◌, length, length-append, append_assoc, take, get_or}
use Rattle.std.proofs.Common.{reverse, refl, sym, ap, subst, ◌∙◌, arith}
use Rattle.std.specs.List.{sum_by}
use Rattle.std.proofs.lemmas.List.{append-nil, reverse-append, take_at}
use Rattle.std.proofs.lemmas.List.Sums.{sum_by-cons, sum_by-append}
use Rattle.std.proofs.Math.Seq.{get_or-append_seam}
use Rattle.sp_terms.specs.declared.position.Position.{Position}
use Rattle.sp_terms.specs.declared.position.Position.TheVariants.{Hold, Par}
use Rattle.sp_terms.specs.Term.{Term, hold, series, par, Parts, no_parts, part, count, width_of, width_of_parts}
use Rattle.sp_terms.specs.Postfix.{postfix, all_postfix, at_task, push_all}
use Rattle.sp_terms.specs.SystemOfTerm.{task_count, task_count_of_parts, own_number}
use Rattle.sp_terms.specs.Values.{added_tasks, IsTaskPosition, IsTerms, term_of, term_at, last_term, stack_from}
use Rattle.sp_terms.proofs.Stacks.{length-postfix, length-all_postfix, some-position, prefix, push_then, push-postfix, all_pushed}
use Rattle.term_orders.specs.declared.side.Side.{Side}
use Rattle.term_orders.specs.declared.side.Side.TheVariants.{FirstPart, LastPart}
use Rattle.term_orders.specs.declared.listing.Step.{Step}
use Rattle.term_orders.specs.declared.listing.Step.TheVariants.{Open, Own}
use Rattle.term_orders.specs.TermOrders.{order_of, order_of_parts}
use Rattle.term_orders.specs.Steps.{walk, walks, tasks_among, AreStarts, AreCounts, TermHere, PartsHere, IsListed, AreListed}
use Rattle.term_orders.specs.Steps.{series_steps, set_out, weight}

-- ---- one step more, and one less

module _ (ps : List Position) (side : Side) where
  pub push_listed : (steps : List Step) (s : Step) (rest own : List ℕ) → AreListed ps side steps rest → IsListed ps side s own
      → AreListed ps side (steps ++ s ∷ []) (own ++ rest)
  push_listed [] s rest own listed here = ([], own, ap (λ (l : List ℕ). own ++ l) listed ∙ append-nil own, refl, here)
  push_listed (x ∷ steps) s rest own listed here = (
    own ++ listed.0,
    listed.1,
    ap (λ (l : List ℕ). own ++ l) listed.2 ∙ sym (append_assoc own listed.0 listed.1),
    push_listed steps s listed.0 own listed.3 here,
    listed.4,
  )

  pub pop_listed : (steps : List Step) (s : Step) (xs : List ℕ) → AreListed ps side (steps ++ s ∷ []) xs
      → (own rest : List ℕ) × (xs ≡ own ++ rest) × IsListed ps side s own × AreListed ps side steps rest
  pop_listed [] s xs listed = (
    listed.1,
    [],
    listed.2 ∙ ap (λ (l : List ℕ). l ++ listed.1) listed.3 ∙ sym (append-nil listed.1),
    listed.4,
    refl,
  )
  pop_listed (x ∷ steps) s xs listed =
      let r = pop_listed steps s listed.0 listed.3 in (
        r.0,
        r.1 ++ listed.1,
        listed.2 ∙ ap (λ (l : List ℕ). l ++ listed.1) r.2 ∙ append_assoc r.0 r.1 listed.1,
        r.3,
        (r.1, listed.1, refl, r.4, listed.4),
      )

three : (steps : List Step) (a b c : Step) → ((steps ++ a ∷ []) ++ b ∷ []) ++ c ∷ [] ≡ steps ++ (a ∷ b ∷ c ∷ [])
three steps a b c = append_assoc (steps ++ a ∷ []) (b ∷ []) (c ∷ []) ∙ append_assoc steps (a ∷ []) (b ∷ c ∷ [])

pub series_listed : (ps : List Position) (side : Side) (steps : List Step) (s_one s_two : Step) (number : ℕ) (one two rest : List ℕ)
    → AreListed ps side steps rest → IsListed ps side s_one one → IsListed ps side s_two two
    → AreListed ps side (steps ++ series_steps side s_one (Own number) s_two) (set_out side one number two ++ rest)
series_listed ps FirstPart steps s_one s_two number one two rest listed is_one is_two =
    let after_two = push_listed ps FirstPart steps s_two rest two listed is_two in
    let after_own = push_listed ps FirstPart (steps ++ s_two ∷ []) (Own number) (two ++ rest) (number ∷ []) after_two refl in
    let after_one =
    push_listed ps FirstPart ((steps ++ s_two ∷ []) ++ Own number ∷ []) s_one (number ∷ (two ++ rest)) one after_own is_one in
    subst (λ (l : List Step). AreListed ps FirstPart l ((one ++ (number ∷ two)) ++ rest)) (three steps s_two (Own number) s_one)
    (subst (AreListed ps FirstPart (((steps ++ s_two ∷ []) ++ Own number ∷ []) ++ s_one ∷ []))
    (sym (append_assoc one (number ∷ two) rest)) after_one)
series_listed ps LastPart steps s_one s_two number one two rest listed is_one is_two =
    let after_one = push_listed ps LastPart steps s_one rest one listed is_one in
    let after_own = push_listed ps LastPart (steps ++ s_one ∷ []) (Own number) (one ++ rest) (number ∷ []) after_one refl in
    let after_two =
    push_listed ps LastPart ((steps ++ s_one ∷ []) ++ Own number ∷ []) s_two (number ∷ (one ++ rest)) two after_own is_two in
    subst (λ (l : List Step). AreListed ps LastPart l ((two ++ (number ∷ one)) ++ rest)) (three steps s_one (Own number) s_two)
    (subst (AreListed ps LastPart (((steps ++ s_one ∷ []) ++ Own number ∷ []) ++ s_two ∷ []))
    (sym (append_assoc two (number ∷ one) rest)) after_two)

-- ---- the position at which a term ends, and its tasks

last_position : Term → Position
last_position (hold size) = Hold size
last_position (series a v b) = at_task v
last_position (par ts) = Par (count ts)

front : Term → List Position
front (hold size) = []
front (series a v b) = postfix a ++ postfix b
front (par ts) = all_postfix ts

fronted : (t : Term) → postfix t ≡ front t ++ last_position t ∷ []
unfolding front last_position
fronted (hold size) = refl
fronted (series a v b) = sym (append_assoc (postfix a) (postfix b) (at_task v ∷ []))
fronted (par ts) = refl

mutual
  pub tasks_of_postfix : (t : Term) → tasks_among (postfix t) ≡ task_count t
  tasks_of_postfix (hold size) = refl
  tasks_of_postfix (series a v b) =
      omega (
        arith,
        sum_by-append added_tasks (postfix a) (postfix b ++ at_task v ∷ []),
        sum_by-append added_tasks (postfix b) (at_task v ∷ []),
        tasks_of_postfix a,
        tasks_of_postfix b,
      )
  tasks_of_postfix (par ts) = omega (arith, sum_by-append added_tasks (all_postfix ts) (Par (count ts) ∷ []), tasks_of_all ts)

  pub tasks_of_all : (ts : Parts) → tasks_among (all_postfix ts) ≡ task_count_of_parts ts
  tasks_of_all no_parts = refl
  tasks_of_all (part t ts) = omega (arith, sum_by-append added_tasks (postfix t) (all_postfix ts), tasks_of_postfix t, tasks_of_all ts)

module _ (ps before : List Position) (t : Term) (after : List Position) (split : ps ≡ before ++ (postfix t ++ after)) where
  pub within : length before + width_of t ≤ length ps
  within =
      omega (
        arith,
        ap (λ (l : List Position). length l) split,
        length-append before (postfix t ++ after),
        length-append (postfix t) after,
        length-postfix t,
      )

  pub taken : take (length before + width_of t) ps ≡ before ++ postfix t
  taken =
      ap (take (length before + width_of t)) (split ∙ sym (append_assoc before (postfix t) after))
      ∙ take_at (before ++ postfix t) after (length before + width_of t)
      (omega (arith, length-append before (postfix t), length-postfix t))

  pub counted : tasks_among (take (length before + width_of t) ps) ≡ tasks_among before + task_count t
  counted = ap tasks_among taken ∙ omega (arith, sum_by-append added_tasks before (postfix t), tasks_of_postfix t)

  position_at : (d : Position) → get_or ps (length before + width_of t - 1) d ≡ last_position t
  position_at d =
      let one = ap (λ (l : List Position). length l) (fronted t) in
      let len : length before + width_of t - 1 ≡ length (before ++ front t) =
      omega (arith, one, length-append before (front t), length-append (front t) (last_position t ∷ []), length-postfix t) in
      let cut : ps ≡ (before ++ front t) ++ last_position t ∷ after =
      split ∙ ap (λ (l : List Position). before ++ (l ++ after)) (fronted t)
      ∙ ap (λ (l : List Position). before ++ l) (append_assoc (front t) (last_position t ∷ []) after)
      ∙ sym (append_assoc before (front t) (last_position t ∷ after)) in
      ap (λ (i : ℕ). get_or ps i d) len ∙ ap (λ (l : List Position). get_or l (length (before ++ front t)) d) cut
      ∙ get_or-append_seam (before ++ front t) (last_position t) after d

  -- the term that the positions up to there leave
  pub term_there : IsTerms ps → term_at ps (length before + width_of t - 1) ≡ t
  term_there terms =
      let some = some-position t in
      let index : suc (length before + width_of t - 1) ≡ length before + width_of t = omega (arith, some) in
      let (stack, is, on) = prefix before (postfix t ++ after) (term_of ps ∷ [])
      (ap (λ (l : List Position). push_all l []) (sym split) ∙ terms.is) in
      let left = push_then before (postfix t) [] stack is
      ∙ ap (λ (l : List Position). push_all l stack) (sym (append-nil (postfix t))) ∙ push-postfix t [] stack in
      ap (λ (n : ℕ). term_of (take n ps)) index ∙ ap term_of taken ∙ ap (λ o. last_term (stack_from o)) left

-- ---- the steps of a term

module _ (ps : List Position) (side : Side) (start end : ℕ) where
  pub term_sized : (xs : List ℕ) → TermHere ps side start end xs → (start < end) × (end ≤ length ps)
  term_sized xs here = (
    omega (arith, here.start_is, here.end_is, some-position here.term),
    omega (arith, here.end_is, within ps here.before here.term here.after here.split),
  )

  position_here : (xs : List ℕ) (here : TermHere ps side start end xs) (d : Position) → get_or ps (end - 1) d ≡ last_position here.term
  position_here xs here d =
      ap (λ (n : ℕ). get_or ps (n - 1) d) here.end_is ∙ position_at ps here.before here.term here.after here.split d

  -- a data item lists nothing
  nothing : (base size : ℕ) (t : Term) → last_position t ≡ Hold size → walk side base t ≡ []
  unfolding last_position
  nothing base size (hold s) e = refl
  nothing base size (series a v b) e = absurd cc
  nothing base size (par ts) e = absurd cc

  pub open_hold : (xs : List ℕ) (size : ℕ) (d : Position) → TermHere ps side start end xs → get_or ps (end - 1) d ≡ Hold size → xs ≡ []
  open_hold xs size d here e =
      here.list_is ∙ nothing (1 + tasks_among here.before) size here.term (sym (position_here xs here d) ∙ e)

  -- parts side by side
  beside_here : (before : List Position) (t : Term) (after : List Position) (xs : List ℕ) (k : ℕ)
      → ps ≡ before ++ (postfix t ++ after) → start ≡ length before → end ≡ length before + width_of t
      → xs ≡ walk side (1 + tasks_among before) t → last_position t ≡ Par k → PartsHere ps side start (end - 1) xs
  unfolding last_position
  beside_here before (hold size) after xs k split start_is end_is list_is e = absurd cc
  beside_here before (series a v b) after xs k split start_is end_is list_is e = absurd cc
  beside_here before (par ts) after xs k split start_is end_is list_is e = record {
    before = before;
    parts = ts;
    after = Par (count ts) ∷ after;
    split = split ∙ ap (λ (l : List Position). before ++ l) (append_assoc (all_postfix ts) (Par (count ts) ∷ []) after);
    start_is = start_is;
    end_is = omega arith;
    list_is = list_is;
  }

  pub open_par : (xs : List ℕ) (k : ℕ) (d : Position) → TermHere ps side start end xs → get_or ps (end - 1) d ≡ Par k
      → PartsHere ps side start (end - 1) xs
  open_par xs k d here e =
      beside_here here.before here.term here.after xs k here.split here.start_is here.end_is here.list_is
      (sym (position_here xs here d) ∙ e)

  -- a series
  pub record SeriesHere (xs : List ℕ) (middle number : ℕ) : Type 0 where
    pub one : List ℕ
    pub two : List ℕ
    pub list_is : xs ≡ set_out side one number two
    pub first_here : TermHere ps side start middle one
    pub second_here : TermHere ps side middle (end - 1) two

  module _ (starts counts : List ℕ) (are_starts : AreStarts ps starts) (are_counts : AreCounts ps counts) where
    series_here : (before : List Position) (t : Term) (after : List Position) (xs : List ℕ)
        → ps ≡ before ++ (postfix t ++ after) → start ≡ length before → end ≡ length before + width_of t
        → xs ≡ walk side (1 + tasks_among before) t → IsTaskPosition (last_position t)
        → SeriesHere xs (get_or starts (end - 1) 0) (get_or counts end 0)
    unfolding last_position
    series_here before (hold size) after xs split start_is end_is list_is task = absurd task
    series_here before (par ts) after xs split start_is end_is list_is task = absurd task
    series_here before (series a v b) after xs split start_is end_is list_is task =
        let base = 1 + tasks_among before in
        let rest = at_task v ∷ after in
        let cut : ps ≡ before ++ (postfix a ++ (postfix b ++ rest)) =
        split ∙ ap (λ (l : List Position). before ++ l) (append_assoc (postfix a) (postfix b ++ at_task v ∷ []) after)
        ∙ ap (λ (l : List Position). before ++ (postfix a ++ l)) (append_assoc (postfix b) (at_task v ∷ []) after) in
        let cut_two : ps ≡ (before ++ postfix a) ++ (postfix b ++ rest) = cut ∙ sym (append_assoc before (postfix a) (postfix b ++ rest)) in
        let len : length (before ++ postfix a) ≡ length before + width_of a =
        omega (arith, length-append before (postfix a), length-postfix a) in
        let end_two : end - 1 ≡ length (before ++ postfix a) + width_of b = omega (arith, len, end_is) in
        let middle_is : get_or starts (end - 1) 0 ≡ length (before ++ postfix a) =
        ap (λ (n : ℕ). get_or starts n 0) end_two ∙ are_starts (before ++ postfix a) b rest cut_two in
        let number_is : get_or counts end 0 ≡ own_number base a b =
        ap (λ (n : ℕ). get_or counts n 0) end_is ∙ are_counts before (series a v b) after split ∙ omega arith in
        let base_two : base + task_count a ≡ 1 + tasks_among (before ++ postfix a) =
        omega (arith, sum_by-append added_tasks before (postfix a), tasks_of_postfix a) in
        record {
          one = walk side base a;
          two = walk side (base + task_count a) b;
          list_is = list_is ∙ ap (λ (n : ℕ). set_out side (walk side base a) n (walk side (base + task_count a) b)) (sym number_is);
          first_here = record {
            before = before;
            term = a;
            after = postfix b ++ rest;
            split = cut;
            start_is = start_is;
            end_is = middle_is ∙ len;
            list_is = refl;
          };
          second_here = record {
            before = before ++ postfix a;
            term = b;
            after = rest;
            split = cut_two;
            start_is = middle_is;
            end_is = end_two;
            list_is = ap (λ (n : ℕ). walk side n b) base_two;
          };
        }

    pub open_series : (xs : List ℕ) (d : Position) → TermHere ps side start end xs → IsTaskPosition (get_or ps (end - 1) d)
        → SeriesHere xs (get_or starts (end - 1) 0) (get_or counts end 0)
    open_series xs d here task =
        series_here here.before here.term here.after xs here.split here.start_is here.end_is here.list_is
        (subst IsTaskPosition (position_here xs here d) task)

-- ---- the last of terms side by side

record LastOf (ts : Parts) : Type 0 where
  others : Parts
  last : Term
  postfix_is : all_postfix ts ≡ all_postfix others ++ postfix last
  width_is : width_of_parts ts ≡ width_of_parts others + width_of last
  walk_is : (side : Side) (base : ℕ) → walks side base ts ≡ walks side base others ++ walk side (base + task_count_of_parts others) last

last_of : (t : Term) (ts : Parts) → LastOf (part t ts)
last_of t no_parts = record {
  others = no_parts;
  last = t;
  postfix_is = append-nil (postfix t);
  width_is = omega arith;
  walk_is = λ side base. append-nil (walk side base t) ∙ ap (λ (n : ℕ). walk side n t) (plus_zero base);
}
  where
    plus_zero : (n : ℕ) → n ≡ n + 0
    plus_zero n = omega arith
last_of t (part u us) =
    let r = last_of u us in
    record {
      others = part t r.others;
      last = r.last;
      postfix_is = ap (λ (l : List Position). postfix t ++ l) r.postfix_is
          ∙ sym (append_assoc (postfix t) (all_postfix r.others) (postfix r.last));
      width_is = omega (arith, r.width_is);
      walk_is = λ side base.
          ap (λ (l : List ℕ). walk side base t ++ l) (r.walk_is side (base + task_count t))
          ∙ sym (append_assoc (walk side base t) (walks side (base + task_count t) r.others)
          (walk side (base + task_count t + task_count_of_parts r.others) r.last))
          ∙ ap (λ (n : ℕ). (walk side base t ++ walks side (base + task_count t) r.others) ++ walk side n r.last)
          (plus base (task_count t) (task_count_of_parts r.others));
    }
  where
    plus : (a b c : ℕ) → a + b + c ≡ a + (b + c)
    plus a b c = omega arith

module _ (ps : List Position) (side : Side) (start end : ℕ) where
  pub record BesideHere (xs : List ℕ) (middle : ℕ) : Type 0 where
    pub one : List ℕ
    pub two : List ℕ
    pub list_is : xs ≡ one ++ two
    pub first_here : PartsHere ps side start middle one
    pub second_here : TermHere ps side middle end two
    pub sized : start ≤ middle

  module _ (starts : List ℕ) (are_starts : AreStarts ps starts) (some : start < end) where
    beside_is : (before : List Position) (ts : Parts) (after : List Position) (xs : List ℕ)
        → ps ≡ before ++ (all_postfix ts ++ after) → start ≡ length before → end ≡ length before + width_of_parts ts
        → xs ≡ walks side (1 + tasks_among before) ts → BesideHere xs (get_or starts end 0)
    beside_is before no_parts after xs split start_is end_is list_is = absurd (omega arith)
    beside_is before (part t ts) after xs split start_is end_is list_is =
        let r = last_of t ts in
        let base = 1 + tasks_among before in
        let cut : ps ≡ before ++ (all_postfix r.others ++ (postfix r.last ++ after)) =
        split ∙ ap (λ (l : List Position). before ++ (l ++ after)) r.postfix_is
        ∙ ap (λ (l : List Position). before ++ l) (append_assoc (all_postfix r.others) (postfix r.last) after) in
        let cut_two = cut ∙ sym (append_assoc before (all_postfix r.others) (postfix r.last ++ after)) in
        let len : length (before ++ all_postfix r.others) ≡ length before + width_of_parts r.others =
        omega (arith, length-append before (all_postfix r.others), length-all_postfix r.others) in
        let end_two : end ≡ length (before ++ all_postfix r.others) + width_of r.last = omega (arith, len, end_is, r.width_is) in
        let middle_is : get_or starts end 0 ≡ length (before ++ all_postfix r.others) =
        ap (λ (n : ℕ). get_or starts n 0) end_two ∙ are_starts (before ++ all_postfix r.others) r.last after cut_two in
        let base_two : base + task_count_of_parts r.others ≡ 1 + tasks_among (before ++ all_postfix r.others) =
        omega (arith, sum_by-append added_tasks before (all_postfix r.others), tasks_of_all r.others) in
        record {
          one = walks side base r.others;
          two = walk side (base + task_count_of_parts r.others) r.last;
          list_is = list_is ∙ r.walk_is side base;
          first_here = record {
            before = before;
            parts = r.others;
            after = postfix r.last ++ after;
            split = cut;
            start_is = start_is;
            end_is = middle_is ∙ len;
            list_is = refl;
          };
          second_here = record {
            before = before ++ all_postfix r.others;
            term = r.last;
            after = after;
            split = cut_two;
            start_is = middle_is;
            end_is = end_two;
            list_is = ap (λ (n : ℕ). walk side n r.last) base_two;
          };
          sized = omega (arith, middle_is, len, start_is);
        }

    pub open_beside : (xs : List ℕ) → PartsHere ps side start end xs → BesideHere xs (get_or starts end 0)
    open_beside xs here = beside_is here.before here.parts here.after xs here.split here.start_is here.end_is here.list_is

  -- no terms list nothing
  none_here : (base : ℕ) (ts : Parts) → width_of_parts ts ≡ 0 → walks side base ts ≡ []
  none_here base no_parts e = refl
  none_here base (part t ts) e = absurd (omega (arith, e, some-position t))

  pub open_none : (xs : List ℕ) → end ≤ start → PartsHere ps side start end xs → xs ≡ []
  open_none xs le here =
      here.list_is ∙ none_here (1 + tasks_among here.before) here.parts (omega (arith, here.start_is, here.end_is))

  pub parts_within : (xs : List ℕ) → PartsHere ps side start end xs → (start ≤ end) × (end ≤ length ps)
  parts_within xs here = (
    omega (arith, here.start_is, here.end_is),
    omega (
      arith,
      here.end_is,
      ap (λ (l : List Position). length l) here.split,
      length-append here.before (all_postfix here.parts ++ here.after),
      length-append (all_postfix here.parts) here.after,
      length-all_postfix here.parts,
    ),
  )

-- ---- the whole

pub whole_here : (ps : List Position) (side : Side) → IsTerms ps → TermHere ps side 0 (length ps) (walk side 1 (term_of ps))
whole_here ps side terms =
    let whole : ps ≡ postfix (term_of ps) = all_pushed ps [] (term_of ps ∷ []) terms.is in
    record {
      before = [];
      term = term_of ps;
      after = [];
      split = whole ∙ sym (append-nil (postfix (term_of ps)));
      start_is = refl;
      end_is = ap (λ (l : List Position). length l) whole ∙ length-postfix (term_of ps) ∙ omega arith;
      list_is = refl;
    }

-- ---- the orders

mutual
  pub listed_first : (base : ℕ) (t : Term) → walk FirstPart base t ≡ order_of FirstPart base t
  listed_first base (hold size) = refl
  listed_first base (series a v b) =
      ap (λ (l : List ℕ). l ++ (own_number base a b ∷ walk FirstPart (base + task_count a) b)) (listed_first base a)
      ∙ ap (λ (l : List ℕ). order_of FirstPart base a ++ (own_number base a b ∷ l)) (listed_first (base + task_count a) b)
  listed_first base (par ts) = all_first base ts

  all_first : (base : ℕ) (ts : Parts) → walks FirstPart base ts ≡ order_of_parts FirstPart base ts
  all_first base no_parts = refl
  all_first base (part t ts) =
      ap (λ (l : List ℕ). l ++ walks FirstPart (base + task_count t) ts) (listed_first base t)
      ∙ ap (λ (l : List ℕ). order_of FirstPart base t ++ l) (all_first (base + task_count t) ts)

mutual
  pub listed_last : (base : ℕ) (t : Term) → reverse (walk LastPart base t) ≡ order_of LastPart base t
  listed_last base (hold size) = refl
  listed_last base (series a v b) =
      let own = own_number base a b in
      let one = walk LastPart base a in
      let two = walk LastPart (base + task_count a) b in
      reverse-append two (own ∷ one)
      ∙ ap (λ (l : List ℕ). l ++ reverse two) (reverse-append (own ∷ []) one)
      ∙ append_assoc (reverse one) (own ∷ []) (reverse two)
      ∙ ap (λ (l : List ℕ). l ++ (own ∷ reverse two)) (listed_last base a)
      ∙ ap (λ (l : List ℕ). order_of LastPart base a ++ (own ∷ l)) (listed_last (base + task_count a) b)
  listed_last base (par ts) = all_last base ts

  all_last : (base : ℕ) (ts : Parts) → reverse (walks LastPart base ts) ≡ order_of_parts LastPart base ts
  all_last base no_parts = refl
  all_last base (part t ts) =
      reverse-append (walk LastPart base t) (walks LastPart (base + task_count t) ts)
      ∙ ap (λ (l : List ℕ). l ++ reverse (walk LastPart base t)) (all_last (base + task_count t) ts)
      ∙ ap (λ (l : List ℕ). order_of_parts LastPart (base + task_count t) ts ++ l) (listed_last base t)

-- ---- weights

pub series_less : (side : Side) (steps : List Step) (start middle end number : ℕ) → start < middle → middle < end - 1
    → sum_by weight (steps ++ series_steps side (Open start middle) (Own number) (Open middle (end - 1))) + 2
    ≤ sum_by weight steps + 4 * (end - start)
series_less FirstPart steps start middle end number early late =
    omega (
      arith,
      sum_by-append weight steps (Open middle (end - 1) ∷ Own number ∷ Open start middle ∷ []),
      sum_by-cons weight (Open middle (end - 1)) (Own number ∷ Open start middle ∷ []),
      sum_by-cons weight (Own number) (Open start middle ∷ []),
      sum_by-cons weight (Open start middle) [],
    )
series_less LastPart steps start middle end number early late =
    omega (
      arith,
      sum_by-append weight steps (Open start middle ∷ Own number ∷ Open middle (end - 1) ∷ []),
      sum_by-cons weight (Open start middle) (Own number ∷ Open middle (end - 1) ∷ []),
      sum_by-cons weight (Own number) (Open middle (end - 1) ∷ []),
      sum_by-cons weight (Open middle (end - 1)) [],
    )

-- ---- as the code holds them

pub popped : (ps : List Position) (side : Side) (old new : List Step) (s t : Step) (xs : List ℕ) → old ≡ new ++ s ∷ [] → s ≡ t
    → AreListed ps side old xs → (own rest : List ℕ) × (xs ≡ own ++ rest) × IsListed ps side t own × AreListed ps side new rest
popped ps side old new s t xs old_is same listed =
    pop_listed ps side new t xs
    (subst (λ (u : Step). AreListed ps side (new ++ u ∷ []) xs) same
    (subst (λ (l : List Step). AreListed ps side l xs) old_is listed))

pub begun : (ps : List Position) (side : Side) (steps : List Step) → IsTerms ps → steps ≡ Open 0 (length ps) ∷ []
    → AreListed ps side steps (walk side 1 (term_of ps))
begun ps side steps terms is =
    subst (λ (l : List Step). AreListed ps side l (walk side 1 (term_of ps))) (sym is)
    ([], walk side 1 (term_of ps), refl, refl, whole_here ps side terms)

pub in_order : (side : Side) (t : Term) → side ≡ FirstPart → walk side 1 t ≡ order_of side 1 t
in_order side t is = subst (λ (s : Side). walk s 1 t ≡ order_of s 1 t) (sym is) (listed_first 1 t)

pub in_reverse : (side : Side) (t : Term) → side ≡ LastPart → reverse (walk side 1 t) ≡ order_of side 1 t
in_reverse side t is = subst (λ (s : Side). reverse (walk s 1 t) ≡ order_of s 1 t) (sym is) (listed_last 1 t)
