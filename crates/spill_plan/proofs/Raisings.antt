-- One item is raised: which it is, and what stays right.
use Rattle.std.proofs.Common.{◌≡◌, ◌≢◌, ℕ, ◌+◌, ◌-◌, ◌<◌, ◌≤◌, inl, inr, true, false, cond}
use Rattle.std.proofs.Common.{sym, subst, ap, arith, ◌∙◌, List, length, get_or, set, min}
use Rattle.std.specs.Prelude.{nat_eq, slice_index}
use Rattle.std.proofs.lemmas.Bool.{cases_Bool, cases_eq, ne_eqb, true≢false}
use Rattle.std.proofs.lemmas.List.{get_or-set_same, get_or-set_other, length-set}
use Rattle.spill_plan.specs.declared.span.Span.{Span}
use Rattle.spill_plan.specs.Spans.{no_span, span_at, AreItemSpans, is_across, kept_at}
use Rattle.spill_plan.specs.Spilled.{IsEndRanking, AreStartsByRank, left_at, AreLeftAt, IsRaising}
use Rattle.min_tree.specs.Least.{greatest, IsFirstAtMost}
use Rattle.spill_plan.proofs.SpanSums.{split, across-is, across-yes, cond-yes, cond-no, sum-change, sum-none, term-le}

-- ---- which item is raised

module _ (xs : List Span) (steps : ℕ) (ranks amounts values : List ℕ) (k missing : ℕ) (spans : AreItemSpans xs steps)
    (ranking : IsEndRanking xs ranks)
    (starts : AreStartsByRank xs ranks amounts values) (some : 0 < missing) (room : missing ≤ kept_at k (slice_index amounts) xs)
    (small : k < greatest) where
  -- not all that is held has been spilled whole
  not_all : ((j : ℕ) → j < length xs → is_across k (span_at xs j) ≡ true → (span_at xs j).size ≤ get_or amounts j 0) → ⊥
  not_all full =
      let e = sum-none (λ i x. cond (is_across k x) (x.size - get_or amounts i 0) 0) xs
      (λ j h. elim (cases_Bool (is_across k (get_or xs j no_span))) [
        | inl held ↦ (let c = cond-yes (is_across k (get_or xs j no_span)) ((get_or xs j no_span).size - get_or amounts j 0) held in omega
            (arith, c, full j h held))
        | inr away ↦ cond-no (is_across k (get_or xs j no_span)) ((get_or xs j no_span).size - get_or amounts j 0) away
      ]) in
      omega (arith, e, room, some)

  full_at : (s : ℕ) → s < length xs → k < get_or values s 0 → is_across k (span_at xs (get_or ranks s 0)) ≡ true
      → (span_at xs (get_or ranks s 0)).size ≤ get_or amounts (get_or ranks s 0) 0
  full_at s h great held = split (span_at xs (get_or ranks s 0)).size (get_or amounts (get_or ranks s 0) 0) (λ l. l)
      (λ l. absurd (omega (arith, great, starts.left s h l, (across-is k (span_at xs (get_or ranks s 0)) held).start)))

  pub none_found : ((r : ℕ) → r < length values → k < get_or values r 0) → ⊥
  none_found great = not_all (λ j h held.
      let (s, l, e) = ranking.onto j h in
      subst (λ z. (span_at xs z).size ≤ get_or amounts z 0) e (full_at s l (great s (omega (arith, starts.len)))
      (subst (λ z. is_across k (span_at xs z) ≡ true) (sym e) held)))

  module _ (r : ℕ) (within : r < length values) (low : get_or values r 0 ≤ k) (first : (s : ℕ) → s < r → k < get_or values s 0) where
    pub rank_in : r < length xs
    rank_in = omega (arith, starts.len)

    i : ℕ
    i = get_or ranks r 0

    pub item_in : get_or ranks r 0 < length xs
    item_in = ranking.within r rank_in

    pub has_room : get_or amounts (get_or ranks r 0) 0 < (span_at xs (get_or ranks r 0)).size
    has_room = split (span_at xs (get_or ranks r 0)).size (get_or amounts (get_or ranks r 0) 0)
        (λ l. absurd (omega (arith, starts.full r rank_in l))) (λ l. l)

    pub late_full : (j : ℕ) → j < length xs → is_across k (span_at xs j) ≡ true → (span_at xs (get_or ranks r 0)).end < (span_at xs j).end
        → (span_at xs j).size ≤ get_or amounts j 0
    late_full j h held later =
        let (s, l, e) = ranking.onto j h in
        let early : s < r = split r s (λ m. absurd (omega (arith, ranking.falling r s m l, ap (λ z. (span_at xs z).end) e))) (λ m. m) in
        subst (λ z. (span_at xs z).size ≤ get_or amounts z 0) e
        (full_at s l (first s early) (subst (λ z. is_across k (span_at xs z) ≡ true) (sym e) held))

    pub held_now : is_across k (span_at xs (get_or ranks r 0)) ≡ true
    held_now = across-yes k (span_at xs (get_or ranks r 0)) (omega (arith, starts.left r rank_in has_room))
        (split (span_at xs (get_or ranks r 0)).end k
        (λ ended. absurd (not_all (λ j h held. late_full j h held (omega (arith, (across-is k (span_at xs j) held).end)))))
        (λ m. m))

-- ---- what stays right

module _ (xs : List Span) (amounts : List ℕ) (i part : ℕ) (len : length amounts ≡ length xs) (inside : i < length xs)
    (fits : part + get_or amounts i 0 ≤ (span_at xs i).size) where
  here : get_or (set amounts i (get_or amounts i 0 + part)) i 0 ≡ get_or amounts i 0 + part
  here = get_or-set_same amounts i (get_or amounts i 0 + part) 0 (omega (arith, len, inside))

  there : (j : ℕ) → j ≢ i → get_or (set amounts i (get_or amounts i 0 + part)) j 0 ≡ get_or amounts j 0
  there j ne = get_or-set_other amounts i j (get_or amounts i 0 + part) 0 ne

  pub raised_kept : (k : ℕ) → is_across k (span_at xs i) ≡ true
      → kept_at k (slice_index (set amounts i (get_or amounts i 0 + part))) xs + part ≡ kept_at k (slice_index amounts) xs
  raised_kept k held =
      let is = set amounts i (get_or amounts i 0 + part) in
      let f : ℕ → Span → ℕ = λ j x. cond (is_across k x) (x.size - get_or is j 0) 0 in
      let g : ℕ → Span → ℕ = λ j x. cond (is_across k x) (x.size - get_or amounts j 0) 0 in
      let e = sum-change f g xs i inside (λ j h ne. ap (λ n. cond (is_across k (get_or xs j no_span)) ((get_or xs j no_span).size - n) 0)
      (there j ne)) in
      omega (
        arith,
        e,
        here,
        fits,
        cond-yes (is_across k (get_or xs i no_span))
            ((get_or xs i no_span).size - get_or is i 0) held,
        cond-yes (is_across k (get_or xs i no_span))
            ((get_or xs i no_span).size - get_or amounts i 0) held,
      )

  pub left_fits : (leaving : List ℕ) → AreLeftAt xs amounts leaving → (span_at xs i).end < length leaving → part
      ≤ get_or leaving (span_at xs i).end 0
  left_fits leaving left w =
      let e = (span_at xs i).end in
      let g : ℕ → Span → ℕ = λ j x. cond (nat_eq x.end e) (x.size - get_or amounts j 0) 0 in
      let same : nat_eq e e ≡ true = grind arith in
      omega (arith, left e w, term-le g xs i inside, cond-yes (nat_eq e e) ((get_or xs i no_span).size - get_or amounts i 0) same, fits)

  pub raised_left : (leaving : List ℕ) → AreLeftAt xs amounts leaving → (span_at xs i).end < length leaving
      → AreLeftAt xs (set amounts i (get_or amounts i 0 + part))
      (set leaving (span_at xs i).end (get_or leaving (span_at xs i).end 0 - part))
  raised_left leaving left w e h =
      let is = set amounts i (get_or amounts i 0 + part) in
      let end = (span_at xs i).end in
      let f : ℕ → Span → ℕ = λ j x. cond (nat_eq x.end e) (x.size - get_or is j 0) 0 in
      let g : ℕ → Span → ℕ = λ j x. cond (nat_eq x.end e) (x.size - get_or amounts j 0) 0 in
      let changed = sum-change f g xs i inside
      (λ j l ne. ap (λ n. cond (nat_eq (get_or xs j no_span).end e) ((get_or xs j no_span).size - n) 0) (there j ne)) in
      let room : e < length leaving = omega (arith, length-set leaving end (get_or leaving end 0 - part)) in
      elim (cases_eq e end) [
        | inl same ↦ (
            let yes : nat_eq end e ≡ true = rw same (grind arith) in
            let written : get_or (set leaving end (get_or leaving end 0 - part)) e 0
            ≡ get_or leaving end 0 - part = rw same (get_or-set_same leaving end (get_or leaving end 0 - part) 0 w) in
            let was : get_or leaving end 0 ≡ left_at e (slice_index amounts) xs = subst
            (λ z. get_or leaving z 0 ≡ left_at e (slice_index amounts) xs) same (left e room) in
            omega (
              arith,
              written,
              was,
              changed,
              here,
              fits,
              cond-yes (nat_eq end e)
                  ((get_or xs i no_span).size - get_or is i 0) yes,
              cond-yes (nat_eq end e)
                  ((get_or xs i no_span).size - get_or amounts i 0) yes,
            )
            )
        | inr other ↦ (
            let no : nat_eq end e ≡ false = ne_eqb end e (λ z. other (sym z)) in
            let kept = get_or-set_other leaving end e (get_or leaving end 0 - part) 0 other in
            omega (
              arith,
              kept,
              left e room,
              changed,
              cond-no (nat_eq end e) ((get_or xs i no_span).size - get_or is i 0) no,
              cond-no
                  (nat_eq end e) ((get_or xs i no_span).size - get_or amounts i 0) no,
            )
            )
      ]

  pub raised_more : (k spilled turn : ℕ) (was : ℕ → ℕ) → is_across k (span_at xs i) ≡ true → get_or amounts i 0 < (span_at xs i).size
      → ((j : ℕ) → j < length xs → is_across k (span_at xs j) ≡ true → (span_at xs i).end < (span_at xs j).end → (span_at xs j).size
      ≤ get_or amounts j 0)
      → IsRaising xs k was (slice_index amounts) spilled turn → IsRaising xs k was
      (slice_index (set amounts i (get_or amounts i 0 + part))) (spilled + part) (span_at xs i).end
  raised_more k spilled turn was held room late r =
      let is = set amounts i (get_or amounts i 0 + part) in
      let f : ℕ → Span → ℕ = λ j x. cond (is_across k x) (get_or is j 0) 0 in
      let g : ℕ → Span → ℕ = λ j x. cond (is_across k x) (get_or amounts j 0) 0 in
      let changed = sum-change f g xs i inside (λ j h ne. ap (λ n. cond (is_across k (get_or xs j no_span)) n 0) (there j ne)) in
      let turns : (span_at xs i).end ≤ turn = split (span_at xs i).end turn (λ l. l)
      (λ l. absurd (omega (arith, r.after i inside held l))) in
      record {
        within = λ j h. elim (cases_eq j i) [
          | inl same ↦ subst (λ z. get_or is z 0 ≤ (span_at xs z).size) (sym same) (omega (arith, here, fits))
          | inr other ↦ omega (arith, there j other, r.within j h)
        ];
        more = λ j h. elim (cases_eq j i) [
          | inl same ↦ subst (λ z. was z ≤ get_or is z 0) (sym same) (omega (arith, here, r.more i inside))
          | inr other ↦ omega (arith, there j other, r.more j h)
        ];
        others = λ j h not_held. elim (cases_eq j i) [
          | inl same ↦ absurd (true≢false (sym held ∙ subst (λ z. is_across k (span_at xs z) ≡ false) same not_held))
          | inr other ↦ there j other ∙ r.others j h not_held
        ];
        sum_is = omega (
          arith,
          changed,
          here,
          r.sum_is,
          cond-yes (is_across k (get_or xs i no_span)) (get_or is i 0) held,
          cond-yes
              (is_across k (get_or xs i no_span)) (get_or amounts i 0) held,
        );
        before = λ j h early. elim (cases_eq j i) [
          | inl same ↦ absurd (omega (arith, ap (λ z. (span_at xs z).end) same))
          | inr other ↦ there j other ∙ r.before j h (omega (arith, turns))
        ];
        after = λ j h held_j later. elim (cases_eq j i) [
          | inl same ↦ absurd (omega (arith, ap (λ z. (span_at xs z).end) same))
          | inr other ↦ omega (arith, there j other, late j h held_j later, r.within j h)
        ];
      }

  module _ (ranks values : List ℕ) (r : ℕ) (ranking : IsEndRanking xs ranks) (starts : AreStartsByRank xs ranks amounts values)
      (rank_in : r < length xs) (at : get_or ranks r 0 ≡ i) where
    apart : (s : ℕ) → s < length xs → s ≢ r → get_or ranks s 0 ≢ i
    apart s h ne e = ne (ranking.one s r h rank_in (e ∙ sym at))

    pub raised_starts : part + get_or amounts i 0 < (span_at xs i).size
        → AreStartsByRank xs ranks (set amounts i (get_or amounts i 0 + part)) values
    raised_starts more_left = record {
      len = starts.len;
      left = λ s h less. elim (cases_eq s r) [
        | inl same ↦ starts.left s h (subst (λ z. get_or amounts (get_or ranks z 0) 0 < (span_at xs (get_or ranks z 0)).size) (sym same)
            (subst (λ z. get_or amounts z 0 < (span_at xs z).size) (sym at) (omega arith)))
        | inr other ↦ starts.left s h (omega (arith, there (get_or ranks s 0) (apart s h other)))
      ];
      full = λ s h full. elim (cases_eq s r) [
        | inl same ↦ absurd (let e : get_or ranks s 0 ≡ i = ap (λ z. get_or ranks z 0) same ∙ at in
            let bad = subst (λ z. (span_at xs z).size ≤ get_or (set amounts i (get_or amounts i 0 + part)) z 0) e full in omega
            (arith, bad, here))
        | inr other ↦ starts.full s h (omega (arith, there (get_or ranks s 0) (apart s h other)))
      ];
    }

    pub closed_starts : (span_at xs i).size ≤ part + get_or amounts i 0
        → AreStartsByRank xs ranks (set amounts i (get_or amounts i 0 + part)) (set values r greatest)
    closed_starts none_left =
        let len_v = length-set values r greatest in
        record {
          len = omega (arith, len_v, starts.len);
          left = λ s h less. elim (cases_eq s r) [
            | inl same ↦ absurd (let e : get_or ranks s 0 ≡ i = ap (λ z. get_or ranks z 0) same ∙ at in
                let bad = subst (λ z. get_or (set amounts i (get_or amounts i 0 + part)) z 0 < (span_at xs z).size) e less in omega
                (arith, bad, here))
            | inr other ↦ get_or-set_other values r s greatest 0 other
                ∙ starts.left s h (omega (arith, there (get_or ranks s 0) (apart s h other)))
          ];
          full = λ s h full. elim (cases_eq s r) [
            | inl same ↦ subst (λ z. get_or (set values r greatest) z 0 ≡ greatest) (sym same)
                (get_or-set_same values r greatest 0 (omega (arith, starts.len)))
            | inr other ↦ get_or-set_other values r s greatest 0 other
                ∙ starts.full s h (omega (arith, there (get_or ranks s 0) (apart s h other)))
          ];
        }

-- the item that is raised, all that is known of it
pub record Picked (xs : List Span) (ranks amounts : List ℕ) (k r : ℕ) : Type 0 where
  pub rank_in : r < length xs
  pub item_in : get_or ranks r 0 < length xs
  pub room : get_or amounts (get_or ranks r 0) 0 < (span_at xs (get_or ranks r 0)).size
  pub held : is_across k (span_at xs (get_or ranks r 0)) ≡ true
  pub late : (j : ℕ) → j < length xs → is_across k (span_at xs j) ≡ true → (span_at xs (get_or ranks r 0)).end < (span_at xs j).end
      → (span_at xs j).size ≤ get_or amounts j 0

pub picked : (xs : List Span) (steps : ℕ) (ranks amounts values : List ℕ) (k missing x r : ℕ) → AreItemSpans xs steps
    → IsEndRanking xs ranks → AreStartsByRank xs ranks amounts values → 0 < missing
    → missing ≤ kept_at k (slice_index amounts) xs → k < greatest → x ≡ k → IsFirstAtMost values x r → Picked xs ranks amounts k r
picked xs steps ranks amounts values k missing x r spans ranking starts some room small is f =
    let low : get_or values r 0 ≤ k = omega (arith, f.small) in
    let first : (s : ℕ) → s < r → k < get_or values s 0 = λ s h. omega (arith, f.first s h) in
    record {
      rank_in = rank_in xs steps ranks amounts values k missing spans ranking starts some room small r f.within low first;
      item_in = item_in xs steps ranks amounts values k missing spans ranking starts some room small r f.within low first;
      room = has_room xs steps ranks amounts values k missing spans ranking starts some room small r f.within low first;
      held = held_now xs steps ranks amounts values k missing spans ranking starts some room small r f.within low first;
      late = late_full xs steps ranks amounts values k missing spans ranking starts some room small r f.within low first;
    }

-- ---- all that stays right when it is raised by the lesser of what is left of it and what is missing

pub record IsNext (xs : List Span) (amounts leaving : List ℕ) (k part missing over i : ℕ) (was : ℕ → ℕ) : Type 0 where
  pub raising : (turn : ℕ) × IsRaising xs k was (slice_index (set amounts i (get_or amounts i 0 + part))) (over - (missing - part)) turn
  pub left : AreLeftAt xs (set amounts i (get_or amounts i 0 + part))
      (set leaving (span_at xs i).end (get_or leaving (span_at xs i).end 0 - part))
  pub room : missing - part ≤ kept_at k (slice_index (set amounts i (get_or amounts i 0 + part))) xs
  pub enough : part ≤ get_or leaving (span_at xs i).end 0

pub next_raised : (xs : List Span) (ranks amounts leaving : List ℕ) (k part missing over r : ℕ) (was : ℕ → ℕ)
    → Picked xs ranks amounts k r → length amounts ≡ length xs
    → (span_at xs (get_or ranks r 0)).end < length leaving → part
    ≡ min ((span_at xs (get_or ranks r 0)).size - get_or amounts (get_or ranks r 0) 0) missing → missing ≤ over
    → AreLeftAt xs amounts leaving → missing ≤ kept_at k (slice_index amounts) xs
    → (turn : ℕ) × IsRaising xs k was (slice_index amounts) (over - missing) turn
    → IsNext xs amounts leaving k part missing over (get_or ranks r 0) was
next_raised xs ranks amounts leaving k part missing over r was p len end_in part_is below left room raising =
    let i = get_or ranks r 0 in
    let fits : part + get_or amounts i 0 ≤ (span_at xs i).size = omega (arith, p.room) in
    let more = raised_more xs amounts i part len p.item_in fits k (over - missing) raising.0 was p.held p.room p.late raising.1 in
    let spilled : over - missing + part ≡ over - (missing - part) = omega arith in
    record {
      raising = (
        (span_at xs i).end,
        subst (λ n. IsRaising xs k was (slice_index (set amounts i (get_or amounts i 0 + part))) n
            (span_at xs i).end) spilled more,
      );
      left = raised_left xs amounts i part len p.item_in fits leaving left end_in;
      room = omega (arith, raised_kept xs amounts i part len p.item_in fits k p.held);
      enough = left_fits xs amounts i part len p.item_in fits leaving left end_in;
    }
