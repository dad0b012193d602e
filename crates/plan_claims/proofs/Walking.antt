-- One step of the walk from the last position down.
use Rattle.std.proofs.Common.{◌≡◌, ℕ, zero, suc, ◌+◌, ◌-◌, ◌<◌, ◌≤◌, ◌⊎◌, inl, inr, refl, sym, subst, ap, arith, ◌∙◌}
use Rattle.std.proofs.Common.{List, [], ◌∷◌, ◌++◌, length, get_or, slice_index_or, reverse, map, Option, Some, None}
use Rattle.std.specs.Prelude.{pos, ◌-ℤ◌, ℤ, All, unsigned_abs, IfSome}
use Rattle.std.proofs.lemmas.Bool.Decides.{nat_tests}
use Rattle.std.proofs.lemmas.Grind.{common_steps}
use Rattle.std.proofs.lemmas.Int.{ints}
use Rattle.std.proofs.lemmas.List.{map-append}
use Rattle.std.proofs.lemmas.List.Elements.{All-nil, All-cons}
use Rattle.limits.specs.Limits.{most_total}
use Rattle.hill_valley.specs.Side.{run_profile}
use Rattle.sp_terms.specs.declared.position.Position.{Position}
use Rattle.sp_terms.specs.Places.{parts_of, positions_after, part_positions}
use Rattle.sp_terms.specs.Term.{Term, Direction, width_of, IsAllowed}
use Rattle.sp_terms.specs.Values.{IsTerms, term_of, term_at}
use Rattle.claim_rules.specs.Claims.{Claim as RuleClaim}
use Rattle.claim_rules.specs.Placed.{MeetsAt}
use Rattle.claim_rules.specs.Rules.{MeetsRule}
use Rattle.plans.specs.declared.claim.Claim.{Claim}
use Rattle.plans.specs.Plan.{claim_at, claim_of, IsClaimWithin, RiseFrom, direction_of}
use Rattle.cut_laws.specs.Cuts.{Cut, start_of, side_of}
use Rattle.sp_cuts.specs.Notes.{Noted, cut_at, AreNotesOf}
use Rattle.sp_cuts.specs.Stacks.{total_of}
use Rattle.plan_claims.specs.declared.wanted.Wanted.{Wanted}
use Rattle.plan_claims.specs.Below.{LawsBelow}
use Rattle.plan_claims.specs.Handing.{HasLast, IsHandedDown}
use Rattle.plan_claims.specs.Rows.{row_of}
use Rattle.plan_claims.specs.Walks.{IsLeft, IsRight, AreMet, AreClaimsOf, claims_put}
use Rattle.plan_claims.specs.Wants.{Shows, ShowsIf, AllShow, AreHanded, MeetsIf, claim_if}
use Rattle.plan_claims.proofs.Peaks.{top_within, start_below}
use Rattle.lists.proofs.Orders.{lt_or_le}
use Rattle.plan_claims.proofs.Standing.{row_width, row_width_before, row_width_is, row_whole, index_there}
use Rattle.plan_claims.proofs.Standing.{next_at, next_there, ends_append, ends_length}

-- ---- what is left

show_append : (a b : List Cut) (x y : List (Option Wanted)) → AllShow a x → AllShow b y → AllShow (a ++ b) (x ++ y)
show_append [] b [] y h k = k
show_append [] b (v ∷ x) y h k = absurd h
show_append (c ∷ a) b [] y h k = absurd h
show_append (c ∷ a) b (v ∷ x) y h k = (h.0, show_append a b x y h.1 k)

show_last : (a : List Cut) (c : Cut) (x : List (Option Wanted)) (v : Option Wanted)
    → AllShow (a ++ c ∷ []) (x ++ v ∷ []) → AllShow a x × ShowsIf c v
show_last [] c [] v h = (tt, h.0)
show_last [] c (w ∷ []) v h = absurd h.1
show_last [] c (w ∷ u ∷ x) v h = absurd h.1
show_last (d ∷ []) c [] v h = absurd h.1
show_last (d ∷ e ∷ a) c [] v h = absurd h.1
show_last (d ∷ a) c (w ∷ x) v h = let r = show_last a c x v h.1 in ((h.0, r.0), r.1)

pub show_length : (a : List Cut) (x : List (Option Wanted)) → AllShow a x → length a ≡ length x
show_length [] [] h = refl
show_length [] (v ∷ x) h = absurd h
show_length (c ∷ a) [] h = absurd h
show_length (c ∷ a) (v ∷ x) h = ap suc (show_length a x h.1)

map_length : (xs : List Term) → length (map cut_at xs) ≡ length xs
map_length [] = refl
map_length (t ∷ xs) = ap suc (map_length xs)

-- ---- lists of claims

rise_less : (a b : ℕ) (xs : List Claim) → RiseFrom a xs → b ≤ a → RiseFrom b xs
rise_less a b [] h le = tt
rise_less a b (c ∷ xs) h le = (let l = h.0 in omega arith, h.1)

not_here : (c : Claim) (cs : List Claim) (j : ℕ) → j < c.position → claim_at (c ∷ cs) j ≡ claim_at cs j
not_here c cs j h = grind (arith, nat_tests)

not_there : (c : Claim) (cs : List Claim) (j : ℕ) → c.position < j → claim_at (c ∷ cs) j ≡ claim_at cs j
not_there c cs j h = grind (arith, nat_tests)

is_here : (c : Claim) (cs : List Claim) (j : ℕ) → c.position ≡ j → claim_at (c ∷ cs) j ≡ Some (claim_of c)
is_here c cs j h = grind (arith, nat_tests)

pub claim_low : (n : ℕ) (cs : List Claim) (j : ℕ) → RiseFrom n cs → j ≤ n → claim_at cs j ≡ None
claim_low n [] j h le = refl
claim_low n (c ∷ cs) j h le = let l = h.0 in not_here c cs j (omega arith) ∙ claim_low c.position cs j h.1 (omega arith)

put_claim : (k : ℕ) (w : Option Wanted) (rev : List Claim) → RiseFrom k rev → claim_at (claims_put k w ++ rev) k ≡ claim_if w
put_claim k None rev h = claim_low k rev k h (omega arith)
put_claim k (Some w) rev h = is_here (record { position = k; dir = w.dir; bound = pos w.limit -ℤ pos 1; rest = w.low }) rev k refl

put_other : (k : ℕ) (w : Option Wanted) (rev : List Claim) (j : ℕ) → k < j → claim_at (claims_put k w ++ rev) j ≡ claim_at rev j
put_other k None rev j h = refl
put_other k (Some w) rev j h = not_there (record { position = k; dir = w.dir; bound = pos w.limit -ℤ pos 1; rest = w.low }) rev j h

put_rises : (m : ℕ) (w : Option Wanted) (rev : List Claim) → RiseFrom (suc m) rev → RiseFrom m (claims_put (suc m) w ++ rev)
put_rises m None rev h = rise_less (suc m) m rev h (omega arith)
put_rises m (Some w) rev h = (omega arith, h)

put_length : (k : ℕ) (w : Option Wanted) (rev : List Claim) → length (claims_put k w ++ rev) ≤ length rev + 1
put_length k None rev = omega arith
put_length k (Some w) rev = omega arith

-- ---- ranges

pub record Ranged (w : Wanted) : Type 0 where
  pub limit : w.limit ≤ most_total
  pub low : w.low ≤ most_total

RangedIf : Option Wanted → Type 0
RangedIf None = Unit {0}
RangedIf (Some w) = Ranged w

abs_within : (n : ℕ) → n ≤ most_total → unsigned_abs (pos n -ℤ pos 1) ≤ most_total
abs_within zero h = omega arith
abs_within (suc n) h = less (pos (suc n) -ℤ pos 1) n (omega (arith, ints)) (omega arith)
  where
    less : (z : ℤ) (n : ℕ) → z ≡ pos n → n ≤ most_total → unsigned_abs z ≤ most_total
    less z n e h = subst (λ (y : ℤ). unsigned_abs y ≤ most_total) (sym e) h

module _ (laws : LawsBelow) (t : Term) (allowed : IsAllowed t) (within : total_of t ≤ most_total) where
  pub ranged : (w : Wanted) → Shows (cut_at t) w → Ranged w
  ranged w s =
      let d : Direction = direction_of w.dir in
      let c : Cut = cut_at t in
      let top = top_within laws d t allowed in
      let start = start_below laws d c in
      let b = s.below in
      let l = s.lowest in
      record { limit = omega arith; low = omega (arith, l, (laws.sides.between w.limit (start_of d c) (run_profile (side_of d c))).1) }

  pub limit_within : (w : Wanted) → Shows (cut_at t) w → w.limit ≤ most_total
  limit_within w s = (ranged w s).limit

  ranged_if : (o : Option Wanted) → ShowsIf (cut_at t) o → RangedIf o
  unfolding RangedIf
  ranged_if None s = tt
  ranged_if (Some w) s = ranged w s

put_within : (k : ℕ) (w : Option Wanted) (rev : List Claim) → k ≤ 4294967295
    → RangedIf w → All IsClaimWithin rev → All IsClaimWithin (claims_put k w ++ rev)
unfolding RangedIf
put_within k None rev h r a = a
put_within k (Some w) rev h r a = All-cons IsClaimWithin _ rev (record { position = h; bound = abs_within w.limit r.limit; rest = r.low }) a

-- ---- the step

split_equal : (a b c d : List (Option RuleClaim)) → length a ≡ length c → a ++ b ≡ c ++ d → (a ≡ c) × (b ≡ d)
split_equal [] b [] d n e = (refl, e)
split_equal [] b (y ∷ c) d n e = absurd (omega arith)
split_equal (x ∷ a) b [] d n e = absurd (omega arith)
split_equal (x ∷ a) b (y ∷ c) d n e = let r = split_equal a b c d (omega arith) (tail_same e) in (both (head_same e) r.0, r.1)
  where
    head_same : {x y : Option RuleClaim} {xs ys : List (Option RuleClaim)} → ◌≡◌ {A = List (Option RuleClaim)} (x ∷ xs) (y ∷ ys) → x ≡ y
    head_same e = cc

    tail_same : {x y : Option RuleClaim} {xs ys : List (Option RuleClaim)} → ◌≡◌ {A = List (Option RuleClaim)} (x ∷ xs) (y ∷ ys) → xs ≡ ys
    tail_same e = cc

    both : {x y : Option RuleClaim} {xs ys : List (Option RuleClaim)}
        → x ≡ y → xs ≡ ys → ◌≡◌ {A = List (Option RuleClaim)} (x ∷ xs) (y ∷ ys)
    both p q = λ i. p i ∷ q i

meets_here : (t : Term) (ks : List (Option RuleClaim)) (o : Option RuleClaim) (c : RuleClaim)
    → MeetsIf t ks o → o ≡ Some c → MeetsRule t ks c
meets_here t ks None c h e = absurd (none_some e)
  where
    none_some : {A : Type 0} {x : A} → None ≡ Some x → ⊥
    none_some h = cc
meets_here t ks (Some k) c h e = subst (MeetsRule t ks) (some_same e) h
  where
    some_same : {A : Type 0} {x y : A} → Some x ≡ Some y → x ≡ y
    some_same e = cc

map_lengths : (f : ℕ → Option RuleClaim) (xs : List ℕ) → length (map f xs) ≡ length xs
map_lengths f [] = refl
map_lengths f (x ∷ xs) = ap suc (map_lengths f xs)

claims_lengths : (xs : List (Option Wanted)) → length (map claim_if xs) ≡ length xs
claims_lengths [] = refl
claims_lengths (x ∷ xs) = ap suc (claims_lengths xs)

module _ (laws : LawsBelow) (ps : List Position) (m : ℕ) (terms : IsTerms ps) (few : suc m ≤ length ps) where
  -- the notes and the want of the last term, and those before
  pub record Last (p : Position) (notes : Noted) (w : Option Wanted) : Type 0 where
    pub before : Noted
    pub noted : AreNotesOf ps m before
    pub last : HasLast p (term_at ps m) before notes
    pub shows : ShowsIf (cut_at (term_at ps m)) w

  pub last_of : (p : Position) (notes : Noted) (todo : List (Option Wanted)) (w : Option Wanted)
      → get_or ps m p ≡ p → IsLeft ps (suc m) notes (todo ++ w ∷ []) → Last p notes w
  last_of p notes todo w here l =
      let x = next_at ps m p terms (omega arith) here in
      let t : Term = term_at ps m in
      let (before, own, noted, note, whole) = l.noted in
      let s : AllShow (map cut_at x.before ++ cut_at t ∷ []) (todo ++ w ∷ []) =
      subst (λ (l : List Cut). AllShow l (todo ++ w ∷ [])) (ap (map cut_at) x.now_is ∙ map-append cut_at x.before (t ∷ [])) l.shows in
      record {
        before = before;
        noted = noted;
        last = (x.own, record { own = own; allowed = x.allowed; within = x.within; note = note; whole = whole });
        shows = (show_last (map cut_at x.before) (cut_at t) todo w s).1;
      }

  pub left_on : (before notes' : Noted) (todo ws : List (Option Wanted)) (w : Option Wanted)
      → AllShow (map cut_at (row_of ps (suc m))) (todo ++ w ∷ []) → AreNotesOf ps m before → notes' ≡ before
      → AreHanded (term_at ps m) w ws → IsLeft ps m notes' (todo ++ ws)
  left_on before notes' todo ws w shows noted same h =
      let (p, x) = next_there ps m terms (omega arith) in
      let t : Term = term_at ps m in
      let s : AllShow (map cut_at x.before ++ cut_at t ∷ []) (todo ++ w ∷ []) =
      subst (λ (l : List Cut). AllShow l (todo ++ w ∷ [])) (ap (map cut_at) x.now_is ∙ map-append cut_at x.before (t ∷ [])) shows in
      record {
        noted = subst (AreNotesOf ps m) (sym same) noted;
        shows = subst (λ (l : List Cut). AllShow l (todo ++ ws)) (sym (ap (map cut_at) x.was ∙ map-append cut_at x.before (parts_of t)))
            (show_append (map cut_at x.before) (map cut_at (parts_of t)) todo ws
            (show_last (map cut_at x.before) (cut_at t) todo w s).0 h.all);
      }

  module _ (root : Wanted) (todo ws : List (Option Wanted)) (w : Option Wanted)
      (rev : List Claim) (l : AllShow (map cut_at (row_of ps (suc m))) (todo ++ w ∷ []))
      (h : AreHanded (term_at ps m) w ws) (r : IsRight ps (suc m) root (todo ++ w ∷ []) rev) where
    module _ (f : ℕ → Option RuleClaim) (e : map f (positions_after 0 (row_of ps m)) ≡ map claim_if (todo ++ ws))
        (agree : (j : ℕ) → m < j → f j ≡ claim_at (claims_put (suc m) w ++ rev) j) where
      here : f (suc m) ≡ claim_if w
      here = agree (suc m) (omega arith) ∙ put_claim (suc m) w rev r.rising

      record Split : Type 0 where
        before : List Term
        now_is : row_of ps (suc m) ≡ before ++ term_at ps m ∷ []
        front : map f (positions_after 0 before) ≡ map claim_if todo
        parts : map f (positions_after (row_width before) (parts_of (term_at ps m))) ≡ map claim_if ws

      split : Split
      split =
          let (p, x) = next_there ps m terms (omega arith) in
          let t : Term = term_at ps m in
          let s : AllShow (map cut_at x.before ++ cut_at t ∷ []) (todo ++ w ∷ []) =
          subst (λ (l : List Cut). AllShow l (todo ++ w ∷ [])) (ap (map cut_at) x.now_is ∙ map-append cut_at x.before (t ∷ [])) l in
          let sb = (show_last (map cut_at x.before) (cut_at t) todo w s).0 in
          let zero_more : 0 + row_width x.before ≡ row_width x.before = omega arith in
          let ends : map f (positions_after 0 (row_of ps m))
          ≡ map f (positions_after 0 x.before) ++ map f (positions_after (row_width x.before) (parts_of t)) =
          ap (λ (l : List Term). map f (positions_after 0 l)) x.was ∙ ap (map f) (ends_append 0 x.before (parts_of t))
          ∙ map-append f (positions_after 0 x.before) (positions_after (0 + row_width x.before) (parts_of t))
          ∙ ap (λ (n : ℕ). map f (positions_after 0 x.before) ++ map f (positions_after n (parts_of t))) zero_more in
          let z = split_equal (map f (positions_after 0 x.before))
          (map f (positions_after (row_width x.before) (parts_of t))) (map claim_if todo) (map claim_if ws)
          (omega (
            arith,
            map_lengths f (positions_after 0 x.before),
            ends_length 0 x.before,
            claims_lengths todo,
            show_length (map cut_at x.before) todo sb,
            map_length x.before,
          ))
          (sym ends ∙ e ∙ map-append claim_if todo ws) in
          record { before = x.before; now_is = x.now_is; front = z.0; parts = z.1 }

      wide : (s : Split) → row_width s.before + width_of (term_at ps m) ≡ suc m
      wide s = sym (row_width_before s.before (term_at ps m)) ∙ ap row_width (sym s.now_is) ∙ row_width_is ps (suc m) terms few

      before_it : map f (positions_after 0 (row_of ps (suc m))) ≡ map claim_if (todo ++ w ∷ [])
      before_it =
          let s = split in
          let t : Term = term_at ps m in
          let at : (0 + row_width s.before) + width_of t ≡ suc m = omega (arith, wide s) in
          ap (λ (l : List Term). map f (positions_after 0 l)) s.now_is ∙ ap (map f) (ends_append 0 s.before (t ∷ []))
          ∙ map-append f (positions_after 0 s.before) (positions_after (0 + row_width s.before) (t ∷ []))
          ∙ ap (λ (n : ℕ). map f (positions_after 0 s.before) ++ f n ∷ []) at ∙ ap
          (λ (o : Option RuleClaim). map f (positions_after 0 s.before) ++ o ∷ []) here
          ∙ ap (λ (l : List (Option RuleClaim)). l ++ claim_if w ∷ []) s.front ∙ sym (map-append claim_if todo (w ∷ []))

      met : AreMet ps (suc m) root f
      met = r.whatever f before_it (λ j lt. agree j (omega arith) ∙ put_other (suc m) w rev j lt)

      meets_it : (c : RuleClaim) → f (suc m) ≡ Some c → MeetsAt ps f (suc m) c
      meets_it c is =
          let s = split in
          let t : Term = term_at ps m in
          let x : MeetsRule t (map f (positions_after (row_width s.before) (parts_of t))) c =
          subst (λ (ks : List (Option RuleClaim)). MeetsRule t ks c) (sym s.parts)
          (meets_here t (map claim_if ws) (claim_if w) c h.meets (sym here ∙ is)) in
          let start : row_width s.before ≡ suc m - width_of t = omega (arith, wide s) in
          let y : MeetsRule t (map f (part_positions (suc m) t)) c =
          subst (λ (n : ℕ). MeetsRule t (map f (positions_after n (parts_of t))) c) start x in
          let one : m ≡ suc m - 1 = omega arith in
          subst (λ (n : ℕ). MeetsRule (term_at ps n) (map f (part_positions (suc m) (term_at ps n))) c) one y

      all_met : AreMet ps m root f
      all_met = record { root_is = met.root_is; meet = λ j c lt le is. by_case j c lt le is (lt_or_le (suc m) j) }
        where
          by_case : (j : ℕ) (c : RuleClaim) → m < j → j ≤ length ps → f j ≡ Some c → (suc m < j) ⊎ (j ≤ suc m) → MeetsAt ps f j c
          by_case j c lt le is (inl more) = met.meet j c more le is
          by_case j c lt le is (inr less) =
              let same : suc m ≡ j = omega arith in
              subst (λ (n : ℕ). MeetsAt ps f n c) same (meets_it c (ap f same ∙ is))

    pub right_on : IsRight ps m root (todo ++ ws) (claims_put (suc m) w ++ rev)
    right_on =
        let (p, x) = next_there ps m terms (omega arith) in
        let t : Term = term_at ps m in
        let s : AllShow (map cut_at x.before ++ cut_at t ∷ []) (todo ++ w ∷ []) =
        subst (λ (l : List Cut). AllShow l (todo ++ w ∷ [])) (ap (map cut_at) x.now_is ∙ map-append cut_at x.before (t ∷ [])) l in
        let many = terms.few in
        let n = r.few in
        record {
          few = let q = put_length (suc m) w rev in omega arith;
          within = put_within (suc m) w rev (omega arith)
              (ranged_if laws t x.allowed x.within w (show_last (map cut_at x.before) (cut_at t) todo w s).1) r.within;
          rising = put_rises m w rev r.rising;
          inside = λ j lt. put_other (suc m) w rev j (omega arith) ∙ r.inside j lt;
          whatever = all_met;
        }

pub reverse_put : (k : ℕ) (w : Option Wanted) (cs cs' : List Claim)
    → cs' ≡ cs ++ claims_put k w → reverse cs' ≡ claims_put k w ++ reverse cs
reverse_put k None cs cs' e = ap reverse e ∙ nothing cs
  where
    nothing : (cs : List Claim) → reverse (cs ++ []) ≡ reverse cs
    nothing cs = grind (arith, common_steps)
reverse_put k (Some w) cs cs' e = ap reverse e ∙ one cs (record { position = k; dir = w.dir; bound = pos w.limit -ℤ pos 1; rest = w.low })
  where
    one : (cs : List Claim) (c : Claim) → reverse (cs ++ c ∷ []) ≡ c ∷ reverse cs
    one cs c = grind (arith, common_steps)

-- ---- the step, at a position

limits_if : LawsBelow → (t : Term) → IsAllowed t → total_of t ≤ most_total
    → (o : Option Wanted) → ShowsIf (cut_at t) o → IfSome o (λ w. w.limit ≤ most_total)
limits_if laws t a h None s = tt
limits_if laws t a h (Some w) s = limit_within laws t a h w s

module _ (laws : LawsBelow) (ps : List Position) (k : ℕ) (terms : IsTerms ps) (low : 1 ≤ k) (high : k ≤ length ps)
    (p : Position) (here : get_or ps (k - 1) p ≡ p) (notes : Noted) (all todo : List (Option Wanted))
    (w : Option Wanted) (et : all ≡ todo ++ w ∷ []) (l : IsLeft ps k notes all) where
  pub same : k ≡ suc (k - 1)
  same = omega arith

  pub few : suc (k - 1) ≤ length ps
  few = omega arith

  left : IsLeft ps (suc (k - 1)) notes (todo ++ w ∷ [])
  left = subst (λ (j : ℕ). IsLeft ps j notes (todo ++ w ∷ [])) same (subst (IsLeft ps k notes) et l)

  pub here_last : Last laws ps (k - 1) terms few p notes w
  here_last = last_of laws ps (k - 1) terms few p notes todo w here left

  pub here_limit : IfSome w (λ w. w.limit ≤ most_total)
  here_limit = let x = here_last in limits_if laws (term_at ps (k - 1)) x.last.1.allowed x.last.1.within w x.shows

  module _ (before : Noted) (noted : AreNotesOf ps (k - 1) before) (notes' : Noted)
      (new : List (Option Wanted)) (h : IsHandedDown (term_at ps (k - 1)) before w notes' todo new) where
    pub here_left : IsLeft ps (k - 1) notes' new
    here_left = subst (IsLeft ps (k - 1) notes') (sym h.behind)
        (left_on laws ps (k - 1) terms few before notes' todo h.parts w left.shows noted h.left h.handed)

    pub here_right : (root : Wanted) (cs cs' : List Claim) → cs' ≡ cs ++ claims_put k w
        → IsRight ps k root all (reverse cs) → IsRight ps (k - 1) root new (reverse cs')
    here_right root cs cs' put r =
        let r' : IsRight ps (suc (k - 1)) root (todo ++ w ∷ []) (reverse cs) =
        subst (λ (j : ℕ). IsRight ps j root (todo ++ w ∷ []) (reverse cs)) same
        (subst (λ (x : List (Option Wanted)). IsRight ps k root x (reverse cs)) et r) in
        let z : IsRight ps (k - 1) root (todo ++ h.parts) (claims_put (suc (k - 1)) w ++ reverse cs) =
        right_on laws ps (k - 1) terms few root todo h.parts w (reverse cs) left.shows h.handed r' in
        let y : IsRight ps (k - 1) root new (claims_put k w ++ reverse cs) =
        subst (λ (j : ℕ). IsRight ps (k - 1) root new (claims_put j w ++ reverse cs)) (sym same)
        (subst (λ (x : List (Option Wanted)). IsRight ps (k - 1) root x (claims_put (suc (k - 1)) w ++ reverse cs))
        (sym h.behind) z) in
        subst (IsRight ps (k - 1) root new) (sym (reverse_put k w cs cs' put)) y

-- the position at this place
pub place_there : (ps : List Position) (k : ℕ) (p : Position) → ((d : Position) → p ≡ slice_index_or ps (k - 1) d) → get_or ps (k - 1) p ≡ p
place_there ps k p h = sym (h p)

pub some_place : (ps : List Position) (k : ℕ) → 1 ≤ k → k ≤ length ps → (p : Position) × (get_or ps (k - 1) p ≡ p)
some_place ps k low high = index_there ps (k - 1) (omega arith)

-- something is to be done at each position
pub todo_there : (ps : List Position) (k : ℕ) → IsTerms ps → 1 ≤ k → k ≤ length ps
    → (notes : Noted) (todo : List (Option Wanted)) → IsLeft ps k notes todo → 0 < length todo
todo_there ps k terms low high notes todo l =
    let (p, x) = next_there ps (k - 1) terms (omega arith) in
    let same : suc (k - 1) ≡ k = omega arith in
    let row : row_of ps k ≡ x.before ++ term_at ps (k - 1) ∷ [] = ap (row_of ps) (sym same) ∙ x.now_is in
    let n = show_length (map cut_at (row_of ps k)) todo l.shows in
    let m = map_length (row_of ps k) in
    let q = ap (length {A = Term}) row in
    let r : length (x.before ++ term_at ps (k - 1) ∷ []) ≡ length x.before + 1 = grind (arith, common_steps) in
    omega arith

-- ---- the ends of the walk

pub left_starts : (ps : List Position) (root : Wanted) (notes : Noted) (todo : List (Option Wanted)) → IsTerms ps
    → AreNotesOf ps (length ps) notes → Shows (cut_at (term_of ps)) root → todo ≡ Some root ∷ [] → IsLeft ps (length ps) notes todo
left_starts ps root notes todo terms h s e = record {
  noted = h;
  shows = subst (λ (l : List Term). AllShow (map cut_at l) todo)
      (sym (row_whole ps terms)) (subst (AllShow (cut_at (term_of ps) ∷ [])) (sym e) (s, tt));
}

pub right_starts : (ps : List Position) (root : Wanted) (todo : List (Option Wanted)) (claims : List Claim)
    → IsTerms ps → todo ≡ Some root ∷ [] → claims ≡ [] → IsRight ps (length ps) root todo claims
right_starts ps root todo claims terms e none =
    let wide : row_width (term_of ps ∷ []) ≡ length ps =
    ap row_width (sym (row_whole ps terms)) ∙ row_width_is ps (length ps) terms (omega arith) in
    subst (λ (l : List (Option Wanted)). IsRight ps (length ps) root l claims)
    (sym e) (subst (IsRight ps (length ps) root (Some root ∷ [])) (sym none)
    (record {
      few = omega arith;
      within = All-nil IsClaimWithin;
      rising = tt;
      inside = λ j h. refl;
      whatever = λ f same agree. record {
        root_is =
            let y : map f (positions_after 0 (term_of ps ∷ [])) ≡ claim_if (Some root) ∷ [] =
            sym (ap (λ (l : List Term). map f (positions_after 0 l)) (row_whole ps terms)) ∙ same in
            let n : 0 + width_of (term_of ps) ≡ length ps = omega (arith, wide) in
            ap f (sym n) ∙ head_same y;
        meet = λ j c lt le is. absurd (omega arith);
      };
    }))
  where
    head_same : {x y : Option RuleClaim} {xs ys : List (Option RuleClaim)} → ◌≡◌ {A = List (Option RuleClaim)} (x ∷ xs) (y ∷ ys) → x ≡ y
    head_same e = cc

pub right_ends : (ps : List Position) (root : Wanted) (notes : Noted) (todo : List (Option Wanted)) (claims : List Claim)
    → IsTerms ps → IsLeft ps 0 notes todo → IsRight ps 0 root todo claims → AreClaimsOf ps root claims
right_ends ps root notes todo claims terms l r =
    let none : todo ≡ [] = no_todo todo l.shows in
    let met : AreMet ps 0 root (claim_at claims) = r.whatever (claim_at claims) (ap (map claim_if) (sym none)) (λ j lt. refl) in
    let n = r.few in
    let many = terms.few in
    record {
      few = omega arith;
      within = r.within;
      rising = r.rising;
      pass = λ k c is. passes k c is (lt_or_le 0 k) (lt_or_le (length ps) k) met;
      root_is = met.root_is;
    }
  where
    no_todo : (todo : List (Option Wanted)) → AllShow [] todo → todo ≡ []
    no_todo [] h = refl
    no_todo (w ∷ todo) h = absurd h

    no_claim : {A : Type 0} {x : A} → None ≡ Some x → ⊥
    no_claim h = cc

    passes : (k : ℕ) (c : RuleClaim) → claim_at claims k ≡ Some c → (0 < k) ⊎ (k ≤ 0) → (length ps < k) ⊎ (k ≤ length ps)
        → AreMet ps 0 root (claim_at claims) → (1 ≤ k) × (k ≤ length ps) × MeetsAt ps (claim_at claims) k c
    passes k c is (inr low) x met = absurd (no_claim (sym (claim_low 0 claims k r.rising low) ∙ is))
    passes k c is (inl up) (inl past) met = absurd (no_claim (sym (r.inside k past) ∙ is))
    passes k c is (inl up) (inr in_it) met = (omega arith, in_it, met.meet k c up in_it is)
