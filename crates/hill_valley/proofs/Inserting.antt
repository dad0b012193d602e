-- An entry that is put into the map, as the list of segments sees it.
use Rattle.std.proofs.Common.{◌≡◌, ℕ, suc, ◌+◌, ◌<◌, ◌≤◌, ◌^◌, List, [], ◌∷◌, ◌++◌, refl, ap}
use Rattle.std.proofs.Common.{sym, ◌∙◌, arith, subst, Option, Some, IfSome, Bool, length}
use Rattle.std.specs.List.{slice_get}
use Rattle.std.specs.Ordering.{nat_cmp}
use Rattle.std.specs.declared.cmp.Ordering.{Ordering}
use Rattle.std.specs.declared.cmp.Ordering.TheVariants.{Less, Equal, Greater}
use Rattle.std.specs.Option.{option_map}
use Rattle.std.specs.Map.{lookup, keys_of}
use Rattle.std.specs.BTreeMap.{insert_entry, is_at}
use Rattle.std.specs.List.Sorted.{IsStrictlySortedBy}
use Rattle.std.proofs.lemmas.Map.Keys.{sorted_tail}
use Rattle.std.proofs.lemmas.Map.{lookup-none}
use Rattle.std.proofs.lemmas.Map.Entries.{none_below_head}
use Rattle.std.proofs.lemmas.Cmp.{nat_cmp_total}
use Rattle.std.proofs.lemmas.Bool.Decides.{nat_tests}
use Rattle.limits.specs.Limits.{most_total}
use Rattle.side_laws.specs.Segments.{Segment, net_sum, lowest, top, IsRising}
use Rattle.side_laws.specs.Merging.{insert_segment, merge_segments, AreStuckAt, IsLeastTogether}
use Rattle.side_laws.specs.Laws.{NetOfInsert, InsertRises, MergeOfOne, LowestOfMerge, TopOfMerge}
use Rattle.hill_valley.specs.declared.tree.Descent.{Descent}
use Rattle.hill_valley.specs.declared.side.Seg.{Seg}
use Rattle.hill_valley.specs.Ropes.{IsRope, Extends}
use Rattle.hill_valley.specs.Side.{profile, numbers, IsSide, AllUpsWithin, HaveRopes, Run, run_of, runs_of, run_profile, insert_run}
use Rattle.hill_valley.specs.Descents.{seg_of, segs_of, list_seen, list_joined, first_up}
use Rattle.hill_valley.proofs.Kept.{list_kept, runs_kept, ropes_kept}
use Rattle.hill_valley.proofs.Profiles.{profile_runs, profile_insert}

abbrev pub Entry : Type 0
Entry = ℕ × Descent

-- a run of an `up`, with its `net` and its tasks
abbrev pub run : ℕ → ℕ × List ℕ → Run
run k v = record { up = k; net = v.0; tasks = v.1 }

-- what the map has at an `up`
abbrev pub own_seen : List (List ℕ) → ℕ → List Entry → Option (ℕ × List ℕ)
own_seen lists k es = option_map (list_seen lists) (lookup (is_at (nat_cmp k)) es)

pub length_segs : (es : List Entry) → length (segs_of es) ≡ length es
length_segs [] = refl
length_segs (e ∷ es) = ap suc (length_segs es)

-- the numbers of the entries, where the first is at `up`
pub seen_next : (es rest : List Entry) (up : ℕ) (d : Descent) → es ≡ (up, d) ∷ rest
    → profile (segs_of es) ≡ record { up = up; net = d.net } ∷ profile (segs_of rest)
seen_next es rest up d e = ap (λ (l : List Entry). profile (segs_of l)) e

-- ---- the runs

module _ (old new : List (List ℕ)) (kept : Extends old new) (before : Bool) (k : ℕ) (w : ℕ × List ℕ) (v : Descent) where
  put_step : (e : Entry) (es : List Entry) (o : Ordering) → nat_cmp k e.0 ≡ o
      → IsStrictlySortedBy nat_cmp (keys_of (e ∷ es)) → HaveRopes old (segs_of (e ∷ es))
      → list_seen new v ≡ list_joined before w (own_seen old k (e ∷ es))
      → (list_seen new v ≡ list_joined before w (own_seen old k es)
      → runs_of new (segs_of (insert_entry nat_cmp es k v)) ≡ insert_run before (run k w) (runs_of old (segs_of es)))
      → runs_of new (segs_of (insert_entry nat_cmp (e ∷ es) k v)) ≡ insert_run before (run k w) (runs_of old (segs_of (e ∷ es)))
  put_step e es Less eq sorted ropes h ih =
      let none = lookup-none (is_at (nat_cmp k)) (e ∷ es) (none_below_head nat_cmp_total k e es sorted eq) in
      let v_is = rw none at h in
      let later = runs_kept old new (segs_of (e ∷ es)) ropes kept in
      rw (eq, later) (ap (λ (x : ℕ × List ℕ). run k x ∷ runs_of old (segs_of (e ∷ es))) v_is)
  put_step e es Equal eq sorted ropes h ih =
      let v_is = rw eq at h in
      let later = runs_kept old new (segs_of es) ropes.1 kept in
      rw (eq, later) (ap (λ (x : ℕ × List ℕ). run e.0 x ∷ runs_of old (segs_of es)) v_is)
  put_step e es Greater eq sorted ropes h ih =
      let first = list_kept old new e.1.tasks ropes.0 kept in
      let later = ih (rw eq at h) in
      rw (eq, first, later) refl

  pub runs_put : (es : List Entry) → IsStrictlySortedBy nat_cmp (keys_of es)
      → HaveRopes old (segs_of es) → list_seen new v ≡ list_joined before w (own_seen old k es)
      → runs_of new (segs_of (insert_entry nat_cmp es k v)) ≡ insert_run before (run k w) (runs_of old (segs_of es))
  runs_put [] sorted ropes h = ap (λ (x : ℕ × List ℕ). run k x ∷ []) h
  runs_put (e ∷ es) sorted ropes h =
      put_step e es (nat_cmp k e.0) refl sorted ropes h (λ h'. runs_put es (sorted_tail nat_cmp e.0 (keys_of es) sorted) ropes.1 h')

-- ---- behind all others

below_last : (t : Seg) (ss : List Seg) (s : Seg) → IsRising (profile (t ∷ (ss ++ s ∷ []))) → t.up < s.up
below_last t [] s h = h.0
below_last t (u ∷ ss) s h = let e = below_last u ss s h.1 in let f = h.0 in omega arith

past_entry : (e : Entry) (es : List Entry) (k : ℕ) (v : Descent) → e.0 < k
    → insert_entry nat_cmp (e ∷ es) k v ≡ e ∷ insert_entry nat_cmp es k v
past_entry e es k v h = grind (arith, nat_tests)

segs_append : (es fs : List Entry) → segs_of (es ++ fs) ≡ segs_of es ++ segs_of fs
segs_append [] fs = refl
segs_append (e ∷ es) fs = ap (λ (l : List Seg). seg_of e ∷ l) (segs_append es fs)

put_last : (es : List Entry) (k : ℕ) (v : Descent)
    → IsRising (profile (segs_of es ++ seg_of (k, v) ∷ [])) → insert_entry nat_cmp es k v ≡ es ++ (k, v) ∷ []
put_last [] k v h = refl
put_last (e ∷ es) k v h =
    past_entry e es k v (below_last (seg_of e) (segs_of es) (seg_of (k, v)) h) ∙ ap (λ (l : List Entry). e ∷ l) (put_last es k v h.1)

pub pushed : (es es' : List Entry) (side : List Seg) (k : ℕ) (v : Descent) → segs_of es ≡ side
    → es' ≡ insert_entry nat_cmp es k v → IsRising (profile (side ++ seg_of (k, v) ∷ []))
    → segs_of es' ≡ side ++ seg_of (k, v) ∷ []
pushed es es' side k v view e h = rw (e, ← view) (ap segs_of (put_last es k v (rw view h)) ∙ segs_append es ((k, v) ∷ []))

-- the first
pub first_at : (es : List Entry) (e : Entry) → slice_get es 0 ≡ Some e → Some e.0 ≡ first_up (segs_of es)
first_at [] e h = absurd (cc)
first_at (f ∷ es) e h = let g : f ≡ e = cc in ap (λ (x : Entry). Some x.0) (sym g)

-- ---- the ropes

ropes_step : (lists : List (List ℕ)) (e : Entry) (es : List Entry) (k : ℕ) (v : Descent)
    → HaveRopes lists (segs_of (e ∷ es)) → IsRope lists v.tasks → HaveRopes lists (segs_of (insert_entry nat_cmp es k v))
    → HaveRopes lists (segs_of (insert_entry nat_cmp (e ∷ es) k v))
ropes_step lists e es k v h r ih = grind (arith, nat_tests)

pub ropes_put : (lists : List (List ℕ)) (es : List Entry) (k : ℕ) (v : Descent) → HaveRopes lists (segs_of es)
    → IsRope lists v.tasks → HaveRopes lists (segs_of (insert_entry nat_cmp es k v))
ropes_put lists [] k v h r = (r, tt)
ropes_put lists (e ∷ es) k v h r = ropes_step lists e es k v h r (ropes_put lists es k v h.1 r)

-- ---- the numbers

ups_step : (s e : Segment) (es : List Segment) → s.up ≤ most_total → AllUpsWithin (e ∷ es)
    → AllUpsWithin (insert_segment s es) → AllUpsWithin (insert_segment s (e ∷ es))
ups_step s e es hs he ih = grind (arith, nat_tests)

ups_inserted : (s : Segment) (es : List Segment) → s.up ≤ most_total → AllUpsWithin es → AllUpsWithin (insert_segment s es)
ups_inserted s [] hs he = (hs, tt)
ups_inserted s (e ∷ es) hs he = ups_step s e es hs he (ups_inserted s es hs he.1)

-- ---- what a look-up finds

own_step : (lists : List (List ℕ)) (k net : ℕ) (e : Entry) (es : List Entry)
    → HaveRopes lists (segs_of (e ∷ es)) → net_sum (profile (segs_of (e ∷ es))) + net ≤ most_total
    → IfSome (lookup (is_at (nat_cmp k)) es) (λ v. IsRope lists v.tasks × (v.net + net < 2 ^ 64))
    → IfSome (lookup (is_at (nat_cmp k)) (e ∷ es)) (λ v. IsRope lists v.tasks × (v.net + net < 2 ^ 64))
own_step lists k net e es ropes room ih = grind (arith, nat_tests)

pub own_fits : (lists : List (List ℕ)) (k net : ℕ) (es : List Entry)
    → HaveRopes lists (segs_of es) → net_sum (profile (segs_of es)) + net ≤ most_total
    → IfSome (lookup (is_at (nat_cmp k)) es) (λ v. IsRope lists v.tasks × (v.net + net < 2 ^ 64))
own_fits lists k net [] ropes room = tt
own_fits lists k net (e ∷ es) ropes room = own_step lists k net e es ropes room (own_fits lists k net es ropes.1 (omega arith))

-- ---- the whole of it

-- es are the entries of the map of a side, es' those after v was put in at k, and this is what the calls of `insert` say of them
pub record Put (old new : List (List ℕ)) (before : Bool) (k : ℕ) (w : ℕ × List ℕ)
    (v : Descent) (side : List Seg) (es es' : List Entry) : Type 0 where
  pub same : segs_of es ≡ side
  pub kept : Extends old new
  pub sorted : IsStrictlySortedBy nat_cmp (keys_of es)
  pub ropes : HaveRopes old side
  pub value : list_seen new v ≡ list_joined before w (own_seen old k es)
  pub entries : es' ≡ insert_entry nat_cmp es k v

module _ (old new : List (List ℕ)) (before : Bool) (k : ℕ) (w : ℕ × List ℕ) (v : Descent)
    (side : List Seg) (es es' : List Entry) (p : Put old new before k w v side es es') where
  own_ropes : HaveRopes old (segs_of es)
  own_ropes = rw p.same p.ropes

  pub runs_after : runs_of new (segs_of es') ≡ insert_run before (run k w) (runs_of old side)
  runs_after = rw p.entries (runs_put old new p.kept before k w v es p.sorted own_ropes p.value)
      ∙ ap (λ (l : List Seg). insert_run before (run k w) (runs_of old l)) p.same

  pub ropes_after : IsRope new v.tasks → HaveRopes new (segs_of es')
  ropes_after r = rw p.entries (ropes_put new es k v (ropes_kept old new (segs_of es) own_ropes p.kept) r)

-- the numbers of a side after a segment s was put in among the segments of another
pub profile_put : (old new : List (List ℕ)) (before : Bool) (s : Seg) (ss ss' : List Seg)
    → runs_of new ss' ≡ insert_run before (run_of old s) (runs_of old ss) → profile ss' ≡ insert_segment (numbers s) (profile ss)
profile_put old new before s ss ss' e =
    sym (profile_runs new ss') ∙ ap run_profile e ∙ profile_insert before (run_of old s) (runs_of old ss)
    ∙ ap (insert_segment (numbers s)) (profile_runs old ss)

-- the numbers of a side after a segment s was put in
module _ (s : Segment) (ss ss' : List Segment) (is : ss' ≡ insert_segment s ss) (side : IsSide ss) where
  pub net_after : NetOfInsert → net_sum ss' ≡ net_sum ss + s.net
  net_after net = ap net_sum is ∙ net s ss

  pub side_after : NetOfInsert → InsertRises → s.up ≤ most_total → net_sum ss + s.net ≤ most_total → IsSide ss'
  side_after net rises up room = subst IsSide (sym is) (omega (arith, net s ss), ups_inserted s ss up side.1, rises s ss side.2)

  merged : MergeOfOne → ss' ≡ merge_segments ((s ∷ []) ∷ ss ∷ [])
  merged one = is ∙ ap (insert_segment s) (sym (one ss side.2))

  room_after : NetOfInsert → MergeOfOne → (level : ℕ) → net_sum ss + s.net ≤ level → net_sum (merge_segments ((s ∷ []) ∷ ss ∷ [])) ≤ level
  room_after net one level h = omega (arith, ap net_sum (merged one), net_after net)

  pub lowest_after : NetOfInsert → MergeOfOne → LowestOfMerge → (limit level : ℕ)
      → net_sum ss + s.net ≤ level → AreStuckAt limit level ((s ∷ []) ∷ ss ∷ []) (lowest limit level ss')
  lowest_after net one low limit level h =
      subst (λ (l : List Segment). AreStuckAt limit level ((s ∷ []) ∷ ss ∷ []) (lowest limit level l)) (sym (merged one))
      (low limit level ((s ∷ []) ∷ ss ∷ []) ((tt, tt), (side.2, tt)) (room_after net one level h))

  pub top_after : NetOfInsert → MergeOfOne → TopOfMerge → (level : ℕ)
      → net_sum ss + s.net ≤ level → IsLeastTogether level ((s ∷ []) ∷ ss ∷ []) (top level ss')
  top_after net one most level h =
      subst (λ (l : List Segment). IsLeastTogether level ((s ∷ []) ∷ ss ∷ []) (top level l)) (sym (merged one))
      (most level ((s ∷ []) ∷ ss ∷ []) ((tt, tt), (side.2, tt)) (room_after net one level h))
