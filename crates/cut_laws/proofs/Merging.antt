-- Sides of parts side by side, merged: the runs of all parts lead down through the states of all of them.
use Rattle.std.proofs.Common.{◌≡◌, ℕ, ◌+◌, ◌<◌, inl, inr, refl, sym, subst, ap, arith, ◌∙◌, true, List, [], ◌∷◌, ◌++◌}
use Rattle.std.proofs.lemmas.Bool.Decides.{nat_tests}
use Rattle.side_laws.specs.Segments.{IsRising, StartsAbove}
use Rattle.hill_valley.specs.Side.{Run, run_profile, insert_run}
use Rattle.segment_merge.specs.Merging.{insert_runs, merge_runs, run_profiles}
use Rattle.sp_terms.specs.Term.{Term, par, Parts, no_parts, part, Direction}
use Rattle.sp_term_laws.specs.Moves.{State, States, memory_of, memory_of_parts, first_state, first_states}
use Rattle.segment_merge.specs.Laws.{SideLaws}
use Rattle.cut_laws.proofs.Leading.{LeadsDown}
use Rattle.cut_laws.specs.Names.{Names, NamesOfParts}
use Rattle.cut_laws.proofs.NamedWays.{NamedWay, NamedWays}
use Rattle.cut_laws.proofs.Ways.{ways_is, ways_joined, in_par, in_head, in_tail}
use Rattle.lists.proofs.Orders.{compare}
use Rattle.segment_merge.proofs.Interleaving.{cons_front, put_cons, after_insert}

-- ---- where the first runs of two sides go

past : (e s : Run) (ss : List Run) → e.up < s.up → IsRising (run_profile (s ∷ ss)) → StartsAbove e.up (run_profile ss)
past e s [] h r = tt
past e s (t ∷ ss) h r = let q = r.0 in omega arith

in_front : (s m : Run) (ms : List Run) → s.up < m.up → insert_run true s (m ∷ ms) ≡ s ∷ m ∷ ms
in_front s m ms h = grind (arith, nat_tests)

further : (s m : Run) (ms : List Run) → m.up < s.up → insert_run true s (m ∷ ms) ≡ m ∷ insert_run true s ms
further s m ms h = grind (arith, nat_tests)

at_place : (s e : Run) (es : List Run) → s.up ≡ e.up
    → insert_run true s (e ∷ es) ≡ record { up = e.up; net = e.net + s.net; tasks = s.tasks ++ e.tasks } ∷ es
at_place s e es h = grind (arith, nat_tests)

-- a run that is lower than all of a side stays in cons_front

after_put : (s : Run) (ss es : List Run) → StartsAbove s.up (run_profile ss) → IsRising (run_profile ss)
    → StartsAbove s.up (run_profile es) → StartsAbove s.up (run_profile (insert_runs ss es))
after_put s [] es a r k = k
after_put s (g ∷ ss) es a r k = after_insert s.up g (insert_runs ss es) a (after_put s ss es (past s g ss a r) r.1 k)

put_cases : (a : Run) (gs : List Run) (b : Run) (r : List Run) (P : List Run → Type 0)
    → IsRising (run_profile (a ∷ gs)) → IsRising (run_profile (b ∷ r))
    → (a.up < b.up → P (a ∷ insert_runs gs (b ∷ r))) → (b.up < a.up → P (b ∷ insert_runs (a ∷ gs) r))
    → (a.up ≡ b.up → P (record { up = b.up; net = b.net + a.net; tasks = a.tasks ++ b.tasks } ∷ insert_runs gs r))
    → P (insert_runs (a ∷ gs) (b ∷ r))
put_cases a gs b r P ra rb x y z = elim (compare a.up b.up) [
  | inl h ↦ subst P (sym (cons_front a (insert_runs gs (b ∷ r)) (after_put a gs (b ∷ r) ra.0 ra.1 h))) (x h)
  | inr h ↦ elim h [
    | inl h ↦ subst P (sym (ap (insert_run true a) (put_cons gs b r (subst (λ (u : ℕ). StartsAbove u (run_profile gs)) h ra.0) ra.1)
        ∙ at_place a b (insert_runs gs r) h))
        (z h)
    | inr h ↦ subst P (sym (ap (insert_run true a) (put_cons gs b r (past b a gs h ra) ra.1) ∙ further a b (insert_runs gs r) h)) (y h)
  ]
]

put_nil_cases : (a : Run) (gs : List Run) (P : List Run → Type 0)
    → IsRising (run_profile (a ∷ gs)) → P (a ∷ insert_runs gs []) → P (insert_runs (a ∷ gs) [])
put_nil_cases a gs P ra x = subst P (sym (cons_front a (insert_runs gs []) (after_put a gs [] ra.0 ra.1 tt))) x

-- ---- through the states of all parts

abbrev AllLeadDown : (d : Direction) (ts : Parts) (n : NamesOfParts ts) → States ts → List Run → States ts → Type 0
AllLeadDown d ts n s [] s' = s ≡ s'
AllLeadDown d ts n s (g ∷ gs) s' =
    (m : States ts) × NamedWays d ts n s g.tasks (memory_of_parts ts s + g.up) m
    × (memory_of_parts ts m + g.net ≡ memory_of_parts ts s) × AllLeadDown d ts n m gs s'

down_in_par : (d : Direction) (ts : Parts) (n : NamesOfParts ts) (s : States ts) (gs : List Run) (s' : States ts)
    → AllLeadDown d ts n s gs s' → LeadsDown d (par ts) n s gs s'
down_in_par d ts n s [] s' e = e
down_in_par d ts n s (g ∷ gs) s' (m, u, e, h) = (m, in_par u, e, down_in_par d ts n m gs s' h)

module _ (d : Direction) (t : Term) (ts : Parts) (n : Names t) (ns : NamesOfParts ts) where
  tail_down : (s : State t) (ss : States ts) (r : List Run) (ss' : States ts)
      → AllLeadDown d ts ns ss r ss' → AllLeadDown d (part t ts) (n, ns) (s, ss) r (s, ss')
  tail_down s ss [] ss' e = λ i. (s, e i)
  tail_down s ss (b ∷ r) ss' (m, u, k, h) = ((s, m), ways_is refl (omega arith) (in_tail t n s u), omega arith, tail_down s m r ss' h)

  put_first : (s m s' : State t) (ss' : States ts) (a : Run) (gs : List Run) → IsRising (run_profile (a ∷ gs))
      → NamedWay d t n s a.tasks (memory_of t s + a.up) m → memory_of t m + a.net ≡ memory_of t s
      → ((ss : States ts) (r : List Run) → IsRising (run_profile r) → AllLeadDown d ts ns ss r ss'
      → AllLeadDown d (part t ts) (n, ns) (m, ss) (insert_runs gs r) (s', ss'))
      → (ss : States ts) (r : List Run) → IsRising (run_profile r) → AllLeadDown d ts ns ss r ss'
      → AllLeadDown d (part t ts) (n, ns) (s, ss) (insert_runs (a ∷ gs) r) (s', ss')
  put_first s m s' ss' a gs ra w e f ss [] rr h =
      put_nil_cases a gs (λ z. AllLeadDown d (part t ts) (n, ns) (s, ss) z (s', ss')) ra
      ((m, ss), ways_is refl (omega arith) (in_head ts ns ss w), omega arith, f ss [] rr h)
  put_first s m s' ss' a gs ra w e f ss (b ∷ r) rr (q, u, k, h) =
      put_cases a gs b r (λ z. AllLeadDown d (part t ts) (n, ns) (s, ss) z (s', ss')) ra rr
      (λ x. ((m, ss), ways_is refl (omega arith) (in_head ts ns ss w), omega arith, f ss (b ∷ r) rr (q, u, k, h)))
      (λ x. ((s, q), ways_is refl (omega arith) (in_tail t n s u), omega arith, put_first s m s' ss' a gs ra w e f q r rr.1 h))
      (λ x. ((m, q), ways_is refl (omega arith) (ways_joined (in_head ts ns ss w) (in_tail t n m u)), omega arith, f q r rr.1 h))

  put_down : (s s' : State t) (ss' : States ts) (gs : List Run) → IsRising (run_profile gs) → LeadsDown d t n s gs s'
      → (ss : States ts) (r : List Run) → IsRising (run_profile r) → AllLeadDown d ts ns ss r ss'
      → AllLeadDown d (part t ts) (n, ns) (s, ss) (insert_runs gs r) (s', ss')
  put_down s s' ss' [] rg e ss r rr h = subst (λ x. AllLeadDown d (part t ts) (n, ns) (s, ss) r (x, ss')) e (tail_down s ss r ss' h)
  put_down s s' ss' (a ∷ gs) rg (m, w, k, l) ss r rr h = put_first s m s' ss' a gs rg w k (put_down m s' ss' gs rg.1 l) ss r rr h

-- all parts, each from its first state to its cut
abbrev pub EachLeadsDown : (d : Direction) (ts : Parts) (n : NamesOfParts ts) → List (List Run) → States ts → Type 0
EachLeadsDown d no_parts n [] cs = Unit {0}
EachLeadsDown d no_parts n (g ∷ gs) cs = ⊥
EachLeadsDown d (part t ts) n [] cs = ⊥
EachLeadsDown d (part t ts) (n, ns) (g ∷ gs) (c, cs) =
    (LeadsDown d t n (first_state d t) g c × IsRising (run_profile g)) × EachLeadsDown d ts ns gs cs

module _ (laws : SideLaws) where
  pub rising_merged : (gs : List (List Run)) → IsRising (run_profile (merge_runs gs))
  rising_merged gs = subst IsRising (sym (laws.profile_merge gs)) (laws.merge_rises (run_profiles gs))

  merged_down : (d : Direction) (ts : Parts) (n : NamesOfParts ts) (gs : List (List Run)) (cs : States ts)
      → EachLeadsDown d ts n gs cs → AllLeadDown d ts n (first_states d ts) (merge_runs gs) cs
  merged_down d no_parts n [] cs h = refl
  merged_down d no_parts n (g ∷ gs) cs h = absurd h
  merged_down d (part t ts) n [] cs h = absurd h
  merged_down d (part t ts) (n, ns) (g ∷ gs) (c, cs) (h, k) = put_down d t ts n ns (first_state d t) c cs g h.1 h.0
      (first_states d ts) (merge_runs gs) (rising_merged gs) (merged_down d ts ns gs cs k)

  pub par_down : (d : Direction) (ts : Parts) (n : NamesOfParts ts) (gs : List (List Run)) (cs : States ts)
      → EachLeadsDown d ts n gs cs → LeadsDown d (par ts) n (first_states d ts) (merge_runs gs) cs
  par_down d ts n gs cs h = down_in_par d ts n (first_states d ts) (merge_runs gs) cs (merged_down d ts n gs cs h)
