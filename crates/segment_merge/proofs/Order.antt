-- Whichever side the others are move_runs into, the merge_segments side is the same.
use Rattle.std.proofs.Common.{◌≡◌, ◌≢◌, ℕ, ◌+◌, ◌<◌, List, [], ◌∷◌, ◌++◌, refl, ap, sym, ◌∙◌}
use Rattle.std.proofs.Common.{arith, subst, Bool, true, false, append_assoc, inl, inr}
use Rattle.side_laws.specs.Segments.{IsRising, StartsAbove}
use Rattle.hill_valley.specs.Side.{Run, run_profile, join_runs, insert_run}
use Rattle.segment_merge.specs.Merging.{insert_runs, merge_runs, move_runs}
use Rattle.hill_valley.specs.Laws.{RunLaws}
use Rattle.std.proofs.lemmas.Bool.Decides.{nat_tests}
use Rattle.lists.proofs.Orders.{compare}

abbrev run : ℕ → ℕ → List ℕ → Run
run u m ts = record { up = u; net = m; tasks = ts }

same_run : (u v m n : ℕ) (ts us : List ℕ) (es : List Run) → u ≡ v → m ≡ n → ts ≡ us → run u m ts ∷ es ≡ run v n us ∷ es
same_run u v m n ts us es p q r = rw (p, q, r) refl

-- ---- two runs of different run_profile go in in either compare

apart_nil : (s t : Run) → s.up ≢ t.up → insert_run true s (t ∷ []) ≡ insert_run true t (s ∷ [])
apart_nil s t h = grind (arith, nat_tests)

apart_step : (s t e : Run) (es : List Run) → s.up ≢ t.up
    → insert_run true s (insert_run true t es) ≡ insert_run true t (insert_run true s es)
    → insert_run true s (insert_run true t (e ∷ es)) ≡ insert_run true t (insert_run true s (e ∷ es))
apart_step s t e es h ih = grind (arith, nat_tests)

pub apart : (s t : Run) (es : List Run) → s.up ≢ t.up → insert_run true s (insert_run true t es) ≡ insert_run true t (insert_run true s es)
apart s t [] h = apart_nil s t h
apart s t (e ∷ es) h = apart_step s t e es h (apart s t es h)

-- ---- two runs of one height go in as one

abbrev pub both : Run → Run → Run
both s t = record { up = s.up; net = s.net + t.net; tasks = s.tasks ++ t.tasks }

both_nil : (s t : Run) → s.up ≡ t.up → insert_run true s (t ∷ []) ≡ both s t ∷ []
both_nil s t h =
    let e = same_run t.up s.up (t.net + s.net) (s.net + t.net) (s.tasks ++ t.tasks) (s.tasks ++ t.tasks) [] (sym h) (omega arith) refl in
    grind (arith, nat_tests, e)

both_step : (s t e : Run) (es : List Run) → s.up ≡ t.up → insert_run true s (insert_run true t es) ≡ insert_run true (both s t) es
    → insert_run true s (insert_run true t (e ∷ es)) ≡ insert_run true (both s t) (e ∷ es)
both_step s t e es h ih =
    let a =
    same_run t.up s.up (t.net + s.net) (s.net + t.net) (s.tasks ++ t.tasks) (s.tasks ++ t.tasks) (e ∷ es) (sym h) (omega arith) refl in
    let b = same_run e.up e.up (e.net + t.net + s.net) (e.net + (s.net + t.net)) (s.tasks ++ (t.tasks ++ e.tasks))
    ((s.tasks ++ t.tasks) ++ e.tasks) es refl (omega arith) (sym (append_assoc s.tasks t.tasks e.tasks)) in
    grind (arith, nat_tests, a, b)

pub as_one : (s t : Run) (es : List Run) → s.up ≡ t.up → insert_run true s (insert_run true t es) ≡ insert_run true (both s t) es
as_one s t [] h = both_nil s t h
as_one s t (e ∷ es) h = both_step s t e es h (as_one s t es h)

-- ---- put in one by one, or as a side

abbrev pub NoneAt : ℕ → List Run → Type 0
NoneAt u [] = Unit {0}
NoneAt u (s ∷ ss) = (u ≢ s.up) × NoneAt u ss

-- a run of a height of its own may go in first
pub past_all : (s : Run) (ss es : List Run) → NoneAt s.up ss → insert_runs ss (insert_run true s es) ≡ insert_run true s (insert_runs ss es)
past_all s [] es h = refl
past_all s (t ∷ ss) es h = ap (insert_run true t) (past_all s ss es h.1) ∙ apart t s (insert_runs ss es) (λ e. h.0 (sym e))

after_on : (u : ℕ) (s : Run) (ss : List Run) → u < s.up → IsRising (run_profile (s ∷ ss)) → StartsAbove u (run_profile ss)
after_on u s [] h r = tt
after_on u s (t ∷ ss) h r = let q = r.0 in omega arith

pub rising_put : RunLaws → (s : Run) (es : List Run) → IsRising (run_profile es) → IsRising (run_profile (insert_run false s es))
rising_put laws s es r = laws.rises false s es r

none_after : (u : ℕ) (ss : List Run) → StartsAbove u (run_profile ss) → IsRising (run_profile ss) → NoneAt u ss
none_after u [] h r = tt
none_after u (s ∷ ss) h r = (λ e. omega arith, none_after u ss (after_on u s ss h r) r.1)

pub moved_before : (ss es : List Run) → IsRising (run_profile ss) → move_runs true ss es ≡ insert_runs ss es
moved_before [] es r = refl
moved_before (s ∷ ss) es r = moved_before ss (insert_run true s es) r.1 ∙ past_all s ss es (none_after s.up ss r.0 r.1)

-- what goes in in front of a side goes in in front of the whole
put_step : (s m : Run) (ms es : List Run) → insert_runs (insert_run true s ms) es ≡ insert_run true s (insert_runs ms es)
    → insert_runs (insert_run true s (m ∷ ms)) es ≡ insert_run true s (insert_runs (m ∷ ms) es)
put_step s m ms es ih =
    let a = as_one s m (insert_runs ms es) in
    let b = apart s m (insert_runs ms es) in
    let c = ap (insert_run true m) ih in
    let d = λ (h : s.up ≡ m.up). ap (λ (l : List Run). insert_runs l es)
    (same_run s.up m.up (s.net + m.net) (m.net + s.net) (s.tasks ++ m.tasks) (s.tasks ++ m.tasks) ms h (omega arith) refl) in
    grind (arith, nat_tests, a, b, c, d)

pub put_inserted : (s : Run) (ms es : List Run) → insert_runs (insert_run true s ms) es ≡ insert_run true s (insert_runs ms es)
put_inserted s [] es = refl
put_inserted s (m ∷ ms) es = put_step s m ms es (put_inserted s ms es)

pub put_assoc : (a b c : List Run) → insert_runs (insert_runs a b) c ≡ insert_runs a (insert_runs b c)
put_assoc [] b c = refl
put_assoc (s ∷ a) b c = put_inserted s (insert_runs a b) c ∙ ap (insert_run true s) (put_assoc a b c)

pub in_front : (b : Bool) (s m : Run) (ms : List Run) → s.up < m.up → insert_run b s (m ∷ ms) ≡ s ∷ m ∷ ms
in_front b s m ms h = grind (arith, nat_tests)

pub joined : (s e : Run) (es : List Run) → s.up ≡ e.up → insert_run true s (e ∷ es) ≡ join_runs true s e ∷ es
joined s e es h = grind (arith, nat_tests)

pub in_place : (s m : Run) (ms : List Run) → s.up ≡ m.up → insert_run false s (m ∷ ms) ≡ both m s ∷ ms
in_place s m ms h = grind (arith, nat_tests)

pub further : (b : Bool) (s m : Run) (ms : List Run) → m.up < s.up → insert_run b s (m ∷ ms) ≡ m ∷ insert_run b s ms
further b s m ms h = grind (arith, nat_tests)

-- a run behind a side goes in in front of the rest
pub behind : (s : Run) (ms es : List Run) → IsRising (run_profile ms)
    → insert_runs (insert_run false s ms) es ≡ insert_runs ms (insert_run true s es)
behind s [] es r = refl
behind s (m ∷ ms) es r = elim (compare s.up m.up) [
  | inl h ↦
      ap (λ (l : List Run). insert_runs l es) (in_front false s m ms h)
      ∙ apart s m (insert_runs ms es) (λ e. omega arith)
      ∙ ap (insert_run true m) (sym (past_all s ms es (none_after s.up ms (after_on s.up m ms h r) r.1)))
  | inr h ↦ elim h [
    | inl h ↦
        ap (λ (l : List Run). insert_runs l es) (in_place s m ms h)
        ∙ sym (as_one m s (insert_runs ms es) (sym h))
        ∙ ap (insert_run true m)
        (sym (past_all s ms es (none_after s.up ms (subst (λ (u : ℕ). StartsAbove u (run_profile ms)) (sym h) r.0) r.1)))
    | inr h ↦ ap (λ (l : List Run). insert_runs l es) (further false s m ms h) ∙ ap (insert_run true m) (behind s ms es r.1)
  ]
]

pub put_nil : (ms : List Run) → IsRising (run_profile ms) → insert_runs ms [] ≡ ms
put_nil [] r = refl
put_nil (m ∷ []) r = refl
put_nil (m ∷ n ∷ ms) r = ap (insert_run true m) (put_nil (n ∷ ms) r.1) ∙ in_front true m n ms r.0

front_cons : (s : Run) (ss : List Run) → IsRising (run_profile (s ∷ ss)) → insert_run true s ss ≡ s ∷ ss
front_cons s [] r = refl
front_cons s (t ∷ ss) r = in_front true s t ss r.0

-- move_runs in behind, it is as if the side had been put in in front of it
pub moved_behind : RunLaws → (ss es : List Run) → IsRising (run_profile ss)
    → IsRising (run_profile es) → move_runs false ss es ≡ insert_runs es ss
moved_behind laws [] es r re = sym (put_nil es re)
moved_behind laws (s ∷ ss) es r re =
    moved_behind laws ss (insert_run false s es) r.1 (rising_put laws s es re) ∙ behind s es ss re ∙ ap (insert_runs es) (front_cons s ss r)

-- one step of merging: the longest has taken in the sides next to it on both hands
pub merged_append : (a b : List (List Run)) → merge_runs (a ++ b) ≡ insert_runs (merge_runs a) (merge_runs b)
merged_append [] b = refl
merged_append (side ∷ a) b = ap (insert_runs side) (merged_append a b) ∙ sym (put_assoc side (merge_runs a) (merge_runs b))

pub merged_one : (side : List Run) → IsRising (run_profile side) → merge_runs (side ∷ []) ≡ side
merged_one side r = put_nil side r
