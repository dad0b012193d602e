-- What the reader of plan files does with a line, and with the end, is what the tests of the format say.
use Rattle.std.specs.Prelude.{◌≡◌, ℕ, ◌<◌, ◌≤◌, ◌⊎◌, true, false, nat_lt, List, [], ◌∷◌, ◌++◌, length, map, take, drop, codes, refl}
use Rattle.std.proofs.Common.{sym, ap, ◌∙◌, arith, inl, inr}
use Rattle.std.proofs.Math.Seq.{take-nil, drop-nil}
use Rattle.std.proofs.lemmas.Bool.{cases_Bool, ltb-true, ltb-false, le-ltb, lt-ltb}
use Rattle.std.proofs.lemmas.List.{map_push, length-map, length_push, take_all, drop_all, length-take-le, take-append-le, drop-append-le}
use Rattle.mp_text.specs.Text.{Row}
use Rattle.file_frame.specs.declared.version.Version.{Version}
use Rattle.file_frame.specs.declared.version.Version.TheVariants.{One, Two}
use Rattle.mp_text.specs.Grammar.{ArePassed}
use Rattle.mp_text.specs.Reading.{Follows}
use Rattle.mp_text.specs.ReadingLaws.{tested-follows}
use Rattle.plan_files.specs.PlanFile.{Stated, stated, nothing, task_on, claim_on, plan_version, with_end, with_claims, with_peak}
use Rattle.plan_files.specs.PlanFile.{with_ranks, after_order_in, with_order, plan_format, tests_after, end_tests_after}
use Rattle.plan_files.specs.Reader.{next, after_order_next, plan_step, plan_end, took}
use Rattle.plans.specs.declared.claim.Claim.{Claim}
use Rattle.plan_files.specs.declared.stage.Stage.TheVariants as stages
use Rattle.file_frame.specs.Frame.{stated_on}

-- ---- a section of n lines, and one line more

-- the line belongs to it
pub record IsWithin {X Y : Type 0} (f : X → Y) (n : ℕ) (xs : List X) (x : X) : Type 0 where
  pub more : map f (take n (xs ++ x ∷ [])) ≡ map f (take n xs) ++ f x ∷ []
  pub none : drop n xs ≡ []
  pub still_none : drop n (xs ++ x ∷ []) ≡ []
  pub open_yet : nat_lt (length (map f (take n xs))) n ≡ true

-- the line comes after it
pub record IsPast {X Y : Type 0} (f : X → Y) (n : ℕ) (xs : List X) (x : X) : Type 0 where
  pub same : map f (take n (xs ++ x ∷ [])) ≡ map f (take n xs)
  pub later : drop n (xs ++ x ∷ []) ≡ drop n xs ++ x ∷ []
  pub full : nat_lt (length (map f (take n xs))) n ≡ false

pub within_or_past : {X Y : Type 0} (f : X → Y) (n : ℕ) (xs : List X) (x : X) → IsWithin f n xs x ⊎ IsPast f n xs x
within_or_past f n xs x =
    elim (cases_Bool (nat_lt (length xs) n)) [
      | inl e ↦
          let lt : length xs < n = ltb-true _ _ e in
          let all = take_all n xs (omega arith) in
          let more = take_all n (xs ++ x ∷ []) (omega (arith, length_push xs x)) in
          let mapped = length-map xs f in
          inl (record {
            more = ap (map f) more ∙ map_push f xs x ∙ ap (λ ys. map f ys ++ f x ∷ []) (sym all);
            none = drop_all n xs (omega arith);
            still_none = drop_all n (xs ++ x ∷ []) (omega (arith, length_push xs x));
            open_yet = ap (λ ys. nat_lt (length (map f ys)) n) all ∙ lt-ltb _ _ (omega (arith, mapped));
          })
      | inr e ↦
          let le : n ≤ length xs = ltb-false _ _ e in
          let mapped = length-map (take n xs) f in
          inr (record {
            same = ap (map f) (take-append-le n xs (x ∷ []) le);
            later = drop-append-le n xs (x ∷ []) le;
            full = le-ltb _ _ (omega (arith, mapped, length-take-le n xs le));
          })
    ]

-- ---- one line more, from the last section up

abbrev pub at_claims : Stated → ℕ → List Claim → Stated
at_claims s count claims = record s { stage = stages.Claims; count = count; claims = claims }

end_push : (s : Stated) (count : ℕ) (claims : List Claim) (rows : List Row) (row : Row) → nat_lt (length claims) count ≡ false
    → with_end (at_claims s count claims) (rows ++ row ∷ []) ≡ next (with_end (at_claims s count claims) rows) row
end_push s count claims [] row full = rw full refl
end_push s count claims (last ∷ rows) row full = refl

abbrev pub at_peak : Stated → ℕ → Stated
at_peak s peak = record s { stage = stages.ClaimsSection; peak = peak }

claims_push : (s : Stated) (peak : ℕ) (rows : List Row) (row : Row) → s.claims ≡ []
    → with_claims (at_peak s peak) (rows ++ row ∷ []) ≡ next (with_claims (at_peak s peak) rows) row
claims_push s peak [] row fresh = rw (drop-nil (stated_on (codes "claims") row), take-nil (stated_on (codes "claims") row), fresh) refl
claims_push s peak (section ∷ rows) row fresh =
    let n = stated_on (codes "claims") section in
    elim (within_or_past claim_on n rows row) [
      | inl w ↦ rw (w.more, w.still_none, w.none, w.open_yet) refl
      | inr p ↦ rw (p.same, p.later) (end_push (at_peak s peak) n (map claim_on (take n rows)) (drop n rows) row p.full)
    ]

peak_push : (s : Stated) (section : Row) (rows : List Row) (row : Row) → s.claims ≡ []
    → with_peak s (section ∷ (rows ++ row ∷ [])) ≡ next (with_peak s (section ∷ rows)) row
peak_push s section rows row fresh = claims_push s (stated_on (codes "peak") section) rows row fresh

abbrev pub at_ranks : Stated → ℕ → List ℕ → Stated
at_ranks s count priority = record s { stage = stages.Priority; tasks = s.count; count = count; priority = priority }

ranked_push : (s : Stated) (count : ℕ) (priority : List ℕ) (rows : List Row) (row : Row)
    → s.claims ≡ [] → nat_lt (length priority) count ≡ false
    → with_peak (at_ranks s count priority) (rows ++ row ∷ []) ≡ next (with_peak (at_ranks s count priority) rows) row
ranked_push s count priority [] row fresh full = rw full refl
ranked_push s count priority (section ∷ rows) row fresh full = peak_push (at_ranks s count priority) section rows row fresh

ranks_push : (s : Stated) (section : Row) (rows : List Row) (row : Row) → s.claims ≡ []
    → with_ranks s (section ∷ (rows ++ row ∷ [])) ≡ next (with_ranks s (section ∷ rows)) row
ranks_push s section rows row fresh =
    let n = stated_on (codes "priority") section in
    elim (within_or_past task_on n rows row) [
      | inl w ↦ rw (w.more, w.still_none, w.none, w.open_yet) refl
      | inr p ↦ rw (p.same, p.later) (ranked_push s n (map task_on (take n rows)) (drop n rows) row fresh p.full)
    ]

abbrev pub at_order : Stated → ℕ → List ℕ → Stated
at_order s count order = record s { stage = stages.Order; count = count; order = order }

after_none : (v : Version) (s : Stated) → after_order_in v s [] ≡ s
after_none One s = refl
after_none Two s = refl

after_one : (v : Version) (s : Stated) (row : Row) → after_order_in v s (row ∷ []) ≡ after_order_next v s row
after_one One s row = refl
after_one Two s row = rw (drop-nil (stated_on (codes "priority") row), take-nil (stated_on (codes "priority") row)) refl

after_more : (v : Version) (s : Stated) (section : Row) (rows : List Row) (row : Row) → s.claims ≡ []
    → after_order_in v s (section ∷ (rows ++ row ∷ [])) ≡ next (after_order_in v s (section ∷ rows)) row
after_more One s section rows row fresh = peak_push s section rows row fresh
after_more Two s section rows row fresh = ranks_push s section rows row fresh

ordered_push : (s : Stated) (count : ℕ) (order : List ℕ) (rows : List Row) (row : Row) → s.claims ≡ [] → nat_lt (length order) count ≡ false
    → after_order_in s.version (at_order s count order) (rows ++ row ∷ [])
    ≡ next (after_order_in s.version (at_order s count order) rows) row
ordered_push s count order [] row fresh full =
    rw (after_none s.version (at_order s count order), full) (after_one s.version (at_order s count order) row)
ordered_push s count order (section ∷ rows) row fresh full = after_more s.version (at_order s count order) section rows row fresh

order_push : (s : Stated) (section : Row) (rows : List Row) (row : Row) → s.claims ≡ []
    → with_order s (section ∷ (rows ++ row ∷ [])) ≡ next (with_order s (section ∷ rows)) row
order_push s section rows row fresh =
    let n = stated_on (codes "order") section in
    elim (within_or_past task_on n rows row) [
      | inl w ↦ rw (w.more, w.still_none, w.none) (rw (
        after_none s.version (at_order s n (map task_on (take n rows) ++ task_on row ∷ [])),
        after_none s.version (at_order s n (map task_on (take n rows))),
        w.open_yet,
      ) refl)
      | inr p ↦ rw (p.same, p.later) (ordered_push s n (map task_on (take n rows)) (drop n rows) row fresh p.full)
    ]

abbrev pub begun : Row → Stated
begun header = record nothing { stage = stages.OrderSection; version = plan_version header }

pub stated_push : (rows : List Row) (row : Row) → stated (rows ++ row ∷ []) ≡ next (stated rows) row
unfolding stated
stated_push [] row = refl
stated_push (header ∷ []) row =
    let n = stated_on (codes "order") row in
    rw (drop-nil n, take-nil n) (after_none (plan_version header) (at_order (begun header) n []))
stated_push (header ∷ section ∷ rows) row = order_push (begun header) section rows row refl

-- ---- the two laws

pub step_follows : (s : Stated) (before : List Row) (row : Row) → took s before → ArePassed plan_format before →
    Follows (tests_after (stated before) row) (λ after. took after (before ++ row ∷ []) × (plan_format ≡ plan_format)) (plan_step s row)
unfolding plan_step
step_follows s before row taken passed =
    rw taken
    (tested-follows (tests_after (stated before) row) (next (stated before) row)
    (λ after. took after (before ++ row ∷ []) × (plan_format ≡ plan_format))
    (λ _. (sym (stated_push before row), refl)))

pub end_follows : (s : Stated) (rows : List Row) (past : ℕ) → took s rows → ArePassed plan_format rows →
    Follows (end_tests_after (stated rows) past) (λ after. took after rows) (plan_end s past)
unfolding plan_end
end_follows s rows past taken passed =
    rw taken (tested-follows (end_tests_after (stated rows) past) (stated rows) (λ after. took after rows) (λ _. refl))
