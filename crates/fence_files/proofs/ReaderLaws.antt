-- What the reader of fence files does with a line, and with the end, is what the tests of the format say.
use Rattle.std.specs.Prelude.{◌≡◌, ℕ, ◌<◌, ◌≤◌, ◌⊎◌, true, false, nat_lt, List, [], ◌∷◌, ◌++◌, length, map, take, drop, codes, refl}
use Rattle.std.proofs.Common.{sym, ap, ◌∙◌, arith, inl, inr}
use Rattle.std.proofs.Math.Seq.{take-nil, drop-nil}
use Rattle.std.proofs.lemmas.Bool.{cases_Bool, ltb-true, ltb-false, le-ltb, lt-ltb}
use Rattle.std.proofs.lemmas.List.{map_push, length-map, length_push, take_all, drop_all, length-take-le, take-append-le, drop-append-le}
use Rattle.mp_text.specs.Text.{Row}
use Rattle.mp_text.specs.Grammar.{ArePassed}
use Rattle.mp_text.specs.Reading.{Follows}
use Rattle.mp_text.specs.ReadingLaws.{tested-follows}
use Rattle.file_frame.specs.Frame.{stated_on}
use Rattle.fences.specs.declared.fenced.Fence.{Fence}
use Rattle.fence_files.specs.FenceFile.{Stated, stated, nothing, one_on, fence_on, with_end, with_amounts, with_fences, with_joins}
use Rattle.fence_files.specs.FenceFile.{fences_format, tests_after, end_tests_after}
use Rattle.fence_files.specs.Reader.{next, fences_step, fences_end, took}
use Rattle.fence_files.specs.declared.stage.Stage.TheVariants as stages

-- ---- a section of n lines, and one line more

-- the line belongs to it
record IsWithin {X Y : Type 0} (f : X → Y) (n : ℕ) (xs : List X) (x : X) : Type 0 where
  more : map f (take n (xs ++ x ∷ [])) ≡ map f (take n xs) ++ f x ∷ []
  none : drop n xs ≡ []
  still_none : drop n (xs ++ x ∷ []) ≡ []
  open_yet : nat_lt (length (map f (take n xs))) n ≡ true

-- the line comes after it
record IsPast {X Y : Type 0} (f : X → Y) (n : ℕ) (xs : List X) (x : X) : Type 0 where
  same : map f (take n (xs ++ x ∷ [])) ≡ map f (take n xs)
  later : drop n (xs ++ x ∷ []) ≡ drop n xs ++ x ∷ []
  full : nat_lt (length (map f (take n xs))) n ≡ false

within_or_past : {X Y : Type 0} (f : X → Y) (n : ℕ) (xs : List X) (x : X) → IsWithin f n xs x ⊎ IsPast f n xs x
within_or_past f n xs x =
    elim (cases_Bool (nat_lt (length xs) n)) [
      | inl e ↦
          let lt : length xs < n = ltb-true _ _ e in
          let all = take_all n xs (omega arith) in
          let more = take_all n (xs ++ x ∷ []) (omega (arith, length_push xs x)) in
          let mapped = length-map xs f in
          inl (record {
            more = ap (map f) more ∙ map_push f xs x ∙ ap (λ ys. map f ys ++ f x ∷ []) (sym all);
            none = drop_all n xs (omega arith);
            still_none = drop_all n (xs ++ x ∷ []) (omega (arith, length_push xs x));
            open_yet = ap (λ ys. nat_lt (length (map f ys)) n) all ∙ lt-ltb _ _ (omega (arith, mapped));
          })
      | inr e ↦
          let le : n ≤ length xs = ltb-false _ _ e in
          let mapped = length-map (take n xs) f in
          inr (record {
            same = ap (map f) (take-append-le n xs (x ∷ []) le);
            later = drop-append-le n xs (x ∷ []) le;
            full = le-ltb _ _ (omega (arith, mapped, length-take-le n xs le));
          })
    ]

-- ---- one line more, from the last section up

abbrev pub at_amounts : Stated → ℕ → List ℕ → Stated
at_amounts s count amounts = record s { stage = stages.Amounts; count = count; amounts = amounts }

end_push : (s : Stated) (count : ℕ) (amounts : List ℕ) (rows : List Row) (row : Row) → nat_lt (length amounts) count ≡ false
    → with_end (at_amounts s count amounts) (rows ++ row ∷ []) ≡ next (with_end (at_amounts s count amounts) rows) row
end_push s count amounts [] row full = rw full refl
end_push s count amounts (last ∷ rows) row full = refl

abbrev pub at_fences : Stated → ℕ → List Fence → Stated
at_fences s count fences = record s { stage = stages.Fences; count = count; fences = fences }

amounts_push : (s : Stated) (count : ℕ) (fences : List Fence) (rows : List Row) (row : Row)
    → s.amounts ≡ [] → nat_lt (length fences) count ≡ false
    → with_amounts (at_fences s count fences) (rows ++ row ∷ []) ≡ next (with_amounts (at_fences s count fences) rows) row
amounts_push s count fences [] row fresh full =
    let n = stated_on (codes "amounts") row in
    rw (drop-nil n, take-nil n, fresh, full) refl
amounts_push s count fences (section ∷ rows) row fresh full =
    let n = stated_on (codes "amounts") section in
    elim (within_or_past one_on n rows row) [
      | inl w ↦ rw (w.more, w.still_none, w.none, w.open_yet) refl
      | inr p ↦ rw (p.same, p.later) (end_push (at_fences s count fences) n (map one_on (take n rows)) (drop n rows) row p.full)
    ]

abbrev pub at_joins : Stated → ℕ → List ℕ → Stated
at_joins s count joins = record s { stage = stages.Joins; count = count; joins = joins }

fences_push : (s : Stated) (count : ℕ) (joins : List ℕ) (rows : List Row) (row : Row)
    → s.fences ≡ [] → s.amounts ≡ [] → nat_lt (length joins) count ≡ false
    → with_fences (at_joins s count joins) (rows ++ row ∷ []) ≡ next (with_fences (at_joins s count joins) rows) row
fences_push s count joins [] row fresh fresh_amounts full =
    let n = stated_on (codes "fences") row in
    rw (drop-nil n, take-nil n, fresh, full) refl
fences_push s count joins (section ∷ rows) row fresh fresh_amounts full =
    let n = stated_on (codes "fences") section in
    elim (within_or_past fence_on n rows row) [
      | inl w ↦ rw (w.more, w.still_none, w.none, w.open_yet) refl
      | inr p ↦ rw (p.same, p.later)
          (amounts_push (at_joins s count joins) n (map fence_on (take n rows)) (drop n rows) row fresh_amounts p.full)
    ]

-- the lines before the lists
abbrev pub at_room : ℕ → ℕ → ℕ → Stated
at_room bound workers room = record nothing { stage = stages.JoinsSection; bound = bound; workers = workers; room = room }

joins_push : (bound workers room : ℕ) (rows : List Row) (row : Row)
    → with_joins (at_room bound workers room) (rows ++ row ∷ []) ≡ next (with_joins (at_room bound workers room) rows) row
joins_push bound workers room [] row =
    let n = stated_on (codes "joins") row in
    rw (drop-nil n, take-nil n) refl
joins_push bound workers room (section ∷ rows) row =
    let n = stated_on (codes "joins") section in
    let s = at_room bound workers room in
    elim (within_or_past one_on n rows row) [
      | inl w ↦ rw (w.more, w.still_none, w.none, w.open_yet) refl
      | inr p ↦ rw (p.same, p.later) (fences_push s n (map one_on (take n rows)) (drop n rows) row refl refl p.full)
    ]

pub stated_push : (rows : List Row) (row : Row) → stated (rows ++ row ∷ []) ≡ next (stated rows) row
unfolding stated
stated_push [] row = refl
stated_push (header ∷ []) row = refl
stated_push (header ∷ bound ∷ []) row = refl
stated_push (header ∷ bound ∷ workers ∷ []) row = refl
stated_push (header ∷ bound ∷ workers ∷ room ∷ rows) row =
    joins_push (stated_on (codes "bound") bound) (stated_on (codes "workers") workers) (stated_on (codes "room") room) rows row

-- ---- the two laws

pub step_follows : (s : Stated) (before : List Row) (row : Row) → took s before → ArePassed fences_format before →
    Follows (tests_after (stated before) row) (λ after. took after (before ++ row ∷ []) × (fences_format ≡ fences_format)) (fences_step s row)
unfolding fences_step
step_follows s before row taken passed =
    rw taken
    (tested-follows (tests_after (stated before) row) (next (stated before) row)
    (λ after. took after (before ++ row ∷ []) × (fences_format ≡ fences_format))
    (λ _. (sym (stated_push before row), refl)))

pub end_follows : (s : Stated) (rows : List Row) (past : ℕ) → took s rows → ArePassed fences_format rows →
    Follows (end_tests_after (stated rows) past) (λ after. took after rows) (fences_end s past)
unfolding fences_end
end_follows s rows past taken passed =
    rw taken (tested-follows (end_tests_after (stated rows) past) (stated rows) (λ after. took after rows) (λ _. refl))
