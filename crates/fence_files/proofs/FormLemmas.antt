-- What well-formed lines of a fence file say of what they state.
use Rattle.std.proofs.Common.{◌≡◌, ℕ, zero, suc, ◌^◌, ◌≤◌, inl, inr, Bool, true, false, cond, ◌&&◌, leb, ltb, List, [], ◌∷◌}
use Rattle.std.proofs.Common.{◌++◌, length, refl, sym, subst, ◌∙◌, arith, Option, Some, None, append_assoc, append-nil}
use Rattle.std.specs.List.{list_all}
use Rattle.std.specs.Option.{option_and_then, option_map}
use Rattle.std.specs.Prelude.{codes, unwrap_or}
use Rattle.std.proofs.lemmas.List.{length_push}
use Rattle.std.proofs.lemmas.List.Elements.{All-nil, All-push}
use Rattle.std.proofs.lemmas.Bool.{cases_Bool, and_parts, leb-true, ltb-true, ne_eqb}
use Rattle.limits.specs.Limits.{most_tasks, most_positions, most_workers}
use Rattle.mp_text.specs.declared.layout.Layout.TheVariants.{Commented}
use Rattle.mp_text.specs.declared.refusals.Refusal.{Refusal}
use Rattle.mp_text.specs.Text.{Row, is_digit, value_from, number_from, number_of, numbers_of}
use Rattle.mp_text.specs.Ahead.{rows_of_bytes}
use Rattle.mp_text.specs.Grammar.{test, first_failure, ArePassed}
use Rattle.file_frame.specs.Words.{after_word}
use Rattle.file_frame.specs.Frame.{stated_on, last_tests}
use Rattle.file_frame.proofs.TestLemmas.{passes}
use Rattle.fences.specs.Certificates.{Certificate}
use Rattle.fence_files.specs.FenceFile.{Stated, stated, most_number, fences_format, staged_tests, only_number, one_on, fence_on}
use Rattle.fence_files.specs.FenceFile.{certificate_stated, ReadsFences}
use Rattle.fence_files.specs.FenceFile.{join_tests, fence_tests, amount_tests, fences_section_tests, amounts_section_tests, workers_stated}
use Rattle.fence_files.specs.Printed.{IsWord, IsPlace, IsFenceWithin, AreWorkersWithin, IsPrintable}
use Rattle.fence_files.specs.Reader.{staged_next, with_join, with_fence, with_amount, fences_next, amounts_next}
use Rattle.fence_files.specs.declared.kind.FenceKind.TheVariants as kinds
use Rattle.fence_files.specs.declared.stage.Stage.{Stage}
use Rattle.fence_files.specs.declared.stage.Stage.TheVariants as stages
use Rattle.fence_files.proofs.ReaderLaws.{stated_push}

-- ---- numbers that tokens spell

spelled-word : (token : List ℕ) → IsWord (unwrap_or (number_of token) 0)
unfolding number_of number_from
spelled-word [] = omega arith
spelled-word (b ∷ bs) =
    elim (cases_Bool (list_all is_digit (b ∷ bs) && ltb (value_from 0 (b ∷ bs)) (2 ^ 64))) [
      | inl e ↦ rw e (ltb-true _ _ (and_parts (list_all is_digit (b ∷ bs)) (ltb (value_from 0 (b ∷ bs)) (2 ^ 64)) e).1)
      | inr e ↦ rw e (omega arith)
    ]

stated-word : (word : List ℕ) (row : Row) → IsWord (stated_on word row)
stated-word word row = go (after_word word row.tokens) where
  go : (token : Option (List ℕ)) → IsWord (unwrap_or (option_and_then number_of token) 0)
  go None = omega arith
  go (Some token) = spelled-word token

only-word : (first : Option ℕ) (rest : Option (List ℕ)) → IsWord (unwrap_or first 0)
    → IsWord (unwrap_or (only_number (option_and_then (λ n. option_map (λ ns. n ∷ ns) rest) first)) 0)
only-word None rest word = word
only-word (Some n) None word = omega arith
only-word (Some n) (Some []) word = word
only-word (Some n) (Some (m ∷ ms)) word = omega arith

one-word : (tokens : List (List ℕ)) → IsWord (unwrap_or (only_number (numbers_of tokens)) 0)
unfolding numbers_of
one-word [] = omega arith
one-word (token ∷ tokens) = only-word (number_of token) (numbers_of tokens) (spelled-word token)

-- ---- tests that hold

-- of three tests that hold, the third
third : {K : Type 0} (a b c : Bool) (r s t : Refusal K) → first_failure (test a r ∷ test b s ∷ test c t ∷ []) ≡ None → c ≡ true
third a b c r s t none = (passes _ _ _ (passes _ _ _ (passes _ _ _ none).1).1).0

join-test : (row : Row) → first_failure (join_tests row) ≡ None → IsPlace (one_on row)
join-test row passed =
    let both = and_parts (leb 1 (one_on row)) (leb (one_on row) most_number) (passes _ _ _ (passes _ _ _ passed).1).0 in
    (leb-true _ _ both.0, leb-true _ _ both.1)

fence-test : (row : Row) → first_failure (fence_tests row) ≡ None → IsFenceWithin (fence_on row)
fence-test row passed =
    let both = and_parts (leb (fence_on row).from most_number) (leb (fence_on row).to most_number) (passes _ _ _ (passes _ _ _ passed).1).0 in
    (leb-true _ _ both.0, leb-true _ _ both.1)

-- ---- what holds after lines that pass

workers-within : (count room : ℕ) → count ≤ most_workers → IsWord room → AreWorkersWithin (workers_stated count room)
workers-within zero room few word = tt
workers-within (suc n) room few word = rw (ne_eqb (suc n) 0 (λ z. omega arith)) (omega arith, few, word)

-- what the stage adds
abbrev At : Stage → Stated → Type 0
At stages.Header s = s.room ≡ 0
At stages.Bound s = s.room ≡ 0
At stages.Workers s = s.room ≡ 0
At stages.Room s = s.workers ≤ most_workers
At stages.Joins s = s.count ≤ most_tasks
At stages.Fences s = s.count ≤ most_positions
At stages.Amounts s = s.count ≤ most_positions
At _ s = Unit {0}

-- the lines so far state what can be printed
abbrev IsSoFar : Stated → Type 0
IsSoFar s = IsPrintable (certificate_stated s)

abbrev Holds : Stated → Type 0
Holds s = IsSoFar s × At s.stage s

joins-passed : (s : Stated) (row : Row) → s.stage ≡ stages.Joins → IsSoFar s → s.count ≤ most_tasks
    → first_failure (staged_tests stages.Joins s row) ≡ None → Holds (staged_next stages.Joins s row)
joins-passed s row stage so few = go (ltb (length s.joins) s.count) refl where
  go : (b : Bool) → ltb (length s.joins) s.count ≡ b → first_failure (cond b (join_tests row) (fences_section_tests row)) ≡ None
      → Holds (cond b (with_join s row) (fences_next s row))
  go true e passed =
      let lt = ltb-true _ _ e in (
        record {
          bound = so.bound;
          workers = so.workers;
          joins = (
            omega (arith, length_push s.joins (one_on row)),
            All-push IsPlace s.joins (one_on row) so.joins.1 (join-test row passed),
          );
          fences = so.fences;
          amounts = so.amounts;
        },
        subst (λ (st : Stage). At st (with_join s row)) (sym stage) few,
      )
  go false e passed = (so, leb-true _ _ (third _ _ _ _ _ _ passed))

fences-passed : (s : Stated) (row : Row) → s.stage ≡ stages.Fences → IsSoFar s → s.count ≤ most_positions
    → first_failure (staged_tests stages.Fences s row) ≡ None → Holds (staged_next stages.Fences s row)
fences-passed s row stage so few = go (ltb (length s.fences) s.count) refl where
  go : (b : Bool) → ltb (length s.fences) s.count ≡ b → first_failure (cond b (fence_tests row) (amounts_section_tests row)) ≡ None
      → Holds (cond b (with_fence s row) (amounts_next s row))
  go true e passed =
      let lt = ltb-true _ _ e in (
        record {
          bound = so.bound;
          workers = so.workers;
          joins = so.joins;
          fences = (
            omega (arith, length_push s.fences (fence_on row)),
            All-push IsFenceWithin s.fences (fence_on row) so.fences.1 (fence-test row passed),
          );
          amounts = so.amounts;
        },
        subst (λ (st : Stage). At st (with_fence s row)) (sym stage) few,
      )
  go false e passed = (so, leb-true _ _ (third _ _ _ _ _ _ passed))

amounts-passed : (s : Stated) (row : Row) → s.stage ≡ stages.Amounts → IsSoFar s → s.count ≤ most_positions
    → first_failure (staged_tests stages.Amounts s row) ≡ None → Holds (staged_next stages.Amounts s row)
amounts-passed s row stage so few = go (ltb (length s.amounts) s.count) refl where
  go : (b : Bool) → ltb (length s.amounts) s.count ≡ b → first_failure (cond b (amount_tests row) (last_tests kinds.NoEnd row)) ≡ None
      → Holds (cond b (with_amount s row) (record s { stage = stages.Ended }))
  go true e passed =
      let lt = ltb-true _ _ e in (
        record {
          bound = so.bound;
          workers = so.workers;
          joins = so.joins;
          fences = so.fences;
          amounts = (
            omega (arith, length_push s.amounts (one_on row)),
            All-push IsWord s.amounts (one_on row) so.amounts.1 (one-word row.tokens),
          );
        },
        subst (λ (st : Stage). At st (with_amount s row)) (sym stage) few,
      )
  go false e passed = (so, tt)

line-passed : (stage : Stage) (s : Stated) (row : Row) → s.stage ≡ stage → IsSoFar s
    → At stage s → first_failure (staged_tests stage s row) ≡ None → Holds (staged_next stage s row)
line-passed stages.Header s row e so at passed = (so, at)
line-passed stages.Bound s row e so at passed =
    let bound = stated-word (codes "bound") row in
    (record { bound = bound; workers = so.workers; joins = so.joins; fences = so.fences; amounts = so.amounts }, at)
line-passed stages.Workers s row e so at passed =
    let count = stated_on (codes "workers") row in
    let fresh : IsWord s.room = omega (arith, at) in
    let few = leb-true _ _ (third _ _ _ _ _ _ passed) in
    let workers = workers-within count s.room few fresh in
    (record { bound = so.bound; workers = workers; joins = so.joins; fences = so.fences; amounts = so.amounts }, few)
line-passed stages.Room s row e so at passed =
    let workers = workers-within s.workers (stated_on (codes "room") row) at (stated-word (codes "room") row) in
    (record { bound = so.bound; workers = workers; joins = so.joins; fences = so.fences; amounts = so.amounts }, tt)
line-passed stages.JoinsSection s row e so at passed = (so, leb-true _ _ (third _ _ _ _ _ _ passed))
line-passed stages.Joins s row e so at passed = joins-passed s row e so at passed
line-passed stages.Fences s row e so at passed = fences-passed s row e so at passed
line-passed stages.Amounts s row e so at passed = amounts-passed s row e so at passed
line-passed stages.Ended s row e so at passed = absurd cc

rows-passed : (all before rest : List Row) → all ≡ before ++ rest → ArePassed fences_format all → Holds (stated before) → Holds (stated all)
rows-passed all before [] e passed holds = subst (λ (rs : List Row). Holds (stated rs)) (sym (e ∙ append-nil before)) holds
rows-passed all before (row ∷ rest) e passed holds =
    let s = stated before in
    rows-passed all (before ++ row ∷ []) rest (e ∙ sym (append_assoc before (row ∷ []) rest)) passed
    (subst Holds (sym (stated_push before row)) (line-passed s.stage s row refl holds.0 holds.1 (passed before rest row e)))

begins : Holds (stated [])
unfolding stated
begins = (
  record {
    bound = omega arith;
    workers = tt;
    joins = (omega arith, All-nil IsPlace);
    fences = (omega arith, All-nil IsFenceWithin);
    amounts = (omega arith, All-nil IsWord);
  },
  refl,
)

pub reads-printable : (bytes : List ℕ) (certificate : Certificate) → ReadsFences bytes certificate → IsPrintable certificate
reads-printable bytes certificate reads =
    let rows = rows_of_bytes Commented bytes in
    subst IsPrintable (sym reads.stated) (rows-passed rows [] rows refl reads.form.lines begins).0
