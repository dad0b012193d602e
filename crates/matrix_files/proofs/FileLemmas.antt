-- What a well-formed matrix file states, and that each file is read or refused.
use Rattle.std.proofs.Common.{◌≡◌, ℕ, suc, ◌<◌, ◌≤◌, ◌⊎◌, inl, inr, Bool, true, false, cond, eqb, List, [], ◌∷◌, ◌++◌}
use Rattle.std.proofs.Common.{length, get_or, take, drop, map, Option, Some, None, refl, sym, ap, ◌∙◌, arith, All}
use Rattle.std.proofs.Math.Seq.{drop-cons}
use Rattle.std.proofs.lemmas.Bool.{and_parts, leb-true, eqb-true}
use Rattle.std.proofs.lemmas.List.{length-map, get_or-map, take-append-drop}
use Rattle.limits.specs.Limits.{most_order, most_entries}
use Rattle.mp_text.specs.declared.refusals.Refusal.{Refusal}
use Rattle.mp_text.specs.Text.{Row}
use Rattle.mp_text.specs.declared.layout.Layout.TheVariants.{Banner}
use Rattle.mp_text.specs.Ahead.{rows_of_bytes, past_of_bytes}
use Rattle.mp_text.specs.Grammar.{Format, fault_at, first_failure, ArePassed, IsWellFormed, Refuses}
use Rattle.patterns.specs.Pattern.{IsPairWithin}
use Rattle.patterns.specs.Plain.{plain_rows}
use Rattle.matrix_files.specs.MatrixFile.{matrix_format, matrix_end_tests, size_tests, entry_tests, values_stated, size_of}
use Rattle.matrix_files.specs.MatrixFile.{pair_of, order_stated, pairs_stated, is_index, ReadsPattern, RefusesPattern}
use Rattle.matrix_files.specs.declared.kind.MatrixKind.{MatrixKind}
use Rattle.matrix_files.specs.declared.kind.MatrixKind.TheVariants as kinds
use Rattle.patterns.proofs.SameRows.{plain_pattern}
use Rattle.lists.proofs.Bools.{positive}

pub passes : {K : Type 0} (holds : Bool) (rest : Option (Refusal K)) (refusal : Refusal K)
    → cond holds rest (Some refusal) ≡ None → (holds ≡ true) × (rest ≡ None)
passes true rest refusal none = (refl, none)
passes false rest refusal none = absurd cc

size_passed : (size : Row) → first_failure (size_tests size) ≡ None
    → (1 ≤ (size_of size).rows) × ((size_of size).rows ≤ most_order) × ((size_of size).entries ≤ most_entries)
size_passed size none =
    let one = passes _ _ _ none in
    let two = passes _ _ _ one.1 in
    let three = passes _ _ _ two.1 in
    let numbers = and_parts _ _ one.0 in
    let some = and_parts _ _ numbers.1 in
    let four = passes _ _ _ three.1 in
    (positive (size_of size).rows some.0, leb-true _ _ three.0, leb-true _ _ four.0)

index_within : (order i : ℕ) → is_index order i ≡ true → (1 ≤ i) × (i ≤ order)
index_within order i e = let p = and_parts _ _ e in (leb-true 1 i p.0, leb-true i order p.1)

entry_passed : (values order stated taken : ℕ) (line : Row)
    → first_failure (entry_tests values order stated taken line) ≡ None → IsPairWithin order (pair_of values line)
entry_passed values order stated taken line none =
    let one = passes _ _ _ none in
    let two = passes _ _ _ one.1 in
    let three = passes _ _ _ two.1 in
    let p = and_parts _ _ three.0 in
    (index_within order (pair_of values line).0 p.0, index_within order (pair_of values line).1 p.1)

-- what well-formed lines state
pub record AreWithin (rows : List Row) : Type 0 where
  pub some : 1 ≤ order_stated rows
  pub small : order_stated rows ≤ most_order
  pub few : length (pairs_stated rows) ≤ most_entries
  pub within : All (IsPairWithin (order_stated rows)) (pairs_stated rows)

entries_within : (banner size : Row) (entries : List Row) → ArePassed matrix_format (banner ∷ size ∷ entries)
    → All (IsPairWithin (size_of size).rows) (map (pair_of (values_stated banner)) entries)
entries_within banner size entries passed k d lt =
    let values = values_stated banner in
    let fits : k < length entries = omega (arith, length-map entries (pair_of values)) in
    let line = get_or entries k banner in
    let split : entries ≡ take k entries ++ line ∷ drop (suc k) entries =
    sym (take-append-drop k entries) ∙ ap (λ (l : List Row). take k entries ++ l) (drop-cons entries k banner fits) in
    let here = passed (banner ∷ size ∷ take k entries) (drop (suc k) entries) line (ap (λ (l : List Row). banner ∷ size ∷ l) split) in
    rw (get_or-map (pair_of values) entries k banner d fits)
    (entry_passed values (size_of size).rows (size_of size).entries (length (take k entries)) line here)

pub well_formed_within : (rows : List Row) (past : ℕ) → IsWellFormed matrix_format rows past → AreWithin rows
well_formed_within [] past form = let e = form.end in absurd cc
well_formed_within (banner ∷ []) past form = let e = form.end in absurd cc
well_formed_within (banner ∷ size ∷ entries) past form =
    let passed = size_passed size (form.lines (banner ∷ []) entries size refl) in
    let end : first_failure (matrix_end_tests (banner ∷ size ∷ entries) past) ≡ None = form.end in
    let all = passes (eqb (length entries) (size_of size).entries) None (fault_at past kinds.TooFew) end in
    let few : length entries ≤ most_entries = omega (arith, eqb-true (length entries) (size_of size).entries all.0, passed.2) in
    record {
      some = passed.0;
      small = passed.1;
      few = rw (length-map entries (pair_of (values_stated banner))) few;
      within = entries_within banner size entries form.lines;
    }

-- what the law of formats says
abbrev pub SomeOutcome : Type 0
SomeOutcome = (format : Format MatrixKind) (rows : List Row) (past : ℕ)
    → IsWellFormed format rows past ⊎ ((refusal : Refusal MatrixKind) × Refuses format rows past refusal)

pub read_or_refused : SomeOutcome → (bytes : List ℕ)
    → ((rows : List (List ℕ)) × ReadsPattern bytes rows) ⊎ ((refusal : Refusal MatrixKind) × RefusesPattern bytes refusal)
read_or_refused outcome bytes =
    let lines = rows_of_bytes Banner bytes in
    elim (outcome matrix_format lines (past_of_bytes bytes)) [
      | inr refused ↦ inr refused
      | inl form ↦ (
          let w = well_formed_within lines (past_of_bytes bytes) form in
          inl (
            plain_rows (order_stated lines) (pairs_stated lines),
            record { form = form; pattern = plain_pattern (order_stated lines) (pairs_stated lines) w.within w.some w.small },
          )
          )
    ]
