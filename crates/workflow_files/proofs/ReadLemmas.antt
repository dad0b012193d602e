-- What a workflow file reads as is one term within the limits; it is read or refused, and never both.
use Rattle.std.proofs.Common.{◌≡◌, ℕ, ◌-◌, Bool, true, false, ◌||◌, List, [], ◌∷◌, ◌++◌, length, length-append, take}
use Rattle.std.proofs.Common.{map, refl, sym, ap, subst, ◌∙◌, arith, None, append_assoc, append-nil, inl, inr}
use Rattle.std.specs.Prelude.{◌⊎◌}
use Rattle.std.specs.List.{sum_by, list_any}
use Rattle.std.proofs.lemmas.List.{map_push}
use Rattle.std.proofs.lemmas.List.Elements.{All-nil}
use Rattle.std.proofs.Math.Seq.{take-append_seam}
use Rattle.std.proofs.lemmas.List.Folds.{list_any-append}
use Rattle.std.proofs.Math.Bool.{or-false}
use Rattle.std.proofs.lemmas.Bool.{or_parts}
use Rattle.mp_text.specs.declared.layout.Layout.TheVariants.{Commented}
use Rattle.mp_text.specs.declared.refusals.Refusal.{Refusal}
use Rattle.file_frame.specs.declared.version.Version.{Version}
use Rattle.mp_text.specs.Text.{Row}
use Rattle.mp_text.specs.Ahead.{rows_of_bytes, past_of_bytes}
use Rattle.mp_text.specs.Grammar.{ArePassed, first_failure}
use Rattle.workflow_files.specs.declared.kind.WorkflowKind.{WorkflowKind}
use Rattle.sp_terms.specs.declared.position.Position.{Position}
use Rattle.sp_terms.specs.Values.{stack_of, added_tasks, added_size, Leaves, IsTerms, IsWithinLimits}
use Rattle.sp_terms.specs.Builder.{IsPosition, is_short, limit_of, is_overshared}
use Rattle.sp_terms.specs.Ends.{IsBuilder, all_ends}
use Rattle.workflow_files.specs.WorkflowFile.{workflow_format, workflow_version, position_of, position_tests, begins_end}
use Rattle.workflow_files.specs.WorkflowFile.{is_workflow_complete, positions_stated, ReadsWorkflow, RefusesWorkflow}
use Rattle.sp_terms.proofs.BuilderLemmas.{height, over_same, builder_more, one_term}
use Rattle.file_frame.proofs.TestLemmas.{SomeOutcome}

-- ---- one line

-- what the tests of a line say of its position
record IsTakeable (ps : List Position) (p : Position) : Type 0 where
  asked : IsPosition p
  enough : is_short (length (stack_of ps)) p ≡ false
  limit : limit_of ps p ≡ None
  share : is_overshared p (stack_of ps) ≡ false

position_passed : (version : Version) (count : ℕ) (ps : List Position) (row : Row)
    → first_failure (position_tests version count ps row) ≡ None → IsTakeable ps (position_of version row)
position_passed version count ps row none = grind arith

builder : (ps : List Position) → Leaves ps (stack_of ps)
    → IsBuilder ps (all_ends (stack_of ps)) (sum_by added_tasks ps) (sum_by added_size ps)
builder ps leaves = record { leave = leaves; ends_are = refl; tasks_are = refl; total_is = refl }

line_taken : (version : Version) (count : ℕ) (ps : List Position) (row : Row)
    → Leaves ps (stack_of ps) → first_failure (position_tests version count ps row) ≡ None
    → Leaves (ps ++ position_of version row ∷ []) (stack_of (ps ++ position_of version row ∷ []))
line_taken version count ps row leaves none =
    let p = position_of version row in
    let can = position_passed version count ps row none in
    let short : is_short (length (all_ends (stack_of ps))) p ≡ false =
    ap (λ (n : ℕ). is_short n p) (height _ _ _ _ (builder ps leaves)) ∙ can.enough in
    (builder_more _ _ _ _ p (builder ps leaves) can.asked short can.limit (over_same p (stack_of ps) can.enough ∙ can.share)).leave

-- ---- the lines after the second

abbrev StackLeft : List Position → Type 0
StackLeft ps = Leaves ps (stack_of ps)

none_left : StackLeft []
none_left =
    record { is = refl; allowed = tt; within = All-nil IsWithinLimits; few = omega arith; few_tasks = omega arith; total = omega arith }

module _ (header counted last : Row) (rows : List Row)
    (passed : ArePassed workflow_format (header ∷ counted ∷ (rows ++ last ∷ []))) (unended : list_any begins_end rows ≡ false) where
  stated : List Row → List Position
  stated = map (position_of (workflow_version header))

  all_taken : (before after : List Row) → rows ≡ before ++ after → StackLeft (stated before) → StackLeft (stated rows)
  unfolding stated
  all_taken before [] e leaves = subst (λ (rs : List Row). StackLeft (stated rs)) (sym (e ∙ append-nil before)) leaves
  all_taken before (row ∷ after) e leaves =
      let split : rows ++ last ∷ [] ≡ before ++ row ∷ (after ++ last ∷ []) =
      ap (λ (rs : List Row). rs ++ last ∷ []) e ∙ append_assoc before (row ∷ after) (last ∷ []) in
      let none = passed (header ∷ counted ∷ before) (after ++ last ∷ []) row (ap (λ (rs : List Row). header ∷ counted ∷ rs) split) in
      let sides = or_parts (list_any begins_end before) (list_any begins_end (row ∷ after))
      (sym (list_any-append begins_end before (row ∷ after)) ∙ ap (list_any begins_end) (sym e) ∙ unended) in
      let own = or_parts (begins_end row) (list_any begins_end after) sides.1 in
      all_taken (before ++ row ∷ []) after (e ∙ sym (append_assoc before (row ∷ []) after))
      (subst StackLeft (sym (map_push (position_of (workflow_version header)) before row))
      (line_taken (workflow_version header) _ (stated before) row leaves (rw (sides.0, own.0) at none)))

  is_terms : begins_end last ≡ true → IsTerms (map (position_of (workflow_version header)) rows)
  unfolding stated
  is_terms ended =
      let none = passed (header ∷ counted ∷ rows) [] last refl in
      let one : length (stack_of (map (position_of (workflow_version header)) rows)) ≡ 1 = grind arith in
      let leaves = all_taken [] rows refl none_left in
      one_term _ _ _ _ (builder (stated rows) leaves) (height _ _ _ _ (builder (stated rows) leaves) ∙ one)

-- ---- the whole file

-- a header, a count, position lines, and the line that ends them
record AreParts (all : List Row) : Type 0 where
  header : Row
  counted : Row
  rows : List Row
  last : Row
  all_are : all ≡ header ∷ counted ∷ (rows ++ last ∷ [])
  unended : list_any begins_end rows ≡ false
  ended : begins_end last ≡ true

-- a list with an element ends with one
ends_with : {X : Type 0} (x : X) (xs : List X) → (front : List X) × (last : X) × (x ∷ xs ≡ front ++ last ∷ [])
ends_with x [] = ([], x, refl)
ends_with x (y ∷ xs) = let (front, last, e) = ends_with y xs in (x ∷ front, last, ap (λ zs. x ∷ zs) e)

ends_once : (header counted last : Row) (rows : List Row) → ArePassed workflow_format (header ∷ counted ∷ (rows ++ last ∷ []))
    → list_any begins_end (rows ++ last ∷ []) ≡ true → AreParts (header ∷ counted ∷ (rows ++ last ∷ []))
ends_once header counted last rows passed e = go (list_any begins_end rows) refl
  where
    go : (b : Bool) → list_any begins_end rows ≡ b → AreParts (header ∷ counted ∷ (rows ++ last ∷ []))
    go true is = absurd (let none = passed (header ∷ counted ∷ rows) [] last refl in let fails = rw is at none in cc)
    go false is =
        let any : (list_any begins_end rows || (begins_end last || false)) ≡ true = sym (list_any-append begins_end rows (last ∷ [])) ∙ e in
        let ended : (begins_end last || false) ≡ true = rw is at any in
        record {
          header = header;
          counted = counted;
          rows = rows;
          last = last;
          all_are = refl;
          unended = is;
          ended = sym (or-false (begins_end last)) ∙ ended;
        }

parts_of : (all : List Row) → ArePassed workflow_format all → is_workflow_complete all ≡ true → AreParts all
parts_of [] passed e = absurd cc
parts_of (header ∷ []) passed e = absurd cc
parts_of (header ∷ counted ∷ []) passed e = absurd cc
parts_of (header ∷ counted ∷ r ∷ rs) passed e =
    let (rows, last, split) = ends_with r rs in
    subst (λ (xs : List Row). ArePassed workflow_format (header ∷ counted ∷ xs)
    → list_any begins_end xs ≡ true → AreParts (header ∷ counted ∷ xs))
    (sym split) (ends_once header counted last rows) passed e

pub stated_parts : (header counted last : Row) (rows : List Row)
    → positions_stated (header ∷ counted ∷ (rows ++ last ∷ [])) ≡ map (position_of (workflow_version header)) rows
stated_parts header counted last rows =
    let len : length (rows ++ last ∷ []) - 1 ≡ length rows = omega (arith, length-append rows (last ∷ [])) in
    ap (map (position_of (workflow_version header))) (ap (λ (n : ℕ). take n (rows ++ last ∷ [])) len ∙ take-append_seam rows (last ∷ []))

pub reads-terms : (bytes : List ℕ) (ps : List Position) → ReadsWorkflow bytes ps → IsTerms ps
reads-terms bytes ps reads =
    let end = reads.form.end in
    let parts = parts_of (rows_of_bytes Commented bytes) reads.form.lines (grind arith) in
    let is = reads.stated ∙ ap positions_stated parts.all_are ∙ stated_parts parts.header parts.counted parts.last parts.rows in
    subst IsTerms (sym is)
    (is_terms parts.header parts.counted parts.last parts.rows
    (subst (ArePassed workflow_format) parts.all_are reads.form.lines) parts.unended parts.ended)

-- ---- a file is read or refused

pub read_or_refused : SomeOutcome WorkflowKind → (bytes : List ℕ)
    → ((ps : List Position) × ReadsWorkflow bytes ps) ⊎ ((refusal : Refusal WorkflowKind) × RefusesWorkflow bytes refusal)
read_or_refused outcome bytes =
    elim (outcome workflow_format (rows_of_bytes Commented bytes) (past_of_bytes bytes)) [
      | inl form ↦ inl (positions_stated (rows_of_bytes Commented bytes), record { form = form; stated = refl })
      | inr refused ↦ inr refused
    ]
