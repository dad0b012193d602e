-- A printed workflow is read as it was.
use Rattle.std.proofs.Common.{◌≡◌, ℕ, ◌+◌, ◌≤◌, Bool, true, false, cond, List, [], ◌∷◌, ◌++◌, length, map}
use Rattle.std.proofs.Common.{refl, sym, ap, subst, ◌∙◌, arith, Some, None, append_assoc, append-nil}
use Rattle.std.specs.Bool.{IsTrue}
use Rattle.std.specs.Option.{is_some}
use Rattle.std.specs.List.{sum_by, list_all, list_any}
use Rattle.std.proofs.Math.Bool.{or-true}
use Rattle.std.proofs.lemmas.Bool.{and_from, le-leb, eq-eqb, eqb-true, not-false, or_parts}
use Rattle.std.proofs.lemmas.List.{map_push}
use Rattle.std.proofs.lemmas.List.Elements.{All-nil, All-cons}
use Rattle.std.proofs.lemmas.List.Folds.{list_any-append}
use Rattle.limits.specs.Limits.{most_tasks, most_total}
use Rattle.mp_text.specs.declared.layout.Layout.TheVariants.{Commented}
use Rattle.file_frame.specs.declared.version.Version.{Version}
use Rattle.file_frame.specs.declared.version.Version.TheVariants.{One, Two}
use Rattle.mp_text.specs.Text.{Row}
use Rattle.file_frame.specs.Words.{after_word}
use Rattle.mp_text.specs.Ahead.{rows_of_bytes}
use Rattle.mp_text.specs.Comments.{is_comment_line}
use Rattle.mp_text.specs.Grammar.{first_failure, ArePassed}
use Rattle.mp_text.specs.Report.{is_counted, numbered_from, text_of_lines}
use Rattle.sp_terms.specs.declared.position.Position.{Position}
use Rattle.sp_terms.specs.declared.position.Position.TheVariants.{Hold, Par}
use Rattle.sp_terms.specs.declared.position.Position.TheVariants as at
use Rattle.sp_terms.specs.Term.{Term, count}
use Rattle.sp_terms.specs.Builder.{is_short, limit_of, is_overshared}
use Rattle.sp_terms.specs.Postfix.{push_all}
use Rattle.sp_terms.specs.Values.{stack_from, stack_of, added_size, added_tasks, IsTerms, IsWithinLimits, AllAllowed}
use Rattle.workflow_files.specs.WorkflowFile.{workflow_format, workflow_line_tests, workflow_count_tests, workflow_count, word_spelled}
use Rattle.workflow_files.specs.WorkflowFile.{position_from, position_stated, stated_or, position_of, is_position, is_too_many}
use Rattle.workflow_files.specs.WorkflowFile.{begins_end, is_workflow_complete, positions_stated, ReadsWorkflow}
use Rattle.workflow_files.specs.WorkflowText.{position_word, position_numbers, position_line, workflow_lines, is_sharing}
use Rattle.workflow_files.specs.WorkflowText.{workflow_version_for, workflow_text, workflow_text_2}
use Rattle.workflow_files.proofs.ReadLemmas.{stated_parts}
use Rattle.sp_terms.proofs.Stacks.{onto, Pushed, held, ran, beside}
use Rattle.sp_terms.proofs.Standing.{Standing, standing, not_over, small_share, onto-length, stack_few}
use Rattle.file_frame.specs.Printed.{header_line, section_line, end_line}
use Rattle.file_frame.proofs.PrintedLaws.{AreLaws, IsSmall, AreSmall, all_tokens}
use Rattle.file_frame.proofs.LineLemmas.{header_row, header_passes, header_is, section_is, section_counted}
use Rattle.workflow_files.specs.declared.kind.WorkflowKind.TheVariants as kinds
use Rattle.std.specs.Prelude.{codes}

-- ---- one position

-- what is printed of a position is the position
record IsPrintable (version : Version) (p : Position) : Type 0 where
  numbers : AreSmall (position_numbers version p)
  unshared : version ≡ One → is_sharing p ≡ false

position_row : Version → ℕ → Position → Row
position_row version number p = record { number = number; tokens = position_line version p }

from_numbers : (version : Version) (p : Position) → (version ≡ One → is_sharing p ≡ false)
    → position_from version (word_spelled (position_word p)) (Some (position_numbers version p)) ≡ Some p
from_numbers version (Hold size) unshared = refl
from_numbers One (at.Task extra share time) unshared =
    ap (λ (n : ℕ). Some (at.Task extra n time)) (sym (eqb-true share 0 (not-false _ (unshared refl))))
from_numbers Two (at.Task extra share time) unshared = refl
from_numbers version (Par parts) unshared = refl

position_is : AreLaws → (version : Version) (number : ℕ) (p : Position)
    → IsPrintable version p → position_stated version (position_row version number p) ≡ Some p
unfolding position_row
position_is laws version number p fits =
    ap (position_from version (word_spelled (position_word p))) (laws.values (position_numbers version p) fits.numbers)
    ∙ from_numbers version p fits.unshared

is_worded : (p : Position) → is_some (word_spelled (position_word p)) ≡ true
is_worded (Hold size) = refl
is_worded (at.Task extra share time) = refl
is_worded (Par parts) = refl

not_end : (version : Version) (number : ℕ) (p : Position) → begins_end (position_row version number p) ≡ false
unfolding position_row
not_end version number (Hold size) = refl
not_end version number (at.Task extra share time) = refl
not_end version number (Par parts) = refl

is_line : AreLaws → (version : Version) (p : Position) → AreSmall (position_numbers version p)
    → is_counted Commented (position_line version p) ≡ true
is_line laws version (Hold size) small = and_from _ _ (all_tokens laws (position_numbers version (Hold size)) small) refl
is_line laws version (at.Task extra share time) small =
    and_from _ _ (all_tokens laws (position_numbers version (at.Task extra share time)) small) refl
is_line laws version (Par parts) small = and_from _ _ (all_tokens laws (position_numbers version (Par parts)) small) refl

-- ---- a position within a list that denotes a term

-- it passes the tests
record IsFit (total : ℕ) (first : List Position) (p : Position) : Type 0 where
  asked : is_position p ≡ true
  high : is_short (length (stack_of first)) p ≡ false
  few : is_too_many total (sum_by added_tasks first) p ≡ false
  limit : limit_of first p ≡ None
  share : is_overshared p (stack_of first) ≡ false

module _ (ps first : List Position) (p : Position) (terms : IsTerms ps) (stands : Standing ps first p) where
  is_fit : IsFit (sum_by added_tasks ps) first p
  is_fit = go p stands.stack stands.after stands.step stands.before stands.allowed stands.within stands.total stands.tasks
    where
      go : (p : Position) (stack after : List Term) → Pushed p stack after → push_all first [] ≡ Some stack
          → AllAllowed after → IsWithinLimits p → sum_by added_size first + added_size p ≤ most_total
          → sum_by added_tasks first + added_tasks p ≤ sum_by added_tasks ps → IsFit (sum_by added_tasks ps) first p
      go p stack after (held size st) before allowed within total tasks = let few = stands.few in grind arith
      go p stack after (ran v a b st) before allowed within total tasks =
          let few = stands.few in let few_tasks = terms.few_tasks in
          let two = ap length (ap stack_from before) in let share = not_over first v a b st before allowed.0 in grind arith
      go p stack after (beside ts st e) before allowed within total tasks =
          let few = stands.few in let all = ap length (ap stack_from before) in let parts = onto-length ts st in grind arith

  pub small_numbers : (version : Version) → AreSmall (position_numbers version p)
  small_numbers version = go version p stands.stack stands.after stands.step stands.before stands.allowed stands.within stands.total
    where
      go : (version : Version) (p : Position) (stack after : List Term) → Pushed p stack after
          → push_all first [] ≡ Some stack → AllAllowed after → IsWithinLimits p
          → sum_by added_size first + added_size p ≤ most_total → AreSmall (position_numbers version p)
      go version p stack after (held size st) before allowed within total =
          All-cons IsSmall size [] (omega (arith, within)) (All-nil IsSmall)
      go One p stack after (ran v a b st) before allowed within total = All-cons IsSmall v.extra (v.time ∷ [])
          (omega (arith, within.0)) (All-cons IsSmall v.time [] (omega (arith, within.2)) (All-nil IsSmall))
      go Two p stack after (ran v a b st) before allowed within total =
          All-cons IsSmall v.extra (v.share ∷ v.time ∷ []) (omega (arith, within.0))
          (All-cons IsSmall v.share (v.time ∷ []) (small_share first v a b st before allowed.0 (omega (arith, total)))
          (All-cons IsSmall v.time [] (omega (arith, within.2)) (All-nil IsSmall)))
      go version p stack after (beside ts st e) before allowed within total = All-cons IsSmall (count ts) []
          (omega (arith, stands.few, stack_few first (onto ts st) before, onto-length ts st)) (All-nil IsSmall)

-- ---- the first two lines

header_counts : (version : Version) → is_counted Commented (header_line (codes "workflow") version) ≡ true
header_counts One = refl
header_counts Two = refl

count_row : ℕ → Row
count_row total = record { number = 2; tokens = section_line (codes "tasks") total }

count_passes : AreLaws → (total : ℕ) → total ≤ most_tasks → first_failure (workflow_count_tests (count_row total)) ≡ None
unfolding count_row after_word
count_passes laws total few = rw (laws.value total (omega arith), le-leb total most_tasks few) refl

count_is : AreLaws → (total : ℕ) → total ≤ most_tasks → workflow_count (count_row total) ≡ total
unfolding count_row
count_is laws total few = section_is laws (codes "tasks") 2 total refl (omega arith)

-- ---- all lines

Passes : List Row → Row → Type 0
Passes before row = first_failure (workflow_line_tests before row) ≡ None

-- rows that pass after others, one after another
abbrev AllPass : List Row → List Row → Type 0
AllPass before [] = Unit {0}
AllPass before (row ∷ rows) = Passes before row × AllPass (before ++ row ∷ []) rows

all_passed : (before rows : List Row) → AllPass before rows
    → (first rest : List Row) (row : Row) → rows ≡ first ++ row ∷ rest → Passes (before ++ first) row
all_passed before [] pass [] rest row e = absurd cc
all_passed before [] pass (f ∷ first) rest row e = absurd cc
all_passed before (r ∷ rows) pass [] rest row e =
    let same : r ≡ row = cc in
    subst (λ (b : List Row). Passes b row) (sym (append-nil before)) (subst (Passes before) same pass.0)
all_passed before (r ∷ rows) pass (f ∷ first) rest row e =
    let same : r ≡ f = cc in
    let tail : rows ≡ first ++ row ∷ rest = cc in
    subst (λ (b : List Row). Passes b row) (append_assoc before (r ∷ []) first ∙ ap (λ (x : Row). before ++ x ∷ first) same)
    (all_passed (before ++ r ∷ []) rows pass.1 first rest row tail)

module _ (laws : AreLaws) (version : Version) (ps : List Position)
    (terms : IsTerms ps) (unshared : version ≡ One → list_any is_sharing ps ≡ false) where
  abbrev header : Row
  header = header_row (codes "workflow") version

  abbrev counted : Row
  counted = count_row (sum_by added_tasks ps)

  counted_is : workflow_count counted ≡ sum_by added_tasks ps
  counted_is = count_is laws (sum_by added_tasks ps) terms.few_tasks

  printable : (first : List Position) (p : Position) (rest : List Position) → ps ≡ first ++ p ∷ rest → IsPrintable version p
  printable first p rest e = record {
    numbers = small_numbers ps first p terms (standing ps first p rest terms e) version;
    unshared = λ one.
        let none = sym (list_any-append is_sharing first (p ∷ rest)) ∙ ap (list_any is_sharing) (sym e) ∙ unshared one in
        (or_parts _ _ (or_parts _ _ none).1).0;
  }

  -- the rows of the positions that are left and of the end, after those of the others
  record ArePrinted (before : List Row) (number : ℕ) (rest : List Position) : Type 0 where
    rows : List Row
    last : Row
    rows_are : numbered_from number (map (position_line version) rest ++ end_line ∷ []) ≡ rows ++ last ∷ []
    state : map (position_of version) rows ≡ rest
    ended : begins_end last ≡ true
    pass : AllPass (header ∷ counted ∷ before) (numbered_from number (map (position_line version) rest ++ end_line ∷ []))
    lines : list_all (is_counted Commented) (map (position_line version) rest ++ end_line ∷ []) ≡ true

  last_passes : (before : List Row) (number : ℕ) → map (position_of version) before ≡ ps
      → list_any begins_end before ≡ false → Passes (header ∷ counted ∷ before) (record { number = number; tokens = end_line })
  unfolding Passes
  last_passes before number state unended =
      rw (
        unended,
        header_is (codes "workflow") version refl,
        counted_is,
        state,
        eq-eqb _ _ (ap length (ap stack_from terms.is)),
        eq-eqb (sum_by added_tasks ps) _ refl,
      ) refl

  position_passes : (before : List Row) (number : ℕ) (first : List Position) (p : Position) (rest : List Position)
      → ps ≡ first ++ p ∷ rest → map (position_of version) before ≡ first → list_any begins_end before ≡ false
      → Passes (header ∷ counted ∷ before) (position_row version number p)
  unfolding Passes position_row
  position_passes before number first p rest e state unended =
      let fit = is_fit ps first p terms (standing ps first p rest terms e) in
      let is = position_is laws version number p (printable first p rest e) in
      rw (
        unended,
        not_end version number p,
        header_is (codes "workflow") version refl,
        counted_is,
        state,
        is,
        fit.asked,
        fit.high,
        fit.few,
        fit.limit,
        fit.share,
        is_worded p,
      ) refl

  printed : (before : List Row) (number : ℕ) (first rest : List Position) → ps ≡ first ++ rest
      → map (position_of version) before ≡ first → list_any begins_end before ≡ false → ArePrinted before number rest
  unfolding position_row
  printed before number first [] e state unended = record {
    rows = [];
    last = record { number = number; tokens = end_line };
    rows_are = refl;
    state = refl;
    ended = refl;
    pass = (last_passes before number (state ∙ sym (e ∙ append-nil first)) unended, tt);
    lines = refl;
  }
  printed before number first (p ∷ rest) e state unended =
      let row = position_row version number p in
      let fits = printable first p rest e in
      let is : position_of version row ≡ p = ap stated_or (position_is laws version number p fits) in
      let more = printed (before ++ row ∷ []) (number + 1) (first ++ p ∷ []) rest (e ∙ sym (append_assoc first (p ∷ []) rest))
      (map_push (position_of version) before row ∙ (λ i. state i ++ is i ∷ []))
      (list_any-append begins_end before (row ∷ []) ∙ rw (unended, not_end version number p) refl) in
      record {
        rows = row ∷ more.rows;
        last = more.last;
        rows_are = ap (λ (rs : List Row). row ∷ rs) more.rows_are;
        state = λ i. is i ∷ more.state i;
        ended = more.ended;
        pass = (position_passes before number first p rest e state unended, more.pass);
        lines = and_from _ _ (is_line laws version p fits.numbers) more.lines;
      }

  -- a text that has just the lines that are printed is read as the positions
  pub printed-reads : (text : List ℕ)
      → (list_all (is_counted Commented) (workflow_lines version ps) ≡ true
      → rows_of_bytes Commented text ≡ numbered_from 1 (workflow_lines version ps))
      → ReadsWorkflow text ps
  unfolding count_row Passes
  printed-reads text has =
      let body = printed [] 3 [] ps refl refl refl in
      let all = header ∷ counted ∷ (body.rows ++ body.last ∷ []) in
      let count_counts : is_counted Commented (section_line (codes "tasks") (sum_by added_tasks ps)) ≡ true =
      section_counted laws (codes "tasks") (sum_by added_tasks ps) refl refl (omega (arith, terms.few_tasks)) in
      let read : rows_of_bytes Commented text ≡ all =
      has (and_from _ _ (header_counts version) (and_from _ _ count_counts body.lines))
      ∙ ap (λ (rs : List Row). header ∷ counted ∷ rs) body.rows_are in
      let pass : AllPass [] all = (
        header_passes (codes "workflow") kinds.Header version refl,
        (count_passes laws (sum_by added_tasks ps) terms.few_tasks, subst (AllPass (header ∷ counted ∷ [])) body.rows_are body.pass),
      ) in
      let complete : is_workflow_complete all ≡ true =
      list_any-append begins_end body.rows (body.last ∷ []) ∙ rw body.ended (or-true (list_any begins_end body.rows)) in
      record {
        form = record {
          lines = subst (ArePassed workflow_format) (sym read) (λ before after row. all_passed [] all pass before after row);
          end = rw (ap is_workflow_complete read ∙ complete) refl;
        };
        stated = sym (ap positions_stated read ∙ stated_parts header counted body.last body.rows
            ∙ ap (λ (v : Version). map (position_of v) body.rows) (header_is (codes "workflow") version refl) ∙ body.state);
      }

-- ---- both versions

-- version 1 is taken only where no task has a share
one_unshared : (b : Bool) → cond b Two One ≡ One → b ≡ false
one_unshared true is = absurd cc
one_unshared false is = refl

pub workflow_text-reads : AreLaws → (ps : List Position) → IsTerms ps → ReadsWorkflow (workflow_text ps) ps
workflow_text-reads laws ps terms =
    let version = workflow_version_for ps in
    printed-reads laws version ps terms (one_unshared (list_any is_sharing ps))
    (workflow_text ps) (laws.rows Commented (workflow_lines version ps))

pub workflow_text_2-reads : AreLaws → (ps : List Position) → IsTerms ps → ReadsWorkflow (workflow_text_2 ps) ps
workflow_text_2-reads laws ps terms =
    printed-reads laws Two ps terms (λ never. absurd cc) (workflow_text_2 ps) (laws.rows Commented (workflow_lines Two ps))

-- ---- with comments after the last line

pub commented-reads : AreLaws
    → ((xs ys : List (List (List ℕ))) → text_of_lines (xs ++ ys) ≡ text_of_lines xs ++ text_of_lines ys)
    → ((lines comments : List (List (List ℕ))) → IsTrue (list_all (is_counted Commented) lines) → IsTrue (list_all is_comment_line comments)
    → rows_of_bytes Commented (text_of_lines (lines ++ comments)) ≡ numbered_from 1 lines)
    → (ps : List Position) (comments : List (List (List ℕ))) → IsTerms ps → IsTrue (list_all is_comment_line comments)
    → ReadsWorkflow (workflow_text ps ++ text_of_lines comments) ps
commented-reads laws parts rows ps comments terms are =
    let version = workflow_version_for ps in
    printed-reads laws version ps terms (one_unshared (list_any is_sharing ps)) (workflow_text ps ++ text_of_lines comments)
    (λ counted. ap (rows_of_bytes Commented) (sym (parts (workflow_lines version ps) comments))
    ∙ rows (workflow_lines version ps) comments counted are)
