-- Worked examples: what a file of version 2 states, and files that are refused; a file of version 1.
use Rattle.std.specs.Prelude.{◌≡◌, ℕ, ◌+◌, true, false, List, [], ◌∷◌, ◌++◌, Option, Some, None, map, codes, refl}
use Rattle.std.specs.Fmt.{decimal, digits}
use Rattle.limits.specs.Limits.{most_positions, most_size}
use Rattle.limits.specs.declared.name.LimitName.TheVariants as limits
use Rattle.mp_text.specs.declared.layout.Layout.TheVariants.{Commented}
use Rattle.mp_text.specs.declared.refusals.Refusal.{Refusal}
use Rattle.mp_text.specs.declared.refusals.Refusal.TheVariants as refusals
use Rattle.mp_text.specs.Text.{lines_of, tokens_of, number_of, number_from, numbers_of, rows_from}
use Rattle.mp_text.specs.Ahead.{rows_of_bytes, past_of_bytes}
use Rattle.mp_text.specs.Grammar.{fault_at, first_failure, tests_of_all}
use Rattle.file_frame.specs.Words.{after_word, version_of}
use Rattle.file_frame.specs.Frame.{line_stating}
use Rattle.graphs.specs.Graph.{own_system}
use Rattle.shared_systems.specs.Shared.{SharedTaskSystem}
use Rattle.shared_systems.specs.SharedMemory.{shared_peak_of}
use Rattle.shared_systems.specs.OneReader.{shared_of}
use Rattle.shared_systems.specs.Samples.{task, shared_item}
use Rattle.graph_files.specs.declared.kind.GraphKind.{GraphKind}
use Rattle.graph_files.specs.declared.kind.GraphKind.TheVariants as kinds
use Rattle.graph_files.specs.GraphFile.{stated_by}
use Rattle.shared_graph_files.specs.SharedGraphFile.{system_stated_by, second_line_tests, second_end_tests}
use Rattle.shared_graph_files.specs.EitherVersion.{is_second}

-- ---- what a file states

-- three tasks read one input of size 10
abbrev pub one_input : SharedTaskSystem
one_input = record { tasks = task 1 0 ∷ task 2 0 ∷ task 3 0 ∷ []; items = shared_item 10 None (1 ∷ 2 ∷ 3 ∷ []) ∷ [] }

abbrev pub one_input_file : List ℕ
one_input_file = codes "graph 2\ntasks 3\n1 0 1\n2 0 1\n3 0 1\nitems 1\n10 0 1 2 3\nend\n"

pub one_input_stated : system_stated_by one_input_file ≡ one_input
unfolding lines_of tokens_of number_of number_from rows_from numbers_of version_of after_word
one_input_stated = refl

pub one_input_second : is_second one_input_file ≡ true
unfolding lines_of tokens_of number_of number_from rows_from numbers_of version_of after_word
one_input_second = refl

-- the input is there once, beside the extra of the task that runs
pub one_input_peak : shared_peak_of one_input (1 ∷ 2 ∷ 3 ∷ []) ≡ 13
one_input_peak = refl

-- one arc for each reader is another system, in which it is there three times
abbrev pub three_inputs_file : List ℕ
three_inputs_file = codes "graph 1\ntasks 3\n1 0 1\n2 0 1\n3 0 1\narcs 3\n0 1 10\n0 2 10\n0 3 10\nend\n"

pub three_inputs_stated :
    shared_of (own_system (stated_by three_inputs_file))
    ≡ record {
      tasks = task 1 0 ∷ task 2 0 ∷ task 3 0 ∷ [];
      items = map (λ v. shared_item 10 None (v ∷ [])) (1 ∷ 2 ∷ 3 ∷ []);
    }
unfolding lines_of tokens_of number_of number_from rows_from numbers_of version_of after_word
three_inputs_stated = refl

pub three_inputs_first : is_second three_inputs_file ≡ false
unfolding lines_of tokens_of number_of number_from rows_from numbers_of version_of after_word
three_inputs_first = refl

pub three_inputs_peak : shared_peak_of (shared_of (own_system (stated_by three_inputs_file))) (1 ∷ 2 ∷ 3 ∷ []) ≡ 31
unfolding lines_of tokens_of number_of number_from rows_from numbers_of version_of after_word
three_inputs_peak = refl

-- comments, blanks and leading zeros say nothing; an item may have no reader, and one of size 0 is a mere dependence
pub other_stated :
    system_stated_by (codes "# two tasks\n\n graph 2\r\ntasks 2\n\t0 00 1\n5 4 1\nitems 03\n4 1 2\n0 1\t2\n7 2\nend")
    ≡ record {
      tasks = task 0 0 ∷ task 5 4 ∷ [];
      items = shared_item 4 (Some 1) (2 ∷ []) ∷ shared_item 0 (Some 1) (2 ∷ []) ∷ shared_item 7 (Some 2) [] ∷ [];
    }
unfolding lines_of tokens_of number_of number_from rows_from numbers_of version_of after_word
other_stated = refl

pub stating : line_stating (rows_of_bytes Commented (codes "# two tasks\n\n graph 2\ntasks 2\n0 0 1\n5 4 1\n")) 2 ≡ 6
unfolding lines_of tokens_of number_of number_from rows_from
stating = refl

-- ---- refusals

-- the first test of a file's lines and of its end that fails, if one does
abbrev pub refusal_of : List ℕ → Option (Refusal GraphKind)
refusal_of bytes =
    let rows = rows_of_bytes Commented bytes in
    first_failure (tests_of_all second_line_tests [] rows ++ second_end_tests rows (past_of_bytes bytes))

pub well_formed : refusal_of one_input_file ≡ None
unfolding lines_of tokens_of number_of number_from rows_from numbers_of version_of after_word
well_formed = refl

-- the start of a file with two tasks, up to its items
abbrev pub with_items : List ℕ → List ℕ
with_items rest = codes "graph 2\ntasks 2\n0 0 1\n0 0 1\n" ++ rest

pub without_from : refusal_of (with_items (codes "items 1\n4\nend\n")) ≡ Some (fault_at 6 kinds.Number)
unfolding lines_of tokens_of number_of number_from rows_from numbers_of version_of after_word
without_from = refl

-- a word that is no number comes before a reader that is none
pub with_word : refusal_of (with_items (codes "items 1\n4 1 9 x\nend\n")) ≡ Some (fault_at 6 kinds.Number)
unfolding lines_of tokens_of number_of number_from rows_from numbers_of version_of after_word
with_word = refl

pub twice : refusal_of (with_items (codes "items 1\n4 0 1 1\nend\n")) ≡ Some (fault_at 6 kinds.Item)
unfolding lines_of tokens_of number_of number_from rows_from numbers_of version_of after_word
twice = refl

pub itself : refusal_of (with_items (codes "items 1\n4 1 1 2\nend\n")) ≡ Some (fault_at 6 kinds.Item)
unfolding lines_of tokens_of number_of number_from rows_from numbers_of version_of after_word
itself = refl

-- one more than there may be, and one size greater
pub too_many : refusal_of (with_items (codes "items " ++ decimal (most_positions + 1) ++ codes "\n")) ≡ Some (refusals.Limit limits.Positions)
unfolding digits lines_of tokens_of number_of number_from rows_from numbers_of version_of after_word
too_many = refl

pub too_great : refusal_of (with_items (codes "items 1\n" ++ decimal (most_size + 1) ++ codes " 0 1\n")) ≡ Some (refusals.Limit limits.Size)
unfolding digits lines_of tokens_of number_of number_from rows_from numbers_of version_of after_word
too_great = refl

pub without_end : refusal_of (with_items (codes "items 0\n")) ≡ Some (fault_at 6 kinds.NoEnd)
unfolding lines_of tokens_of number_of number_from rows_from numbers_of version_of after_word
without_end = refl
