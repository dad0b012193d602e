-- Worked examples: the texts of two trees, what a file states, and files that are refused.
use Rattle.std.specs.Prelude.{◌≡◌, ℕ, ◌+◌, List, [], ◌++◌, Option, Some, None, codes, refl}
use Rattle.std.specs.Fmt.{decimal, digits}
use Rattle.limits.specs.Limits.{most_tasks}
use Rattle.mp_text.specs.declared.layout.Layout.TheVariants.{Commented}
use Rattle.mp_text.specs.declared.refusals.Refusal.{Refusal}
use Rattle.mp_text.specs.declared.refusals.Refusal.TheVariants as refusals
use Rattle.limits.specs.declared.name.LimitName.TheVariants as limits
use Rattle.mp_text.specs.Text.{lines_of, tokens_of, number_of, number_from, numbers_of, rows_from}
use Rattle.file_frame.specs.Words.{after_word, version_of}
use Rattle.mp_text.specs.Ahead.{rows_of_bytes, past_of_bytes}
use Rattle.mp_text.specs.Grammar.{fault_at, first_failure, tests_of_all}
use Rattle.tree_files.specs.declared.kind.TreeKind.{TreeKind}
use Rattle.tree_files.specs.declared.kind.TreeKind.TheVariants as kinds
use Rattle.tree_files.specs.TreeFile.{nodes_stated, tree_line_tests, tree_end_tests}
use Rattle.tree_files.specs.TreeText.{tree_text, tree_text_2}
use Rattle.trees.specs.Samples.{five, shared}
use Rattle.file_frame.specs.Frame.{line_stating}

-- ---- printing

pub five_text : tree_text five ≡ codes "tree 1\nnodes 5\n2 1 9 1\n5 5 0 1\n4 1 9 1\n5 5 0 1\n0 0 0 1\nend\n"
unfolding digits
five_text = refl

pub five_text2 : tree_text_2 five ≡ codes "tree 2\nnodes 5\n2 1 9 0 1\n5 5 0 0 1\n4 1 9 0 1\n5 5 0 0 1\n0 0 0 0 1\nend\n"
unfolding digits
five_text2 = refl

pub shared_text : tree_text shared ≡ codes "tree 2\nnodes 2\n2 4 0 0 1\n0 3 2 4 1\nend\n"
unfolding digits
shared_text = refl

-- ---- reading

pub stated : nodes_stated (rows_of_bytes Commented (codes "# two nodes\n\ntree 2\nnodes 2\n2 4 0 0 1\n\t0 03 2 4 1\r\nend")) ≡ shared
unfolding lines_of tokens_of number_of number_from rows_from numbers_of version_of after_word
stated = refl

pub stating : line_stating (rows_of_bytes Commented (codes "# two nodes\n\ntree 2\nnodes 2\n2 4 0 0 1\n\t0 03 2 4 1\r\nend")) 2 ≡ 6
unfolding lines_of tokens_of number_of number_from rows_from
stating = refl

-- the first test of a file's lines and of its end that fails, if one does
abbrev pub refusal_of : List ℕ → Option (Refusal TreeKind)
refusal_of bytes =
    let rows = rows_of_bytes Commented bytes in
    first_failure (tests_of_all tree_line_tests [] rows ++ tree_end_tests rows (past_of_bytes bytes))

pub well_formed : refusal_of (codes "tree 1\nnodes 1\n0 3 2 1\nend\n") ≡ None
unfolding lines_of tokens_of number_of number_from rows_from numbers_of version_of after_word
well_formed = refl

pub without_end : refusal_of (codes "tree 1\nnodes 1\n0 3 2 1\n") ≡ Some (fault_at 4 kinds.NoEnd)
unfolding lines_of tokens_of number_of number_from rows_from numbers_of version_of after_word
without_end = refl

pub three_numbers : refusal_of (codes "tree 1\nnodes 1\n0 3 2\nend\n") ≡ Some (fault_at 3 kinds.Number)
unfolding lines_of tokens_of number_of number_from rows_from numbers_of version_of after_word
three_numbers = refl

pub parent_past_all : refusal_of (codes "tree 1\nnodes 1\n2 3 2 1\nend\n") ≡ Some (fault_at 3 kinds.Parent)
unfolding lines_of tokens_of number_of number_from rows_from numbers_of version_of after_word
parent_past_all = refl

-- one more than there may be
pub too_many : refusal_of (codes "tree 1\nnodes " ++ decimal (most_tasks + 1) ++ codes "\n") ≡ Some (refusals.Limit limits.Tasks)
unfolding digits lines_of tokens_of number_of number_from rows_from version_of after_word
too_many = refl
