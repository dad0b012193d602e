-- No public clause names this.
-- Worked examples: the text of a certificate for a system of three tasks, and files that are refused. Task 1 makes an item of size 4, which
-- tasks 2 and 3 read, so it has a join, task 4; these two need 3 beside, and a fence has one wait for the other. Each of two workers has a room
-- of 1, so 2 of the bound are set aside, and tasks 2 and 3 need 2 more: it is handed to task 2, and from there along the fence to task 3.
use Rattle.std.specs.Prelude.{◌≡◌, ℕ, ◌+◌, List, [], ◌∷◌, ◌++◌, map, Option, Some, None, codes, refl}
use Rattle.std.specs.Fmt.{decimal, digits}
use Rattle.limits.specs.Limits.{most_positions}
use Rattle.limits.specs.declared.name.LimitName.TheVariants as limits
use Rattle.mp_text.specs.declared.layout.Layout.TheVariants.{Commented}
use Rattle.mp_text.specs.declared.refusals.Refusal.{Refusal}
use Rattle.mp_text.specs.declared.refusals.Refusal.TheVariants as refusals
use Rattle.mp_text.specs.Text.{lines_of, tokens_of, number_of, number_from, numbers_of, rows_from}
use Rattle.mp_text.specs.Ahead.{rows_of_bytes, past_of_bytes}
use Rattle.mp_text.specs.Grammar.{fault_at, first_failure, tests_of_all}
use Rattle.file_frame.specs.Words.{after_word, version_of}
use Rattle.shared_systems.specs.Shared.{SharedTaskSystem}
use Rattle.shared_systems.specs.Collected.{collected}
use Rattle.fences.specs.declared.certificate.Workers.TheVariants as workers
use Rattle.fences.specs.Amounts.{certified_bound}
use Rattle.fences.specs.JudgedFences.{with_fences}
use Rattle.fences.specs.Workers.{relieved}
use Rattle.fences.specs.Certificates.{Certificate, join_places}
use Rattle.fence_files.specs.FenceFile.{stated, certificate_stated, fences_format}
use Rattle.fence_files.specs.Printed.{fences_text}
use Rattle.fence_files.specs.declared.kind.FenceKind.{FenceKind}
use Rattle.fence_files.specs.declared.kind.FenceKind.TheVariants as kinds

abbrev two_readers : Certificate
two_readers = record {
  bound = 8;
  workers = workers.AtMost 2 1;
  joins = 1 ∷ [];
  fences = record { from = 2; to = 3 } ∷ [];
  amounts = 4 ∷ 2 ∷ 0 ∷ 0 ∷ 0 ∷ 2 ∷ [];
}

-- one for any number of workers, and for no task
abbrev bare : Certificate
bare = record { bound = 0; workers = workers.Any; joins = []; fences = []; amounts = [] }

-- ---- printing

pub printed : fences_text two_readers ∷ fences_text bare ∷ []
    ≡ codes "fences 1\nbound 8\nworkers 2\nroom 1\njoins 1\n1\nfences 1\n2 3\namounts 6\n4\n2\n0\n0\n0\n2\nend\n"
    ∷ codes "fences 1\nbound 0\nworkers 0\nroom 0\njoins 0\nfences 0\namounts 0\nend\n"
    ∷ []
unfolding digits
printed = refl

-- ---- reading

pub stated_certificate : certificate_stated (stated (rows_of_bytes Commented
    (codes "# two readers\nfences 1\nbound 8\nworkers 2\nroom 01\n\njoins 1\n1\nfences 1\n2 3\namounts 6\n4\n2\n0\n0\n0\n2\nend"))) ≡ two_readers
unfolding lines_of tokens_of number_of number_from numbers_of rows_from after_word version_of stated
stated_certificate = refl

-- ---- what the file says of the system

abbrev read_twice : SharedTaskSystem
read_twice = record {
  tasks = record { extra = 0; share = 0; time = 1 } ∷ record { extra = 3; share = 0; time = 1 } ∷ record { extra = 3; share = 0; time = 1 } ∷ [];
  items = record { size = 4; from = Some 1; readers = 2 ∷ 3 ∷ [] } ∷ [];
}

-- its joins, and that the amounts certify what the workers leave of the bound
pub said : (join_places read_twice ≡ two_readers.joins)
    × (certified_bound (with_fences (relieved 1 (collected read_twice)) two_readers.fences) two_readers.amounts ≡ 6)
said = (refl, refl)

-- ---- refusals

-- the first test of a file's lines and of its end that fails, if one does
abbrev pub refusal_of : List ℕ → Option (Refusal FenceKind)
refusal_of bytes =
    let rows = rows_of_bytes Commented bytes in
    first_failure (tests_of_all fences_format.line_tests [] rows ++ fences_format.end_tests rows (past_of_bytes bytes))

-- a file that is read, one without its last line, too many workers, room for any number of them, a join at place 0, a fence of one number, too
-- many amounts
pub refusals_of : map refusal_of (
    codes "fences 1\nbound 0\nworkers 1\nroom 2\njoins 0\nfences 0\namounts 0\nend\n"
    ∷ codes "fences 1\nbound 0\nworkers 1\nroom 2\njoins 0\nfences 0\namounts 0\n"
    ∷ codes "fences 1\nbound 0\nworkers 4097\n"
    ∷ codes "fences 1\nbound 0\nworkers 0\nroom 2\n"
    ∷ codes "fences 1\nbound 0\nworkers 0\nroom 0\njoins 1\n0\n"
    ∷ codes "fences 1\nbound 0\nworkers 0\nroom 0\njoins 0\nfences 1\n2\n"
    ∷ (codes "fences 1\nbound 0\nworkers 0\nroom 0\njoins 0\nfences 0\namounts " ++ decimal (most_positions + 1) ++ codes "\n")
    ∷ []) ≡ None ∷ Some (fault_at 8 kinds.NoEnd) ∷ Some (fault_at 3 kinds.Workers) ∷ Some (fault_at 4 kinds.Workers)
    ∷ Some (fault_at 6 kinds.Number) ∷ Some (fault_at 7 kinds.Fence) ∷ Some (refusals.Limit limits.Positions) ∷ []
unfolding digits lines_of tokens_of number_of number_from numbers_of rows_from after_word version_of stated
refusals_of = refl
