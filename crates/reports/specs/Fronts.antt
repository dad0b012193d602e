-- `fronts`: the rows of every front of a sparse matrix, made by several workers, in rounds, within a bound on the rows that are held. What
-- is printed speaks of the matrix, its order, the bound and the number of workers alone: the rows are the same for every number of workers.
use Rattle.std.specs.Prelude.{◌≡◌, ℕ, ◌-◌, ◌<◌, ◌≤◌, Bool, List, [], ◌∷◌, ◌++◌, length, drop, map}
use Rattle.std.specs.Prelude.{codes, decimal, ◌⊎◌}
use Rattle.std.specs.List.{range_with_len}
use Rattle.mp_text.specs.Report.{text_of_lines}
use Rattle.assembly_tree.specs.declared.assembly.Super.{Super}
use Rattle.assembly_tree.specs.Assembly.{AssemblyTree, IsSuper}
use Rattle.assembly_tree.specs.Supernodes.{first_of, last_of}
use Rattle.symbolic.specs.FrontTree.{columns, IsAnalysis}
use Rattle.rounds_run.specs.FrontRows.{rows_of_front, list_of_front}
use Rattle.rounds_run.specs.RowSystem.{row_peak, row_setting}
use Rattle.rounds_run.specs.Rounds.{AreRounds}
use Rattle.requests.specs.Request.{OrderedMatrix}
use Rattle.judging.specs.declared.status.Status.TheVariants as status
use Rattle.judging.specs.Files.{IsOrderedMatrix, bound_refused, Answer}

-- the rows of the fronts, by number: of each the structure of the first column of its supernode
abbrev pub front_lists : (ℕ → ℕ → Bool) → ℕ → List Super → List (List ℕ)
front_lists joined n supers = map (λ s. rows_of_front joined n (first_of supers s)) (range_with_len 1 (length supers))

-- a word and a number
abbrev pub counted : List ℕ → ℕ → List (List ℕ)
counted word number = word ∷ decimal number ∷ []

-- numbers, one after another
abbrev pub number_line : List ℕ → List (List ℕ)
number_line numbers = map decimal numbers

-- `fronts M`, `rounds R`, `used U`, on a line each the fronts of a round, on a line each the rows of a front, `end`
abbrev pub fronts_lines : List (List ℕ) → ℕ → List (List ℕ) → List (List (List ℕ))
fronts_lines rounds used lists =
    counted (codes "fronts") (length lists)
    ∷ counted (codes "rounds") (length rounds)
    ∷ counted (codes "used") used
    ∷ (map number_line rounds ++ map number_line lists) ++ (codes "end" ∷ []) ∷ []

abbrev pub fronts_answer : List (List ℕ) → ℕ → List (List ℕ) → Answer
fronts_answer rounds used lists = record { status = status.Done; text = text_of_lines (fronts_lines rounds used lists) }

-- the bound is below the peak of the fronts in the order of their numbers; or the rounds are told, and the rows that are made in them
abbrev pub AreFrontsMade : (ℕ → ℕ → Bool) → ℕ → List Super → ℕ → ℕ → Answer → Type 0
AreFrontsMade joined n supers bound workers answer =
    ((bound < row_peak supers) × (answer ≡ bound_refused bound (row_peak supers)))
    ⊎ ((rounds : List (List ℕ)) × (used : ℕ) × (row_peak supers ≤ bound) × AreRounds (row_setting supers bound workers) rounds used
    × (answer ≡ fronts_answer rounds used (front_lists joined n supers)))

-- the fronts of a matrix with these rows, eliminated in this order
abbrev pub IsFrontsAnswer : List (List ℕ) → List ℕ → ℕ → ℕ → Answer → Type 0
IsFrontsAnswer rows order bound workers answer =
    (perm : List ℕ) × (assembly : AssemblyTree) × IsAnalysis rows order perm assembly
    × AreFrontsMade (columns rows perm) (length perm) assembly.supers bound workers answer

-- over the texts of the matrix's files
abbrev pub IsFrontsOf : OrderedMatrix → ℕ → ℕ → List (List ℕ) → Answer → Type 0
IsFrontsOf m bound workers texts answer =
    (rows : List (List ℕ)) × (order : List ℕ) × IsOrderedMatrix m.ordering texts rows order × IsFrontsAnswer rows order bound workers answer

-- the rows of the fronts of the matrix were printed, with rounds in which they can be made: each list is the structure of the first column
-- of its supernode in the filled graph, in rising order, and of each further column the structure is the list from there on; the rounds are
-- those of the activation machine, along which the rows that are used are at most the bound, which is at least the peak
pub record IsFactored (m : OrderedMatrix) (bound workers : ℕ) (texts : List (List ℕ)) (printed : List ℕ) : Type 0 where
  pub rows : List (List ℕ)
  pub order : List ℕ
  pub is_matrix : IsOrderedMatrix m.ordering texts rows order
  pub perm : List ℕ
  pub assembly : AssemblyTree
  pub analysis : IsAnalysis rows order perm assembly
  pub lists : List (List ℕ)
  pub len : length lists ≡ length assembly.supers
  pub first : (s : ℕ) → IsSuper assembly.supers s →
      list_of_front lists s ≡ rows_of_front (columns rows perm) (length perm) (first_of assembly.supers s)
  pub further : (s j : ℕ) → IsSuper assembly.supers s → first_of assembly.supers s ≤ j → j ≤ last_of assembly.supers s →
      rows_of_front (columns rows perm) (length perm) j ≡ drop (j - first_of assembly.supers s) (list_of_front lists s)
  pub rounds : List (List ℕ)
  pub used : ℕ
  pub are_rounds : AreRounds (row_setting assembly.supers bound workers) rounds used
  pub within : used ≤ bound
  pub peak_within : row_peak assembly.supers ≤ bound
  pub printed_is : printed ≡ (fronts_answer rounds used lists).text
