-- The fronts of a matrix of compressed columns: what the calls for matrices answer, and why they are refused.
use Rattle.std.specs.Prelude.{◌≡◌, ◌≢◌, ◌==◌, ◌⊎◌, ℕ, ◌<◌, ◌≤◌, not, if◌then◌else◌, Option, Some, None, List, [], ◌∷◌, length, map}
use Rattle.std.specs.List.{range_with_len}
use Rattle.limits.specs.Limits.{most_mindeg}
use Rattle.patterns.specs.Pattern.{IsPatternOf, is_joined}
use Rattle.patterns.specs.Columns.{AreColumns, IsColumnsRefusal, column_count, pairs_given}
use Rattle.permutations.specs.Order.{IsNumbersRefusal, order_given}
use Rattle.ordering.specs.MinimumDegree.{IsMinimumDegreeOrder, IsMindegRefusal}
use Rattle.permutations.specs.Perm.{IsPerm, place_of}
use Rattle.trees.specs.declared.node.Node.{Node}
use Rattle.assembly_tree.specs.Assembly.{AssemblyTree, super_of}
use Rattle.assembly_tree.specs.Fronts.{nodes_of_fronts}
use Rattle.assembly_tree.specs.declared.front.Shape.{Shape}
use Rattle.assembly_tree.specs.declared.front.Shape.TheVariants.{Triangle, Square}
use Rattle.symbolic.specs.FrontTree.{IsAnalysis, IsFrontTree, relaxed}
use Rattle.symbolic.specs.declared.options.FrontOptions.{FrontOptions}
use Rattle.equivalent_orders.specs.Arrays.{number_from}
use Rattle.c_calls.specs.declared.fronts.GivenOptions.{GivenOptions}
use Rattle.c_calls.specs.declared.refusal.Refusal.{Refusal}
use Rattle.c_calls.specs.declared.refusal.Refusal.TheVariants as refusals
use Rattle.c_calls.specs.Refusals.{IsRoomRefused}

-- a matrix as a caller gives it: compressed columns, and the order in which they are eliminated, all counted from a base
pub record GivenMatrix : Type 0 where
  pub base : ℕ
  pub starts : List ℕ
  pub rows : List ℕ
  pub order : List ℕ

abbrev pub matrix_given : ℕ → List ℕ → List ℕ → List ℕ → GivenMatrix
matrix_given base starts rows order = record { base = base; starts = starts; rows = rows; order = order }

-- ---- options: any number but 0 says yes

abbrev pub shape_given : ℕ → Shape
shape_given shape = if shape == 0 then Triangle else Square

abbrev pub zeros_given : ℕ → ℕ → Option ℕ
zeros_given merge zeros = if merge == 0 then None else Some zeros

abbrev pub options_given : GivenOptions → FrontOptions
options_given options = record {
  shape = shape_given options.shape;
  zeros = zeros_given options.merge options.zeros;
  inplace = not (options.in_place == 0);
}

-- ---- what is answered

-- the order in which a matrix of these rows is eliminated: the one that is given, or where none is, that of minimum degree, up to a limit
abbrev pub IsMatrixOrder : ℕ → List ℕ → List (List ℕ) → List ℕ → Type 0
IsMatrixOrder base [] rows order = (length rows ≤ most_mindeg) × IsMinimumDegreeOrder (is_joined rows) (length rows) order
IsMatrixOrder base (number ∷ numbers) rows order = order ≡ order_given base (number ∷ numbers)

-- the matrix has these rows, and is eliminated in this order
pub record IsMatrix (m : GivenMatrix) (rows : List (List ℕ)) (order : List ℕ) : Type 0 where
  pub columns : AreColumns m.base m.starts m.rows
  pub pattern : IsPatternOf (column_count m.starts) (pairs_given m.base m.starts m.rows) rows
  pub order_is : IsMatrixOrder m.base m.order rows order
  pub perm : IsPerm (length rows) order

-- the supernode in which each vertex lies, by number
abbrev pub fronts_of_columns : AssemblyTree → List ℕ → List ℕ
fronts_of_columns assembly perm = map (λ v. super_of assembly.nodes (place_of perm v)) (range_with_len 1 (length perm))

-- the nodes are the tree of the fronts of a matrix with these rows, eliminated in this order, as the program's `tree` prints it, and the
-- front of each column is that of the supernode in which it lies; the analysis numbers the columns in the order `perm`
pub record HaveFronts (options : FrontOptions) (rows : List (List ℕ)) (order perm : List ℕ) (nodes : List Node) (fronts : List ℕ)
    : Type 0 where
  pub tree : IsFrontTree options rows order nodes
  pub assembly : AssemblyTree
  pub analysis : IsAnalysis rows order perm assembly
  pub nodes_are : nodes ≡ nodes_of_fronts options.shape options.inplace (relaxed options.zeros assembly).supers
  pub fronts_are : fronts ≡ fronts_of_columns (relaxed options.zeros assembly) perm

-- and the columns are those along the postorder of the elimination tree, as the analysis numbers them
pub record AreAnalysed (m : GivenMatrix) (options : FrontOptions) (nodes : List Node) (fronts columns : List ℕ) : Type 0 where
  pub rows : List (List ℕ)
  pub order : List ℕ
  pub perm : List ℕ
  pub is_matrix : IsMatrix m rows order
  pub have_fronts : HaveFronts options rows order perm nodes fronts
  pub columns_are : columns ≡ map (number_from m.base) perm

-- the fronts of such an analysis
pub record AreFronts (m : GivenMatrix) (options : FrontOptions) (nodes : List Node) (fronts : List ℕ) : Type 0 where
  pub columns : List ℕ
  pub analysed : AreAnalysed m options nodes fronts columns

-- ---- why there are none

-- there is room for fewer nodes than there are fronts
pub record IsNodeRoomRefused (m : GivenMatrix) (options : FrontOptions) (room needed : ℕ) : Type 0 where
  pub nodes : List Node
  pub fronts : List ℕ
  pub are_fronts : AreFronts m options nodes fronts
  pub needed_is : needed ≡ length nodes
  pub less : room < needed
  -- room for as many as there are columns does
  pub few : needed ≤ column_count m.starts

-- numbers, counted from a base, that are no order of n columns; or none, and there is no order of minimum degree
abbrev pub IsMatrixOrderRefusal : ℕ → List ℕ → ℕ → Refusal → Type 0
IsMatrixOrderRefusal base numbers n (refusals.Perm refusal) = (numbers ≢ []) × IsNumbersRefusal base n numbers refusal
IsMatrixOrderRefusal base numbers n (refusals.Degree refusal) = (numbers ≡ []) × IsMindegRefusal n refusal
IsMatrixOrderRefusal base numbers n refusals.NoMemory = Unit {0}
IsMatrixOrderRefusal base numbers n other = ⊥

-- with room for so many nodes, and for the fronts of so many columns
abbrev pub IsMatrixFrontsRefusal : GivenMatrix → GivenOptions → ℕ → ℕ → Refusal → Type 0
IsMatrixFrontsRefusal m options room columns refusals.Shape = 1 < options.shape
IsMatrixFrontsRefusal m options room columns (refusals.Room needed) = IsRoomRefused (column_count m.starts) columns needed
IsMatrixFrontsRefusal m options room columns (refusals.Columns refusal) = IsColumnsRefusal m.base m.starts m.rows refusal
IsMatrixFrontsRefusal m options room columns (refusals.Perm refusal) =
    AreColumns m.base m.starts m.rows × IsMatrixOrderRefusal m.base m.order (column_count m.starts) (refusals.Perm refusal)
IsMatrixFrontsRefusal m options room columns (refusals.Degree refusal) =
    AreColumns m.base m.starts m.rows × IsMatrixOrderRefusal m.base m.order (column_count m.starts) (refusals.Degree refusal)
IsMatrixFrontsRefusal m options room columns (refusals.NodeRoom needed) = IsNodeRoomRefused m (options_given options) room needed
IsMatrixFrontsRefusal m options room columns refusals.NoMemory = Unit {0}
IsMatrixFrontsRefusal m options room columns other = ⊥

-- there is not just the room for the columns
abbrev pub IsColumnRoomRefused : GivenMatrix → ℕ → Refusal → Type 0
IsColumnRoomRefused m room (refusals.Room needed) = IsRoomRefused (column_count m.starts) room needed
IsColumnRoomRefused m room other = ⊥

-- the fronts are refused, or the room for the columns
abbrev pub IsAnalysisRefusal : GivenMatrix → GivenOptions → ℕ → ℕ → ℕ → Refusal → Type 0
IsAnalysisRefusal m options room fronts columns refusal =
    IsMatrixFrontsRefusal m options room fronts refusal ⊎ IsColumnRoomRefused m columns refusal

-- ---- the order of minimum degree alone

-- the columns of a matrix in the order of minimum degree
pub record IsDegreeOrder (base : ℕ) (starts rows columns : List ℕ) : Type 0 where
  pub pattern : List (List ℕ)
  pub order : List ℕ
  pub is_matrix : IsMatrix (matrix_given base starts rows []) pattern order
  pub columns_are : columns ≡ map (number_from base) order

-- with room for so many columns
abbrev pub IsDegreeCallRefusal : ℕ → List ℕ → List ℕ → ℕ → Refusal → Type 0
IsDegreeCallRefusal base starts rows room (refusals.Room needed) = IsRoomRefused (column_count starts) room needed
IsDegreeCallRefusal base starts rows room (refusals.Columns refusal) = IsColumnsRefusal base starts rows refusal
IsDegreeCallRefusal base starts rows room (refusals.Degree refusal) =
    AreColumns base starts rows × IsMindegRefusal (column_count starts) refusal
IsDegreeCallRefusal base starts rows room refusals.NoMemory = Unit {0}
IsDegreeCallRefusal base starts rows room other = ⊥
