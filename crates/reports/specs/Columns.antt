-- `columns`: the columns of the fronts of a sparse matrix, one front after another, by the numbers that they have in the matrix's file. They tell
-- what each front of a plan eliminates; and one after another they are an order of elimination that a solver takes, with the same fill. Liu, The
-- role of elimination trees in sparse factorization, 1990, and The multifrontal method for sparse matrix solution, 1992.
use Rattle.std.specs.Prelude.{◌≡◌, ◌↔◌, ◌⊎◌, ℕ, List, [], ◌∷◌, ◌++◌, Option, Some, None, length, map, codes, decimal}
use Rattle.std.specs.List.{range_with_len}
use Rattle.mp_text.specs.Report.{text_of_lines}
use Rattle.mp_system.specs.declared.system.OrderKind.{OrderKind}
use Rattle.mp_system.specs.Traversal.{first_fault}
use Rattle.permutations.specs.Perm.{IsVertex}
use Rattle.patterns.specs.Pattern.{is_joined}
use Rattle.trees.specs.Tree.{system_of_nodes}
use Rattle.assembly_tree.specs.Assembly.{AssemblyTree}
use Rattle.assembly_tree.specs.Fronts.{nodes_of_fronts}
use Rattle.symbolic.specs.FrontTree.{IsAnalysis, relaxed}
use Rattle.symbolic.specs.declared.options.FrontOptions.{FrontOptions}
use Rattle.equivalent_orders.specs.Orders.{IsTopological, is_in_column}
use Rattle.equivalent_orders.specs.Fronts.{IsFrontOrder, front_of_vertex, vertices_in_front, vertices_along}
use Rattle.equivalent_orders.specs.FrontPostorders.{IsFrontPostorder, fronts_along}
use Rattle.requests.specs.Request.{Matrix, OrderSource, ColumnsFormat, by_front, as_perm}
use Rattle.judging.specs.declared.status.Status.TheVariants as status
use Rattle.judging.specs.Files.{Answer, IsOrderedMatrix, IsOrderFrom, IsPermFile, order_refused}
use Rattle.reports.specs.Fronts.{counted, number_line}

-- `columns K`, on a line each the columns of a front, `end`
abbrev pub columns_lines : List (List ℕ) → List (List (List ℕ))
columns_lines lists = counted (codes "columns") (length lists) ∷ map number_line lists ++ (codes "end" ∷ []) ∷ []

-- a column on a line
abbrev pub perm_lines : List ℕ → List (List (List ℕ))
perm_lines order = map (λ v. decimal v ∷ []) order

-- the columns of these fronts
abbrev pub columns_text : ColumnsFormat → List ℕ → AssemblyTree → List ℕ → List ℕ
columns_text by_front perm assembly fronts = text_of_lines (columns_lines (map (vertices_in_front perm assembly) fronts))
columns_text as_perm perm assembly fronts = text_of_lines (perm_lines (vertices_along perm assembly fronts))

abbrev pub columns_answer : ColumnsFormat → List ℕ → AssemblyTree → List ℕ → Answer
columns_answer format perm assembly fronts = record { status = status.Done; text = columns_text format perm assembly fronts }

-- the order in which the fronts are told: that of the source, or by rising number, where none is given
abbrev pub IsFrontsAsked : Option OrderSource → ℕ → List (List ℕ) → List ℕ → Type 0
IsFrontsAsked None count [] fronts = fronts ≡ range_with_len 1 count
IsFrontsAsked None count (text ∷ texts) fronts = ⊥
IsFrontsAsked (Some source) count [] fronts = ⊥
IsFrontsAsked (Some source) count (text ∷ []) fronts = IsOrderFrom source text fronts
IsFrontsAsked (Some source) count (text ∷ more ∷ texts) fronts = ⊥

-- each front comes before its parent, and their columns are told; or the first fault of the order is, taken as one of the tasks of the tree of fronts
abbrev pub IsColumnsAnswer : FrontOptions → ColumnsFormat → List ℕ → AssemblyTree → List ℕ → Answer → Type 0
IsColumnsAnswer options format perm assembly fronts answer =
    (IsFrontOrder assembly.supers fronts × (answer ≡ columns_answer format perm assembly fronts))
    ⊎ ((place : ℕ) × (kind : OrderKind)
    × (first_fault (system_of_nodes (nodes_of_fronts options.shape options.inplace assembly.supers)) fronts ≡ Some (place, kind))
    × (answer ≡ order_refused place kind))

-- the columns of the fronts of a matrix: the texts of its files, and that of the order
abbrev pub IsColumnsOf : Matrix → Option OrderSource → ColumnsFormat → List (List ℕ) → Answer → Type 0
IsColumnsOf m source format texts answer =
    (mine rest : List (List ℕ)) × (rows : List (List ℕ)) × (order perm : List ℕ) × (assembly : AssemblyTree) × (fronts : List ℕ)
    × (texts ≡ mine ++ rest) × IsOrderedMatrix m.ordering mine rows order × IsAnalysis rows order perm assembly
    × IsFrontsAsked source (length (relaxed m.fronts.zeros assembly).supers) rest fronts
    × IsColumnsAnswer m.fronts format perm (relaxed m.fronts.zeros assembly) fronts answer

-- the columns of the fronts were printed, the fronts in the order that was asked for, each before its parent. One after another they are an order
-- of elimination in which each column comes before its parent in the elimination tree of the old one: so each column of the factor has the same rows,
-- and two columns share a front in the analysis of the new order exactly where they did before any were merged. Where no fronts were
-- merged, and the order of the fronts is a postorder of their tree, the new order is its own natural postorder, and its analysis has the same fronts,
-- numbered in the order in which they were told: a solver that postorders the elimination tree with children by rising number makes them in that
-- order. A permutation file that was printed is read as the new order
pub record AreColumns (m : Matrix) (source : Option OrderSource) (format : ColumnsFormat) (texts : List (List ℕ)) (printed : List ℕ) : Type 0 where
  pub mine : List (List ℕ)
  pub rest : List (List ℕ)
  pub texts_are : texts ≡ mine ++ rest
  pub rows : List (List ℕ)
  pub order : List ℕ
  pub is_matrix : IsOrderedMatrix m.ordering mine rows order
  pub perm : List ℕ
  pub assembly : AssemblyTree
  pub analysis : IsAnalysis rows order perm assembly
  pub fronts : List ℕ
  pub asked : IsFrontsAsked source (length (relaxed m.fronts.zeros assembly).supers) rest fronts
  pub front_order : IsFrontOrder (relaxed m.fronts.zeros assembly).supers fronts
  pub printed_is : printed ≡ columns_text format perm (relaxed m.fronts.zeros assembly) fronts
  pub eliminated : List ℕ
  pub along : eliminated ≡ vertices_along perm (relaxed m.fronts.zeros assembly) fronts
  pub topological : IsTopological (is_joined rows) order eliminated
  pub same_fill : (u v : ℕ) → IsVertex (length rows) u → IsVertex (length rows) v →
      is_in_column (is_joined rows) eliminated u v ≡ is_in_column (is_joined rows) order u v
  pub same_fronts : (two : List ℕ) (second : AssemblyTree) → IsAnalysis rows eliminated two second → (u v : ℕ) → IsVertex (length rows) u →
      IsVertex (length rows) v →
      (front_of_vertex perm assembly u ≡ front_of_vertex perm assembly v) ↔ (front_of_vertex two second u ≡ front_of_vertex two second v)
  pub own_analysis : m.fronts.zeros ≡ None → IsFrontPostorder assembly.supers fronts →
      IsAnalysis rows eliminated eliminated (fronts_along assembly fronts)
  pub reads : format ≡ as_perm → IsPermFile (length rows) printed eliminated
