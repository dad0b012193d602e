-- What `columns` prints: the columns of the fronts, one front after another.
use Rattle.std.proofs.Common.{◌≡◌, ◌≢◌, ◌∙◌, ◌↔◌, ◌+◌, ◌≤◌, ℕ, suc, Bool, List, [], ◌∷◌, ◌++◌, Option, Some, None, length, take, drop, get_or}
use Rattle.std.proofs.Common.{refl, sym, ap, ap₂, subst, inl, inr, arith}
use Rattle.std.proofs.Math.Seq.{take-append_seam, drop-append_seam}
use Rattle.std.proofs.lemmas.List.{length-map}
use Rattle.limits.specs.Limits.{most_order, most_bytes}
use Rattle.mp_system.specs.declared.system.OrderKind.{OrderKind}
use Rattle.mp_system.specs.System.{TaskSystem}
use Rattle.mp_system.specs.Traversal.{IsTraversal, first_fault}
use Rattle.mp_text.specs.Report.{line_text, text_of_lines}
use Rattle.matrix_files.specs.PermFile.{ReadsPerm}
use Rattle.matrix_files.specs.InverseFile.{ReadsInverse}
use Rattle.permutations.specs.Perm.{IsPerm, IsVertex, vertex_at}
use Rattle.permutations.proofs.IdentityLemmas.{perm_identity}
use Rattle.patterns.specs.Pattern.{IsPattern, is_joined}
use Rattle.trees.specs.Tree.{system_of_nodes}
use Rattle.ordering.specs.Fill.{IsAdjacency}
use Rattle.elim_tree.specs.Paths.{IsWithin}
use Rattle.assembly_tree.specs.declared.front.Shape.{Shape}
use Rattle.assembly_tree.specs.Amalgamation.{amalgamated}
use Rattle.assembly_tree.specs.Assembly.{AssemblyTree, IsAssembly}
use Rattle.assembly_tree.specs.Fronts.{nodes_of_fronts}
use Rattle.assembly_tree.specs.Relaxation.{IsRelaxed}
use Rattle.symbolic.specs.FrontTree.{IsAnalysis, relaxed}
use Rattle.symbolic.specs.declared.options.FrontOptions.{FrontOptions}
use Rattle.equivalent_orders.specs.Orders.{IsTopological, is_in_column}
use Rattle.equivalent_orders.specs.Fronts.{IsFrontOrder, front_of_vertex, vertices_along}
use Rattle.equivalent_orders.specs.FrontPostorders.{IsFrontPostorder, fronts_along}
use Rattle.requests.specs.Request.{Ordering, natural, min_degree, perm_named, inverse_named, Matrix, OrderSource}
use Rattle.requests.specs.Request.{ordering_files, matrix_files, source_files, files_of, columns, ColumnsFormat}
use Rattle.judging.specs.Files.{Answer, AreAccepted, IsOrderOf, IsOrderedMatrix}
use Rattle.judging.proofs.InputLemmas.{ordered_accepted, source_accepted}
use Rattle.reports.specs.Columns.{perm_lines, columns_text, IsFrontsAsked, IsColumnsAnswer, IsColumnsOf, AreColumns}
use Rattle.reports.specs.Promises.{done_answer}
use Rattle.reports.proofs.FrontLemmas.{FrontParts, one_analysis}
use Rattle.reports.proofs.OneOrder.{OrderFiles, one_order, same_fault, both_accepted}

-- ---- the files

-- the texts of a matrix are as many as its files
order_long : (o : Ordering) (rows texts : List (List ℕ)) (order : List ℕ) → IsOrderOf o rows texts order
    → length texts ≡ length (ordering_files o)
order_long natural rows [] order is = refl
order_long natural rows (text ∷ texts) order is = absurd is
order_long min_degree rows [] order is = refl
order_long min_degree rows (text ∷ texts) order is = absurd is
order_long (perm_named name) rows [] order is = absurd is
order_long (perm_named name) rows (text ∷ []) order is = refl
order_long (perm_named name) rows (text ∷ more ∷ texts) order is = absurd is
order_long (inverse_named name) rows [] order is = absurd is
order_long (inverse_named name) rows (text ∷ []) order is = refl
order_long (inverse_named name) rows (text ∷ more ∷ texts) order is = absurd is

matrix_long : (m : Matrix) (texts rows : List (List ℕ)) (order : List ℕ) → IsOrderedMatrix m.ordering texts rows order
    → length texts ≡ length (matrix_files m)
matrix_long m [] rows order is = absurd is
matrix_long m (text ∷ texts) rows order is = ap suc (order_long m.ordering rows texts order is.1)

rest_accepted : (source : Option OrderSource) (count : ℕ) (earlier rest : List (List ℕ)) (fronts : List ℕ)
    → IsFrontsAsked source count rest fronts → AreAccepted (source_files source) earlier rest
rest_accepted None count earlier [] fronts is = tt
rest_accepted None count earlier (text ∷ texts) fronts is = absurd is
rest_accepted (Some source) count earlier [] fronts is = absurd is
rest_accepted (Some source) count earlier (text ∷ []) fronts is = (source_accepted source earlier text fronts is, tt)
rest_accepted (Some source) count earlier (text ∷ more ∷ texts) fronts is = absurd is

pub columns_accepted : (m : Matrix) (source : Option OrderSource) (format : ColumnsFormat) (texts : List (List ℕ)) (answer : Answer)
    → IsColumnsOf m source format texts answer → AreAccepted (files_of (columns m source format)) [] texts
columns_accepted m source format texts answer
    (mine, rest, rows, order, perm, assembly, fronts, split, is_matrix, analysis, asked, told) =
    subst (AreAccepted (matrix_files m ++ source_files source) []) (sym split)
    (both_accepted (matrix_files m) (source_files source) [] mine rest (matrix_long m mine rows order is_matrix)
    (ordered_accepted (record { name = m.name; ordering = m.ordering }) mine rows order is_matrix)
    (rest_accepted source (length (relaxed m.fronts.zeros assembly).supers) mine rest fronts asked))

-- ---- one answer

-- the law of an order that has no fault exactly where it is a traversal
abbrev pub Faultless : Type 0
Faultless = (system : TaskSystem) (order : List ℕ) → (first_fault system order ≡ None) ↔ IsTraversal system order

-- the law of the traversals of fronts
abbrev pub FrontOrders : Type 0
FrontOrders =
    (shape : Shape) (inplace : Bool) (assembly : AssemblyTree) (fronts : List ℕ) → IsAssembly assembly
    → IsTraversal (system_of_nodes (nodes_of_fronts shape inplace assembly.supers)) fronts ↔ IsFrontOrder assembly.supers fronts

-- what is known of the parts of an answer
pub record ColumnParts : Type 0 where
  pub fronts : FrontParts
  pub files : OrderFiles
  pub trees : (rows : List (List ℕ)) (order perm : List ℕ) (assembly : AssemblyTree) → IsPattern rows → length order ≡ length rows
      → IsAnalysis rows order perm assembly → IsAssembly assembly
  pub merged : (zeros : ℕ) (assembly : AssemblyTree) → IsAssembly assembly → IsAssembly (amalgamated zeros assembly)
  pub front_orders : FrontOrders
  pub fault : Faultless

relaxed_assembly : ((zeros : ℕ) (assembly : AssemblyTree) → IsAssembly assembly → IsAssembly (amalgamated zeros assembly))
    → (zeros : Option ℕ) (assembly : AssemblyTree) → IsAssembly assembly → IsAssembly (relaxed zeros assembly)
relaxed_assembly merged None assembly is = is
relaxed_assembly merged (Some zeros) assembly is = merged zeros assembly is

same_parts : {A : Type 0} (one two xs ys : List A) → length one ≡ length two → one ++ xs ≡ two ++ ys → (one ≡ two) × (xs ≡ ys)
same_parts {A} one two xs ys len e = (
  sym (take-append_seam one xs) ∙ ap₂ (λ (k : ℕ) (zs : List A). take k zs) len e ∙ take-append_seam two ys,
  sym (drop-append_seam one xs) ∙ ap₂ (λ (k : ℕ) (zs : List A). drop k zs) len e ∙ drop-append_seam two ys,
)

module _ (p : ColumnParts) where
  one_order_asked : (source : Option OrderSource) (count : ℕ) (rest : List (List ℕ)) (one two : List ℕ)
      → IsFrontsAsked source count rest one → IsFrontsAsked source count rest two → one ≡ two
  one_order_asked None count [] one two is other = is ∙ sym other
  one_order_asked None count (text ∷ texts) one two is other = absurd is
  one_order_asked (Some source) count [] one two is other = absurd is
  one_order_asked (Some source) count (text ∷ []) one two is other = one_order p.files source text one two is other
  one_order_asked (Some source) count (text ∷ more ∷ texts) one two is other = absurd is

  module _ (options : FrontOptions) (format : ColumnsFormat) (perm : List ℕ) (assembly : AssemblyTree) (is : IsAssembly assembly)
      (fronts : List ℕ) where
    abbrev system : TaskSystem
    system = system_of_nodes (nodes_of_fronts options.shape options.inplace assembly.supers)

    no_fault : IsFrontOrder assembly.supers fronts → (place : ℕ) (kind : OrderKind) → first_fault system fronts ≢ Some (place, kind)
    no_fault before place kind fault =
        let traversal = (p.front_orders options.shape options.inplace assembly fronts is).1 before in
        let none = (p.fault system fronts).1 traversal in cc

    told_once : (one two : Answer) → IsColumnsAnswer options format perm assembly fronts one
        → IsColumnsAnswer options format perm assembly fronts two → one ≡ two
    told_once one two (inl (before, e)) (inl (before', e')) = e ∙ sym e'
    told_once one two (inl (before, e)) (inr (place, kind, fault, e')) = absurd (no_fault before place kind fault)
    told_once one two (inr (place, kind, fault, e)) (inl (before, e')) = absurd (no_fault before place kind fault)
    told_once one two (inr is) (inr is') = same_fault (first_fault system fronts) one two is is'

  pub columns_once : (m : Matrix) (source : Option OrderSource) (format : ColumnsFormat) (texts : List (List ℕ)) (one two : Answer)
      → IsColumnsOf m source format texts one → IsColumnsOf m source format texts two → one ≡ two
  columns_once m source format texts one two
      (mine, rest, rows, order, perm, assembly, fronts, split, is_matrix, analysis, asked, told)
      (mine', rest', rows', order', perm', assembly', fronts', split', is_matrix', analysis', asked', told') =
      let parted = same_parts mine mine' rest rest'
      (matrix_long m mine rows order is_matrix ∙ sym (matrix_long m mine' rows' order' is_matrix')) (sym split ∙ split') in
      let moved = subst (λ (ts : List (List ℕ)). IsOrderedMatrix m.ordering ts rows' order') (sym parted.0) is_matrix' in
      let read = p.fronts.matrices m.ordering mine rows rows' order order' is_matrix moved in
      let same = one_analysis p.fronts m.ordering mine rows rows' order order' perm perm' assembly assembly' is_matrix moved
      analysis analysis' in
      let zeros = m.fronts.zeros in
      let orders = one_order_asked source (length (relaxed zeros assembly).supers) rest fronts fronts' asked
      (coe 1 0 (i. IsFrontsAsked source (length (relaxed zeros (same.2 i)).supers) (parted.1 i) fronts') asked') in
      told_once m.fronts format perm (relaxed zeros assembly)
      (relaxed_assembly p.merged zeros assembly (p.trees rows order perm assembly read.2 read.3 analysis)) fronts one two told
      (coe 1 0 (i. IsColumnsAnswer m.fronts format (same.1 i) (relaxed zeros (same.2 i)) (orders i) two) told')

-- ---- what is said of columns that are told

-- what is known of orders of elimination
pub record ColumnLaws : Type 0 where
  pub matrices : (o : Ordering) (texts rows other : List (List ℕ)) (order same : List ℕ)
      → IsOrderedMatrix o texts rows order → IsOrderedMatrix o texts other same
      → (rows ≡ other) × (order ≡ same) × IsPattern rows × (length order ≡ length rows)
  pub perms : (n : ℕ) (bytes order : List ℕ) → ReadsPerm n bytes order → IsPerm n order
  pub inverses : (n : ℕ) (bytes order : List ℕ) → ReadsInverse n bytes order → IsPerm n order
  pub adjacency : (rows : List (List ℕ)) → IsPattern rows → IsAdjacency (is_joined rows)
  pub within : (rows : List (List ℕ)) → IsPattern rows → IsWithin (length rows) (is_joined rows)
  pub topological : (rows : List (List ℕ)) (order perm fronts : List ℕ) (assembly : AssemblyTree) (zeros : Option ℕ) → IsPattern rows
      → IsPerm (length rows) order → IsAnalysis rows order perm assembly → IsFrontOrder (relaxed zeros assembly).supers fronts
      → IsTopological (is_joined rows) order (vertices_along perm (relaxed zeros assembly) fronts)
  pub same_fill : (joined : ℕ → ℕ → Bool) (old new : List ℕ) → IsAdjacency joined → IsWithin (length old) joined
      → IsPerm (length old) old → IsTopological joined old new → (u v : ℕ) → IsVertex (length old) u → IsVertex (length old) v
      → is_in_column joined new u v ≡ is_in_column joined old u v
  pub same_fronts : (rows : List (List ℕ)) (old new one two : List ℕ) (first second : AssemblyTree) → IsPattern rows
      → IsPerm (length rows) old → IsTopological (is_joined rows) old new → IsAnalysis rows old one first → IsAnalysis rows new two second
      → (u v : ℕ) → IsVertex (length rows) u → IsVertex (length rows) v
      → (front_of_vertex one first u ≡ front_of_vertex one first v) ↔ (front_of_vertex two second u ≡ front_of_vertex two second v)
  pub in_postorder : (rows : List (List ℕ)) (order perm fronts : List ℕ) (assembly : AssemblyTree) → IsPattern rows
      → IsPerm (length rows) order → IsAnalysis rows order perm assembly → IsFrontPostorder assembly.supers fronts
      → IsAnalysis rows (vertices_along perm assembly fronts) (vertices_along perm assembly fronts) (fronts_along assembly fronts)
  pub reads : (n : ℕ) (order : List ℕ) → n ≤ most_order → IsPerm n order → ReadsPerm n (text_of_lines (perm_lines order)) order
  pub short : (n : ℕ) (order : List ℕ) → n ≤ most_order → IsPerm n order → length (text_of_lines (perm_lines order)) ≤ most_bytes

module _ (laws : ColumnLaws) where
  order_is_perm : (o : Ordering) (rows texts : List (List ℕ)) (order : List ℕ) → IsOrderOf o rows texts order → IsPerm (length rows) order
  order_is_perm natural rows [] order is = subst (IsPerm (length rows)) (sym is) (perm_identity (length rows))
  order_is_perm natural rows (text ∷ texts) order is = absurd is
  order_is_perm min_degree rows [] order is = is.1.perm
  order_is_perm min_degree rows (text ∷ texts) order is = absurd is
  order_is_perm (perm_named name) rows [] order is = absurd is
  order_is_perm (perm_named name) rows (text ∷ []) order is = laws.perms (length rows) text order is.1
  order_is_perm (perm_named name) rows (text ∷ more ∷ texts) order is = absurd is
  order_is_perm (inverse_named name) rows [] order is = absurd is
  order_is_perm (inverse_named name) rows (text ∷ []) order is = laws.inverses (length rows) text order is.1
  order_is_perm (inverse_named name) rows (text ∷ more ∷ texts) order is = absurd is

  matrix_is_perm : (o : Ordering) (texts rows : List (List ℕ)) (order : List ℕ) → IsOrderedMatrix o texts rows order
      → IsPerm (length rows) order
  matrix_is_perm o [] rows order is = absurd is
  matrix_is_perm o (text ∷ texts) rows order is = order_is_perm o rows texts order is.1

  pub columns_say : (m : Matrix) (source : Option OrderSource) (format : ColumnsFormat) (texts : List (List ℕ)) (printed : List ℕ)
      → IsColumnsOf m source format texts (done_answer printed) → AreColumns m source format texts printed
  columns_say m source format texts printed
      (mine, rest, rows, order, perm, assembly, fronts, split, is_matrix, analysis, asked, inr (place, kind, fault, e)) =
      absurd (let ended = ap (λ (a : Answer). a.status) e in cc)
  columns_say m source format texts printed
      (mine, rest, rows, order, perm, assembly, fronts, split, is_matrix, analysis, asked, inl (before, e)) =
      let pattern = (laws.matrices m.ordering mine rows rows order order is_matrix is_matrix).2 in
      let is_order = matrix_is_perm m.ordering mine rows order is_matrix in
      let zeros = m.fronts.zeros in
      let merged = relaxed zeros assembly in
      let eliminated = vertices_along perm merged fronts in
      let joined = is_joined rows in
      let topological = laws.topological rows order perm fronts assembly zeros pattern is_order analysis before in
      let len = is_order.len in
      let is_eliminated = subst (λ (n : ℕ). IsPerm n eliminated) len topological.perm in
      let is_printed : printed ≡ columns_text format perm merged fronts = ap (λ (a : Answer). a.text) e in
      record {
        mine = mine;
        rest = rest;
        texts_are = split;
        rows = rows;
        order = order;
        is_matrix = is_matrix;
        perm = perm;
        assembly = assembly;
        analysis = analysis;
        fronts = fronts;
        asked = asked;
        front_order = before;
        printed_is = is_printed;
        eliminated = eliminated;
        along = refl;
        topological = topological;
        same_fill = λ u v is_u is_v.
            laws.same_fill joined order eliminated (laws.adjacency rows pattern)
            (subst (λ (n : ℕ). IsWithin n joined) (sym len) (laws.within rows pattern))
            (subst (λ (n : ℕ). IsPerm n order) (sym len) is_order) topological u v
            (subst (λ (n : ℕ). IsVertex n u) (sym len) is_u) (subst (λ (n : ℕ). IsVertex n v) (sym len) is_v);
        same_fronts = λ two second is_second. laws.same_fronts rows order eliminated perm two assembly second pattern is_order topological
            analysis is_second;
        own_analysis = λ none is_postorder.
            subst (λ (z : Option ℕ). IsAnalysis rows (vertices_along perm (relaxed z assembly) fronts)
            (vertices_along perm (relaxed z assembly) fronts) (fronts_along assembly fronts)) (sym none)
            (laws.in_postorder rows order perm fronts assembly pattern is_order analysis is_postorder);
        reads = λ perms.
            let file : printed ≡ text_of_lines (perm_lines eliminated) =
            is_printed ∙ ap (λ (f : ColumnsFormat). columns_text f perm merged fronts) perms in (
              subst (λ (text : List ℕ). length text ≤ most_bytes) (sym file) (laws.short (length rows) eliminated pattern.few is_eliminated),
              subst (λ (text : List ℕ). ReadsPerm (length rows) text eliminated) (sym file)
                  (laws.reads (length rows) eliminated pattern.few is_eliminated),
            );
      }

-- ---- how they are made and printed

-- merged fronts have the columns that they had
pub relaxed_nodes : ((zeros : ℕ) (assembly : AssemblyTree) → IsAssembly assembly → IsRelaxed zeros assembly (amalgamated zeros assembly))
    → (zeros : Option ℕ) (assembly : AssemblyTree) → IsAssembly assembly
    → length (relaxed zeros assembly).nodes ≡ length assembly.nodes
relaxed_nodes relaxes None assembly is = refl
relaxed_nodes relaxes (Some zeros) assembly is = ap length (relaxes zeros assembly is).nodes ∙ length-map assembly.nodes _

-- a line, many, and a last one
pub columns-lines : ((text : List ℕ) (lines : List (List (List ℕ))) (line : List (List ℕ))
    → (text ++ text_of_lines lines) ++ line_text line ≡ text ++ text_of_lines (lines ++ line ∷ []))
    → (one last : List (List ℕ)) (lines : List (List (List ℕ))) (a b c : List ℕ)
    → a ≡ line_text one → b ≡ a ++ text_of_lines lines → c ≡ b ++ line_text last → c ≡ text_of_lines (one ∷ lines ++ last ∷ [])
columns-lines more one last lines a b c ea eb ec =
    ec ∙ ap (λ (t : List ℕ). t ++ line_text last) eb ∙ more a lines last
    ∙ ap (λ (t : List ℕ). t ++ text_of_lines (lines ++ last ∷ [])) ea

-- an order of the fronts that is a traversal of their system
pub traversed : FrontOrders → (shape : Shape) (inplace : Bool) (assembly : AssemblyTree) → IsAssembly assembly
    → (tasks : TaskSystem) (order : List ℕ) → tasks ≡ system_of_nodes (nodes_of_fronts shape inplace assembly.supers)
    → IsTraversal tasks order → IsFrontOrder assembly.supers order
traversed orders shape inplace assembly is tasks order same traversal =
    (orders shape inplace assembly order is).0 (subst (λ (s : TaskSystem). IsTraversal s order) same traversal)

-- what stands at a place that is counted from 0
pub vertex_next : (order : List ℕ) (i : ℕ) → vertex_at order (i + 1) ≡ get_or order i 0
vertex_next order i = let next : i + 1 ≡ suc i = omega arith in ap (vertex_at order) next
