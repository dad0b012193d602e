-- The texts of an input are read as one tree, one system and one term, within the limits.
use Rattle.std.proofs.Common.{◌≡◌, ◌∙◌, ℕ, Bool, List, [], ◌∷◌, ◌++◌, Some, length, refl, sym, ap, ap₂, subst, arith, IsPermutation}
use Rattle.std.specs.List.{range_with_len}
use Rattle.std.proofs.lemmas.List.FromFn.{length-range_with_len}
use Rattle.matrix_files.specs.MatrixFile.{ReadsPattern}
use Rattle.patterns.specs.Pattern.{IsPattern, is_joined}
use Rattle.mp_system.specs.System.{TaskSystem, IsSystem}
use Rattle.ordering.specs.MinimumDegree.{IsMinimumDegreeOrder}
use Rattle.permutations.specs.Perm.{IsPerm}
use Rattle.matrix_files.specs.PermFile.{ReadsPerm}
use Rattle.matrix_files.specs.InverseFile.{ReadsInverse}
use Rattle.sp_terms.specs.declared.position.Position.{Position}
use Rattle.sp_terms.specs.Postfix.{Denotes}
use Rattle.sp_terms.specs.SystemOfTerm.{system_of_term}
use Rattle.sp_terms.specs.Term.{Term}
use Rattle.sp_terms.specs.Values.{IsTerms, term_of}
use Rattle.workflow_files.specs.WorkflowFile.{ReadsWorkflow}
use Rattle.shared_systems.specs.Shared.{SharedTaskSystem}
use Rattle.shared_systems.specs.SharedTraversal.{IsSharedTraversal}
use Rattle.shared_systems.specs.Bounds.{IsSharedSystem}
use Rattle.shared_systems.specs.OneReader.{shared_of}
use Rattle.shared_systems.proofs.OneReader.{traversal_within}
use Rattle.shared_systems.proofs.SameSystems.{to_own}
use Rattle.shared_graph_files.specs.EitherVersion.{ReadsSharedGraph}
use Rattle.symbolic.specs.FrontTree.{IsFrontTree}
use Rattle.symbolic.specs.declared.options.FrontOptions.{FrontOptions}
use Rattle.trees.specs.declared.node.Node.{Node}
use Rattle.trees.specs.Forest.{Forest, IsForestOf, all_numbers}
use Rattle.trees.specs.Tree.{IsTree, system_of_nodes}
use Rattle.tree_files.specs.TreeFile.{ReadsTree}
use Rattle.trees.specs.TreeTerm.{forest_positions}
use Rattle.judging.specs.Files.{IsOrderOf, IsMatrixTree, IsTreeOf, IsSystemOf, IsSystemWithTerm, IsTaskSystemOf, IsOrderedMatrix}
use Rattle.judging.specs.Judged.{AreWithin}
use Rattle.judging.specs.Numbered.{IsNumberedTerm, node_positions}
use Rattle.judging.proofs.NumberLemmas.{forest_within, range_within}
use Rattle.requests.specs.Request.{Ordering, natural, min_degree, perm_named, inverse_named, Matrix, TreeInput, tree_named, matrix_named, Input}
use Rattle.requests.specs.Request.{tree_input, workflow_named, ordering_files, matrix_files, tree_input_files, input_files}
use Rattle.requests.specs.Request.{TaskSource, input_tasks, graph_tasks, task_files}

-- lists that are cut at the same place
same_cut : {A : Type 0} (a b : List A) (x y : A) (xs ys : List A)
    → length a ≡ length b → a ++ x ∷ xs ≡ b ++ y ∷ ys → (a ≡ b) × (x ≡ y) × (xs ≡ ys)
same_cut [] [] x y xs ys len e = (refl, cc, cc)
same_cut [] (q ∷ b) x y xs ys len e = absurd (omega arith)
same_cut (p ∷ a) [] x y xs ys len e = absurd (omega arith)
same_cut {A} (p ∷ a) (q ∷ b) x y xs ys len e =
    let more = same_cut a b x y xs ys (omega arith) (cc) in
    (ap₂ (λ (v : A) (vs : List A). v ∷ vs) (cc) more.0, more.1, more.2)

pub one_term : (ps : List Position) (t u : Term) → Denotes ps t → Denotes ps u → t ≡ u
one_term ps t u is other = let e : Some (t ∷ []) ≡ Some (u ∷ []) = sym is ∙ other in cc

abbrev OneValue : {V : Type 0} → (List ℕ → V → Type 0) → Type 0
OneValue {V} reads = (bytes : List ℕ) (one two : V) → reads bytes one → reads bytes two → one ≡ two

-- a system that is within the limits, if a traversal shows that all its tasks can be ordered
abbrev pub IsRunnable : SharedTaskSystem → Type 0
IsRunnable system = (order : List ℕ) → IsSharedTraversal system order → IsSharedSystem system

-- what is known of the parts of an input
pub record Parts : Type 0 where
  pub trees : OneValue ReadsTree
  pub tree : (bytes : List ℕ) (nodes : List Node) → ReadsTree bytes nodes → IsTree nodes
  pub tree_system : (nodes : List Node) → IsTree nodes → IsSystem (system_of_nodes nodes)
  pub forests : (nodes : List Node) (f g : Forest) → IsForestOf nodes f → IsForestOf nodes g → f ≡ g
  pub forest_each : (nodes : List Node) (f : Forest) → IsTree nodes
      → IsForestOf nodes f → IsPermutation (all_numbers f) (range_with_len 1 (length nodes))
  pub patterns : OneValue ReadsPattern
  pub perms : (n : ℕ) → OneValue (ReadsPerm n)
  pub inverses : (n : ℕ) → OneValue (ReadsInverse n)
  pub min_degrees : (joined : ℕ → ℕ → Bool) (n : ℕ) (one two : List ℕ)
      → IsMinimumDegreeOrder joined n one → IsMinimumDegreeOrder joined n two → one ≡ two
  pub perm : (n : ℕ) (bytes order : List ℕ) → ReadsPerm n bytes order → IsPerm n order
  pub inverse : (n : ℕ) (bytes order : List ℕ) → ReadsInverse n bytes order → IsPerm n order
  pub fronts : (options : FrontOptions) (rows : List (List ℕ)) (order : List ℕ) (one two : List Node)
      → IsPattern rows → length order ≡ length rows
      → IsFrontTree options rows order one → IsFrontTree options rows order two → one ≡ two
  pub front_tree : (options : FrontOptions) (rows : List (List ℕ)) (order : List ℕ) (nodes : List Node)
      → IsPattern rows → length order ≡ length rows
      → IsFrontTree options rows order nodes → IsTree nodes
  pub workflows : OneValue ReadsWorkflow
  pub graphs : OneValue ReadsSharedGraph
  pub graph : (bytes : List ℕ) (system : SharedTaskSystem) → ReadsSharedGraph bytes system → IsSharedSystem system
  pub terms : (bytes : List ℕ) (positions : List Position) → ReadsWorkflow bytes positions → IsTerms positions
  pub denotes : (positions : List Position) → IsTerms positions → Denotes positions (term_of positions)
  pub term_system : (positions : List Position) → IsTerms positions → IsSystem (system_of_term (term_of positions))

module _ (p : Parts) where
  one_order : (o : Ordering) (rows texts : List (List ℕ)) (a b : List ℕ) → IsOrderOf o rows texts a → IsOrderOf o rows texts b
      → (a ≡ b) × (length a ≡ length rows) × (length texts ≡ length (ordering_files o))
  one_order natural rows [] a b is other = (is ∙ sym other, ap length is ∙ length-range_with_len 1 (length rows), refl)
  one_order natural rows (t ∷ ts) a b is other = absurd is
  one_order min_degree rows [] a b is other = (p.min_degrees (is_joined rows) (length rows) a b is.1 other.1, is.1.perm.len, refl)
  one_order min_degree rows (t ∷ ts) a b is other = absurd is
  one_order (perm_named name) rows [] a b is other = absurd is
  one_order (perm_named name) rows (t ∷ []) a b is other =
      (p.perms (length rows) t a b is.1 other.1, (p.perm (length rows) t a is.1).len, refl)
  one_order (perm_named name) rows (t ∷ u ∷ ts) a b is other = absurd is
  one_order (inverse_named name) rows [] a b is other = absurd is
  one_order (inverse_named name) rows (t ∷ []) a b is other =
      (p.inverses (length rows) t a b is.1 other.1, (p.inverse (length rows) t a is.1).len, refl)
  one_order (inverse_named name) rows (t ∷ u ∷ ts) a b is other = absurd is

  pub one_matrix : (o : Ordering) (texts rows other : List (List ℕ)) (order same : List ℕ) → IsOrderedMatrix o texts rows order
      → IsOrderedMatrix o texts other same → (rows ≡ other) × (order ≡ same) × IsPattern rows × (length order ≡ length rows)
  one_matrix o [] rows other order same is is' = absurd is
  one_matrix o (t ∷ ts) rows other order same (matrix, is_order) (matrix', is_order') =
      let one = p.patterns t rows other matrix.1 matrix'.1 in
      let orders = one_order o rows ts order same is_order (subst (λ (r : List (List ℕ)). IsOrderOf o r ts same) (sym one) is_order') in
      (one, orders.0, matrix.1.pattern.pattern, orders.1)

  one_matrix_tree : (m : Matrix) (texts : List (List ℕ)) (a b : List Node) → IsMatrixTree m texts a → IsMatrixTree m texts b
      → (a ≡ b) × IsTree a × (length texts ≡ length (matrix_files m))
  one_matrix_tree m [] a b is other = absurd is
  one_matrix_tree m (t ∷ ts) a b (rows, order, matrix, is_order, fronts) (rows', order', matrix', is_order', fronts') =
      let same = p.patterns t rows rows' matrix.1 matrix'.1 in
      let orders = one_order m.ordering rows ts order order' is_order
      (subst (λ (r : List (List ℕ)). IsOrderOf m.ordering r ts order') (sym same) is_order') in
      let other = subst (λ (o : List ℕ). IsFrontTree m.fronts rows o b) (sym orders.0)
      (subst (λ (r : List (List ℕ)). IsFrontTree m.fronts r order' b) (sym same) fronts') in
      let pattern = matrix.1.pattern.pattern in (
        p.fronts m.fronts rows order a b pattern orders.1 fronts other,
        p.front_tree m.fronts rows order a pattern orders.1 fronts,
        omega (arith, orders.2),
      )

  pub one_tree : (input : TreeInput) (texts : List (List ℕ)) (a b : List Node) → IsTreeOf input texts a → IsTreeOf input texts b
      → (a ≡ b) × IsTree a × (length texts ≡ length (tree_input_files input))
  one_tree (tree_named name) [] a b is other = absurd is
  one_tree (tree_named name) (t ∷ []) a b is other = (p.trees t a b is.1 other.1, p.tree t a is.1, refl)
  one_tree (tree_named name) (t ∷ u ∷ ts) a b is other = absurd is
  one_tree (matrix_named m) texts a b is other = one_matrix_tree m texts a b is other

  pub one_system : (input : Input) (texts : List (List ℕ)) (s t : TaskSystem) → IsSystemOf input texts s → IsSystemOf input texts t
      → (s ≡ t) × IsSystem s × (length texts ≡ length (input_files input))
  one_system (tree_input input) texts s t (nodes, is, e) (nodes', is', e') =
      let one = one_tree input texts nodes nodes' is is' in
      (e ∙ ap system_of_nodes one.0 ∙ sym e', subst IsSystem (sym e) (p.tree_system nodes one.1), one.2)
  one_system (workflow_named name) [] s t is other = absurd is
  one_system (workflow_named name) (text ∷ []) s t (ps, u, w, d, e) (qs, v, w', d', e') =
      let same = one_term ps u v d (subst (λ (x : List Position). Denotes x v) (sym (p.workflows text ps qs w.1 w'.1)) d') in
      let terms = p.terms text ps w.1 in
      let own = e ∙ ap system_of_term (one_term ps u (term_of ps) d (p.denotes ps terms)) in
      (e ∙ ap system_of_term same ∙ sym e', subst IsSystem (sym own) (p.term_system ps terms), refl)
  one_system (workflow_named name) (text ∷ more ∷ texts) s t is other = absurd is

  pub one_task_system : (source : TaskSource) (texts : List (List ℕ)) (s t : SharedTaskSystem) → IsTaskSystemOf source texts s
      → IsTaskSystemOf source texts t → (s ≡ t) × IsRunnable s × (length texts ≡ length (task_files source))
  one_task_system (input_tasks input) texts s t (own, is, e) (other, is', e') =
      let one = one_system input texts own other is is' in
      let within : IsRunnable (shared_of own) =
      λ order traversal. traversal_within own one.1 order (to_own own order traversal) in
      (e ∙ ap shared_of one.0 ∙ sym e', subst IsRunnable (sym e) within, one.2)
  one_task_system (graph_tasks name) [] s t is other = absurd is
  one_task_system (graph_tasks name) (text ∷ []) s t is other =
      (p.graphs text s t is.1 other.1, λ order traversal. p.graph text s is.1, refl)
  one_task_system (graph_tasks name) (text ∷ more ∷ texts) s t is other = absurd is

  pub one_list_of_positions : (input : Input) (texts : List (List ℕ)) (s t : TaskSystem) (ps qs : List Position)
      → IsSystemWithTerm input texts s ps → IsSystemWithTerm input texts t qs → ps ≡ qs
  one_list_of_positions (tree_input input) texts s t ps qs (nodes, f, is, e, forest, at) (nodes', g, is', e', forest', at') =
      let same = (one_tree input texts nodes nodes' is is').0 in
      let forests = p.forests nodes f g forest (subst (λ (ns : List Node). IsForestOf ns g) (sym same) forest') in
      at ∙ ap₂ (λ (ns : List Node) (h : Forest). forest_positions ns h) same forests ∙ sym at'
  one_list_of_positions (workflow_named name) [] s t ps qs is other = absurd is
  one_list_of_positions (workflow_named name) (text ∷ []) s t ps qs (u, w, d, e) (v, w', d', e') = p.workflows text ps qs w.1 w'.1
  one_list_of_positions (workflow_named name) (text ∷ more ∷ texts) s t ps qs is other = absurd is

  pub one_numbered_term : (input : Input) (texts : List (List ℕ)) (ps qs : List Position) (ks ls : List ℕ)
      → IsNumberedTerm input texts ps ks → IsNumberedTerm input texts qs ls
      → (ps ≡ qs) × (ks ≡ ls) × AreWithin (length ps) ks
  one_numbered_term (tree_input input) texts ps qs ks ls (nodes, f, is, forest, at, numbers) (nodes', g, is', forest', at', numbers') =
      let same = (one_tree input texts nodes nodes' is is').0 in
      let forests = p.forests nodes f g forest (subst (λ (ns : List Node). IsForestOf ns g) (sym same) forest') in
      let terms = at ∙ ap₂ (λ (ns : List Node) (h : Forest). forest_positions ns h) same forests ∙ sym at' in
      let one = one_tree input texts nodes nodes is is in (
        terms,
        numbers ∙ ap₂ (λ (h : Forest) (rs : List Position). node_positions (all_numbers h) rs) forests terms ∙ sym numbers',
        subst (AreWithin (length ps)) (sym numbers) (forest_within nodes f ps at (p.forest_each nodes f one.1 forest)),
      )
  one_numbered_term (workflow_named name) [] ps qs ks ls is is' = absurd is
  one_numbered_term (workflow_named name) (text ∷ []) ps qs ks ls (w, numbers) (w', numbers') =
      let same = p.workflows text ps qs w.1 w'.1 in (
        same,
        numbers ∙ ap (λ (rs : List Position). range_with_len 1 (length rs)) same ∙ sym numbers',
        subst (AreWithin (length ps)) (sym numbers) (range_within (length ps)),
      )
  one_numbered_term (workflow_named name) (text ∷ more ∷ texts) ps qs ks ls is is' = absurd is

-- what is known of systems
abbrev pub Systems : Type 0
Systems = (input : Input) (texts : List (List ℕ)) (one two : TaskSystem) → IsSystemOf input texts one → IsSystemOf input texts two
    → (one ≡ two) × IsSystem one × (length texts ≡ length (input_files input))

-- texts that begin with those of an input
pub same_texts : Systems
    → (input : Input) (mine mine' : List (List ℕ)) (text text' : List ℕ) (rest rest' : List (List ℕ)) (s t : TaskSystem)
    → mine ++ text ∷ rest ≡ mine' ++ text' ∷ rest' → IsSystemOf input mine s
    → IsSystemOf input mine' t → (mine ≡ mine') × (text ≡ text') × (rest ≡ rest') × (s ≡ t)
same_texts systems input mine mine' text text' rest rest' s t split is is' =
    let len = (systems input mine s s is is).2 ∙ sym ((systems input mine' t t is' is').2) in
    let same = same_cut mine mine' text text' rest rest' len split in
    (same.0, same.1, same.2, (systems input mine s t is (subst (λ (ts : List (List ℕ)). IsSystemOf input ts t) (sym same.0) is')).0)

-- and of those of tasks
abbrev pub TaskSystems : Type 0
TaskSystems = (source : TaskSource) (texts : List (List ℕ)) (one two : SharedTaskSystem) → IsTaskSystemOf source texts one
    → IsTaskSystemOf source texts two → (one ≡ two) × IsRunnable one × (length texts ≡ length (task_files source))

pub same_task_texts : TaskSystems
    → (source : TaskSource) (mine mine' : List (List ℕ)) (text text' : List ℕ) (rest rest' : List (List ℕ)) (s t : SharedTaskSystem)
    → mine ++ text ∷ rest ≡ mine' ++ text' ∷ rest' → IsTaskSystemOf source mine s
    → IsTaskSystemOf source mine' t → (mine ≡ mine') × (text ≡ text') × (rest ≡ rest') × (s ≡ t)
same_task_texts systems source mine mine' text text' rest rest' s t split is is' =
    let len = (systems source mine s s is is).2 ∙ sym ((systems source mine' t t is' is').2) in
    let same = same_cut mine mine' text text' rest rest' len split in
    (same.0, same.1, same.2, (systems source mine s t is (subst (λ (ts : List (List ℕ)). IsTaskSystemOf source ts t) (sym same.0) is')).0)
