-- What well-formed lines of a tree file say of the nodes that they state.
use Rattle.std.proofs.Common.{◌≡◌, ℕ, ◌+◌, ◌-◌, ◌<◌, ◌≤◌, true, ltb, List, [], ◌∷◌, ◌++◌, length, get_or}
use Rattle.std.proofs.Common.{take, drop, map, refl, sym, ap, subst, ◌∙◌, arith, None, append_assoc}
use Rattle.std.specs.List.{sum_by, All}
use Rattle.std.proofs.lemmas.List.{length-map, get_or-map, take_all, drop_more, take-append-drop, length-take-le}
use Rattle.std.proofs.Math.Seq.{take-append_seam}
use Rattle.std.proofs.lemmas.List.Sums.{sum_by_more}
use Rattle.std.proofs.lemmas.Bool.{leb-true, eqb-true, lt-ltb}
use Rattle.limits.specs.Limits.{most_tasks, most_size, most_time, most_total}
use Rattle.file_frame.specs.declared.version.Version.{Version}
use Rattle.mp_text.specs.Text.{Row}
use Rattle.mp_text.specs.Grammar.{first_failure, ArePassed, IsWellFormed}
use Rattle.trees.specs.Tree.{IsNodeWithin, node_size}
use Rattle.trees.specs.Judged.{AreNodesWithin}
use Rattle.tree_files.specs.TreeFile.{tree_format, node_count, node_tests, node_of, total_of, tree_version, nodes_stated, is_tree_complete}
use Rattle.trees.specs.declared.node.Node.{Node}
use Rattle.lists.proofs.Bools.{both_true, positive}
use Rattle.lists.proofs.Lists.{ends, sum_by-map}
use Rattle.file_frame.proofs.TestLemmas.{passes}

-- ---- tests that all hold

within_sums : (total : ℕ) (node : Node) → total + node.out + node.extra ≤ most_total → total + node_size node ≤ most_total
within_sums total node e = omega arith

-- what the tests of a node line say of its node
record IsNodeOn (count total : ℕ) (node : Node) : Type 0 where
  pub parent : node.parent ≤ count
  pub out : node.out ≤ most_size
  pub extra : node.extra ≤ most_size
  pub time : (1 ≤ node.time) × (node.time ≤ most_time)
  pub sums : total + node_size node ≤ most_total

node_passed : (version : Version) (count total : ℕ) (row : Row)
    → first_failure (node_tests version count total row) ≡ None → IsNodeOn count total (node_of version row)
node_passed version count total row none =
    let node = node_of version row in
    let one = passes _ _ _ none in
    let two = passes _ _ _ one.1 in
    let three = passes _ _ _ two.1 in
    let four = passes _ _ _ three.1 in
    let five = passes _ _ _ four.1 in
    let six = passes _ _ _ five.1 in
    let sizes = both_true _ _ four.0 in
    record {
      parent = leb-true _ _ three.0;
      out = leb-true _ _ sizes.0;
      extra = leb-true _ _ sizes.1;
      time = (positive node.time (both_true _ _ two.0).1, leb-true _ _ five.0);
      sums = within_sums total node (leb-true _ _ six.0);
    }

-- ---- the parts of a well-formed file

-- a header, a count, as many node lines, and one more
record AreParts (all : List Row) : Type 0 where
  header : Row
  counted : Row
  rows : List Row
  last : Row
  all_are : all ≡ header ∷ counted ∷ (rows ++ last ∷ [])
  whole : length rows ≡ node_count counted

pub complete : (rows : List Row) (past : ℕ) → IsWellFormed tree_format rows past → is_tree_complete rows ≡ true
complete rows past form = (passes _ _ _ form.end).0

parts_of : (all : List Row) → is_tree_complete all ≡ true → AreParts all
parts_of [] e = absurd cc
parts_of (header ∷ []) e = absurd cc
parts_of (header ∷ counted ∷ rows) e =
    let split = ends (node_count counted) rows (eqb-true _ _ e) in
    record {
      header = header;
      counted = counted;
      rows = split.0;
      last = split.1;
      all_are = ap (λ zs. header ∷ counted ∷ zs) split.2.0;
      whole = split.2.1;
    }

module _ (header counted last : Row) (rows : List Row) (whole : length rows ≡ node_count counted)
    (passed : ArePassed tree_format (header ∷ counted ∷ (rows ++ last ∷ []))) where
  count_passed : (1 ≤ node_count counted) × (node_count counted ≤ most_tasks)
  count_passed =
      let none = passed (header ∷ []) (rows ++ last ∷ []) counted refl in
      let one = passes _ _ _ none in
      let two = passes _ _ _ one.1 in
      let three = passes _ _ _ two.1 in
      let four = passes _ _ _ three.1 in
      (positive (node_count counted) three.0, leb-true _ _ four.0)

  node_at_passed : (i : ℕ) (d : Row) → i < length rows
      → IsNodeOn (node_count counted) (total_of (tree_version header) (take i rows)) (node_of (tree_version header) (get_or rows i d))
  node_at_passed i d lt =
      let row = get_or rows i d in
      let cut : take i rows ++ row ∷ drop (i + 1) rows ≡ rows =
      ap (λ (ys : List Row). take i rows ++ ys) (sym (drop_more rows i d lt)) ∙ take-append-drop i rows in
      let split : rows ++ last ∷ [] ≡ take i rows ++ row ∷ (drop (i + 1) rows ++ last ∷ []) =
      ap (λ (xs : List Row). xs ++ last ∷ []) (sym cut) ∙ append_assoc (take i rows) (row ∷ drop (i + 1) rows) (last ∷ []) in
      let none = passed (header ∷ counted ∷ take i rows) (drop (i + 1) rows ++ last ∷ []) row
      (ap (λ (xs : List Row). header ∷ counted ∷ xs) split) in
      let fewer : ltb (length (take i rows)) (node_count counted) ≡ true =
      lt-ltb _ _ (omega (arith, length-take-le i rows (omega arith))) in
      node_passed (tree_version header) (node_count counted) _ row (rw fewer at none)

  nodes : List Node
  nodes = map (node_of (tree_version header)) rows

  nodes_len : length nodes ≡ node_count counted
  unfolding nodes
  nodes_len = length-map rows (node_of (tree_version header)) ∙ whole

  each_within : All (IsNodeWithin nodes) nodes
  unfolding nodes
  each_within i d lt =
      let short : i < length rows = omega (arith, length-map rows (node_of (tree_version header)), lt) in
      let row : Row = record { number = 0; tokens = [] } in
      let on = node_at_passed i row short in
      let is : get_or nodes i d ≡ node_of (tree_version header) (get_or rows i row) =
      get_or-map (node_of (tree_version header)) rows i row d short in
      rw is (record { parent = omega (arith, on.parent, nodes_len); out = on.out; extra = on.extra; time = on.time })

  stated_is : nodes_stated (header ∷ counted ∷ (rows ++ last ∷ [])) ≡ nodes
  unfolding nodes
  stated_is =
      ap (map (node_of (tree_version header))) (ap (λ (n : ℕ). take n (rows ++ last ∷ [])) (sym whole) ∙ take-append_seam rows (last ∷ []))

  total_within : sum_by node_size nodes ≤ most_total
  unfolding nodes
  total_within =
      let size : Row → ℕ = λ row. node_size (node_of (tree_version header) row) in
      let row : Row = record { number = 0; tokens = [] } in
      let i = length rows - 1 in
      let lt : length rows - 1 < length rows = omega (arith, count_passed.0, whole) in
      let on = node_at_passed i row lt in
      let more = sum_by_more size rows i row lt in
      let all : take (length rows - 1 + 1) rows ≡ rows = take_all (length rows - 1 + 1) rows (omega arith) in
      omega (arith, on.sums, more, ap (sum_by size) all, sum_by-map node_size (node_of (tree_version header)) rows)

  within : AreNodesWithin nodes
  within = record {
    some = omega (arith, nodes_len, count_passed.0);
    few = omega (arith, nodes_len, count_passed.1);
    each = each_within;
    total = total_within;
  }

  pub stated_within : AreNodesWithin (nodes_stated (header ∷ counted ∷ (rows ++ last ∷ [])))
  stated_within = rw stated_is within

pub well_formed_within : (rows : List Row) (past : ℕ) → IsWellFormed tree_format rows past → AreNodesWithin (nodes_stated rows)
well_formed_within rows past form =
    let parts = parts_of rows (complete rows past form) in
    subst (λ (rs : List Row). AreNodesWithin (nodes_stated rs)) (sym parts.all_are)
    (stated_within parts.header parts.counted parts.last parts.rows parts.whole (subst (ArePassed tree_format) parts.all_are form.lines))
