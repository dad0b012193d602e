-- A printed tree is read as it was.
use Rattle.std.proofs.Common.{◌≡◌, ℕ, zero, suc, ◌+◌, ◌-◌, ◌^◌, ◌<◌, ◌≤◌, Bool, true, false, not, eqb, ltb, cond, List, [], ◌∷◌}
use Rattle.std.proofs.Common.{◌++◌, inl, inr, length, get_or, take, drop, map, refl, sym, ap, subst, ◌∙◌, arith, Some, None}
use Rattle.std.specs.List.{All, sum_by, list_all}
use Rattle.std.proofs.lemmas.Bool.{and_from, and_right, le-leb, lt-ltb, le-ltb, ne_eqb, eq-eqb, eqb-true, not-false, or_parts}
use Rattle.std.proofs.lemmas.List.{length-map, length_push, get_or_default, drop_all}
use Rattle.std.proofs.Common.{length-append}
use Rattle.std.proofs.lemmas.List.Elements.{All-nil, All-cons, All-tail}
use Rattle.std.proofs.lemmas.List.Folds.{list_all-append}
use Rattle.std.proofs.lemmas.List.Sums.{sum_by-cons, sum_by-append}
use Rattle.std.proofs.Math.Seq.{take-append_seam}
use Rattle.limits.specs.Limits.{most_tasks, most_size, most_time, most_total}
use Rattle.mp_text.specs.declared.layout.Layout.TheVariants.{Commented}
use Rattle.file_frame.specs.declared.version.Version.{Version}
use Rattle.file_frame.specs.declared.version.Version.TheVariants.{One, Two}
use Rattle.mp_text.specs.Text.{Row, numbers_of}
use Rattle.file_frame.specs.Words.{after_word}
use Rattle.mp_text.specs.Ahead.{rows_of_bytes}
use Rattle.mp_text.specs.Grammar.{first_failure, ArePassed}
use Rattle.mp_text.specs.Report.{is_counted, numbered_from}
use Rattle.trees.specs.Tree.{IsTree, IsNodeWithin, node_size, node_at}
use Rattle.tree_files.specs.TreeFile.{tree_format, tree_header_tests, tree_version, node_count_tests, node_count, fields_of, node_tests}
use Rattle.tree_files.specs.TreeFile.{node_of, total_of, is_tree_complete, nodes_stated, tree_line_tests, ReadsTree}
use Rattle.tree_files.specs.TreeText.{node_numbers, node_line, tree_lines, tree_text_in, has_share}
use Rattle.tree_files.specs.TreeText.{tree_version_for, tree_text, tree_text_2}
use Rattle.trees.specs.declared.node.Node.{Node}
use Rattle.lists.proofs.Lists.{within as last_or_within}
use Rattle.file_frame.specs.Frame.{is_end, last_tests}
use Rattle.file_frame.specs.Printed.{header_line, section_line, end_line}
use Rattle.file_frame.proofs.PrintedLaws.{AreLaws, AreSmall, numbers_counted}
use Rattle.file_frame.proofs.LineLemmas.{header_row, header_passes, header_is, section_is, section_counted}
use Rattle.tree_files.specs.declared.kind.TreeKind.TheVariants as kinds
use Rattle.std.specs.Prelude.{codes}

-- ---- one line

-- what is printed of a node is the node
record IsPrintable (version : Version) (node : Node) : Type 0 where
  numbers : AreSmall (node_numbers version node)
  unshared : version ≡ One → node.share ≡ 0

small_three : (a b c : ℕ) (ns : List ℕ) → a < 2 ^ 64 → b < 2 ^ 64 → c < 2 ^ 64 → AreSmall ns → AreSmall (a ∷ b ∷ c ∷ ns)
small_three a b c ns one two three rest =
    let small : ℕ → Type 0 = λ n. n < 2 ^ 64 in
    All-cons small a (b ∷ c ∷ ns) one (All-cons small b (c ∷ ns) two (All-cons small c ns three rest))

small_numbers : (version : Version) (node : Node) → node.parent < 2 ^ 64 → node.out < 2 ^ 64
    → node.extra < 2 ^ 64 → node.share < 2 ^ 64 → node.time < 2 ^ 64 → AreSmall (node_numbers version node)
small_numbers One node parent out extra share time =
    let small : ℕ → Type 0 = λ n. n < 2 ^ 64 in
    small_three node.parent node.out node.extra (node.time ∷ []) parent out extra (All-cons small node.time [] time (All-nil small))
small_numbers Two node parent out extra share time =
    let small : ℕ → Type 0 = λ n. n < 2 ^ 64 in
    small_three node.parent node.out node.extra (node.share ∷ node.time ∷ []) parent out extra
    (All-cons small node.share (node.time ∷ []) share (All-cons small node.time [] time (All-nil small)))

fields_are : AreLaws → (version : Version) (node : Node) → IsPrintable version node
    → fields_of version (numbers_of (node_line version node))
    ≡ Some (record { parent = node.parent; out = node.out; extra = node.extra; share = node.share; time = node.time })
fields_are laws One node fits =
    ap (fields_of One) (laws.values (node_numbers One node) fits.numbers)
    ∙ ap (λ (n : ℕ). Some (record { parent = node.parent; out = node.out; extra = node.extra; share = n; time = node.time }))
    (sym (fits.unshared refl))
fields_are laws Two node fits = ap (fields_of Two) (laws.values (node_numbers Two node) fits.numbers)

not_end : (version : Version) (number : ℕ) (node : Node) → is_end (record { number = number; tokens = node_line version node }) ≡ false
not_end One number node = and_right _ _ refl
not_end Two number node = and_right _ _ refl

node-counted : AreLaws → (version : Version) (node : Node) → IsPrintable version node → is_counted Commented (node_line version node) ≡ true
node-counted laws One node fits = numbers_counted laws Commented node.parent (node.out ∷ node.extra ∷ node.time ∷ []) fits.numbers
node-counted laws Two node fits =
    numbers_counted laws Commented node.parent (node.out ∷ node.extra ∷ node.share ∷ node.time ∷ []) fits.numbers

-- ---- rows

node_rows : Version → ℕ → List Node → List Row
node_rows version n nodes = numbered_from n (map (node_line version) nodes)

nodes_of-rows : AreLaws → (version : Version) (n : ℕ) (nodes : List Node)
    → All (IsPrintable version) nodes → map (node_of version) (node_rows version n nodes) ≡ nodes
unfolding node_rows
nodes_of-rows laws version n [] fit = refl
nodes_of-rows laws version n (node ∷ nodes) fit =
    rw (fields_are laws version node (fit 0 node (omega arith)))
    (ap (λ (ns : List Node). node ∷ ns) (nodes_of-rows laws version (n + 1) nodes (All-tail (IsPrintable version) node nodes fit)))

cons_same : {X : Type 0} (x y : X) (xs ys : List X) → x ≡ y → xs ≡ ys → x ∷ xs ≡ y ∷ ys
cons_same x y xs ys e f = cc

-- a split of the rows at one of them is a split of the nodes
record IsNodeSplit (version : Version) (n : ℕ) (nodes : List Node) (before : List Row) (row : Row) : Type 0 where
  first : List Node
  node : Node
  rest : List Node
  number : ℕ
  nodes_are : nodes ≡ first ++ node ∷ rest
  row_is : row ≡ record { number = number; tokens = node_line version node }
  before_is : before ≡ node_rows version n first

node_split : (version : Version) (n : ℕ) (nodes : List Node) (before : List Row) (row : Row) (after : List Row)
    → node_rows version n nodes ≡ before ++ row ∷ after → IsNodeSplit version n nodes before row
unfolding node_rows
node_split version n [] [] row after e = absurd cc
node_split version n [] (b ∷ before) row after e = absurd cc
node_split version n (node ∷ nodes) [] row after e =
    let first : record { number = n; tokens = node_line version node } ≡ row = cc in
    record { first = []; node = node; rest = nodes; number = n; nodes_are = refl; row_is = sym first; before_is = refl }
node_split version n (node ∷ nodes) (b ∷ before) row after e =
    let head : record { number = n; tokens = node_line version node } ≡ b = cc in
    let tail : node_rows version (n + 1) nodes ≡ before ++ row ∷ after = cc in
    let more = node_split version (n + 1) nodes before row after tail in
    let here : Row = record { number = n; tokens = node_line version node } in
    record {
      first = node ∷ more.first;
      node = more.node;
      rest = more.rest;
      number = more.number;
      nodes_are = cons_same node node nodes (more.first ++ more.node ∷ more.rest) refl more.nodes_are;
      row_is = more.row_is;
      before_is = cons_same b here before (node_rows version (n + 1) more.first) (sym head) more.before_is;
    }

All-first : {X : Type 0} (P : X → Type 0) (xs ys : List X) → All P (xs ++ ys) → All P xs
All-first P [] ys all i d lt = absurd (omega arith)
All-first P (x ∷ xs) ys all zero d lt = all zero d (omega arith)
All-first P (x ∷ xs) ys all (suc i) d lt = All-first P xs ys (All-tail P x (xs ++ ys) all) i d (omega arith)

All-at : {X : Type 0} (P : X → Type 0) (xs : List X) (y : X) (ys : List X) → All P (xs ++ y ∷ ys) → P y
All-at P [] y ys all = all zero y (omega arith)
All-at P (x ∷ xs) y ys all = All-at P xs y ys (All-tail P x (xs ++ y ∷ ys) all)

total_of-rows : AreLaws → (version : Version) (n : ℕ) (nodes : List Node)
    → All (IsPrintable version) nodes → total_of version (node_rows version n nodes) ≡ sum_by node_size nodes
unfolding node_rows
total_of-rows laws version n [] fit = refl
total_of-rows laws version n (node ∷ nodes) fit =
    let size : Row → ℕ = λ row. node_size (node_of version row) in
    let row : Row = record { number = n; tokens = node_line version node } in
    let here : size row ≡ node_size node = rw (fields_are laws version node (fit 0 node (omega arith))) refl in
    omega (
      arith,
      sum_by-cons size row (node_rows version (n + 1) nodes),
      sum_by-cons node_size node nodes,
      here,
      total_of-rows laws version (n + 1) nodes (All-tail (IsPrintable version) node nodes fit),
    )

-- ---- tests of the lines

node_passes : AreLaws → (version : Version) (count total number : ℕ) (node : Node) → IsPrintable version node
    → node.parent ≤ count → node.out ≤ most_size → node.extra ≤ most_size → 1 ≤ node.time → node.time ≤ most_time
    → total + node.out + node.extra ≤ most_total
    → first_failure (node_tests version count total (record { number = number; tokens = node_line version node })) ≡ None
node_passes laws version count total number node fits parent out extra some time sums =
    let positive : eqb node.time 0 ≡ false = ne_eqb node.time 0 (λ z. omega arith) in
    rw (
      not_end version number node,
      fields_are laws version node fits,
      positive,
      le-leb node.parent count parent,
      le-leb node.out most_size out,
      le-leb node.extra most_size extra,
      le-leb node.time most_time time,
      le-leb (total + node.out + node.extra) most_total sums,
    ) refl

count_row : ℕ → Row
count_row count = record { number = 2; tokens = section_line (codes "nodes") count }

count_passes : AreLaws → (count : ℕ) → 1 ≤ count → count ≤ most_tasks → first_failure (node_count_tests (count_row count)) ≡ None
unfolding count_row after_word
count_passes laws count some few =
    let number = laws.value count (omega arith) in
    let positive : eqb count 0 ≡ false = ne_eqb count 0 (λ z. omega arith) in
    rw (number, positive, le-leb count most_tasks few) refl

count_is : AreLaws → (count : ℕ) → count ≤ most_tasks → node_count (count_row count) ≡ count
unfolding count_row
count_is laws count few = section_is laws (codes "nodes") 2 count refl (omega arith)

-- ---- all lines

-- a split of a list with one element more is at that element, or within the list

Passes : List Row → Row → Type 0
Passes before row = first_failure (tree_line_tests before row) ≡ None

-- a header, a count, as many node lines and an end pass, where each does
module _ (header counted last : Row) (rows : List Row) (whole : length rows ≡ node_count counted)
    (header_ok : first_failure (tree_header_tests header) ≡ None) (count_ok : first_failure (node_count_tests counted) ≡ None)
    (rows_ok : (before after : List Row) (row : Row) → rows ≡ before ++ row ∷ after
    → first_failure (node_tests (tree_version header) (node_count counted) (total_of (tree_version header) before) row) ≡ None)
    (last_ok : first_failure (last_tests kinds.Count last) ≡ None) where
  at_last : Passes (header ∷ counted ∷ rows) last
  unfolding Passes
  at_last =
      let past : ltb (length rows) (node_count counted) ≡ false = le-ltb _ _ (omega arith) in
      let none_left : drop (node_count counted) rows ≡ [] = drop_all (node_count counted) rows (omega (arith, whole)) in
      rw (past, none_left) last_ok

  at_node : (before after : List Row) (row : Row) → rows ≡ before ++ row ∷ after → Passes (header ∷ counted ∷ before) row
  unfolding Passes
  at_node before after row e =
      let fewer : ltb (length before) (node_count counted) ≡ true =
      lt-ltb _ _ (omega (arith, whole, ap length e, length-append before (row ∷ after))) in
      rw fewer (rows_ok before after row e)

  all_passed : ArePassed tree_format (header ∷ counted ∷ (rows ++ last ∷ []))
  unfolding Passes
  all_passed [] after row e = let is : header ≡ row = cc in subst (λ (r : Row). Passes [] r) is header_ok
  all_passed (h ∷ []) after row e =
      let first : header ≡ h = cc in
      let is : counted ≡ row = cc in
      subst (λ (b : Row). Passes (b ∷ []) row) first (subst (λ (r : Row). Passes (header ∷ []) r) is count_ok)
  all_passed (h ∷ c ∷ before) after row e =
      let first : header ≡ h = cc in
      let second : counted ≡ c = cc in
      let tail : rows ++ last ∷ [] ≡ before ++ row ∷ after = cc in
      let here : Passes (header ∷ counted ∷ before) row = elim (last_or_within rows last before row after tail) [
        | inl end ↦ subst (λ (bs : List Row). Passes (header ∷ counted ∷ bs) row) (sym end.0)
            (subst (λ (r : Row). Passes (header ∷ counted ∷ rows) r) (sym end.1) at_last)
        | inr more ↦ at_node before more.0 row more.1
      ] in
      subst (λ (b : Row). Passes (b ∷ c ∷ before) row) first (subst (λ (b : Row). Passes (header ∷ b ∷ before) row) second here)

-- ---- the whole file

-- a node's share is at most its extra and its out
pub fitting-share : (nodes : List Node) → IsTree nodes → (i : ℕ) (d : Node) → i < length nodes
    → (get_or nodes i d).share ≤ (get_or nodes i d).extra + (get_or nodes i d).out
fitting-share nodes tree i d lt =
    let e : Node = record { parent = 0; out = 0; extra = 0; share = 0; time = 0 } in
    let place : i + 1 - 1 ≡ i = omega arith in
    let share = (tree.shares (i + 1) (omega arith, omega arith)).1 in
    let at : node_at nodes (i + 1) ≡ get_or nodes i d = ap (λ (k : ℕ). get_or nodes k e) place ∙ get_or_default nodes i e d lt in
    subst (λ (n : Node). n.share ≤ n.extra + n.out) at share

module _ (laws : AreLaws) (version : Version) (nodes : List Node) (tree : IsTree nodes)
    (unshared : version ≡ One → All (λ node. node.share ≡ 0) nodes) where
  printable : All (IsPrintable version) nodes
  printable i d lt =
      let within = tree.each i d lt in
      let node = get_or nodes i d in
      let share = fitting-share nodes tree i d lt in
      record {
        numbers =
            small_numbers version node (omega (arith, within.parent, tree.few)) (omega (arith, within.out)) (omega (arith, within.extra))
            (omega (arith, share, within.out, within.extra)) (omega (arith, within.time.1));
        unshared = λ e. unshared e i d lt;
      }

  -- the rows
  abbrev header : Row
  header = header_row (codes "tree") version

  abbrev counted : Row
  counted = count_row (length nodes)

  abbrev rows : List Row
  rows = node_rows version 3 nodes

  abbrev last : Row
  last = record { number = 3 + length (map (node_line version) nodes); tokens = end_line }

  rows_are : numbered_from 1 (tree_lines version nodes) ≡ header ∷ counted ∷ (rows ++ last ∷ [])
  unfolding count_row node_rows
  rows_are = ap (λ (rs : List Row). header_row (codes "tree") version ∷ count_row (length nodes) ∷ rs)
      (laws.parts 3 (map (node_line version) nodes) (end_line ∷ []))

  counted_is : node_count counted ≡ length nodes
  counted_is = count_is laws (length nodes) tree.few

  rows_len : length rows ≡ length nodes
  unfolding node_rows
  rows_len = laws.count 3 (map (node_line version) nodes) ∙ length-map nodes (node_line version)

  node_ok : (before after : List Row) (row : Row) → rows ≡ before ++ row ∷ after
      → first_failure (node_tests version (length nodes) (total_of version before) row) ≡ None
  node_ok before after row e =
      let split = node_split version 3 nodes before row after e in
      let within =
      All-at (IsNodeWithin nodes) split.first split.node split.rest (subst (All (IsNodeWithin nodes)) split.nodes_are tree.each) in
      let fits =
      All-at (IsPrintable version) split.first split.node split.rest (subst (All (IsPrintable version)) split.nodes_are printable) in
      let first = All-first (IsPrintable version) split.first (split.node ∷ split.rest)
      (subst (All (IsPrintable version)) split.nodes_are printable) in
      let total : total_of version before ≡ sum_by node_size split.first =
      ap (total_of version) split.before_is ∙ total_of-rows laws version 3 split.first first in
      let sums : sum_by node_size nodes ≡ sum_by node_size split.first + sum_by node_size (split.node ∷ split.rest) =
      ap (sum_by node_size) split.nodes_are ∙ sum_by-append node_size split.first (split.node ∷ split.rest) in
      let small : total_of version before + split.node.out + split.node.extra ≤ most_total =
      omega (arith, total, sums, sum_by-cons node_size split.node split.rest, tree.total) in
      subst (λ (r : Row). first_failure (node_tests version (length nodes) (total_of version before) r) ≡ None) (sym split.row_is)
      (node_passes laws version (length nodes)
      (total_of version before) split.number split.node fits within.parent within.out within.extra within.time.0 within.time.1 small)

  rows_ok : (before after : List Row) (row : Row) → rows ≡ before ++ row ∷ after
      → first_failure (node_tests (tree_version header) (node_count counted) (total_of (tree_version header) before) row) ≡ None
  rows_ok before after row e = rw (header_is (codes "tree") version refl, counted_is) (node_ok before after row e)

  passed : ArePassed tree_format (header ∷ counted ∷ (rows ++ last ∷ []))
  passed = all_passed header counted last rows (rows_len ∙ sym counted_is)
      (header_passes (codes "tree") kinds.Header version refl) (count_passes laws (length nodes) tree.some tree.few) rows_ok refl

  whole : is_tree_complete (header ∷ counted ∷ (rows ++ last ∷ [])) ≡ true
  whole = eq-eqb _ _ (omega (arith, length_push rows last, rows_len, counted_is))

  stated : nodes_stated (header ∷ counted ∷ (rows ++ last ∷ [])) ≡ nodes
  stated =
      let cut : take (node_count counted) (rows ++ last ∷ []) ≡ rows =
      ap (λ (n : ℕ). take n (rows ++ last ∷ [])) (counted_is ∙ sym rows_len) ∙ take-append_seam rows (last ∷ []) in
      ap (λ (v : Version). map (node_of v) (take (node_count counted) (rows ++ last ∷ []))) (header_is (codes "tree") version refl)
      ∙ ap (map (node_of version)) cut ∙ nodes_of-rows laws version 3 nodes printable

  -- the lines count
  nodes_counted : (ns : List Node) → All (IsPrintable version) ns → list_all (is_counted Commented) (map (node_line version) ns) ≡ true
  nodes_counted [] fit = refl
  nodes_counted (n ∷ ns) fit =
      and_from _ _ (node-counted laws version n (fit 0 n (omega arith))) (nodes_counted ns (All-tail (IsPrintable version) n ns fit))

  header_counted : (v : Version) → is_counted Commented (header_line (codes "tree") v) ≡ true
  header_counted One = refl
  header_counted Two = refl

  count_counted : is_counted Commented (section_line (codes "nodes") (length nodes)) ≡ true
  count_counted = section_counted laws (codes "nodes") (length nodes) refl refl (omega (arith, tree.few))

  lines_counted : list_all (is_counted Commented) (tree_lines version nodes) ≡ true
  lines_counted =
      and_from _ _ (header_counted version) (and_from _ _ count_counted
      (list_all-append (is_counted Commented) (map (node_line version) nodes) (end_line ∷ [])
      ∙ and_from _ _ (nodes_counted nodes printable) refl))

  pub printed-reads : ReadsTree (tree_text_in version nodes) nodes
  printed-reads =
      let read : rows_of_bytes Commented (tree_text_in version nodes) ≡ header ∷ counted ∷ (rows ++ last ∷ []) =
      laws.rows Commented (tree_lines version nodes) lines_counted ∙ rows_are in
      record {
        form = record {
          lines = subst (ArePassed tree_format) (sym read) passed;
          end = rw (ap is_tree_complete read ∙ whole) refl;
        };
        stated = sym (ap nodes_stated read ∙ stated);
        roots = tree.roots;
        shares = tree.shares;
      }

-- ---- both versions

no_share : (nodes : List Node) → has_share nodes ≡ false → All (λ node. node.share ≡ 0) nodes
no_share [] none i d lt = absurd (omega arith)
no_share (n ∷ ns) none zero d lt = eqb-true n.share 0 (not-false _ (or_parts (not (eqb n.share 0)) (has_share ns) none).0)
no_share (n ∷ ns) none (suc i) d lt = no_share ns (or_parts (not (eqb n.share 0)) (has_share ns) none).1 i d (omega arith)

-- version 1 is taken only where no node has a share
one_unshared : (b : Bool) (nodes : List Node) → has_share nodes ≡ b → cond b Two One ≡ One → All (λ node. node.share ≡ 0) nodes
one_unshared true nodes e is = absurd cc
one_unshared false nodes e is = no_share nodes e

pub tree_text-reads : AreLaws → (nodes : List Node) → IsTree nodes → ReadsTree (tree_text nodes) nodes
tree_text-reads laws nodes tree = printed-reads laws (tree_version_for nodes) nodes tree (one_unshared (has_share nodes) nodes refl)

pub tree_text_2-reads : AreLaws → (nodes : List Node) → IsTree nodes → ReadsTree (tree_text_2 nodes) nodes
tree_text_2-reads laws nodes tree = printed-reads laws Two nodes tree (λ never. absurd cc)
