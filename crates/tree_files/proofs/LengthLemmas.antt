-- A printed tree is never too long for a reader of files: bounds on the bytes of each line, and of all lines.
use Rattle.std.proofs.Common.{ℕ, ◌+◌, ◌*◌, ◌≤◌, List, [], ◌∷◌, ◌++◌, length, get_or, map, arith}
use Rattle.std.specs.Fmt.{decimal}
use Rattle.std.specs.List.{All}
use Rattle.std.proofs.lemmas.Fmt.{length-decimal-le}
use Rattle.std.proofs.lemmas.List.{length-map}
use Rattle.std.proofs.lemmas.List.Elements.{All-nil, All-cons, All-head, All-tail, All-map}
use Rattle.limits.specs.Limits.{most_bytes, most_tasks, most_size}
use Rattle.file_frame.specs.declared.version.Version.{Version}
use Rattle.file_frame.specs.declared.version.Version.TheVariants.{One, Two}
use Rattle.trees.specs.Tree.{IsTree, IsNodeWithin}
use Rattle.tree_files.specs.TreeText.{node_line, tree_text_in}
use Rattle.trees.specs.declared.node.Node.{Node}
use Rattle.tree_files.proofs.PrintedLemmas.{fitting-share}
use Rattle.file_frame.specs.Printed.{header_line, section_line, end_line}
use Rattle.file_frame.proofs.LengthLemmas.{IsLineWithin, text-within, text-append, last-token}
use Rattle.file_frame.proofs.LengthLemmas.{text-cons, first-token, header-within, section-within}
use Rattle.std.specs.Prelude.{codes}

-- ---- lines of numbers

-- the sum of two sizes has at most 13 digits
abbrev IsShort : ℕ → Type 0
IsShort n = n ≤ most_size + most_size

short-decimal : (n : ℕ) → IsShort n → length (decimal n) ≤ 13
short-decimal n le = length-decimal-le 13 n (omega arith) (omega arith) (omega arith)

-- a blank or a line feed stands after each number
numbers-within : (n : ℕ) (ns : List ℕ) → All IsShort (n ∷ ns) → IsLineWithin (14 * length (n ∷ ns)) (map decimal (n ∷ ns))
numbers-within n [] short = omega (arith, last-token (decimal n), short-decimal n (All-head IsShort n [] short))
numbers-within n (m ∷ ns) short =
    omega (
      arith,
      first-token (decimal n) (decimal m) (map decimal ns),
      short-decimal n (All-head IsShort n (m ∷ ns) short),
      numbers-within m ns (All-tail IsShort n (m ∷ ns) short),
    )

-- ---- the lines of a tree

node-within : (version : Version) (nodes : List Node) (node : Node) → length nodes ≤ most_tasks → IsNodeWithin nodes node
    → IsShort node.share → IsLineWithin 70 (node_line version node)
node-within version nodes node few within share = go version
  where
    parent : IsShort node.parent
    parent = omega (arith, within.parent, few)

    out : IsShort node.out
    out = omega (arith, within.out)

    extra : IsShort node.extra
    extra = omega (arith, within.extra)

    time : IsShort node.time
    time = omega (arith, within.time.1)

    more : (n : ℕ) (ns : List ℕ) → IsShort n → All IsShort ns → All IsShort (n ∷ ns)
    more n ns here rest = All-cons IsShort n ns here rest

    last : All IsShort (node.time ∷ [])
    last = more node.time [] time (All-nil IsShort)

    whole : (ns : List ℕ) → All IsShort ns → All IsShort (node.parent ∷ node.out ∷ node.extra ∷ ns)
    whole ns rest =
        more node.parent (node.out ∷ node.extra ∷ ns) parent (more node.out (node.extra ∷ ns) out (more node.extra ns extra rest))

    go : (v : Version) → IsLineWithin 70 (node_line v node)
    go One = omega (arith, numbers-within node.parent (node.out ∷ node.extra ∷ node.time ∷ []) (whole (node.time ∷ []) last))
    go Two =
        let rest = node.share ∷ node.time ∷ [] in
        numbers-within node.parent (node.out ∷ node.extra ∷ rest) (whole rest (more node.share (node.time ∷ []) share last))

-- ---- all lines

nodes-within : (version : Version) (nodes : List Node) → IsTree nodes → All (IsLineWithin 70) (map (node_line version) nodes)
nodes-within version nodes tree = All-map (IsLineWithin 70) (node_line version) nodes each
  where
    each : All (λ node. IsLineWithin 70 (node_line version node)) nodes
    each i d lt =
        let within = tree.each i d lt in
        let share : IsShort (get_or nodes i d).share = omega (arith, fitting-share nodes tree i d lt, within.out, within.extra) in
        node-within version nodes (get_or nodes i d) tree.few within share

-- for a million nodes the bounds above add up to 70000031
pub printed-within : (version : Version) (nodes : List Node) → IsTree nodes → length (tree_text_in version nodes) ≤ most_bytes
printed-within version nodes tree =
    let lines = map (node_line version) nodes in
    omega (
      arith,
      text-cons (header_line (codes "tree") version) (section_line (codes "nodes") (length nodes) ∷ (lines ++ end_line ∷ [])),
      header-within (codes "tree") version,
      text-cons (section_line (codes "nodes") (length nodes)) (lines ++ end_line ∷ []),
      section-within (codes "nodes") (length nodes) 13 (short-decimal (length nodes) (omega (arith, tree.few))),
      text-append lines (end_line ∷ []),
      text-within 70 lines (nodes-within version nodes tree),
      length-map nodes (node_line version),
      tree.few,
    )
