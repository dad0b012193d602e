-- Of a tree file: it is read or refused, never both, as one tree or with one refusal.
use Rattle.std.proofs.Common.{◌≡◌, ℕ, ◌+◌, List, ◌⊎◌, inl, inr, length, refl, sym, ap, subst, ◌∙◌, arith}
use Rattle.std.proofs.lemmas.Bool.{cases_eq, cases_lt}
use Rattle.mp_text.specs.declared.layout.Layout.TheVariants.{Commented}
use Rattle.mp_text.specs.declared.refusals.Refusal.{Refusal}
use Rattle.mp_text.specs.Ahead.{rows_of_bytes, past_of_bytes}
use Rattle.mp_text.specs.Grammar.{fault_at}
use Rattle.trees.specs.Tree.{IsNode, LeadsToRoot, NodeShareFits, IsTree, ancestor, node_at, children_out}
use Rattle.trees.specs.Judged.{AreNodesWithin}
use Rattle.tree_files.specs.TreeFile.{tree_format, nodes_stated, ReadsTree, RefusesCycle, RefusesShare, RefusesTree}
use Rattle.lists.proofs.Places.{IsEither, first_without, one_first_without}
use Rattle.trees.specs.declared.node.Node.{Node}
use Rattle.tree_files.specs.declared.kind.TreeKind.{TreeKind}
use Rattle.tree_files.specs.declared.kind.TreeKind.TheVariants as kinds
use Rattle.tree_files.proofs.FormLemmas.{well_formed_within}
use Rattle.file_frame.specs.Frame.{line_stating}
use Rattle.file_frame.proofs.TestLemmas.{SomeOutcome, NotBoth, OneRefusal}

-- ---- facts of a node that hold or not

leads_or_not : (nodes : List Node) → IsEither (length nodes) (LeadsToRoot nodes)
leads_or_not nodes v place = cases_eq (ancestor nodes (length nodes) v) 0

fits_or_not : (nodes : List Node) → IsEither (length nodes) (NodeShareFits nodes)
fits_or_not nodes v place =
    let node = node_at nodes v in
    elim (cases_lt (children_out nodes v) node.share) [
      | inl gt ↦ inr (λ has. absurd (let le = has.0 in omega arith))
      | inr below ↦ elim (cases_lt (node.extra + node.out) node.share) [
        | inl gt ↦ inr (λ has. absurd (let le = has.1 in omega arith))
        | inr own ↦ inl (below, own)
      ]
    ]

-- ---- a file is read or refused

pub read_or_refused : SomeOutcome TreeKind → (bytes : List ℕ)
    → ((nodes : List Node) × ReadsTree bytes nodes) ⊎ ((refusal : Refusal TreeKind) × RefusesTree bytes refusal)
read_or_refused outcome bytes =
    let rows = rows_of_bytes Commented bytes in
    let nodes = nodes_stated rows in
    elim (outcome tree_format rows (past_of_bytes bytes)) [
      | inr refused ↦ inr (refused.0, inl refused.1)
      | inl form ↦ elim (first_without (length nodes) (LeadsToRoot nodes) (leads_or_not nodes)) [
        | inr first ↦ inr (
          fault_at (line_stating rows first.0) kinds.Cycle,
          inr (inl (record { form = form; node = first.0; first = first.1; refusal_is = refl })),
        )
        | inl roots ↦ elim (first_without (length nodes) (NodeShareFits nodes) (fits_or_not nodes)) [
          | inr first ↦ inr (
            fault_at (line_stating rows first.0) kinds.Share,
            inr (inr (record { form = form; roots = roots; node = first.0; first = first.1; refusal_is = refl })),
          )
          | inl shares ↦ inl (nodes, record { form = form; stated = refl; roots = roots; shares = shares })
        ]
      ]
    ]

-- what a reading says of the stated nodes
stated_roots : (bytes : List ℕ) (nodes : List Node) → ReadsTree bytes nodes → (v : ℕ)
    → IsNode (nodes_stated (rows_of_bytes Commented bytes)) v → LeadsToRoot (nodes_stated (rows_of_bytes Commented bytes)) v
stated_roots bytes nodes reads = subst (λ (ns : List Node). (v : ℕ) → IsNode ns v → LeadsToRoot ns v) reads.stated reads.roots

stated_shares : (bytes : List ℕ) (nodes : List Node) → ReadsTree bytes nodes → (v : ℕ)
    → IsNode (nodes_stated (rows_of_bytes Commented bytes)) v → NodeShareFits (nodes_stated (rows_of_bytes Commented bytes)) v
stated_shares bytes nodes reads = subst (λ (ns : List Node). (v : ℕ) → IsNode ns v → NodeShareFits ns v) reads.stated reads.shares

pub not_both : NotBoth TreeKind → (bytes : List ℕ) (nodes : List Node) (refusal : Refusal TreeKind)
    → ReadsTree bytes nodes → RefusesTree bytes refusal → ⊥
not_both apart bytes nodes refusal reads (inl refused) =
    apart tree_format (rows_of_bytes Commented bytes) (past_of_bytes bytes) refusal reads.form refused
not_both apart bytes nodes refusal reads (inr (inl cycle)) =
    cycle.first.fails (stated_roots bytes nodes reads cycle.node cycle.first.is_place)
not_both apart bytes nodes refusal reads (inr (inr share)) =
    share.first.fails (stated_shares bytes nodes reads share.node share.first.is_place)

one_cycle : (bytes : List ℕ) (one two : Refusal TreeKind) → RefusesCycle bytes one → RefusesCycle bytes two → one ≡ two
one_cycle bytes one two this that =
    let same = one_first_without _ _ this.node that.node this.first that.first in
    this.refusal_is ∙ ap (λ (v : ℕ). fault_at (line_stating (rows_of_bytes Commented bytes) v) kinds.Cycle) same ∙ sym that.refusal_is

one_share : (bytes : List ℕ) (one two : Refusal TreeKind) → RefusesShare bytes one → RefusesShare bytes two → one ≡ two
one_share bytes one two this that =
    let same = one_first_without _ _ this.node that.node this.first that.first in
    this.refusal_is ∙ ap (λ (v : ℕ). fault_at (line_stating (rows_of_bytes Commented bytes) v) kinds.Share) same ∙ sym that.refusal_is

pub one_refusal : NotBoth TreeKind → OneRefusal TreeKind → (bytes : List ℕ) (one two : Refusal TreeKind)
    → RefusesTree bytes one → RefusesTree bytes two → one ≡ two
one_refusal apart only bytes one two (inl this) (inl that) =
    only tree_format (rows_of_bytes Commented bytes) (past_of_bytes bytes) one two this that
one_refusal apart only bytes one two (inl this) (inr (inl that)) = absurd (apart _ _ _ one that.form this)
one_refusal apart only bytes one two (inl this) (inr (inr that)) = absurd (apart _ _ _ one that.form this)
one_refusal apart only bytes one two (inr (inl this)) (inl that) = absurd (apart _ _ _ two this.form that)
one_refusal apart only bytes one two (inr (inl this)) (inr (inl that)) = one_cycle bytes one two this that
one_refusal apart only bytes one two (inr (inl this)) (inr (inr that)) =
    absurd (this.first.fails (that.roots this.node this.first.is_place))
one_refusal apart only bytes one two (inr (inr this)) (inl that) = absurd (apart _ _ _ two this.form that)
one_refusal apart only bytes one two (inr (inr this)) (inr (inl that)) =
    absurd (that.first.fails (this.roots that.node that.first.is_place))
one_refusal apart only bytes one two (inr (inr this)) (inr (inr that)) = one_share bytes one two this that

-- ---- what is read is a tree

pub reads-is_tree : (bytes : List ℕ) (nodes : List Node) → ReadsTree bytes nodes → IsTree nodes
reads-is_tree bytes nodes reads =
    let within =
    subst AreNodesWithin (sym reads.stated) (well_formed_within (rows_of_bytes Commented bytes) (past_of_bytes bytes) reads.form) in
    record { some = within.some; few = within.few; each = within.each; total = within.total; roots = reads.roots; shares = reads.shares }
