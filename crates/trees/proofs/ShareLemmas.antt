-- Sums of the outs of children, one node more at a time.
use Rattle.std.proofs.Common.{◌≡◌, ◌≢◌, ℕ, ◌+◌, ◌-◌, ◌<◌, ◌≤◌, true, false, cond, eqb, eq-eqb}
use Rattle.std.proofs.Common.{inl, inr, List, length, take, get_or, set, refl, ap, arith}
use Rattle.std.specs.List.{sum_by}
use Rattle.std.proofs.lemmas.List.{get_or-set_same, get_or-set_other, get_or_read}
use Rattle.std.proofs.lemmas.List.Sums.{sum_by_more, sum_by_more_le_part}
use Rattle.std.proofs.lemmas.Bool.{cases_eq, ne_eqb}
use Rattle.trees.specs.declared.node.Node.{Node}
use Rattle.trees.specs.Tree.{out_below, node_size}

-- the outs of the children among the first i nodes, for each node
abbrev pub AreOuts : List ℕ → List Node → ℕ → Type 0
AreOuts outs nodes i = (v : ℕ) → 1 ≤ v → v ≤ length nodes → get_or outs (v - 1) 0 ≡ sum_by (out_below v) (take i nodes)

pub AreOuts-child : (outs : List ℕ) (nodes : List Node) (i old : ℕ) (d : Node)
    → i < length nodes → length outs ≡ length nodes → let parent = (get_or nodes i d).parent in
    parent ≢ 0 → parent ≤ length nodes
    → old ≡ get_or outs (parent - 1) old → AreOuts outs nodes i
    → AreOuts (set outs (parent - 1) (old + (get_or nodes i d).out)) nodes (i + 1)
AreOuts-child outs nodes i old d lt len some high read before v low_v high_v =
    let node = get_or nodes i d in
    let u = node.parent in
    let old_is : old ≡ get_or outs (u - 1) 0 = get_or_read outs (u - 1) old (omega (arith, high, len, some)) read 0 in
    let more = sum_by_more (out_below v) nodes i d lt in
    elim (cases_eq u v) [
      | inl same ↦ (
          let whole : out_below v node ≡ node.out = rw (eq-eqb u v same) refl in
          let written = get_or-set_same outs (u - 1) (old + node.out) 0 (omega (arith, high, len, some)) in
          let moved = ap (λ (k : ℕ). get_or (set outs (u - 1) (old + node.out)) (k - 1) 0) same in
          let was = ap (λ (k : ℕ). get_or outs (k - 1) 0) same in
          omega (arith, whole, written, moved, was, old_is, more, before v low_v high_v)
          )
      | inr other ↦ (
          let none : out_below v node ≡ 0 = rw (ne_eqb u v other) refl in
          let apart : v - 1 ≢ u - 1 = omega (arith, some, other) in
          let kept = get_or-set_other outs (u - 1) (v - 1) (old + node.out) 0 apart in
          omega (arith, none, kept, more, before v low_v high_v)
          )
    ]

pub AreOuts-root : (outs : List ℕ) (nodes : List Node) (i : ℕ) (d : Node) → i < length nodes
    → (get_or nodes i d).parent ≡ 0 → AreOuts outs nodes i → AreOuts outs nodes (i + 1)
AreOuts-root outs nodes i d lt root before v low_v high_v =
    let more = sum_by_more (out_below v) nodes i d lt in
    let none : out_below v (get_or nodes i d) ≡ 0 = rw (ne_eqb (get_or nodes i d).parent v (omega (arith, root))) refl in
    omega (arith, more, none, before v low_v high_v)

-- one out more is still within the whole
pub AreOuts-fits : (outs : List ℕ) (nodes : List Node) (i old : ℕ) (d : Node)
    → i < length nodes → length outs ≡ length nodes → let parent = (get_or nodes i d).parent in
    parent ≢ 0 → parent ≤ length nodes
    → old ≡ get_or outs (parent - 1) old → AreOuts outs nodes i → old + (get_or nodes i d).out ≤ sum_by node_size nodes
AreOuts-fits outs nodes i old d lt len some high read before =
    let u = (get_or nodes i d).parent in
    let old_is : old ≡ get_or outs (u - 1) 0 = get_or_read outs (u - 1) old (omega (arith, high, len, some)) read 0 in
    let part = sum_by_more_le_part (out_below u) node_size nodes i d lt
    (λ x. elim (eqb x.parent u) as (λ b. cond b x.out 0 ≤ x.out + x.extra) [ true ↦ omega arith | false ↦ omega arith ]) in
    let one : out_below u (get_or nodes i d) ≡ (get_or nodes i d).out = rw (eq-eqb u u refl) refl in
    omega (arith, part, old_is, one, before u (omega (arith, some)) high)
