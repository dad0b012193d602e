use Rattle.std.proofs.Common.{rules, ◌++◌, List, ℕ, length, arith, ap, sym, subst, ◌∙◌}
use Rattle.std.proofs.lemmas.List.{length_push}
use Rattle.trees.specs.Forest.{children_of}
use Rattle.trees.proofs.ForestLemmas.{forest-length}
use Rattle.trees.proofs.OrderLemmas.{IsWalk, walk-start, walk-next, walk-end}
use Rattle.trees.proofs.postorder.postorder.Goals as goal

pub loop-v-init : goal.loop-v-init
loop-v-init c = λ nodes f is h rows.
    walk-start nodes f _ c.new-pending.result.items _ h c.new-pending.ensures.items c.new-found.ensures.items
    (c.in_ok-extend_from_slice.ensures.items
    ∙ ap (λ (z : List ℕ). c.new-pending.result.items ++ z) (c.row.ensures ∙ rows.rows_are 0 (omega arith)))

pub row-requires-in-Some : goal.row-requires-in-Some
row-requires-in-Some c =
    let r = c.requires.forest in
    let w = walk-next r.0 r.1 c.loop-v.pending.items c.pop.new.self.items c.loop-v.found.items c.in-Some.v c.in-Some.ensures.items
    (c.loop-v.invariant r.0 r.1 r.2 r.3 r.4) in
    omega (arith, w.node.1, r.4.len)

pub loop-v-smaller : goal.loop-v-smaller
loop-v-smaller c =
    let r = c.requires.forest in
    let w = walk-next r.0 r.1 c.loop-v.pending.items c.pop.new.self.items c.loop-v.found.items c.in-Some.v c.in-Some.ensures.items
    (c.loop-v.invariant r.0 r.1 r.2 r.3 r.4) in
    omega (
      arith,
      w.fewer,
      forest-length r.0 r.2 r.1 r.3,
      r.2.few,
      ap length c.in_ok-push.ensures.items,
      length_push c.loop-v.found.items c.in-Some.v,
    )

pub loop-v-preserved : goal.loop-v-preserved
loop-v-preserved c = λ nodes f is h rows.
    let w = walk-next nodes f c.loop-v.pending.items c.pop.new.self.items c.loop-v.found.items c.in-Some.v c.in-Some.ensures.items
    (c.loop-v.invariant nodes f is h rows) in
    let now = c.in_ok-extend_from_slice-2.ensures.items
    ∙ ap (λ (z : List ℕ). c.pop.new.self.items ++ z) (c.row-in-Some.ensures ∙ rows.rows_are c.in-Some.v w.node.1) in
    subst (λ (z : List ℕ). IsWalk nodes f z c.push.new.self.items) (sym now)
    (subst (λ (z : List ℕ). IsWalk nodes f (c.pop.new.self.items ++ children_of nodes c.in-Some.v) z)
    (sym c.in_ok-push.ensures.items) w.next)

pub returns : goal.returns
returns c = λ nodes f is h rows. c.reverse.ensures.items
    ∙ walk-end nodes f c.loop-v.pending.items c.loop-v.found.items (search rules) (c.loop-v.invariant nodes f is h rows)
