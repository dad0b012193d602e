use Rattle.std.proofs.Common.{sym, ap, refl, ◌∙◌, ◌≡◌, ◌+◌, ◌-◌, ◌≤◌, ◌<◌, inl, inr, length, arith, subst, slice_index}
use Rattle.std.proofs.lemmas.Bool.{cases_lt}
use Rattle.permutations.specs.Perm.{vertex_at, place_of}
use Rattle.column_counts.specs.Leaves.{AreLeavesWith, growth, last_of}
use Rattle.column_counts.proofs.ColumnLemmas.{Takes, own_row, own_leaf, last_leaf, next_row, no_row, all_rows}
use Rattle.column_counts.proofs.VertexRows.{place_within}
use Rattle.column_counts.proofs.leaves.Leaves.take_column.Goals as goal

pub take_leaf-requires-clause-before : goal.take_leaf-requires-clause-before
take_leaf-requires-clause-before c =
    let order = c.args.perm.now in
    let firsts = c.args.firsts.now in
    let t = c.args.self.now in
    let j = c.args.j in
    let row = c.requires.row in
    let long = c.requires.len in
    let within : j ≤ length order = omega (arith, c.requires.places.1) in
    let back = c.places_are_inverse.ensures.place (length order) order c.keeps.ensures j within in
    subst (λ v. 0 < slice_index t.last.items v → slice_index firsts (place_of order v) ≤ slice_index t.last.items v)
    (sym c.at.ensures.value)
    (λ pos. subst (λ i. slice_index firsts i ≤ slice_index t.last.items (vertex_at order j)) (sym back)
    (own_leaf row.0 firsts c.args.row.now order j
    (omega (arith, c.requires.places.0, c.requires.spans.own j)) t row.1 c.requires.places.1 pos))

pub loop-vertex-init : goal.loop-vertex-init
loop-vertex-init c =
    let order = c.args.perm.now in
    let firsts = c.args.firsts.now in
    let j = c.args.j in
    let long = c.requires.len in
    let within : j ≤ length order = omega (arith, c.requires.places.1) in
    let own : place_of order c.at.result ≡ j =
    ap (place_of order) c.at.ensures.value ∙ c.places_are_inverse.ensures.place (length order) order c.keeps.ensures j within in
    record {
      ready = c.take_leaf.ensures.ready;
      small = λ x. let g = c.take_leaf.ensures.growth (growth (j - 1)) c.requires.small x in
          let l = g.0 in
          let m = g.1 in
          (omega arith, omega arith);
      leaves = λ joined can.
          own_row joined firsts c.args.row.now order j (omega (arith, c.requires.places.0, c.requires.spans.own j)) c.args.self.now can
          c.take_leaf.new.self
          (subst (λ i. Takes firsts order i j c.args.self.now c.take_leaf.new.self) own (c.take_leaf.ensures.taken (omega arith)));
    }

pub take_leaf-requires-in-loop-vertex-clause-before : goal.take_leaf-requires-in-loop-vertex-clause-before
take_leaf-requires-in-loop-vertex-clause-before c = λ pos.
    let order = c.args.perm.now in
    let row = c.requires.row in
    let long = c.requires.len in
    let t = c.loop-vertex.self in
    let k = c.loop-vertex.vertex-index in
    let v = slice_index c.args.row.now k in
    let i = place_of order v in
    let back = c.places_are_inverse.ensures.vertex (length order) order c.keeps.ensures v (c.requires.vertices k c.loop-vertex-test.true) in
    let within = place_within order (c.places_are_inverse.ensures.place (length order) order c.keeps.ensures) v back in
    let here : last_of order t i ≡ slice_index t.last.items v = ap (slice_index t.last.items) back in
    let low = last_leaf row.0 c.args.firsts.now c.args.row.now order c.args.j
    (omega (arith, c.requires.places.0, c.requires.spans.own c.args.j)) c.args.self.now row.1
    k i refl t (c.loop-vertex.invariant.leaves row.0 row.1) (omega arith) (omega arith) in
    omega arith

pub loop-vertex-preserved : goal.loop-vertex-preserved
loop-vertex-preserved c =
    let order = c.args.perm.now in
    let k = c.loop-vertex.vertex-index in
    let i = place_of order (slice_index c.args.row.now k) in
    record {
      ready = c.take_leaf-in-loop-vertex.ensures.ready;
      small = λ x.
          let g = c.take_leaf-in-loop-vertex.ensures.growth (growth (c.args.j - 1) + 1 + k) c.loop-vertex.invariant.small x in
          let l = g.0 in let m = g.1 in (omega arith, omega arith);
      leaves = λ joined can.
          let some : 0 < c.args.j = omega (arith, c.requires.places.0, c.requires.spans.own c.args.j) in
          let with = c.loop-vertex.invariant.leaves joined can in
          elim (cases_lt i c.args.j) [
            | inl low ↦
                no_row joined c.args.firsts.now c.args.row.now order c.args.j some c.args.self.now can k i refl c.loop-vertex.self with
                low c.take_leaf-in-loop-vertex.new.self (c.take_leaf-in-loop-vertex.ensures.left_out low)
            | inr from ↦
                next_row joined c.args.firsts.now c.args.row.now order c.args.j some c.args.self.now can k i refl c.loop-vertex.self with
                c.loop-vertex-test.true from c.take_leaf-in-loop-vertex.new.self (c.take_leaf-in-loop-vertex.ensures.taken from)
          ];
    }

pub returns-clause-taken : goal.returns-clause-taken
returns-clause-taken c = λ joined can.
    let end : c.loop-vertex.vertex-index ≡ length c.args.row.now = omega arith in
    all_rows joined c.args.firsts.now c.args.row.now c.args.perm.now c.args.j
    (omega (arith, c.requires.places.0, c.requires.spans.own c.args.j)) c.args.self.now can c.loop-vertex.self
    (subst (λ k. AreLeavesWith joined c.args.firsts.now c.args.row.now c.args.perm.now c.args.j k c.loop-vertex.self) end
    (c.loop-vertex.invariant.leaves joined can))

pub returns-clause-ready : goal.returns-clause-ready
returns-clause-ready c =
    let r = c.loop-vertex.invariant.ready in
    record {
      long = r.long;
      inside = r.inside;
      ancestors = record {
        rises = r.ancestors.rises;
        nearest = λ z w zw wn f le. r.ancestors.nearest z w zw wn f (omega arith);
      };
    }
