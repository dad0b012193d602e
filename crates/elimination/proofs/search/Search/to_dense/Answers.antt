use Rattle.std.proofs.Common.{◌≡◌, ℕ, inl, inr, List, IsTrue, length, arith, refl, subst, sym, ap, ◌∙◌}
use Rattle.std.proofs.lemmas.Bool.{cases_eq}
use Rattle.elimination.specs.Quotients.{Quotient, at}
use Rattle.elimination.specs.Tables.{tables}
use Rattle.elimination.specs.declared.search.Search.{Search}
use Rattle.bit_rows.specs.Bits.{bit_in}
use Rattle.elimination.specs.Switch.{stage_at, AreNumbers, CanFill}
use Rattle.elimination.proofs.Switches.{rep_vertex, all_filled}
use Rattle.elimination.proofs.search.Search.to_dense.Goals as goal
use Rattle.elimination.proofs.search.Search.to_dense.Goals.{In_ok-vertices}

-- the vertices that are left are numbered
numbers_are : (c : In_ok-vertices) (n : ℕ) → n ≡ length c.args.pattern.now
    → AreNumbers (at c.args.self.now.turns.items) n c.in_ok-vertices.field-0.vertices.items c.in_ok-vertices.field-0.numbers.items
numbers_are c n e =
    let is = c.deref.ensures.value in
    let turns = c.requires.lengths.turns in
    let len = ap length is in
    subst (λ z. AreNumbers (at z) n c.in_ok-vertices.field-0.vertices.items c.in_ok-vertices.field-0.numbers.items) is
    (c.in_ok-vertices.ensures.numbers n (omega arith))

-- .. and are still as the search goes on
numbers_now : (c : In_ok-vertices) (self : Search) → self.turns ≡ c.args.self.now.turns → (numbers : List ℕ)
    → numbers ≡ c.in_ok-vertices.field-0.numbers.items → (q : Quotient) → CanFill c.args.pattern.now q (tables c.args.self.now)
    → AreNumbers (at self.turns.items) q.order c.in_ok-vertices.field-0.vertices.items numbers
numbers_now c self turns numbers is q f =
    let vertices = c.in_ok-vertices.field-0.vertices.items in
    subst (λ z. AreNumbers (at z.items) q.order vertices numbers) (sym turns)
    (subst (AreNumbers (at c.args.self.now.turns.items) q.order vertices) (sym is) (numbers_are c q.order f.order))

pub loop-v-init : goal.loop-v-init
loop-v-init c = record {
  lengths = c.requires.lengths;
  turns = refl;
  stands = λ q f. f;
  filling = λ q f. c.in_ok-search.ensures.filling (stage_at q.left c.in_ok-vertices.field-0.vertices.items)
      (omega (arith, c.len.ensures, c.in_ok-vertices.field-0.vertices.ok.0));
  passed = λ q f x vx here lt. absurd (let v = (rep_vertex c.args.pattern.now q (tables c.args.self.now) f x vx).0 in omega arith);
}

pub loop-v-preserved-then-not-stands : goal.loop-v-preserved-then-not-stands
loop-v-preserved-then-not-stands c =
    let inv = c.loop-v.invariant in
    record {
      lengths = inv.lengths;
      turns = inv.turns;
      stands = inv.stands;
      filling = inv.filling;
      passed = λ q f x vx here lt. elim (cases_eq (q.rep x) c.loop-v.v) [
        | inl e ↦ (
            let now = inv.stands q f in
            let left = now.stand.grouped.left x (ap (λ z. at z.items x) inv.turns ∙ here) in
            elim (c.stands.ensures.no c.if-not-stands.true) [
              | inl turned ↦ absurd (turned (subst (λ z. at c.loop-v.self.turns.items z ≡ 0) e left))
              | inr marked ↦ absurd (now.stand.hidden.marks c.loop-v.v marked (subst (λ z. q.rep z ≡ z) e (now.stand.grouped.stands x)))
            ]
            )
        | inr ne ↦ inv.passed q f x vx here (omega arith)
      ];
    }

pub put_vertex-requires-clause-start : goal.put_vertex-requires-clause-start
put_vertex-requires-clause-start c =
    let start = c.requires.start in
    let inv = c.loop-v.invariant in
    let a = numbers_now (goal.at.put_vertex-requires-clause-start c).In_ok-vertices c.loop-v.self inv.turns c.deref-in-loop-v.result.now
    c.deref-in-loop-v.ensures.value start.0 start.1 in
    (start.0, c.in_ok-vertices.field-0.vertices.items, inv.stands start.0 start.1, a, inv.filling start.0 start.1)

pub loop-v-preserved : goal.loop-v-preserved
loop-v-preserved c =
    let inv = c.loop-v.invariant in
    let is = c.deref-in-loop-v.ensures.value in
    let numbers = c.in_ok-vertices.field-0.numbers.items in
    let alive = c.put_vertex.new.dense.alive in
    record {
      lengths = c.in_ok-put_vertex.ensures.lengths;
      turns = c.in_ok-put_vertex.ensures.turns ∙ inv.turns;
      stands = λ q f. c.in_ok-put_vertex.ensures.stands q (inv.stands q f);
      filling = λ q f.
          let a = numbers_now (goal.at.loop-v-preserved c).In_ok-vertices c.loop-v.self inv.turns c.deref-in-loop-v.result.now is q f in
          c.in_ok-put_vertex.ensures.filling q c.in_ok-vertices.field-0.vertices.items (inv.stands q f) a (inv.filling q f);
      passed = λ q f x vx here lt. elim (cases_eq (q.rep x) c.loop-v.v) [
        | inl e ↦ subst (λ z. IsTrue (bit_in alive (at z x))) is (c.in_ok-put_vertex.ensures.put q (inv.stands q f) x e)
        | inr ne ↦ c.in_ok-put_vertex.ensures.kept (at numbers x) (inv.passed q f x vx here (omega arith))
      ];
    }

pub returns-clause-numbered : goal.returns-clause-numbered
returns-clause-numbered c = (numbers_are (goal.at.returns-clause-numbered c).In_ok-vertices (length c.args.pattern.now) refl).numbered

pub returns-clause-dense : goal.returns-clause-dense
returns-clause-dense c = λ q f.
    let inv = c.loop-v.invariant in
    let a = numbers_are (goal.at.returns-clause-dense c).In_ok-vertices q.order f.order in
    all_filled c.args.pattern.now q (tables c.args.self.now) f c.in_ok-vertices.field-0.vertices.items
    c.in_ok-vertices.field-0.numbers.items c.loop-v.search a (inv.filling q f)
    (λ x vx here. (
    let v = (rep_vertex c.args.pattern.now q (tables c.args.self.now) f x vx).1 in
    let e = f.order in
    inv.passed q f x vx here (omega arith)
    ))
