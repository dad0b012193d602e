use Rattle.std.proofs.Common.{◌≡◌, ◌<◌, ◌∷◌, [], length, ℕ, List, arith, subst, sym, ◌∙◌, IsTrue}
use Rattle.patterns.proofs.NumberLists.{has_at}
use Rattle.elimination.specs.Elimination.{IsVertex}
use Rattle.elimination.specs.Quotients.{Quotient, IsQuotient, at, inner_at}
use Rattle.elimination.specs.Hoods.{IsScanned, IsRowOf, CanEnter, AreLeft}
use Rattle.elimination.proofs.ListFacts.{has_one}
use Rattle.elimination.proofs.LinkLemmas.{relinked}
use Rattle.elimination.proofs.Scans.{beside_step}
use Rattle.elimination.proofs.hoods.scan.Goals as goal

joins_row : (q : Quotient) (turn : ℕ → ℕ) (u : ℕ) (row : List ℕ) (i : ℕ) → IsRowOf q turn u row → i < length row
    → IsTrue (q.joined u (at row i))
joins_row q turn u row i r lt = sym (r.row (at row i)) ∙ has_at row i lt

alone : (n : ℕ) (turn : ℕ → ℕ) (b : ℕ) → IsVertex n b → turn b ≡ 0 → AreLeft n turn (b ∷ [])
alone n turn b vertex left = λ x h. subst (λ z. IsVertex n z × (turn z ≡ 0)) (has_one b x h) (vertex, left)

pub loop-b-preserved-then-turns-b-eq0 : goal.loop-b-preserved-then-turns-b-eq0
loop-b-preserved-then-turns-b-eq0 c = record {
  linked = c.loop-b.invariant.linked;
  scanned = λ q u quotient r start.
      let row = c.args.row.now in
      let i = c.loop-b.b-index in
      let turn = at c.args.turns.now in
      let so = c.loop-b.invariant.scanned q u quotient r start in
      let joined = joins_row q turn u row i r c.loop-b-test.true in
      let v = c.in_ok-note.ensures q.order u turn q.rep so.1.tracked (alone q.order turn (at row i)
      (so.0.within u (at row i) joined) c.if-turns-b-eq0.true) in (
        so.0,
        beside_step q turn (inner_at c.args.rims.now) u row i c.loop-b.hood.near.items c.note.new.near.items c.loop-b.hood.touched.items
            c.loop-b.seen c.note.new.seen
            so.0.parted so.0.pattern r.here c.if-turns-b-eq0.true joined so.1 v,
      );
}

pub loop-b-preserved : goal.loop-b-preserved
loop-b-preserved c = record {
  linked = c.last_of-part.ensures.linked;
  scanned = λ q u quotient r start.
      let row = c.args.row.now in
      let i = c.loop-b.b-index in
      let turn = at c.args.turns.now in
      let rim = inner_at c.args.rims.now in
      let so = c.loop-b.invariant.scanned q u quotient r start in
      let now : IsQuotient q turn c.last_of-part.new.links rim = relinked so.0 (c.last_of-part.auto.links) c.last_of-part.ensures.linked
      (c.last_of-part.ensures.leads q.part so.0.leads) in
      let can : CanEnter q turn rim u row i c.last_of-part.result = record {
        parted = so.0.parted;
        listed = so.0.listed_from;
        within = so.0.within;
        here = r.here;
        gone = omega arith;
        joined = joins_row q turn u row i r c.loop-b-test.true;
        is = c.last_of-part.ensures.found q.part so.0.leads;
      } in
      (now, c.in_ok-enter.ensures q turn u row i can so.1);
}

pub returns-clause-scanned : goal.returns-clause-scanned
returns-clause-scanned c = λ q u quotient r start.
    let so = c.loop-b.invariant.scanned q u quotient r start in
    let e : c.loop-b.b-index ≡ length c.args.row.now = omega arith in (
      so.0,
      subst (λ z. IsScanned q (at c.args.turns.now) (inner_at c.args.rims.now) u c.args.row.now z c.loop-b.hood.near.items
          c.loop-b.hood.touched.items c.loop-b.seen) e so.1,
    )
