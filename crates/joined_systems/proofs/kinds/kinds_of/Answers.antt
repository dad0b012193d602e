use Rattle.std.proofs.Common.{◌≡◌, ℕ, List, [], ◌+◌, ◌<◌, length, map, drop, ap, sym, subst, ◌∙◌, arith, inl, inr}
use Rattle.std.specs.Prelude.{slice_index}
use Rattle.std.proofs.lemmas.List.Elements.{All-weaker}
use Rattle.std.proofs.lemmas.Bool.{cases_lt}
use Rattle.std.specs.List.{All}
use Rattle.lists.proofs.Lists.{written}
use Rattle.row_table.specs.Rows.{has}
use Rattle.joined_systems.specs.Kinds.{ArePartedBy}
use Rattle.joined_systems.proofs.KindSteps.{numbers_low, row_meets, same_next, none_past}
use Rattle.joined_systems.proofs.kinds.kinds_of.Goals as goal

pub part_makers-requires-clause-row : goal.part_makers-requires-clause-row
part_makers-requires-clause-row c =
    let row = c.row.ensures ∙ c.in_ok-rows.ensures.rows c.loop-w.w (omega arith) in
    subst (All (λ p. p < length c.args.makers.now)) (sym row)
    (All-weaker (λ p. p < 0 + length c.args.takers.now) (λ p. p < length c.args.makers.now) (λ p lt. omega (arith, lt, c.requires.same)) _
    (numbers_low c.args.takers.now 0 c.loop-w.w))

pub loop-w-preserved : goal.loop-w-preserved
loop-w-preserved c =
    let row = c.row.ensures ∙ c.in_ok-rows.ensures.rows c.loop-w.w (omega arith) in
    let new = c.part_makers.new.kinds in
    let long : length new ≡ length c.loop-w.kinds.items =
    c.part_makers.auto.kinds ∙ ap (λ (l : List ℕ). length l) c.deref_mut.ensures.value in
    let is = written new (drop (length new) c.loop-w.kinds.items) c.loop-w.kinds.len (omega (arith, long, c.loop-w.kinds.ok.0)) in
    let test = has (map (slice_index c.args.makers.now) c.row.result.now) in
    let tests = λ (u : ℕ). ap (λ (l : List ℕ). has (map (slice_index c.args.makers.now) l) u) row
    ∙ row_meets c.args.makers.now c.args.takers.now [] u c.loop-w.w c.requires.same in
    let parted : ArePartedBy test c.loop-w.kinds.items new =
    subst (λ (l : List ℕ). ArePartedBy test l new) c.deref_mut.ensures.value c.in_ok-part_makers.ensures.parted in
    rw is (record {
      len = long ∙ c.loop-w.invariant.len;
      some = c.in_ok-part_makers.ensures.some;
      kinds = c.in_ok-part_makers.ensures.kinds;
      parts = c.in_ok-part_makers.ensures.parts;
      same = same_next c.args.makers.now c.args.takers.now c.loop-w.kinds.items new c.loop-w.w c.loop-w.invariant.same test tests parted;
    })

pub returns-clause-kinds : goal.returns-clause-kinds
returns-clause-kinds c = λ u v. (
  λ e w. elim (cases_lt w c.loop-w.w) [
    | inl lt ↦ (c.loop-w.invariant.same u v).0 e w lt
    | inr past ↦ none_past c.args.makers.now c.args.takers.now (c.args.count + 1) u w c.requires.takers (omega arith)
        ∙ sym (none_past c.args.makers.now c.args.takers.now (c.args.count + 1) v w c.requires.takers (omega arith))
  ],
  λ each. (c.loop-w.invariant.same u v).1 (λ w lt. each w),
)
