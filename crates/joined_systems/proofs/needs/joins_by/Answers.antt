use Rattle.std.proofs.Common.{List, ℕ, Bool, true, false, ◌≡◌, ◌<◌, ◌+◌, ◌-◌, ◌∙◌, length, get_or, arith, ap, sym, subst}
use Rattle.std.specs.List.{All}
use Rattle.std.specs.Prelude.{◌↔◌, replicate}
use Rattle.shared_systems.specs.Shared.{SharedTaskSystem}
use Rattle.joined_systems.specs.Needs.{TellsNeed, AreNumbers}
use Rattle.std.proofs.lemmas.List.{get_or_default, length-replicate}
use Rattle.std.proofs.lemmas.List.Elements.{All-weaker}
use Rattle.row_table.specs.Rows.{numbers_with}
use Rattle.joined_systems.specs.Kinds.{makers, takers, meet, AreLeaders}
use Rattle.joined_systems.proofs.KindSteps.{numbers_low}
use Rattle.joined_systems.proofs.UsesMeet.{makers_long, takers_long, makers_low}
use Rattle.joined_systems.proofs.NeedsFound.{index_low, index_own, index_all, needs_alike, joins_found}
use Rattle.joined_systems.proofs.needs.joins_by.Goals as goal

pub group-requires-clause-below : goal.group-requires-clause-below
group-requires-clause-below c = λ k d lt.
    omega (arith, get_or_default c.args.leaders.now k d 0 lt, index_all (meet c.args.makers.now c.args.takers.now) c.args.leaders.now c.requires.leaders k)

pub group-requires-2-clause-below : goal.group-requires-2-clause-below
group-requires-2-clause-below c =
    subst (All (λ u. u < length c.args.leaders.now + 1)) (sym c.requires.makers)
    (makers_low (length c.args.leaders.now) c.args.items.now c.requires.within)

pub group-requires-2-clause-fits : goal.group-requires-2-clause-fits
group-requires-2-clause-fits c =
    omega (
      arith,
      ap (λ (l : List ℕ). length l) c.requires.makers,
      ap (λ (l : List ℕ). length l) c.requires.takers,
      makers_long c.args.items.now,
      takers_long c.args.items.now,
      c.requires.uses,
    )

pub released_of-requires-clause-low : goal.released_of-requires-clause-low
released_of-requires-clause-low c = index_all (meet c.args.makers.now c.args.takers.now) c.args.leaders.now c.requires.leaders

pub needs_of-requires-clause-rows : goal.needs_of-requires-clause-rows
needs_of-requires-clause-rows c = λ i.
    omega (arith, index_all (meet c.args.makers.now c.args.takers.now) c.args.leaders.now c.requires.leaders i, c.in_ok-rows.ensures.len)

pub needs_of-requires-clause-released : goal.needs_of-requires-clause-released
needs_of-requires-clause-released c = λ i.
    omega (
      arith,
      index_all (meet c.args.makers.now c.args.takers.now) c.args.leaders.now c.requires.leaders i,
      c.in_ok-released.ensures.len,
      ap length c.deref.ensures.value,
    )

pub needs_of-requires-clause-takers : goal.needs_of-requires-clause-takers
needs_of-requires-clause-takers c = λ k lt.
    let row = c.in_ok-uses.ensures.rows k (omega (arith, lt, c.in_ok-uses.ensures.len)) in
    let same : length c.args.makers.now ≡ length c.args.takers.now = omega (
      arith,
      ap (λ (l : List ℕ). length l) c.requires.makers,
      ap (λ (l : List ℕ). length l) c.requires.takers,
      makers_long c.args.items.now,
      takers_long c.args.items.now,
    ) in
    subst (All (λ p. p < length c.args.takers.now)) (sym row)
    (All-weaker (λ p. p < 0 + length c.args.makers.now) (λ p. p < length c.args.takers.now) (λ p lt. omega (arith, lt, same)) _
    (numbers_low c.args.makers.now 0 k))

pub numbers_of-requires-clause-low : goal.numbers_of-requires-clause-low
numbers_of-requires-clause-low c = index_low (meet c.args.makers.now c.args.takers.now) c.args.leaders.now c.requires.leaders

pub numbers_of-requires-clause-own : goal.numbers_of-requires-clause-own
numbers_of-requires-clause-own c = index_own (meet c.args.makers.now c.args.takers.now) c.args.leaders.now c.requires.leaders

pub numbers_of-requires-clause-same : goal.numbers_of-requires-clause-same
numbers_of-requires-clause-same c = λ i lt.
    let n = length c.args.leaders.now in
    let items = c.args.items.now in
    let leaders = c.args.leaders.now in
    let are : AreLeaders (meet (makers items) (takers items)) n leaders =
    subst (λ (t : List ℕ). AreLeaders (meet (makers items) t) n leaders) c.requires.takers
    (subst (λ (m : List ℕ). AreLeaders (meet m c.args.takers.now) n leaders) c.requires.makers c.requires.leaders) in
    let uses_are = λ (k : ℕ) (lt : k < n + 1). c.in_ok-uses.ensures.rows k lt ∙ ap (λ (m : List ℕ). numbers_with m 0 k) c.requires.makers in
    let needs_are = λ (i : ℕ) (lt : i < n).
    subst (λ (t : List ℕ). (get_or c.in_ok-needs.needs.items i false ≡ true)
    ↔ TellsNeed c.in_ok-rows.rows c.in_ok-released.released.items c.in_ok-uses.uses t (get_or leaders i 0) (i + 1)) c.requires.takers
    (subst (λ (r : List Bool). (get_or c.in_ok-needs.needs.items i false ≡ true)
    ↔ TellsNeed c.in_ok-rows.rows r c.in_ok-uses.uses c.args.takers.now (get_or leaders i 0) (i + 1)) c.deref.ensures.value
    (c.in_ok-needs.ensures.needs i lt)) in
    let system : SharedTaskSystem = record { tasks = replicate n (record { extra = 0; share = 0; time = 0 }); items = items } in
    let alike = needs_alike system leaders c.requires.within (length-replicate n (record { extra = 0; share = 0; time = 0 })) are c.in_ok-rows.rows
    c.in_ok-uses.uses c.in_ok-released.released.items c.in_ok-needs.needs.items c.in_ok-rows.ensures.rows uses_are
    c.in_ok-released.ensures.released needs_are i lt in
    subst (λ (l : List Bool). get_or l (get_or leaders i 0 - 1) false ≡ get_or l i false) (sym c.deref-2.ensures.value) alike

pub returns : goal.returns
returns c = λ tasks many.
    let n = length c.args.leaders.now in
    let items = c.args.items.now in
    let leaders = c.args.leaders.now in
    let are : AreLeaders (meet (makers items) (takers items)) n leaders =
    subst (λ (t : List ℕ). AreLeaders (meet (makers items) t) n leaders) c.requires.takers
    (subst (λ (m : List ℕ). AreLeaders (meet m c.args.takers.now) n leaders) c.requires.makers c.requires.leaders) in
    let uses_are = λ (k : ℕ) (lt : k < n + 1). c.in_ok-uses.ensures.rows k lt ∙ ap (λ (m : List ℕ). numbers_with m 0 k) c.requires.makers in
    let needs_are = λ (i : ℕ) (lt : i < n).
    subst (λ (t : List ℕ). (get_or c.in_ok-needs.needs.items i false ≡ true)
    ↔ TellsNeed c.in_ok-rows.rows c.in_ok-released.released.items c.in_ok-uses.uses t (get_or leaders i 0) (i + 1)) c.requires.takers
    (subst (λ (r : List Bool). (get_or c.in_ok-needs.needs.items i false ≡ true)
    ↔ TellsNeed c.in_ok-rows.rows r c.in_ok-uses.uses c.args.takers.now (get_or leaders i 0) (i + 1)) c.deref.ensures.value
    (c.in_ok-needs.ensures.needs i lt)) in
    joins_found (record { tasks = tasks; items = items }) leaders c.requires.within many are c.in_ok-rows.rows
    c.in_ok-uses.uses c.in_ok-released.released.items c.in_ok-needs.needs.items c.in_ok-rows.ensures.rows uses_are
    c.in_ok-released.ensures.released needs_are c.in_ok-joins.joins.items
    (subst (λ (l : List Bool). AreNumbers leaders l c.in_ok-joins.joins.items) c.deref-2.ensures.value c.in_ok-joins.ensures)
