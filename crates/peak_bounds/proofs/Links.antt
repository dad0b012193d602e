-- What a search over the uses of a system reaches is what comes after, or before.
use Rattle.std.proofs.Common.{◌≡◌, ◌⊎◌, ℕ, ◌<◌, ◌≤◌, Bool, true, subst, eqb, eq-eqb, List, length, map, get_or, Option, Some, None, unwrap_or}
use Rattle.std.proofs.Common.{sym, ap, ◌∙◌, arith, inl, inr}
use Rattle.std.proofs.lemmas.Bool.{and_parts, and_from}
use Rattle.std.specs.Prelude.{All}
use Rattle.std.proofs.lemmas.List.{get_or-map, length-map}
use Rattle.std.proofs.lemmas.List.Folds.{list_any_at}
use Rattle.mp_system.specs.System.{is_named}
use Rattle.mp_system.specs.Memory.{stands_in}
use Rattle.mp_system.specs.Replay.{is_marked}
use Rattle.shared_systems.specs.Shared.{SharedTaskSystem, HasTask}
use Rattle.shared_systems.specs.Bounds.{IsSharedSystem}
use Rattle.shared_systems.specs.Paths.{reads_from, ComesAfter, reads, over}
use Rattle.peak_bounds.specs.declared.uses.Use.{Use}
use Rattle.peak_bounds.specs.declared.use_table.UseTable.{UseTable}
use Rattle.peak_bounds.specs.Moments.{uses_of, is_made_for_use, is_used_by}
use Rattle.peak_bounds.specs.Judging.{maker_of, taker_of, AreUses, IsLink, Reaches, one, more, AreReached}
use Rattle.peak_bounds.specs.Evidence.{IsBeforeOne, IsAfterOne}
use Rattle.peak_bounds.proofs.Orders.{all_stands}
use Rattle.peak_bounds.proofs.Following.{no_use, is_the, is_between, between_is, use_at, maker_task, taker_task, joined}

-- ---- a link

named : (end : Option ℕ) (v : ℕ) → unwrap_or end 0 ≡ v → 1 ≤ v → is_named end v ≡ true
named None v is some = absurd (omega (arith, is, some))
named (Some u) v is some = eq-eqb u v is

unnamed : (end : Option ℕ) (v : ℕ) → is_named end v ≡ true → unwrap_or end 0 ≡ v
unnamed end v e = ap (λ (o : Option ℕ). unwrap_or o 0) (is_the end v e)

pub end_at : (end : Use → ℕ) (uses : List Use) (ends : List ℕ) (k : ℕ) → ends ≡ map end uses → k < length uses → get_or ends k 0 ≡ end (get_or uses k no_use)
end_at end uses ends k is lt = ap (λ (l : List ℕ). get_or l k 0) is ∙ get_or-map end uses k no_use 0 lt

module _ (system : SharedTaskSystem) (within : IsSharedSystem system) (uses : UseTable) (are : AreUses system uses) where
  makers-len : length uses.makers.items ≡ length (uses_of system.items)
  makers-len = ap (λ (l : List ℕ). length l) are.makers ∙ length-map (uses_of system.items) maker_of

  takers-len : length uses.takers.items ≡ length (uses_of system.items)
  takers-len = ap (λ (l : List ℕ). length l) are.takers ∙ length-map (uses_of system.items) taker_of

  -- what stands at a place is a use between the two
  reads_at : (u v k : ℕ) → k < length (uses_of system.items) → get_or uses.makers.items k 0 ≡ u → get_or uses.takers.items k 0 ≡ v → 1 ≤ u → 1 ≤ v → reads_from system u v ≡ true
  reads_at u v k lt maker taker some_u some_v =
      let all = uses_of system.items in
      let a_use = get_or all k no_use in
      let made = named a_use.from u (sym (end_at maker_of all uses.makers.items k are.makers lt) ∙ maker) some_u in
      let used = named a_use.to v (sym (end_at taker_of all uses.takers.items k are.takers lt) ∙ taker) some_v in
      sym (between_is u v system.items) ∙ list_any_at (is_between u v) all k no_use lt (and_from (is_made_for_use u a_use) (is_used_by v a_use) made used)

  record At (u v : ℕ) : Type 0 where
    place : ℕ
    lt : place < length (uses_of system.items)
    maker : get_or uses.makers.items place 0 ≡ u
    taker : get_or uses.takers.items place 0 ≡ v

  place_of : (u v : ℕ) → reads_from system u v ≡ true → At u v
  place_of u v e =
      let all = uses_of system.items in
      let at = use_at system (λ w. eqb w w) u v e in
      let a_use = get_or all at.0 no_use in
      let ends = and_parts (is_made_for_use u a_use) (is_used_by v a_use) at.2 in
      record {
        place = at.0;
        lt = at.1;
        maker = end_at maker_of all uses.makers.items at.0 are.makers at.1 ∙ unnamed a_use.from u ends.0;
        taker = end_at taker_of all uses.takers.items at.0 are.takers at.1 ∙ unnamed a_use.to v ends.1;
      }

  -- ---- forth

  reads_forth : (u v : ℕ) → 1 ≤ u → IsLink uses.makers.items uses.takers.items u v → reads_from system u v ≡ true
  reads_forth u v some link = reads_at u v link.place (omega (arith, link.within, makers-len)) link.near_is link.far_is some link.some

  link_forth : (u v : ℕ) → reads_from system u v ≡ true → IsLink uses.makers.items uses.takers.items u v
  link_forth u v e =
      let at = place_of u v e in
      record { place = at.place; within = omega (arith, at.lt, makers-len); near_is = at.maker; far_is = at.taker; some = (taker_task system within u v e).0 }

  some_forth : (u v : ℕ) → Reaches uses.makers.items uses.takers.items u v → 1 ≤ v
  some_forth u v (one link) = link.some
  some_forth u v (more path link) = link.some

  pub comes_forth : (u v : ℕ) → 1 ≤ u → Reaches uses.makers.items uses.takers.items u v → ComesAfter system u v
  comes_forth u v some (one link) = reads (reads_forth u v some link)
  comes_forth u v some (more {w} path link) = over (comes_forth u w some path) (reads_forth w v (some_forth u w path) link)

  pub reaches_forth : (u v : ℕ) → ComesAfter system u v → Reaches uses.makers.items uses.takers.items u v
  reaches_forth u v (reads e) = one (link_forth u v e)
  reaches_forth u v (over {w} path e) = more (reaches_forth u w path) (link_forth w v e)

  -- ---- back

  reads_back : (u v : ℕ) → 1 ≤ u → IsLink uses.takers.items uses.makers.items u v → reads_from system v u ≡ true
  reads_back u v some link = reads_at v u link.place (omega (arith, link.within, takers-len)) link.far_is link.near_is link.some some

  link_back : (u v : ℕ) → reads_from system v u ≡ true → IsLink uses.takers.items uses.makers.items u v
  link_back u v e =
      let at = place_of v u e in
      record { place = at.place; within = omega (arith, at.lt, takers-len); near_is = at.taker; far_is = at.maker; some = (maker_task system within v u e).0 }

  some_back : (u v : ℕ) → Reaches uses.takers.items uses.makers.items u v → 1 ≤ v
  some_back u v (one link) = link.some
  some_back u v (more path link) = link.some

  pub comes_back : (u v : ℕ) → 1 ≤ u → Reaches uses.takers.items uses.makers.items u v → ComesAfter system v u
  comes_back u v some (one link) = reads (reads_back u v some link)
  comes_back u v some (more {w} path link) = joined system v w u (reads (reads_back w v (some_back u w path) link)) (comes_back u w some path)

  behind : (u w v : ℕ) → IsLink uses.takers.items uses.makers.items u w → Reaches uses.takers.items uses.makers.items w v → Reaches uses.takers.items uses.makers.items u v
  behind u w v first (one link) = more (one first) link
  behind u w v first (more {w = x} path link) = more (behind u w x first path) link

  pub reaches_back : (u v : ℕ) → ComesAfter system v u → Reaches uses.takers.items uses.makers.items u v
  reaches_back u v (reads e) = one (link_back u v e)
  reaches_back u v (over {w} path e) = behind u w v (link_back u w e) (reaches_back w v path)

-- ---- what a search marks

module _ (system : SharedTaskSystem) (within : IsSharedSystem system) (uses : UseTable) (are : AreUses system uses) (first marks : List Bool)
    (tasks near far start : List ℕ) (before : List Bool) (tasks_are : All (HasTask system) tasks) (start_is : start ≡ tasks) (before_is : before ≡ first) where
  low_task : (u : ℕ) → stands_in start u ≡ true → 1 ≤ u
  low_task u stands = (all_stands (HasTask system) tasks tasks_are u (ap (λ (l : List ℕ). stands_in l u) (sym start_is) ∙ stands)).0

  there : (u : ℕ) → stands_in start u ≡ true → stands_in tasks u ≡ true
  there u stands = ap (λ (l : List ℕ). stands_in l u) (sym start_is) ∙ stands

  back_there : (u : ℕ) → stands_in tasks u ≡ true → stands_in start u ≡ true
  back_there u stands = ap (λ (l : List ℕ). stands_in l u) start_is ∙ stands

  was : (v : ℕ) → is_marked before v ≡ true → is_marked first v ≡ true
  was v e = ap (λ (l : List Bool). is_marked l v) (sym before_is) ∙ e

  is_now : (v : ℕ) → is_marked first v ≡ true → is_marked before v ≡ true
  is_now v e = ap (λ (l : List Bool). is_marked l v) before_is ∙ e

  module _ (near_is : near ≡ uses.takers.items) (far_is : far ≡ uses.makers.items) (reached : AreReached near far before start marks) where
    at_back : AreReached uses.takers.items uses.makers.items before start marks
    at_back =
        subst (λ (l : List ℕ). AreReached uses.takers.items l before start marks) far_is
        (subst (λ (l : List ℕ). AreReached l far before start marks) near_is reached)

    pub earlier_sound : (v : ℕ) → is_marked marks v ≡ true → (is_marked first v ≡ true) ⊎ IsBeforeOne system tasks v
    earlier_sound v e = elim (at_back.sound v e) [
      | inl old ↦ inl (was v old)
      | inr path ↦ inr (path.0, there path.0 path.1, comes_back system within uses are path.0 v (low_task path.0 path.1) path.2)
    ]

    pub earlier_all : (v : ℕ) → (is_marked first v ≡ true) ⊎ IsBeforeOne system tasks v → is_marked marks v ≡ true
    earlier_all v why = elim why [
      | inl old ↦ at_back.kept v (is_now v old)
      | inr path ↦ at_back.all v (path.0, back_there path.0 path.1, reaches_back system within uses are path.0 v path.2)
    ]

  module _ (near_is : near ≡ uses.makers.items) (far_is : far ≡ uses.takers.items) (reached : AreReached near far before start marks) where
    at_forth : AreReached uses.makers.items uses.takers.items before start marks
    at_forth =
        subst (λ (l : List ℕ). AreReached uses.makers.items l before start marks) far_is
        (subst (λ (l : List ℕ). AreReached l far before start marks) near_is reached)

    pub later_sound : (v : ℕ) → is_marked marks v ≡ true → (is_marked first v ≡ true) ⊎ IsAfterOne system tasks v
    later_sound v e = elim (at_forth.sound v e) [
      | inl old ↦ inl (was v old)
      | inr path ↦ inr (path.0, there path.0 path.1, comes_forth system within uses are path.0 v (low_task path.0 path.1) path.2)
    ]

    pub later_all : (v : ℕ) → (is_marked first v ≡ true) ⊎ IsAfterOne system tasks v → is_marked marks v ≡ true
    later_all v why = elim why [
      | inl old ↦ at_forth.kept v (is_now v old)
      | inr path ↦ at_forth.all v (path.0, back_there path.0 path.1, reaches_forth system within uses are path.0 v path.2)
    ]
