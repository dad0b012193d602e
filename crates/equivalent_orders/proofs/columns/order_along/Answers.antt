use Rattle.std.proofs.Common.{◌≡◌, ◌∙◌, ◌++◌, ◌+◌, ◌-◌, ◌<◌, ℕ, List, [], sym, ap, subst, length, get_or, drop, arith}
use Rattle.std.proofs.lemmas.List.{append-nil, drop_all}
use Rattle.assembly_tree.proofs.FrontLemmas.{supers_few}
use Rattle.permutations.specs.Perm.{IsPart, IsPerm, PermState}
use Rattle.equivalent_orders.specs.Fronts.{vertices_in_front, vertices_along}
use Rattle.equivalent_orders.proofs.Listing.{more_fronts, next_front, part_of_perm, vertices_perm}
use Rattle.equivalent_orders.proofs.Mapped.{at_place_before}
use Rattle.equivalent_orders.proofs.columns.order_along.Goals as goal

pub overflow_add-place-end : goal.overflow_add-place-end
overflow_add-place-end c =
    let few = supers_few c.args.assembly.now c.supers-supers.ensures.assembly in
    omega (arith, c.requires.fronts)

pub push_vertices-requires : goal.push_vertices-requires
push_vertices-requires c =
    let perm = c.args.perm.now in
    let fronts = c.args.fronts.now in
    let numbers = c.loop-place.order.numbers in
    let i = c.loop-place.place - 1 in
    let lt : i < length fronts = omega (arith, c.loop-place-test.true, c.len-place-end.ensures.value, c.loop-place.auto.place) in
    let within = c.at.ensures.vertex in
    let row = c.row.ensures ∙ c.in_ok-vertices.ensures.rows c.at.result (omega (arith, within, c.requires.fronts)) in
    let front : get_or fronts i 0 ≡ c.at.result =
    at_place_before fronts c.loop-place.place c.loop-place.auto.place ∙ sym c.at.ensures.value in
    let whole = vertices_along perm c.args.assembly.now fronts in
    let is_fronts = subst (λ n. IsPerm n fronts) (c.len-place-end.ensures.value ∙ c.requires.fronts) c.len-place-end.ensures.perm in
    let part = part_of_perm (length perm) whole
    (vertices_perm perm c.args.assembly.now fronts c.keeps.ensures c.supers-supers.ensures.assembly c.requires.columns is_fronts) in
    subst (λ n. IsPart n (numbers ++ c.row.result.now)) (sym c.loop-place.invariant.1)
    (subst (λ (xs : List ℕ). IsPart (length perm) (numbers ++ xs)) (sym row)
    (subst (λ (s : ℕ). IsPart (length perm) (numbers ++ vertices_in_front perm c.args.assembly.now s)) front
    (next_front perm c.args.assembly.now numbers fronts whole i lt c.loop-place.invariant.0 (length perm) part)))

pub finish-requires : goal.finish-requires
finish-requires c =
    let perm = c.args.perm.now in
    let fronts = c.args.fronts.now in
    let numbers = c.loop-place.order.numbers in
    let whole = vertices_along perm c.args.assembly.now fronts in
    let none : drop (c.loop-place.place - 1) fronts ≡ [] =
    drop_all (c.loop-place.place - 1) fronts (omega (arith, c.loop-place-test.false, c.len-place-end.ensures.value)) in
    let same : numbers ≡ whole =
    sym (append-nil numbers) ∙ ap (λ (xs : List ℕ). numbers ++ vertices_along perm c.args.assembly.now xs) (sym none)
    ∙ c.loop-place.invariant.0 in
    let is_fronts = subst (λ n. IsPerm n fronts) (c.len-place-end.ensures.value ∙ c.requires.fronts) c.len-place-end.ensures.perm in
    let is : IsPerm (length perm) numbers = subst (IsPerm (length perm)) (sym same)
    (vertices_perm perm c.args.assembly.now fronts c.keeps.ensures c.supers-supers.ensures.assembly c.requires.columns is_fronts) in
    subst (λ m. IsPerm m numbers) (sym is.len) is

pub loop-place-preserved : goal.loop-place-preserved
loop-place-preserved c =
    let perm = c.args.perm.now in
    let fronts = c.args.fronts.now in
    let numbers = c.loop-place.order.numbers in
    let i = c.loop-place.place - 1 in
    let lt : i < length fronts = omega (arith, c.loop-place-test.true, c.len-place-end.ensures.value, c.loop-place.auto.place) in
    let next : c.loop-place.place + 1 - 1 ≡ i + 1 = omega (arith, c.loop-place.auto.place) in
    let within = c.at.ensures.vertex in
    let row = c.row.ensures ∙ c.in_ok-vertices.ensures.rows c.at.result (omega (arith, within, c.requires.fronts)) in
    let front : get_or fronts i 0 ≡ c.at.result =
    at_place_before fronts c.loop-place.place c.loop-place.auto.place ∙ sym c.at.ensures.value in
    let more = c.push_vertices.new.order.numbers in
    let added : more ≡ numbers ++ vertices_in_front perm c.args.assembly.now (get_or fronts i 0) =
    ap (λ (order : PermState). order.numbers) c.in_ok-push_vertices.ensures
    ∙ ap (λ (xs : List ℕ). numbers ++ xs) row
    ∙ ap (λ (s : ℕ). numbers ++ vertices_in_front perm c.args.assembly.now s) (sym front) in (
      ap (λ (k : ℕ). more ++ vertices_along perm c.args.assembly.now (drop k fronts)) next
          ∙ more_fronts perm c.args.assembly.now numbers fronts (vertices_along perm c.args.assembly.now fronts) i lt
          c.loop-place.invariant.0 more added,
      ap (λ (order : PermState). order.n) c.in_ok-push_vertices.ensures ∙ c.loop-place.invariant.1,
    )
