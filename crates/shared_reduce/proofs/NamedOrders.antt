-- Two orders of a term that tell which tasks come after which tell it of the shared system, under the names of the tasks.
use Rattle.std.proofs.Common.{◌≡◌, ℕ, zero, suc, Bool, true, false, ◌&&◌, eqb, eq-eqb, List, [], ◌∷◌, ◌++◌, map}
use Rattle.std.proofs.Common.{length, Option, Some, None, unwrap_or, refl, sym, ap, subst, ◌∙◌, inl, inr}
use Rattle.std.specs.Prelude.{All, option_map}
use Rattle.std.specs.List.{list_any}
use Rattle.std.proofs.lemmas.Bool.{and_parts, or_cases, or_left, or_right, eqb-true}
use Rattle.std.proofs.lemmas.List.{length-replicate}
use Rattle.std.proofs.lemmas.List.Folds.{list_any-append}
use Rattle.std.proofs.lemmas.List.Sorted.{list_any-IsPermutation}
use Rattle.std.proofs.lemmas.List.Elements.{All-head}
use Rattle.mp_system.specs.declared.system.Item.{Item}
use Rattle.mp_system.specs.System.{is_named}
use Rattle.mp_system.specs.Memory.{stands_in}
use Rattle.mp_system.specs.Traversal.{IsTraversal}
use Rattle.mp_system.specs.Renaming.{name_in, renamed, IsRenamed}
use Rattle.mp_system.proofs.RenamingNames.{name_once}
use Rattle.mp_system.proofs.RenamingOrders.{traversal_named}
use Rattle.sp_terms.specs.Term.{Term}
use Rattle.sp_terms.specs.SystemOfTerm.{system_of_term}
use Rattle.graphs.specs.declared.arc.Arc.{Arc}
use Rattle.graphs.specs.Graph.{IsAmong, arc_between, end_of, item_of_arc, without_into, without_out, added_arcs, completed_system}
use Rattle.shared_systems.specs.Shared.{SharedTaskSystem, SharedItem, is_made_by, is_read_by}
use Rattle.shared_systems.specs.SharedTraversal.{IsSharedTraversal}
use Rattle.shared_systems.specs.Bounds.{IsSharedSystem, item_arcs, use_arcs}
use Rattle.shared_systems.specs.OneReader.{shared_of, shared_item_of, readers_of}
use Rattle.shared_systems.proofs.SameSystems.{to_own}
use Rattle.shared_systems.specs.Paths.{reads_from, ComesAfter, reads, over, StandsBefore, IsRealizer}
use Rattle.carried_graphs.proofs.Following.{is_the, all_parts, reader_task}
use Rattle.sp_reduce.specs.Reduced.{HasSystem}
use Rattle.sp_reduce.proofs.NamedTerms.{is-renamed}
use Rattle.shared_reduce.specs.Uses.{bare, uses_of}
use Rattle.shared_reduce.proofs.UseGraphs.{has_its_inputs}

-- ---- tests of lists

-- what passes is mapped to what passes
any_mapped : {X Y : Type 0} (p : X → Bool) (q : Y → Bool) (f : X → Y) → ((x : X) → p x ≡ true → q (f x) ≡ true)
    → (xs : List X) → list_any p xs ≡ true → list_any q (map f xs) ≡ true
any_mapped p q f passes [] e = absurd cc
any_mapped p q f passes (x ∷ xs) e = elim (or_cases (p x) (list_any p xs) e) [
  | inl here ↦ or_left (q (f x)) (list_any q (map f xs)) (passes x here)
  | inr later ↦ or_right (q (f x)) (list_any q (map f xs)) (any_mapped p q f passes xs later)
]

-- what passes is the image of what passes
any_unmapped : {X Y : Type 0} (p : X → Bool) (q : Y → Bool) (f : X → Y) → ((x : X) → q (f x) ≡ true → p x ≡ true)
    → (xs : List X) → list_any q (map f xs) ≡ true → list_any p xs ≡ true
any_unmapped p q f passes [] e = absurd cc
any_unmapped p q f passes (x ∷ xs) e = elim (or_cases (q (f x)) (list_any q (map f xs)) e) [
  | inl here ↦ or_left (p x) (list_any p xs) (passes x here)
  | inr later ↦ or_right (p x) (list_any p xs) (any_unmapped p q f passes xs later)
]

any_none : {X : Type 0} (p : X → Bool) → ((x : X) → p x ≡ true → ⊥) → (xs : List X) → list_any p xs ≡ true → ⊥
any_none p none [] e = absurd cc
any_none p none (x ∷ xs) e = elim (or_cases (p x) (list_any p xs) e) [ inl here ↦ none x here | inr later ↦ any_none p none xs later ]

-- ---- links of items and arcs

-- whether task u produces the item and task v consumes it
abbrev links : ℕ → ℕ → Item → Bool
links u v item = is_named item.from u && is_named item.to v

named_too : (name : ℕ → ℕ) (who : Option ℕ) (u : ℕ) → is_named who u ≡ true → is_named (option_map name who) (name u) ≡ true
named_too name who u e =
    subst (λ (o : Option ℕ). is_named (option_map name o) (name u) ≡ true) (sym (is_the who u e)) (eq-eqb (name u) (name u) refl)

consumer_too : (name : ℕ → ℕ) (to : Option ℕ) (v : ℕ) → list_any (λ c. eqb c v) (readers_of to) ≡ true
    → is_named (option_map name to) (name v) ≡ true
consumer_too name None v e = absurd cc
consumer_too name (Some c) v e = elim (or_cases (eqb c v) false e) [
  | inl here ↦ named_too name (Some c) v here
  | inr never ↦ absurd cc
]

link_named : (name : ℕ → ℕ) (u v : ℕ) (item : Item) → (is_made_by u (shared_item_of item) && is_read_by v (shared_item_of item)) ≡ true
    → links (name u) (name v) (renamed name item) ≡ true
link_named name u v item e =
    let parts = and_parts (is_made_by u (shared_item_of item)) (is_read_by v (shared_item_of item)) e in
    rw (named_too name item.from u parts.0, consumer_too name item.to v parts.1)

from_none : (a b v : ℕ) → links a b (item_of_arc (arc_between 0 v)) ≡ true → ⊥
from_none a b v e = absurd cc

to_none : (a b v : ℕ) → links a b (item_of_arc (arc_between v 0)) ≡ true → ⊥
to_none a b v e =
    let parts = and_parts (is_named (end_of v) a) false e in absurd (let never : ◌≡◌ {A = Bool} false true = parts.1 in cc)

ends_there : (from : Option ℕ) (a : ℕ) → is_named (end_of (unwrap_or from 0)) a ≡ true → is_named from a ≡ true
ends_there None a e = absurd cc
ends_there (Some zero) a e = absurd cc
ends_there (Some (suc u)) a e = e

reader_there : (c b : ℕ) → is_named (end_of c) b ≡ true → eqb c b ≡ true
reader_there zero b e = absurd cc
reader_there (suc c) b e = e

-- whether task a produces what task b reads, by one item
abbrev uses : ℕ → ℕ → SharedItem → Bool
uses a b x = is_made_by a x && is_read_by b x

any_reader : (from : Option ℕ) (a b : ℕ) (readers : List ℕ)
    → list_any (λ y. links a b (item_of_arc y)) (map (arc_between (unwrap_or from 0)) readers) ≡ true
    → (is_named from a ≡ true) × (list_any (λ c. eqb c b) readers ≡ true)
any_reader from a b [] e = absurd cc
any_reader from a b (c ∷ cs) e =
    elim (or_cases (links a b (item_of_arc (arc_between (unwrap_or from 0) c)))
    (list_any (λ y. links a b (item_of_arc y)) (map (arc_between (unwrap_or from 0)) cs)) e) [
      | inl here ↦ (
          let parts = and_parts (is_named (end_of (unwrap_or from 0)) a) (is_named (end_of c) b) here in
          (ends_there from a parts.0, or_left (eqb c b) (list_any (λ d. eqb d b) cs) (reader_there c b parts.1)))
      | inr later ↦ (
          let there = any_reader from a b cs later in
          (there.0, or_right (eqb c b) (list_any (λ d. eqb d b) cs) there.1))
    ]

any_use : (a b : ℕ) (xs : List SharedItem) → list_any (λ y. links a b (item_of_arc y)) (use_arcs xs) ≡ true
    → list_any (uses a b) xs ≡ true
any_use a b [] e = absurd cc
any_use a b (x ∷ xs) e =
    let test : Arc → Bool = λ y. links a b (item_of_arc y) in
    elim (or_cases (list_any test (item_arcs x)) (list_any test (use_arcs xs))
    (sym (list_any-append test (item_arcs x) (use_arcs xs)) ∙ e)) [
      | inl here ↦ (
          let there = any_reader x.from a b x.readers here in
          or_left (uses a b x) (list_any (uses a b) xs) (rw (there.0, there.1)))
      | inr later ↦ or_right (uses a b x) (list_any (uses a b) xs) (any_use a b xs later)
    ]

any_arc : (a b n : ℕ) (xs : List SharedItem)
    → list_any (λ y. links a b (item_of_arc y)) (use_arcs xs ++ added_arcs n (use_arcs xs)) ≡ true → list_any (uses a b) xs ≡ true
any_arc a b n xs e =
    let test : Arc → Bool = λ y. links a b (item_of_arc y) in
    let arcs = use_arcs xs in
    let starts = map (λ v. arc_between 0 v) (without_into n arcs) in
    let ends = map (λ v. arc_between v 0) (without_out n arcs) in
    elim (or_cases (list_any test arcs) (list_any test (starts ++ ends)) (sym (list_any-append test arcs (starts ++ ends)) ∙ e)) [
      | inl here ↦ any_use a b xs here
      | inr added ↦ elim (or_cases (list_any test starts) (list_any test ends) (sym (list_any-append test starts ends) ∙ added)) [
        | inl start ↦ absurd (any_none (λ v. test (arc_between 0 v)) (from_none a b) (without_into n arcs)
            (any_unmapped (λ v. test (arc_between 0 v)) test (λ v. arc_between 0 v) (λ v h. h) (without_into n arcs) start))
        | inr end ↦ absurd (any_none (λ v. test (arc_between v 0)) (to_none a b) (without_out n arcs)
            (any_unmapped (λ v. test (arc_between v 0)) test (λ v. arc_between v 0) (λ v h. h) (without_out n arcs) end))
      ]
    ]

-- ---- where tasks stand in a list under names

record Unnamed (name : ℕ → ℕ) (n : ℕ) (xs : List ℕ) (a b : ℕ) : Type 0 where
  u : ℕ
  v : ℕ
  u_is : name u ≡ a
  v_is : name v ≡ b
  u_task : IsAmong n u
  v_task : IsAmong n v
  stands : StandsBefore xs u v

record Cut (f : ℕ → ℕ) (xs before : List ℕ) (v : ℕ) : Type 0 where
  first : List ℕ
  here : ℕ
  last : List ℕ
  split : xs ≡ first ++ here ∷ last
  first_is : map f first ≡ before
  here_is : f here ≡ v

cut_more : (f : ℕ → ℕ) (x u : ℕ) (xs before : List ℕ) (v : ℕ) → f x ≡ u → Cut f xs before v → Cut f (x ∷ xs) (u ∷ before) v
cut_more f x u xs before v head later = record {
  first = x ∷ later.first;
  here = later.here;
  last = later.last;
  split = ap (λ (l : List ℕ). x ∷ l) later.split;
  first_is = rw (head, later.first_is);
  here_is = later.here_is;
}

-- a list whose image is cut before v is cut there too
cut : (f : ℕ → ℕ) (xs before : List ℕ) (v : ℕ) (rest : List ℕ) → map f xs ≡ before ++ v ∷ rest → Cut f xs before v
cut f [] [] v rest e = absurd cc
cut f [] (u ∷ before) v rest e = absurd cc
cut f (x ∷ xs) [] v rest e = record { first = []; here = x; last = xs; split = refl; first_is = refl; here_is = cc }
cut f (x ∷ xs) (u ∷ before) v rest e = cut_more f x u xs before v (cc) (cut f xs before v rest (cc))

-- what stands in the image is the image of what stands
stood_for : (f : ℕ → ℕ) (xs : List ℕ) (a : ℕ) → stands_in (map f xs) a ≡ true → (u : ℕ) × (f u ≡ a) × (stands_in xs u ≡ true)
stood_for f [] a e = absurd cc
stood_for f (x ∷ xs) a e = elim (or_cases (eqb (f x) a) (stands_in (map f xs) a) e) [
  | inl here ↦ (x, eqb-true (f x) a here, or_left (eqb x x) (stands_in xs x) (eq-eqb x x refl))
  | inr later ↦ (
      let there = stood_for f xs a later in
      (there.0, there.1, or_right (eqb x there.0) (stands_in xs there.0) there.2))
]

unnamed : (f : ℕ → ℕ) (n : ℕ) (xs : List ℕ) (a b : ℕ) → All (IsAmong n) xs → StandsBefore (map f xs) a b → Unnamed f n xs a b
unnamed f n xs a b tasks before =
    let at = cut f xs before.before b before.rest before.split in
    let early = stood_for f at.first a (subst (λ (l : List ℕ). stands_in l a ≡ true) (sym at.first_is) before.stands) in
    let parts = all_parts (IsAmong n) at.first (at.here ∷ at.last) (subst (All (IsAmong n)) at.split tasks) in
    record {
      u = early.0;
      v = at.here;
      u_is = early.1;
      v_is = at.here_is;
      u_task = reader_task n early.0 at.first parts.0 early.2;
      v_task = All-head (IsAmong n) at.here at.last parts.1;
      stands = record { before = at.first; rest = at.last; split = at.split; stands = early.2 };
    }

-- ---- the orders

module _ (system : SharedTaskSystem) (names : List ℕ) (t : Term) (is : IsSharedSystem system)
    (has : HasSystem names t (completed_system (uses_of system))) where
  same : IsRenamed names (system_of_term t) (completed_system (uses_of system))
  same = is-renamed (uses_of system) names t has

  reads_named : (u v : ℕ) → reads_from (shared_of (system_of_term t)) u v ≡ true
      → reads_from system (name_in names u) (name_in names v) ≡ true
  reads_named u v e =
      let name = name_in names in
      let own = (system_of_term t).items in
      let named = (completed_system (uses_of system)).items in
      let item : list_any (λ x. uses u v (shared_item_of x)) own ≡ true =
      any_unmapped (λ x. uses u v (shared_item_of x)) (uses u v) shared_item_of (λ x h. h) own e in
      let moved : list_any (links (name u) (name v)) (map (renamed name) own) ≡ true =
      any_mapped (λ x. uses u v (shared_item_of x)) (links (name u) (name v)) (renamed name) (link_named name u v) own item in
      let there : list_any (links (name u) (name v)) named ≡ true =
      sym (list_any-IsPermutation (links (name u) (name v)) (map (renamed name) own) named has.items) ∙ moved in
      any_arc (name u) (name v) (length (uses_of system).tasks) system.items
      (any_unmapped (λ y. links (name u) (name v) (item_of_arc y)) (links (name u) (name v)) item_of_arc (λ x h. h)
      (use_arcs system.items ++ added_arcs (length (uses_of system).tasks) (use_arcs system.items)) there)

  path_named : (u v : ℕ) → ComesAfter (shared_of (system_of_term t)) u v → ComesAfter system (name_in names u) (name_in names v)
  path_named u v (reads e) = reads (reads_named u v e)
  path_named u v (over {w} path e) = over (path_named u w path) (reads_named w v e)

  shared_traversal : (order : List ℕ) → IsTraversal (completed_system (uses_of system)) order → IsSharedTraversal system order
  shared_traversal order traversal =
      let long = length-replicate (length system.tasks) bare in
      record {
        once = λ v task. traversal.once v (subst (λ (n : ℕ). IsAmong n v) (sym long) task);
        tasks = subst (λ (n : ℕ). All (IsAmong n) order) long traversal.tasks;
        after_suppliers = λ before rest v split.
            has_its_inputs system is (stands_in before) v (traversal.after_suppliers before rest v split);
      }

  order_named : (order : List ℕ) → IsSharedTraversal (shared_of (system_of_term t)) order
      → IsSharedTraversal system (map (name_in names) order)
  order_named order traversal =
      shared_traversal (map (name_in names) order)
      (traversal_named names (system_of_term t) (completed_system (uses_of system)) same order (to_own (system_of_term t) order traversal))

  pub realizer_named : (first second : List ℕ) → IsRealizer (shared_of (system_of_term t)) first second
      → IsRealizer system (map (name_in names) first) (map (name_in names) second)
  realizer_named first second realizer = record {
    first_traversal = order_named first realizer.first_traversal;
    second_traversal = order_named second realizer.second_traversal;
    both = λ a b one two. (
        let count = length (system_of_term t).tasks in
        let x = unnamed (name_in names) count first a b realizer.first_traversal.tasks one in
        let y = unnamed (name_in names) count second a b realizer.second_traversal.tasks two in
        let u_same : y.u ≡ x.u =
        name_once names (system_of_term t) (completed_system (uses_of system)) same y.u x.u x.u_task (y.u_is ∙ sym x.u_is) in
        let v_same : y.v ≡ x.v =
        name_once names (system_of_term t) (completed_system (uses_of system)) same y.v x.v x.v_task (y.v_is ∙ sym x.v_is) in
        let there : StandsBefore second x.u x.v =
        subst (λ (u : ℕ). StandsBefore second u x.v) u_same (subst (λ (v : ℕ). StandsBefore second y.u v) v_same y.stands) in
        let path = path_named x.u x.v (realizer.both x.u x.v x.stands there) in
        subst (λ (u : ℕ). ComesAfter system u b) x.u_is (subst (λ (v : ℕ). ComesAfter system (name_in names x.u) v) x.v_is path));
  }
