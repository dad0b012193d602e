-- Two orders that tell which tasks come after which do so under other names.
use Rattle.std.proofs.Common.{◌≡◌, ℕ, true, not, ◌&&◌, eqb, eq-eqb, List, [], ◌∷◌, ◌++◌, map}
use Rattle.std.proofs.Common.{Option, Some, None, refl, sym, ap, subst, ◌∙◌, inl, inr}
use Rattle.std.specs.Prelude.{All, option_map}
use Rattle.std.specs.List.{filter}
use Rattle.std.proofs.lemmas.List.Sorted.{list_any-IsPermutation}
use Rattle.std.proofs.lemmas.List.Elements.{All-head, All-tail}
use Rattle.std.proofs.lemmas.Bool.{cases_Bool, and_parts, and_from, or_cases, or_left, or_right, eqb-true}
use Rattle.mp_system.specs.declared.system.Item.{Item}
use Rattle.mp_system.specs.System.{TaskSystem, IsTask, is_named, is_input, is_output}
use Rattle.mp_system.specs.Memory.{stands_in}
use Rattle.mp_system.specs.Renaming.{IsRenamed, name_in, renamed, is_solid, has_producer}
use Rattle.mp_system.proofs.RenamingNames.{name_once}
use Rattle.mp_system.proofs.RenamingOrders.{traversal_named}
use Rattle.shared_systems.specs.OneReader.{shared_of}
use Rattle.shared_systems.proofs.SameSystems.{to_own, from_own}
use Rattle.shared_systems.specs.Paths.{ComesAfter, reads, over, StandsBefore, IsRealizer}
use Rattle.term_orders.proofs.TermPaths.{leads, reads_same}

-- ---- items that lead from a task to a task

solid : (u : ℕ) (x : Item) → is_output u x ≡ true → is_solid x ≡ true
solid u x e = or_left (has_producer x.from) (not (eqb x.size 0)) (produced x.from e)
  where
    produced : (from : Option ℕ) → is_named from u ≡ true → has_producer from ≡ true
    produced None e = absurd cc
    produced (Some w) e = refl

any_solid : (u v : ℕ) (xs : List Item) → leads xs u v ≡ true → leads (filter is_solid xs) u v ≡ true
any_solid u v [] e = absurd cc
any_solid u v (x ∷ xs) e = elim (or_cases (is_output u x && is_input v x) (leads xs u v) e) [
  | inl here ↦ (
      let kept = solid u x (and_parts (is_output u x) (is_input v x) here).0 in
      rw kept (or_left (is_output u x && is_input v x) (leads (filter is_solid xs) u v) here))
  | inr later ↦ elim (cases_Bool (is_solid x)) [
    | inl kept ↦ rw kept (or_right (is_output u x && is_input v x) (leads (filter is_solid xs) u v) (any_solid u v xs later))
    | inr left ↦ rw left (any_solid u v xs later)
  ]
]

any_kept : (u v : ℕ) (xs : List Item) → leads (filter is_solid xs) u v ≡ true → leads xs u v ≡ true
any_kept u v [] e = absurd cc
any_kept u v (x ∷ xs) e = elim (cases_Bool (is_solid x)) [
  | inl kept ↦ (
      let e' : leads (x ∷ filter is_solid xs) u v ≡ true = rw kept at e in
      elim (or_cases (is_output u x && is_input v x) (leads (filter is_solid xs) u v) e') [
        | inl here ↦ or_left (is_output u x && is_input v x) (leads xs u v) here
        | inr later ↦ or_right (is_output u x && is_input v x) (leads xs u v) (any_kept u v xs later)
      ])
  | inr left ↦ (
      let e' : leads (filter is_solid xs) u v ≡ true = rw left at e in
      or_right (is_output u x && is_input v x) (leads xs u v) (any_kept u v xs e'))
]

named_so : (name : ℕ → ℕ) (end : Option ℕ) (u : ℕ) → is_named end u ≡ true → is_named (option_map name end) (name u) ≡ true
named_so name None u e = absurd cc
named_so name (Some w) u e = eq-eqb (name w) (name u) (ap name (eqb-true w u e))

any_named : (name : ℕ → ℕ) (u v : ℕ) (xs : List Item) → leads xs u v ≡ true → leads (map (renamed name) xs) (name u) (name v) ≡ true
any_named name u v [] e = absurd cc
any_named name u v (x ∷ xs) e =
    let test = is_output (name u) (renamed name x) && is_input (name v) (renamed name x) in
    elim (or_cases (is_output u x && is_input v x) (leads xs u v) e) [
      | inl here ↦ (
          let parts = and_parts (is_output u x) (is_input v x) here in
          or_left test (leads (map (renamed name) xs) (name u) (name v))
          (and_from (is_output (name u) (renamed name x)) (is_input (name v) (renamed name x))
          (named_so name x.from u parts.0) (named_so name x.to v parts.1)))
      | inr later ↦ or_right test (leads (map (renamed name) xs) (name u) (name v)) (any_named name u v xs later)
    ]

-- ---- who stands before whom

record Mapped (f : ℕ → ℕ) (xs before : List ℕ) (b : ℕ) : Type 0 where
  first : List ℕ
  last : List ℕ
  element : ℕ
  split : xs ≡ first ++ element ∷ last
  first_is : map f first ≡ before
  element_is : f element ≡ b

mapped : (f : ℕ → ℕ) (xs before rest : List ℕ) (b : ℕ) → map f xs ≡ before ++ b ∷ rest → Mapped f xs before b
mapped f [] [] rest b e = absurd cc
mapped f [] (y ∷ before) rest b e = absurd cc
mapped f (x ∷ xs) [] rest b e =
    let same : f x ≡ b = cc in
    record { first = []; last = xs; element = x; split = refl; first_is = refl; element_is = same }
mapped f (x ∷ xs) (y ∷ before) rest b e =
    let same : f x ≡ y = cc in
    let tail : map f xs ≡ before ++ b ∷ rest = cc in
    let there = mapped f xs before rest b tail in
    record {
      first = x ∷ there.first;
      last = there.last;
      element = there.element;
      split = ap (λ (l : List ℕ). x ∷ l) there.split;
      first_is = ap (λ (l : List ℕ). f x ∷ l) there.first_is ∙ ap (λ (w : ℕ). w ∷ before) same;
      element_is = there.element_is;
    }

from_map : (f : ℕ → ℕ) (xs : List ℕ) (a : ℕ) → stands_in (map f xs) a ≡ true → (u : ℕ) × (stands_in xs u ≡ true) × (f u ≡ a)
from_map f [] a e = absurd cc
from_map f (x ∷ xs) a e = elim (or_cases (eqb (f x) a) (stands_in (map f xs) a) e) [
  | inl here ↦ (x, or_left (eqb x x) (stands_in xs x) (eq-eqb x x refl), eqb-true (f x) a here)
  | inr later ↦ (let r = from_map f xs a later in (r.0, or_right (eqb x r.0) (stands_in xs r.0) r.1, r.2))
]

record Unnamed (f : ℕ → ℕ) (order : List ℕ) (a b : ℕ) : Type 0 where
  earlier : ℕ
  later : ℕ
  stand : StandsBefore order earlier later
  earlier_is : f earlier ≡ a
  later_is : f later ≡ b

unnamed : (f : ℕ → ℕ) (order : List ℕ) (a b : ℕ) → StandsBefore (map f order) a b → Unnamed f order a b
unnamed f order a b so =
    let m = mapped f order so.before so.rest b so.split in
    let u = from_map f m.first a (ap (λ (l : List ℕ). stands_in l a) m.first_is ∙ so.stands) in
    record {
      earlier = u.0;
      later = m.element;
      stand = record { before = m.first; rest = m.last; split = m.split; stands = u.1 };
      earlier_is = u.2;
      later_is = m.element_is;
    }

-- what stands in a list of tasks is a task
task_there : (n : ℕ → Type 0) (xs : List ℕ) (u : ℕ) → All n xs → stands_in xs u ≡ true → n u
task_there n [] u all e = absurd cc
task_there n (x ∷ xs) u all e = elim (or_cases (eqb x u) (stands_in xs u) e) [
  | inl here ↦ subst n (eqb-true x u here) (All-head n x xs all)
  | inr later ↦ task_there n xs u (All-tail n x xs all) later
]

in_before : (before rest : List ℕ) (u v : ℕ) → stands_in before u ≡ true → stands_in (before ++ v ∷ rest) u ≡ true
in_before [] rest u v e = absurd cc
in_before (x ∷ before) rest u v e = elim (or_cases (eqb x u) (stands_in before u) e) [
  | inl here ↦ or_left (eqb x u) (stands_in (before ++ v ∷ rest) u) here
  | inr later ↦ or_right (eqb x u) (stands_in (before ++ v ∷ rest) u) (in_before before rest u v later)
]

at_middle : (before rest : List ℕ) (v : ℕ) → stands_in (before ++ v ∷ rest) v ≡ true
at_middle [] rest v = or_left (eqb v v) (stands_in rest v) (eq-eqb v v refl)
at_middle (x ∷ before) rest v = or_right (eqb x v) (stands_in (before ++ v ∷ rest) v) (at_middle before rest v)

-- ---- the whole

module _ (names : List ℕ) (own named : TaskSystem) (same : IsRenamed names own named) where
  leads_named : (u v : ℕ) → leads own.items u v ≡ true → leads named.items (name_in names u) (name_in names v) ≡ true
  leads_named u v e =
      any_kept (name_in names u) (name_in names v) named.items
      (sym (list_any-IsPermutation (λ x. is_output (name_in names u) x && is_input (name_in names v) x)
      (map (renamed (name_in names)) (filter is_solid own.items)) (filter is_solid named.items) same.items)
      ∙ any_named (name_in names) u v (filter is_solid own.items) (any_solid u v own.items e))

  after_named : (u v : ℕ) → ComesAfter (shared_of own) u v → ComesAfter (shared_of named) (name_in names u) (name_in names v)
  after_named u v (reads e) =
      reads (reads_same (name_in names u) (name_in names v) named.items ∙ leads_named u v (sym (reads_same u v own.items) ∙ e))
  after_named u v (over {w} path e) =
      over (after_named u w path)
      (reads_same (name_in names w) (name_in names v) named.items ∙ leads_named w v (sym (reads_same w v own.items) ∙ e))

  pub realizer_named : (first second : List ℕ) → IsRealizer (shared_of own) first second
      → IsRealizer (shared_of named) (map (name_in names) first) (map (name_in names) second)
  realizer_named first second is =
      let f = name_in names in
      record {
        first_traversal = from_own named (map f first) (traversal_named names own named same first (to_own own first is.first_traversal));
        second_traversal =
            from_own named (map f second) (traversal_named names own named same second (to_own own second is.second_traversal));
        both = λ a b one two. (
            let x = unnamed f first a b one in
            let y = unnamed f second a b two in
            let earlier_task : IsTask own y.earlier =
            task_there (IsTask own) second y.earlier is.second_traversal.tasks
            (ap (λ (l : List ℕ). stands_in l y.earlier) y.stand.split
            ∙ in_before y.stand.before y.stand.rest y.earlier y.later y.stand.stands) in
            let later_task : IsTask own y.later =
            task_there (IsTask own) second y.later is.second_traversal.tasks
            (ap (λ (l : List ℕ). stands_in l y.later) y.stand.split ∙ at_middle y.stand.before y.stand.rest y.later) in
            let u_same : x.earlier ≡ y.earlier =
            name_once names own named same x.earlier y.earlier earlier_task (x.earlier_is ∙ sym y.earlier_is) in
            let v_same : x.later ≡ y.later =
            name_once names own named same x.later y.later later_task (x.later_is ∙ sym y.later_is) in
            let second_stand : StandsBefore second x.earlier x.later =
            subst (λ (w : ℕ). StandsBefore second x.earlier w) (sym v_same)
            (subst (λ (w : ℕ). StandsBefore second w y.later) (sym u_same) y.stand) in
            subst (λ (w : ℕ). ComesAfter (shared_of named) w b) x.earlier_is
            (subst (λ (w : ℕ). ComesAfter (shared_of named) (f x.earlier) w) x.later_is
            (after_named x.earlier x.later (is.both x.earlier x.later x.stand second_stand))));
      }
