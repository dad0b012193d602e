-- Orders in which each task has its inputs, and states of traversals.
use Rattle.std.proofs.Common.{◌≡◌, ℕ, Bool, true, false, not, ◌&&◌, ◌||◌, List, [], ◌∷◌, ◌++◌}
use Rattle.std.proofs.Common.{append_assoc, Option, Some, None, refl, sym, ap, subst, ◌∙◌, inl, inr}
use Rattle.std.specs.Prelude.{All}
use Rattle.std.specs.List.{list_all, list_any}
use Rattle.std.proofs.lemmas.List.{append-nil}
use Rattle.std.proofs.lemmas.List.Elements.{All-nil, All-cons, All-weaker}
use Rattle.std.proofs.lemmas.Bool.{and_parts, and_from, or_cases, or_left, or_right, eqb-true, eq-eqb}
use Rattle.mp_system.specs.System.{is_named}
use Rattle.mp_system.specs.Memory.{is_done_or, stands_in}
use Rattle.shared_systems.specs.Shared.{SharedTaskSystem, SharedItem, is_made_by, is_read_by}
use Rattle.shared_systems.specs.SharedMemory.{is_made, has_inputs}
use Rattle.shared_systems.specs.SharedTraversal.{IsSharedTraversal}
use Rattle.shared_systems.proofs.States.{still_has_inputs}
use Rattle.shared_systems.proofs.Steps.{stands_more}
use Rattle.shared_systems.proofs.WithoutCollectors.{stood}
use Rattle.joined_systems.proofs.JoinedItems.{is_given}

-- ---- tasks that have their inputs one after the other

pub AllHave : SharedTaskSystem → List ℕ → List ℕ → Type 0
AllHave system before [] = Unit {0}
AllHave system before (v ∷ rest) = (has_inputs system (stands_in before) v ≡ true) × AllHave system (before ++ v ∷ []) rest

pub have_nil : (system : SharedTaskSystem) (before : List ℕ) → AllHave system before []
unfolding AllHave
have_nil system before = tt

pub have_cons : (system : SharedTaskSystem) (before : List ℕ) (v : ℕ) (rest : List ℕ)
    → has_inputs system (stands_in before) v ≡ true → AllHave system (before ++ v ∷ []) rest → AllHave system before (v ∷ rest)
unfolding AllHave
have_cons system before v rest here later = (here, later)

pub have_at : (system : SharedTaskSystem) (done before : List ℕ) (v : ℕ) (rest : List ℕ)
    → AllHave system done (before ++ v ∷ rest) → has_inputs system (stands_in (done ++ before)) v ≡ true
unfolding AllHave
have_at system done [] v rest have = subst (λ (l : List ℕ). has_inputs system (stands_in l) v ≡ true) (sym (append-nil done)) have.0
have_at system done (x ∷ before) v rest have =
    subst (λ (l : List ℕ). has_inputs system (stands_in l) v ≡ true)
    (append_assoc done (x ∷ []) before) (have_at system (done ++ x ∷ []) before v rest have.1)

-- in the states of a traversal the done tasks have their inputs
pub closed : (system : SharedTaskSystem) (order before rest : List ℕ) → IsSharedTraversal system order → order ≡ before ++ rest
    → (u : ℕ) → stands_in before u ≡ true → has_inputs system (stands_in before) u ≡ true
closed system order before rest traversal split u e =
    let there = stood before u e in
    let whole : order ≡ there.first ++ u ∷ (there.last ++ rest) =
    split ∙ ap (λ (l : List ℕ). l ++ rest) there.split ∙ append_assoc there.first (u ∷ there.last) rest in
    still_has_inputs (stands_in there.first) (stands_in before)
    (λ w h. ap (λ (l : List ℕ). stands_in l w) there.split ∙ stands_more there.first (u ∷ there.last) w h)
    u system.items (traversal.after_suppliers there.first (there.last ++ rest) u whole)

-- ---- what a task reads is made, and the tasks that make it are done

pub made_of : (reads made : Bool) → (not reads || made) ≡ true → reads ≡ true → made ≡ true
made_of true made given e = given
made_of false made given e = absurd cc

named_done : (done : ℕ → Bool) (u : ℕ) (from : Option ℕ) → is_named from u ≡ true → is_done_or true done from ≡ true → done u ≡ true
named_done done u None named e = absurd cc
named_done done u (Some w) named e = subst (λ (z : ℕ). done z ≡ true) (eqb-true w u named) e

pub supplier_done : (done : ℕ → Bool) (u v : ℕ) (xs : List SharedItem) → list_all (is_given done v) xs ≡ true
    → list_any (λ x. is_made_by u x && is_read_by v x) xs ≡ true → done u ≡ true
supplier_done done u v [] given reads = absurd cc
supplier_done done u v (x ∷ xs) given reads =
    let parts = and_parts (is_given done v x) (list_all (is_given done v) xs) given in
    elim (or_cases (is_made_by u x && is_read_by v x) (list_any (λ y. is_made_by u y && is_read_by v y) xs) reads) [
      | inl here ↦ (
          let both = and_parts (is_made_by u x) (is_read_by v x) here in
          named_done done u x.from both.0 (made_of (is_read_by v x) (is_made done x) parts.0 both.1)
          )
      | inr later ↦ supplier_done done u v xs parts.1 later
    ]

-- ---- the items of a system are read from their producers

abbrev pub IsReadIn : List SharedItem → SharedItem → Type 0
IsReadIn xs x = (u v : ℕ) → x.from ≡ Some u → is_read_by v x ≡ true → list_any (λ y. is_made_by u y && is_read_by v y) xs ≡ true

pub all_read : (xs : List SharedItem) → All (IsReadIn xs) xs
all_read [] = All-nil (IsReadIn [])
all_read (x ∷ xs) =
    let test = λ (u v : ℕ) (y : SharedItem). is_made_by u y && is_read_by v y in
    All-cons (IsReadIn (x ∷ xs)) x xs
    (λ u v from reads. or_left (test u v x) (list_any (test u v) xs)
    (and_from (is_made_by u x) (is_read_by v x) (ap (λ (o : Option ℕ). is_named o u) from ∙ eq-eqb u u refl) reads))
    (All-weaker (IsReadIn xs) (IsReadIn (x ∷ xs)) (λ y h u v from reads. or_right (test u v x) (list_any (test u v) xs) (h u v from reads))
    xs (all_read xs))
