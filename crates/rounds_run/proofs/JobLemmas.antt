-- The task of a supernode: it takes what all its children left.
use Rattle.std.proofs.Common.{◌≡◌, ℕ, ◌+◌, ◌-◌, ◌<◌, Bool, true, false, ◌||◌, eqb, List, []}
use Rattle.std.proofs.Common.{length, get_or, take, drop, refl, sym, ap, subst, ◌∙◌, arith}
use Rattle.std.specs.List.{IsDistinct}
use Rattle.std.proofs.Math.Bool.{or_assoc}
use Rattle.std.proofs.lemmas.Bool.{both_ways, eq-eqb, or_from, false_from_ne_true}
use Rattle.std.proofs.lemmas.List.{get_or-take, length-take, drop_more}
use Rattle.std.proofs.lemmas.Map.Keys.{apart_from_distinct}
use Rattle.patterns.specs.Pattern.{has}
use Rattle.permutations.specs.Perm.{IsVertex}
use Rattle.ordering.specs.Fill.{IsParent, parent_of, count_of}
use Rattle.elim_tree.specs.Paths.{IsFromChild}
use Rattle.assembly_tree.specs.declared.assembly.Super.{Super}
use Rattle.assembly_tree.specs.Assembly.{IsSuper, super_at}
use Rattle.assembly_tree.specs.Supernodes.{first_of}
use Rattle.rounds_run.specs.declared.front.Job.{Job}
use Rattle.rounds_run.specs.declared.held.Held.{Held}
use Rattle.rounds_run.specs.Gathering.{in_lists}
use Rattle.rounds_run.specs.Holding.{Factor, IsFactor, IsHeld, IsJobOf, AreDue, or_in}
use Rattle.patterns.proofs.NumberLists.{place_of as place_in}
use Rattle.patterns.proofs.NumberLists.{has_more}
use Rattle.rounds_run.proofs.RowLists.{Laws}
use Rattle.rounds_run.proofs.SuperRows.{first_vertex, columns-le, from_children}

-- what stands at a place of a list that has nothing twice does not stand before it
fresh_at : (round : List ℕ) (i : ℕ) → IsDistinct eqb round → i < length round → has (take i round) (get_or round i 0) ≡ false
fresh_at round i once lt =
    false_from_ne_true _ (λ there.
    let place = place_in (take i round) (get_or round i 0) there in
    let before : place.0 < i = omega (arith, place.1, length-take i round) in
    let same : get_or round place.0 0 ≡ get_or round i 0 = sym (get_or-take i round place.0 0 before) ∙ place.2 in
    both_ways _ (apart_from_distinct eqb round place.0 i 0 once before lt) (eq-eqb _ _ same))

-- with one more of the round
pub or_in_more : (ran : ℕ → Bool) (round : List ℕ) (i t : ℕ) → i < length round
    → or_in ran (take (i + 1) round) t ≡ (or_in ran (take i round) t || eqb (get_or round i 0) t)
or_in_more ran round i t lt =
    ap (λ (b : Bool). ran t || b) (has_more round i t lt) ∙ sym (or_assoc (ran t) (has (take i round) t) (eqb (get_or round i 0) t))

turn : (a b c : Bool) → (a || (b || c)) ≡ ((a || c) || b)
turn true b c = refl
turn false true true = refl
turn false true false = refl
turn false false true = refl
turn false false false = refl

pub or_in_before : (ran : ℕ → Bool) (round : List ℕ) (i t : ℕ) → i < length round
    → or_in ran (drop i round) t ≡ (or_in ran (drop (i + 1) round) t || eqb (get_or round i 0) t)
or_in_before ran round i t lt =
    ap (λ (z : List ℕ). ran t || has z t) (drop_more round i 0 lt) ∙ turn (ran t) (eqb (get_or round i 0) t) (has (drop (i + 1) round) t)

-- at its turn a supernode of the round was not taken
pub not_taken : (supers : List Super) (ran : ℕ → Bool) (round : List ℕ) (i : ℕ) → AreDue supers ran round → i < length round
    → has round (get_or round i 0) ≡ true → or_in ran (take i round) (get_or round i 0) ≡ false
not_taken supers ran round i due lt there = or_from _ _ (due.apart (get_or round i 0) there) (fresh_at round i due.once lt)

module _ (f : Factor) (is : IsFactor f) (laws : Laws f.joined f.order)
    (first_parent : (j : ℕ) → IsParent f.joined f.order j (parent_of f.joined f.order j)) where
  pub job_is : (taken done : ℕ → Bool) (held : Held) (s : ℕ) (job : Job) → IsHeld f taken done held → IsSuper f.supers s
      → taken s ≡ false → ((c : ℕ) → IsSuper f.supers c → (super_at f.supers c).parent ≡ s → done c ≡ true)
      → job.first ≡ first_of f.supers s → job.columns ≡ (super_at f.supers s).columns
      → job.children ≡ get_or held.inboxes.items (s - 1) [] → IsJobOf f s job
  job_is taken done held s job held_is super free children first columns lists =
      let vertex = first_vertex f.joined f.order laws f.supers is.nodes is.supernodes s super in
      let few = columns-le f.joined f.order laws f.supers is.nodes is.supernodes s super in
      record {
        ready = record {
          first = subst (IsVertex f.order) (sym first) vertex;
          columns = (
              let same : count_of f.joined f.order job.first ≡ count_of f.joined f.order (first_of f.supers s) =
              ap (count_of f.joined f.order) first in
              omega (arith, few, same, columns)
              );
          children = λ i.
              let left = held_is.handed s super free i in
              let from = from_children f.joined f.order laws f.supers is.nodes is.supernodes first_parent s i super in (
                λ there.
                    let h = left.0 (ap (λ z. in_lists z i) (sym lists) ∙ there) in
                    subst (λ z. IsFromChild f.joined f.order z i) (sym first) (from.0 (h.0, h.1, h.2, h.4)),
                λ child.
                    let h = from.1 (subst (λ z. IsFromChild f.joined f.order z i) first child) in
                    ap (λ z. in_lists z i) lists ∙ left.1 (h.0, h.1, h.2, children h.0 h.1 h.2, h.3),
              );
        };
        first = first;
        columns = columns;
      }
