-- A system with fences behind its items.
use Rattle.std.proofs.Common.{◌≡◌, ℕ, ◌+◌, ◌-◌, ◌<◌, List, [], ◌∷◌, length, map, get_or, refl, ap, subst, ◌∙◌, arith, Some}
use Rattle.std.specs.Prelude.{All}
use Rattle.std.specs.List.{sum_by}
use Rattle.std.proofs.lemmas.List.{get_or_default, length-map, length-append}
use Rattle.std.proofs.lemmas.List.Elements.{All-nil, All-cons, All-map, All-append}
use Rattle.std.proofs.lemmas.List.Sums.{sum_by-cons, sum_by-append}
use Rattle.mp_system.specs.declared.system.Item.{Item}
use Rattle.mp_system.specs.System.{TaskSystem, IsSystem, IsTask, IsItemWithin, is_input, is_output, item_size}
use Rattle.fences.specs.declared.fenced.Fence.{Fence}
use Rattle.fences.specs.declared.fenced.FenceTest.TheVariants as tests
use Rattle.fences.specs.Fences.{IsFenced}
use Rattle.fences.specs.JudgedFences.{AreFences, fence_at, fence_item, with_fences}
use Rattle.fences.proofs.Fencing.{size_where_same}

pub fence_is : (fences : List Fence) (i : ℕ) (d : Fence) → i < length fences → fence_at fences (i + 1) ≡ get_or fences i d
fence_is fences i d lt =
    let none : Fence = record { from = 0; to = 0 } in
    let back : i + 1 - 1 ≡ i = omega arith in
    ap (λ k. get_or fences k none) back ∙ get_or_default fences i none d lt

all_empty : (fences : List Fence) → All (λ (f : Item). f.size ≡ 0) (map fence_item fences)
all_empty [] = All-nil (λ (f : Item). f.size ≡ 0)
all_empty (given ∷ fences) = All-cons (λ (f : Item). f.size ≡ 0) (fence_item given) (map fence_item fences) refl (all_empty fences)

pub is_fenced : (system : TaskSystem) (fences : List Fence) → IsFenced system (with_fences system fences)
is_fenced system fences = record { fences = map fence_item fences; tasks = refl; items = refl; empty = all_empty fences }

none_of_size : (fences : List Fence) → sum_by item_size (map fence_item fences) ≡ 0
none_of_size [] = refl
none_of_size (given ∷ fences) = omega (arith, sum_by-cons item_size (fence_item given) (map fence_item fences), none_of_size fences)

named : (x w : ℕ) → Some x ≡ Some w → x ≡ w
named x w e = cc

module _ (system : TaskSystem) (fences : List Fence) (are : AreFences system fences) where
  all_within : All (IsItemWithin system) (map fence_item fences)
  all_within = All-map (IsItemWithin system) fence_item fences (λ i d lt. (
      let ends : IsTask system (get_or fences i d).from × IsTask system (get_or fences i d).to =
      subst (λ (f : Fence). IsTask system f.from × IsTask system f.to) (fence_is fences i d lt) (are.fit (i + 1) (omega arith, omega (arith, lt)) tests.Tasks) in
      record {
        size = omega arith;
        producer = λ w e. subst (IsTask system) (named (get_or fences i d).from w e) ends.0;
        consumer = λ w e. subst (IsTask system) (named (get_or fences i d).to w e) ends.1;
      }))

  pub fenced_system : IsSystem system → IsSystem (with_fences system fences)
  fenced_system is =
      let fenced = is_fenced system fences in
      record {
        few_tasks = is.few_tasks;
        few_items = omega (arith, length-append system.items (map fence_item fences), length-map fences fence_item, are.few);
        tasks = is.tasks;
        items = λ i d lt. (
            let h = All-append (IsItemWithin system) system.items (map fence_item fences) is.items all_within i d lt in
            record { size = h.size; producer = h.producer; consumer = h.consumer });
        total = omega (arith, is.total, sum_by-append item_size system.items (map fence_item fences), none_of_size fences);
        shares = λ v task. (
            let own = is.shares v task in (
              omega (arith, own.0, size_where_same system (with_fences system fences) fenced (is_input v)),
              omega (arith, own.1, size_where_same system (with_fences system fences) fenced (is_output v)),
            ));
      }
