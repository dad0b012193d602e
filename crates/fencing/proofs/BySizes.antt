-- Where each item hands on its size, the amounts are accepted, and certify a bound that no run passes as it stands.
use Rattle.std.proofs.Common.{◌≡◌, ℕ, ◌+◌, ◌-◌, ◌≤◌, Option, Some, None, Result, Ok, Err, List, [], ◌∷◌, ◌++◌, append-nil, length, map, get_or, sum, refl, sym, ap, subst, ◌∙◌, arith}
use Rattle.std.specs.Prelude.{IfOk, IfSome}
use Rattle.std.specs.List.{sum_by}
use Rattle.std.proofs.lemmas.List.{get_or-map, length-map}
use Rattle.lists.proofs.Lists.{sum_by-map}
use Rattle.mp_system.specs.declared.system.Item.{Item}
use Rattle.mp_system.specs.System.{TaskSystem, IsSystem, item_size}
use Rattle.mp_system.specs.Traversal.{IsTraversal}
use Rattle.shared_systems.specs.Shared.{SharedTaskSystem}
use Rattle.shared_systems.specs.Collected.{HasRoom, collected}
use Rattle.fences.specs.declared.fenced.Fence.{Fence}
use Rattle.fences.specs.declared.judged.AmountTest.{AmountTest}
use Rattle.fences.specs.declared.judged.AmountTest.TheVariants as tests
use Rattle.fences.specs.declared.judged.AmountsRefusal.{AmountsRefusal}
use Rattle.fences.specs.declared.judged.AmountsRefusal.TheVariants as refusals
use Rattle.fences.specs.Amounts.{certified_bound}
use Rattle.fences.specs.Judged.{AmountPasses, AreAccepted, IsAmountsRefusal, amount_at, item_at}
use Rattle.fences.specs.JudgedFences.{Certify, with_fences}
use Rattle.fences.specs.Workers.{relieved}
use Rattle.fences.specs.Implied.{AreImplied}
use Rattle.fences.specs.Certificates.{Certificate, Certifies, join_places, reserve_of, room_of}
use Rattle.fencing.specs.Asked.{IsFor}
use Rattle.fencing.specs.Standing.{IsStanding}
use Rattle.fencing.proofs.Certificates.{same_system}

-- ---- sizes are accepted

module _ (system : TaskSystem) (sys : IsSystem system) where
  abbrev sizes : List ℕ
  sizes = map item_size system.items

  size_at : (place : ℕ) → 1 ≤ place → place ≤ length system.items → amount_at sizes place ≡ (item_at system place).size
  size_at place low high =
      get_or-map item_size system.items (place - 1) (record { size = 0; from = None; to = None }) 0 (omega arith)

  passes : (test : AmountTest) (place : ℕ) → 1 ≤ place → place ≤ length system.items → AmountPasses system sizes test place
  passes tests.Size place low high = omega (arith, size_at place low high)
  passes tests.Limit place low high =
      let within = sys.items (place - 1) (record { size = 0; from = None; to = None }) (omega arith) in
      omega (arith, size_at place low high, within.size)

  pub sizes_refused : (refusal : AmountsRefusal) → IsAmountsRefusal system sizes refusal → refusal ≡ refusals.NoMemory
  sizes_refused refusals.Length said = absurd (said (length-map system.items item_size))
  sizes_refused (refusals.Item test place) said =
      absurd (said.2 (passes test place said.1.is_place.0 said.1.is_place.1))
  sizes_refused refusals.Total said =
      let total : sum sizes ≡ sum_by item_size system.items = sum_by-map (λ x. x) item_size system.items in
      absurd (omega (arith, said.2, total, sys.total))
  sizes_refused refusals.NoMemory said = refl

-- ---- no fences

no_fences : (system : TaskSystem) → with_fences (relieved 0 system) [] ≡ system
no_fences system =
    ap (λ (s : TaskSystem). with_fences s []) (same_system system)
    ∙ ap (λ (items : List Item). record { tasks = system.tasks; items = items }) (append-nil system.items)

certify : (system : TaskSystem) (order amounts : List ℕ) (bound : ℕ) → IsSystem system → IsTraversal system order → AreAccepted system amounts
    → bound ≡ certified_bound (relieved 0 system) amounts → Certify (relieved 0 system) [] amounts (bound - 0)
certify system order amounts bound sys is accepted certified =
    let same = no_fences system in
    let value : certified_bound (with_fences (relieved 0 system) []) amounts ≡ certified_bound (relieved 0 system) amounts =
    ap (λ (s : TaskSystem). certified_bound s amounts) (same ∙ sym (same_system system)) in
    record {
      leave = record {
        are_fences = record { few = omega (arith, sys.few_items); fit = λ place at. absurd (omega (arith, at.0, at.1)) };
        order = order;
        traversal = subst (λ (s : TaskSystem). IsTraversal s order) (sym same) is;
      };
      accepted = subst (λ (s : TaskSystem). AreAccepted s amounts) (sym same) accepted;
      within = omega (arith, value, certified);
    }

pub stands : (system : SharedTaskSystem) (order : List ℕ) (asked : Option ℕ) (certificate : Certificate)
    → IsSystem (collected system) → HasRoom system → IsTraversal (collected system) order → AreAccepted (collected system) certificate.amounts
    → certificate.bound ≡ certified_bound (relieved 0 (collected system)) certificate.amounts
    → IsFor asked certificate.workers → room_of certificate.workers ≡ 0 → reserve_of certificate.workers ≡ 0
    → certificate.joins ≡ join_places system → certificate.fences ≡ [] → IsStanding system asked certificate
stands system order asked certificate sys room is accepted certified workers no_room no_reserve joins none =
    record {
      certifies = record {
        for_tasks = record {
          has_joins = record { room = room; joins = joins };
          reserve = omega (arith, no_reserve);
          tasks = rw none (λ place at. absurd (omega (arith, at.0, at.1)));
        };
        certify = rw (none, no_room, no_reserve) (certify (collected system) order certificate.amounts certificate.bound sys is accepted certified);
      };
      implied = rw none (λ changes run. run);
      is_for = workers;
    }

-- ---- what is found and accepted stands

pub found_stands : (E : Type 0) (system : SharedTaskSystem) (asked : Option ℕ) (certificate : Certificate) (r : Result (Option Certificate) E)
    → IsFor asked certificate.workers → IfOk r (λ found. IfSome found (λ c. c ≡ certificate)) → IfOk r (λ found. IfSome found (Certifies system))
    → IfOk r (λ found. IfSome found (λ c. AreImplied system c.fences)) → IfOk r (λ found. IfSome found (IsStanding system asked))
found_stands E system asked certificate (Err e) workers same certifies implied = tt
found_stands E system asked certificate (Ok None) workers same certifies implied = tt
found_stands E system asked certificate (Ok (Some c)) workers same certifies implied =
    record { certifies = certifies; implied = implied; is_for = subst (λ (x : Certificate). IsFor asked x.workers) (sym same) workers }
