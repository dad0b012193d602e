-- What is accepted is handed on; what stands at a place.
use Rattle.std.proofs.Common.{◌≡◌, ℕ, ◌+◌, ◌-◌, ◌<◌, List, length, get_or, refl, sym, ap, ◌∙◌, arith, None}
use Rattle.std.proofs.lemmas.List.{get_or_default}
use Rattle.mp_system.specs.declared.system.Item.{Item}
use Rattle.mp_system.specs.System.{TaskSystem}
use Rattle.fences.specs.declared.judged.AmountTest.TheVariants as tests
use Rattle.fences.specs.Amounts.{AreHandedOn}
use Rattle.fences.specs.Judged.{AreAccepted, amount_at, item_at}
use Rattle.fences.proofs.Sizes.{all_covered}

back : (i : ℕ) → i + 1 - 1 ≡ i
back i = omega arith

pub item_is : (system : TaskSystem) (i : ℕ) (d : Item) → i < length system.items → item_at system (i + 1) ≡ get_or system.items i d
item_is system i d lt =
    let none : Item = record { size = 0; from = None; to = None } in
    ap (λ k. get_or system.items k none) (back i) ∙ get_or_default system.items i none d lt

pub size_is : (system : TaskSystem) (items : List Item) → items ≡ system.items → (i : ℕ) (d : Item) → i < length items
    → (item_at system (i + 1)).size ≡ (get_or items i d).size
size_is system items same i d lt =
    let none : Item = record { size = 0; from = None; to = None } in
    ap (λ k. (get_or system.items k none).size) (back i)
    ∙ ap (λ (l : List Item). (get_or l i none).size) (sym same)
    ∙ ap (λ (x : Item). x.size) (get_or_default items i none d lt)

pub amount_is : (amounts : List ℕ) (i : ℕ) → amount_at amounts (i + 1) ≡ get_or amounts i 0
amount_is amounts i = ap (λ k. get_or amounts k 0) (back i)

pub handed : (system : TaskSystem) (amounts : List ℕ) → AreAccepted system amounts → AreHandedOn system amounts
handed system amounts accepted = record {
  long = accepted.long;
  covers = all_covered system.items amounts accepted.long
      (λ k d lt. omega (arith, accepted.fit (k + 1) (omega arith, omega arith) tests.Size, size_is system system.items refl k d lt, amount_is amounts k));
}
