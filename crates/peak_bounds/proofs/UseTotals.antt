-- Sums of lowered sizes, one use after the other.
use Rattle.std.proofs.Common.{◌≡◌, ℕ, zero, suc, ◌+◌, ◌<◌, ◌≤◌, Bool, cond, eqb, List, [], ◌∷◌, ◌++◌, length, map, take, get_or}
use Rattle.std.proofs.Common.{Option, Some, None, unwrap_or, refl, ap, ◌∙◌, arith}
use Rattle.std.specs.Prelude.{ℤ, pos, ◌+ℤ◌, All}
use Rattle.std.proofs.lemmas.Int.{ints}
use Rattle.std.proofs.lemmas.Bool.{ne_eqb}
use Rattle.std.proofs.lemmas.List.{take_more, length-take-le}
use Rattle.mp_system.specs.Given.{end_given}
use Rattle.mp_system.specs.System.{is_named}
use Rattle.shared_systems.specs.Shared.{SharedTaskSystem, SharedItem}
use Rattle.shared_systems.specs.Bounds.{IsSharedItemWithin, IsSharedSystem}
use Rattle.graphs.specs.Graph.{IsAmong}
use Rattle.peak_bounds.specs.declared.uses.Use.{Use}
use Rattle.peak_bounds.specs.Moments.{uses_for, item_uses, uses_of, lowered_where}
use Rattle.peak_bounds.specs.declared.use_table.UseTable.{UseTable}
use Rattle.peak_bounds.specs.Judging.{maker_of, taker_of, size_at, AreUses}
use Rattle.std.proofs.lemmas.List.Elements.{All-nil, All-cons, All-head, All-tail, All-append}
use Rattle.peak_bounds.proofs.Links.{end_at}
use Rattle.peak_bounds.proofs.Following.{no_use}

-- ---- the end of a use

pub end_is : (v : ℕ) → 1 ≤ v → (end : Option ℕ) → eqb (unwrap_or end 0) v ≡ is_named end v
end_is v some None = ne_eqb 0 v (λ e. absurd (omega (arith, some, e)))
end_is v some (Some u) = refl

-- ---- one use more

lowered_push : (test : Use → Bool) (uses : List Use) (sizes : List ℤ) (u : Use) (k : ℤ) → length uses ≡ length sizes
    → lowered_where test (uses ++ u ∷ []) (sizes ++ k ∷ []) ≡ lowered_where test uses sizes +ℤ cond (test u) k (pos 0)
lowered_push test [] [] u k same = omega (arith, ints)
lowered_push test [] (l ∷ sizes) u k same = absurd (omega arith)
lowered_push test (x ∷ uses) [] u k same = absurd (omega arith)
lowered_push test (x ∷ uses) (l ∷ sizes) u k same = omega (arith, ints, lowered_push test uses sizes u k (omega arith))

pub lowered_more : (test : Use → Bool) (uses : List Use) (sizes : List ℤ) (i : ℕ) → length sizes ≡ length uses → i < length uses
    → lowered_where test (take (i + 1) uses) (take (i + 1) sizes)
    ≡ lowered_where test (take i uses) (take i sizes) +ℤ cond (test (get_or uses i no_use)) (size_at sizes i) (pos 0)
lowered_more test uses sizes i same lt =
    let lt' : i < length sizes = omega arith in
    rw (take_more uses i no_use lt, take_more sizes i (pos 0) lt')
    (lowered_push test (take i uses) (take i sizes) (get_or uses i no_use) (get_or sizes i (pos 0))
    (omega (arith, length-take-le i uses (omega arith), length-take-le i sizes (omega arith))))

-- ---- a use by its ends

again : (end : Option ℕ) → (end ≡ Some 0 → ⊥) → end_given (unwrap_or end 0) ≡ end
again None some = refl
again (Some zero) some = absurd (some refl)
again (Some (suc v)) some = rw (ne_eqb (suc v) 0 (λ e. absurd (omega (arith, e)))) refl

-- no end is task 0
abbrev IsNamed : Use → Type 0
IsNamed u = (u.from ≡ Some 0 → ⊥) × (u.to ≡ Some 0 → ⊥)

module _ (n : ℕ) where
  named_uses : (from : Option ℕ) (readers : List ℕ) → (from ≡ Some 0 → ⊥) → All (IsAmong n) readers → All IsNamed (uses_for from readers)
  named_uses from [] some among =
      All-cons IsNamed (let u : Use = record { from = from; to = None } in u) [] (some, λ e. cc) (All-nil IsNamed)
  named_uses from (c ∷ cs) some among = each (c ∷ cs) among where
    each : (readers : List ℕ) → All (IsAmong n) readers → All IsNamed (map (λ reader. let u : Use = record { from = from; to = Some reader } in u) readers)
    each [] among = All-nil IsNamed
    each (d ∷ ds) among =
        All-cons IsNamed (let u : Use = record { from = from; to = Some d } in u) (map (λ reader. let u : Use = record { from = from; to = Some reader } in u) ds)
        (some, λ e. (let zero_d : d ≡ 0 = cc in absurd (omega (arith, zero_d, (All-head (IsAmong n) d ds among).0))))
        (each ds (All-tail (IsAmong n) d ds among))

  all_named : (items : List SharedItem) → All (IsSharedItemWithin n) items → All IsNamed (uses_of items)
  all_named [] within = All-nil IsNamed
  all_named (x ∷ items) within =
      let item = All-head (IsSharedItemWithin n) x items within in
      All-append IsNamed (item_uses x) (uses_of items)
      (named_uses x.from x.readers (λ e. absurd (omega (arith, (item.producer 0 e).0))) item.readers)
      (all_named items (All-tail (IsSharedItemWithin n) x items within))

module _ (system : SharedTaskSystem) (within : IsSharedSystem system) (uses : UseTable) (are : AreUses system uses) (k : ℕ) (lt : k < length (uses_of system.items)) where
  pub use_again : (maker taker : ℕ) → maker ≡ get_or uses.makers.items k 0 → taker ≡ get_or uses.takers.items k 0
      → (let u : Use = record { from = end_given maker; to = end_given taker } in u ≡ get_or (uses_of system.items) k no_use)
  use_again maker taker maker_is taker_is =
      let all = uses_of system.items in
      let a_use = get_or all k no_use in
      let apart = all_named (length system.tasks) system.items within.items k no_use lt in
      let from = ap end_given (maker_is ∙ end_at maker_of all uses.makers.items k are.makers lt) ∙ again a_use.from apart.0 in
      let to = ap end_given (taker_is ∙ end_at taker_of all uses.takers.items k are.takers lt) ∙ again a_use.to apart.1 in
      let one : ◌≡◌ {A = Use} (record { from = end_given maker; to = end_given taker }) (record { from = a_use.from; to = end_given taker }) = ap (λ (o : Option ℕ). let u : Use = record { from = o; to = end_given taker } in u) from in
      one ∙ ap (λ (o : Option ℕ). let u : Use = record { from = a_use.from; to = o } in u) to
