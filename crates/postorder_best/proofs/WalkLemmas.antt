-- Rows that are exact can be walked.
use Rattle.std.proofs.Common.{◌≡◌, ◌↔◌, ℕ, ◌<◌, ◌≤◌, List, [], ◌∷◌, length, arith, refl}
use Rattle.std.proofs.lemmas.List.{length-append}
use Rattle.postorder_best.specs.BestPostorder.{ListedAll}
use Rattle.postorder_best.specs.Postorder.{Member}
use Rattle.postorder_best.specs.Rows.{Once, Emits}
use Rattle.postorder_best.proofs.Forest.{IsNode, IsForest}
use Rattle.postorder_best.proofs.Listings.{all_members, all_once, row_of}
use Rattle.postorder_best.proofs.Exists.{has_listing, few_once}
use Rattle.postorder_best.proofs.Emitting.{back, emits_listing}

back_length : (xs : List ℕ) → length (back xs) ≡ length xs
back_length [] = refl
back_length (x ∷ xs) = let r = back_length xs in let a = length-append (back xs) (x ∷ []) in omega arith

pub walk_ready : (n : ℕ) (parent : ℕ → ℕ) (kids : ℕ → List ℕ) (forest : IsForest n parent)
    → ((x : ℕ) → x < n → (c : ℕ) → Member c (kids x) ↔ (IsNode n c × (parent c ≡ x)))
    → ((x : ℕ) → x < n → Once (kids x)) → (o : List ℕ) × ListedAll kids (kids 0) o × Emits n kids (kids 0) (back o) × (length (back o) ≤ n)
walk_ready n parent kids forest exact once =
    let l = has_listing n parent kids forest exact in
    let row = row_of n parent kids forest exact once 0 forest.some in
    let low = λ (y : ℕ) (m : Member y l.0). ((all_members n parent kids forest exact once 0 (kids 0) l.0 l.1 forest.some row y).0 m).0 in
    let few = few_once n l.0 (all_once n parent kids forest exact once 0 (kids 0) l.0 l.1 forest.some row) low in
    let same = back_length l.0 in
    (l.0, l.1, emits_listing n kids (kids 0) l.0 l.1 low, omega arith)
