-- The tree and the tree with its leaves numbered first are the same up to names.
use Rattle.std.proofs.Common.{◌≡◌, ℕ, zero, suc, [], ◌∷◌, refl, sym, arith}
use Rattle.std.specs.Prelude.{All}
use Rattle.std.proofs.lemmas.List.Elements.{All-nil, All-cons}
use Rattle.mp_system.specs.System.{IsTask}
use Rattle.mp_system.specs.Renaming.{IsRenamed}
use Rattle.mp_system.specs.Samples.{tree, names, leaves_numbered_first, moves, tasks_by_name, items_agree}
use Rattle.mp_system.proofs.Counts.{count_of}

once : (v : ℕ) → IsTask tree v → count_of names v ≡ 1
once zero task = absurd (omega arith)
once (suc zero) task = refl
once (suc (suc zero)) task = refl
once (suc (suc (suc zero))) task = refl
once (suc (suc (suc (suc zero)))) task = refl
once (suc (suc (suc (suc (suc zero))))) task = refl
once (suc (suc (suc (suc (suc (suc v)))))) task = absurd (omega arith)

within : All (IsTask tree) names
within =
    All-cons (IsTask tree) 3 (1 ∷ 4 ∷ 2 ∷ 5 ∷ []) (omega arith, omega arith)
    (All-cons (IsTask tree) 1 (4 ∷ 2 ∷ 5 ∷ []) (omega arith, omega arith)
    (All-cons (IsTask tree) 4 (2 ∷ 5 ∷ []) (omega arith, omega arith)
    (All-cons (IsTask tree) 2 (5 ∷ []) (omega arith, omega arith)
    (All-cons (IsTask tree) 5 [] (omega arith, omega arith)
    (All-nil (IsTask tree))))))

pub tree_renamed : IsRenamed names leaves_numbered_first tree
tree_renamed = record {
  once = once;
  within = within;
  tasks = sym tasks_by_name;
  items = record {
    moves = moves;
    below = (omega arith, omega arith, (omega arith, omega arith, (omega arith, omega arith, tt)));
    is = items_agree;
  };
}
