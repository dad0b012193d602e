use Rattle.std.proofs.Common.{subst, ◌+◌, ℕ, ◌≤◌, List, [], ◌∷◌, ◌++◌, arith}
use Rattle.postorder_best.specs.BestPostorder.{Child, children_peak}
use Rattle.postorder_best.proofs.Forest.{MayPrecede, LeadsAll, IsFalling, Rearranged}

-- two neighbours in the better order
exchange : (need : ℕ) (a b : Child) (cs : List Child) → MayPrecede a b
    → children_peak need (a ∷ (b ∷ cs)) ≤ children_peak need (b ∷ (a ∷ cs))
exchange need a b cs h = let h' : b.peak + a.out ≤ a.peak + b.out = h in omega arith

mono : (need : ℕ) (a : Child) (xs ys : List Child) → children_peak need xs ≤ children_peak need ys
    → children_peak need (a ∷ xs) ≤ children_peak need (a ∷ ys)
mono need a xs ys h = omega arith

-- whoever stands behind those that may precede it gains nothing by going first
to_front : (need : ℕ) (c : Child) (before after : List Child) → IsFalling (before ++ (c ∷ after))
    → children_peak need (before ++ (c ∷ after)) ≤ children_peak need (c ∷ (before ++ after))
to_front need c [] after h = omega arith
to_front need c (a ∷ before) after h =
    let ih = to_front need c before after h.1 in
    let x = mono need a (before ++ (c ∷ after)) (c ∷ (before ++ after)) ih in
    let y = exchange need a c (before ++ after) (leads a before c after h.0) in
    omega arith
  where
    leads : (a : Child) (before : List Child) (c : Child) (after : List Child) → LeadsAll a (before ++ (c ∷ after)) → MayPrecede a c
    leads a [] c after h = h.0
    leads a (b ∷ before) c after h = leads a before c after h.1

drop_one : (before : List Child) (c : Child) (after : List Child) → IsFalling (before ++ (c ∷ after)) → IsFalling (before ++ after)
drop_one [] c after h = h.1
drop_one (a ∷ before) c after h = (leads a before c after h.0, drop_one before c after h.1)
  where
    leads : (a : Child) (before : List Child) (c : Child) (after : List Child)
        → LeadsAll a (before ++ (c ∷ after)) → LeadsAll a (before ++ after)
    leads a [] c after h = h.1
    leads a (b ∷ before) c after h = (h.0, leads a before c after h.1)

-- no order of the subtrees has a lower peak than the falling one
pub falling_least : (need : ℕ) (ys xs : List Child) → IsFalling xs → Rearranged ys xs → children_peak need xs ≤ children_peak need ys
falling_least need [] xs f r = rw r (omega arith)
falling_least need (y ∷ ys) xs f r =
    let f' = subst IsFalling r.2 f in
    let ih = falling_least need ys (r.0 ++ r.1) (drop_one r.0 y r.1 f') r.3 in
    let x = to_front need y r.0 r.1 f' in
    let z = mono need y (r.0 ++ r.1) ys ih in
    rw r.2 (omega arith)
