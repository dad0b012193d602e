-- Reads and writes of tables of lists.
use Rattle.std.proofs.Common.{◌≡◌, ◌≢◌, ap, ℕ, zero, suc, ◌<◌, List, [], ◌∷◌, length, get_or, set, arith, refl, ◌++◌}
use Rattle.std.specs.Prelude.{Vec}
use Rattle.std.specs.declared.alloc.Global.{Global}
use Rattle.elimination.specs.Quotients.{inner_at}

pub list_here : (lists : List (Vec ℕ Global)) (x : ℕ) (v : Vec ℕ Global) → x < length lists → inner_at (set lists x v) x ≡ v.items
list_here [] x v lt = absurd (omega arith)
list_here (r ∷ rs) zero v lt = refl
list_here (r ∷ rs) (suc x) v lt = list_here rs x v (omega arith)

pub list_other : (lists : List (Vec ℕ Global)) (x y : ℕ) (v : Vec ℕ Global) → y ≢ x → inner_at (set lists x v) y ≡ inner_at lists y
list_other [] x y v ne = refl
list_other (r ∷ rs) zero zero v ne = absurd (ne refl)
list_other (r ∷ rs) zero (suc y) v ne = refl
list_other (r ∷ rs) (suc x) zero v ne = refl
list_other (r ∷ rs) (suc x) (suc y) v ne = list_other rs x y v (λ e. ne (ap (λ n. suc n) e))

pub list_get : (lists : List (Vec ℕ Global)) (x : ℕ) (d : Vec ℕ Global) → x < length lists → (get_or lists x d).items ≡ inner_at lists x
list_get [] x d lt = absurd (omega arith)
list_get (r ∷ rs) zero d lt = refl
list_get (r ∷ rs) (suc x) d lt = list_get rs x d (omega arith)

pub lists_push : (lists : List (Vec ℕ Global)) (v : Vec ℕ Global) (y : ℕ) → v.items ≡ [] → inner_at lists y ≡ []
    → inner_at (lists ++ v ∷ []) y ≡ []
lists_push [] v zero e h = e
lists_push [] v (suc y) e h = refl
lists_push (r ∷ rs) v zero e h = h
lists_push (r ∷ rs) v (suc y) e h = lists_push rs v y e h
