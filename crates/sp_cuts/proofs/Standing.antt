-- Parts that stand for terms make one that stands for their composition, and the plan's order is that of its part.
use Rattle.std.proofs.Common.{◌≡◌, ℕ, ◌+◌, ◌≤◌, max, List, [], ◌∷◌, ◌++◌, ap, sym, ◌∙◌, arith, subst}
use Rattle.std.specs.List.{range_with_len}
use Rattle.mp_system.specs.Memory.{peak_of}
use Rattle.mp_system.specs.Traversal.{IsTraversal, IsLeast}
use Rattle.sp_terms.specs.SystemOfTerm.{task_count, system_of_term}
use Rattle.mp_system.specs.declared.system.Task.{Task}
use Rattle.sp_terms.specs.Term.{Term, series, IsAllowed, hill_of, initial_of, final_of}
use Rattle.cut_laws.specs.Cuts.{Cut, series_cut, front_peak, back_peak, order_of}
use Rattle.cut_laws.specs.Names.{names_of, numbered}
use Rattle.cut_laws.specs.Standing.{StandsFor}
use Rattle.cut_laws.specs.TermCuts.{cut_of_term}
use Rattle.sp_cuts.specs.declared.parts.Part.{Part}
use Rattle.sp_cuts.specs.Parts.{cut_of, hill_between, CanJoin}

pub series_stands : ((a : Term) (v : Task) (b : Term) (na nb : List ℕ) (x : ℕ) (ca cb : Cut) → IsAllowed (series a v b)
    → StandsFor a na ca → StandsFor b nb cb → StandsFor (series a v b) (na ++ (nb ++ x ∷ [])) (series_cut ca x (hill_of a v b) cb))
    → (lists : List (List ℕ)) (pa : Part) (v : Task) (pb : Part) (name : ℕ) (c : Cut)
    → CanJoin pa v pb → c ≡ series_cut (cut_of lists pa) name (hill_between pa v pb) (cut_of lists pb)
    → (a b : Term) (na nb : List ℕ) → IsAllowed a → IsAllowed b → StandsFor a na (cut_of lists pa)
    → StandsFor b nb (cut_of lists pb) → StandsFor (series a v b) (na ++ (nb ++ name ∷ [])) c
series_stands law lists pa v pb name c joins e a b na nb ha hb sa sb =
    let i = joins.inputs in let o = joins.outputs in let fa = sa.final in let ib = sb.initial in
    let hi : hill_of a v b ≡ hill_between pa v pb = omega arith in
    let allowed : IsAllowed (series a v b) =
    (let x : v.share ≤ final_of a = omega arith in x, let x : v.share ≤ v.extra + initial_of b = omega arith in x, ha, hb) in
    subst (StandsFor (series a v b) (na ++ (nb ++ name ∷ [])))
    (ap (λ (n : ℕ). series_cut (cut_of lists pa) name n (cut_of lists pb)) hi ∙ sym e)
    (law a v b na nb name (cut_of lists pa) (cut_of lists pb) allowed sa sb)

pub plan_stands : (t : Term) (c : Cut) → names_of t (numbered 1 t) ≡ range_with_len 1 (task_count t)
    → c ≡ cut_of_term t (numbered 1 t) → StandsFor t (names_of t (numbered 1 t)) (cut_of_term t (numbered 1 t))
    → StandsFor t (range_with_len 1 (task_count t)) c
plan_stands t c n e s = subst (λ (x : Cut). StandsFor t (range_with_len 1 (task_count t)) x)
    (sym e) (subst (λ (l : List ℕ). StandsFor t l (cut_of_term t (numbered 1 t))) n s)

pub plan_leads : ((t : Term) (c : Cut) → StandsFor t (range_with_len 1 (task_count t)) c
    → IsTraversal (system_of_term t) (order_of c) × (peak_of (system_of_term t) (order_of c) ≡ max (front_peak c) (back_peak c)))
    → (t : Term) (c : Cut) (order : List ℕ) (peak : ℕ) → StandsFor t (range_with_len 1 (task_count t)) c
    → order ≡ order_of c → peak ≡ max (front_peak c) (back_peak c)
    → IsTraversal (system_of_term t) order × (peak_of (system_of_term t) order ≡ peak)
plan_leads law t c order peak s o p = let h = law t c s in
    (subst (IsTraversal (system_of_term t)) (sym o) h.0, ap (peak_of (system_of_term t)) o ∙ h.1 ∙ sym p)

pub plan_least : (t : Term) (c : Cut) (peak : ℕ) → StandsFor t (range_with_len 1 (task_count t)) c
    → peak ≡ max (front_peak c) (back_peak c) → IsLeast (system_of_term t) peak
plan_least t c peak s p = subst (IsLeast (system_of_term t)) (sym p) s.least
