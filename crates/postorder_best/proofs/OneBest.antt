-- A tree has one best postorder.
use Rattle.std.proofs.Common.{◌≡◌, ◌∙◌, ◌⊎◌, ◌↔◌, inl, inr, sym, ap, ap₂, subst, ℕ, zero, suc}
use Rattle.std.proofs.Common.{◌+◌, ◌-◌, ◌<◌, ◌≤◌, List, [], ◌∷◌, ◌++◌, length, arith, refl}
use Rattle.trees.specs.declared.node.Node.{Node}
use Rattle.trees.specs.Tree.{IsTree, parent_of_node}
use Rattle.postorder_best.specs.Postorder.{Member}
use Rattle.postorder_best.specs.BestPostorder.{Child, out_at, need_at, children_peak, subtrees_of, ComesBefore, ComesBeforeAll}
use Rattle.postorder_best.specs.BestPostorder.{IsBestRow, Listed, node, ListedAll, none, more, IsBestAt, IsBestPostorder}
use Rattle.postorder_best.proofs.Forest.{IsNode}
use Rattle.postorder_best.proofs.Exists.{weight, lighter}
use Rattle.postorder_best.proofs.TreeLinks.{forest_of}
use Rattle.postorder_best.proofs.OrderLinks.{inner, outer}
use Rattle.postorder_best.proofs.Theorem.{best_once}

-- ---- rows with the same members and the same peaks are the same

leads_along : (p q out : ℕ → ℕ) (a : ℕ) (cs : List ℕ) → p a ≡ q a
    → ((c : ℕ) → Member c cs → p c ≡ q c) → ComesBeforeAll p out a cs → ComesBeforeAll q out a cs
leads_along p q out a [] here same h = tt
leads_along p q out a (c ∷ cs) here same h = (
  subst (λ v. (v - out c < q a - out a) ⊎ ((q a - out a ≡ v - out c) × (a < c))) (same c (inl refl))
      (subst (λ v. (p c - out c < v - out a) ⊎ ((v - out a ≡ p c - out c) × (a < c))) here h.0),
  leads_along p q out a cs here (λ d m. same d (inr m)) h.1,
)

row_along : (p q out : ℕ → ℕ) (cs : List ℕ) → ((c : ℕ) → Member c cs → p c ≡ q c) → IsBestRow p out cs → IsBestRow q out cs
row_along p q out [] same h = tt
row_along p q out (c ∷ cs) same h =
    (leads_along p q out c cs (same c (inl refl)) (λ d m. same d (inr m)) h.0, row_along p q out cs (λ d m. same d (inr m)) h.1)

before_it : (p out : ℕ → ℕ) (a b : ℕ) (cs : List ℕ) → ComesBeforeAll p out a cs → Member b cs → ComesBefore p out a b
before_it p out a b [] h m = absurd m
before_it p out a b (c ∷ cs) h m = elim m [ inl e ↦ subst (λ v. ComesBefore p out a v) (sym e) h.0 | inr r ↦ before_it p out a b cs h.1 r ]

not_both : (g h a b : ℕ) → (h < g) ⊎ ((g ≡ h) × (a < b)) → (g < h) ⊎ ((h ≡ g) × (b < a)) → ⊥
not_both g h a b (inl l) (inl k) = absurd (omega arith)
not_both g h a b (inl l) (inr k) = let e = k.0 in absurd (omega arith)
not_both g h a b (inr l) (inl k) = let e = l.0 in absurd (omega arith)
not_both g h a b (inr l) (inr k) = let e = l.1 in let f = k.1 in absurd (omega arith)

same_row : (p out : ℕ → ℕ) (xs ys : List ℕ) → IsBestRow p out xs → IsBestRow p out ys
    → ((c : ℕ) → Member c xs → Member c ys) → ((c : ℕ) → Member c ys → Member c xs) → xs ≡ ys
same_row p out [] [] bx by to from = refl
same_row p out [] (y ∷ ys) bx by to from = absurd (from y (inl refl))
same_row p out (x ∷ xs) [] bx by to from = absurd (to x (inl refl))
same_row p out (x ∷ xs) (y ∷ ys) bx by to from =
    let heads : x ≡ y = elim (to x (inl refl)) [
      | inl e ↦ e
      | inr mx ↦ elim (from y (inl refl)) [
        | inl e ↦ sym e
        | inr my ↦ absurd (not_both (p x - out x) (p y - out y) x y (before_it p out x y xs bx.0 my) (before_it p out y x ys by.0 mx))
      ]
    ] in
    let ox = best_once p out (x ∷ xs) bx in
    let oy = best_once p out (y ∷ ys) by in
    let tails = same_row p out xs ys bx.1 by.1
    (λ c m. elim (to c (inr m)) [ inl e ↦ absurd (ox.0 (subst (λ v. Member v xs) (e ∙ sym heads) m)) | inr r ↦ r ])
    (λ c m. elim (from c (inr m)) [ inl e ↦ absurd (oy.0 (subst (λ v. Member v ys) (e ∙ heads) m)) | inr r ↦ r ]) in
    ap₂ (λ v (vs : List ℕ). v ∷ vs) heads tails

same_children : (p q out : ℕ → ℕ) (cs : List ℕ) → ((c : ℕ) → Member c cs → p c ≡ q c) → subtrees_of p out cs ≡ subtrees_of q out cs
same_children p q out [] same = refl
same_children p q out (c ∷ cs) same = ap₂ (λ v (xs : List Child). record { peak = v; out = out c } ∷ xs)
    (same c (inl refl)) (same_children p q out cs (λ d m. same d (inr m)))

-- ---- what is listed, taken apart

parts_one : (row : ℕ → List ℕ) (x : ℕ) (o : List ℕ) → Listed row x o → (p : List ℕ) × ListedAll row (row x) p × (o ≡ p ++ x ∷ [])
parts_one row x o (node {o = p} all) = (p, all, refl)

parts_none : (row : ℕ → List ℕ) (cs o : List ℕ) → cs ≡ [] → ListedAll row cs o → o ≡ []
parts_none row cs o e none = refl
parts_none row cs o e (more {c = c} {cs = ds} first others) = absurd (let l = ap length e in omega arith)

parts_more : (row : ℕ → List ℕ) (ds o : List ℕ) (c : ℕ) (cs : List ℕ) → ds ≡ c ∷ cs
    → ListedAll row ds o → (p q : List ℕ) × Listed row c p × ListedAll row cs q × (o ≡ p ++ q)
parts_more row ds o c cs e none = absurd (let l = ap length e in omega arith)
parts_more row ds o c cs e (more {c = d} {cs = es} {o = p} {os = q} first others) =
    let heads : d ≡ c = cc in
    let tails : es ≡ cs = cc in
    (p, q, subst (λ v. Listed row v p) heads first, subst (λ (v : List ℕ). ListedAll row v q) tails others, refl)

module _ (nodes : List Node) (tree : IsTree nodes) (p q : ℕ → ℕ) (row other : ℕ → List ℕ)
    (one : (x : ℕ) → x ≤ length nodes → IsBestAt nodes p row x) (two : (x : ℕ) → x ≤ length nodes → IsBestAt nodes q other x) where
  exact : (x : ℕ) → x < length nodes + 1 → (c : ℕ) → Member c (row x) ↔ (IsNode (length nodes + 1) c × (parent_of_node nodes c ≡ x))
  exact x l c =
      let b = (one x (omega arith)).children c in (
        (λ m. let h = b.0 m in (inner nodes c h.0, h.1)),
        (λ h. b.1 (outer nodes c h.0, h.1)),
      )

  abbrev size : ℕ → ℕ
  size x = weight (length nodes + 1) (parent_of_node nodes) row (forest_of nodes tree) exact x

  agree : (m x : ℕ) → x ≤ length nodes → size x < m → (row x ≡ other x) × (p x ≡ q x)
  agree zero x le lt = absurd (omega arith)
  agree (suc m) x le lt =
      let a = one x le in
      let b = two x le in
      let below = λ (c : ℕ) (k : Member c (row x)).
      let h = (a.children c).0 k in
      let node = h.0 in
      let lighter_c =
      lighter (length nodes + 1) (parent_of_node nodes) row (forest_of nodes tree) exact x c (omega arith) (inner nodes c h.0) h.1 in
      (agree m c node.1 (omega arith)).1 in
      let rows : row x ≡ other x =
      same_row q (out_at nodes) (row x) (other x) (row_along p q (out_at nodes) (row x) below a.in_order) b.in_order
      (λ c k. (b.children c).1 ((a.children c).0 k)) (λ c k. (a.children c).1 ((b.children c).0 k)) in (
        rows,
        a.reaches
            ∙ ap (children_peak (need_at nodes x))
            (same_children p q (out_at nodes) (row x) below ∙ ap (subtrees_of q (out_at nodes)) rows)
            ∙ sym b.reaches,
      )

  same_rows : (x : ℕ) → x ≤ length nodes → row x ≡ other x
  same_rows x le = (agree (suc (size x)) x le (omega arith)).0

  mutual
    same_one : (x : ℕ) (o o' : List ℕ) → x ≤ length nodes → Listed row x o → Listed other x o' → o ≡ o'
    same_one x o o' le (node {x = y} {o = os} all) l =
        let w = parts_one other y o' l in
        ap (λ (v : List ℕ). v ++ y ∷ [])
        (same_all (row y) os w.0 (λ c m. let h = ((one y le).children c).0 m in h.0.1) all
        (subst (λ (v : List ℕ). ListedAll other v w.0) (sym (same_rows y le)) w.1))
        ∙ sym w.2

    same_all : (cs o o' : List ℕ) → ((c : ℕ) → Member c cs → c ≤ length nodes) → ListedAll row cs o → ListedAll other cs o' → o ≡ o'
    same_all cs o o' low none l = sym (parts_none other [] o' refl l)
    same_all cs o o' low (more {c = c} {cs = ds} {o = u} {os = v} first others) l =
        let w = parts_more other (c ∷ ds) o' c ds refl l in
        ap₂ (λ (s t : List ℕ). s ++ t) (same_one c u w.0 (low c (inl refl)) first w.2)
        (same_all ds v w.1 (λ d m. low d (inr m)) others w.3)
        ∙ sym w.4

  pub same_order : (o o' : List ℕ) → ListedAll row (row 0) o → ListedAll other (other 0) o' → o ≡ o'
  same_order o o' l l' =
      same_all (row 0) o o' (λ c m. let h = ((one 0 (omega arith)).children c).0 m in h.0.1) l
      (subst (λ (v : List ℕ). ListedAll other v o') (sym (same_rows 0 (omega arith))) l')

pub one_best : (nodes : List Node) (one two : List ℕ) → IsTree nodes → IsBestPostorder nodes one → IsBestPostorder nodes two → one ≡ two
one_best nodes one two tree a b = same_order nodes tree a.peak b.peak a.row b.row a.each b.each one two a.listed b.listed
