-- A stack emits the listing backwards.
use Rattle.std.proofs.Common.{◌≡◌, ◌∙◌, sym, ap, ap₂, subst, ℕ, suc, ◌<◌, List, [], ◌∷◌, ◌++◌, length, arith, refl, append_assoc, inl}
use Rattle.std.proofs.lemmas.List.{length-append}
use Rattle.postorder_best.specs.BestPostorder.{Listed, node, ListedAll, none, more}
use Rattle.postorder_best.specs.Postorder.{Member}
use Rattle.postorder_best.specs.Rows.{Emits, stop, pop}
use Rattle.postorder_best.proofs.Places.{member_left, member_right}
use Rattle.lists.proofs.Lists.{append_nil}

-- the list backwards
abbrev pub back : List ℕ → List ℕ
back [] = []
back (x ∷ xs) = back xs ++ x ∷ []

pub back_append : (xs ys : List ℕ) → back (xs ++ ys) ≡ back ys ++ back xs
back_append [] ys = sym (append_nil (back ys))
back_append (x ∷ xs) ys = ap (λ v. v ++ x ∷ []) (back_append xs ys) ∙ append_assoc (back ys) (back xs) (x ∷ [])

mutual
  emits_one : (n : ℕ) (kids : ℕ → List ℕ) (x : ℕ) (o s e : List ℕ) → Listed kids x o
      → ((y : ℕ) → Member y o → y < n) → Emits n kids s e → Emits n kids (s ++ x ∷ []) (back o ++ e)
  emits_one n kids x o s e (node {x = y} {o = os} all) low rest =
      let r = emits_all n kids (kids y) os s e all (λ z m. low z (member_left z os (y ∷ []) m)) rest in
      let is : y ∷ (back os ++ e) ≡ back (os ++ y ∷ []) ++ e = ap (λ v. v ++ e) (sym (back_append os (y ∷ []))) in
      subst (λ v. Emits n kids (s ++ y ∷ []) v) is
      (pop {t = s ++ y ∷ []} {e = back os ++ e} {x = y} s (low y (member_right y os (y ∷ []) (inl refl))) refl r)

  emits_all : (n : ℕ) (kids : ℕ → List ℕ) (cs o s e : List ℕ) → ListedAll kids cs o
      → ((y : ℕ) → Member y o → y < n) → Emits n kids s e → Emits n kids (s ++ cs) (back o ++ e)
  emits_all n kids cs o s e none low rest = subst (λ v. Emits n kids v e) (sym (append_nil s)) rest
  emits_all n kids cs o s e (more {c = c} {cs = ds} {o = p} {os = q} first others) low rest =
      let r = emits_one n kids c p s e first (λ z m. low z (member_left z p q m)) rest in
      let t = emits_all n kids ds q (s ++ c ∷ []) (back p ++ e) others (λ z m. low z (member_right z p q m)) r in
      let stack : (s ++ c ∷ []) ++ ds ≡ s ++ c ∷ ds = append_assoc s (c ∷ []) ds in
      let list : back q ++ (back p ++ e) ≡ back (p ++ q) ++ e =
      sym (append_assoc (back q) (back p) e) ∙ ap (λ v. v ++ e) (sym (back_append p q)) in
      subst (λ v. Emits n kids v (back (p ++ q) ++ e)) stack (subst (λ v. Emits n kids ((s ++ c ∷ []) ++ ds) v) list t)

pub emits_listing : (n : ℕ) (kids : ℕ → List ℕ) (cs o : List ℕ)
    → ListedAll kids cs o → ((y : ℕ) → Member y o → y < n) → Emits n kids cs (back o)
emits_listing n kids cs o all low = subst (λ v. Emits n kids cs v) (append_nil (back o)) (emits_all n kids cs o [] [] all low stop)

-- ---- a stack that emits e: its turns

pub one_end : (s t : List ℕ) (x y : ℕ) → s ++ x ∷ [] ≡ t ++ y ∷ [] → (s ≡ t) × (x ≡ y)
one_end [] [] x y e = (refl, cc)
one_end [] (b ∷ t) x y e = let l = ap length e ∙ ap suc (length-append t (y ∷ [])) in absurd (omega arith)
one_end (a ∷ s) [] x y e = let l = ap length e in let k = ap suc (length-append s (x ∷ [])) in absurd (omega arith)
one_end (a ∷ s) (b ∷ t) x y e =
    let tails : s ++ x ∷ [] ≡ t ++ y ∷ [] = cc in
    let heads : a ≡ b = cc in
    let r = one_end s t x y tails in (ap₂ (λ h v. h ∷ v) heads r.0, r.1)

pub pops : (n : ℕ) (kids : ℕ → List ℕ) (t s e : List ℕ) (x : ℕ) → t ≡ s ++ x ∷ []
    → Emits n kids t e → (x < n) × ((rest : List ℕ) × (e ≡ x ∷ rest) × Emits n kids (s ++ kids x) rest)
pops n kids t s e x is stop = let l = ap length is ∙ length-append s (x ∷ []) in absurd (omega arith)
pops n kids t s e x is (pop {e = e'} {x = y} s' lt is' q) =
    let both = one_end s' s y x (sym is' ∙ is) in (
      subst (λ v. v < n) both.1 lt,
      (
        e',
        ap (λ v. v ∷ e') both.1,
        subst (λ v. Emits n kids (s ++ kids v) e') both.1 (subst (λ v. Emits n kids (v ++ kids y) e') both.0 q),
      ),
    )

pub ended : (n : ℕ) (kids : ℕ → List ℕ) (t e : List ℕ) → t ≡ [] → Emits n kids t e → e ≡ []
ended n kids t e is stop = refl
ended n kids t e is (pop {x = x} s lt is' q) = let l = ap length (sym is' ∙ is) in let k = length-append s (x ∷ []) in absurd (omega arith)
