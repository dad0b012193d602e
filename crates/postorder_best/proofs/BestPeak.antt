-- The listing by rows reaches the best peak and no more.
use Rattle.std.proofs.Common.{◌≡◌, ◌↔◌, inl, inr, sym, ap, subst, ℕ, ◌+◌, ◌<◌, ◌≤◌, max, List, [], ◌∷◌, ◌++◌, arith, refl, append_assoc}
use Rattle.postorder_best.specs.BestPostorder.{children_peak, subtrees_of, Listed, node, ListedAll, none, more}
use Rattle.postorder_best.specs.Postorder.{Member, IsUnder, self, step}
use Rattle.postorder_best.specs.Rows.{Once, sum_out}
use Rattle.postorder_best.proofs.Forest.{IsNode, IsForest, IsPostorder, memory, peak_from, IsBestAt}
use Rattle.postorder_best.proofs.Places.{member_left, member_right, member_parts}
use Rattle.postorder_best.proofs.Spans.{under_trans}
use Rattle.postorder_best.proofs.Listings.{one_members, all_members, no_cycle, apart_rows, is_postorder}
use Rattle.postorder_best.proofs.Steps.{IsNext, memory-step, total_none}
use Rattle.postorder_best.proofs.Least.{sum_children, best_is_least}
use Rattle.lists.proofs.Lists.{append_nil as nil_right}

-- each task of the list, run after those before, stays within b
abbrev pub Within : ℕ → (ℕ → ℕ) → (ℕ → ℕ) → (ℕ → ℕ) → ℕ → List ℕ → List ℕ → Type 0
Within n parent out need b done [] = Unit {0}
Within n parent out need b done (v ∷ vs) = (memory n parent out done + need v ≤ b) × Within n parent out need b (done ++ v ∷ []) vs

within_join : (n : ℕ) (parent out need : ℕ → ℕ) (b : ℕ) (done xs ys : List ℕ) → Within n parent out need b done xs
    → Within n parent out need b (done ++ xs) ys → Within n parent out need b done (xs ++ ys)
within_join n parent out need b done [] ys wx wy = subst (λ v. Within n parent out need b v ys) (nil_right done) wy
within_join n parent out need b done (x ∷ xs) ys wx wy = (
  wx.0,
  within_join n parent out need b (done ++ x ∷ []) xs ys wx.1
      (subst (λ v. Within n parent out need b v ys) (sym (append_assoc done (x ∷ []) xs)) wy),
)

within_more : (n : ℕ) (parent out need : ℕ → ℕ) (a b : ℕ) (done xs : List ℕ)
    → a ≤ b → Within n parent out need a done xs → Within n parent out need b done xs
within_more n parent out need a b done [] le w = tt
within_more n parent out need a b done (x ∷ xs) le w =
    (let h = w.0 in omega arith, within_more n parent out need a b (done ++ x ∷ []) xs le w.1)

-- the peak of the whole, from its running tasks and its last state
pub peak_within : (n : ℕ) (parent out need : ℕ → ℕ) (b : ℕ) (done xs : List ℕ) → Within n parent out need b done xs
    → memory n parent out (done ++ xs) ≤ b → peak_from n parent out need done xs ≤ b
peak_within n parent out need b done [] w last = let e = ap (memory n parent out) (nil_right done) in omega arith
peak_within n parent out need b done (x ∷ xs) w last =
    let e = ap (memory n parent out) (append_assoc done (x ∷ []) xs) in
    let r = peak_within n parent out need b (done ++ x ∷ []) xs w.1 (omega arith) in
    let h = w.0 in
    omega arith

-- the peak of a part is no more than that of the whole
peak_start : (n : ℕ) (parent out need : ℕ → ℕ) (done ys : List ℕ) → memory n parent out done ≤ peak_from n parent out need done ys
peak_start n parent out need done [] = omega arith
peak_start n parent out need done (y ∷ ys) = omega arith

peak_left : (n : ℕ) (parent out need : ℕ → ℕ) (done xs ys : List ℕ)
    → peak_from n parent out need done xs ≤ peak_from n parent out need done (xs ++ ys)
peak_left n parent out need done [] ys = peak_start n parent out need done ys
peak_left n parent out need done (x ∷ xs) ys = let r = peak_left n parent out need (done ++ x ∷ []) xs ys in omega arith

peak_right : (n : ℕ) (parent out need : ℕ → ℕ) (done xs ys : List ℕ)
    → peak_from n parent out need (done ++ xs) ys ≤ peak_from n parent out need done (xs ++ ys)
peak_right n parent out need done [] ys = let e = ap (λ v. peak_from n parent out need v ys) (nil_right done) in omega arith
peak_right n parent out need done (x ∷ xs) ys =
    let r = peak_right n parent out need (done ++ x ∷ []) xs ys in
    let e = ap (λ v. peak_from n parent out need v ys) (append_assoc done (x ∷ []) xs) in
    omega arith

pub row_above : (need : ℕ) (best out : ℕ → ℕ) (cs : List ℕ) → need + sum_out out cs ≤ children_peak need (subtrees_of best out cs)
row_above need best out [] = omega arith
row_above need best out (c ∷ cs) = let r = row_above need best out cs in omega arith

module _ (n : ℕ) (parent out need best : ℕ → ℕ) (kids : ℕ → List ℕ) (forest : IsForest n parent) (zero_out : out 0 ≡ 0)
    (best_at : (x : ℕ) → x < n → IsBestAt n parent out need best kids x) where
  exact : (x : ℕ) → x < n → (c : ℕ) → Member c (kids x) ↔ (IsNode n c × (parent c ≡ x))
  exact x l c = (best_at x l).exact c

  once_kids : (x : ℕ) → x < n → Once (kids x)
  once_kids x l = (best_at x l).once

  abbrev Closed : List ℕ → Type 0
  Closed done = (w : ℕ) → IsNode n w → Member (parent w) done → Member w done

  abbrev Upper : ℕ → List ℕ → Type 0
  Upper y cs = (c : ℕ) × Member c cs × IsUnder parent y c

  abbrev Fits : ℕ → List ℕ → Type 0
  Fits x cs = ((c : ℕ) → Member c cs → IsNode n c × (parent c ≡ x)) × Once cs

  -- with every node below the row listed after done, whoever has its parent there stands there
  closed_all : (x : ℕ) (cs o done : List ℕ) → ListedAll kids cs o → x < n → Fits x cs → Closed done → Closed (done ++ o)
  closed_all x cs o done all l r closed w nw m = elim (member_parts (parent w) done o m) [
    | inl a ↦ member_left w done o (closed w nw a)
    | inr a ↦ (
        let h = (all_members n parent kids forest exact once_kids x cs o all l r (parent w)).0 a in
        member_right w done o
        ((all_members n parent kids forest exact once_kids x cs o all l r w).1 (nw.1, (h.1.0, h.1.1, step nw.0 h.1.2)))
        )
  ]

  closed_one : (x : ℕ) (o done : List ℕ) → Listed kids x o → x < n → Closed done → Closed (done ++ o)
  closed_one x o done one l closed w nw m = elim (member_parts (parent w) done o m) [
    | inl a ↦ member_left w done o (closed w nw a)
    | inr a ↦ (
        let h = (one_members n parent kids forest exact once_kids x o one l (parent w)).0 a in
        member_right w done o ((one_members n parent kids forest exact once_kids x o one l w).1 (nw.1, step nw.0 h.1))
        )
  ]

  mutual
    one_peak : (x : ℕ) (o done : List ℕ) → Listed kids x o → IsNode n x
        → Closed done → ((y : ℕ) → y < n → IsUnder parent y x → Member y done → ⊥)
        → Within n parent out need (memory n parent out done + best x) done o
        × (memory n parent out (done ++ o) ≡ memory n parent out done + out x)
    one_peak x o done (node {x = x'} {o = p} all) nx closed fresh =
        let row : Fits x' (kids x') = (λ c m. (exact x' nx.1 c).0 m, once_kids x' nx.1) in
        let below = all_members n parent kids forest exact once_kids x' (kids x') p all nx.1 row in
        let under_x = λ (y : ℕ) (h : Upper y (kids x')). let k = (exact x' nx.1 h.0).0 h.1 in
        under_trans h.2 (step k.0.0 (subst (λ v. IsUnder parent v x') (sym k.1) self)) in
        let q = all_peak x' (kids x') p done all nx.1 row closed (λ y l h. fresh y l (under_x y h)) in
        let b = best_at x' nx.1 in
        let peak = b.peak in
        let above = row_above (need x') best out (kids x') in
        let next : IsNext n parent (done ++ p) x' = record {
          new = λ m. elim (member_parts x' done p m) [
            | inl a ↦ fresh x' nx.1 self a
            | inr a ↦
                (let h = (below x').0 a in let k = (exact x' nx.1 h.1.0).0 h.1.1 in
                no_cycle (forest.rooted h.1.0 k.0.1) k.0.0 (subst (λ v. IsUnder parent v h.1.0) (sym k.1) h.1.2))
          ];
          children = λ w nw e. member_right w done p ((below w).1 (nw.1, (w, (exact x' nx.1 w).1 (nw, e), self)));
          above = λ pos m. elim (member_parts (parent x') done p m) [
            | inl a ↦ fresh x' nx.1 self (closed x' nx a)
            | inr a ↦ (let h = (below (parent x')).0 a in no_cycle (forest.rooted x' nx.1) nx.0 (under_x (parent x') h.1))
          ];
          before = closed_all x' (kids x') p done all nx.1 row closed;
        } in
        let s = memory-step n parent out (done ++ p) x' nx.1 zero_out next in
        let t = sum_children n parent out x' (kids x') zero_out b.once b.exact in
        let e = ap (memory n parent out) (append_assoc done p (x' ∷ [])) in
        let m = q.1 in (
          within_join n parent out need (memory n parent out done + best x') done p (x' ∷ [])
              (within_more n parent out need (memory n parent out done + children_peak (need x') (subtrees_of best out (kids x')))
              (memory n parent out done + best x') done p (omega arith) q.0) (omega arith, tt),
          omega arith,
        )

    all_peak : (x : ℕ) (cs o done : List ℕ) → ListedAll kids cs o → x < n
        → Fits x cs → Closed done → ((y : ℕ) → y < n → Upper y cs → Member y done → ⊥)
        → Within n parent out need (memory n parent out done + children_peak (need x) (subtrees_of best out cs)) done o
        × (memory n parent out (done ++ o) ≡ memory n parent out done + sum_out out cs)
    all_peak x cs o done none l r closed fresh = (tt, let e = ap (memory n parent out) (nil_right done) in omega arith)
    all_peak x cs o done (more {c = c} {cs = ds} {o = p} {os = q} first others) l r closed fresh =
        let nc = (r.0 c (inl refl)).0 in
        let tail : Fits x ds = (λ d m. r.0 d (inr m), r.1.1) in
        let one = one_peak c p done first nc closed (λ y ly u. fresh y ly (c, inl refl, u)) in
        let rest =
        all_peak x ds q (done ++ p) others l tail (closed_one c p done first nc.1 closed) (λ y ly h m. elim (member_parts y done p m) [
          | inl a ↦ fresh y ly (h.0, inr h.1, h.2) a
          | inr a ↦ apart_rows n parent kids forest exact once_kids x c ds r y
              ((one_members n parent kids forest exact once_kids c p first nc.1 y).0 a).1 h
        ]) in
        let a = one.1 in
        let b = rest.1 in
        let e = ap (memory n parent out) (append_assoc done p q) in
        let row : ℕ = children_peak (need x) (subtrees_of best out ds) in (
          within_join n parent out need (memory n parent out done + children_peak (need x) (subtrees_of best out (c ∷ ds))) done p q
              (within_more n parent out need (memory n parent out done + best c)
              (memory n parent out done + children_peak (need x) (subtrees_of best out (c ∷ ds))) done p (omega arith) one.0)
              (within_more n parent out need (memory n parent out (done ++ p) + children_peak (need x) (subtrees_of best out ds))
              (memory n parent out done + children_peak (need x) (subtrees_of best out (c ∷ ds))) (done ++ p) q (omega arith) rest.0),
          omega arith,
        )

  nothing_yet : memory n parent out [] ≡ 0
  nothing_yet = total_none (λ v. 0) n (λ v l. refl)

  -- the listing's peak is no more than the best
  pub best_reached : (order : List ℕ) → ListedAll kids (kids 0) order → peak_from n parent out need [] order ≤ best 0
  best_reached order all =
      let some = forest.some in
      let row : Fits 0 (kids 0) = (λ c m. (exact 0 some c).0 m, once_kids 0 some) in
      let r = all_peak 0 (kids 0) order [] all some row (λ w nw m. absurd m) (λ y l h m. m) in
      let z = nothing_yet in
      let peak = (best_at 0 some).peak in
      let above = row_above (need 0) best out (kids 0) in
      let last = r.1 in
      peak_within n parent out need (best 0) [] order
      (within_more n parent out need (memory n parent out [] + children_peak (need 0) (subtrees_of best out (kids 0)))
      (best 0) [] order (omega arith) r.0) (omega arith)

  -- the listing is a postorder with the best peak, and no postorder has a lower one
  pub best_theorem : (order : List ℕ) → need 0 ≡ 0 → ListedAll kids (kids 0) order
      → IsPostorder n parent order × (peak_from n parent out need [] order ≡ best 0)
      × ((other : List ℕ) → IsPostorder n parent other → best 0 ≤ peak_from n parent out need [] other)
  best_theorem order zero_need all =
      let post = is_postorder n parent kids forest exact once_kids order all in
      let least = best_is_least n parent out need best kids forest zero_out zero_need best_at in
      let low = least order post in
      let high = best_reached order all in
      (post, omega arith, least)

  -- ---- a subtree that runs alone has its peak

  mutual
    one_reach : (x : ℕ) (o done : List ℕ) → Listed kids x o → IsNode n x
        → Closed done → ((y : ℕ) → y < n → IsUnder parent y x → Member y done → ⊥)
        → memory n parent out done + best x ≤ peak_from n parent out need done o
    one_reach x o done (node {x = x'} {o = p} all) nx closed fresh =
        let row : Fits x' (kids x') = (λ c m. (exact x' nx.1 c).0 m, once_kids x' nx.1) in
        let under_x = λ (y : ℕ) (h : Upper y (kids x')). let k = (exact x' nx.1 h.0).0 h.1 in
        under_trans h.2 (step k.0.0 (subst (λ v. IsUnder parent v x') (sym k.1) self)) in
        let r = all_reach x' (kids x') p done all nx.1 row closed (λ y l h. fresh y l (under_x y h)) in
        let peak = (best_at x' nx.1).peak in
        let left = peak_left n parent out need done p (x' ∷ []) in
        let right = peak_right n parent out need done p (x' ∷ []) in
        omega arith

    all_reach : (x : ℕ) (cs o done : List ℕ) → ListedAll kids cs o → x < n
        → Fits x cs → Closed done → ((y : ℕ) → y < n → Upper y cs → Member y done → ⊥)
        → memory n parent out done + children_peak (need x) (subtrees_of best out cs)
        ≤ max (peak_from n parent out need done o) (memory n parent out (done ++ o) + need x)
    all_reach x cs o done none l r closed fresh = let e = ap (memory n parent out) (nil_right done) in omega arith
    all_reach x cs o done (more {c = c} {cs = ds} {o = p} {os = q} first others) l r closed fresh =
        let nc = (r.0 c (inl refl)).0 in
        let tail : Fits x ds = (λ d m. r.0 d (inr m), r.1.1) in
        let alone = λ (y : ℕ) (ly : y < n) (u : IsUnder parent y c). fresh y ly (c, inl refl, u) in
        let one = one_reach c p done first nc closed alone in
        let leaves = (one_peak c p done first nc closed alone).1 in
        let rest = all_reach x ds q (done ++ p) others l tail
        (closed_one c p done first nc.1 closed) (λ y ly h m. elim (member_parts y done p m) [
          | inl a ↦ fresh y ly (h.0, inr h.1, h.2) a
          | inr a ↦ apart_rows n parent kids forest exact once_kids x c ds r y
              ((one_members n parent kids forest exact once_kids c p first nc.1 y).0 a).1 h
        ]) in
        let e = ap (memory n parent out) (append_assoc done p q) in
        let left = peak_left n parent out need done p q in
        let right = peak_right n parent out need done p q in
        let row : ℕ = children_peak (need x) (subtrees_of best out ds) in
        let first_peak : ℕ = peak_from n parent out need done p in
        let rest_peak : ℕ = peak_from n parent out need (done ++ p) q in
        let whole : ℕ = peak_from n parent out need done (p ++ q) in
        omega arith

  pub alone_peak : (x : ℕ) (o : List ℕ) → IsNode n x → out x ≤ best x → Listed kids x o → peak_from n parent out need [] o ≡ best x
  alone_peak x o nx high listed =
      let reach = one_reach x o [] listed nx (λ w nw m. absurd m) (λ y l u m. m) in
      let r = one_peak x o [] listed nx (λ w nw m. absurd m) (λ y l u m. m) in
      let z = nothing_yet in
      let last = r.1 in
      let within = peak_within n parent out need (best x) [] o
      (within_more n parent out need (memory n parent out [] + best x) (best x) [] o (omega arith) r.0) (omega arith) in
      omega arith
