-- A postorder, by spans of places.
use Rattle.std.proofs.Common.{sym, ◌∙◌, subst, ap, ◌+◌, ◌-◌, ◌≡◌, ◌≢◌, ◌↔◌, ◌⊎◌, inl, inr, ℕ, zero}
use Rattle.std.proofs.Common.{suc, ◌<◌, ◌≤◌, arith, refl, List, [], ◌∷◌, length, get_or}
use Rattle.std.proofs.lemmas.List.{length-append}
use Rattle.std.proofs.lemmas.Bool.{cases_eq, cases_lt}
use Rattle.postorder_best.specs.BestPostorder.{children_peak, subtrees_of}
use Rattle.postorder_best.specs.Postorder.{Member, IsUnder, self, step, StandsTogether}
use Rattle.postorder_best.specs.Rows.{Once, sum_out}
use Rattle.postorder_best.proofs.Forest.{Rooted, top, raise, IsNode}
use Rattle.postorder_best.proofs.Places.{at_member, place_of, one_place, middle_member, middle_place}

pub under_trans : {parent : ℕ → ℕ} {a b c : ℕ} → IsUnder parent a b → IsUnder parent b c → IsUnder parent a c
under_trans self q = q
under_trans (step pos p) q = step pos (under_trans p q)

-- of two nodes above one, one is above the other
pub under_one : {parent : ℕ → ℕ} {y c d : ℕ} → IsUnder parent y c → IsUnder parent y d → IsUnder parent c d ⊎ IsUnder parent d c
under_one self q = inl q
under_one (step pos p) self = inr (step pos p)
under_one (step pos p) (step pos' q) = under_one p q

pub under_top : {parent : ℕ → ℕ} {x : ℕ} → Rooted parent x → IsUnder parent x 0
under_top top = self
under_top (raise pos r) = step pos (under_top r)

-- the child of x on the way up from y
pub child_on : {parent : ℕ → ℕ} {y x : ℕ} → IsUnder parent y x → y ≢ x → (c : ℕ) × IsUnder parent y c × (parent c ≡ x) × (0 < c)
child_on self ne = absurd (ne refl)
child_on {parent} {y} {x} (step pos q) ne =
    elim (cases_eq (parent y) x) [
      | inl e ↦ (y, self, e, pos)
      | inr np ↦ let r = child_on q np in (r.0, step pos r.1, r.2, r.3)
    ]

-- blocks of children of x that fill the places from p to e, in this order
pub data Chain (n : ℕ) (parent lo hi : ℕ → ℕ) (x e : ℕ) : ℕ → List ℕ → Type 0 where
  done : Chain n parent lo hi x e e []
  block : {c : ℕ} {cs : List ℕ} → IsNode n c → parent c ≡ x → Chain n parent lo hi x e (hi c) cs → Chain n parent lo hi x e (lo c) (c ∷ cs)

-- the list has each number below n once, 0 among them; children before their parents; each subtree together
module _ (n : ℕ) (parent : ℕ → ℕ) (order : List ℕ)
    (inside : (x : ℕ) → 0 < x → x < n → parent x < n)
    (once : Once order)
    (all : (x : ℕ) → (x < n) ↔ Member x order)
    (early : (i j : ℕ) → i < length order → j < length order → 0 < get_or order i 0 → parent (get_or order i 0) ≡ get_or order j 0 → i < j)
    (together : (x : ℕ) → x < n → StandsTogether parent order x) where
  pub closed : (y c : ℕ) → IsUnder parent y c → y < n → c < n
  closed y c self l = l
  closed y c (step pos p) l = closed (parent y) c p (inside y pos l)

  nothing : (z : ℕ) → n ≤ z → StandsTogether parent order z
  nothing z ge = record {
    before = [];
    block = [];
    after = order;
    parts = refl;
    exact = λ y. (λ m. absurd m, λ m. let l = closed y z m.1 ((all y).1 m.0) in absurd (omega arith));
  }

  pub part : (z : ℕ) → StandsTogether parent order z
  part z = elim (cases_lt z n) [ inl l ↦ together z l | inr g ↦ nothing z g ]

  pub lo : ℕ → ℕ
  lo x = length (part x).before

  pub hi : ℕ → ℕ
  hi x = length (part x).before + length (part x).block

  unfoldable pub task : ℕ → ℕ
  task k = get_or order k 0

  pub real : (k : ℕ) → k < length order → task k < n
  unfolding task
  real k l = (all (get_or order k 0)).1 (at_member order k l)

  lengths : (x : ℕ) → length order ≡ length (part x).before + (length (part x).block + length (part x).after)
  lengths x = ap length (part x).parts ∙ simp (length-append, length-append) refl

  pub high : (x : ℕ) → hi x ≤ length order
  unfolding hi
  high x = let e = lengths x in omega arith

  pub inner : (x k : ℕ) → lo x ≤ k → k < hi x → IsUnder parent (task k) x
  unfolding lo hi task
  inner x k low lt =
      let p = part x in
      let m = middle_member p.before p.block p.after k low lt in
      let m' : Member (get_or order k 0) p.block = subst (λ v. Member (get_or v k 0) p.block) (sym p.parts) m in
      ((p.exact (get_or order k 0)).0 m').1

  pub outer : (x k : ℕ) → k < length order → IsUnder parent (task k) x → (lo x ≤ k) × (k < hi x)
  unfolding lo hi task
  outer x k l u =
      let p = part x in
      let m = (p.exact (get_or order k 0)).1 (at_member order k l, u) in
      let q = middle_place (get_or order k 0) p.before p.block p.after m in
      let at : get_or order q.0 0 ≡ get_or order k 0 = ap (λ v. get_or v q.0 0) p.parts ∙ q.3 in
      let h : length p.before + length p.block ≤ length order = high x in
      let lt = q.2 in
      let le = q.1 in
      let e = one_place order q.0 k once (omega arith) l at in
      (omega arith, omega arith)

  -- whoever is below stands before
  pub later : (i j : ℕ) → i < length order → j < length order → IsUnder parent (task i) (task j) → i ≤ j
  unfolding task
  later i j li lj u = go (get_or order i 0) (get_or order j 0) i u li lj refl refl
    where
      go : (a b i : ℕ) → IsUnder parent a b → i < length order → j < length order → get_or order i 0 ≡ a → get_or order j 0 ≡ b → i ≤ j
      go a b i self li lj ea eb = let e = one_place order i j once li lj (ea ∙ sym eb) in omega arith
      go a b i (step pos p) li lj ea eb =
          let q = place_of (parent a) order
          ((all (parent a)).0 (inside a pos (subst (λ v. v < n) ea ((all (get_or order i 0)).1 (at_member order i li))))) in
          let lt = early i q.0 li q.1 (subst (λ v. 0 < v) (sym ea) pos) (ap parent ea ∙ sym q.2) in
          let r = go (parent a) b q.0 p q.1 lj q.2 eb in
          omega arith

  pub rises : (c : ℕ) → 0 < c → c < n → IsUnder parent (parent c) c → ⊥
  unfolding task
  rises c pos l u =
      let p = place_of c order ((all c).0 l) in
      let q = place_of (parent c) order ((all (parent c)).0 (inside c pos l)) in
      let lt = early p.0 q.0 p.1 q.1 (subst (λ v. 0 < v) (sym p.2) pos) (ap parent p.2 ∙ sym q.2) in
      let le = later q.0 p.0 q.1 p.1
      (subst (λ v. IsUnder parent v (get_or order p.0 0)) (sym q.2) (subst (λ v. IsUnder parent (parent c) v) (sym p.2) u)) in
      omega arith

  pub acyclic : (c : ℕ) → 0 < c → c < n → c ≢ parent c
  acyclic c pos l e = rises c pos l (subst (λ v. IsUnder parent v c) e self)

  pub own : (x : ℕ) → x < n → task (hi x - 1) ≡ x
  unfolding lo hi task
  own x l =
      let p = place_of x order ((all x).0 l) in
      let s = outer x p.0 p.1 (subst (λ v. IsUnder parent v x) (sym p.2) self) in
      let s0 : length (part x).before ≤ p.0 = s.0 in
      let s1 : p.0 < length (part x).before + length (part x).block = s.1 in
      let h : length (part x).before + length (part x).block ≤ length order = high x in
      let k = length (part x).before + length (part x).block - 1 in
      let u = inner x k (omega arith) (omega arith) in
      let le = later k p.0 (omega arith) p.1 (subst (λ v. IsUnder parent (get_or order k 0) v) (sym p.2) u) in
      let e : k ≡ p.0 = omega arith in
      ap (λ v. get_or order v 0) e ∙ p.2

  pub bounds : (x : ℕ) → x < n → (lo x < hi x) × (hi x ≤ length order)
  unfolding lo hi task
  bounds x l =
      let p = place_of x order ((all x).0 l) in
      let s = outer x p.0 p.1 (subst (λ v. IsUnder parent v x) (sym p.2) self) in
      let s0 : length (part x).before ≤ p.0 = s.0 in
      let s1 : p.0 < length (part x).before + length (part x).block = s.1 in
      (omega arith, high x)

  pub own_place : (x k : ℕ) → k < length order → task k ≡ x → k + 1 ≡ hi x
  unfolding lo hi task
  own_place x k l e =
      let lx : x < n = subst (λ v. v < n) e (real k l) in
      let b = bounds x lx in
      let b0 : length (part x).before < length (part x).before + length (part x).block = b.0 in
      let b1 : length (part x).before + length (part x).block ≤ length order = b.1 in
      let r = one_place order k (length (part x).before + length (part x).block - 1) once l (omega arith) (e ∙ sym (own x lx)) in
      omega arith

  pub siblings : (y c d : ℕ) → 0 < c → c < n → 0 < d → d < n → IsUnder parent y c → IsUnder parent y d → parent c ≡ parent d → c ≡ d
  siblings y c d pc lc pd ld uc ud e =
      elim (under_one uc ud) [
        | inl cd ↦ upper c d cd pd ld e
        | inr dc ↦ sym (upper d c dc pc lc (sym e))
      ]
    where
      upper : (c d : ℕ) → IsUnder parent c d → 0 < d → d < n → parent c ≡ parent d → c ≡ d
      upper c d self pd ld e = refl
      upper c d (step pos p) pd ld e = absurd (rises d pd ld (subst (λ v. IsUnder parent v d) e p))

  -- ---- the blocks of the children of a node

  ends : (c x : ℕ) → IsNode n c → x < n → parent c ≡ x → hi c < hi x
  ends c x pc px e =
      let b = bounds c pc.1 in
      let t = own c pc.1 in
      let up : IsUnder parent (task (hi c - 1)) x =
      subst (λ v. IsUnder parent v x) (sym t) (step pc.0 (subst (λ v. IsUnder parent v x) (sym e) self)) in
      let w = (outer x (hi c - 1) (omega arith) up).1 in
      let ne : hi c ≢ hi x = λ q. acyclic c pc.0 pc.1 (sym t ∙ ap (λ v. task (v - 1)) q ∙ own x px ∙ sym e) in
      omega arith

  -- from a place where a block may begin, blocks of children follow to the end
  chain : (m x p : ℕ) → x < n → hi x ≤ p + suc m → lo x ≤ p → p < hi x → ((d : ℕ) → IsNode n d → parent d ≡ x → hi d ≤ p ⊎ (p ≤ lo d))
      → (cs : List ℕ) × Chain n parent lo hi x (hi x - 1) p cs
  chain zero x p pos le low high begins =
      let e : p ≡ hi x - 1 = omega arith in ([], subst (λ v. Chain n parent lo hi x (hi x - 1) v []) (sym e) done)
  chain (suc m) x p pos le low high begins =
      let b = bounds x pos in
      elim (cases_eq p (hi x - 1)) [
        | inl e ↦ ([], subst (λ v. Chain n parent lo hi x (hi x - 1) v []) (sym e) done)
        | inr ne ↦
            let pl : p < length order = omega arith in
            let above = inner x p low high in
            let child = child_on above (λ q. let w = own_place x p pl q in omega arith) in
            let node = closed (task p) child.0 child.1 (real p pl) in
            let c = child.0 in
            let inside_c = outer child.0 p pl child.1 in
            let here : lo child.0 ≡ p = elim (begins child.0 (child.3, node) child.2) [
              | inl l ↦ absurd (let w = inside_c.1 in omega arith)
              | inr l ↦ let w = inside_c.0 in omega arith
            ] in
            let z = ends child.0 x (child.3, node) pos child.2 in
            let bc = bounds child.0 node in
            let rest = chain m x (hi child.0) pos (omega arith) (omega arith) z (λ d pd ed.
            elim (cases_eq d child.0) [
              | inl q ↦ inl (subst (λ v. hi v ≤ hi child.0) (sym q) (omega arith))
              | inr nq ↦ elim (begins d pd ed) [
                | inl l ↦ inl (omega arith)
                | inr l ↦ elim (cases_lt (lo d) (hi child.0)) [
                  | inl w ↦
                      let bd = bounds d pd.1 in
                      let ld : lo d < length order = omega arith in
                      let s1 = inner child.0 (lo d) (omega arith) w in
                      let s2 = inner d (lo d) (omega arith) (omega arith) in
                      absurd (nq (siblings (task (lo d)) d child.0 pd.0 pd.1 child.3 node s2 s1 (ed ∙ sym child.2)))
                  | inr w ↦ inr w
                ]
              ]
            ]) in (
              child.0 ∷ rest.0,
              subst (λ v. Chain n parent lo hi x (hi x - 1) v (child.0 ∷ rest.0)) here
                  (block {c = child.0} {cs = rest.0} (child.3, node) child.2 rest.1),
            )
      ]

  child_low : (c x : ℕ) → IsNode n c → x < n → parent c ≡ x → lo x ≤ lo c
  child_low d x pd pos ed =
      let bd = bounds d pd.1 in
      let s = inner d (lo d) (omega arith) (omega arith) in
      (outer x (lo d) (omega arith) (under_trans s (step pd.0 (subst (λ v. IsUnder parent v x) (sym ed) self)))).0

  pub blocks : (x : ℕ) → x < n → (cs : List ℕ) × Chain n parent lo hi x (hi x - 1) (lo x) cs
  blocks x pos = let b = bounds x pos in
      chain (hi x) x (lo x) pos (omega arith) (omega arith) (omega arith) (λ d pd ed. inr (child_low d x pd pos ed))

  -- ---- the blocks are the children, each once

  chain_member : (x e p : ℕ) (cs : List ℕ) → Chain n parent lo hi x e p cs
      → (c : ℕ) → Member c cs → (p ≤ lo c) × (parent c ≡ x) × IsNode n c
  chain_member x e p cs done c m = absurd m
  chain_member x e p cs (block {c = b} {cs = bs} pos up q) c m =
      let w = bounds b pos.1 in
      elim m [
        | inl z ↦ (rw z (omega arith), ap parent z ∙ up, subst (λ v. IsNode n v) (sym z) pos)
        | inr r ↦ let k = chain_member x e (hi b) bs q c r in let l = k.0 in (omega arith, k.1, k.2)
      ]

  chain_once : (x e p : ℕ) (cs : List ℕ) → Chain n parent lo hi x e p cs → Once cs
  chain_once x e p cs done = tt
  chain_once x e p cs (block {c = b} {cs = bs} pos up q) =
      let w = bounds b pos.1 in
      (λ m. let k = (chain_member x e (hi b) bs q b m).0 in absurd (omega arith), chain_once x e (hi b) bs q)

  chain_covers : (x e p : ℕ) (cs : List ℕ) → Chain n parent lo hi x e p cs
      → (d : ℕ) → IsNode n d → parent d ≡ x → p ≤ lo d → lo d < e → Member d cs
  chain_covers x e p cs done d pos up le lt = absurd (omega arith)
  chain_covers x e p cs (block {c = b} {cs = bs} pb ub q) d pos up le lt =
      elim (cases_lt (lo d) (hi b)) [
        | inl l ↦ inl (
            let bd = bounds d pos.1 in
            let s1 = inner d (lo d) (omega arith) (omega arith) in
            let s2 = inner b (lo d) le l in
            siblings (task (lo d)) d b pos.0 pos.1 pb.0 pb.1 s1 s2 (up ∙ sym ub))
        | inr l ↦ inr (chain_covers x e (hi b) bs q d pos up l lt)
      ]

  pub covers : (x : ℕ) (cs : List ℕ) → x < n → Chain n parent lo hi x (hi x - 1) (lo x) cs
      → Once cs × ((d : ℕ) → Member d cs ↔ (IsNode n d × (parent d ≡ x)))
  covers x cs pos q = (
    chain_once x (hi x - 1) (lo x) cs q,
    λ d. (
      (λ m. let k = chain_member x (hi x - 1) (lo x) cs q d m in (k.2, k.1)),
      (λ h.
          let b = bounds d h.0.1 in
          let z = ends d x h.0 pos h.1 in
          chain_covers x (hi x - 1) (lo x) cs q d h.0 h.1 (child_low d x h.0 pos h.1) (omega arith)),
    ),
  )

  -- ---- with memory mem k before the place k, and the need and the out of each task
  module _ (mem need out best : ℕ → ℕ)
      (settles : (x : ℕ) (cs : List ℕ) → x < n → Once cs → ((d : ℕ) → Member d cs ↔ (IsNode n d × (parent d ≡ x)))
      → mem (hi x) + sum_out out cs ≡ mem (hi x - 1) + out x)
      (least : (x : ℕ) (cs : List ℕ) → x < n → Once cs → ((d : ℕ) → Member d cs ↔ (IsNode n d × (parent d ≡ x)))
      → best x ≤ children_peak (need x) (subtrees_of best out cs)) where
    -- a block leaves its root's out, and reaches its best peak
    abbrev pub Block : ℕ → Type 0
    Block x = (mem (hi x) ≡ mem (lo x) + out x) × ((k : ℕ) × (lo x ≤ k) × (k < hi x) × (mem (lo x) + best x ≤ mem k + need (task k)))

    along : (x e p : ℕ) (cs : List ℕ) → Chain n parent lo hi x e p cs → task e ≡ x → ((c : ℕ) → IsNode n c → parent c ≡ x → Block c)
        → (mem e ≡ mem p + sum_out out cs)
        × ((k : ℕ) × (p ≤ k) × (k ≤ e) × (mem p + children_peak (need x) (subtrees_of best out cs) ≤ mem k + need (task k))) × (p ≤ e)
    along x e p cs done t each = (omega arith, (e, omega arith, omega arith, rw t (omega arith)), omega arith)
    along x e p cs (block {c = c} {cs = cs'} pc ec q) t each =
        let r = along x e (hi c) cs' q t each in
        let b = each c pc ec in
        let k1 = b.1 in
        let k2 = r.1 in
        let low = (bounds c pc.1).0 in
        let a = b.0 in
        let a' = r.0 in
        let le = r.2 in
        let rest : ℕ = children_peak (need x) (subtrees_of best out cs') in (
          omega arith,
          elim (cases_lt (best c) (out c + children_peak (need x) (subtrees_of best out cs'))) [
            | inl l ↦ let u = k2.1 in let v = k2.3 in (k2.0, omega arith, k2.2, omega arith)
            | inr l ↦ let u = k1.2 in let v = k1.3 in (k1.0, k1.1, omega arith, omega arith)
          ],
          omega arith,
        )

    pub no_lower : (m x : ℕ) → hi x ≤ lo x + m → x < n → Block x
    no_lower zero x le pos = let b = (bounds x pos).0 in absurd (omega arith)
    no_lower (suc m) x le pos =
        let b = bounds x pos in
        let cs = blocks x pos in
        let r = along x (hi x - 1) (lo x) cs.0 cs.1 (own x pos) (λ c pc ec.
        let z = ends c x pc pos ec in
        let l = child_low c x pc pos ec in
        no_lower m c (omega arith) pc.1) in
        let a = r.0 in
        let k = r.1 in
        let co = covers x cs.0 pos cs.1 in
        let s = settles x cs.0 pos co.0 co.1 in
        let l = least x cs.0 pos co.0 co.1 in
        let hi_k = k.2 in
        let v = k.3 in
        (omega arith, (k.0, k.1, omega arith, omega arith))
