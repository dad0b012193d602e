-- The listing of a forest by rows is a postorder.
use Rattle.std.proofs.Common.{◌≡◌, ◌≢◌, ◌∙◌, ◌↔◌, inl, inr, sym, ap, subst, ℕ, zero, suc, ◌-◌, ◌<◌}
use Rattle.std.proofs.Common.{◌≤◌, List, [], ◌∷◌, ◌++◌, length, get_or, arith, refl, append_assoc}
use Rattle.std.proofs.lemmas.List.{length-append}
use Rattle.std.proofs.lemmas.Bool.{cases_eq, cases_lt}
use Rattle.postorder_best.specs.BestPostorder.{Listed, node, ListedAll, none, more}
use Rattle.postorder_best.specs.Postorder.{Member, IsUnder, self, step, StandsTogether}
use Rattle.postorder_best.specs.Rows.{Once}
use Rattle.postorder_best.proofs.Forest.{IsNode, Rooted, top, raise, IsForest, IsPostorder}
use Rattle.postorder_best.proofs.Places.{member_left, member_right, member_parts, at_member}
use Rattle.postorder_best.proofs.Spans.{under_trans, under_one, under_top, child_on}
use Rattle.postorder_best.proofs.Least.{at_front}
use Rattle.lists.proofs.Lists.{append_nil as nil_right}

-- no way up comes back
pub no_cycle : {parent : ℕ → ℕ} {y : ℕ} → Rooted parent y → 0 < y → IsUnder parent (parent y) y → ⊥
no_cycle top pos u = absurd (omega arith)
no_cycle {parent} (raise {x = y} p r) pos u = go (parent y) y (λ q w. no_cycle r q w) p u refl refl
  where
    go : (a b : ℕ) → (0 < parent y → IsUnder parent (parent (parent y)) (parent y) → ⊥)
        → 0 < y → IsUnder parent a b → a ≡ parent y → b ≡ y → ⊥
    go a b rec p self ea eb =
        let e : y ≡ parent y = sym eb ∙ ea in
        rec (subst (λ v. 0 < v) e p) (subst (λ v. IsUnder parent v (parent y)) (ap parent e) self)
    go a b rec p (step q w) ea eb =
        let w' : IsUnder parent (parent (parent y)) y =
        subst (λ v. IsUnder parent (parent (parent y)) v) eb (subst (λ v. IsUnder parent (parent v) b) ea w) in
        rec (subst (λ v. 0 < v) ea q) (under_trans w' (step p self))

pub pos_under : {parent : ℕ → ℕ} {a d : ℕ} → IsUnder parent a d → 0 < d → 0 < a
pos_under self p = p
pos_under (step q w) p = q

at_back : (xs ys : List ℕ) (k : ℕ) → length xs ≤ k → get_or (xs ++ ys) k 0 ≡ get_or ys (k - length xs) 0
at_back [] ys k l = let e : k - 0 ≡ k = omega arith in ap (λ v. get_or ys v 0) (sym e)
at_back (x ∷ xs) ys zero l = absurd (omega arith)
at_back (x ∷ xs) ys (suc k) l = let e : suc k - length (x ∷ xs) ≡ k - length xs = omega arith in
    at_back xs ys k (omega arith) ∙ ap (λ v. get_or ys v 0) (sym e)

once_join : (xs ys : List ℕ) → Once xs → Once ys → ((z : ℕ) → Member z xs → Member z ys → ⊥) → Once (xs ++ ys)
once_join [] ys ox oy apart = oy
once_join (x ∷ xs) ys ox oy apart = (
  λ m. elim (member_parts x xs ys m) [ inl a ↦ ox.0 a | inr b ↦ apart x (inl refl) b ],
  once_join xs ys ox.1 oy (λ z a b. apart z (inr a) b),
)

-- the first of a pair stands before the second
abbrev Early : (ℕ → ℕ) → List ℕ → Type 0
Early parent o = (i j : ℕ) → i < length o → j < length o → parent (get_or o i 0) ≡ get_or o j 0 → i < j

early_join : (parent : ℕ → ℕ) (xs ys : List ℕ) → Early parent xs → Early parent ys
    → ((a b : ℕ) → Member a ys → Member b xs → parent a ≡ b → ⊥) → Early parent (xs ++ ys)
early_join parent xs ys ex ey apart i j li lj e =
    let len = length-append xs ys in
    elim (cases_lt i (length xs)) [
      | inl fi ↦ elim (cases_lt j (length xs)) [
        | inl fj ↦ ex i j fi fj (ap parent (sym (at_front xs ys i fi)) ∙ e ∙ at_front xs ys j fj)
        | inr gj ↦ omega arith
      ]
      | inr gi ↦ (
          let ei = at_back xs ys i gi in
          elim (cases_lt j (length xs)) [
            | inl fj ↦
                absurd (apart (get_or ys (i - length xs) 0) (get_or xs j 0) (at_member ys (i - length xs) (omega arith))
                (at_member xs j fj) (ap parent (sym ei) ∙ e ∙ at_front xs ys j fj))
            | inr gj ↦
                (let r = ey (i - length xs) (j - length xs) (omega arith) (omega arith) (ap parent (sym ei) ∙ e ∙ at_back xs ys j gj) in
                omega arith)
          ]
          )
    ]

module _ (n : ℕ) (parent : ℕ → ℕ) (kids : ℕ → List ℕ) (forest : IsForest n parent)
    (exact : (x : ℕ) → x < n → (c : ℕ) → Member c (kids x) ↔ (IsNode n c × (parent c ≡ x)))
    (once_kids : (x : ℕ) → x < n → Once (kids x)) where
  abbrev pub Below : ℕ → List ℕ → Type 0
  Below y cs = (c : ℕ) × Member c cs × IsUnder parent y c

  -- the nodes of cs are children of x, each once
  abbrev pub Row : ℕ → List ℕ → Type 0
  Row x cs = ((c : ℕ) → Member c cs → IsNode n c × (parent c ≡ x)) × Once cs

  pub row_of : (x : ℕ) → x < n → Row x (kids x)
  row_of x l = (λ c m. (exact x l c).0 m, once_kids x l)

  pub row_tail : (x c : ℕ) (cs : List ℕ) → Row x (c ∷ cs) → Row x cs
  row_tail x c cs r = (λ d m. r.0 d (inr m), r.1.1)

  same_child : (z c d x : ℕ) → IsNode n c → IsNode n d → parent c ≡ x → parent d ≡ x → IsUnder parent z c → IsUnder parent z d → c ≡ d
  same_child z c d x nc nd pc pd uc ud = elim (under_one uc ud) [
    | inl cd ↦ climb c d cd nd (pc ∙ sym pd)
    | inr dc ↦ sym (climb d c dc nc (pd ∙ sym pc))
  ]
    where
      climb : (c d : ℕ) → IsUnder parent c d → IsNode n d → parent c ≡ parent d → c ≡ d
      climb c d self nd e = refl
      climb c d (step pos p) nd e = absurd (no_cycle (forest.rooted d nd.1) nd.0 (subst (λ v. IsUnder parent v d) e p))

  pub apart_rows : (x c : ℕ) (cs : List ℕ) → Row x (c ∷ cs) → (z : ℕ) → IsUnder parent z c → Below z cs → ⊥
  apart_rows x c cs r z uc b =
      let nc = r.0 c (inl refl) in
      let nd = r.0 b.0 (inr b.1) in
      r.1.0 (subst (λ v. Member v cs) (sym (same_child z c b.0 x nc.0 nd.0 nc.1 nd.1 uc b.2)) b.1)

  mutual
    pub one_members : (x : ℕ) (o : List ℕ) → Listed kids x o → x < n → (y : ℕ) → Member y o ↔ ((y < n) × IsUnder parent y x)
    one_members x o (node {x = x'} {o = p} all) l y =
        let rec = all_members x' (kids x') p all l (row_of x' l) y in (
          (λ m. elim (member_parts y p (x' ∷ []) m) [
            | inl a ↦ (let b = rec.0 a in (
              b.0,
              under_trans b.1.2 (let k = (exact x' l b.1.0).0 b.1.1 in step k.0.0 (subst (λ v. IsUnder parent v x') (sym k.1) self)),
            ))
            | inr b ↦ elim b [ inl e ↦ (subst (λ v. v < n) (sym e) l, subst (λ v. IsUnder parent v x') (sym e) self) | inr z ↦ absurd z ]
          ]),
          (λ h. elim (cases_eq y x') [
            | inl e ↦ member_right y p (x' ∷ []) (inl e)
            | inr ne ↦ (
                let c = child_on h.1 ne in
                let low = climb_inside y c.0 c.1 h.0 in
                member_left y p (x' ∷ []) (rec.1 (h.0, (c.0, (exact x' l c.0).1 ((c.3, low), c.2), c.1)))
                )
          ]),
        )
      where
        climb_inside : (y c : ℕ) → IsUnder parent y c → y < n → c < n
        climb_inside y c self ly = ly
        climb_inside y c (step pos p) ly = climb_inside (parent y) c p (forest.inside y (pos, ly))

    pub all_members : (x : ℕ) (cs o : List ℕ) → ListedAll kids cs o → x < n → Row x cs → (y : ℕ) → Member y o ↔ ((y < n) × Below y cs)
    all_members x cs o none l r y = (λ m. absurd m, λ h. h.1.1)
    all_members x cs o (more {c = c} {cs = ds} {o = p} {os = q} first others) l r y =
        let one = one_members c p first (r.0 c (inl refl)).0.1 y in
        let rec = all_members x ds q others l (row_tail x c ds r) y in (
          (λ m. elim (member_parts y p q m) [
            | inl a ↦ (let b = one.0 a in (b.0, (c, inl refl, b.1)))
            | inr a ↦ (let b = rec.0 a in (b.0, (b.1.0, inr b.1.1, b.1.2)))
          ]),
          (λ h. elim h.1.1 [
            | inl e ↦ member_left y p q (one.1 (h.0, subst (λ v. IsUnder parent y v) e h.1.2))
            | inr m ↦ member_right y p q (rec.1 (h.0, (h.1.0, m, h.1.2)))
          ]),
        )

  mutual
    pub one_once : (x : ℕ) (o : List ℕ) → Listed kids x o → IsNode n x → Once o
    one_once x o (node {x = x'} {o = p} all) nx =
        once_join p (x' ∷ []) (all_once x' (kids x') p all nx.1 (row_of x' nx.1)) (λ m. absurd m, tt) (λ z a b. elim b [
          | inl e ↦ (
              let w = ((all_members x' (kids x') p all nx.1 (row_of x' nx.1) z).0 a).1 in
              let k = (exact x' nx.1 w.0).0 w.1 in
              no_cycle (forest.rooted w.0 k.0.1) k.0.0 (subst (λ v. IsUnder parent v w.0) (e ∙ sym k.1) w.2)
              )
          | inr z ↦ absurd z
        ])

    pub all_once : (x : ℕ) (cs o : List ℕ) → ListedAll kids cs o → x < n → Row x cs → Once o
    all_once x cs o none l r = tt
    all_once x cs o (more {c = c} {cs = ds} {o = p} {os = q} first others) l r =
        once_join p q (one_once c p first (r.0 c (inl refl)).0) (all_once x ds q others l (row_tail x c ds r)) (λ z a b.
        apart_rows x c ds r z ((one_members c p first (r.0 c (inl refl)).0.1 z).0 a).1
        ((all_members x ds q others l (row_tail x c ds r) z).0 b).1)

  mutual
    one_early : (x : ℕ) (o : List ℕ) → Listed kids x o → IsNode n x → Early parent o
    one_early x o (node {x = x'} {o = p} all) nx =
        early_join parent p (x' ∷ []) (all_early x' (kids x') p all nx.1 (row_of x' nx.1))
        (λ i j li lj e. let zi : i ≡ 0 = omega arith in let zj : j ≡ 0 = omega arith in
        absurd (no_cycle (forest.rooted x' nx.1) nx.0 (subst (λ v. IsUnder parent v x')
        (sym (ap (λ k. parent (get_or (x' ∷ []) k 0)) (sym zi) ∙ e ∙ ap (λ k. get_or (x' ∷ []) k 0) zj)) self)))
        (λ a b ma mb e. elim ma [
          | inl ea ↦ (
              let w = ((all_members x' (kids x') p all nx.1 (row_of x' nx.1) b).0 mb).1 in
              let k = (exact x' nx.1 w.0).0 w.1 in
              let up : IsUnder parent b x' = under_trans w.2 (step k.0.0 (subst (λ v. IsUnder parent v x') (sym k.1) self)) in
              no_cycle (forest.rooted x' nx.1) nx.0 (subst (λ v. IsUnder parent v x') (sym e ∙ ap parent ea) up)
              )
          | inr z ↦ absurd z
        ])

    all_early : (x : ℕ) (cs o : List ℕ) → ListedAll kids cs o → x < n → Row x cs → Early parent o
    all_early x cs o none l r = λ i j li lj e. absurd (omega arith)
    all_early x cs o (more {c = c} {cs = ds} {o = p} {os = q} first others) l r =
        early_join parent p q (one_early c p first (r.0 c (inl refl)).0) (all_early x ds q others l (row_tail x c ds r)) (λ a b ma mb e.
        let ua = (all_members x ds q others l (row_tail x c ds r) a).0 ma in
        let ub = (one_members c p first (r.0 c (inl refl)).0.1 b).0 mb in
        let d = r.0 ua.1.0 (inr ua.1.1) in
        apart_rows x c ds r a (step (pos_under ua.1.2 d.0.0) (subst (λ v. IsUnder parent v c) (sym e) ub.1)) ua.1)

  -- ---- each subtree stands together

  mutual
    one_together : (x : ℕ) (o : List ℕ) → Listed kids x o → IsNode n x → (z : ℕ) → z < n → IsUnder parent z x → StandsTogether parent o z
    one_together x o (node {x = x'} {o = p} all) nx z lz u = elim (cases_eq z x') [
      | inl e ↦ record {
        before = [];
        block = p ++ x' ∷ [];
        after = [];
        parts = sym (nil_right (p ++ x' ∷ []));
        exact =
            λ y. ((λ m. (m, subst (λ v. IsUnder parent y v) (sym e) ((one_members x' (p ++ x' ∷ []) (node all) nx.1 y).0 m).1)), λ h. h.0);
      }
      | inr ne ↦ (
          let c = child_on u ne in
          let m = ((one_members x' (p ++ x' ∷ []) (node all) nx.1 z).1 (lz, u)) in
          let mp : Member z p =
          elim (member_parts z p (x' ∷ []) m) [ inl a ↦ a | inr b ↦ elim b [ inl e ↦ absurd (ne e) | inr w ↦ absurd w ] ] in
          let t = all_together x' (kids x') p all nx.1 (row_of x' nx.1) z lz
          ((all_members x' (kids x') p all nx.1 (row_of x' nx.1) z).0 mp).1 in
          record {
            before = t.before;
            block = t.block;
            after = t.after ++ x' ∷ [];
            parts = ap (λ v. v ++ x' ∷ []) t.parts ∙ append_assoc t.before (t.block ++ t.after) (x' ∷ [])
                ∙ ap (λ v. t.before ++ v) (append_assoc t.block t.after (x' ∷ []));
            exact = λ y. (
              (λ k. let h = (t.exact y).0 k in (member_left y p (x' ∷ []) h.0, h.1)),
              (λ h. elim (member_parts y p (x' ∷ []) h.0) [
                | inl a ↦ (t.exact y).1 (a, h.1)
                | inr b ↦ elim b [
                  | inl e ↦ absurd (back_up x' z nx ne (subst (λ v. IsUnder parent v z) e h.1) u)
                  | inr w ↦ absurd w
                ]
              ]),
            );
          }
          )
    ]
      where
        back_up : (x z : ℕ) → IsNode n x → z ≢ x → IsUnder parent x z → IsUnder parent z x → ⊥
        back_up x z nx ne self u = ne refl
        back_up x z nx ne (step pos w) u = no_cycle (forest.rooted x nx.1) nx.0 (under_trans w u)

    all_together : (x : ℕ) (cs o : List ℕ) → ListedAll kids cs o → x < n
        → Row x cs → (z : ℕ) → z < n → Below z cs → StandsTogether parent o z
    all_together x cs o none l r z lz b = absurd b.1
    all_together x cs o (more {c = c} {cs = ds} {o = p} {os = q} first others) l r z lz b = elim b.1 [
      | inl e ↦ (
          let u : IsUnder parent z c = subst (λ v. IsUnder parent z v) e b.2 in
          let t = one_together c p first (r.0 c (inl refl)).0 z lz u in
          record {
            before = t.before;
            block = t.block;
            after = t.after ++ q;
            parts = ap (λ v. v ++ q) t.parts ∙ append_assoc t.before (t.block ++ t.after) q
                ∙ ap (λ v. t.before ++ v) (append_assoc t.block t.after q);
            exact = λ y. (
              (λ k. let h = (t.exact y).0 k in (member_left y p q h.0, h.1)),
              (λ h. elim (member_parts y p q h.0) [
                | inl a ↦ (t.exact y).1 (a, h.1)
                | inr a ↦ absurd (apart_rows x c ds r y (under_trans h.1 u) ((all_members x ds q others l (row_tail x c ds r) y).0 a).1)
              ]),
            );
          }
          )
      | inr m ↦ (
          let t = all_together x ds q others l (row_tail x c ds r) z lz (b.0, m, b.2) in
          record {
            before = p ++ t.before;
            block = t.block;
            after = t.after;
            parts = ap (λ v. p ++ v) t.parts ∙ sym (append_assoc p t.before (t.block ++ t.after));
            exact = λ y. (
              (λ k. let h = (t.exact y).0 k in (member_right y p q h.0, h.1)),
              (λ h. elim (member_parts y p q h.0) [
                | inl a ↦
                    absurd (apart_rows x c ds r y ((one_members c p first (r.0 c (inl refl)).0.1 y).0 a).1 (b.0, m, under_trans h.1 b.2))
                | inr a ↦ (t.exact y).1 (a, h.1)
              ]),
            );
          }
          )
    ]

  -- the listing of the roots is a postorder
  pub is_postorder : (order : List ℕ) → ListedAll kids (kids 0) order → IsPostorder n parent order
  is_postorder order all =
      let some = forest.some in
      let row = row_of 0 some in
      let members = λ (y : ℕ). all_members 0 (kids 0) order all some row y in
      record {
        traversal = record {
          once = all_once 0 (kids 0) order all some row;
          all = λ x. (
            (λ nx. (members x).1 (nx.1, root_of x nx)),
            (λ m. let b = (members x).0 m in (pos_under b.1.2 ((exact 0 some b.1.0).0 b.1.1).0.0, b.0)),
          );
          early = all_early 0 (kids 0) order all some row;
        };
        together = λ x nx. all_together 0 (kids 0) order all some row x nx.1 (root_of x nx);
      }
    where
      inside_up : (y c : ℕ) → IsUnder parent y c → y < n → c < n
      inside_up y c self ly = ly
      inside_up y c (step pos p) ly = inside_up (parent y) c p (forest.inside y (pos, ly))

      root_of : (x : ℕ) → IsNode n x → Below x (kids 0)
      root_of x nx =
          let ne : x ≢ 0 = (let p = nx.0 in omega arith) in
          let c = child_on (under_top (forest.rooted x nx.1)) ne in
          (c.0, (exact 0 forest.some c.0).1 ((c.3, inside_up x c.0 c.1 nx.1), c.2), c.1)
