use Rattle.std.proofs.Common.{sym, ◌∙◌, subst, ap, ◌≡◌, ◌≢◌, inl, inr, ℕ, zero, suc, ◌<◌, Bool, IsTrue, arith, refl, cond, ◌==◌}
use Rattle.std.proofs.lemmas.Bool.{cases_eq, cases_order, cond-true, cond-false, eq-eqb, ne_eqb}
use Rattle.ordering.specs.Fill.{IsAdjacency}
use Rattle.elim_tree.specs.Reaches.{Reaches, IsFirstReached}
use Rattle.elim_tree.specs.Forests.{IsGrown, IsOnWay, Covers}
use Rattle.elim_tree.proofs.Fills.{clique}
use Rattle.elim_tree.proofs.Children.{reaches_later, reaches_by_children}

-- the new roots: the tree of c goes under k
pub put_under : (ℕ → ℕ) → ℕ → ℕ → ℕ → ℕ
put_under root c k x = cond (root x == c) k (root x)

pub put_under_there : (root : ℕ → ℕ) (c k x : ℕ) → root x ≡ c → put_under root c k x ≡ k
unfolding put_under
put_under_there root c k x e = cond-true (root x == c) k (root x) (eq-eqb (root x) c e)

pub put_under_not : (root : ℕ → ℕ) (c k x : ℕ) → root x ≢ c → put_under root c k x ≡ root x
unfolding put_under
put_under_not root c k x ne = cond-false (root x == c) k (root x) (ne_eqb (root x) c ne)

pub put_under_same : (root : ℕ → ℕ) (c k x y : ℕ) → root x ≡ root y → put_under root c k x ≡ put_under root c k y
unfolding put_under
put_under_same root c k x y e = ap (λ v. cond (v == c) k v) e

module _ (joined : ℕ → ℕ → Bool) (pattern : IsAdjacency joined) where
  pub covers_up : (x k : ℕ) → Reaches joined x k → Covers joined x k
  covers_up x k h = λ m lt hm. clique joined pattern x k m h hm lt

  module _ (k start : ℕ) (root parent ancestor : ℕ → ℕ) where
    pub way_start : IsGrown joined k root parent ancestor → start < k
        → Reaches joined start k → IsOnWay joined k start start root parent ancestor
    way_start l lt h = record {
      below = lt;
      reach = h;
      same = refl;
      fresh = l.fresh;
      tied = l.tied;
      bare = λ x b e. let f = l.bare x b e in (f.0, f.1, f.2);
      ancestors = λ x b p. let f = l.ancestors x b p in (f.0, f.1, f.2, inl f.3);
    }

    module _ (c : ℕ) (way : IsOnWay joined k start c root parent ancestor) where
      -- the way goes on
      pub way_on : (ancestor' : ℕ → ℕ) → ancestor' c ≡ k → ((x : ℕ) → x ≢ c → ancestor' x ≡ ancestor x)
          → 0 < ancestor c → ancestor c ≢ k → IsOnWay joined k start (ancestor c) root parent ancestor'
      way_on ancestor' here others pos ne =
          let below = way.below in
          let at = way.ancestors c way.below pos in
          record {
            below = omega arith;
            reach = at.2 k (omega arith) way.reach;
            same = elim at.3 [ inl e ↦ sym e ∙ way.same | inr f ↦ absurd (omega arith) ];
            bare = λ x b e. let f = way.bare x b e in
                (f.0, others x (λ q. let z' = subst (λ y. ancestor y ≡ 0) q f.1 in omega arith) ∙ f.1, f.2);
            tied = λ x b p. let f = way.tied x b p in (
              f.0,
              f.1,
              f.2,
              elim (cases_eq x c) [
                | inl q ↦ let z = ap ancestor' q ∙ here in omega arith
                | inr q ↦ let z = others x q in let w = f.3 in omega arith
              ],
            );
            ancestors = λ x b p. elim (cases_eq x c) [
              | inl q ↦ let z = ap ancestor' q ∙ here in (
                omega arith,
                omega arith,
                subst (λ v. Covers joined x v) (sym z) (subst (λ v. Covers joined v k) (sym q) (covers_up c k way.reach)),
                inr (omega arith, z, ap root q ∙ way.same),
              )
              | inr q ↦ let z = others x q in let f = way.ancestors x b (omega arith) in (
                omega arith,
                omega arith,
                subst (λ v. Covers joined x v) (sym z) f.2,
                elim f.3 [ inl e ↦ inl (e ∙ ap root (sym z)) | inr t ↦ inr (omega arith, z ∙ t.1, t.2) ],
              )
            ];
            fresh = λ x b. let f = way.fresh x b in (f.0, others x (omega arith) ∙ f.1, f.2);
          }

      -- the way meets a column that points at k
      pub way_met : ancestor c ≡ k → IsGrown joined k root parent ancestor × (root start ≡ k)
      way_met e =
          let below = way.below in
          let at = way.ancestors c way.below (omega arith) in
          let own : root k ≡ k = (way.fresh k (omega arith)).2 in
          let top : root start ≡ k = elim at.3 [ inl q ↦ sym way.same ∙ q ∙ ap root e ∙ own | inr f ↦ absurd (omega arith) ] in (
            record {
              bare = way.bare;
              tied = way.tied;
              fresh = way.fresh;
              ancestors = λ x b p. let f = way.ancestors x b p in
                  (f.0, f.1, f.2, elim f.3 [ inl q ↦ q | inr t ↦ t.2 ∙ top ∙ sym own ∙ ap root (sym t.1) ]);
            },
            top,
          )

      -- the way ends at the root c, and k becomes its parent
      pub way_end : (parent' ancestor' : ℕ → ℕ) → parent' c ≡ k → ((x : ℕ) → x ≢ c → parent' x ≡ parent x)
          → ancestor' c ≡ k → ((x : ℕ) → x ≢ c → ancestor' x ≡ ancestor x) → ancestor c ≡ 0
          → IsGrown joined k (put_under root c k) parent' ancestor'
          × (put_under root c k start ≡ k) × ((x : ℕ) → root x ≡ k → put_under root c k x ≡ k)
      way_end parent' ancestor' here_p others_p here_j others_j none =
          let below = way.below in
          let lone : parent c ≡ 0 = elim (cases_order (parent c) 0) [
            | inl e ↦ e
            | inr o ↦ elim o [ inl l ↦ absurd (omega arith) | inr l ↦ let f = (way.tied c below l).3 in absurd (omega arith) ]
          ] in
          let b = way.bare c below lone in
          let own : root k ≡ k = (way.fresh k (omega arith)).2 in
          let own' : put_under root c k k ≡ k = put_under_not root c k k (λ q. let r = sym own ∙ q in omega arith) ∙ own in
          let top : put_under root c k c ≡ k = put_under_there root c k c b.0 in (
            record {
              bare = λ x lt e. elim (cases_eq x c) [
                | inl q ↦ let z = ap parent' q ∙ here_p in absurd (omega arith)
                | inr q ↦ let f = way.bare x lt (sym (others_p x q) ∙ e) in
                    (put_under_not root c k x (λ r. q (sym f.0 ∙ r)) ∙ f.0, others_j x q ∙ f.1, f.2)
              ];
              tied = λ x lt p. elim (cases_eq x c) [
                | inl q ↦ let z = ap parent' q ∙ here_p in
                    let zj = ap ancestor' q ∙ here_j in (
                      subst (λ v. IsFirstReached joined x v) (sym z) (subst (λ v. IsFirstReached joined v k) (sym q) (record {
                        reached = λ _. way.reach;
                        least = λ i h. (
                          omega arith,
                          elim (cases_order k i) [
                            | inl e ↦ omega arith
                            | inr o ↦ elim o [ inl l ↦ omega arith | inr l ↦ absurd (b.2 i l h) ]
                          ],
                        );
                      })),
                      omega arith,
                      ap (put_under root c k) q ∙ top ∙ sym own' ∙ ap (put_under root c k) (sym z),
                      omega arith,
                    )
                | inr q ↦ let z = others_p x q in let f = way.tied x lt (omega arith) in
                    let zj = others_j x q in
                    let w = f.3 in (
                      subst (λ v. IsFirstReached joined x v) (sym z) f.0,
                      omega arith,
                      put_under_same root c k x (parent x) f.2 ∙ ap (put_under root c k) (sym z),
                      omega arith,
                    )
              ];
              ancestors = λ x lt p. elim (cases_eq x c) [
                | inl q ↦ let z = ap ancestor' q ∙ here_j in (
                  omega arith,
                  omega arith,
                  subst (λ v. Covers joined x v) (sym z) (subst (λ v. Covers joined v k) (sym q) (covers_up c k way.reach)),
                  ap (put_under root c k) q ∙ top ∙ sym own' ∙ ap (put_under root c k) (sym z),
                )
                | inr q ↦ let z = others_j x q in let f = way.ancestors x lt (omega arith) in (
                  omega arith,
                  omega arith,
                  subst (λ v. Covers joined x v) (sym z) f.2,
                  elim f.3 [
                    | inl e ↦ put_under_same root c k x (ancestor x) e ∙ ap (put_under root c k) (sym z)
                    | inr t ↦ put_under_there root c k x (t.2 ∙ sym way.same ∙ b.0) ∙ sym own' ∙ ap (put_under root c k) (sym (z ∙ t.1))
                  ],
                )
              ];
              fresh = λ x le. let f = way.fresh x le in (
                others_p x (omega arith) ∙ f.0,
                others_j x (omega arith) ∙ f.1,
                put_under_not root c k x (λ r. let s = sym f.2 ∙ r in omega arith) ∙ f.2,
              );
            },
            put_under_same root c k start c (sym way.same) ∙ top,
            λ x e. put_under_not root c k x (λ q. let r = sym e ∙ q in omega arith) ∙ e,
          )

    -- once each earlier neighbour of k is below k, so is each column that reaches k
    pub complete : IsGrown joined k root parent ancestor → ((i : ℕ) → i < k → IsTrue (joined i k) → root i ≡ k)
        → (n c : ℕ) → c < n → c < k → Reaches joined c k → root c ≡ k
    complete l done zero c lt b h = absurd (omega arith)
    complete l done (suc n) c lt b h =
        elim ((reaches_by_children joined pattern c k).0 h) [
          | inl e ↦ done c b e.0
          | inr f ↦
              let d = f.0 in
              let before : d < c = reaches_later joined pattern d c (f.1.reached f.2) in
              let ih : root d ≡ k = complete l done n d (omega arith) (omega arith) f.3 in
              elim (cases_order (parent d) 0) [
                | inl e ↦ absurd ((l.bare d (omega arith) e).2 c b (f.1.reached f.2))
                | inr o ↦ elim o [
                  | inl w ↦ absurd (omega arith)
                  | inr pos ↦
                      let t = l.tied d (omega arith) pos in
                      let u = f.1.least (parent d) (t.0.reached pos) in
                      let v = t.0.least c (f.1.reached f.2) in
                      let same : parent d ≡ c = omega arith in
                      sym (ap root same) ∙ sym t.2 ∙ ih
                ]
              ]
        ]

    -- on to the next column
    pub next_column : IsGrown joined k root parent ancestor
        → ((i : ℕ) → i < k → IsTrue (joined i k) → root i ≡ k) → IsGrown joined (suc k) root parent ancestor
    next_column l done = record {
      bare = λ x lt e. elim (cases_eq x k) [
        | inl q ↦ let f = l.fresh x (omega arith) in (f.2, f.1, λ i below h. let w = reaches_later joined pattern x i h in omega arith)
        | inr q ↦ let f = l.bare x (omega arith) e in (
          f.0,
          f.1,
          λ i below h. elim (cases_eq i k) [
            | inl r ↦ let c = complete l done (suc x) x (omega arith) (omega arith) (subst (λ v. Reaches joined x v) r h) in
                q (sym f.0 ∙ c)
            | inr r ↦ f.2 i (omega arith) h
          ],
        )
      ];
      tied = λ x lt p. elim (cases_eq x k) [
        | inl q ↦ let f = l.fresh x (omega arith) in let z = f.0 in absurd (omega arith)
        | inr q ↦ let f = l.tied x (omega arith) p in let z = f.1 in (f.0, omega arith, f.2, f.3)
      ];
      ancestors = λ x lt p. elim (cases_eq x k) [
        | inl q ↦ let f = l.fresh x (omega arith) in let z = f.1 in absurd (omega arith)
        | inr q ↦ let f = l.ancestors x (omega arith) p in let z = f.1 in (f.0, omega arith, f.2, f.3)
      ];
      fresh = λ x le. l.fresh x (omega arith);
    }
