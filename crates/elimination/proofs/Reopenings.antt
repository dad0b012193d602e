-- Those for which an eliminated vertex stood come back.
use Rattle.std.proofs.Common.{◌≡◌, ◌≢◌, ℕ, ◌-◌, ◌<◌, ◌≤◌, inl, inr, ◌⊎◌, Bool, false, cond, List, [], ◌∷◌}
use Rattle.std.proofs.Common.{length, refl, sym, ap, ◌∙◌, arith, subst, IsTrue, eqb, set, length-set}
use Rattle.std.proofs.lemmas.Bool.{cases_eq, cases_Bool, both_ways, eq-eqb, ne_eqb}
use Rattle.elimination.specs.Elimination.{IsAdjacency, eliminate, IsVertex, times}
use Rattle.patterns.specs.Pattern.{has}
use Rattle.patterns.proofs.NumberLists.{place_of}
use Rattle.patterns.proofs.NumberLists.{has_at}
use Rattle.min_tree.specs.Least.{greatest}
use Rattle.elimination.specs.Quotients.{Quotient, IsQuotient, AreLinks, LeadsTo, at}
use Rattle.elimination.specs.Hoods.{AreHidden, IsHood}
use Rattle.elimination.specs.Twins.{is_near, IsGrouped, AreTouched, AreReopened}
use Rattle.elimination.specs.Turns.{AreBounds}
use Rattle.elimination.proofs.Eliminations.{kept, keep_old, keep_new, no_neighbour}
use Rattle.elimination.proofs.Degrees.{degree_near, degree_far, degree_twins}
use Rattle.elimination.proofs.Groups.{near_own, near_left, near_cases, left_of_hidden}
use Rattle.elimination.proofs.Absorbings.{after}
use Rattle.elimination.proofs.BoundSteps.{at_other, at_here}
use Rattle.lists.proofs.Bools.{same_bool}

-- ---- twins stay twins

module _ (left : ℕ → ℕ → Bool) (p : IsAdjacency left) (v x y : ℕ) (nx : x ≢ v) (ny : y ≢ v)
    (same : (z : ℕ) → is_near left x z ≡ is_near left y z) where
  near_after : (z : ℕ) → IsTrue (is_near (eliminate left v) x z) → IsTrue (is_near (eliminate left v) y z)
  near_after z h = elim (near_cases (eliminate left v) x z h) [
    | inl e ↦ subst (λ w. IsTrue (is_near (eliminate left v) y w)) e (elim (near_cases left y x (sym (same x) ∙ near_own left x)) [
      | inl s ↦ subst (λ w. IsTrue (is_near (eliminate left v) y w)) s (near_own (eliminate left v) y)
      | inr l ↦ near_left (eliminate left v) y x (keep_old left v y x ny nx l)
    ])
    | inr t ↦ (
        let k = kept left v x z t in
        elim (cases_eq y z) [
          | inl e ↦ subst (λ w. IsTrue (is_near (eliminate left v) y w)) e (near_own (eliminate left v) y)
          | inr ne ↦ elim k.from [
            | inl l ↦ elim (near_cases left y z (sym (same z) ∙ near_left left x z l)) [
              | inl e ↦ absurd (ne e)
              | inr l' ↦ near_left (eliminate left v) y z (keep_old left v y z ny k.right l')
            ]
            | inr f ↦ elim (near_cases left y v (sym (same v) ∙ near_left left x v (p.symmetric v x f.1))) [
              | inl e ↦ absurd (ny e)
              | inr l' ↦ near_left (eliminate left v) y z (keep_new left v y z ny k.right ne (p.symmetric y v l') f.2)
            ]
          ]
        ]
        )
  ]

twins_after : (left : ℕ → ℕ → Bool) → IsAdjacency left → (v x y : ℕ) → x ≢ v → y ≢ v → ((z : ℕ) → is_near left x z ≡ is_near left y z)
    → (z : ℕ) → is_near (eliminate left v) x z ≡ is_near (eliminate left v) y z
twins_after left p v x y nx ny same z =
    same_bool (is_near (eliminate left v) x z) (is_near (eliminate left v) y z) (near_after left p v x y nx ny same z)
    (near_after left p v y x ny nx (λ w. sym (same w)) z)

-- ---- those in the group of v stand for themselves

pub open_rep : (ℕ → ℕ) → ℕ → ℕ → ℕ
open_rep rep v x = cond (eqb (rep x) v) x (rep x)

rep_open : (rep : ℕ → ℕ) (v x : ℕ) → rep x ≡ v → open_rep rep v x ≡ x
unfolding open_rep
rep_open rep v x e = ap (λ b. cond b x (rep x)) (eq-eqb (rep x) v e)

rep_same : (rep : ℕ → ℕ) (v x : ℕ) → rep x ≢ v → open_rep rep v x ≡ rep x
unfolding open_rep
rep_same rep v x ne = ap (λ b. cond b x (rep x)) (ne_eqb (rep x) v ne)

abbrev pub reopened : Quotient → ℕ → List ℕ → Quotient
reopened q v touched = record (after q v touched) { rep = open_rep q.rep v }

none_in : (xs : List ℕ) → ((x : ℕ) → IsTrue (has xs x) → ⊥) → length xs ≡ 0
none_in [] none = refl
none_in (x ∷ xs) none = absurd (none x (has_at (x ∷ xs) 0 (omega arith)))

module _ (q : Quotient) (turn turn' : ℕ → ℕ) (groups groups' : ℕ → List ℕ) (sizes sizes' : List ℕ) (seen seen' : List Bool) (v : ℕ)
    (members touched : List ℕ)
    (gr : IsGrouped q turn groups sizes) (hid : AreHidden q turn seen) (plain : IsAdjacency q.left) (vertex : IsVertex q.order v)
    (here : turn v ≡ 0) (own : q.rep v ≡ v)
    (now : 0 < turn' v) (turns : (x : ℕ) → x ≢ v → turn' x ≡ turn x)
    (is : members ≡ groups v) (empty : groups' v ≡ []) (others : (r : ℕ) → r ≢ v → groups' r ≡ groups r) where
  member : (x : ℕ) → IsTrue (has members x) → (q.rep x ≡ v) × (x ≢ v)
  member x h = gr.members v x (subst (λ z. IsTrue (has z x)) is h)

  is_member : (x : ℕ) → q.rep x ≡ v → x ≢ v → IsTrue (has members x)
  is_member x e ne = subst (λ z. IsTrue (has z x)) (sym is) (subst (λ z. IsTrue (has (groups z) x)) e (gr.listed x (λ r. ne (sym r ∙ e))))

  no_member : (x : ℕ) → q.rep x ≢ v → has members x ≡ false
  no_member x ne = elim (cases_Bool (has members x)) [ inl t ↦ absurd (ne (member x t).0) | inr f ↦ f ]

  member_vertex : (x : ℕ) → IsTrue (has members x) → IsVertex q.order x
  member_vertex x h = let m = member x h in (gr.vertex x (λ e. m.1 (sym e ∙ m.0))).0

  member_left : (x : ℕ) → IsTrue (has members x) → turn' x ≡ 0
  member_left x h = let m = member x h in turns x m.1 ∙ left_of_hidden q turn groups sizes gr x (λ e. m.1 (sym e ∙ m.0))

  opened : (x : ℕ) → q.rep x ≡ v → open_rep q.rep v x ≡ x
  opened x e = rep_open q.rep v x e

  same : (x : ℕ) → q.rep x ≢ v → open_rep q.rep v x ≡ q.rep x
  same x ne = rep_same q.rep v x ne

  hidden_still : (x : ℕ) → open_rep q.rep v x ≢ x → (q.rep x ≢ v) × (q.rep x ≢ x)
  hidden_still x ne = elim (cases_eq (q.rep x) v) [
    | inl e ↦ absurd (ne (opened x e))
    | inr o ↦ (o, λ e. ne (same x o ∙ e))
  ]

  was_left : (x : ℕ) → turn' x ≡ 0 → (turn x ≡ 0) × (x ≢ v)
  was_left x l =
      let ne : x ≢ v = λ e. (let k = ap turn' e in absurd (omega arith)) in
      (sym (turns x ne) ∙ l, ne)

  module _ (bound : ℕ) (keys1 keys2 : List ℕ) (r : AreReopened members bound sizes sizes' seen seen' keys1 keys2) where
    pub groups_after : IsGrouped (reopened q v touched) turn' groups' sizes'
    groups_after = record {
      vertex = λ x ne. let h = hidden_still x ne in let g = gr.vertex x h.1 in (g.0, subst (IsVertex q.order) (sym (same x h.0)) g.1);
      left = λ x l. let w = was_left x l in elim (cases_eq (q.rep x) v) [
        | inl e ↦ subst (λ z. turn' z ≡ 0) (sym (opened x e)) l
        | inr ne ↦ subst (λ z. turn' z ≡ 0) (sym (same x ne)) (turns (q.rep x) ne ∙ gr.left x w.0)
      ];
      gone = λ x g. elim (cases_eq x v) [
        | inl e ↦ opened x (ap q.rep e ∙ own)
        | inr ne ↦ (let o = gr.gone x (let k = turns x ne in omega arith) in same x (λ z. ne (sym o ∙ z)) ∙ o)
      ];
      stands = λ x. elim (cases_eq (q.rep x) v) [
        | inl e ↦ ap (open_rep q.rep v) (opened x e)
        | inr ne ↦ ap (open_rep q.rep v) (same x ne) ∙ same (q.rep x) (λ z. ne (sym (gr.stands x) ∙ z)) ∙ gr.stands x ∙ sym (same x ne)
      ];
      least = λ x. elim (cases_eq (q.rep x) v) [
        | inl e ↦ (let o = opened x e in omega arith)
        | inr ne ↦ (let o = same x ne in let l = gr.least x in omega arith)
      ];
      twins = λ x z l. let w = was_left x l in elim (cases_eq (q.rep x) v) [
        | inl e ↦ ap (λ y. is_near (eliminate q.left v) y z) (sym (opened x e))
        | inr ne ↦ twins_after q.left plain v x (q.rep x) w.1 ne (λ u. gr.twins x u w.0) z
            ∙ ap (λ y. is_near (eliminate q.left v) y z) (sym (same x ne))
      ];
      members = λ s x h. elim (cases_eq s v) [
        | inl e ↦ absurd (both_ways _ refl (subst (λ z. IsTrue (has z x)) empty (subst (λ z. IsTrue (has (groups' z) x)) e h)))
        | inr ne ↦ (let m = gr.members s x (subst (λ z. IsTrue (has z x)) (others s ne) h) in (same x (λ z. ne (sym m.0 ∙ z)) ∙ m.0, m.1))
      ];
      listed = λ x ne. let h = hidden_still x ne in
          subst (λ z. IsTrue (has (groups' z) x)) (sym (same x h.0)) (subst (λ z. IsTrue (has z x)) (sym (others (q.rep x) h.0))
          (gr.listed x h.1));
      once = λ s x. elim (cases_eq s v) [
        | inl e ↦ subst (λ z. times (groups' z) x ≤ 1) (sym e) (subst (λ z. times z x ≤ 1) (sym empty) (omega arith))
        | inr ne ↦ subst (λ z. times z x ≤ 1) (sym (others s ne)) (gr.once s x)
      ];
      weights = λ s vs l o. let w = was_left s l in elim (cases_eq (q.rep s) v) [
        | inl e ↦ (
            let one = r.ones s (is_member s e w.1) in
            let none = none_in (groups s) (λ x h. (let m = gr.members s x h in w.1 (sym m.0 ∙ sym (gr.stands x) ∙ ap q.rep m.0 ∙ e))) in
            let len = ap length (others s w.1) in
            omega arith
            )
        | inr ne ↦ (
            let own' = sym (same s ne) ∙ o in
            let k = r.sizes_same s (no_member s ne) in
            let g = gr.weights s vs w.0 own' in
            let len = ap length (others s w.1) in
            omega arith
            )
      ];
    }

    pub hidden_after : AreHidden (reopened q v touched) turn' seen'
    hidden_after = record {
      gone = groups_after.gone;
      marked = λ x ne. let h = hidden_still x ne in r.marks x (no_member x h.0) ∙ hid.marked x h.1;
      marks = λ x m e. elim (cases_Bool (has members x)) [
        | inl t ↦ both_ways _ (r.opened x t) m
        | inr f ↦ (
            let h = hid.marks x (sym (r.marks x f) ∙ m) in
            elim (cases_eq (q.rep x) v) [
              | inl o ↦ elim (cases_eq x v) [
                | inl z ↦ h (subst (λ y. q.rep y ≡ y) (sym z) own)
                | inr n ↦ both_ways _ f (is_member x o n)
              ]
              | inr o ↦ h (sym (same x o) ∙ e)
            ]
            )
      ];
    }

    pub bounds_after : (keys keys0 near : List ℕ) → AreBounds q turn keys → IsHood q turn v near touched
        → ((a b : ℕ) → IsTrue (q.left a b) → (turn a ≡ 0) × (turn b ≡ 0)) → length keys0 ≡ length keys
        → ((x : ℕ) → IsTrue (has near x) → at keys0 x ≤ at keys x - 1) → ((x : ℕ) → has near x ≡ false → at keys0 x ≡ at keys x)
        → keys1 ≡ set keys0 v greatest → bound ≤ at keys v - 1 → AreBounds (reopened q v touched) turn' keys2
    bounds_after keys keys0 near b hood alive len0 lower far is1 small =
        let vn = vertex.1 in
        let blen = b.len in
        let len1 = ap length is1 ∙ length-set keys0 v greatest in
        let len2 = r.len in
        let here1 : at keys1 v ≡ greatest = ap (λ z. at z v) is1 ∙ at_here keys0 v greatest (omega arith) in
        let other1 : (x : ℕ) → x ≢ v → at keys1 x ≡ at keys0 x = λ x ne. ap (λ z. at z x) is1 ∙ at_other keys0 v greatest x ne in
        record {
          len = omega arith;
          low = λ w vw l o. let wl = was_left w l in elim (cases_eq (q.rep w) v) [
            | inl e ↦ (
                let k = r.bounds w (is_member w e wl.1) in
                let low = b.low v vertex here own in
                let d = degree_near q.left q.order v w wl.1 in
                let t = degree_twins q.left q.order w v plain vw vertex (λ z. gr.twins w z wl.0 ∙ ap (λ y. is_near q.left y z) e) in
                omega arith
                )
            | inr ne ↦ (
                let k = r.keys_same w (no_member w ne) in
                let k1 = other1 w wl.1 in
                let old = b.low w vw wl.0 (sym (same w ne) ∙ o) in
                elim (cases_Bool (has near w)) [
                  | inl t ↦ (let m = lower w t in let d = degree_near q.left q.order v w wl.1 in omega arith)
                  | inr f ↦ (
                      let m = far w f in
                      let apart : q.left v w ≡ false = elim (cases_Bool (q.left v w))
                      [ inl t ↦ absurd (both_ways _ f (hood.complete w t (sym (same w ne) ∙ o))) | inr n ↦ n ] in
                      let d = degree_far q.left q.order v w wl.1 (no_neighbour q.left plain v w apart) in
                      omega arith
                      )
                ]
                )
          ];
          off = λ w le o. elim (cases_eq w v) [
            | inl e ↦ subst (λ z. at keys2 z ≡ greatest) (sym e) (r.keys_same v
                (elim (cases_Bool (has members v)) [ inl t ↦ absurd ((member v t).1 refl) | inr f ↦ f ]) ∙ here1)
            | inr ne ↦ (
                let old : ((w ≡ 0) ⊎ (0 < turn w)) ⊎ (q.rep w ≢ w) = elim o [
                  | inl x ↦ elim x [ inl z ↦ inl (inl z) | inr g ↦ inl (inr (let k = turns w ne in omega arith)) ]
                  | inr h ↦ inr (hidden_still w h).1
                ] in
                let out : has members w ≡ false = elim (cases_Bool (has members w)) [
                  | inl t ↦ absurd (elim o [
                    | inl x ↦ elim x [
                      | inl z ↦ (let a = (member_vertex w t).0 in omega arith)
                      | inr g ↦
                          (let l = member_left w t in omega arith)
                    ]
                    | inr h ↦ absurd ((hidden_still w h).0 (member w t).0)
                  ])
                  | inr f ↦ f
                ] in
                let away : has near w ≡ false = elim (cases_Bool (has near w)) [
                  | inl t ↦ (
                      let s = hood.sound w t in
                      absurd (elim old [
                        | inl x ↦ elim x [
                          | inl z ↦ (let a = off_zero w z in let c = hood_vertex near hood w t in let c0 = c.0 in
                              omega arith)
                          | inr g ↦ (let l = (alive v w s.0).1 in omega arith)
                        ]
                        | inr h ↦ absurd (h s.1)
                      ])
                      )
                  | inr f ↦ f
                ] in
                r.keys_same w out ∙ other1 w ne ∙ far w away ∙ b.off w le old
                )
          ];
        }
      where
        off_zero : (w : ℕ) → w ≡ 0 → w ≡ 0
        off_zero w z = z

        hood_vertex : (near : List ℕ) → IsHood q turn v near touched → (w : ℕ) → IsTrue (has near w) → IsVertex q.order w
        hood_vertex near hood w t = let p = place_of near w t in subst (IsVertex q.order) p.2 (hood.vertices p.0 0 p.1)

  pub quotient_open : (links links' : List ℕ) (rim rim' : ℕ → List ℕ) → IsQuotient (after q v touched) turn' links rim
      → length links' ≡ length links → AreLinks turn' links'
      → LeadsTo turn' (after q v touched).part links' → AreTouched q.joined turn' (after q v touched).part members
      (length members) rim rim' → IsQuotient (reopened q v touched) turn' links' rim'
  quotient_open links links' rim rim' s len linked leads t = record {
    size = len ∙ s.size;
    pattern = s.pattern;
    plain = s.plain;
    within = s.within;
    gone = s.gone;
    rims = λ p x h. elim (t.from p x h) [ inl o ↦ s.rims p x o | inr n ↦ member_vertex x n.0 ];
    parted = s.parted;
    listed_from = λ d x g h. elim (t.from ((after q v touched).part d) x h) [
      | inl o ↦ s.listed_from d x g o
      | inr n ↦ subst (λ z. IsTrue ((after q v touched).rim z x)) n.1.3
          (s.parted.rim_to n.1.0 x n.1.1 (member_left x n.0) (s.pattern.symmetric x n.1.0 n.1.2))
    ];
    listed_to = λ d x g h o. elim (cases_eq (q.rep x) v) [
      | inl e ↦ (
          let l = was_left x (s.parted.rim_left d x g h) in
          let m = is_member x e l.1 in
          let i = place_of members x m in
          let f = s.parted.rim_from d x g h in
          let there = t.to i.0 f.0 i.1 f.1 (subst (λ z. IsTrue (q.joined z f.0)) (sym i.2) (s.pattern.symmetric f.0 x f.3)) in
          subst (λ z. IsTrue (has (rim' z) x)) f.2 (subst (λ z. IsTrue (has (rim' ((after q v touched).part f.0)) z)) i.2 there)
          )
      | inr ne ↦ t.old ((after q v touched).part d) x (s.listed_to d x g h (sym (same x ne) ∙ o))
    ];
    linked = linked;
    leads = leads;
  }
