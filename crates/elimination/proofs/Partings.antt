-- One elimination, told by the parts.
use Rattle.std.proofs.Common.{sym, ◌∙◌, subst, ap, ◌≡◌, ◌≢◌, ◌⊎◌, inl, inr, ℕ, ◌<◌, Bool, false, IsTrue, refl, arith}
use Rattle.std.proofs.lemmas.Bool.{cases_Bool, both_ways, cases_eq}
use Rattle.elimination.specs.Elimination.{IsAdjacency, eliminate}
use Rattle.elimination.specs.Quotients.{IsNear, IsParted}
use Rattle.elimination.proofs.Eliminations.{kept, keep_old, keep_new}

-- what is written as v is eliminated in the turn `now`: the parts that it touches become one with it, and its rim is all its neighbours
pub record IsMerged (joined left : ℕ → ℕ → Bool) (turn part : ℕ → ℕ) (rim : ℕ → ℕ → Bool) (touched : ℕ → Bool) (v : ℕ)
    (turn' part' : ℕ → ℕ) (rim' : ℕ → ℕ → Bool) : Type 0 where
  pub now : 0 < turn' v
  pub turns : (x : ℕ) → x ≢ v → turn' x ≡ turn x
  pub touched_to : (c : ℕ) → 0 < turn c → IsTrue (joined v c) → IsTrue (touched (part c))
  pub touched_from : (p : ℕ) → IsTrue (touched p) → (c : ℕ) × (0 < turn c) × IsTrue (joined v c) × (part c ≡ p)
  pub merges : (d : ℕ) → (d ≡ v) ⊎ IsTrue (touched (part d)) → part' d ≡ v
  pub others : (d : ℕ) → d ≢ v → touched (part d) ≡ false → part' d ≡ part d
  pub made : (b : ℕ) → rim' v b ≡ left v b
  pub kept : (p b : ℕ) → p ≢ v → touched p ≡ false → rim' p b ≡ rim p b

module _ (joined left : ℕ → ℕ → Bool) (pattern : IsAdjacency joined) (plain : IsAdjacency left) (turn part : ℕ → ℕ) (rim : ℕ → ℕ → Bool)
    (touched : ℕ → Bool) (v : ℕ)
    (turn' part' : ℕ → ℕ) (rim' : ℕ → ℕ → Bool)
    (s : IsParted joined left turn part rim) (lv : turn v ≡ 0) (w : IsMerged joined left turn part rim touched v turn' part' rim') where
  -- d is v, or hangs together with v from now on
  Joins : ℕ → Type 0
  Joins d = (d ≡ v) ⊎ ((0 < turn d) × IsTrue (touched (part d)))

  was_left : (a : ℕ) → turn' a ≡ 0 → (turn a ≡ 0) × (a ≢ v)
  was_left a l =
      let ne : a ≢ v = λ e. let k = ap turn' e in let now = w.now in absurd (omega arith) in
      (sym (w.turns a ne) ∙ l, ne)

  still_left : (a : ℕ) → turn a ≡ 0 → a ≢ v → turn' a ≡ 0
  still_left a l ne = w.turns a ne ∙ l

  still_gone : (d : ℕ) → 0 < turn d → 0 < turn' d
  still_gone d g =
      let ne : d ≢ v = λ e. let k = ap turn e in absurd (omega arith) in
      let k = w.turns d ne in omega arith

  -- an eliminated vertex hangs together with v, or stays in its part
  where_now : (d : ℕ) → 0 < turn' d → (((d ≡ v) ⊎ ((0 < turn d) × IsTrue (touched (part d)))) × (part' d ≡ v)) ⊎
      ((part' d ≡ part d) × (d ≢ v) × (0 < turn d) × (touched (part d) ≡ false))
  where_now d g =
      elim (cases_eq d v) [
        | inl e ↦ inl (inl e, w.merges d (inl e))
        | inr ne ↦
            let same = w.turns d ne in
            let old : 0 < turn d = omega arith in
            elim (cases_Bool (touched (part d))) [
              | inl t ↦ inl (inr (old, t), w.merges d (inr t))
              | inr f ↦ inr (w.others d ne f, ne, old, f)
            ]
      ]

  -- a part that does not merge is not that of v, whose number was never that of a part that was touched
  apart : (d : ℕ) → 0 < turn d → touched (part d) ≡ false → (b : ℕ) → IsTrue (rim (part d) b) → b ≢ v
  apart d g f b r e =
      let from = s.rim_from d v g (subst (λ z. IsTrue (rim (part d) z)) e r) in
      both_ways _ f (subst (λ z. IsTrue (touched z)) from.2 (w.touched_to from.0 from.1 (pattern.symmetric from.0 v from.3)))

  -- what touches a merged vertex is joined to v
  near_v : (d a : ℕ) → (d ≡ v) ⊎ ((0 < turn d) × IsTrue (touched (part d))) → turn a ≡ 0 → a ≢ v → IsTrue (joined d a) → IsTrue (left v a)
  near_v d a m la na t =
      s.joins v a lv la (λ e. na (sym e)) (elim m [
        | inl e ↦ inl (subst (λ z. IsTrue (joined z a)) e t)
        | inr x ↦ let from = w.touched_from (part d) x.1 in inr (
          from.0,
          from.1,
          from.2,
          subst (λ z. IsTrue (rim z a)) (sym from.3)
              (s.rim_to d a x.0 la t),
        )
      ])

  -- what is joined to v touches a merged vertex
  from_v : (b : ℕ) → IsTrue (left v b) → (d : ℕ) × ((d ≡ v) ⊎ ((0 < turn d) × IsTrue (touched (part d)))) × IsTrue (joined d b)
  from_v b t =
      elim (s.near v b t) [
        | inl e ↦ (v, inl refl, e)
        | inr x ↦ let f = s.rim_from x.0 b x.1 x.3 in (
          f.0,
          inr (
            f.1,
            subst (λ z. IsTrue (touched z)) (sym f.2)
                (w.touched_to x.0 x.1 x.2),
          ),
          f.3,
        )
      ]

  gone_of : (d : ℕ) → (d ≡ v) ⊎ ((0 < turn d) × IsTrue (touched (part d))) → 0 < turn' d
  gone_of d m = elim m [ inl e ↦ subst (λ z. 0 < turn' z) (sym e) w.now | inr x ↦ still_gone d x.0 ]

  part_of : (d : ℕ) → (d ≡ v) ⊎ ((0 < turn d) × IsTrue (touched (part d))) → part' d ≡ v
  part_of d m = w.merges d (elim m [ inl e ↦ inl e | inr x ↦ inr x.1 ])

  -- the part of an eliminated vertex is not v
  not_v : (d : ℕ) → 0 < turn d → part d ≢ v
  not_v d g e = let k = ap turn e in let h = s.part_gone d g in absurd (omega arith)

  -- through a part that is left, or through v
  moved_rim : (d b : ℕ) → 0 < turn d → turn b ≡ 0 → b ≢ v → IsTrue (rim (part d) b) → IsTrue (rim' (part' d) b)
  moved_rim d b g lb nb r =
      elim (where_now d (still_gone d g)) [
        | inl m ↦ subst (λ z. IsTrue (rim' z b)) (sym m.1) (w.made b ∙ (let f = s.rim_from d b g r in
            elim m.0 [
              | inl e ↦ absurd (let k = ap turn e in omega arith)
              | inr x ↦ near_v f.0 b (inr (f.1, subst (λ z. IsTrue (touched z)) (sym f.2) x.1)) lb nb f.3
            ]))
        | inr k ↦ subst (λ z. IsTrue (rim' z b)) (sym k.0) (w.kept (part d) b (not_v d g) k.3 ∙ r)
      ]

  -- a rim that was kept
  old_rim : (d b : ℕ) → 0 < turn d → touched (part d) ≡ false → part' d ≡ part d → IsTrue (rim' (part' d) b) → IsTrue (rim (part d) b)
  old_rim d b g f e r = sym (w.kept (part d) b (not_v d g) f) ∙ subst (λ z. IsTrue (rim' z b)) e r

  new_near : (a b : ℕ) → IsTrue (eliminate left v a b) → IsNear joined turn' part' rim' a b
  new_near a b t =
      let k = kept left v a b t in
      elim k.from [
        | inl e ↦ elim (s.near a b e) [
          | inl x ↦ inl x
          | inr x ↦ inr (
            x.0,
            still_gone x.0 x.1,
            x.2,
            moved_rim x.0 b x.1
                (s.alive a b e).1 k.right x.3,
          )
        ]
        | inr y ↦ let f = from_v a y.1 in
            inr (f.0, gone_of f.0 f.1, pattern.symmetric f.0 a f.2, subst (λ z. IsTrue (rim' z b)) (sym (part_of f.0 f.1)) (w.made b ∙ y.2))
      ]

  new_joins : (a b : ℕ) → turn' a ≡ 0 → turn' b ≡ 0 → a ≢ b → IsNear joined turn' part' rim' a b → IsTrue (eliminate left v a b)
  new_joins a b la lb ne t =
      let pa = was_left a la in
      let pb = was_left b lb in
      elim t [
        | inl x ↦ keep_old left v a b pa.1 pb.1 (s.joins a b pa.0 pb.0 ne (inl x))
        | inr x ↦ elim (where_now x.0 x.1) [
          | inl m ↦ keep_new left v a b pa.1 pb.1 ne (near_v x.0 a m.0 pa.0 pa.1 (pattern.symmetric a x.0 x.2))
              (sym (w.made b) ∙ subst (λ z. IsTrue (rim' z b)) m.1 x.3)
          | inr k ↦ keep_old left v a b pa.1 pb.1 (s.joins a b pa.0 pb.0 ne (inr (x.0, k.2, x.2, old_rim x.0 b k.2 k.3 k.0 x.3)))
        ]
      ]

  new_from : (d b : ℕ) → 0 < turn' d → IsTrue (rim' (part' d) b) → (c : ℕ) × (0 < turn' c) × (part' c ≡ part' d) × IsTrue (joined c b)
  new_from d b g r =
      elim (where_now d g) [
        | inl m ↦ let f = from_v b (sym (w.made b) ∙ subst (λ z. IsTrue (rim' z b)) m.1 r) in
            (f.0, gone_of f.0 f.1, part_of f.0 f.1 ∙ sym m.1, f.2)
        | inr k ↦
            let f = s.rim_from d b k.2 (old_rim d b k.2 k.3 k.0 r) in
            let ne : f.0 ≢ v = λ e. let q = ap turn e in let h = f.1 in absurd (omega arith) in
            (f.0, still_gone f.0 f.1, w.others f.0 ne (ap touched f.2 ∙ k.3) ∙ f.2 ∙ sym k.0, f.3)
      ]

  new_to : (d b : ℕ) → 0 < turn' d → turn' b ≡ 0 → IsTrue (joined d b) → IsTrue (rim' (part' d) b)
  new_to d b g l x =
      let lb = was_left b l in
      elim (where_now d g) [
        | inl m ↦ subst (λ z. IsTrue (rim' z b)) (sym m.1) (w.made b ∙ near_v d b m.0 lb.0 lb.1 x)
        | inr k ↦ moved_rim d b k.2 lb.0 lb.1 (s.rim_to d b k.2 lb.0 x)
      ]

  new_left : (d b : ℕ) → 0 < turn' d → IsTrue (rim' (part' d) b) → turn' b ≡ 0
  new_left d b g r =
      elim (where_now d g) [
        | inl m ↦ (
            let f = sym (w.made b) ∙ subst (λ z. IsTrue (rim' z b)) m.1 r in
            still_left b (s.alive v b f).1 (λ e. plain.irreflexive v (subst (λ z. IsTrue (left v z)) e f))
            )
        | inr k ↦ let f = old_rim d b k.2 k.3 k.0 r in still_left b (s.rim_left d b k.2 f) (apart d k.2 k.3 b f)
      ]

  pub parted : IsParted joined (eliminate left v) turn' part' rim'
  parted = record {
    alive = λ a b t. let k = kept left v a b t in
        elim k.from [
          | inl e ↦ let l = s.alive a b e in (still_left a l.0 k.left, still_left b l.1 k.right)
          | inr x ↦ (still_left a (s.alive v a x.1).1 k.left, still_left b (s.alive v b x.2).1 k.right)
        ];
    part_gone = λ d g. elim (where_now d g) [
      | inl m ↦ subst (λ z. 0 < turn' z) (sym m.1) w.now
      | inr k ↦ subst (λ z. 0 < turn' z)
          (sym k.0) (still_gone (part d) (s.part_gone d k.2))
    ];
    rim_left = new_left;
    rim_to = new_to;
    rim_from = new_from;
    near = new_near;
    joins = new_joins;
  }
