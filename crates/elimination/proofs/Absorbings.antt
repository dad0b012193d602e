-- One elimination, told by the tables.
use Rattle.std.proofs.Common.{◌≡◌, ◌≢◌, ℕ, ◌<◌, inl, inr, ◌⊎◌, Bool, false, cond, ◌||◌, List}
use Rattle.std.proofs.Common.{[], length, refl, sym, ap, ◌∙◌, arith, subst, IsTrue, eqb}
use Rattle.std.proofs.lemmas.Bool.{cases_eq, cases_Bool, both_ways, eq-eqb, ne_eqb, or_left, or_right}
use Rattle.elimination.specs.Elimination.{eliminate, IsVertex}
use Rattle.patterns.specs.Pattern.{has}
use Rattle.elimination.specs.Quotients.{Quotient, IsQuotient, IsParted, AreLinks, LeadsTo, at}
use Rattle.elimination.specs.Hoods.{IsHood}
use Rattle.elimination.proofs.Eliminations.{pattern_eliminate}
use Rattle.elimination.proofs.Partings.{IsMerged, parted}

-- the parts that v touched become that of v
pub merged : (ℕ → ℕ) → List ℕ → ℕ → ℕ → ℕ
merged part touched v d = cond (eqb d v || has touched (part d)) v (part d)

merged_v : (part : ℕ → ℕ) (touched : List ℕ) (v d : ℕ) → (d ≡ v) ⊎ IsTrue (has touched (part d)) → merged part touched v d ≡ v
unfolding merged
merged_v part touched v d (inl e) = ap (λ b. cond b v (part d)) (or_left _ _ (eq-eqb d v e))
merged_v part touched v d (inr t) = ap (λ b. cond b v (part d)) (or_right (eqb d v) _ t)

merged_other : (part : ℕ → ℕ) (touched : List ℕ) (v d : ℕ) → d ≢ v → has touched (part d) ≡ false → merged part touched v d ≡ part d
unfolding merged
merged_other part touched v d ne f = rw (ne_eqb d v ne, f) refl

-- the rim of v is all its neighbours
pub rim_after : (ℕ → ℕ → Bool) → (ℕ → ℕ → Bool) → ℕ → ℕ → ℕ → Bool
rim_after rim left v p b = cond (eqb p v) (left v b) (rim p b)

rim_v : (rim left : ℕ → ℕ → Bool) (v b : ℕ) → rim_after rim left v v b ≡ left v b
unfolding rim_after
rim_v rim left v b = ap (λ t. cond t (left v b) (rim v b)) (eq-eqb v v refl)

rim_kept : (rim left : ℕ → ℕ → Bool) (v p b : ℕ) → p ≢ v → rim_after rim left v p b ≡ rim p b
unfolding rim_after
rim_kept rim left v p b ne = ap (λ t. cond t (left v b) (rim p b)) (ne_eqb p v ne)

-- what is left once v is eliminated; those for which v stood are not back yet
abbrev pub after : Quotient → ℕ → List ℕ → Quotient
after q v touched = record {
  order = q.order;
  joined = q.joined;
  left = eliminate q.left v;
  part = merged q.part touched v;
  rim = rim_after q.rim q.left v;
  rep = q.rep;
}

-- what is written as v is eliminated in the turn `now`
pub record IsWritten (turn turn' : ℕ → ℕ) (links links' : List ℕ) (rim rim' : ℕ → List ℕ) (v : ℕ) (near touched : List ℕ) : Type 0 where
  pub latest : (x : ℕ) → turn x < turn' v
  pub turns : (x : ℕ) → x ≢ v → turn' x ≡ turn x
  pub size : length links' ≡ length links
  pub own : at links' v ≡ v
  pub under : (x : ℕ) → IsTrue (has touched x) → at links' x ≡ v
  pub others : (x : ℕ) → x ≢ v → has touched x ≡ false → at links' x ≡ at links x
  pub made : rim' v ≡ near
  pub emptied : (p : ℕ) → p ≢ v → IsTrue (has touched p) → rim' p ≡ []
  pub kept : (p : ℕ) → p ≢ v → has touched p ≡ false → rim' p ≡ rim p

module _ (q : Quotient) (turn turn' : ℕ → ℕ) (links links' : List ℕ) (rim rim' : ℕ → List ℕ) (v : ℕ) (near touched : List ℕ)
    (s : IsQuotient q turn links rim) (h : IsHood q turn v near touched) (vertex : IsVertex q.order v) (here : turn v ≡ 0)
    (w : IsWritten turn turn' links links' rim rim' v near touched) where
  now_gone : 0 < turn' v
  now_gone = let l = w.latest v in omega arith

  is_merged : IsMerged q.joined q.left turn q.part q.rim (has touched) v turn' (merged q.part touched v) (rim_after q.rim q.left v)
  is_merged = record {
    now = now_gone;
    turns = w.turns;
    touched_to = h.to;
    touched_from = h.from;
    merges = merged_v q.part touched v;
    others = merged_other q.part touched v;
    made = rim_v q.rim q.left v;
    kept = λ p b ne f. rim_kept q.rim q.left v p b ne;
  }

  -- the number of a part that was touched is that of an eliminated vertex, and leads to itself
  own_part : (p : ℕ) → IsTrue (has touched p) → (0 < turn p) × (q.part p ≡ p)
  own_part p t =
      let f = h.from p t in
      subst (λ z. (0 < turn z) × (q.part z ≡ z)) f.3 (s.parted.part_gone f.0 f.1, s.leads.root f.0 f.1)

  was_gone : (x : ℕ) → x ≢ v → 0 < turn' x → 0 < turn x
  was_gone x ne g = let k = w.turns x ne in omega arith

  linked' : AreLinks turn' links'
  linked' = record {
    inside = λ x g. elim (cases_eq x v) [
      | inl e ↦ to_v (ap (at links') e ∙ w.own)
      | inr ne ↦ elim (cases_Bool (has touched x)) [
        | inl t ↦ to_v (w.under x t)
        | inr f ↦ (
            let old = s.linked.inside x (was_gone x ne g) in
            let o = w.others x ne f in
            let size = w.size in
            let lt = old.0 in
            (omega arith, subst (λ z. 0 < turn' z) (sym o) (still (at links x) old.1))
            )
      ]
    ];
    rises = λ x g m. elim (cases_eq x v) [
      | inl e ↦ absurd (m (ap (at links') e ∙ w.own ∙ sym e))
      | inr ne ↦ elim (cases_Bool (has touched x)) [
        | inl t ↦ subst (λ z. turn' x < turn' z) (sym (w.under x t)) (let k = w.turns x ne in let l = w.latest x in omega arith)
        | inr f ↦ (
            let o = w.others x ne f in
            let gx = was_gone x ne g in
            let r = s.linked.rises x gx (λ e. m (o ∙ e)) in
            let gy = (s.linked.inside x gx).1 in
            let ney : at links x ≢ v = λ e. (let k = ap turn e in absurd (omega arith)) in
            let kx = w.turns x ne in
            let ky = w.turns (at links x) ney in
            subst (λ z. turn' x < turn' z) (sym o) (omega arith)
            )
      ]
    ];
  }
    where
      to_v : {y : ℕ} → y ≡ v → (y < length links') × (0 < turn' y)
      to_v {y} e = let size = w.size in let n = s.size in let le = vertex.1 in (omega arith, subst (λ z. 0 < turn' z) (sym e) now_gone)

      still : (y : ℕ) → 0 < turn y → 0 < turn' y
      still y g = let ne : y ≢ v = λ e. (let k = ap turn e in absurd (omega arith)) in let k = w.turns y ne in omega arith

  leads' : LeadsTo turn' (merged q.part touched v) links'
  leads' = record {
    last = λ x g e. elim (cases_eq x v) [
      | inl z ↦ merged_v q.part touched v x (inl z) ∙ sym z
      | inr ne ↦ elim (cases_Bool (has touched x)) [
        | inl t ↦ absurd (ne (sym e ∙ w.under x t))
        | inr f ↦ (
            let p = s.leads.last x (was_gone x ne g) (sym (w.others x ne f) ∙ e) in
            merged_other q.part touched v x ne (ap (has touched) p ∙ f) ∙ p
            )
      ]
    ];
    same = λ x g. elim (cases_eq x v) [
      | inl z ↦ ap (merged q.part touched v) (ap (at links') z ∙ w.own ∙ sym z)
      | inr ne ↦ elim (cases_Bool (has touched x)) [
        | inl t ↦ ap (merged q.part touched v) (w.under x t) ∙ merged_v q.part touched v v (inl refl)
            ∙ sym (merged_v q.part touched v x (inr (subst (λ z. IsTrue (has touched z)) (sym (own_part x t).1) t)))
        | inr f ↦ (
            let gx = was_gone x ne g in
            let gy = (s.linked.inside x gx).1 in
            let ney : at links x ≢ v = λ e. (let k = ap turn e in absurd (omega arith)) in
            let p = s.leads.same x gx in
            ap (merged q.part touched v) (w.others x ne f) ∙ elim (cases_Bool (has touched (q.part x))) [
              | inl t ↦ merged_v q.part touched v (at links x) (inr (subst (λ z. IsTrue (has touched z)) (sym p) t))
                  ∙ sym (merged_v q.part touched v x (inr t))
              | inr n ↦ merged_other q.part touched v (at links x) ney (ap (has touched) p ∙ n) ∙ p
                  ∙ sym (merged_other q.part touched v x ne n)
            ]
            )
      ]
    ];
    root = λ x g. elim (cases_eq x v) [
      | inl z ↦ to_v x (merged_v q.part touched v x (inl z))
      | inr ne ↦ elim (cases_Bool (has touched (q.part x))) [
        | inl t ↦ to_v x (merged_v q.part touched v x (inr t))
        | inr f ↦ (
            let gx = was_gone x ne g in
            let r = s.leads.root x gx in
            let gp = s.parted.part_gone x gx in
            let nep : q.part x ≢ v = λ e. (let k = ap turn e in absurd (omega arith)) in
            let o = merged_other q.part touched v x ne f in
            ap (merged q.part touched v) o ∙ merged_other q.part touched v (q.part x) nep (ap (has touched) r ∙ f) ∙ r ∙ sym o
            )
      ]
    ];
  }
    where
      to_v : (x : ℕ) → merged q.part touched v x ≡ v → merged q.part touched v (merged q.part touched v x) ≡ merged q.part touched v x
      to_v x e = ap (merged q.part touched v) e ∙ merged_v q.part touched v v (inl refl) ∙ sym e

  near_vertex : (x : ℕ) → IsTrue (q.left v x) → IsVertex q.order x
  near_vertex x t = elim (s.parted.near v x t) [
    | inl e ↦ s.within v x e
    | inr y ↦ (let f = s.parted.rim_from y.0 x y.1 y.3 in s.within f.0 x f.3)
  ]

  new_parted : IsParted q.joined (eliminate q.left v) turn' (merged q.part touched v) (rim_after q.rim q.left v)
  new_parted = parted q.joined q.left s.pattern s.plain turn q.part q.rim (has touched) v turn' (merged q.part touched v)
      (rim_after q.rim q.left v) s.parted here is_merged

  -- a part that is not that of v now was there before, and its list stays
  old_part : (d : ℕ) → 0 < turn' d → merged q.part touched v d ≢ v
      → (0 < turn d) × (merged q.part touched v d ≡ q.part d) × (q.part d ≢ v) × (has touched (q.part d) ≡ false)
  old_part d g ne =
      let nd : d ≢ v = λ e. ne (merged_v q.part touched v d (inl e)) in
      elim (cases_Bool (has touched (q.part d))) [
        | inl t ↦ absurd (ne (merged_v q.part touched v d (inr t)))
        | inr f ↦ (let m = merged_other q.part touched v d nd f in (was_gone d nd g, m, (λ e. ne (m ∙ e)), f))
      ]

  listed_from' : (d x : ℕ) → 0 < turn' d → IsTrue (has (rim' (merged q.part touched v d)) x)
      → IsTrue (rim_after q.rim q.left v (merged q.part touched v d) x)
  listed_from' d x g t = elim (cases_eq (merged q.part touched v d) v) [
    | inl e ↦ subst (λ z. IsTrue (rim_after q.rim q.left v z x)) (sym e)
        (rim_v q.rim q.left v x ∙ (h.sound x (subst (λ z. IsTrue (has z x)) (ap rim' e ∙ w.made) t)).0)
    | inr ne ↦ (
        let o = old_part d g ne in
        subst (λ z. IsTrue (rim_after q.rim q.left v z x)) (sym o.1) (rim_kept q.rim q.left v (q.part d) x o.2
        ∙ s.listed_from d x o.0 (subst (λ z. IsTrue (has z x)) (ap rim' o.1 ∙ w.kept (q.part d) o.2 o.3) t))
        )
  ]

  listed_to' : (d x : ℕ) → 0 < turn' d → IsTrue (rim_after q.rim q.left v (merged q.part touched v d) x) → q.rep x ≡ x
      → IsTrue (has (rim' (merged q.part touched v d)) x)
  listed_to' d x g t own = elim (cases_eq (merged q.part touched v d) v) [
    | inl e ↦ subst (λ z. IsTrue (has z x)) (sym (ap rim' e ∙ w.made)) (h.complete x
        (sym (rim_v q.rim q.left v x) ∙ subst (λ z. IsTrue (rim_after q.rim q.left v z x)) e t) own)
    | inr ne ↦ (
        let o = old_part d g ne in
        subst (λ z. IsTrue (has z x)) (sym (ap rim' o.1 ∙ w.kept (q.part d) o.2 o.3))
        (s.listed_to d x o.0 (sym (rim_kept q.rim q.left v (q.part d) x o.2) ∙ subst (λ z. IsTrue (rim_after q.rim q.left v z x)) o.1 t)
        own)
        )
  ]

  pub quotient_after : IsQuotient (after q v touched) turn' links' rim'
  quotient_after = record {
    size = w.size ∙ s.size;
    pattern = s.pattern;
    plain = pattern_eliminate q.left v s.plain;
    within = s.within;
    gone = λ x g. elim (cases_eq x v) [ inl e ↦ subst (IsVertex q.order) (sym e) vertex | inr ne ↦ s.gone x (was_gone x ne g) ];
    rims = λ p x t. elim (cases_eq p v) [
      | inl e ↦ near_vertex x (h.sound x (subst (λ z. IsTrue (has z x)) (ap rim' e ∙ w.made) t)).0
      | inr ne ↦ elim (cases_Bool (has touched p)) [
        | inl m ↦ absurd (both_ways _ refl (subst (λ z. IsTrue (has z x)) (w.emptied p ne m) t))
        | inr f ↦ s.rims p x (subst (λ z. IsTrue (has z x)) (w.kept p ne f) t)
      ]
    ];
    parted = new_parted;
    listed_from = listed_from';
    listed_to = listed_to';
    linked = linked';
    leads = leads';
  }
