-- Steps of the dense search: a bound is raised, the first of all is found, and a vertex is eliminated.
use Rattle.std.proofs.Common.{◌≡◌, ◌≢◌, ◌⊎◌, inl, inr, ℕ, ◌-◌, ◌<◌, ◌≤◌, Bool, true, false, ◌&&◌, eqb, List, []}
use Rattle.std.proofs.Common.{◌∷◌, ◌++◌, length, get_or, set, length-set, refl, sym, ◌∙◌, arith, subst, IsTrue}
use Rattle.std.specs.List.{filter, sum_by}
use Rattle.std.proofs.lemmas.Bool.{cases_eq, cases_lt, cases_Bool, or_cases, or_left, or_right, or_parts, and_from}
use Rattle.std.proofs.lemmas.Bool.{and_parts, both_ways, false_from_ne_true, not_from_false, eqb-true, eq-eqb}
use Rattle.std.proofs.lemmas.List.{get_or-set_other, get_or-set_same}
use Rattle.std.proofs.lemmas.List.Sums.{sum_by-set}
use Rattle.limits.specs.Limits.{most_order}
use Rattle.patterns.specs.Pattern.{has}
use Rattle.min_tree.specs.Least.{IsFirstLeast, greatest}
use Rattle.elimination.specs.Elimination.{IsVertex, IsAhead, degree_of, times, eliminate}
use Rattle.elimination.specs.Twins.{is_near}
use Rattle.bit_rows.specs.Bits.{bit_in}
use Rattle.elimination.specs.Dense.{Stage, IsStanding, IsInOpen, AreBitRows, AreLowBounds, stage_after, width_of, lacks}
use Rattle.elimination.proofs.Eliminations.{pattern_eliminate, kept, keep_old, keep_new, no_neighbour}
use Rattle.elimination.proofs.ListFacts.{has_one, has_own, has_left, has_right, has_cases}
use Rattle.elimination.proofs.VertexLists.{times_append, times-here, times-beyond}
use Rattle.elimination.proofs.Degrees.{degree_le, degree_near, degree_far}

-- a table after a write
pub at_other : (keys : List ℕ) (v k x : ℕ) → x ≢ v → get_or (set keys v k) x 0 ≡ get_or keys x 0
at_other keys v k x ne = get_or-set_other keys v x k 0 ne

pub at_here : (keys : List ℕ) (v k : ℕ) → v < length keys → get_or (set keys v k) v 0 ≡ k
at_here keys v k lt = get_or-set_same keys v k 0 lt

-- whether a vertex is left
standing_cases : (stage : Stage) (x : ℕ) → IsStanding stage x ⊎ (IsStanding stage x → ⊥)
standing_cases stage x = elim (cases_lt 0 x) [
  | inr le ↦ inr (λ s. absurd (let one = s.0.0 in omega arith))
  | inl some ↦ elim (cases_lt stage.order x) [
    | inl beyond ↦ inr (λ s. absurd (let le = s.0.1 in omega arith))
    | inr le ↦ elim (cases_eq (times stage.gone x) 0) [
      | inl e ↦ inl ((omega arith, le), e)
      | inr ne ↦ inr (λ s. ne s.1)
    ]
  ]
]

module _ (stage : Stage) (bounds : List ℕ) (b : AreLowBounds stage bounds) where
  -- the first least bound is that of a vertex that is left, if any is left
  pub least_stands : stage.order ≤ most_order → (w : ℕ) → IsStanding stage w → (i : ℕ) → IsFirstLeast bounds i → IsStanding stage i
  least_stands few w lw i f = elim (standing_cases stage i) [
    | inl s ↦ s
    | inr out ↦ absurd (
        let len = b.len in
        let within = f.within in
        let wn = lw.0.1 in
        let least = f.least w (omega arith) in
        let low = b.low w lw in
        let most = degree_le stage.left stage.order w in
        let off = b.off i (omega arith) out in
        omega arith
        )
  ]

  -- a first least whose bound is its degree is the first of all that are left
  pub first_of_all : (v : ℕ) → IsFirstLeast bounds v → degree_of stage.left stage.order v ≤ get_or bounds v 0 → (u : ℕ)
      → IsStanding stage u → IsAhead (degree_of stage.left stage.order) v u
  first_of_all v f exact u lu =
      let len = b.len in
      let un = lu.0.1 in
      let low = b.low u lu in
      let least = f.least u (omega arith) in
      elim (cases_lt (degree_of stage.left stage.order v) (degree_of stage.left stage.order u)) [
        | inl lt ↦ inl lt
        | inr ge ↦ inr (
          omega arith,
          elim (cases_lt u v) [
            | inl sooner ↦ absurd (let more = f.first u sooner in omega arith)
            | inr le ↦ le
          ],
        )
      ]

  -- a bound that is the degree
  pub counted_bound : (v : ℕ) → IsStanding stage v → (k : ℕ) → k ≡ degree_of stage.left stage.order v → AreLowBounds stage (set bounds v k)
  counted_bound v here k is =
      let vn = here.0.1 in
      let len = b.len in
      let own = at_here bounds v k (omega arith) in
      record {
        len = length-set bounds v k ∙ b.len;
        low = λ w lw. elim (cases_eq w v) [
          | inl e ↦ subst (λ z. get_or (set bounds v k) z 0 ≤ degree_of stage.left stage.order z) (sym e) (omega arith)
          | inr ne ↦ let o = at_other bounds v k w ne in let l = b.low w lw in omega arith
        ];
        off = λ w le out. elim (cases_eq w v) [
          | inl e ↦ absurd (out (subst (IsStanding stage) (sym e) here))
          | inr ne ↦ at_other bounds v k w ne ∙ b.off w le out
        ];
      }

-- to raise a bound makes the sum of what is missing fall
pub raising_falls : (keys : List ℕ) (v k : ℕ) → v < length keys → get_or keys v 0 < k → k ≤ most_order
    → sum_by (λ x. greatest - x) (set keys v k) < sum_by (λ x. greatest - x) keys
raising_falls keys v k lv less few =
    let f : ℕ → ℕ = λ x. greatest - x in
    let a = sum_by-set f keys v k 0 lv in
    omega arith

-- ---- v is eliminated

-- who is left after v
pub still_standing : (stage : Stage) (v x : ℕ) → IsStanding stage x → x ≢ v → IsStanding (stage_after stage v) x
still_standing stage v x s ne = let a = times_append stage.gone (v ∷ []) x in let b = times-beyond v x [] (λ e. ne (sym e)) in
    let z = s.1 in (s.0, omega arith)

pub was_standing : (stage : Stage) (v x : ℕ) → IsStanding (stage_after stage v) x → IsStanding stage x × (x ≢ v)
was_standing stage v x s =
    let a = times_append stage.gone (v ∷ []) x in
    let z = s.1 in
    ((s.0, omega arith), λ e. absurd (let b = times-here v x [] (sym e) in omega arith))

near_kept : (left : ℕ → ℕ → Bool) (v a b : ℕ) → a ≢ v → b ≢ v → IsTrue (is_near left a b) → IsTrue (is_near (eliminate left v) a b)
near_kept left v a b ha hb near = elim (or_cases (eqb a b) _ near) [
  | inl e ↦ or_left (eqb a b) _ e
  | inr t ↦ or_right (eqb a b) _ (keep_old left v a b ha hb t)
]

-- what a filter keeps
filter_from : (q : ℕ → Bool) (xs : List ℕ) (p : ℕ) → has (filter q xs) p ≡ true → (has xs p ≡ true) × (q p ≡ true)
filter_from q [] p h = absurd (both_ways _ refl h)
filter_from q (x ∷ xs) p h = elim (cases_Bool (q x)) [
  | inl t ↦ (
      let h' : has (x ∷ filter q xs) p ≡ true = rw t at h in
      elim (has_cases (x ∷ []) (filter q xs) p h') [
        | inl o ↦ (let e = has_one x p o in (has_left (x ∷ []) xs p o, subst (λ z. q z ≡ true) e t))
        | inr r ↦ (let i = filter_from q xs p r in (has_right (x ∷ []) xs p i.0, i.1))
      ]
      )
  | inr f ↦ (let h' : has (filter q xs) p ≡ true = rw f at h in let i = filter_from q xs p h' in (has_right (x ∷ []) xs p i.0, i.1))
]

filter_to : (q : ℕ → Bool) (xs : List ℕ) (p : ℕ) → has xs p ≡ true → q p ≡ true → has (filter q xs) p ≡ true
filter_to q [] p h t = h
filter_to q (x ∷ xs) p h t = elim (has_cases (x ∷ []) xs p h) [
  | inl o ↦ (let k : q x ≡ true = subst (λ z. q z ≡ true) (sym (has_one x p o)) t in rw k (has_left (x ∷ []) (filter q xs) p o))
  | inr r ↦ (
      let i = filter_to q xs p r t in
      elim (cases_Bool (q x)) [ inl k ↦ rw k (has_right (x ∷ []) (filter q xs) p i) | inr f ↦ rw f i ]
      )
]

module _ (stage : Stage) (row : ℕ → List Bool) (opened : List ℕ) (alive : List Bool)
    (s : AreBitRows stage row opened alive) (v : ℕ) (here : IsStanding stage v)
    (exact : (x : ℕ) → IsStanding stage x → bit_in (row v) x ≡ is_near stage.left v x)
    (alive' : List Bool) (alive_len : length alive' ≡ length alive) (cleared : bit_in alive' v ≡ false)
    (others : (x : ℕ) → x ≢ v → bit_in alive' x ≡ bit_in alive x) where
  after_cases : (p : ℕ) → IsTrue (has (filter (lacks row v) opened ++ v ∷ []) p) → IsTrue (has opened p) ⊎ (v ≡ p)
  after_cases p h = elim (has_cases (filter (lacks row v) opened) (v ∷ []) p h) [
    | inl f ↦ inl (filter_from (lacks row v) opened p f).0
    | inr o ↦ inr (has_one v p o)
  ]

  own_open : IsTrue (has (filter (lacks row v) opened ++ v ∷ []) v)
  own_open = has_right (filter (lacks row v) opened) (v ∷ []) v (has_own v)

  own_row : (x : ℕ) → IsStanding stage x → IsTrue (is_near stage.left v x) → IsTrue (bit_in (row v) x)
  own_row x lx near = exact x lx ∙ near

  -- who are both in an open row, are both in an open row then
  open_then : (a b : ℕ) → IsStanding stage a → IsStanding stage b → IsInOpen row opened a b
      → IsInOpen row (filter (lacks row v) opened ++ v ∷ []) a b
  open_then a b la lb (p, h, t, u) = elim (cases_Bool (bit_in (row p) v)) [
    | inl k ↦ (v, own_open, own_row a la (s.to v a here la (inr (p, h, k, t))), own_row b lb (s.to v b here lb (inr (p, h, k, u))))
    | inr f ↦ (
      p,
      has_left (filter (lacks row v) opened) (v ∷ []) p
          (filter_to (lacks row v) opened p h (not_from_false _ f)),
      t,
      u,
    )
  ]

  near_then : (a b : ℕ) → IsTrue (is_near (eliminate stage.left v) a b)
      → IsTrue (is_near stage.left a b) ⊎ (IsTrue (stage.left v a) × IsTrue (stage.left v b))
  near_then a b near = elim (or_cases (eqb a b) _ near) [
    | inl e ↦ inl (or_left (eqb a b) _ e)
    | inr t ↦ elim (kept stage.left v a b t).from [
      | inl o ↦ inl (or_right (eqb a b) _ o)
      | inr f ↦ inr (f.1, f.2)
    ]
  ]

  -- two that are near v are near each other then
  joined_then : (a b : ℕ) → a ≢ v → b ≢ v → IsTrue (is_near stage.left v a) → IsTrue (is_near stage.left v b)
      → IsTrue (is_near (eliminate stage.left v) a b)
  joined_then a b ha hb na nb = elim (cases_eq a b) [
    | inl e ↦ or_left (eqb a b) _ (eq-eqb a b e)
    | inr ne ↦ or_right (eqb a b) _ (keep_new stage.left v a b ha hb ne (left_of a ha na) (left_of b hb nb))
  ]
    where
      left_of : (x : ℕ) → x ≢ v → IsTrue (is_near stage.left v x) → IsTrue (stage.left v x)
      left_of x ne near = elim (or_cases (eqb v x) _ near) [ inl e ↦ absurd (ne (sym (eqb-true v x e))) | inr t ↦ t ]

  pub eliminated_rows : AreBitRows (stage_after stage v) row (filter (lacks row v) opened ++ v ∷ []) alive'
  eliminated_rows = record {
    plain = pattern_eliminate stage.left v s.plain;
    within = λ a b t.
        let k = kept stage.left v a b t in
        still_standing stage v a (elim k.from [ inl o ↦ s.within a b o | inr f ↦ s.within a v (s.plain.symmetric v a f.1) ]) k.left;
    from = λ a b la lb near.
        let wa = was_standing stage v a la in
        let wb = was_standing stage v b lb in
        elim (near_then a b near) [
          | inl old ↦ elim (s.from a b wa.0 wb.0 old) [ inl t ↦ inl t | inr o ↦ inr (open_then a b wa.0 wb.0 o) ]
          | inr both ↦ inr (v, own_open, own_row a wa.0 (or_right (eqb v a) _ both.0), own_row b wb.0 (or_right (eqb v b) _ both.1))
        ];
    to = λ a b la lb h.
        let wa = was_standing stage v a la in
        let wb = was_standing stage v b lb in
        elim h [
          | inl t ↦ near_kept stage.left v a b wa.1 wb.1 (s.to a b wa.0 wb.0 (inl t))
          | inr o ↦ elim (after_cases o.0 o.1) [
            | inl old ↦ near_kept stage.left v a b wa.1 wb.1 (s.to a b wa.0 wb.0 (inr (o.0, old, o.2, o.3)))
            | inr e ↦ joined_then a b wa.1 wb.1
                (sym (exact a wa.0) ∙ subst (λ z. IsTrue (bit_in (row z) a)) (sym e) o.2)
                (sym (exact b wb.0) ∙ subst (λ z. IsTrue (bit_in (row z) b)) (sym e) o.3)
          ]
        ];
    alive_from = λ x t. elim (cases_eq x v) [
      | inl e ↦ absurd (both_ways _ cleared (subst (λ z. IsTrue (bit_in alive' z)) e t))
      | inr ne ↦ still_standing stage v x (s.alive_from x (sym (others x ne) ∙ t)) ne
    ];
    alive_to = λ x lx. let w = was_standing stage v x lx in others x w.1 ∙ s.alive_to x w.0;
    open_gone = λ p h. elim (after_cases p h) [
      | inl old ↦ (let g = s.open_gone p old in let a = times_append stage.gone (v ∷ []) p in let some = g.1 in (g.0, omega arith))
      | inr e ↦ (let a = times_append stage.gone (v ∷ []) p in let b = times-here v p [] e in
          (subst (IsVertex stage.order) e here.0, omega arith))
    ];
    alive_width = alive_len ∙ s.alive_width;
    row_width = λ x lx. s.row_width x (was_standing stage v x lx).0;
    open_width = λ p h. elim (after_cases p h) [
      | inl old ↦ s.open_width p old
      | inr e ↦ subst (λ z. length (row z) ≡ width_of stage.order) e (s.row_width v here)
    ];
  }

  module _ (bounds bounds' : List ℕ) (b : AreLowBounds stage bounds) (len : length bounds' ≡ length bounds)
      (lowered : (x : ℕ) → IsTrue (bit_in (row v) x && bit_in alive' x) → get_or bounds' x 0 ≡ get_or (set bounds v greatest) x 0 - 1)
      (rest : (x : ℕ) → (bit_in (row v) x && bit_in alive' x) ≡ false → get_or bounds' x 0 ≡ get_or (set bounds v greatest) x 0) where
    pub eliminated_bounds : AreLowBounds (stage_after stage v) bounds'
    eliminated_bounds = record {
      len = len ∙ b.len;
      low = λ x lx.
          let w = was_standing stage v x lx in
          let low = b.low x w.0 in
          let same = at_other bounds v greatest x w.1 in
          elim (cases_Bool (bit_in (row v) x && bit_in alive' x)) [
            | inl t ↦ (
                let l = lowered x t in
                let d = degree_near stage.left stage.order v x w.1 in
                omega arith
                )
            | inr f ↦ (
                let l = rest x f in
                let lives : bit_in alive' x ≡ true = others x w.1 ∙ s.alive_to x w.0 in
                let far : bit_in (row v) x ≡ false = false_from_ne_true (bit_in (row v) x) (λ t. both_ways _ f (and_from _ _ t lives)) in
                let near : is_near stage.left v x ≡ false = sym (exact x w.0) ∙ far in
                let apart : stage.left v x ≡ false = (or_parts (eqb v x) (stage.left v x) near).1 in
                let d = degree_far stage.left stage.order v x w.1 (no_neighbour stage.left s.plain v x apart) in
                omega arith
                )
          ];
      off = λ x le out.
          let none : (bit_in (row v) x && bit_in alive' x) ≡ false = false_from_ne_true (bit_in (row v) x && bit_in alive' x)
          (λ t. out (eliminated_rows.alive_from x (and_parts (bit_in (row v) x) (bit_in alive' x) t).1)) in
          rest x none ∙ elim (cases_eq x v) [
            | inl e ↦ subst (λ z. get_or (set bounds v greatest) z 0 ≡ greatest) (sym e)
                (at_here bounds v greatest (let vn = here.0.1 in let l = b.len in omega arith))
            | inr ne ↦ at_other bounds v greatest x ne ∙ b.off x le (λ lx. out (still_standing stage v x lx ne))
          ];
    }
