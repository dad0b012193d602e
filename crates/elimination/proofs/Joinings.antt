-- One vertex comes to stand for its twin.
use Rattle.std.proofs.Common.{◌≡◌, ◌≢◌, ℕ, ◌+◌, ◌<◌, ◌≤◌, inl, inr, ◌⊎◌, Bool, false, cond, List, [], ◌∷◌, ◌++◌, length, refl}
use Rattle.std.proofs.Common.{sym, ap, ◌∙◌, arith, subst, IsTrue, eqb, set, get_or, length-set, length-append, ◌^◌}
use Rattle.std.specs.List.{All}
use Rattle.std.proofs.lemmas.List.Elements.{All-from_get_or}
use Rattle.std.proofs.lemmas.Bool.{cases_eq, cases_Bool, both_ways, eq-eqb, ne_eqb}
use Rattle.elimination.specs.Elimination.{IsVertex, times, degree_of}
use Rattle.patterns.specs.Pattern.{has}
use Rattle.min_tree.specs.Least.{greatest}
use Rattle.elimination.specs.Quotients.{Quotient, IsQuotient, at}
use Rattle.elimination.specs.Hoods.{AreHidden, mark_at}
use Rattle.elimination.specs.Twins.{is_near, IsGrouped, IsJoinedTo}
use Rattle.elimination.specs.Tables.{Tables}
use Rattle.elimination.specs.Turns.{AreBounds, CanPair, StandForOthers}
use Rattle.elimination.proofs.BoundSteps.{at_other, at_here}
use Rattle.elimination.proofs.Groups.{in_block, block_once}
use Rattle.elimination.proofs.ListFacts.{has_own, has_left, has_right, has_cases, times_unless}
use Rattle.elimination.proofs.VertexLists.{times_append, length-part}
use Rattle.patterns.proofs.NumberLists.{has_at}

joined_rep : (ℕ → ℕ) → ℕ → ℕ → ℕ → ℕ
joined_rep rep least other x = cond (eqb (rep x) other) least (rep x)

rep_moved : (rep : ℕ → ℕ) (least other x : ℕ) → rep x ≡ other → joined_rep rep least other x ≡ least
unfolding joined_rep
rep_moved rep least other x e = ap (λ b. cond b least (rep x)) (eq-eqb (rep x) other e)

rep_kept : (rep : ℕ → ℕ) (least other x : ℕ) → rep x ≢ other → joined_rep rep least other x ≡ rep x
unfolding joined_rep
rep_kept rep least other x ne = ap (λ b. cond b least (rep x)) (ne_eqb (rep x) other ne)

abbrev joined_to : Quotient → ℕ → ℕ → Quotient
joined_to q least other = record q { rep = joined_rep q.rep least other }

module _ (q : Quotient) (turn : ℕ → ℕ) (groups groups' : ℕ → List ℕ) (sizes sizes' : List ℕ) (seen seen' : List Bool) (least other : ℕ)
    (gr : IsGrouped q turn groups sizes) (before : least < other) (vl : IsVertex q.order least) (vo : IsVertex q.order other)
    (ll : turn least ≡ 0) (lo : turn other ≡ 0) (ol : q.rep least ≡ least) (oo : q.rep other ≡ other)
    (twins : (z : ℕ) → is_near q.left other z ≡ is_near q.left least z)
    (j : IsJoinedTo least other groups groups' sizes sizes' seen seen') where
  moved : (x : ℕ) → q.rep x ≡ other → joined_rep q.rep least other x ≡ least
  moved x e = rep_moved q.rep least other x e

  kept : (x : ℕ) → q.rep x ≢ other → joined_rep q.rep least other x ≡ q.rep x
  kept x ne = rep_kept q.rep least other x ne

  differ : least ≢ other
  differ e = absurd (omega arith)

  -- whoever stands for his group now did before
  stood : (x : ℕ) → joined_rep q.rep least other x ≡ x → (q.rep x ≡ x) × (x ≢ other)
  stood x e = elim (cases_eq (q.rep x) other) [
    | inl o ↦ absurd (
        let is : least ≡ x = sym (moved x o) ∙ e in
        differ (sym ol ∙ ap q.rep is ∙ o))
    | inr ne ↦ (let r = sym (kept x ne) ∙ e in (r, λ z. ne (r ∙ z)))
  ]

  -- .. and but for the other one he still does
  stands_on : (x : ℕ) → q.rep x ≡ x → x ≢ other → joined_rep q.rep least other x ≡ x
  stands_on x e ne = kept x (λ o. ne (sym e ∙ o)) ∙ e

  joined_groups : IsGrouped (joined_to q least other) turn groups' sizes'
  joined_groups = record {
    vertex = λ x ne. elim (cases_eq (q.rep x) other) [
      | inl o ↦ (
        elim (cases_eq (q.rep x) x) [ inl e ↦ subst (IsVertex q.order) (sym o ∙ e) vo | inr n ↦ (gr.vertex x n).0 ],
        subst
            (IsVertex q.order) (sym (moved x o)) vl,
      )
      | inr apart ↦ (let v = gr.vertex x (λ e. ne (kept x apart ∙ e)) in (v.0, subst (IsVertex q.order) (sym (kept x apart)) v.1))
    ];
    left = λ x l. elim (cases_eq (q.rep x) other) [
      | inl o ↦ subst (λ z. turn z ≡ 0) (sym (moved x o)) ll
      | inr apart ↦ subst (λ z. turn z ≡ 0) (sym (kept x apart)) (gr.left x l)
    ];
    gone = λ x g. let r = gr.gone x g in stands_on x r (λ e. absurd (let k = ap turn e in omega arith));
    stands = λ x. elim (cases_eq (q.rep x) other) [
      | inl o ↦ ap (joined_rep q.rep least other) (moved x o) ∙ stands_on least ol differ ∙ sym (moved x o)
      | inr apart ↦ ap (joined_rep q.rep least other) (kept x apart) ∙ stands_on (q.rep x) (gr.stands x) apart ∙ sym (kept x apart)
    ];
    least = λ x. elim (cases_eq (q.rep x) other) [
      | inl o ↦ (let m = moved x o in let l = gr.least x in omega arith)
      | inr apart ↦ (let k = kept x apart in let l = gr.least x in omega arith)
    ];
    twins = λ x z l. elim (cases_eq (q.rep x) other) [
      | inl o ↦ gr.twins x z l ∙ ap (λ y. is_near q.left y z) o ∙ twins z ∙ ap (λ y. is_near q.left y z) (sym (moved x o))
      | inr apart ↦ gr.twins x z l ∙ ap (λ y. is_near q.left y z) (sym (kept x apart))
    ];
    members = members';
    listed = listed';
    once = once';
    weights = λ r vr l own. let s = stood r own in elim (cases_eq r least) [
      | inl e ↦ (
          let a = gr.weights least vl ll ol in
          let b = gr.weights other vo lo oo in
          let len = length-append (groups least) (other ∷ groups other) in
          let t = ap length j.taken in
          let size = j.size in
          subst (λ z. at sizes' z ≡ length (groups' z) + 1) (sym e) (omega arith)
          )
      | inr ne ↦ j.sizes_same r ne ∙ gr.weights r vr l s.0 ∙ ap (λ z. length z + 1) (sym (j.others r ne s.1))
    ];
  }
    where
      members' : (r x : ℕ) → IsTrue (has (groups' r) x) → (joined_rep q.rep least other x ≡ r) × (x ≢ r)
      members' r x h = elim (cases_eq r least) [
        | inl e ↦ (
            let h' : IsTrue (has (groups least ++ (other ∷ groups other)) x) = subst (λ z. IsTrue (has z x)) j.taken
            (subst (λ z. IsTrue (has (groups' z) x)) e h) in
            let both : (joined_rep q.rep least other x ≡ least) × (x ≢ least) = elim
            (has_cases (groups least) (other ∷ groups other) x h') [
              | inl o ↦ (let m = gr.members least x o in (kept x (λ z. differ (sym m.0 ∙ z)) ∙ m.0, m.1))
              | inr b ↦ (let o = in_block q turn groups sizes gr other x b oo in (moved x o, λ z. differ (sym ol ∙ ap q.rep (sym z) ∙ o)))
            ] in
            subst (λ z. (joined_rep q.rep least other x ≡ z) × (x ≢ z)) (sym e) both
            )
        | inr nl ↦ elim (cases_eq r other) [
          | inl e ↦ absurd (both_ways _ refl (subst (λ z. IsTrue (has z x)) j.empty (subst (λ z. IsTrue (has (groups' z) x)) e h)))
          | inr apart ↦ (let m = gr.members r x (subst (λ z. IsTrue (has z x)) (j.others r nl apart) h) in
              (kept x (λ z. apart (sym m.0 ∙ z)) ∙ m.0, m.1))
        ]
      ]

      listed' : (x : ℕ) → joined_rep q.rep least other x ≢ x → IsTrue (has (groups' (joined_rep q.rep least other x)) x)
      listed' x ne = elim (cases_eq (q.rep x) other) [
        | inl o ↦ (
            let inner : IsTrue (has (other ∷ groups other) x) = elim (cases_eq other x) [
              | inl e ↦ has_left (other ∷ []) (groups other) x (subst (λ z. IsTrue (has (other ∷ []) z)) e (has_own other))
              | inr n ↦ has_right (other ∷ []) (groups other) x (subst (λ z. IsTrue (has (groups z) x)) o
                  (gr.listed x (λ z. n (sym o ∙ z))))
            ] in
            subst (λ z. IsTrue (has (groups' z) x)) (sym (moved x o)) (subst (λ z. IsTrue (has z x)) (sym j.taken)
            (has_right (groups least) (other ∷ groups other) x inner))
            )
        | inr apart ↦ (
            let old = gr.listed x (λ e. ne (kept x apart ∙ e)) in
            subst (λ z. IsTrue (has (groups' z) x)) (sym (kept x apart)) (elim (cases_eq (q.rep x) least) [
              | inl e ↦ subst (λ z. IsTrue (has (groups' z) x)) (sym e) (subst (λ z. IsTrue (has z x)) (sym j.taken)
                  (has_left (groups least) (other ∷ groups other) x (subst (λ z. IsTrue (has (groups z) x)) e old)))
              | inr nl ↦ subst (λ z. IsTrue (has z x)) (sym (j.others (q.rep x) nl apart)) old
            ])
            )
      ]

      once' : (r x : ℕ) → times (groups' r) x ≤ 1
      once' r x = elim (cases_eq r least) [
        | inl e ↦ subst (λ z. times (groups' z) x ≤ 1) (sym e) (subst (λ z. times z x ≤ 1) (sym j.taken) (
            let a = times_append (groups least) (other ∷ groups other) x in
            let o = gr.once least x in
            let b = block_once q turn groups sizes gr other x in
            elim (cases_Bool (has (groups least) x)) [
              | inr f ↦ omega (arith, times_unless (groups least) x f)
              | inl t ↦ (
                  let none : has (other ∷ groups other) x ≡ false = elim (cases_Bool (has (other ∷ groups other) x)) [
                    | inl u ↦ absurd (differ (sym (gr.members least x t).0 ∙ in_block q turn groups sizes gr other x u oo))
                    | inr f ↦ f
                  ] in
                  omega (arith, times_unless (other ∷ groups other) x none)
                  )
            ]))
        | inr nl ↦ elim (cases_eq r other) [
          | inl e ↦ subst (λ z. times (groups' z) x ≤ 1) (sym e) (subst (λ z. times z x ≤ 1) (sym j.empty) (omega arith))
          | inr apart ↦ subst (λ z. times z x ≤ 1) (sym (j.others r nl apart)) (gr.once r x)
        ]
      ]

  joined_hidden : AreHidden q turn seen → AreHidden (joined_to q least other) turn seen'
  joined_hidden h = record {
    gone = λ x g. let r = h.gone x g in stands_on x r (λ e. absurd (let k = ap turn e in omega arith));
    marked = λ x ne. elim (cases_eq x other) [
      | inl e ↦ subst (λ z. IsTrue (mark_at seen' z)) (sym e) j.marked
      | inr apart ↦ j.marks x apart ∙ h.marked x (λ e. ne (stands_on x e apart))
    ];
    marks = λ x m e. let s = stood x e in h.marks x (sym (j.marks x s.1) ∙ m) s.0;
  }

  joined_quotient : (links : List ℕ) (rim : ℕ → List ℕ) → IsQuotient q turn links rim → IsQuotient (joined_to q least other) turn links rim
  joined_quotient links rim s = record {
    size = s.size;
    pattern = s.pattern;
    plain = s.plain;
    within = s.within;
    gone = s.gone;
    rims = s.rims;
    parted = s.parted;
    listed_from = s.listed_from;
    listed_to = λ d x g r own. s.listed_to d x g r (stood x own).0;
    linked = s.linked;
    leads = s.leads;
  }

  joined_bounds : (keys keys' : List ℕ) → AreBounds q turn keys → length keys' ≡ length keys → at keys' other ≡ greatest
      → at keys' least ≤ degree_of q.left q.order least
      → ((w : ℕ) → w ≢ least → w ≢ other → at keys' w ≡ at keys w) → AreBounds (joined_to q least other) turn keys'
  joined_bounds keys keys' b len off low same = record {
    len = len ∙ b.len;
    low = λ w vw l own. let s = stood w own in elim (cases_eq w least) [
      | inl e ↦ subst (λ z. at keys' z ≤ degree_of q.left q.order z) (sym e) low
      | inr nl ↦ (let k = same w nl s.1 in let o = b.low w vw l s.0 in omega arith)
    ];
    off = λ w le o. elim (cases_eq w other) [
      | inl e ↦ subst (λ z. at keys' z ≡ greatest) (sym e) off
      | inr apart ↦ (
          let old : ((w ≡ 0) ⊎ (0 < turn w)) ⊎ (q.rep w ≢ w) = elim o [ inl x ↦ inl x | inr ne ↦ inr (λ e. ne (stands_on w e apart)) ] in
          let nl : w ≢ least = λ e. elim old [
            | inl x ↦ elim x [ inl z ↦ (let v = vl.0 in absurd (omega arith)) | inr g ↦ (let k = ap turn e in absurd (omega arith)) ]
            | inr ne ↦ ne (subst (λ z. q.rep z ≡ z) (sym e) ol)
          ] in
          same w nl apart ∙ b.off w le old
          )
    ];
  }

-- the group of a vertex has vertices alone
group_vertices : (q : Quotient) (turn : ℕ → ℕ) (groups : ℕ → List ℕ) (sizes : List ℕ) → IsGrouped q turn groups sizes → (r : ℕ)
    → All (IsVertex q.order) (groups r)
group_vertices q turn groups sizes g r = All-from_get_or (IsVertex q.order) (groups r) 0
    (λ i lt. let m = g.members r (get_or (groups r) i 0) (has_at (groups r) i lt) in
    (g.vertex (get_or (groups r) i 0) (λ e. m.1 (sym e ∙ m.0))).0)

module _ (q : Quotient) (t : Tables) (least other : ℕ) (can : CanPair q t least other) where
  pub sizes_small : at t.sizes least + at t.sizes other < 2 ^ 32
  sizes_small =
      let g = can.stand.grouped in
      let a = g.weights least can.vertices.0 can.here.0 can.stands.0 in
      let b = g.weights other can.vertices.1 can.here.1 can.stands.1 in
      let few = can.few in
      let c = length-part q.order (t.groups least)
      (record { vertices = group_vertices q t.turn t.groups t.sizes g least; once = g.once least }) in
      let d = length-part q.order (t.groups other)
      (record { vertices = group_vertices q t.turn t.groups t.sizes g other; once = g.once other }) in
      omega arith

  pub joined_stand : (groups' : ℕ → List ℕ) (sizes' : List ℕ) (seen' : List Bool)
      → IsJoinedTo least other t.groups groups' t.sizes sizes' t.seen seen'
      → StandForOthers q (record t { groups = groups'; sizes = sizes'; seen = seen'; bounds = set t.bounds other greatest })
  joined_stand groups' sizes' seen' j =
      let s = can.stand in
      let v = can.vertices in
      let h = can.here in
      let o = can.stands in
      let before = can.before in
      let len = s.bounds.len in
      let within = v.1.1 in
      record {
        rep = joined_rep q.rep least other;
        stand = record {
          quotient = joined_quotient q t.turn t.groups groups' t.sizes sizes' t.seen seen' least other s.grouped before
              v.0 v.1 h.0 h.1 o.0 o.1 can.twins j t.links t.rims s.quotient;
          hidden = joined_hidden q t.turn t.groups groups' t.sizes sizes' t.seen seen' least other s.grouped before
              v.0 v.1 h.0 h.1 o.0 o.1 can.twins j s.hidden;
          grouped = joined_groups q t.turn t.groups groups' t.sizes sizes' t.seen seen' least other s.grouped before v.0 v.1 h.0 h.1 o.0
              o.1 can.twins j;
          bounds = joined_bounds q t.turn t.groups groups' t.sizes sizes' t.seen seen' least other s.grouped before
              v.0 v.1 h.0 h.1 o.0 o.1 can.twins j t.bounds (set t.bounds other greatest) s.bounds (length-set t.bounds other greatest)
              (at_here t.bounds other greatest (omega arith))
              (let k = at_other t.bounds other greatest least (omega arith) in let l = s.bounds.low least v.0 h.0 o.0 in omega arith)
              (λ x nl no. at_other t.bounds other greatest x no);
        };
      }
