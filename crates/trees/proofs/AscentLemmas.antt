-- Ways up a tree, and the search for a cycle.
use Rattle.std.proofs.Common.{◌≡◌, ◌≢◌, ℕ, zero, suc, ◌+◌, ◌*◌, ◌-◌, ◌<◌, ◌≤◌, ◌⊎◌, inl, inr, List, length}
use Rattle.std.proofs.Common.{get_or, set, refl, sym, ap, subst, ◌∙◌, arith, cond, eqb, eq-eqb}
use Rattle.std.proofs.lemmas.List.{get_or-set_same, get_or-set_other, length-set, get_or_past}
use Rattle.std.proofs.str.Laws.{order}
use Rattle.std.proofs.lemmas.List.Sums.{sum_by-set, count_by-le-length}
use Rattle.std.proofs.lemmas.Bool.{cases_eq, ne_eqb}
use Rattle.trees.specs.declared.node.Node.{Node}
use Rattle.trees.specs.Tree.{parent_of_node, ancestor, LeadsToRoot}
use Rattle.lists.specs.Numbers.{IsFirstWithout}
use Rattle.trees.specs.Ascent.{IsAscent, unmarked}

pub ancestor-one : (nodes : List Node) (k v : ℕ) → ancestor nodes (suc k) v ≡ ancestor nodes k (parent_of_node nodes v)
unfolding ancestor
ancestor-one nodes k v = refl

pub ancestor-none : (nodes : List Node) (v : ℕ) → ancestor nodes 0 v ≡ v
unfolding ancestor
ancestor-none nodes v = refl

pub ancestor-zero : (nodes : List Node) (k : ℕ) → ancestor nodes k 0 ≡ 0
ancestor-zero nodes zero = ancestor-none nodes 0
ancestor-zero nodes (suc k) = ancestor-one nodes k 0 ∙ ancestor-zero nodes k

pub ancestor-add : (nodes : List Node) (a b v : ℕ) → ancestor nodes (a + b) v ≡ ancestor nodes b (ancestor nodes a v)
ancestor-add nodes zero b v =
    (let e : 0 + b ≡ b = omega arith in ap (λ (k : ℕ). ancestor nodes k v) e) ∙ ap (ancestor nodes b) (sym (ancestor-none nodes v))
ancestor-add nodes (suc a) b v =
    (let e : suc a + b ≡ suc (a + b) = omega arith in ap (λ (k : ℕ). ancestor nodes k v) e) ∙ ancestor-one nodes (a + b) v
    ∙ ancestor-add nodes a b (parent_of_node nodes v) ∙ ap (ancestor nodes b) (sym (ancestor-one nodes a v))

ancestor-turns : (nodes : List Node) (b s m : ℕ) → ancestor nodes (suc b) s ≡ s → ancestor nodes (m * suc b) s ≡ s
ancestor-turns nodes b s zero e = (let z : 0 * suc b ≡ 0 = omega arith in ap (λ (k : ℕ). ancestor nodes k s) z) ∙ ancestor-none nodes s
ancestor-turns nodes b s (suc m) e =
    (let one : suc m * suc b ≡ suc b + m * suc b = omega arith in ap (λ (k : ℕ). ancestor nodes k s) one)
    ∙ ancestor-add nodes (suc b) (m * suc b) s ∙ ap (ancestor nodes (m * suc b)) e ∙ ancestor-turns nodes b s m e

-- a way that comes back to where it was leads to no root
pub no_root : (nodes : List Node) (v j b s : ℕ) → ancestor nodes j v ≡ s
    → ancestor nodes (suc b) s ≡ s → s ≢ 0 → (k : ℕ) → ancestor nodes k v ≢ 0
no_root nodes v j b s path turn ne k ends =
    let far : k + (j + k * suc b - k) ≡ j + k * suc b = grind arith in
    let rest = j + k * suc b - k in
    let at_zero : ancestor nodes (k + rest) v ≡ 0 =
    ancestor-add nodes k rest v ∙ ap (ancestor nodes rest) ends ∙ ancestor-zero nodes rest in
    let at_s : ancestor nodes (j + k * suc b) v ≡ s =
    ancestor-add nodes j (k * suc b) v ∙ ap (ancestor nodes (k * suc b)) path ∙ ancestor-turns nodes b s k turn in
    ne (sym at_s ∙ ap (λ (n : ℕ). ancestor nodes n v) (sym far) ∙ at_zero)

-- The parents of a node lead above a root within as many steps as are left over by the nodes without a mark.
abbrev pub LeadsWithin : List Node → ℕ → ℕ → Type 0
LeadsWithin nodes left v = (k : ℕ) × (k + left ≤ length nodes) × (ancestor nodes k v ≡ 0)

-- what leads to a node that leads to a root leads to a root
pub leads_on : (nodes : List Node) (b w s left old : ℕ) → ancestor nodes b w ≡ s
    → b + left ≤ old → LeadsWithin nodes old s → LeadsWithin nodes left w
leads_on nodes b w s left old path bound leads =
    (b + leads.0, omega (arith, leads.1), ancestor-add nodes b leads.0 w ∙ ap (ancestor nodes leads.0) path ∙ leads.2)

pub zero_leads : (nodes : List Node) (left : ℕ) → left ≤ length nodes → LeadsWithin nodes left 0
zero_leads nodes left le = (0, omega arith, ancestor-none nodes 0)

pub leads_to_root : (nodes : List Node) (left v : ℕ) → LeadsWithin nodes left v → LeadsToRoot nodes v
leads_to_root nodes left v leads =
    let rest = length nodes - leads.0 in
    let all : leads.0 + rest ≡ length nodes = omega (arith, leads.1) in
    ap (λ (k : ℕ). ancestor nodes k v) (sym all) ∙ ancestor-add nodes leads.0 rest v
    ∙ ap (ancestor nodes rest) leads.2 ∙ ancestor-zero nodes rest

-- each mark leaves one place fewer without
pub unmarked-set : (marks : List ℕ) (i from : ℕ) → i < length marks
    → get_or marks i 0 ≡ 0 → from ≢ 0 → unmarked (set marks i from) + 1 ≤ unmarked marks
unmarked-set marks i from lt none ne =
    let f : ℕ → ℕ = λ m. cond (eqb m 0) 1 0 in
    let was : f (get_or marks i 0) ≡ 1 = rw (eq-eqb _ 0 none) refl in
    let is : f from ≡ 0 = rw (ne_eqb from 0 ne) refl in
    omega (arith, sum_by-set f marks i from 0 lt, was, is)

-- ---- one step of an ascent

pub IsAscent-start : (nodes : List Node) (marks : List ℕ) (from : ℕ) → length marks ≡ length nodes
    → from ≤ length nodes → ((w : ℕ) → get_or marks w 0 < from) → IsAscent nodes marks marks from from
IsAscent-start nodes marks from len high below = record {
  len = len;
  within = high;
  fewer = omega arith;
  path = (0, omega arith, ancestor-none nodes from);
  marked = λ w low_w high_w e. absurd (omega (arith, below (w - 1), e));
  kept = λ w low_w high_w ne. refl;
  own = inl refl;
}

pub IsAscent-next : (nodes : List Node) (old new : List ℕ) (from at next : ℕ)
    → IsAscent nodes old new from at → at ≢ 0 → from ≢ 0 → get_or new (at - 1) 0 ≡ 0
    → next ≡ parent_of_node nodes at → next ≤ length nodes → IsAscent nodes old (set new (at - 1) from) from next
IsAscent-next nodes old new from at next c ne some free next_is next_high =
    let room : at - 1 < length new = omega (arith, c.len, c.within) in
    let falls = unmarked-set new (at - 1) from room free some in
    let step : ancestor nodes 1 at ≡ next = ancestor-one nodes 0 at ∙ ancestor-none nodes (parent_of_node nodes at) ∙ sym next_is in
    record {
      len = length-set new (at - 1) from ∙ c.len;
      within = next_high;
      fewer = omega (arith, falls, c.fewer);
      path = (c.path.0 + 1, omega (arith, falls, c.path.1), ancestor-add nodes c.path.0 1 from ∙ ap (ancestor nodes 1) c.path.2 ∙ step);
      marked = λ w low_w high_w e. elim (cases_eq w at) [
        | inl same ↦ (0, omega (arith, falls, c.fewer), ap (ancestor nodes 1) same ∙ step)
        | inr other ↦ (
            let apart : w - 1 ≢ at - 1 = omega arith in
            let before = c.marked w low_w high_w (sym (get_or-set_other new (at - 1) (w - 1) from 0 apart) ∙ e) in
            let more : suc before.0 + 1 ≡ suc (suc before.0) = omega arith in (
              suc before.0,
              omega (arith, falls, before.1),
              ap (λ (k : ℕ). ancestor nodes k w) (sym more)
                  ∙ ancestor-add nodes (suc before.0) 1 w ∙ ap (ancestor nodes 1) before.2 ∙ step,
            )
            )
      ];
      kept = λ w low_w high_w other. elim (cases_eq w at) [
        | inl same ↦
            absurd (other (ap (λ (k : ℕ). get_or (set new (at - 1) from) (k - 1) 0) same ∙ get_or-set_same new (at - 1) from 0 room))
        | inr differs ↦ (
            let apart : w - 1 ≢ at - 1 = omega arith in
            let same = get_or-set_other new (at - 1) (w - 1) from 0 apart in
            same ∙ c.kept w low_w high_w (λ e. other (same ∙ e))
            )
      ];
      own = inr (elim (cases_eq (from - 1) (at - 1)) [
        | inl same ↦ ap (λ (k : ℕ). get_or (set new (at - 1) from) k 0) same ∙ get_or-set_same new (at - 1) from 0 room
        | inr differs ↦ get_or-set_other new (at - 1) (from - 1) from 0 differs ∙ own_before differs c.own
      ]);
    } where
      own_before : (from - 1 ≢ at - 1) → (at ≡ from) ⊎ (get_or new (from - 1) 0 ≡ from) → get_or new (from - 1) 0 ≡ from
      own_before differs (inl e) = absurd (differs (ap (λ (k : ℕ). k - 1) (sym e)))
      own_before differs (inr e) = e

-- at most all have no mark
unmarked-le : (marks : List ℕ) (nodes : List Node) → length marks ≡ length nodes → unmarked marks ≤ length nodes
unmarked-le marks nodes len = omega (arith, count_by-le-length (λ m. eqb m 0) marks, len)

-- ---- the nodes looked at so far

pub record LookedAt (nodes : List Node) (marks : List ℕ) (i : ℕ) : Type 0 where
  pub len : length marks ≡ length nodes
  pub below : (w : ℕ) → get_or marks w 0 < i + 1
  pub leads : (w : ℕ) → 1 ≤ w → w ≤ length nodes → get_or marks (w - 1) 0 ≢ 0 → LeadsWithin nodes (unmarked marks) w
  pub seen : (w : ℕ) → 1 ≤ w → w ≤ i → get_or marks (w - 1) 0 ≢ 0

pub LookedAt-skip : (nodes : List Node) (marks : List ℕ) (i : ℕ)
    → LookedAt nodes marks i → get_or marks i 0 ≢ 0 → LookedAt nodes marks (i + 1)
LookedAt-skip nodes marks i l here = record {
  len = l.len;
  below = λ w. omega (arith, l.below w);
  leads = l.leads;
  seen = λ w low high. elim (cases_eq w (i + 1)) [
    | inl same ↦ subst (λ (k : ℕ). get_or marks k 0 ≢ 0) (let e : i ≡ w - 1 = omega arith in e) here
    | inr other ↦ l.seen w low (omega arith)
  ];
}

module _ (nodes : List Node) (old new : List ℕ) (i from stop : ℕ) (l : LookedAt nodes old i)
    (from_is : from ≡ i + 1) (in_range : i < length nodes) (way : IsAscent nodes old new from stop) where
  pub cycle_here : stop ≢ 0 → get_or new (stop - 1) 0 ≡ from → IsFirstWithout (length nodes) (LeadsToRoot nodes) from
  cycle_here ne back =
      let turn = way.marked stop (omega arith) way.within back in
      record {
        is_place = (omega arith, omega arith);
        fails = no_root nodes from way.path.0 turn.0 stop way.path.2 turn.2 ne (length nodes);
        before = λ w low lt. leads_to_root nodes _ w (l.leads w low (omega arith) (l.seen w low (omega arith)));
      }

  module _ (ends : (stop ≡ 0) ⊎ (get_or new (stop - 1) 0 ≢ 0))
      (fine : (stop ≡ 0) ⊎ (get_or new (stop - 1) 0 ≢ from)) (below : (w : ℕ) → get_or new w 0 < i + 2) where
    stop_leads : LeadsWithin nodes (unmarked old) stop
    stop_leads = elim (cases_eq stop 0) [
      | inl none ↦ subst (LeadsWithin nodes (unmarked old)) (sym none) (zero_leads nodes (unmarked old) (unmarked-le old nodes l.len))
      | inr some ↦ (
          let other = the_other fine some in
          let kept = way.kept stop (omega arith) way.within other in
          l.leads stop (omega arith) way.within (λ e. the_other ends some (kept ∙ e))
          )
    ] where
      the_other : {P : Type 0} → (stop ≡ 0) ⊎ P → stop ≢ 0 → P
      the_other (inl e) ne = absurd (ne e)
      the_other (inr p) ne = p

    pub LookedAt-ascended : get_or new (from - 1) 0 ≢ 0 → LookedAt nodes new (i + 1)
    LookedAt-ascended own = record {
      len = way.len;
      below = λ w. omega (arith, below w);
      leads = λ w low high marked. elim (cases_eq (get_or new (w - 1) 0) from) [
        | inl mine ↦
            (let b = way.marked w low high mine in leads_on nodes (suc b.0) w stop (unmarked new) (unmarked old) b.2 b.1 stop_leads)
        | inr other ↦ (
            let kept = way.kept w low high other in
            let before = l.leads w low high (λ e. marked (kept ∙ e)) in
            (before.0, omega (arith, before.1, way.fewer), before.2)
            )
      ];
      seen = λ w low high. elim (cases_eq w (i + 1)) [
        | inl same ↦ subst (λ (k : ℕ). get_or new (k - 1) 0 ≢ 0) (from_is ∙ sym same) own
        | inr other ↦ elim (cases_eq (get_or new (w - 1) 0) from) [
          | inl mine ↦ (λ e. absurd (omega (arith, mine, e, from_is)))
          | inr apart ↦ (let kept = way.kept w low (omega arith) apart in λ e. l.seen w low (omega arith) (sym kept ∙ e))
        ]
      ];
    }

pub below_after : (nodes : List Node) (old new : List ℕ) (from stop : ℕ) → IsAscent nodes old new from stop
    → ((w : ℕ) → get_or old w 0 < from) → (w : ℕ) → get_or new w 0 < from + 1
below_after nodes old new from stop way below w =
    elim (order w (length new)) [
      | inl lt ↦ elim (cases_eq (get_or new w 0) from) [
        | inl mine ↦ omega arith
        | inr other ↦ (
            let at : w + 1 - 1 ≡ w = omega arith in
            let kept : get_or new w 0 ≡ get_or old w 0 = (rw at at (way.kept (w + 1) (omega arith)
            (omega (arith, way.len)) (λ e. other (ap (λ (k : ℕ). get_or new k 0) (sym at) ∙ e)))) in
            omega (arith, kept, below w)
            )
      ]
      | inr le ↦ omega (arith, get_or_past new w 0 le, below w)
    ]

pub parent_is : (nodes : List Node) (v : ℕ) → v ≢ 0
    → (get_or nodes (v - 1) (record { parent = 0; out = 0; extra = 0; share = 0; time = 0 })).parent ≡ parent_of_node nodes v
parent_is nodes zero ne = absurd (ne refl)
parent_is nodes (suc v) ne = refl

-- a way that did not come back has marked where it began
pub own_marked : (nodes : List Node) (old new : List ℕ) (from stop : ℕ) → 1 ≤ from
    → IsAscent nodes old new from stop → (stop ≡ 0) ⊎ (get_or new (stop - 1) 0 ≢ 0) → get_or new (from - 1) 0 ≢ 0
own_marked nodes old new from stop low way ends = elim way.own [
  | inl same ↦ elim ends [
    | inl none ↦ absurd (omega (arith, same, none))
    | inr some ↦ subst (λ (k : ℕ). get_or new (k - 1) 0 ≢ 0) same some
  ]
  | inr mine ↦ (λ e. absurd (omega (arith, mine, e)))
]
