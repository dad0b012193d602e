-- One look at the first least bound.
use Rattle.std.proofs.Common.{◌≡◌, ◌≢◌, ℕ, ◌+◌, ◌-◌, ◌<◌, ◌≤◌, inl, inr, Bool, List, length, sym, arith, subst, IsTrue, set}
use Rattle.std.specs.Prelude.{min, max}
use Rattle.std.specs.List.{sum_by}
use Rattle.std.proofs.lemmas.Bool.{cases_lt}
use Rattle.std.proofs.lemmas.List.Sums.{sum_by-set}
use Rattle.limits.specs.Limits.{most_order}
use Rattle.patterns.specs.Pattern.{has, neighbours_of}
use Rattle.min_tree.specs.Least.{IsFirstLeast, greatest}
use Rattle.elimination.specs.Elimination.{IsVertex, degree_of}
use Rattle.elimination.specs.Quotients.{Quotient, AreLinks, LeadsTo, at}
use Rattle.elimination.specs.Tables.{Tables}
use Rattle.elimination.specs.Twins.{is_near, IsTwinFound}
use Rattle.elimination.specs.Turns.{StandFor, CanGather, HasMarks, IsReleased, CanPair, IsChosen, quotient_of}
use Rattle.elimination.proofs.VertexLists.{length-part}
use Rattle.elimination.proofs.LinkLemmas.{relinked}
use Rattle.elimination.proofs.Groups.{degree_weighed}
use Rattle.elimination.proofs.Gatherings.{neighbour_within}
use Rattle.elimination.proofs.FoundTwins.{found_twins}
use Rattle.elimination.proofs.BoundSteps.{least_left, first_of_all, counted_bound}

module _ (q : Quotient) (t : Tables) (stand : StandFor q t)
    (few : q.order ≤ most_order) (w : ℕ) (vw : IsVertex q.order w) (lw : t.turn w ≡ 0)
    (v : ℕ) (f : IsFirstLeast t.bounds v) where
  pub the_first : IsVertex q.order v × (t.turn v ≡ 0) × (q.rep v ≡ v)
  the_first = least_left q t.turn t.groups t.sizes t.bounds stand.grouped stand.bounds few w vw lw v f

  pub can_gather : (row : List ℕ) → ((x : ℕ) → has row x ≡ q.joined v x) → CanGather q t v row
  can_gather row is = record {
    stand = stand;
    listed = record { here = the_first.1; stands = the_first.2; vertex = the_first.0; row = is };
  }

-- a neighbour of v with the same neighbours
pub record IsTwin (q : Quotient) (v other : ℕ) : Type 0 where
  pub vertex : IsVertex q.order other
  pub near : IsTrue (q.left v other)
  pub stands : q.rep other ≡ other
  pub twins : (z : ℕ) → is_near q.left other z ≡ is_near q.left v z

module _ (q : Quotient) (t : Tables) (v : ℕ) (m : HasMarks q t v) where
  neighbour : (a x : ℕ) → IsTrue (q.left a x) → IsVertex q.order x
  neighbour = neighbour_within q t.turn t.links t.rims v t.near t.touched t.seen m.gathered

  pub degree_is : at t.sizes v + sum_by (at t.sizes) t.near ≡ degree_of q.left q.order v + 1
  degree_is =
      let g = m.gathered in
      degree_weighed q t.turn t.groups t.sizes m.grouped g.quotient.plain g.quotient.parted.alive v t.near t.touched g.hood
      g.vertex g.here g.stands neighbour

  pub near_few : length t.near ≤ q.order
  near_few = length-part q.order t.near (record { vertices = m.gathered.hood.vertices; once = m.gathered.hood.once })

  pub the_twin : (rows : List (List ℕ)) (degree other : ℕ) → ((x : ℕ) → has (neighbours_of rows other) x ≡ q.joined other x)
      → degree ≡ degree_of q.left q.order v → IsTwinFound t rows degree other → IsTwin q v other
  the_twin rows degree other row_is is found =
      let g = m.gathered in
      let s = g.hood.sound other found.near_it in
      let vertex = neighbour v other s.0 in
      let low = m.bounds.low other vertex (g.quotient.parted.alive v other s.0).1 s.1 in
      let most = found.most in
      record {
        vertex = vertex;
        near = s.0;
        stands = s.1;
        twins = found_twins q t.turn t.links t.rims v t.near t.touched t.seen t.groups t.sizes g m.grouped other (neighbours_of rows other)
            row_is found.near_it (found.marked q.part g.quotient.leads) (omega arith);
      }

-- by links that were shortened
pub marked_still : (q : Quotient) (t : Tables) (v : ℕ) → HasMarks q t v → (links' : List ℕ) → length links' ≡ length t.links
    → AreLinks t.turn links' → LeadsTo t.turn q.part links' → HasMarks q (record t { links = links' }) v
marked_still q t v m links' len linked leads =
    let g = m.gathered in
    record {
      gathered = record {
        quotient = relinked g.quotient len linked leads;
        here = g.here;
        stands = g.stands;
        vertex = g.vertex;
        hood = g.hood;
        marks = g.marks;
      };
      grouped = m.grouped;
      bounds = m.bounds;
    }

-- v is the first of all
pub the_choice : (rows : List (List ℕ)) (left : ℕ → ℕ → Bool) (part : ℕ → ℕ) (rim : ℕ → ℕ → Bool) (rep : ℕ → ℕ) (t : Tables) (v : ℕ)
    → IsReleased (quotient_of rows left part rim rep) t v → IsFirstLeast t.bounds v → degree_of left (length rows) v ≤ at t.bounds v
    → IsChosen rows left t v
the_choice rows left part rim rep t v r f le = record {
  part = part;
  rim = rim;
  rep = rep;
  released = r;
  first = first_of_all (quotient_of rows left part rim rep) t.turn t.groups t.sizes t.bounds r.stand.grouped r.stand.bounds
      r.stand.quotient.plain v f le;
}

in_order : (P : ℕ → ℕ → Type 0) (a b : ℕ) → a ≢ b → (a < b → P a b) → (b < a → P b a) → P (min a b) (max a b)
in_order P a b ne below above = elim (cases_lt a b) [
  | inl lt ↦ (
      let least : min a b ≡ a = omega arith in
      let most : max a b ≡ b = omega arith in
      subst (λ x. P x (max a b)) (sym least) (subst (λ y. P a y) (sym most) (below lt))
      )
  | inr ge ↦ (
      let least : min a b ≡ b = omega arith in
      let most : max a b ≡ a = omega arith in
      subst (λ x. P x (max a b)) (sym least) (subst (λ y. P b y) (sym most) (above (omega arith)))
      )
]

module _ (q : Quotient) (t : Tables) (v : ℕ) (r : IsReleased q t v) (degree : ℕ) (is : degree ≡ degree_of q.left q.order v) where
  -- the bound of v is raised
  pub raised : StandFor q (record t { bounds = set t.bounds v degree })
  raised = record {
    quotient = r.stand.quotient;
    hidden = r.stand.hidden;
    grouped = r.stand.grouped;
    bounds = counted_bound q t.turn t.bounds r.stand.bounds v r.vertex r.here r.stands degree is;
  }

  -- .. and the lesser of v and its twin can come to stand for the other
  pub can_join : (other : ℕ) → q.order ≤ most_order → IsTwin q v other
      → CanPair q (record t { bounds = set t.bounds v degree }) (min v other) (max v other)
  can_join other few w =
      let gone = (r.stand.quotient.parted.alive v other w.near).1 in
      let apart : v ≢ other = λ e. r.stand.quotient.plain.irreflexive v (subst (λ z. IsTrue (q.left v z)) (sym e) w.near) in
      in_order (CanPair q (record t { bounds = set t.bounds v degree })) v other apart
      (λ lt. record {
        stand = raised;
        few = few;
        before = lt;
        vertices = (r.vertex, w.vertex);
        here = (r.here, gone);
        stands = (r.stands, w.stands);
        twins = w.twins;
      })
      (λ gt. record {
        stand = raised;
        few = few;
        before = gt;
        vertices = (w.vertex, r.vertex);
        here = (gone, r.here);
        stands = (w.stands, r.stands);
        twins = λ z. sym (w.twins z);
      })

-- what the bounds lack to the greatest falls as one is raised ..
pub falls : (keys : List ℕ) (v degree : ℕ) → v < length keys → at keys v < degree → degree < greatest
    → sum_by (λ x. greatest - x) (set keys v degree) < sum_by (λ x. greatest - x) keys
falls keys v degree lt less most = let a = sum_by-set (λ x. greatest - x) keys v degree 0 lt in omega arith

-- .. and does not rise as one is put away
pub falls_on : (keys : List ℕ) (other : ℕ) → other < length keys
    → sum_by (λ x. greatest - x) (set keys other greatest) ≤ sum_by (λ x. greatest - x) keys
falls_on keys other lt = let a = sum_by-set (λ x. greatest - x) keys other greatest 0 lt in omega arith
