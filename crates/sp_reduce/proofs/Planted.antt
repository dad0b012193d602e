-- One arc more among the links: a new link, or a part of the term of its twin.
use Rattle.std.proofs.Common.{◌≡◌, ℕ, ◌+◌, ◌<◌, Bool, true, false, cond, refl, sym, subst, ap, arith, ◌∙◌, List, []}
use Rattle.std.proofs.Common.{◌∷◌, ◌++◌, length, Option, Some, get_or, set, length-append, inl, inr, append_assoc}
use Rattle.std.specs.List.{sum_by}
use Rattle.std.proofs.lemmas.List.{length-set, get_or-set_same, get_or-set_other, set-append_left, get_or_append_left, get_or_push}
use Rattle.std.proofs.Math.Seq.{get_or-append_seam, set-append_seam}
use Rattle.std.proofs.lemmas.List.Sums.{sum_by-cons, sum_by-append, sum_by-set}
use Rattle.std.proofs.lemmas.List.Sorted.{IsPermutation-refl}
use Rattle.std.proofs.lemmas.Bool.{cases_eq}
use Rattle.mp_system.specs.declared.system.Item.{Item}
use Rattle.graphs.specs.Graph.{end_of}
use Rattle.sp_reduce.specs.declared.link.Link.{Link}
use Rattle.sp_reduce.specs.declared.piece.Piece.{Piece}
use Rattle.sp_reduce.specs.declared.piece.Piece.TheVariants.{Hold, Both}
use Rattle.sp_reduce.specs.Nets.{Net, hold, both, times, hits}
use Rattle.sp_reduce.specs.NetGraphs.{arc, Fits}
use Rattle.sp_reduce.specs.Forests.{Edge, dead, edge_weight, total, arcs_of, IsNetForest, planted}
use Rattle.sp_reduce.specs.Reductions.{ReducesTo, in_order, by_parallel}
use Rattle.sp_reduce.specs.Work.{no_link, link_at, link, link_weight, pairs_of, IsLink}
use Rattle.sp_reduce.specs.Pieces.{net_at, nets_of, edge_of, edges_of, IsCarried}
use Rattle.sp_reduce.proofs.Forests.{forest-parallel}
use Rattle.sp_reduce.proofs.Works.{alive-weight}
use Rattle.sp_reduce.proofs.Rows.{pairs-weighed, pairs-sum}
use Rattle.sp_reduce.proofs.Carried.{made-push, new-net, old-net, edges-push, edges-node, edges-length, live-edge}

-- ---- a dead edge counts for nothing

dead-total : (f : Option ℕ → Net → Option ℕ → ℕ) (xs ys : List Edge) → total f (xs ++ dead ∷ ys) ≡ total f (xs ++ ys)
dead-total f xs ys =
    omega (arith, sum_by-append (edge_weight f) xs (dead ∷ ys), sum_by-cons (edge_weight f) dead ys, sum_by-append (edge_weight f) xs ys)

dead-arcs : (xs ys : List Edge) → arcs_of (xs ++ dead ∷ ys) ≡ arcs_of (xs ++ ys)
dead-arcs [] ys = refl
dead-arcs (x ∷ xs) ys = λ i. cond x.alive (arc x.from 0 x.to ∷ dead-arcs xs ys i) (dead-arcs xs ys i)

forest-dead : (graph : List Item) (xs ys : List Edge) → IsNetForest graph (xs ++ dead ∷ ys) → IsNetForest graph (xs ++ ys)
forest-dead graph xs ys h = record {
  whole = λ f. sym (dead-total _ xs ys) ∙ h.whole f;
  once = λ v. omega (arith, h.once v, dead-total (λ p n q. times v n) xs ys);
  open_tasks = λ v some. omega (
    arith,
    h.open_tasks v (omega (arith, some, dead-total (λ p n q. hits q (Some v)) xs ys)),
    dead-total (λ p n q. times v n) xs ys,
  );
  keeps = λ t fits. let u = h.keeps t fits in (u.0, subst (Fits u.0) (dead-arcs xs ys) u.1);
}

-- ---- a new link

edges-append : (nets : List Net) (ls : List Link) (ns : List ℕ) (l : Link) (n : ℕ) → length ns ≡ length ls
    → edges_of nets (ls ++ l ∷ []) (ns ++ n ∷ []) ≡ edges_of nets ls ns ++ edge_of nets l n ∷ []
edges-append nets [] [] l n e = refl
edges-append nets [] (y ∷ ns) l n e = absurd (omega arith)
edges-append nets (x ∷ ls) [] l n e = absurd (omega arith)
edges-append nets (x ∷ ls) (y ∷ ns) l n e = ap (λ (es : List Edge). edge_of nets x y ∷ es) (edges-append nets ls ns l n (omega arith))

module _ (graph rest : List Item) (ps : List Piece) (links : List Link) (nodes : List ℕ) (p size q : ℕ)
    (h : IsCarried graph (record { size = size; from = end_of p; to = end_of q } ∷ rest) ps links nodes) where
  within-one : (x : ℕ) → x < length links → (link_at links x).alive ≡ true → get_or nodes x 0 < length (ps ++ Hold size ∷ [])
  within-one x lt a = omega (arith, h.within x lt a, length-append ps (Hold size ∷ []))

  pub carried-new : IsCarried graph rest (ps ++ Hold size ∷ []) (links ++ link p q ∷ []) (nodes ++ length ps ∷ [])
  carried-new =
      let x = Hold size in
      let nets = nets_of (ps ++ x ∷ []) in
      let es = edges_of (nets_of ps) links nodes in
      let own : Edge = record { alive = true; from = end_of p; net = hold size; to = end_of q } in
      let edges : edges_of nets (links ++ link p q ∷ []) (nodes ++ length ps ∷ []) ≡ es ++ own ∷ [] =
      edges-append nets links nodes (link p q) (length ps) h.lens
      ∙ (λ i. edges-push ps x links nodes h.within i ++ record {
        alive = true;
        from = end_of p;
        net = new-net ps x (length ps) refl i;
        to = end_of q;
      } ∷ []) in
      record {
        lens = omega (arith, h.lens, length-append nodes (length ps ∷ []), length-append links (link p q ∷ []));
        made = made-push ps x h.made tt;
        within = λ y lt a. elim (cases_eq y (length links)) [
          | inl e ↦ omega (
            arith,
            ap (λ (z : ℕ). get_or (nodes ++ length ps ∷ []) z 0) e,
            get_or_push nodes (length ps) 0 (length links) h.lens,
            length-append ps (x ∷ []),
          )
          | inr ne ↦ (let short : y < length links = omega (arith, lt, ne, length-append links (link p q ∷ [])) in
              omega (
                arith,
                get_or_append_left nodes (length ps ∷ []) 0 y (omega (arith, short, h.lens)),
                within-one y short (sym (ap (λ (z : Link). z.alive) (get_or_append_left links (link p q ∷ []) no_link y short)) ∙ a),
              ))
        ];
        forest = subst (IsNetForest graph)
            (sym (ap (λ (xs : List Edge). xs ++ planted rest) edges ∙ append_assoc es (own ∷ []) (planted rest))) h.forest;
      }

  -- ---- a part of the term of its twin

  module _ (k : ℕ) (twin : IsLink links k p q) where
    pub carried-twin : (m : ℕ) → m ≡ length ps + 1
        → IsCarried graph rest ((ps ++ Hold size ∷ []) ++ Both (get_or nodes k 0) (length ps) ∷ []) links (set nodes k m)
    carried-twin m m_is =
        let x = Hold size in
        let y = Both (get_or nodes k 0) (length ps) in
        let ps1 = ps ++ x ∷ [] in
        let nets = nets_of (ps1 ++ y ∷ []) in
        let es = edges_of (nets_of ps) links nodes in
        let len : length es ≡ length links = edges-length (nets_of ps) links nodes in
        let own : Edge = record { alive = true; from = end_of p; net = hold size; to = end_of q } in
        let joined : Edge =
        record { alive = true; from = end_of p; net = both (net_at (nets_of ps) (get_or nodes k 0)) (hold size); to = end_of q } in
        let long : length ps1 ≡ length ps + 1 = length-append ps (x ∷ []) in
        let made = forest-parallel (es ++ own ∷ planted rest) k (length es) (end_of p)
        (end_of q) (end_of p) (end_of q) (net_at (nets_of ps) (get_or nodes k 0)) (hold size)
        (omega (arith, length-append es (own ∷ planted rest), len, twin.within))
        (omega (arith, length-append es (own ∷ planted rest))) (omega (arith, len, twin.within))
        (get_or_append_left es (own ∷ planted rest) dead k (omega (arith, len, twin.within))
        ∙ live-edge (nets_of ps) links nodes k p q twin)
        (get_or-append_seam es own (planted rest) dead) graph h.forest refl refl in
        let written : set (set (es ++ own ∷ planted rest) k joined) (length es) dead ≡ set es k joined ++ dead ∷ planted rest =
        ap (λ (zs : List Edge). set zs (length es) dead)
        (set-append_left es (own ∷ planted rest) k joined (omega (arith, len, twin.within)))
        ∙ ap (λ (n : ℕ). set (set es k joined ++ own ∷ planted rest) n dead) (sym (length-set es k joined))
        ∙ set-append_seam (set es k joined) own (planted rest) dead in
        let here : edge_of nets (link_at links k) m ≡ joined =
        ap (λ b. cond b (record {
          alive = true;
          from = end_of (link_at links k).from;
          net = net_at nets m;
          to = end_of (link_at links k).to;
        }) dead) twin.alive
        ∙ (λ z. record { alive = true; from = end_of (twin.from z); net = new-net ps1 y m (m_is ∙ sym long) z; to = end_of (twin.to z) })
        ∙ (λ z. record {
          alive = true;
          from = end_of p;
          net = both (old-net ps x (get_or nodes k 0) (h.within k twin.within twin.alive) z) (new-net ps x (length ps) refl z);
          to = end_of q;
        }) in
        let edges : edges_of nets links (set nodes k m) ≡ set es k joined =
        edges-node nets links nodes k m h.lens
        ∙ (λ z. set ((edges-push ps1 y links nodes within-one ∙ edges-push ps x links nodes h.within) z) k (here z)) in
        record {
          lens = length-set nodes k m ∙ h.lens;
          made = made-push ps1 y (made-push ps x h.made tt) (omega (arith, long, h.within k twin.within twin.alive), omega (arith, long));
          within = λ u lt a. elim (cases_eq u k) [
            | inl e ↦ omega (
              arith,
              ap (λ (z : ℕ). get_or (set nodes k m) z 0) e,
              get_or-set_same nodes k m 0 (omega (arith, h.lens, twin.within)),
              length-append ps1 (y ∷ []),
              long,
              m_is,
            )
            | inr ne ↦ omega (arith, get_or-set_other nodes k u m 0 ne, length-append ps1 (y ∷ []), long, h.within u lt a)
          ];
          forest = subst (λ (zs : List Edge). IsNetForest graph (zs ++ planted rest)) (sym edges)
              (forest-dead graph (set es k joined) (planted rest) (subst (IsNetForest graph) written made));
        }

-- ---- the rows

pub pairs-append : (xs ys : List Link) → pairs_of (xs ++ ys) ≡ pairs_of xs ++ pairs_of ys
pairs-append [] ys = refl
pairs-append (x ∷ xs) ys = here x.alive (pairs-append xs ys) where
  here : (b : Bool) → pairs_of (xs ++ ys) ≡ pairs_of xs ++ pairs_of ys
      → cond b ((x.from, x.to) ∷ pairs_of (xs ++ ys)) (pairs_of (xs ++ ys))
      ≡ cond b ((x.from, x.to) ∷ pairs_of xs) (pairs_of xs) ++ pairs_of ys
  here true e = ap (λ (zs : List (ℕ × ℕ)). (x.from, x.to) ∷ zs) e
  here false e = e

pub leads-new : (links : List Link) (p q : ℕ) (rest : List (ℕ × ℕ))
    → ReducesTo (pairs_of links ++ (p, q) ∷ rest) (pairs_of (links ++ link p q ∷ []) ++ rest)
leads-new links p q rest =
    let same : pairs_of (links ++ link p q ∷ []) ++ rest ≡ pairs_of links ++ (p, q) ∷ rest =
    ap (λ (zs : List (ℕ × ℕ)). zs ++ rest) (pairs-append links (link p q ∷ [])) ∙ append_assoc (pairs_of links) ((p, q) ∷ []) rest in
    subst (ReducesTo (pairs_of links ++ (p, q) ∷ rest)) (sym same) (in_order (IsPermutation-refl (pairs_of links ++ (p, q) ∷ rest)))

pub leads-twin : (links : List Link) (p q : ℕ) (rest : List (ℕ × ℕ)) (k : ℕ)
    → IsLink links k p q → ReducesTo (pairs_of links ++ (p, q) ∷ rest) (pairs_of links ++ rest)
leads-twin links p q rest k twin =
    let gone = set links k no_link in
    let left = pairs_of gone ++ rest in
    let one : (f : ℕ × ℕ → ℕ) → sum_by f (pairs_of links) ≡ f (p, q) + sum_by f (pairs_of gone) =
    λ f. omega (
      arith,
      pairs-sum f links,
      pairs-sum f gone,
      sum_by-set (link_weight (λ a b. f (a, b))) links k no_link no_link twin.within,
      alive-weight (λ a b. f (a, b)) (link_at links k) p q twin.alive twin.from twin.to,
    ) in
    by_parallel {h = pairs_of links ++ rest} (record {
      from = p;
      to = q;
      rest = left;
      was = pairs-weighed (pairs_of links ++ (p, q) ∷ rest) ((p, q) ∷ (p, q) ∷ left)
          (λ f. omega (
            arith,
            one f,
            sum_by-append f (pairs_of links) ((p, q) ∷ rest),
            sum_by-cons f (p, q) rest,
            sum_by-cons f (p, q) ((p, q) ∷ left),
            sum_by-cons f (p, q) left,
            sum_by-append f (pairs_of gone) rest,
          ));
      is = pairs-weighed (pairs_of links ++ rest) ((p, q) ∷ left)
          (λ f. omega
          (arith, one f, sum_by-append f (pairs_of links) rest, sum_by-cons f (p, q) left, sum_by-append f (pairs_of gone) rest));
    }) (in_order (IsPermutation-refl (pairs_of links ++ rest)))
