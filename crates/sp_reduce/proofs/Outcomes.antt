-- The links at the start, and what is left of them at the end: the term of the one link, or an irreducible rest.
use Rattle.std.proofs.Common.{◌≡◌, ℕ, zero, suc, ◌+◌, ◌<◌, ◌≤◌, Bool, true, false, cond, eqb, refl, sym, ap, subst}
use Rattle.std.proofs.Common.{arith, ◌∙◌, List, [], ◌∷◌, ◌++◌, length, map, drop, take, get_or, Option, None}
use Rattle.std.specs.Prelude.{IsPermutation}
use Rattle.std.specs.List.{sum_by}
use Rattle.std.proofs.lemmas.List.{append-nil, drop_more, length-map, take_more}
use Rattle.std.proofs.lemmas.List.Sums.{sum_by-cons}
use Rattle.std.proofs.lemmas.List.Sorted.{IsPermutation-trans, length_permutation, sum_by-IsPermutation}
use Rattle.mp_system.specs.declared.system.Item.{Item}
use Rattle.graphs.specs.declared.arc.Arc.{Arc}
use Rattle.graphs.specs.Graph.{end_of, item_of_arc}
use Rattle.sp_reduce.specs.declared.link.Link.{Link}
use Rattle.sp_reduce.specs.declared.piece.Piece.{Piece}
use Rattle.sp_reduce.specs.Nets.{Net}
use Rattle.sp_reduce.specs.NetGraphs.{arc, Makes, IsSingle}
use Rattle.sp_reduce.specs.NetGraphs as nets
use Rattle.sp_reduce.specs.Forests.{Edge, dead, arcs_of, IsNetForest}
use Rattle.sp_reduce.specs.Outcome.{IsOutcome}
use Rattle.sp_reduce.specs.Pieces.{net_at, nets_of, edges_of, IsCarried}
use Rattle.sp_reduce.specs.Reductions.{IsIrreducible, ends_of}
use Rattle.sp_reduce.specs.Work.{no_link, link_at, hit, link_weight, sum_links, graph_of, pairs_of, IsWork, IsLink}
use Rattle.sp_reduce.proofs.Forests.{forest-first, forest-yes, forest-no}
use Rattle.sp_reduce.proofs.Rows.{pairs-sum, pairs-irreducible}
use Rattle.sp_reduce.proofs.Planted.{pairs-append}
use Rattle.sp_reduce.proofs.Carried.{edges-sum, edges-length, live-edge}

-- ---- the start

pub work-start : (n : ℕ) (rank : ℕ → ℕ) (ins outs in_at out_at : List ℕ) (table : ℕ → Option ℕ)
    → (length ins ≡ suc n) × (length outs ≡ suc n) × (length in_at ≡ suc n) × (length out_at ≡ suc n)
    → ((v : ℕ) → (get_or ins v 0 ≡ 0) × (get_or outs v 0 ≡ 0)) → IsWork n rank [] ins outs in_at out_at table
work-start n rank ins outs in_at out_at table lens zeros = record {
  lens = lens;
  inside = λ x lt a. absurd (omega (arith, lt));
  rising = λ x lt a. absurd (omega (arith, lt));
  ins_are = λ v le. (zeros v).0;
  outs_are = λ v le. (zeros v).1;
  in_at_is = λ v le some. absurd (omega (arith, some, (zeros v).0));
  out_at_is = λ v le some. absurd (omega (arith, some, (zeros v).1));
  keyed = λ x lt a. absurd (omega (arith, lt));
}

pub carried-start : (graph : List Item) → IsCarried graph graph [] [] []
carried-start graph = record {
  lens = refl;
  made = λ i lt. absurd (omega (arith, lt));
  within = λ x lt a. absurd (omega (arith, lt));
  forest = forest-first graph;
}

pub links-le-length : (g : ℕ → ℕ → ℕ) → ((a b : ℕ) → g a b ≤ 1) → (links : List Link) → sum_links g links ≤ length links
links-le-length g one [] = omega arith
links-le-length g one (l ∷ ls) = omega (arith, links-le-length g one ls, sum_by-cons (link_weight g) l ls, here l.alive) where
  here : (b : Bool) → cond b (g l.from l.to) 0 ≤ 1
  here true = one l.from l.to
  here false = omega arith

-- ---- the graph that is left

abbrev arc_of : ℕ × ℕ → Item
arc_of e = arc (end_of e.0) 0 (end_of e.1)

graph-pairs : (links : List Link) → graph_of links ≡ map arc_of (pairs_of links)
graph-pairs [] = refl
graph-pairs (l ∷ ls) = here l.alive (graph-pairs ls) where
  here : (b : Bool) → graph_of ls ≡ map arc_of (pairs_of ls)
      → cond b (arc (end_of l.from) 0 (end_of l.to) ∷ graph_of ls) (graph_of ls)
      ≡ map arc_of (cond b ((l.from, l.to) ∷ pairs_of ls) (pairs_of ls))
  here true e = ap (λ (xs : List Item). arc (end_of l.from) 0 (end_of l.to) ∷ xs) e
  here false e = e

end-none : (v : ℕ) → end_of v ≡ None → v ≡ 0
end-none zero e = refl
end-none (suc v) e = absurd cc

one-arc : (ps : List (ℕ × ℕ)) (n : ℕ) → map arc_of ps ≡ arc None n None ∷ [] → ps ≡ (0, 0) ∷ []
one-arc [] n e = absurd cc
one-arc (x ∷ y ∷ ps) n e = absurd (let len : length (map arc_of (x ∷ y ∷ ps)) ≡ 1 = ap length e in omega (arith, len, length-map ps arc_of))
one-arc (x ∷ []) n e =
    let same : arc_of x ≡ arc None n None = ap (λ (xs : List Item). first_of xs) e in
    let a = end-none x.0 (ap (λ (y : Item). y.from) same) in
    let b = end-none x.1 (ap (λ (y : Item). y.to) same) in
    λ i. (a i, b i) ∷ []
  where
    first_of : List Item → Item
    first_of [] = arc None 0 None
    first_of (y ∷ ys) = y

pub not-single : (links : List Link) → (pairs_of links ≡ (0, 0) ∷ [] → ⊥) → IsSingle (graph_of links) → ⊥
not-single links other s = other (one-arc (pairs_of links) s.0 (sym (graph-pairs links) ∙ s.1))

arcs-edges : (nets : List Net) (links : List Link) (nodes : List ℕ) → arcs_of (edges_of nets links nodes) ≡ graph_of links
arcs-edges nets [] nodes = refl
arcs-edges nets (l ∷ ls) nodes = go nodes (arcs-edges nets ls []) (λ m. arcs-edges nets ls m) where
  here : (b : Bool) (n : ℕ) (es : List Edge) → arcs_of es ≡ graph_of ls
      → arcs_of (cond b (record { alive = true; from = end_of l.from; net = net_at nets n; to = end_of l.to }) dead ∷ es)
      ≡ cond b (arc (end_of l.from) 0 (end_of l.to) ∷ graph_of ls) (graph_of ls)
  here true n es e = ap (λ (xs : List Item). arc (end_of l.from) 0 (end_of l.to) ∷ xs) e
  here false n es e = e

  go : (ns : List ℕ) → arcs_of (edges_of nets ls []) ≡ graph_of ls
      → ((m : List ℕ) → arcs_of (edges_of nets ls m) ≡ graph_of ls) → arcs_of (edges_of nets (l ∷ ls) ns) ≡ graph_of (l ∷ ls)
  go [] none some = here l.alive 0 (edges_of nets ls []) none
  go (n ∷ m) none some = here l.alive n (edges_of nets ls m) (some m)

no-more : (es : List Edge) → es ++ [] ≡ es
no-more [] = refl
no-more (e ∷ es) = ap (λ (xs : List Edge). e ∷ xs) (no-more es)

ones-length : (xs : List (ℕ × ℕ)) → sum_by (λ x. 1) xs ≡ length xs
ones-length [] = refl
ones-length (x ∷ xs) = omega (arith, sum_by-cons (λ (y : ℕ × ℕ). 1) x xs, ones-length xs)

module _ (arcs : List Arc) (links : List Link) (nodes : List ℕ) (pieces : List Piece) (o : IsOutcome arcs links nodes pieces) where
  forest : IsNetForest (map item_of_arc arcs) (edges_of (nets_of pieces) links nodes)
  forest = subst (IsNetForest (map item_of_arc arcs)) (no-more (edges_of (nets_of pieces) links nodes)) o.carried.forest

  pub node-within : (x : ℕ) → IsLink links x 0 0 → get_or nodes x 0 < length pieces
  node-within x l = o.carried.within x l.within l.alive

  -- one link is left, from none to none: its term makes the graph
  pub outcome-makes : (x : ℕ) → IsLink links x 0 0 → pairs_of links ≡ (0, 0) ∷ []
      → Makes (net_at (nets_of pieces) (get_or nodes x 0)) (map item_of_arc arcs)
  outcome-makes x l one =
      forest-yes (map item_of_arc arcs) (edges_of (nets_of pieces) links nodes) x (net_at (nets_of pieces) (get_or nodes x 0)) forest
      (omega (arith, edges-length (nets_of pieces) links nodes, l.within)) (live-edge (nets_of pieces) links nodes x 0 0 l)
      (edges-sum (λ p q. 1) (nets_of pieces) links nodes ∙ sym (pairs-sum (λ e. 1) links) ∙ ones-length (pairs_of links) ∙ ap length one)

  -- something else is left: no net makes the graph
  pub outcome-none : (pairs_of links ≡ (0, 0) ∷ [] → ⊥) → (t : Net) → Makes t (map item_of_arc arcs) → ⊥
  outcome-none other t m =
      let same = arcs-edges (nets_of pieces) links nodes in
      forest-no (map item_of_arc arcs) (edges_of (nets_of pieces) links nodes) forest (subst nets.IsIrreducible (sym same) o.irreducible)
      (λ s. not-single links other (subst IsSingle same s)) t m

  pub outcome-irreducible : IsIrreducible (pairs_of links)
  outcome-irreducible = pairs-irreducible links o.irreducible

-- ---- another order

pub irreducible-order : (g h : List (ℕ × ℕ)) → IsPermutation g h → IsIrreducible g → IsIrreducible h
irreducible-order g h p ir = record {
  no_parallel = λ after r. ir.no_parallel after (record {
    from = r.from;
    to = r.to;
    rest = r.rest;
    was = IsPermutation-trans g h ((r.from, r.to) ∷ (r.from, r.to) ∷ r.rest) p r.was;
    is = r.is;
  });
  no_series = λ after r. ir.no_series after (record {
    from = r.from;
    to = r.to;
    task = r.task;
    is_task = r.is_task;
    rest = r.rest;
    was = IsPermutation-trans g h ((r.from, r.task) ∷ (r.task, r.to) ∷ r.rest) p r.was;
    is = r.is;
    one_in = sym (sum_by-IsPermutation (λ (a : ℕ × ℕ). cond {A = ℕ} (eqb a.1 r.task) 1 0) g h p) ∙ r.one_in;
    one_out = sym (sum_by-IsPermutation (λ (a : ℕ × ℕ). cond {A = ℕ} (eqb a.0 r.task) 1 0) g h p) ∙ r.one_out;
  });
}

-- a list in another order than that of one element alone
pub one-order : (xs : List (ℕ × ℕ)) → IsPermutation xs ((0, 0) ∷ []) → xs ≡ (0, 0) ∷ []
one-order [] p = absurd (omega (arith, length_permutation [] ((0, 0) ∷ []) p))
one-order (x ∷ y ∷ xs) p = absurd (omega (arith, length_permutation (x ∷ y ∷ xs) ((0, 0) ∷ []) p))
one-order (x ∷ []) p =
    let one = sum_by-IsPermutation (λ (e : ℕ × ℕ). e.0) (x ∷ []) ((0, 0) ∷ []) p in
    let two = sum_by-IsPermutation (λ (e : ℕ × ℕ). e.1) (x ∷ []) ((0, 0) ∷ []) p in
    let a : x.0 ≡ 0 = omega (arith, one, sum_by-cons (λ (e : ℕ × ℕ). e.0) x [], sum_by-cons (λ (e : ℕ × ℕ). e.0) (0, 0) []) in
    let b : x.1 ≡ 0 = omega (arith, two, sum_by-cons (λ (e : ℕ × ℕ). e.1) x [], sum_by-cons (λ (e : ℕ × ℕ). e.1) (0, 0) []) in
    λ i. (a i, b i) ∷ []

-- ---- the one link

module _ (links : List Link) (i : ℕ) (lt : i < length links) where
  cut : drop i links ≡ link_at links i ∷ drop (i + 1) links
  cut = drop_more links i no_link lt

  pub drop-dead : (link_at links i).alive ≡ false → pairs_of (drop i links) ≡ pairs_of (drop (i + 1) links)
  drop-dead dead_one = ap pairs_of cut
      ∙ ap (λ b. cond b (((link_at links i).from, (link_at links i).to) ∷ pairs_of (drop (i + 1) links)) (pairs_of (drop (i + 1) links)))
      dead_one

  pub drop-alive : (link_at links i).alive ≡ true
      → pairs_of (drop i links) ≡ ((link_at links i).from, (link_at links i).to) ∷ pairs_of (drop (i + 1) links)
  drop-alive live = ap pairs_of cut
      ∙ ap (λ b. cond b (((link_at links i).from, (link_at links i).to) ∷ pairs_of (drop (i + 1) links)) (pairs_of (drop (i + 1) links)))
      live

  pub the-link : (link_at links i).alive ≡ true → pairs_of links ≡ pairs_of (drop i links)
      → pairs_of links ≡ (0, 0) ∷ [] → IsLink links i 0 0
  the-link live same one =
      let e : ((link_at links i).from, (link_at links i).to) ∷ pairs_of (drop (i + 1) links) ≡ (0, 0) ∷ [] =
      sym (same ∙ drop-alive live) ∙ one in
      record {
        within = lt;
        alive = live;
        from = ap (λ (xs : List (ℕ × ℕ)). (get_or xs 0 (0, 0)).0) e;
        to = ap (λ (xs : List (ℕ × ℕ)). (get_or xs 0 (0, 0)).1) e;
      }

pub one-list : (xs : List (ℕ × ℕ)) (d : ℕ × ℕ) → length xs ≡ 1 → (get_or xs 0 d).0 ≡ 0 → (get_or xs 0 d).1 ≡ 0 → xs ≡ (0, 0) ∷ []
one-list [] d e a b = absurd (omega arith)
one-list (x ∷ []) d e a b = λ i. (a i, b i) ∷ []
one-list (x ∷ y ∷ xs) d e a b = absurd (omega arith)

-- ---- one arc more

pub carried-empty : (graph : List Item) (pieces : List Piece) (links : List Link) (nodes : List ℕ)
    → pieces ≡ [] → links ≡ [] → nodes ≡ [] → IsCarried graph graph pieces links nodes
carried-empty graph pieces links nodes a b c =
    subst (λ (ps : List Piece). IsCarried graph graph ps links nodes) (sym a)
    (subst (λ (ls : List Link). IsCarried graph graph [] ls nodes) (sym b)
    (subst (λ (ns : List ℕ). IsCarried graph graph [] [] ns) (sym c) (carried-start graph)))

pub item-next : (arcs : List Arc) (d : Arc) (i : ℕ) → i < length arcs
    → map item_of_arc (drop i arcs) ≡ item_of_arc (get_or arcs i d) ∷ map item_of_arc (drop (i + 1) arcs)
item-next arcs d i lt = ap (map item_of_arc) (drop_more arcs i d lt)

pub ends-next : (arcs : List Arc) (d : Arc) (i : ℕ) → i < length arcs
    → map ends_of (drop i arcs) ≡ ends_of (get_or arcs i d) ∷ map ends_of (drop (i + 1) arcs)
ends-next arcs d i lt = ap (map ends_of) (drop_more arcs i d lt)

-- ---- the ends that are left

module _ (links : List Link) (i : ℕ) (lt : i < length links) where
  taken : pairs_of (take (i + 1) links) ≡ pairs_of (take i links) ++ pairs_of (link_at links i ∷ [])
  taken = ap pairs_of (take_more links i no_link lt) ∙ pairs-append (take i links) (link_at links i ∷ [])

  pub take-dead : (link_at links i).alive ≡ false → pairs_of (take (i + 1) links) ≡ pairs_of (take i links)
  take-dead dead_one =
      taken ∙ ap (λ b. pairs_of (take i links) ++ cond b (((link_at links i).from, (link_at links i).to) ∷ []) []) dead_one
      ∙ append-nil (pairs_of (take i links))

  pub take-alive : (link_at links i).alive ≡ true
      → pairs_of (take (i + 1) links) ≡ pairs_of (take i links) ++ ((link_at links i).from, (link_at links i).to) ∷ []
  take-alive live = taken ∙ ap (λ b. pairs_of (take i links) ++ cond b (((link_at links i).from, (link_at links i).to) ∷ []) []) live

abbrev pub no_arc : Arc
no_arc = record { from = 0; to = 0; size = 0 }

pub hit-le : (a b : ℕ) → hit a b ≤ 1
hit-le a b = go (eqb a b) where
  go : (x : Bool) → cond {A = ℕ} x 1 0 ≤ 1
  go true = omega arith
  go false = omega arith
