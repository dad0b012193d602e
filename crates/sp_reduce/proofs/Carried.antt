-- A piece more, and links that change, keep the terms of a forest.
use Rattle.std.proofs.Common.{◌≡◌, ◌≢◌, ℕ, zero, suc, ◌+◌, ◌<◌, ◌≤◌, Bool, true, false, cond, refl, sym, subst, ap, arith}
use Rattle.std.proofs.Common.{◌∙◌, List, [], ◌∷◌, ◌++◌, length, Option, Some, get_or, set, length-append, inl, inr}
use Rattle.std.proofs.lemmas.List.{set_comm, set-set, set-get_or, length-set, get_or-set_same}
use Rattle.std.proofs.lemmas.List.{get_or-set_other, get_or_append_left, get_or_push}
use Rattle.std.proofs.lemmas.List.Sums.{sum_by-cons}
use Rattle.std.proofs.lemmas.Bool.{cases_eq}
use Rattle.mp_system.specs.declared.system.Item.{Item}
use Rattle.graphs.specs.Graph.{end_of}
use Rattle.sp_reduce.specs.declared.link.Link.{Link}
use Rattle.sp_reduce.specs.declared.piece.Piece.{Piece}
use Rattle.sp_reduce.specs.declared.piece.Piece.TheVariants.{Hold, Series, Both}
use Rattle.sp_reduce.specs.Nets.{Net, hold, both, hits}
use Rattle.sp_reduce.specs.Forests.{Edge, dead, edge_weight, total, IsNetForest}
use Rattle.sp_reduce.specs.Work.{no_link, link_at, link, hit, link_weight, sum_links, IsLink}
use Rattle.sp_reduce.specs.Pieces.{net_at, piece_net, grown, nets_of, edge_of, edges_of, IsBuilt, piece_at, AreMade, IsCarried}
use Rattle.sp_reduce.proofs.Forests.{forest-parallel, forest-series}
use Rattle.sp_reduce.proofs.Works.{hits-end, end-some, counts-same}

-- ---- pieces

grown-push : (nets : List Net) (ps : List Piece) (p : Piece) → grown nets (ps ++ p ∷ []) ≡ grown nets ps ++ piece_net (grown nets ps) p ∷ []
grown-push nets [] p = refl
grown-push nets (x ∷ ps) p = grown-push (nets ++ piece_net nets x ∷ []) ps p

pub nets-push : (ps : List Piece) (p : Piece) → nets_of (ps ++ p ∷ []) ≡ nets_of ps ++ piece_net (nets_of ps) p ∷ []
nets-push ps p = grown-push [] ps p

grown-length : (nets : List Net) (ps : List Piece) → length (grown nets ps) ≡ length nets + length ps
grown-length nets [] = omega arith
grown-length nets (x ∷ ps) = omega (arith, grown-length (nets ++ piece_net nets x ∷ []) ps, length-append nets (piece_net nets x ∷ []))

pub nets-length : (ps : List Piece) → length (nets_of ps) ≡ length ps
nets-length ps = omega (arith, grown-length [] ps)

at-last : (xs : List Net) (y : Net) → get_or (xs ++ y ∷ []) (length xs) (hold 0) ≡ y
at-last [] y = refl
at-last (x ∷ xs) y = at-last xs y

-- the new piece's term, and the terms of the earlier ones
pub new-net : (ps : List Piece) (p : Piece) (at : ℕ) → at ≡ length ps → net_at (nets_of (ps ++ p ∷ [])) at ≡ piece_net (nets_of ps) p
new-net ps p at e =
    ap (λ (ns : List Net). get_or ns at (hold 0)) (nets-push ps p)
    ∙ ap (λ n. get_or (nets_of ps ++ piece_net (nets_of ps) p ∷ []) n (hold 0)) (e ∙ sym (nets-length ps))
    ∙ at-last (nets_of ps) (piece_net (nets_of ps) p)

pub old-net : (ps : List Piece) (p : Piece) (i : ℕ) → i < length ps → net_at (nets_of (ps ++ p ∷ [])) i ≡ net_at (nets_of ps) i
old-net ps p i h = ap (λ (ns : List Net). get_or ns i (hold 0)) (nets-push ps p)
    ∙ get_or_append_left (nets_of ps) (piece_net (nets_of ps) p ∷ []) (hold 0) i (omega (arith, nets-length ps))

-- a piece of earlier ones more
pub made-push : (ps : List Piece) (p : Piece) → AreMade ps → IsBuilt (length ps) p → AreMade (ps ++ p ∷ [])
made-push ps p made new i lt = elim (cases_eq i (length ps)) [
  | inl e ↦ subst (λ (k : ℕ). IsBuilt k (piece_at (ps ++ p ∷ []) k)) (sym e)
      (subst (IsBuilt (length ps)) (sym (get_or_push ps p (Hold 0) (length ps) refl)) new)
  | inr ne ↦ (let short : i < length ps = omega (arith, lt, ne, length-append ps (p ∷ [])) in
      subst (IsBuilt i) (sym (get_or_append_left ps (p ∷ []) (Hold 0) i short)) (made i short))
]

-- ---- edges

abbrev Within : List Piece → List Link → List ℕ → Type 0
Within ps links nodes = (x : ℕ) → x < length links → (link_at links x).alive ≡ true → get_or nodes x 0 < length ps

edge-push : (ps : List Piece) (p : Piece) (l : Link) (n : ℕ) → (l.alive ≡ true → n < length ps)
    → edge_of (nets_of (ps ++ p ∷ [])) l n ≡ edge_of (nets_of ps) l n
edge-push ps p l n h = here l.alive (λ a. h a)
  where
    here : (b : Bool) → (b ≡ true → n < length ps)
        → ◌≡◌ {A = Edge}
        (cond b (record { alive = true; from = end_of l.from; net = net_at (nets_of (ps ++ p ∷ [])) n; to = end_of l.to }) dead)
        (cond b (record { alive = true; from = end_of l.from; net = net_at (nets_of ps) n; to = end_of l.to }) dead)
    here true k = λ i. record { alive = true; from = end_of l.from; net = old-net ps p n (k refl) i; to = end_of l.to }
    here false k = refl

pub edges-push : (ps : List Piece) (p : Piece) (ls : List Link) (ns : List ℕ)
    → Within ps ls ns → edges_of (nets_of (ps ++ p ∷ [])) ls ns ≡ edges_of (nets_of ps) ls ns
edges-push ps p [] ns h = refl
edges-push ps p (l ∷ ls) [] h =
    λ i. edge-push ps p l 0 (λ a. h 0 (omega arith) a) i ∷ edges-push ps p ls [] (λ x lt a. h (suc x) (omega arith) a) i
edges-push ps p (l ∷ ls) (n ∷ ns) h =
    λ i. edge-push ps p l n (λ a. h 0 (omega arith) a) i ∷ edges-push ps p ls ns (λ x lt a. h (suc x) (omega arith) a) i

pub edges-set : (nets : List Net) (ls : List Link) (ns : List ℕ) (i : ℕ) (l : Link) (n : ℕ)
    → length ns ≡ length ls → edges_of nets (set ls i l) (set ns i n) ≡ set (edges_of nets ls ns) i (edge_of nets l n)
edges-set nets [] ns i l n e = refl
edges-set nets (x ∷ ls) [] i l n e = absurd (omega arith)
edges-set nets (x ∷ ls) (y ∷ ns) zero l n e = refl
edges-set nets (x ∷ ls) (y ∷ ns) (suc i) l n e = ap (λ (es : List Edge). edge_of nets x y ∷ es) (edges-set nets ls ns i l n (omega arith))

-- a link dies, and its piece stays where it is
edges-kill : (nets : List Net) (ls : List Link) (ns : List ℕ) (i : ℕ) → length ns ≡ length ls
    → edges_of nets (set ls i no_link) ns ≡ set (edges_of nets ls ns) i dead
edges-kill nets ls ns i e =
    ap (edges_of nets (set ls i no_link)) (sym (set-get_or ns i 0)) ∙ edges-set nets ls ns i no_link (get_or ns i 0) e

pub edges-node : (nets : List Net) (ls : List Link) (ns : List ℕ) (i n : ℕ) → length ns ≡ length ls
    → edges_of nets ls (set ns i n) ≡ set (edges_of nets ls ns) i (edge_of nets (link_at ls i) n)
edges-node nets ls ns i n e =
    ap (λ (xs : List Link). edges_of nets xs (set ns i n)) (sym (set-get_or ls i no_link)) ∙ edges-set nets ls ns i (link_at ls i) n e

pub get-edge : (nets : List Net) (ls : List Link) (ns : List ℕ) (i : ℕ) → i < length ls
    → get_or (edges_of nets ls ns) i dead ≡ edge_of nets (link_at ls i) (get_or ns i 0)
get-edge nets [] ns i h = absurd (omega arith)
get-edge nets (l ∷ ls) [] zero h = refl
get-edge nets (l ∷ ls) (n ∷ ns) zero h = refl
get-edge nets (l ∷ ls) [] (suc i) h = get-edge nets ls [] i (omega arith)
get-edge nets (l ∷ ls) (n ∷ ns) (suc i) h = get-edge nets ls ns i (omega arith)

pub edges-length : (nets : List Net) (ls : List Link) (ns : List ℕ) → length (edges_of nets ls ns) ≡ length ls
edges-length nets [] ns = refl
edges-length nets (l ∷ ls) [] = omega (arith, edges-length nets ls [])
edges-length nets (l ∷ ls) (n ∷ ns) = omega (arith, edges-length nets ls ns)

pub live-edge : (nets : List Net) (ls : List Link) (ns : List ℕ) (i p q : ℕ) → IsLink ls i p q
    → get_or (edges_of nets ls ns) i dead ≡ record { alive = true; from = end_of p; net = net_at nets (get_or ns i 0); to = end_of q }
live-edge nets ls ns i p q l =
    get-edge nets ls ns i l.within
    ∙ ap (λ b. cond b (record {
      alive = true;
      from = end_of (link_at ls i).from;
      net = net_at nets (get_or ns i 0);
      to = end_of (link_at ls i).to;
    }) dead) l.alive
    ∙ (λ k. record { alive = true; from = end_of (l.from k); net = net_at nets (get_or ns i 0); to = end_of (l.to k) })

-- what the edges sum to, whatever their terms
pub edges-sum : (f : Option ℕ → Option ℕ → ℕ) (nets : List Net) (ls : List Link) (ns : List ℕ)
    → total (λ p n q. f p q) (edges_of nets ls ns) ≡ sum_links (λ a b. f (end_of a) (end_of b)) ls
edges-sum f nets [] ns = refl
edges-sum f nets (l ∷ ls) ns = go ns (edges-sum f nets ls []) (λ n m. edges-sum f nets ls m) where
  here : (b : Bool) (n : ℕ)
      → edge_weight (λ p k q. f p q) (cond b (record { alive = true; from = end_of l.from; net = net_at nets n; to = end_of l.to }) dead)
      ≡ cond b (f (end_of l.from) (end_of l.to)) 0
  here true n = refl
  here false n = refl

  go : (ns : List ℕ) → total (λ p n q. f p q) (edges_of nets ls []) ≡ sum_links (λ a b. f (end_of a) (end_of b)) ls
      → ((n : ℕ) (m : List ℕ) → total (λ p n q. f p q) (edges_of nets ls m) ≡ sum_links (λ a b. f (end_of a) (end_of b)) ls)
      → total (λ p n q. f p q) (edges_of nets (l ∷ ls) ns) ≡ sum_links (λ a b. f (end_of a) (end_of b)) (l ∷ ls)
  go [] none some = omega (
    arith,
    none,
    here l.alive 0,
    sum_by-cons (edge_weight (λ p n q. f p q)) (edge_of nets l 0) (edges_of nets ls []),
    sum_by-cons (link_weight (λ a b. f (end_of a) (end_of b))) l ls,
  )
  go (n ∷ m) none some = omega (
    arith,
    some n m,
    here l.alive n,
    sum_by-cons (edge_weight (λ p n q. f p q)) (edge_of nets l n) (edges_of nets ls m),
    sum_by-cons (link_weight (λ a b. f (end_of a) (end_of b))) l ls,
  )

-- ---- a task is taken out

no-more : (es : List Edge) → es ++ [] ≡ es
no-more [] = refl
no-more (e ∷ es) = ap (λ (xs : List Edge). e ∷ xs) (no-more es)

module _ (graph : List Item) (ps : List Piece) (links : List Link) (nodes : List ℕ)
    (h : IsCarried graph [] ps links nodes) (v i j p s : ℕ) (some : 1 ≤ v)
    (first : IsLink links i p v) (second : IsLink links j v s) (apart : i ≢ j)
    (one_in : sum_links (λ a b. hit b v) links ≡ 1) (one_out : sum_links (λ a b. hit a v) links ≡ 1) where
  x : Piece
  x = Series (get_or nodes i 0) v (get_or nodes j 0)

  es : List Edge
  es = edges_of (nets_of ps) links nodes

  forest : IsNetForest graph (edges_of (nets_of ps) links nodes)
  forest = subst (IsNetForest graph) (no-more (edges_of (nets_of ps) links nodes)) h.forest

  series-net : Net
  series-net = piece_net (nets_of ps) (Series (get_or nodes i 0) v (get_or nodes j 0))

  ins-one : total (λ a k b. hits b (Some v)) (edges_of (nets_of ps) links nodes) ≡ 1
  ins-one = edges-sum (λ a b. hits b (Some v)) (nets_of ps) links nodes
      ∙ counts-same (λ a b. hits (end_of b) (Some v)) (λ a b. hit b v) (λ a b. hits-end b v some) links ∙ one_in

  outs-one : total (λ a k b. hits a (Some v)) (edges_of (nets_of ps) links nodes) ≡ 1
  outs-one = edges-sum (λ a b. hits a (Some v)) (nets_of ps) links nodes
      ∙ counts-same (λ a b. hits (end_of a) (Some v)) (λ a b. hit a v) (λ a b. hits-end a v some) links ∙ one_out

  joined-forest : IsNetForest graph (set (set (edges_of (nets_of ps) links nodes) i (record {
    alive = true;
    from = end_of p;
    net = piece_net (nets_of ps) (Series (get_or nodes i 0) v (get_or nodes j 0));
    to = end_of s;
  })) j dead)
  joined-forest =
      forest-series (edges_of (nets_of ps) links nodes) i j (end_of p) (end_of v) (end_of v)
      (end_of s) (net_at (nets_of ps) (get_or nodes i 0)) (net_at (nets_of ps) (get_or nodes j 0))
      (omega (arith, edges-length (nets_of ps) links nodes, first.within))
      (omega (arith, edges-length (nets_of ps) links nodes, second.within)) apart
      (live-edge (nets_of ps) links nodes i p v first) (live-edge (nets_of ps) links nodes j v s second) graph forest v
      (end-some v some) (end-some v some) ins-one outs-one

  within-push : (q : Piece) → Within (ps ++ q ∷ []) links nodes
  within-push q y lt a = omega (arith, h.within y lt a, length-append ps (q ∷ []))

  -- no twin: the first link carries the new piece
  pub carried-joined : IsCarried graph [] (ps ++ Series (get_or nodes i 0) v (get_or nodes j 0) ∷ [])
      (set (set links i (link p s)) j no_link) (set nodes i (length ps))
  carried-joined =
      let q = Series (get_or nodes i 0) v (get_or nodes j 0) in
      let nets = nets_of (ps ++ q ∷ []) in
      let new : Link = link p s in
      let len : length (set nodes i (length ps)) ≡ length (set links i new) =
      length-set nodes i (length ps) ∙ h.lens ∙ sym (length-set links i new) in
      let edges : edges_of nets (set (set links i new) j no_link) (set nodes i (length ps))
      ≡ set (set (edges_of (nets_of ps) links nodes) i (record {
        alive = true;
        from = end_of p;
        net = piece_net (nets_of ps) q;
        to = end_of s;
      })) j dead =
      edges-kill nets (set links i new) (set nodes i (length ps)) j len
      ∙ ap (λ (xs : List Edge). set xs j dead) (edges-set nets links nodes i new (length ps) h.lens
      ∙ (λ k. set (edges-push ps q links nodes h.within k) i (record {
        alive = true;
        from = end_of p;
        net = new-net ps q (length ps) refl k;
        to = end_of s;
      }))) in
      record {
        lens = len ∙ sym (length-set (set links i new) j no_link);
        made = made-push ps q h.made (h.within i first.within first.alive, h.within j second.within second.alive);
        within = λ y lt a. elim (cases_eq y i) [
          | inl e ↦ omega (
            arith,
            ap (λ (z : ℕ). get_or (set nodes i (length ps)) z 0) e,
            get_or-set_same nodes i (length ps) 0 (omega (arith, h.lens, first.within)),
            length-append ps (q ∷ []),
          )
          | inr ne ↦ omega (arith, get_or-set_other nodes i y (length ps) 0 ne, length-append ps (q ∷ []), others y lt a ne)
        ];
        forest = subst (IsNetForest graph) (sym (no-more (edges_of nets (set (set links i new) j no_link) (set nodes i (length ps)))))
            (subst (IsNetForest graph) (sym edges) joined-forest);
      }
    where
      others : (y : ℕ) → y < length (set (set links i (link p s)) j no_link)
          → (link_at (set (set links i (link p s)) j no_link) y).alive ≡ true → y ≢ i → get_or nodes y 0 < length ps
      others y lt a ne = elim (cases_eq y j) [
        | inl e ↦ absurd (cc (sym a ∙ ap (λ (z : Link). z.alive) (ap (λ (z : ℕ). link_at (set (set links i (link p s)) j no_link) z) e
            ∙ get_or-set_same (set links i (link p s)) j no_link no_link (omega (arith, length-set links i (link p s), second.within)))))
        | inr nj ↦ h.within y (omega (arith, lt, length-set (set links i (link p s)) j no_link, length-set links i (link p s)))
            (sym (ap (λ (z : Link). z.alive)
            (get_or-set_other (set links i (link p s)) j y no_link no_link nj ∙ get_or-set_other links i y (link p s) no_link ne))
            ∙ a)
      ]

  -- a twin: it carries both
  module _ (k : ℕ) (twin : IsLink links k p s) (other_p : p ≢ v) (other_s : s ≢ v) where
    ki : k ≢ i
    ki e = other_s (sym twin.to ∙ ap (λ (z : ℕ). (link_at links z).to) e ∙ first.to)

    kj : k ≢ j
    kj e = other_p (sym twin.from ∙ ap (λ (z : ℕ). (link_at links z).from) e ∙ second.from)

    series-edge : Edge
    series-edge = record {
      alive = true;
      from = end_of p;
      net = piece_net (nets_of ps) (Series (get_or nodes i 0) v (get_or nodes j 0));
      to = end_of s;
    }

    both-edge : Edge
    both-edge = record {
      alive = true;
      from = end_of p;
      net = both (net_at (nets_of ps) (get_or nodes k 0)) (piece_net (nets_of ps) (Series (get_or nodes i 0) v (get_or nodes j 0)));
      to = end_of s;
    }

    merged-forest : IsNetForest graph (set (set (set (set (edges_of (nets_of ps) links nodes) i series-edge) j dead) k both-edge) i dead)
    unfolding series-edge both-edge
    merged-forest =
        let es = edges_of (nets_of ps) links nodes in
        let one = set (set es i series-edge) j dead in
        let len : length (set (set es i series-edge) j dead) ≡ length links =
        length-set (set es i series-edge) j dead ∙ length-set es i series-edge ∙ edges-length (nets_of ps) links nodes in
        let at_k = get_or-set_other (set es i series-edge) j k dead dead kj
        ∙ get_or-set_other es i k series-edge dead ki ∙ live-edge (nets_of ps) links nodes k p s twin in
        let at_i = get_or-set_other (set es i series-edge) j i dead dead apart
        ∙ get_or-set_same es i series-edge dead (omega (arith, edges-length (nets_of ps) links nodes, first.within)) in
        forest-parallel one k i (end_of p) (end_of s) (end_of p) (end_of s) (net_at (nets_of ps) (get_or nodes k 0))
        (piece_net (nets_of ps) (Series (get_or nodes i 0) v (get_or nodes j 0)))
        (omega (arith, len, twin.within)) (omega (arith, len, first.within)) ki at_k at_i graph joined-forest refl refl

    -- the same, in the order in which the program writes
    written : (es : List Edge) (a b : Edge) → set (set (set (set es i a) j dead) k b) i dead ≡ set (set (set es k b) i dead) j dead
    written es a b =
        set_comm (set (set es i a) j dead) k i b dead ki
        ∙ ap (λ (xs : List Edge). set xs k b)
        (set_comm (set es i a) j i dead dead (λ e. apart (sym e)) ∙ ap (λ (xs : List Edge). set xs j dead) (set-set es i a dead))
        ∙ set_comm (set es i dead) j k dead b (λ e. kj (sym e))
        ∙ ap (λ (xs : List Edge). set xs j dead) (set_comm es i k dead b (λ e. ki (sym e)))

    pub carried-merged : (m : ℕ) → m ≡ length ps + 1
        → IsCarried graph [] ((ps ++ Series (get_or nodes i 0) v (get_or nodes j 0) ∷ []) ++ Both (get_or nodes k 0) (length ps) ∷ [])
        (set (set links i no_link) j no_link) (set nodes k m)
    unfolding series-edge both-edge
    carried-merged m m_is =
        let x = Series (get_or nodes i 0) v (get_or nodes j 0) in
        let ps1 = ps ++ x ∷ [] in
        let y = Both (get_or nodes k 0) (length ps) in
        let nets = nets_of (ps1 ++ y ∷ []) in
        let es = edges_of (nets_of ps) links nodes in
        let long : length ps1 ≡ length ps + 1 = length-append ps (x ∷ []) in
        let len : length (set nodes k m) ≡ length links = length-set nodes k m ∙ h.lens in
        let len_i : length (set nodes k m) ≡ length (set links i no_link) = len ∙ sym (length-set links i no_link) in
        let here : edge_of nets (link_at links k) m ≡ both-edge =
        ap (λ b. cond b (record {
          alive = true;
          from = end_of (link_at links k).from;
          net = net_at nets m;
          to = end_of (link_at links k).to;
        }) dead) twin.alive
        ∙ (λ z. record { alive = true; from = end_of (twin.from z); net = new-net ps1 y m (m_is ∙ sym long) z; to = end_of (twin.to z) })
        ∙ (λ z. record {
          alive = true;
          from = end_of p;
          net = both (old-net ps x (get_or nodes k 0) (h.within k twin.within twin.alive) z) (new-net ps x (length ps) refl z);
          to = end_of s;
        }) in
        let edges : edges_of nets (set (set links i no_link) j no_link) (set nodes k m) ≡ set (set (set es k both-edge) i dead) j dead =
        edges-kill nets (set links i no_link) (set nodes k m) j len_i
        ∙ ap (λ (xs : List Edge). set xs j dead) (edges-kill nets links (set nodes k m) i len
        ∙ ap (λ (xs : List Edge). set xs i dead) (edges-node nets links nodes k m h.lens
        ∙ (λ z. set ((edges-push ps1 y links nodes (within-push x) ∙ edges-push ps x links nodes h.within) z) k (here z)))) in
        record {
          lens = len_i ∙ sym (length-set (set links i no_link) j no_link);
          made = made-push ps1 y (made-push ps x h.made (h.within i first.within first.alive, h.within j second.within second.alive))
              (omega (arith, long, h.within k twin.within twin.alive), omega (arith, long));
          within = λ u lt a. elim (cases_eq u k) [
            | inl e ↦ omega (
              arith,
              ap (λ (z : ℕ). get_or (set nodes k m) z 0) e,
              get_or-set_same nodes k m 0 (omega (arith, h.lens, twin.within)),
              length-append ps1 (y ∷ []),
              long,
              m_is,
            )
            | inr ne ↦ omega (arith, get_or-set_other nodes k u m 0 ne, length-append ps1 (y ∷ []), long, left u lt a)
          ];
          forest = subst (IsNetForest graph) (sym (no-more (edges_of nets (set (set links i no_link) j no_link) (set nodes k m))))
              (subst (IsNetForest graph) (written es series-edge both-edge ∙ sym edges) merged-forest);
        }
      where
        left : (u : ℕ) → u < length (set (set links i no_link) j no_link)
            → (link_at (set (set links i no_link) j no_link) u).alive ≡ true → get_or nodes u 0 < length ps
        left u lt a = elim (cases_eq u j) [
          | inl e ↦ absurd (cc (sym a ∙ ap (λ (z : Link). z.alive) (ap (λ (z : ℕ). link_at (set (set links i no_link) j no_link) z) e
              ∙ get_or-set_same (set links i no_link) j no_link no_link (omega (arith, length-set links i no_link, second.within)))))
          | inr nj ↦ elim (cases_eq u i) [
            | inl e ↦ absurd (cc (sym a ∙ ap (λ (z : Link). z.alive) (get_or-set_other (set links i no_link) j u no_link no_link nj
                ∙ ap (λ (z : ℕ). link_at (set links i no_link) z) e ∙ get_or-set_same links i no_link no_link first.within)))
            | inr ni ↦ h.within u (omega (arith, lt, length-set (set links i no_link) j no_link, length-set links i no_link))
                (sym (ap (λ (z : Link). z.alive)
                (get_or-set_other (set links i no_link) j u no_link no_link nj ∙ get_or-set_other links i u no_link no_link ni))
                ∙ a)
          ]
        ]
