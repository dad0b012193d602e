-- Positions are written one piece after another.
use Rattle.std.proofs.Common.{inl, inr, ◌≡◌, ℕ, zero, suc, ◌+◌, ◌-◌, ◌^◌, ◌<◌, ◌≤◌, Bool, true, false, min, reverse, refl, sym}
use Rattle.std.proofs.Common.{ap, subst, arith, ◌∙◌, List, [], ◌∷◌, ◌++◌, length, get_or, append_assoc, length-append}
use Rattle.std.specs.List.{All}
use Rattle.std.proofs.lemmas.List.{reverse-append, append-nil, get_or_append_left, get_or-append-add}
use Rattle.std.proofs.lemmas.Bool.{cases_eq}
use Rattle.std.proofs.lemmas.List.Elements.{All-nil, All-cons, All-append}
use Rattle.mp_system.specs.declared.system.Task.{Task}
use Rattle.sp_terms.specs.declared.position.Position.{Position}
use Rattle.sp_terms.specs.declared.position.Position.TheVariants.{Par}
use Rattle.sp_terms.specs.Term.{no_parts, count}
use Rattle.sp_terms.specs.Postfix.{at_task, postfix, all_postfix}
use Rattle.graphs.specs.Graph.{IsAmong}
use Rattle.sp_reduce.specs.declared.piece.Piece.{Piece}
use Rattle.sp_reduce.specs.declared.piece.Piece.TheVariants.{Hold, Series, Both}
use Rattle.sp_reduce.specs.declared.postfix.Pending.{Pending}
use Rattle.sp_reduce.specs.Nets.{Net, hold, series, both, names}
use Rattle.sp_reduce.specs.Pieces.{net_at, piece_net, grown, nets_of, IsBuilt, piece_at, AreMade}
use Rattle.sp_reduce.specs.Shapes.{shape_of, parts_of, size_of}
use Rattle.sp_reduce.specs.Writing.{IsKnown, children, own_positions, own_names, positions_of, all_positions, all_names, all_sizes}
use Rattle.sp_reduce.proofs.Shaped.{counted-parts, parts-front}

-- ---- the net of a piece

grown-old : (nets : List Net) (ps : List Piece) (j : ℕ) → j < length nets → net_at (grown nets ps) j ≡ net_at nets j
grown-old nets [] j lt = refl
grown-old nets (p ∷ ps) j lt =
    grown-old (nets ++ piece_net nets p ∷ []) ps j (omega (arith, lt, length-append nets (piece_net nets p ∷ [])))
    ∙ get_or_append_left nets (piece_net nets p ∷ []) (hold 0) j lt

piece-same : (nets more : List Net) (p : Piece) → IsBuilt (length nets) p
    → ((j : ℕ) → j < length nets → net_at more j ≡ net_at nets j) → piece_net nets p ≡ piece_net more p
piece-same nets more (Hold n) made same = refl
piece-same nets more (Series a v b) made same = λ i. series (sym (same a made.0) i) v (sym (same b made.1) i)
piece-same nets more (Both a b) made same = λ i. both (sym (same a made.0) i) (sym (same b made.1) i)

at-end : (xs : List Net) (y : Net) → net_at (xs ++ y ∷ []) (length xs) ≡ y
at-end [] y = refl
at-end (x ∷ xs) y = at-end xs y

grown-new : (nets : List Net) (ps : List Piece) (i : ℕ)
    → ((k : ℕ) → k < length ps → IsBuilt (length nets + k) (piece_at ps k)) → i < length ps
    → net_at (grown nets ps) (length nets + i) ≡ piece_net (grown nets ps) (piece_at ps i)
grown-new nets [] i made lt = absurd (omega arith)
grown-new nets (p ∷ ps) zero made lt =
    let next = nets ++ piece_net nets p ∷ [] in
    let long : length next ≡ length nets + 1 = length-append nets (piece_net nets p ∷ []) in
    let own : IsBuilt (length nets) p =
    (let e : length nets + 0 ≡ length nets = omega arith in subst (λ (k : ℕ). IsBuilt k p) e (made 0 (omega arith))) in
    (let e : length nets + 0 ≡ length nets = omega arith in ap (net_at (grown next ps)) e)
    ∙ grown-old next ps (length nets) (omega (arith, long)) ∙ at-end nets (piece_net nets p)
    ∙ piece-same nets (grown next ps) p own
    (λ j h. grown-old next ps j (omega (arith, h, long)) ∙ get_or_append_left nets (piece_net nets p ∷ []) (hold 0) j h)
grown-new nets (p ∷ ps) (suc i) made lt =
    let next = nets ++ piece_net nets p ∷ [] in
    let long : length next ≡ length nets + 1 = length-append nets (piece_net nets p ∷ []) in
    (let e : length nets + suc i ≡ length next + i = omega (arith, long) in ap (net_at (grown next ps)) e)
    ∙ grown-new next ps i
    (λ k h. (let e : length nets + suc k ≡ length next + k = omega (arith, long) in
    subst (λ (m : ℕ). IsBuilt m (piece_at ps k)) e (made (suc k) (omega (arith, h)))))
    (omega (arith, lt))

pub net-is : (ps : List Piece) → AreMade ps → (i : ℕ) → i < length ps → net_at (nets_of ps) i ≡ piece_net (nets_of ps) (piece_at ps i)
net-is ps made i lt =
    (let e : i ≡ 0 + i = omega arith in ap (net_at (nets_of ps)) e)
    ∙ grown-new [] ps i (λ k h. (let e : k ≡ 0 + k = omega arith in subst (λ (m : ℕ). IsBuilt m (piece_at ps k)) e (made k h))) lt

-- ---- counts of parts

-- of a piece, from those of earlier ones
abbrev pub count_at : List Piece → ℕ → ℕ
count_at ps i = min (parts_of (net_at (nets_of ps) i)) (2 ^ 32 - 1)

pub count-both : (ps : List Piece) → AreMade ps → (i a b : ℕ) → i < length ps
    → piece_at ps i ≡ Both a b → min (count_at ps a + count_at ps b) (2 ^ 32 - 1) ≡ count_at ps i
count-both ps made i a b lt e =
    let is : net_at (nets_of ps) i ≡ both (net_at (nets_of ps) a) (net_at (nets_of ps) b) =
    net-is ps made i lt ∙ ap (piece_net (nets_of ps)) e in
    let parts : parts_of (net_at (nets_of ps) i) ≡ parts_of (net_at (nets_of ps) a) + parts_of (net_at (nets_of ps) b) = ap parts_of is in
    omega (arith, parts)

pub count-one : (ps : List Piece) → AreMade ps → (i : ℕ) → i < length ps → ((a b : ℕ) → piece_at ps i ≡ Both a b → ⊥) → 1 ≡ count_at ps i
count-one ps made i lt other = go (piece_at ps i) refl where
  go : (p : Piece) → piece_at ps i ≡ p → 1 ≡ count_at ps i
  go (Hold n) e =
      (let parts : parts_of (net_at (nets_of ps) i) ≡ 1 = ap parts_of (net-is ps made i lt ∙ ap (piece_net (nets_of ps)) e) in
      omega (arith, parts))
  go (Series a v b) e =
      (let parts : parts_of (net_at (nets_of ps) i) ≡ 1 = ap parts_of (net-is ps made i lt ∙ ap (piece_net (nets_of ps)) e) in
      omega (arith, parts))
  go (Both a b) e = absurd (other a b e)

-- ---- what is still to be written

module _ (tasks : ℕ → Task) (nets : List Net) where
  pub positions-push : (xs ys : List Pending)
      → all_positions tasks nets (xs ++ ys) ≡ all_positions tasks nets xs ++ all_positions tasks nets ys
  positions-push [] ys = refl
  positions-push (x ∷ xs) ys =
      let own = positions_of tasks x.among (net_at nets x.piece) in
      ap (λ (ps : List Position). own ++ ps) (positions-push xs ys)
      ∙ sym (append_assoc own (all_positions tasks nets xs) (all_positions tasks nets ys))

pub names-push : (nets : List Net) (xs ys : List Pending) → all_names nets (xs ++ ys) ≡ all_names nets xs ++ all_names nets ys
names-push nets [] ys = refl
names-push nets (x ∷ xs) ys =
    let own = names (net_at nets x.piece) in
    ap (λ (ns : List ℕ). own ++ ns) (names-push nets xs ys) ∙ sym (append_assoc own (all_names nets xs) (all_names nets ys))

pub sizes-push : (nets : List Net) (xs ys : List Pending) → all_sizes nets (xs ++ ys) ≡ all_sizes nets xs + all_sizes nets ys
sizes-push nets [] ys = omega arith
sizes-push nets (x ∷ xs) ys = omega (arith, sizes-push nets xs ys)

parts-le : (t : Net) → parts_of t ≤ size_of t
parts-le (hold n) = omega arith
parts-le (series a v b) = omega arith
parts-le (both a b) = omega (arith, parts-le a, parts-le b)

-- what a piece's own is, after what the pieces that it is made of are
own-positions : (tasks : ℕ → Task) (nets : List Net) (p : Piece) (among : Bool) (n : ℕ)
    → n ≡ min (parts_of (piece_net nets p)) (2 ^ 32 - 1) → size_of (piece_net nets p) < 2 ^ 32
    → all_positions tasks nets (children among p) ++ own_positions tasks among n p ≡ positions_of tasks among (piece_net nets p)
own-positions tasks nets (Hold size) true n e small = refl
own-positions tasks nets (Hold size) false n e small = refl
own-positions tasks nets (Series a v b) among n e small =
    let pa = postfix ((shape_of tasks (net_at nets a)).whole) in
    let pb = postfix ((shape_of tasks (net_at nets b)).whole) in
    let same : (pa ++ (pb ++ [])) ++ at_task (tasks v) ∷ [] ≡ pa ++ (pb ++ at_task (tasks v) ∷ []) =
    append_assoc pa (pb ++ []) (at_task (tasks v) ∷ [])
    ∙ ap (λ (xs : List Position). pa ++ (xs ++ at_task (tasks v) ∷ [])) (append-nil pb) in
    go among same
  where
    go : (b' : Bool)
        → (postfix ((shape_of tasks (net_at nets a)).whole) ++ (postfix ((shape_of tasks (net_at nets b)).whole) ++ []))
        ++ at_task (tasks v) ∷ []
        ≡ postfix ((shape_of tasks (net_at nets a)).whole) ++ (postfix ((shape_of tasks (net_at nets b)).whole) ++ at_task (tasks v) ∷ [])
        → all_positions tasks nets (children b' (Series a v b)) ++ own_positions tasks b' n (Series a v b)
        ≡ positions_of tasks b' (series (net_at nets a) v (net_at nets b))
    go true same = same ∙ sym (append-nil (postfix ((shape_of tasks (series (net_at nets a) v (net_at nets b))).whole)))
    go false same = same
own-positions tasks nets (Both a b) true n e small =
    let x = net_at nets a in
    let y = net_at nets b in
    let pa = all_postfix ((shape_of tasks x).among no_parts) in
    let pb = all_postfix ((shape_of tasks y).among no_parts) in
    append-nil (pa ++ (pb ++ [])) ∙ ap (λ (xs : List Position). pa ++ xs) (append-nil pb)
    ∙ sym (parts-front tasks x ((shape_of tasks y).among no_parts))
own-positions tasks nets (Both a b) false n e small =
    let x = net_at nets a in
    let y = net_at nets b in
    let pa = all_postfix ((shape_of tasks x).among no_parts) in
    let pb = all_postfix ((shape_of tasks y).among no_parts) in
    let number : n ≡ count ((shape_of tasks x).among ((shape_of tasks y).among no_parts)) =
    omega (
      arith,
      e,
      small,
      parts-le x,
      parts-le y,
      counted-parts tasks x ((shape_of tasks y).among no_parts),
      counted-parts tasks y no_parts,
    ) in
    (λ i. (ap (λ (xs : List Position). pa ++ xs) (append-nil pb) ∙ sym (parts-front tasks x ((shape_of tasks y).among no_parts))) i
    ++ Par (number i) ∷ [])

own-names : (nets : List Net) (p : Piece) (among : Bool) → all_names nets (children among p) ++ own_names p ≡ names (piece_net nets p)
own-names nets (Hold size) among = refl
own-names nets (Series a v b) among =
    let na = names (net_at nets a) in
    let nb = names (net_at nets b) in
    append_assoc na (nb ++ []) (v ∷ []) ∙ ap (λ (xs : List ℕ). na ++ (xs ++ v ∷ [])) (append-nil nb)
own-names nets (Both a b) among =
    let na = names (net_at nets a) in
    let nb = names (net_at nets b) in
    append-nil (na ++ (nb ++ [])) ∙ ap (λ (xs : List ℕ). na ++ xs) (append-nil nb)

own-sizes : (nets : List Net) (p : Piece) (among : Bool) → all_sizes nets (children among p) + 1 ≡ size_of (piece_net nets p)
own-sizes nets (Hold size) among = refl
own-sizes nets (Series a v b) among = omega arith
own-sizes nets (Both a b) among = omega arith

-- ---- one count more

pub counts-more : (ps : List Piece) (counts : List ℕ) (j n : ℕ) → length counts ≡ j
    → ((i : ℕ) → i < j → get_or counts i 0 ≡ count_at ps i) → n ≡ count_at ps j
    → (i : ℕ) → i < j + 1 → get_or (counts ++ n ∷ []) i 0 ≡ count_at ps i
counts-more ps counts j n len old own i lt = elim (cases_eq i j) [
  | inl e ↦ (λ z. get_or (counts ++ n ∷ []) ((e ∙ sym len) z) 0) ∙ last counts ∙ own ∙ ap (count_at ps) (sym e)
  | inr ne ↦ get_or_append_left counts (n ∷ []) 0 i (omega (arith, lt, ne, len)) ∙ old i (omega (arith, lt, ne))
]
  where
    last : (xs : List ℕ) → get_or (xs ++ n ∷ []) (length xs) 0 ≡ n
    last [] = refl
    last (x ∷ xs) = last xs

-- ---- one piece is written

-- what is written, and what is still to be written, come to the whole
pub record IsWriting (tasks : ℕ → Task) (n : ℕ) (ps : List Piece) (all : List Position) (whole : List ℕ)
    (size : ℕ) (pend : List Pending) (positions : List Position) (named : List ℕ) : Type 0 where
  pub positions_are : all_positions tasks (nets_of ps) pend ++ reverse positions ≡ all
  pub names_are : all_names (nets_of ps) pend ++ reverse named ≡ whole
  pub small : all_sizes (nets_of ps) pend ≤ size
  pub places : All (λ (p : Pending). p.piece < length ps) pend
  pub known : All (IsAmong n) (all_names (nets_of ps) pend)

pub all-left : {X : Type 0} (P : X → Type 0) (xs ys : List X) → All P (xs ++ ys) → All P xs
all-left {X} P xs ys h i d lt = subst P (get_or_append_left xs ys d i lt) (h i d (omega (arith, lt, length-append xs ys)))

pub all-right : {X : Type 0} (P : X → Type 0) (xs ys : List X) → All P (xs ++ ys) → All P ys
all-right {X} P xs ys h i d lt = subst P (get_or-append-add xs ys i d) (h (length xs + i) d (omega (arith, lt, length-append xs ys)))

module _ (tasks : ℕ → Task) (n : ℕ) (ps : List Piece) (made : AreMade ps)
    (all : List Position) (whole : List ℕ) (size : ℕ) (rest : List Pending) (next : Pending)
    (positions : List Position) (named : List ℕ) (h : IsWriting tasks n ps all whole size (rest ++ next ∷ []) positions named) where
  nets : List Net
  nets = nets_of ps

  p : Piece
  p = piece_at ps next.piece

  pub place-next : next.piece < length ps
  place-next = all-right (λ (q : Pending). q.piece < length ps) rest (next ∷ []) h.places 0 next (omega arith)

  is : net_at (nets_of ps) next.piece ≡ piece_net (nets_of ps) (piece_at ps next.piece)
  is = net-is ps made next.piece place-next

  names-next : All (IsAmong n) (names (piece_net (nets_of ps) (piece_at ps next.piece)))
  names-next =
      let split : all_names (nets_of ps) (rest ++ next ∷ [])
      ≡ all_names (nets_of ps) rest ++ (names (net_at (nets_of ps) next.piece) ++ []) = names-push (nets_of ps) rest (next ∷ []) in
      let own = all-right (IsAmong n) (all_names (nets_of ps) rest)
      (names (net_at (nets_of ps) next.piece) ++ []) (subst (All (IsAmong n)) split h.known) in
      subst (λ (t : Net). All (IsAmong n) (names t)) is (subst (All (IsAmong n)) (append-nil (names (net_at (nets_of ps) next.piece))) own)

  pub known-next : IsKnown n (piece_at ps next.piece)
  known-next = go (piece_at ps next.piece) names-next where
    go : (q : Piece) → All (IsAmong n) (names (piece_net (nets_of ps) q)) → IsKnown n q
    go (Hold m) k = tt
    go (Series a v b) k =
        all-right (IsAmong n) (names (net_at (nets_of ps) b)) (v ∷ [])
        (all-right (IsAmong n) (names (net_at (nets_of ps) a)) (names (net_at (nets_of ps) b) ++ v ∷ []) k) 0 v (omega arith)
    go (Both a b) k = tt

  fewer-sizes :
      all_sizes (nets_of ps) (rest ++ children next.among (piece_at ps next.piece)) + 1 ≡ all_sizes (nets_of ps) (rest ++ next ∷ [])
  fewer-sizes =
      omega (
        arith,
        sizes-push (nets_of ps) rest (children next.among (piece_at ps next.piece)),
        sizes-push (nets_of ps) rest (next ∷ []),
        own-sizes (nets_of ps) (piece_at ps next.piece) next.among,
        ap size_of is,
      )

  pub sizes-fall :
      all_sizes (nets_of ps) (rest ++ children next.among (piece_at ps next.piece)) < all_sizes (nets_of ps) (rest ++ next ∷ [])
  sizes-fall = omega (arith, fewer-sizes)

  -- one position at most is written
  one-position : (among : Bool) (k : ℕ) (q : Piece) → reverse (own_positions tasks among k q) ≡ own_positions tasks among k q
  one-position among k (Hold m) = refl
  one-position among k (Series a v b) = refl
  one-position true k (Both a b) = refl
  one-position false k (Both a b) = refl

  one-name : (q : Piece) → reverse (own_names q) ≡ own_names q
  one-name (Hold m) = refl
  one-name (Series a v b) = refl
  one-name (Both a b) = refl

  two : (among : Bool) (a b : ℕ) → (a < next.piece) × (b < next.piece)
      → All (λ (r : Pending). r.piece < length ps) (record { piece = a; among = among } ∷ record { piece = b; among = among } ∷ [])
  two among a b k =
      let x : Pending = record { piece = a; among = among } in
      let y : Pending = record { piece = b; among = among } in
      All-cons (λ (r : Pending). r.piece < length ps) x (y ∷ []) (omega (arith, k.0, place-next))
      (All-cons (λ (r : Pending). r.piece < length ps) y []
      (omega (arith, k.1, place-next)) (All-nil (λ (r : Pending). r.piece < length ps)))

  child-places : (among : Bool) (q : Piece) → IsBuilt next.piece q → All (λ (r : Pending). r.piece < length ps) (children among q)
  child-places among (Hold m) k = All-nil (λ (r : Pending). r.piece < length ps)
  child-places among (Series a v b) k = two false a b k
  child-places among (Both a b) k = two true a b k

  module _ (few : size < 2 ^ 32) (number : ℕ) (number_is : number ≡ count_at ps next.piece) where
    abbrev own : List Position
    own = own_positions tasks next.among number (piece_at ps next.piece)

    joined : all_positions tasks (nets_of ps) (children next.among (piece_at ps next.piece))
        ++ own_positions tasks next.among number (piece_at ps next.piece)
        ≡ positions_of tasks next.among (net_at (nets_of ps) next.piece)
    joined =
        own-positions tasks (nets_of ps) (piece_at ps next.piece) next.among number
        (number_is ∙ ap (λ (t : Net). min (parts_of t) (2 ^ 32 - 1)) is)
        (omega (arith, few, h.small, sizes-push (nets_of ps) rest (next ∷ []), ap size_of is))
        ∙ ap (positions_of tasks next.among) (sym is)

    pub written : IsWriting tasks n ps all whole size (rest ++ children next.among (piece_at ps next.piece))
        (positions ++ own_positions tasks next.among number (piece_at ps next.piece))
        (named ++ own_names (piece_at ps next.piece))
    written =
        let q = piece_at ps next.piece in
        let kids = children next.among (piece_at ps next.piece) in
        let mine = own_positions tasks next.among number (piece_at ps next.piece) in
        let front = all_positions tasks (nets_of ps) rest in
        let kids_are = all_positions tasks (nets_of ps) kids in
        let whole_next = positions_of tasks next.among (net_at (nets_of ps) next.piece) in
        let names_front = all_names (nets_of ps) rest in
        let names_kids = all_names (nets_of ps) kids in
        let names_next = names (net_at (nets_of ps) next.piece) in
        let names_joined : names_kids ++ own_names q ≡ names_next = own-names (nets_of ps) q next.among ∙ ap names (sym is) in
        record {
          positions_are =
              (λ i. positions-push tasks (nets_of ps) rest kids i ++ (reverse-append positions mine
              ∙ ap (λ (xs : List Position). xs ++ reverse positions) (one-position next.among number q)) i)
              ∙ append_assoc front kids_are (mine ++ reverse positions)
              ∙ ap (λ (xs : List Position). front ++ xs)
              (sym (append_assoc kids_are mine (reverse positions))
              ∙ ap (λ (xs : List Position). xs ++ reverse positions) (joined ∙ sym (append-nil whole_next)))
              ∙ sym (append_assoc front (whole_next ++ []) (reverse positions))
              ∙ ap (λ (xs : List Position). xs ++ reverse positions) (sym (positions-push tasks (nets_of ps) rest (next ∷ [])))
              ∙ h.positions_are;
          names_are =
              (λ i. names-push (nets_of ps) rest kids i
              ++ (reverse-append named (own_names q) ∙ ap (λ (xs : List ℕ). xs ++ reverse named) (one-name q)) i)
              ∙ append_assoc names_front names_kids (own_names q ++ reverse named)
              ∙ ap (λ (xs : List ℕ). names_front ++ xs)
              (sym (append_assoc names_kids (own_names q) (reverse named))
              ∙ ap (λ (xs : List ℕ). xs ++ reverse named) (names_joined ∙ sym (append-nil names_next)))
              ∙ sym (append_assoc names_front (names_next ++ []) (reverse named))
              ∙ ap (λ (xs : List ℕ). xs ++ reverse named) (sym (names-push (nets_of ps) rest (next ∷ []))) ∙ h.names_are;
          small = omega (arith, fewer-sizes, h.small);
          places = All-append (λ (r : Pending). r.piece < length ps) rest kids
              (all-left (λ (r : Pending). r.piece < length ps) rest (next ∷ []) h.places)
              (child-places next.among q (made next.piece place-next));
          known = subst (All (IsAmong n)) (sym (names-push (nets_of ps) rest kids))
              (All-append (IsAmong n) names_front names_kids
              (all-left (IsAmong n) names_front (names_next ++ [])
              (subst (All (IsAmong n)) (names-push (nets_of ps) rest (next ∷ [])) h.known))
              (all-left (IsAmong n) names_kids (own_names q)
              (subst (All (IsAmong n)) (sym (own-names (nets_of ps) q next.among)) names-next)));
        }

-- at the start the whole is to be written
pub writing-first : (tasks : ℕ → Task) (n : ℕ) (ps : List Piece) (root : Pending) (size : ℕ) → root.among ≡ false → root.piece < length ps
    → size_of (net_at (nets_of ps) root.piece) ≤ size → All (IsAmong n) (names (net_at (nets_of ps) root.piece))
    → IsWriting tasks n ps (postfix ((shape_of tasks (net_at (nets_of ps) root.piece)).whole))
    (names (net_at (nets_of ps) root.piece)) size (root ∷ []) [] []
writing-first tasks n ps root size alone lt small known =
    let t = net_at (nets_of ps) root.piece in
    let ps_are : positions_of tasks root.among t ≡ postfix ((shape_of tasks t).whole) = ap (λ b. positions_of tasks b t) alone in
    record {
      positions_are = append-nil (positions_of tasks root.among t ++ []) ∙ append-nil (positions_of tasks root.among t) ∙ ps_are;
      names_are = append-nil (names t ++ []) ∙ append-nil (names t);
      small = omega (arith, small);
      places = All-cons (λ (p : Pending). p.piece < length ps) root [] lt (All-nil (λ (p : Pending). p.piece < length ps));
      known = subst (All (IsAmong n)) (sym (append-nil (names t))) known;
    }

-- the same of equal lists
pub writing-same : (tasks : ℕ → Task) (n : ℕ) (ps : List Piece) (all : List Position) (whole : List ℕ)
    (size : ℕ) (pend pend2 : List Pending) (positions positions2 : List Position) (named named2 : List ℕ)
    → pend2 ≡ pend → positions2 ≡ positions → named2 ≡ named → IsWriting tasks n ps all whole size pend positions named
    → IsWriting tasks n ps all whole size pend2 positions2 named2
writing-same tasks n ps all whole size pend pend2 positions positions2 named named2 e f g h =
    subst (λ (xs : List Pending). IsWriting tasks n ps all whole size xs positions2 named2) (sym e)
    (subst (λ (xs : List Position). IsWriting tasks n ps all whole size pend xs named2) (sym f)
    (subst (λ (xs : List ℕ). IsWriting tasks n ps all whole size pend positions xs) (sym g) h))

-- at the end all is written
pub writing-done : (tasks : ℕ → Task) (n : ℕ) (ps : List Piece) (all : List Position)
    (whole : List ℕ) (size : ℕ) (pend : List Pending) (positions : List Position) (named : List ℕ)
    → length pend ≡ 0 → IsWriting tasks n ps all whole size pend positions named → (reverse positions ≡ all) × (reverse named ≡ whole)
writing-done tasks n ps all whole size [] positions named e h = (h.positions_are, h.names_are)
writing-done tasks n ps all whole size (p ∷ pend) positions named e h = absurd (omega (arith, e))
