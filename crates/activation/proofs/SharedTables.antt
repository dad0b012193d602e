-- The tables of the items with several readers, one item after the other.
use Rattle.std.proofs.Common.{◌≡◌, ℕ, ◌+◌, ◌<◌, ◌≤◌, true, false, cond, Bool, List, [], ◌∷◌, ◌++◌, length, map, take, get_or}
use Rattle.std.proofs.Common.{append_assoc, refl, sym, ap, ◌∙◌, arith}
use Rattle.std.specs.List.{filter}
use Rattle.std.proofs.lemmas.List.{append-nil, length-map, length-take, get_or-map, map-append}
use Rattle.std.proofs.lemmas.List.Elements.{filter_more}
use Rattle.std.proofs.lemmas.List.Sums.{length-filter, count_by-le-length}
use Rattle.shared_systems.specs.Shared.{SharedItem, shared_item_at}
use Rattle.shared_systems.specs.Bounds.{shared_size, reader_count}
use Rattle.shared_systems.specs.Collected.{are_several, is_shared}
use Rattle.shared_systems.proofs.KeySums.{no_item}
use Rattle.activation.specs.declared.edges.Edge.{Edge}
use Rattle.activation.specs.Tables.{AreLeft}
use Rattle.activation.specs.Consumers.{number_edges, reading_edges}
use Rattle.activation.proofs.Readers.{left_at_first}

several : (to : List ℕ) → 2 ≤ length to → are_several to ≡ true
several [] le = absurd (omega arith)
several (c ∷ []) le = absurd (omega arith)
several (c ∷ d ∷ cs) le = refl

single : (to : List ℕ) → length to < 2 → are_several to ≡ false
single [] lt = refl
single (c ∷ []) lt = refl
single (c ∷ d ∷ cs) lt = absurd (omega arith)

edges-push : (place : ℕ → ℕ) (first : ℕ) (xs : List SharedItem) (x : SharedItem)
    → reading_edges place first (xs ++ x ∷ []) ≡ reading_edges place first xs ++ number_edges place (first + length xs) x.readers
edges-push place first [] x =
    let e : first + 0 ≡ first = omega arith in
    append-nil (number_edges place first x.readers) ∙ ap (λ (n : ℕ). number_edges place n x.readers) (sym e)
edges-push place first (y ∷ ys) x =
    let e : first + 1 + length ys ≡ first + length (y ∷ ys) = omega arith in
    ap (λ (es : List Edge). number_edges place first y.readers ++ es)
    (edges-push place (first + 1) ys x
    ∙ ap (λ (n : ℕ). reading_edges place (first + 1) ys ++ number_edges place n x.readers) e)
    ∙ sym (append_assoc (number_edges place first y.readers) (reading_edges place (first + 1) ys)
    (number_edges place (first + length (y ∷ ys)) x.readers))

-- the tables of some items
pub record HaveItems (place : ℕ → ℕ) (items : List SharedItem) (edges : List Edge) (left sizes : List ℕ) : Type 0 where
  pub edges_are : edges ≡ reading_edges place 0 items
  pub left_are : left ≡ map reader_count items
  pub sizes_are : sizes ≡ map shared_size items

module _ (place : ℕ → ℕ) (xs : List SharedItem) (i : ℕ) (lt : i < length xs) (edges : List Edge) (left sizes : List ℕ)
    (have : HaveItems place (filter is_shared (take i xs)) edges left sizes) where
  pub few_numbers : length sizes ≤ i
  few_numbers = omega (
    arith,
    ap (λ (ns : List ℕ). length ns) have.sizes_are,
    length-map (filter is_shared (take i xs)) shared_size,
    length-filter is_shared (take i xs),
    count_by-le-length is_shared (take i xs),
    take_len i xs,
  )
    where
      take_len : (i : ℕ) (ys : List SharedItem) → length (take i ys) ≤ i
      take_len i ys = omega (arith, length-take i ys)

  pub item_skipped : length (shared_item_at xs i).readers < 2 → HaveItems place (filter is_shared (take (i + 1) xs)) edges left sizes
  item_skipped few =
      let same : filter is_shared (take (i + 1) xs) ≡ filter is_shared (take i xs) =
      filter_more is_shared xs i no_item lt
      ∙ ap (λ (b : Bool). filter is_shared (take i xs) ++ cond b (shared_item_at xs i ∷ []) []) (single (shared_item_at xs i).readers few)
      ∙ append-nil (filter is_shared (take i xs)) in
      rw same have

  pub item_pushed : 2 ≤ length (shared_item_at xs i).readers → (number : ℕ) (more : List Edge) (most amounts : List ℕ)
      → number ≡ length sizes → more ≡ edges ++ number_edges place number (shared_item_at xs i).readers
      → most ≡ left ++ length (shared_item_at xs i).readers ∷ [] → amounts ≡ sizes ++ (shared_item_at xs i).size ∷ []
      → HaveItems place (filter is_shared (take (i + 1) xs)) more most amounts
  item_pushed many number more most amounts number_is edge_is left_is size_is =
      let x = shared_item_at xs i in
      let old = filter is_shared (take i xs) in
      let next : filter is_shared (take (i + 1) xs) ≡ old ++ x ∷ [] =
      filter_more is_shared xs i no_item lt ∙ ap (λ (b : Bool). old ++ cond b (x ∷ []) []) (several x.readers many) in
      let long : number ≡ 0 + length old =
      omega (arith, number_is, ap (λ (ns : List ℕ). length ns) have.sizes_are, length-map old shared_size) in
      rw next (record {
        edges_are = edge_is ∙ ap (λ (es : List Edge). es ++ number_edges place number x.readers) have.edges_are
            ∙ ap (λ (n : ℕ). reading_edges place 0 old ++ number_edges place n x.readers) long ∙ sym (edges-push place 0 old x);
        left_are = left_is ∙ ap (λ (ns : List ℕ). ns ++ length x.readers ∷ []) have.left_are ∙ sym (map-append reader_count old (x ∷ []));
        sizes_are = size_is ∙ ap (λ (ns : List ℕ). ns ++ x.size ∷ []) have.sizes_are ∙ sym (map-append shared_size old (x ∷ []));
      })

-- before any task is done all readers are left
pub left_first : (items : List SharedItem) (left : List ℕ) → left ≡ map reader_count items → AreLeft (λ t. false) items left
left_first items left is = record {
  long = ap (λ (ns : List ℕ). length ns) is ∙ length-map items reader_count;
  each = λ j lt. ap (λ (ns : List ℕ). get_or ns j 0) is ∙ get_or-map reader_count items j no_item 0 lt
      ∙ sym (left_at_first (shared_item_at items j).readers);
}
