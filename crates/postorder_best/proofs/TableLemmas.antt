-- Tables with a place for each node, and one above the roots.
use Rattle.std.proofs.Common.{◌≡◌, ◌∙◌, sym, ap, subst, inl, inr, ℕ, zero, suc, ◌+◌, ◌-◌, ◌<◌, ◌≤◌}
use Rattle.std.proofs.Common.{List, [], ◌∷◌, ◌++◌, length, map, take, get_or, arith, refl}
use Rattle.std.proofs.lemmas.List.{take_all, take_more, map_push, get_or-map, get_or_past, length-map}
use Rattle.std.proofs.lemmas.Bool.{cases_lt}
use Rattle.trees.specs.declared.node.Node.{Node}
use Rattle.trees.specs.Tree.{IsTree}
use Rattle.postorder_best.specs.BestPostorder.{out_at, need_at}
use Rattle.postorder_best.proofs.TreeLinks.{no_node, node_is}

abbrev pub out_of : Node → ℕ
out_of m = m.out

abbrev pub need_of : Node → ℕ
need_of m = m.extra + m.out - m.share

pub mapped_more : (f : Node → ℕ) (nodes : List Node) (old new : List ℕ) (i v : ℕ) → i < length nodes
    → old ≡ 0 ∷ map f (take i nodes) → new ≡ old ++ v ∷ [] → v ≡ f (get_or nodes i no_node) → new ≡ 0 ∷ map f (take (i + 1) nodes)
mapped_more f nodes old new i v lt was push is =
    push ∙ ap (λ (xs : List ℕ). xs ++ v ∷ []) was
    ∙ ap (λ (xs : List ℕ). 0 ∷ xs)
    (ap (λ w. map f (take i nodes) ++ w ∷ []) is ∙ sym (map_push f (take i nodes) (get_or nodes i no_node))
    ∙ ap (map f) (sym (take_more nodes i no_node lt)))

pub mapped_whole : (f : Node → ℕ) (nodes : List Node) (table : List ℕ) (i : ℕ)
    → length nodes ≤ i → table ≡ 0 ∷ map f (take i nodes) → table ≡ 0 ∷ map f nodes
mapped_whole f nodes table i le e = e ∙ ap (λ (xs : List Node). 0 ∷ map f xs) (take_all i nodes le)

-- a share is at most what the node needs with its own block
pub share_fits : (nodes : List Node) (i : ℕ) → IsTree nodes → i < length nodes
    → (get_or nodes i no_node).share ≤ (get_or nodes i no_node).extra + (get_or nodes i no_node).out
share_fits nodes i t lt =
    subst (λ (m : Node). m.share ≤ m.extra + m.out) (node_is nodes (i + 1) i refl) (t.shares (i + 1) (omega arith, omega arith)).1

mapped_at : (f : Node → ℕ) (nodes : List Node) (i : ℕ) → f no_node ≡ 0 → get_or (map f nodes) i 0 ≡ f (get_or nodes i no_node)
mapped_at f nodes i z = elim (cases_lt i (length nodes)) [
  | inl l ↦ get_or-map f nodes i no_node 0 l
  | inr g ↦ get_or_past (map f nodes) i 0 (let e = length-map nodes f in omega arith) ∙ sym z ∙ ap f (sym (get_or_past nodes i no_node g))
]

pub outs_at : (nodes : List Node) (table : List ℕ) → table ≡ 0 ∷ map out_of nodes → (x : ℕ) → get_or table x 0 ≡ out_at nodes x
outs_at nodes table e zero = ap (λ (xs : List ℕ). get_or xs 0 0) e
outs_at nodes table e (suc i) = ap (λ (xs : List ℕ). get_or xs (suc i) 0) e ∙ mapped_at out_of nodes i refl
    ∙ (let s : i ≡ suc i - 1 = omega arith in ap (λ v. (get_or nodes v no_node).out) s)

pub needs_at : (nodes : List Node) (table : List ℕ) → table ≡ 0 ∷ map need_of nodes → (x : ℕ) → get_or table x 0 ≡ need_at nodes x
needs_at nodes table e zero = ap (λ (xs : List ℕ). get_or xs 0 0) e
needs_at nodes table e (suc i) = ap (λ (xs : List ℕ). get_or xs (suc i) 0) e ∙ mapped_at need_of nodes i refl
    ∙ (let s : i ≡ suc i - 1 = omega arith in ap (λ v. need_of (get_or nodes v no_node)) s)
