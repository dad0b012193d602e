-- A stack of trees, from its end, gives the postorder backwards.
use Rattle.std.proofs.Common.{◌≡◌, ℕ, ◌<◌, refl, sym, subst, ap, arith, ◌∙◌, List, [], ◌∷◌, ◌++◌, length, reverse, append_assoc}
use Rattle.std.proofs.lemmas.List.{append-nil, reverse-append, length-reverse, length-append, same_from_push}
use Rattle.trees.specs.declared.node.Node.{Node}
use Rattle.trees.specs.Tree.{IsNode}
use Rattle.trees.specs.Forest.{Forest, no_trees, tree, roots_of, all_numbers, children_of, HasChildren, IsForestOf}
use Rattle.trees.proofs.ForestLemmas.{Hangs, forest-hangs}

-- these trees, and those behind them
abbrev beyond : Forest → Forest → Forest
beyond no_trees us = us
beyond (tree v cs ts) us = tree v cs (beyond ts us)

beyond-numbers : (ts us : Forest) → all_numbers (beyond ts us) ≡ all_numbers ts ++ all_numbers us
beyond-numbers no_trees us = refl
beyond-numbers (tree v cs ts) us =
    ap (λ (z : List ℕ). (all_numbers cs ++ v ∷ []) ++ z) (beyond-numbers ts us)
    ∙ sym (append_assoc (all_numbers cs ++ v ∷ []) (all_numbers ts) (all_numbers us))

beyond-roots : (ts us : Forest) → roots_of (beyond ts us) ≡ roots_of ts ++ roots_of us
beyond-roots no_trees us = refl
beyond-roots (tree v cs ts) us = ap (λ (z : List ℕ). v ∷ z) (beyond-roots ts us)

module _ (nodes : List Node) where
  -- nodes with their children below them
  abbrev pub AreWhole : Forest → Type 0
  AreWhole no_trees = Unit {0}
  AreWhole (tree v cs ts) = IsNode nodes v × (roots_of cs ≡ children_of nodes v) × AreWhole cs × AreWhole ts

  whole : (p : ℕ) (f : Forest) → Hangs nodes p f → HasChildren nodes f → AreWhole f
  whole p no_trees h k = tt
  whole p (tree v cs ts) (child, below, beside) (is, below', beside') = (child.0, is, whole v cs below below', whole p ts beside beside')

  beyond-whole : (ts us : Forest) → AreWhole ts → AreWhole us → AreWhole (beyond ts us)
  beyond-whole no_trees us h k = k
  beyond-whole (tree v cs ts) us (node, is, below, beside) k = (node, is, below, beyond-whole ts us beside k)

  -- the trees that are still to come, of one forest
  pub record IsWalk (f : Forest) (pending found : List ℕ) : Type 0 where
    pub trees : Forest
    pub roots_are : pending ≡ roots_of trees
    pub whole_are : AreWhole trees
    pub all : all_numbers f ≡ all_numbers trees ++ reverse found

  pub walk-start : (f : Forest) (pending before found : List ℕ) → IsForestOf nodes f
      → before ≡ [] → found ≡ [] → pending ≡ before ++ children_of nodes 0 → IsWalk f pending found
  walk-start f pending before found h none nothing e = record {
    trees = f;
    roots_are = e ∙ ap (λ (z : List ℕ). z ++ children_of nodes 0) none ∙ sym h.roots;
    whole_are = whole 0 f (forest-hangs nodes f h) h.below;
    all = sym (append-nil (all_numbers f)) ∙ ap (λ (z : List ℕ). all_numbers f ++ reverse z) (sym nothing);
  }

  -- the last tree of a stack
  record Last (ts : Forest) : Type 0 where
    v : ℕ
    kids : Forest
    rest : Forest
    roots_are : roots_of ts ≡ roots_of rest ++ v ∷ []
    node : IsNode nodes v
    kids_are : roots_of kids ≡ children_of nodes v
    kids_whole : AreWhole kids
    rest_whole : AreWhole rest
    numbers_are : all_numbers ts ≡ all_numbers rest ++ (all_numbers kids ++ v ∷ [])

  last-of : (v : ℕ) (cs ts : Forest) → AreWhole (tree v cs ts) → Last (tree v cs ts)
  last-of v cs no_trees (node, is, below, beside) = record {
    v = v;
    kids = cs;
    rest = no_trees;
    roots_are = refl;
    node = node;
    kids_are = is;
    kids_whole = below;
    rest_whole = tt;
    numbers_are = append-nil (all_numbers cs ++ v ∷ []);
  }
  last-of v cs (tree w ds us) (node, is, below, beside) =
      let y = last-of w ds us beside in
      record {
        v = y.v;
        kids = y.kids;
        rest = tree v cs y.rest;
        roots_are = ap (λ (z : List ℕ). v ∷ z) y.roots_are;
        node = y.node;
        kids_are = y.kids_are;
        kids_whole = y.kids_whole;
        rest_whole = (node, is, below, y.rest_whole);
        numbers_are = ap (λ (z : List ℕ). (all_numbers cs ++ v ∷ []) ++ z) y.numbers_are
            ∙ sym (append_assoc (all_numbers cs ++ v ∷ []) (all_numbers y.rest) (all_numbers y.kids ++ y.v ∷ []));
      }

  -- one node more: it comes off the stack, and its children go on
  pub record Walked (f : Forest) (popped found : List ℕ) (v : ℕ) : Type 0 where
    pub node : IsNode nodes v
    pub fewer : length found < length (all_numbers f)
    pub next : IsWalk f (popped ++ children_of nodes v) (found ++ v ∷ [])

  pub walk-next : (f : Forest) (pending popped found : List ℕ) (v : ℕ)
      → pending ≡ popped ++ v ∷ [] → IsWalk f pending found → Walked f popped found v
  walk-next f pending popped found v is h = go h.trees (sym h.roots_are ∙ is) h.whole_are h.all
    where
      go : (ts : Forest) → roots_of ts ≡ popped ++ v ∷ [] → AreWhole ts
          → all_numbers f ≡ all_numbers ts ++ reverse found → Walked f popped found v
      go no_trees e w a = absurd (omega (arith, ap length e, length-append popped (v ∷ [])))
      go (tree u cs ts) e w a =
          let y = last-of u cs ts w in
          let same = same_from_push popped (roots_of y.rest) v y.v (sym e ∙ y.roots_are) in
          let top : y.v ≡ v = sym same.1 in
          let numbers : all_numbers (tree u cs ts) ≡ all_numbers y.rest ++ (all_numbers y.kids ++ v ∷ []) =
          y.numbers_are ∙ ap (λ (z : ℕ). all_numbers y.rest ++ (all_numbers y.kids ++ z ∷ [])) top in
          record {
            node = subst (IsNode nodes) top y.node;
            fewer = omega (
              arith,
              ap length a,
              length-append (all_numbers (tree u cs ts)) (reverse found),
              length-reverse found,
              ap length numbers,
              length-append (all_numbers y.rest) (all_numbers y.kids ++ v ∷ []),
              length-append (all_numbers y.kids) (v ∷ []),
            );
            next = record {
              trees = beyond y.rest y.kids;
              roots_are = (λ i. same.0 i ++ (ap (children_of nodes) (sym top) ∙ sym y.kids_are) i) ∙ sym (beyond-roots y.rest y.kids);
              whole_are = beyond-whole y.rest y.kids y.rest_whole y.kids_whole;
              all = a
                  ∙ ap (λ (z : List ℕ). z ++ reverse found)
                  (numbers ∙ sym (append_assoc (all_numbers y.rest) (all_numbers y.kids) (v ∷ [])))
                  ∙ append_assoc (all_numbers y.rest ++ all_numbers y.kids) (v ∷ []) (reverse found)
                  ∙ (λ i. sym (beyond-numbers y.rest y.kids) i ++ sym (reverse-append found (v ∷ [])) i);
            };
          }

  pub walk-end : (f : Forest) (pending found : List ℕ) → pending ≡ [] → IsWalk f pending found → reverse found ≡ all_numbers f
  walk-end f pending found e h = go h.trees (sym h.roots_are ∙ e) h.all
    where
      go : (ts : Forest) → roots_of ts ≡ [] → all_numbers f ≡ all_numbers ts ++ reverse found → reverse found ≡ all_numbers f
      go no_trees r a = sym a
      go (tree v cs ts) r a = absurd (omega (arith, ap length r))
