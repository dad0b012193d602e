-- Sides that are run, with the numbers of their tasks.
use Rattle.std.proofs.Common.{◌≡◌, ℕ, ◌+◌, ◌-◌, max, refl, sym, subst, ap, arith, ◌∙◌, List, [], ◌∷◌, ◌++◌, append_assoc, map}
use Rattle.std.proofs.lemmas.List.{map-append}
use Rattle.side_laws.specs.Segments.{net_sum, top}
use Rattle.hill_valley.specs.Side.{Run, run_profile, tasks_of}
use Rattle.sp_terms.specs.Term.{Term, Direction}
use Rattle.sp_term_laws.specs.Moves.{State, memory_of}
use Rattle.sp_term_laws.specs.Ways.{Way, still}
use Rattle.cut_laws.specs.Below.{TermLaws}
use Rattle.cut_laws.proofs.Leading.{LeadsDown}
use Rattle.cut_laws.proofs.NamedWays.{NamedWay}
use Rattle.cut_laws.proofs.Numbers.{shape, numbered_way, named_way}

-- as `LeadsDown`, where the runs' tasks are the names of these numbers
abbrev pub NumbersLeadDown : (d : Direction) (t : Term) (f : ℕ → ℕ) → State t → List Run → List ℕ → State t → Type 0
NumbersLeadDown d t f s [] ks s' = (ks ≡ []) × (s ≡ s')
NumbersLeadDown d t f s (g ∷ gs) ks s' =
    (m : State t) × (one two : List ℕ) × (ks ≡ one ++ two) × Way d 1 t s one (memory_of t s + g.up) m × (map f one ≡ g.tasks)
    × (memory_of t m + g.net ≡ memory_of t s) × NumbersLeadDown d t f m gs two s'

pub numbered_down : (d : Direction) (t : Term) (f : ℕ → ℕ) (s : State t) (gs : List Run) (s' : State t)
    → LeadsDown d t (shape f 1 t) s gs s' → (ks : List ℕ) × NumbersLeadDown d t f s gs ks s'
numbered_down d t f s [] s' e = ([], (refl, e))
numbered_down d t f s (g ∷ gs) s' (m, w, e, h) =
    let (one, way, is) = numbered_way f d 1 t w in
    let (two, rest) = numbered_down d t f m gs s' h in
    (one ++ two, (m, one, two, refl, way, is, e, rest))

pub named_down : (d : Direction) (t : Term) (f : ℕ → ℕ) (s : State t) (gs : List Run) (ks : List ℕ) (s' : State t)
    → NumbersLeadDown d t f s gs ks s' → LeadsDown d t (shape f 1 t) s gs s'
named_down d t f s [] ks s' h = h.1
named_down d t f s (g ∷ gs) ks s' (m, one, two, is, way, named, net, rest) = (
  m,
  subst (λ l. NamedWay d t (shape f 1 t) s l (memory_of t s + g.up) m) named (named_way f d 1 t way),
  net,
  named_down d t f m gs two s' rest,
)

pub down_names : (d : Direction) (t : Term) (f : ℕ → ℕ) (s : State t) (gs : List Run) (ks : List ℕ) (s' : State t)
    → NumbersLeadDown d t f s gs ks s' → map f ks ≡ tasks_of gs
down_names d t f s [] ks s' h = ap (map f) h.0
down_names d t f s (g ∷ gs) ks s' (m, one, two, is, way, named, net, rest) =
    ap (map f) is ∙ map-append f one two ∙ ap (λ l. l ++ map f two) named ∙ ap (λ l. g.tasks ++ l) (down_names d t f m gs two s' rest)

pub down_net : (d : Direction) (t : Term) (f : ℕ → ℕ) (s : State t) (gs : List Run) (ks : List ℕ) (s' : State t)
    → NumbersLeadDown d t f s gs ks s' → memory_of t s' + net_sum (run_profile gs) ≡ memory_of t s
down_net d t f s [] ks s' h = omega (arith, ap (memory_of t) h.1)
down_net d t f s (g ∷ gs) ks s' (m, one, two, is, way, named, net, rest) = omega (arith, net, down_net d t f m gs two s' rest)

-- cut between two runs
pub down_split : (d : Direction) (t : Term) (f : ℕ → ℕ) (s : State t) (before after : List Run) (ks : List ℕ) (s' : State t)
    → NumbersLeadDown d t f s (before ++ after) ks s'
    → (m : State t) × (one two : List ℕ) × (ks ≡ one ++ two) × NumbersLeadDown d t f s before one m × NumbersLeadDown d t f m after two s'
down_split d t f s [] after ks s' h = (s, [], ks, refl, (refl, refl), h)
down_split d t f s (g ∷ gs) after ks s' (m, one, two, is, way, named, net, rest) =
    let (u, three, four, e, first, second) = down_split d t f m gs after two s' rest in (
      u,
      one ++ three,
      four,
      is ∙ ap (λ l. one ++ l) e ∙ sym (append_assoc one three four),
      (m, one, three, refl, way, named, net, first),
      second,
    )

module _ (laws : TermLaws) where
  pub down_way : (d : Direction) (t : Term) (f : ℕ → ℕ) (s : State t) (gs : List Run) (ks : List ℕ) (s' : State t)
      → NumbersLeadDown d t f s gs ks s' → Way d 1 t s ks (top (memory_of t s) (run_profile gs)) s'
  down_way d t f s [] ks s' h =
      subst (λ l. Way d 1 t s l (memory_of t s) s') (sym h.0) (subst (λ u. Way d 1 t s [] (memory_of t s) u) h.1 (still s))
  down_way d t f s (g ∷ gs) ks s' (m, one, two, is, way, named, net, rest) =
      let level : memory_of t m ≡ memory_of t s - g.net = omega (arith, net) in
      subst (λ l. Way d 1 t s l (max (memory_of t s + g.up) (top (memory_of t s - g.net) (run_profile gs))) s') (sym is)
      (subst (λ n. Way d 1 t s (one ++ two) (max (memory_of t s + g.up) (top n (run_profile gs))) s') level
      (laws.ways_joined d 1 t s m s' one two (memory_of t s + g.up)
      (top (memory_of t m) (run_profile gs)) way (down_way d t f m gs two s' rest)))
