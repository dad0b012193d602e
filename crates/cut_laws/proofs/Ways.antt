-- Ways that tell the names of their tasks: joined, turned back, and those of parts as ways of the whole.
use Rattle.std.proofs.Common.{◌≡◌, ℕ, ◌+◌, ◌≤◌, inl, inr, max, refl, sym, subst, ap, arith, ◌∙◌, List, [], ◌∷◌, ◌++◌, reverse, append_assoc}
use Rattle.std.proofs.lemmas.List.{append-nil, reverse-append}
use Rattle.mp_system.specs.declared.system.Task.{Task}
use Rattle.sp_terms.specs.Term.{Term, hold, series, par, Parts, no_parts, part, Direction, forward, backward}
use Rattle.sp_term_laws.specs.Moves.{State, States, other, memory_of, memory_of_parts}
use Rattle.cut_laws.specs.Names.{Names, NamesOfParts}
use Rattle.cut_laws.proofs.NamedWays.{NamedRun, NamedRuns, NamedWay, NamedWays, still, stills, onward, onwards}

mutual
  pub move_flipped : (d : Direction) (t : Term) (n : Names t) (s : State t) (v r : ℕ) (s' : State t)
      → NamedRun d t n s v r s' → NamedRun (other d) t n s' v r s
  move_flipped d (hold size) n s v r s' h = absurd h
  move_flipped d (series a w b) (na, x, nb) (inl s) v r (inl s') h = move_flipped d a na s v r s' h
  move_flipped forward (series a w b) (na, x, nb) (inl s) v r (inr s') h = h
  move_flipped backward (series a w b) (na, x, nb) (inl s) v r (inr s') h = absurd h
  move_flipped forward (series a w b) (na, x, nb) (inr s) v r (inl s') h = absurd h
  move_flipped backward (series a w b) (na, x, nb) (inr s) v r (inl s') h = h
  move_flipped d (series a w b) (na, x, nb) (inr s) v r (inr s') h = move_flipped d b nb s v r s' h
  move_flipped d (par ts) n ss v r ss' h = moves_flipped d ts n ss v r ss' h

  moves_flipped : (d : Direction) (ts : Parts) (n : NamesOfParts ts) (ss : States ts) (v r : ℕ) (ss' : States ts)
      → NamedRuns d ts n ss v r ss' → NamedRuns (other d) ts n ss' v r ss
  moves_flipped d no_parts n ss v r ss' h = absurd h
  moves_flipped d (part t ts) (n, ns) (s, ss) v r (s', ss') (inl (e, (q, h, k))) =
      inl (sym e, (q, move_flipped d t n s v q s' h, k ∙ ap (λ x. q + memory_of_parts ts x) e))
  moves_flipped d (part t ts) (n, ns) (s, ss) v r (s', ss') (inr (e, (q, h, k))) =
      inr (sym e, (q, moves_flipped d ts ns ss v q ss' h, k ∙ ap (λ x. memory_of t x + q) e))

pub way_is : {d : Direction} {t : Term} {n : Names t} {s s' : State t} {xs ys : List ℕ} {h k : ℕ}
    → xs ≡ ys → h ≡ k → NamedWay d t n s xs h s' → NamedWay d t n s ys k s'
way_is {d} {t} {n} {s} {s'} {xs} {ys} {h} {k} e f w = subst (λ z. NamedWay d t n s z k s') e (subst (λ z. NamedWay d t n s xs z s') f w)

pub ways_is : {d : Direction} {ts : Parts} {n : NamesOfParts ts} {s s' : States ts} {xs ys : List ℕ} {h k : ℕ}
    → xs ≡ ys → h ≡ k → NamedWays d ts n s xs h s' → NamedWays d ts n s ys k s'
ways_is {d} {ts} {n} {s} {s'} {xs} {ys} {h} {k} e f w =
    subst (λ z. NamedWays d ts n s z k s') e (subst (λ z. NamedWays d ts n s xs z s') f w)

pub way_end : {d : Direction} {t : Term} {n : Names t} {s s' : State t} {xs : List ℕ} {h : ℕ}
    → NamedWay d t n s xs h s' → memory_of t s' ≤ h
way_end (still s) = omega arith
way_end (onward v r w step) = omega arith

pub way_begin : {d : Direction} {t : Term} {n : Names t} {s s' : State t} {xs : List ℕ} {h : ℕ}
    → NamedWay d t n s xs h s' → memory_of t s ≤ h
way_begin (still s) = omega arith
way_begin (onward v r w step) = omega (arith, way_begin w)

ways_end : {d : Direction} {ts : Parts} {n : NamesOfParts ts} {s s' : States ts} {xs : List ℕ} {h : ℕ}
    → NamedWays d ts n s xs h s' → memory_of_parts ts s' ≤ h
ways_end (stills s) = omega arith
ways_end (onwards v r w step) = omega arith

pub way_joined : {d : Direction} {t : Term} {n : Names t} {s s' s'' : State t} {xs ys : List ℕ} {h k : ℕ}
    → NamedWay d t n s xs h s' → NamedWay d t n s' ys k s'' → NamedWay d t n s (xs ++ ys) (max h k) s''
way_joined {xs = xs} w (still s) = way_is (sym (append-nil xs)) (omega (arith, way_end w)) w
way_joined {xs = xs} w (onward {xs = ys} v r u step) = way_is (append_assoc xs ys (v ∷ [])) (omega arith) (onward v r (way_joined w u) step)

pub ways_joined : {d : Direction} {ts : Parts} {n : NamesOfParts ts} {s s' s'' : States ts} {xs ys : List ℕ} {h k : ℕ}
    → NamedWays d ts n s xs h s' → NamedWays d ts n s' ys k s'' → NamedWays d ts n s (xs ++ ys) (max h k) s''
ways_joined {xs = xs} w (stills s) = ways_is (sym (append-nil xs)) (omega (arith, ways_end w)) w
ways_joined {xs = xs} w (onwards {xs = ys} v r u step) =
    ways_is (append_assoc xs ys (v ∷ [])) (omega arith) (onwards v r (ways_joined w u) step)

pub one_step : {d : Direction} {t : Term} {n : Names t} {s s' : State t} (v r : ℕ)
    → NamedRun d t n s v r s' → NamedWay d t n s (v ∷ []) (max (memory_of t s) (max r (memory_of t s'))) s'
one_step {s = s} v r step = onward v r (still s) step

-- the way back
pub way_back : (d : Direction) {t : Term} {n : Names t} {s s' : State t} {xs : List ℕ} {h : ℕ}
    → NamedWay d t n s xs h s' → NamedWay (other d) t n s' (reverse xs) h s
way_back d (still s) = still s
way_back d {t} {n} (onward {s = s} {s' = s'} {s'' = s''} {xs = xs} v r w step) =
    way_is (sym (reverse_snoc xs v)) (omega (arith, way_end w))
    (way_joined (one_step v r (move_flipped d t n s' v r s'' step)) (way_back d w))
  where
    reverse_snoc : (xs : List ℕ) (v : ℕ) → reverse (xs ++ v ∷ []) ≡ v ∷ reverse xs
    reverse_snoc xs v = reverse-append xs (v ∷ [])

-- ways of parts are ways of the whole
pub in_first :
    {d : Direction} {a : Term} (w : Task) (b : Term) {na : Names a} (x : ℕ) (nb : Names b) {s s' : State a} {xs : List ℕ} {h : ℕ}
    → NamedWay d a na s xs h s' → NamedWay d (series a w b) (na, x, nb) (inl s) xs h (inl s')
in_first w b x nb (still s) = still (inl s)
in_first w b x nb (onward v r u step) = onward v r (in_first w b x nb u) step

pub in_second :
    {d : Direction} (a : Term) (w : Task) {b : Term} (na : Names a) (x : ℕ) {nb : Names b} {s s' : State b} {xs : List ℕ} {h : ℕ}
    → NamedWay d b nb s xs h s' → NamedWay d (series a w b) (na, x, nb) (inr s) xs h (inr s')
in_second a w na x (still s) = still (inr s)
in_second a w na x (onward v r u step) = onward v r (in_second a w na x u) step

pub in_par : {d : Direction} {ts : Parts} {n : NamesOfParts ts} {s s' : States ts} {xs : List ℕ} {h : ℕ}
    → NamedWays d ts n s xs h s' → NamedWay d (par ts) n s xs h s'
in_par (stills s) = still s
in_par (onwards v r u step) = onward v r (in_par u) step

pub in_head :
    {d : Direction} {t : Term} {n : Names t} (ts : Parts) (ns : NamesOfParts ts) (ss : States ts) {s s' : State t} {xs : List ℕ} {h : ℕ}
    → NamedWay d t n s xs h s' → NamedWays d (part t ts) (n, ns) (s, ss) xs (h + memory_of_parts ts ss) (s', ss)
in_head ts ns ss (still s) = stills (s, ss)
in_head {d} {t} {n} ts ns ss (onward {s'' = s''} v r u step) =
    ways_is refl (omega arith) (onwards v (r + memory_of_parts ts ss) (in_head ts ns ss u) (inl (refl, (r, step, refl))))

pub in_tail :
    {d : Direction} (t : Term) (n : Names t) (s : State t) {ts : Parts} {ns : NamesOfParts ts} {ss ss' : States ts} {xs : List ℕ} {h : ℕ}
    → NamedWays d ts ns ss xs h ss' → NamedWays d (part t ts) (n, ns) (s, ss) xs (memory_of t s + h) (s, ss')
in_tail t n s (stills ss) = stills (s, ss)
in_tail {d} t n s {ts} (onwards v r u step) =
    ways_is refl (omega arith) (onwards v (memory_of t s + r) (in_tail t n s u) (inr (refl, (r, step, refl))))
