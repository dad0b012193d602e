-- The arcs of readers: each is one of a graph, there are as many as readers, and those of one item more.
use Rattle.std.proofs.Common.{◌≡◌, ℕ, ◌+◌, ◌<◌, false, eq-eqb, List, [], ◌∷◌, ◌++◌, length, length-append}
use Rattle.std.proofs.Common.{map, take, Option, Some, None, unwrap_or, refl, sym, ap, ◌∙◌, arith}
use Rattle.std.specs.List.{All, sum_by}
use Rattle.std.specs.Option.{ForSome}
use Rattle.std.proofs.lemmas.List.{take_more, length-map, flat_map_more}
use Rattle.std.proofs.lemmas.List.Sums.{sum_by-cons}
use Rattle.std.proofs.lemmas.List.Elements.{All-head, All-tail, All-nil, All-cons, All-append}
use Rattle.mp_system.specs.System.{is_named}
use Rattle.graphs.specs.declared.arc.Arc.{Arc}
use Rattle.graphs.specs.Graph.{IsAmong, IsArcWithin, arc_between}
use Rattle.shared_systems.specs.Shared.{SharedItem, shared_item_at}
use Rattle.shared_systems.specs.Bounds.{IsSharedItemWithin, item_arcs, use_arcs, reader_count}
use Rattle.shared_systems.proofs.KeySums.{no_item}

arc_within : (n : ℕ) (from : Option ℕ) (c : ℕ) → ForSome from (IsAmong n) → IsAmong n c
    → is_named from c ≡ false → IsArcWithin n (arc_between (unwrap_or from 0) c)
arc_within n None c producer reader apart = record { from = omega arith; to = reader.1; apart = λ e. refl; size = omega arith }
arc_within n (Some p) c producer reader apart = record {
  from = (producer p refl).1;
  to = reader.1;
  apart = λ e. absurd (let same = sym (eq-eqb p c e) ∙ apart in cc);
  size = omega arith;
}

arcs_of : (n : ℕ) (from : Option ℕ) (readers : List ℕ) → ForSome from (IsAmong n)
    → All (IsAmong n) readers → All (λ c. is_named from c ≡ false) readers
    → All (IsArcWithin n) (map (arc_between (unwrap_or from 0)) readers)
arcs_of n from [] producer each apart = All-nil (IsArcWithin n)
arcs_of n from (c ∷ cs) producer each apart =
    All-cons (IsArcWithin n) (arc_between (unwrap_or from 0) c) (map (arc_between (unwrap_or from 0)) cs)
    (arc_within n from c producer (All-head (IsAmong n) c cs each) (All-head (λ d. is_named from d ≡ false) c cs apart))
    (arcs_of n from cs producer (All-tail (IsAmong n) c cs each) (All-tail (λ d. is_named from d ≡ false) c cs apart))

pub arcs_within : (n : ℕ) (xs : List SharedItem) → All (IsSharedItemWithin n) xs → All (IsArcWithin n) (use_arcs xs)
arcs_within n [] within = All-nil (IsArcWithin n)
arcs_within n (x ∷ xs) within =
    let here = All-head (IsSharedItemWithin n) x xs within in
    All-append (IsArcWithin n) (item_arcs x) (use_arcs xs) (arcs_of n x.from x.readers here.producer here.readers here.apart)
    (arcs_within n xs (All-tail (IsSharedItemWithin n) x xs within))

pub arcs_long : (xs : List SharedItem) → length (use_arcs xs) ≡ sum_by reader_count xs
arcs_long [] = refl
arcs_long (x ∷ xs) =
    omega (
      arith,
      length-append (item_arcs x) (use_arcs xs),
      length-map x.readers (arc_between (unwrap_or x.from 0)),
      arcs_long xs,
      sum_by-cons reader_count x xs,
    )

pub arcs_more : (xs : List SharedItem) (i : ℕ) (arcs later : List Arc) → i < length xs
    → arcs ≡ use_arcs (take i xs) → later ≡ arcs ++ item_arcs (shared_item_at xs i)
    → later ≡ use_arcs (take (i + 1) xs)
arcs_more xs i arcs later lt are is =
    is ∙ ap (λ (l : List Arc). l ++ item_arcs (shared_item_at xs i)) are
    ∙ flat_map_more item_arcs [] (take i xs) (shared_item_at xs i) ∙ ap use_arcs (sym (take_more xs i no_item lt))
