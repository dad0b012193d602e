-- One task more of a priority, after those before it.
use Rattle.std.proofs.Common.{◌≡◌, ℕ, ◌+◌, ◌<◌, Bool, true, ◌&&◌, eqb, leb, List, length, get_or, take, arith}
use Rattle.std.proofs.lemmas.Bool.{and_from, and_parts, eq-eqb, eqb-true, le-leb, leb-true}
use Rattle.std.proofs.lemmas.List.{take_more}
use Rattle.permutations.specs.Perm.{IsPart, IsPerm, times}
use Rattle.permutations.proofs.PermLemmas.{part-push, fresh_at}

-- whether it can come next
abbrev pub is_next : ℕ → List ℕ → ℕ → Bool
is_next n xs i = leb 1 (get_or xs i 0) && leb (get_or xs i 0) n && eqb (times (take i xs) (get_or xs i 0)) 0

pub part-more : (n : ℕ) (xs : List ℕ) (i : ℕ) → i < length xs → IsPart n (take i xs) → is_next n xs i ≡ true → IsPart n (take (i + 1) xs)
part-more n xs i lt part next =
    let x = get_or xs i 0 in
    let all = and_parts (leb 1 x && leb x n) (eqb (times (take i xs) x) 0) next in
    let task = and_parts (leb 1 x) (leb x n) all.0 in
    rw (take_more xs i 0 lt)
    (part-push n (take i xs) x part (leb-true 1 x task.0, leb-true x n task.1) (eqb-true (times (take i xs) x) 0 all.1))

pub next-of-perm : (n : ℕ) (xs : List ℕ) (i : ℕ) → i < length xs → IsPerm n xs → is_next n xs i ≡ true
next-of-perm n xs i lt perm =
    let x = get_or xs i 0 in
    let task = perm.vertices i 0 lt in
    let fresh = fresh_at n xs perm i (omega (arith, lt, perm.len)) in
    and_from _ _ (and_from _ _ (le-leb 1 x task.0) (le-leb x n task.1)) (eq-eqb (times (take i xs) x) 0 fresh)
