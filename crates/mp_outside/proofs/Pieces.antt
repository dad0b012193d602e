-- Reading and writing in pieces: one piece more.
use Rattle.std.proofs.Common.{◌≡◌, ℕ, ◌+◌, ◌-◌, ◌≤◌, List, ◌++◌, length, take, drop, sym, ap, ◌∙◌, arith, append_assoc, Option, Some, None}
use Rattle.std.proofs.lemmas.List.{length-take-le, take_rest}
use Rattle.std.proofs.Math.Seq.{take-add}
use Rattle.mp_outside.specs.Outside.{Appended, LoadsTold}

-- what was read so far is the front of the contents, where they are told
abbrev pub ReadSoFar : Option (List ℕ) → List ℕ → Type 0
ReadSoFar None front = Unit {0}
ReadSoFar (Some text) front = (n : ℕ) × (n ≤ length text) × (front ≡ take n text)

pub Appended-then : (a b c : Option (List ℕ)) (x y : List ℕ) → Appended a b x → Appended b c y → Appended a c (x ++ y)
Appended-then None None None x y p q = tt
Appended-then None None (Some c) x y p q = q
Appended-then None (Some b) c x y p q = absurd p
Appended-then (Some a) None c x y p q = absurd p
Appended-then (Some a) (Some b) None x y p q = q
Appended-then (Some a) (Some b) (Some c) x y p q = q ∙ ap (λ (l : List ℕ). l ++ y) p ∙ append_assoc a x y

-- the front of the bytes was written, and then the front of the rest
pub Appended-more : (a b c : Option (List ℕ)) (bytes : List ℕ) (at n : ℕ) → at ≤ length bytes → Appended a b (take at bytes)
    → Appended b c (take n (take (length bytes - at) (drop at bytes))) → Appended a c (take (at + n) bytes)
Appended-more a b c bytes at n le p q =
    rw (take-add at n bytes) (Appended-then a b c (take at bytes) (take n (drop at bytes)) p (rw take_rest at q))

-- the front of the contents was read, and then a piece from there on
pub ReadSoFar-more : (told : Option (List ℕ)) (front buf : List ℕ) (place n : ℕ) → place ≡ length front
    → ReadSoFar told front → LoadsTold told place n buf → ReadSoFar told (front ++ take n buf)
ReadSoFar-more None front buf place n at so_far loads = tt
ReadSoFar-more (Some text) front buf place n at so_far loads =
    let m = so_far.0 in
    let len : place ≡ m = omega (arith, at, ap length so_far.2, length-take-le m text so_far.1) in
    let piece : take n buf ≡ take n (drop m text) = loads.front ∙ ap (λ (k : ℕ). take n (drop k text)) len in (
      m + n,
      omega (arith, loads.within, so_far.1, len),
      ap (λ (l : List ℕ). front ++ l) piece ∙ ap (λ (l : List ℕ). l ++ take n (drop m text)) so_far.2 ∙ sym (take-add m n text),
    )
