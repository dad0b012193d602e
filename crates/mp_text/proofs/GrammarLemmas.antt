-- Of a format: lines that pass, and that a file is well formed or refused, and which.
use Rattle.std.proofs.Common.{◌≡◌, ℕ, List, [], ◌∷◌, ◌++◌, Option, Some, None, ◌⊎◌, inl, inr, refl, sym, ◌∙◌, append_assoc, append-nil}
use Rattle.mp_text.specs.declared.refusals.Refusal.{Refusal}
use Rattle.mp_text.specs.Text.{Row}
use Rattle.mp_text.specs.Grammar.{Format, first_failure, ArePassed, IsWellFormed, RefusesLine, Refuses}
use Rattle.lists.proofs.Lists.{within}

-- ---- splits of a list at an element

-- a split of a list with one element more is at that element, or within the list

-- ---- lines that passed

pub passed-none : {K : Type 0} (format : Format K) → ArePassed format []
passed-none format [] after row e = cc
passed-none format (x ∷ before) after row e = cc

pub passed-more : {K : Type 0} (format : Format K) (before : List Row) (row : Row) → ArePassed format before
    → first_failure (format.line_tests before row) ≡ None → ArePassed format (before ++ row ∷ [])
passed-more format before row passed here others after line e =
    elim (within before row others line after e) [
      | inl h ↦ rw (h.0, h.1) here
      | inr h ↦ passed others h.0 line h.1
    ]

-- ---- a file is well formed or refused

-- a test list passes, or fails with some refusal
outcome : {X : Type 0} (o : Option X) → (o ≡ None) ⊎ ((x : X) × (o ≡ Some x))
outcome None = inl refl
outcome (Some x) = inr (x, refl)

-- given lines that pass, the others decide
decided : {K : Type 0} (format : Format K) (past : ℕ) (before rest all : List Row) → all ≡ before ++ rest → ArePassed format before
    → IsWellFormed format all past ⊎ ((r : Refusal K) × Refuses format all past r)
decided format past before [] all e passed =
    let whole : all ≡ before = e ∙ append-nil before in
    let all_passed : ArePassed format all = rw whole passed in
    elim (outcome (first_failure (format.end_tests all past))) [
      | inl none ↦ inl (record { lines = all_passed; end = none })
      | inr some ↦ inr (some.0, inr (record { passed = all_passed; fails = some.1 }))
    ]
decided format past before (row ∷ rest) all e passed =
    elim (outcome (first_failure (format.line_tests before row))) [
      | inl none ↦ decided format past (before ++ row ∷ []) rest all
          (e ∙ sym (append_assoc before (row ∷ []) rest)) (passed-more format before row passed none)
      | inr some ↦ inr (some.0, inl (record { before = before; row = row; after = rest; split = e; passed = passed; fails = some.1 }))
    ]

pub well_formed_or_refused : {K : Type 0} (format : Format K) (rows : List Row) (past : ℕ)
    → IsWellFormed format rows past ⊎ ((r : Refusal K) × Refuses format rows past r)
well_formed_or_refused format rows past = decided format past [] rows rows refl (passed-none format)

-- ---- of one refusal

-- two splits of a list at an element are one, or one lies before the other
data Order {X : Type 0} (one : List X) (x : X) (two : List X) (y : X) : Type 0 where
  same : one ≡ two → x ≡ y → Order one x two y
  first_later : (rest : List X) → one ≡ two ++ y ∷ rest → Order one x two y
  second_later : (rest : List X) → two ≡ one ++ x ∷ rest → Order one x two y

order_more : {X : Type 0} (one : List X) (x : X) (two : List X) (y z : X) → Order one x two y → Order (z ∷ one) x (z ∷ two) y
order_more one x two y z (same e f) = same (cc) f
order_more one x two y z (first_later rest e) = first_later rest cc
order_more one x two y z (second_later rest e) = second_later rest cc

order_of : {X : Type 0} (one : List X) (x : X) (after_one two : List X) (y : X) (after_two : List X)
    → one ++ x ∷ after_one ≡ two ++ y ∷ after_two → Order one x two y
order_of [] x after_one [] y after_two e = same refl cc
order_of [] x after_one (z ∷ two) y after_two e = second_later two cc
order_of (w ∷ one) x after_one [] y after_two e = first_later one cc
order_of (w ∷ one) x after_one (z ∷ two) y after_two e =
    let head : w ≡ z = cc in
    let tail : one ++ x ∷ after_one ≡ two ++ y ∷ after_two = cc in
    rw (← head) (order_more one x two y w (order_of one x after_one two y after_two tail))

one_line : {K : Type 0} (format : Format K) (rows : List Row) (r q : Refusal K)
    → RefusesLine format rows r → RefusesLine format rows q → r ≡ q
one_line format rows r q one two =
    elim (order_of one.before one.row one.after two.before two.row two.after (sym one.split ∙ two.split)) [
      | same e f ↦
          (let fails : first_failure (format.line_tests two.before two.row) ≡ Some r = rw (← e, ← f) one.fails in
          let other = two.fails in cc)
      | first_later rest e ↦ (let none = one.passed two.before rest two.row e in let some = two.fails in cc)
      | second_later rest e ↦ (let none = two.passed one.before rest one.row e in let some = one.fails in cc)
    ]

pub one_refusal : {K : Type 0} (format : Format K) (rows : List Row) (past : ℕ) (r q : Refusal K)
    → Refuses format rows past r → Refuses format rows past q → r ≡ q
one_refusal format rows past r q (inl one) (inl two) = one_line format rows r q one two
one_refusal format rows past r q (inl one) (inr two) = let none = two.passed one.before one.after one.row one.split in
    let some = one.fails in
    cc
one_refusal format rows past r q (inr one) (inl two) = let none = one.passed two.before two.after two.row two.split in
    let some = two.fails in
    cc
one_refusal format rows past r q (inr one) (inr two) = let this = one.fails in let that = two.fails in cc
