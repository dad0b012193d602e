-- Numbers of tokens, one after another.
use Rattle.std.proofs.Common.{◌≡◌, ◌≢◌, ℕ, ◌<◌, List, [], ◌∷◌, ◌++◌, length, get_or, drop, map, refl, sym}
use Rattle.std.proofs.Common.{ap, ◌∙◌, Option, Some, None, arith, append_assoc, append-nil, length-append}
use Rattle.std.specs.Option.{IfSome, option_map, option_and_then}
use Rattle.mp_text.specs.Text.{number_of, numbers_of}
use Rattle.mp_text.proofs.TextLemmas.{number_of-empty}

pub numbers_of-nil : numbers_of [] ≡ Some []
unfolding numbers_of
numbers_of-nil = refl

pub numbers_of-cons : (token : List ℕ) (tokens : List (List ℕ))
    → numbers_of (token ∷ tokens) ≡ option_and_then (λ n. option_map (λ ns. n ∷ ns) (numbers_of tokens)) (number_of token)
unfolding numbers_of
numbers_of-cons token tokens = refl

abbrev pub joined_to : List ℕ → Option (List ℕ) → Option (List ℕ)
joined_to before rest = option_map (λ ns. before ++ ns) rest

-- the numbers of all tokens are these first ones, and those of the rest
abbrev pub Goes : List (List ℕ) → List ℕ → List (List ℕ) → Type 0
Goes all before rest = numbers_of all ≡ joined_to before (numbers_of rest)

joined_to-nil : (o : Option (List ℕ)) → o ≡ joined_to [] o
joined_to-nil None = refl
joined_to-nil (Some ns) = refl

joined_to-push : (before : List ℕ) (n : ℕ) (o : Option (List ℕ))
    → joined_to before (option_map (λ ns. n ∷ ns) o) ≡ joined_to (before ++ n ∷ []) o
joined_to-push before n None = refl
joined_to-push before n (Some ns) = ap Some (sym (append_assoc before (n ∷ []) ns))

pub goes-first : (all : List (List ℕ)) → Goes all [] all
goes-first all = joined_to-nil (numbers_of all)

pub goes-next : (all rest : List (List ℕ)) (before : List ℕ) (n : ℕ) → Goes all before rest
    → Some n ≡ number_of (get_or rest 0 []) → Goes all (before ++ n ∷ []) (drop 1 rest)
goes-next all [] before n goes is = let none = number_of-empty [] refl in cc
goes-next all (token ∷ rest) before n goes is =
    let first : numbers_of (token ∷ rest) ≡ option_map (λ ns. n ∷ ns) (numbers_of rest) =
    numbers_of-cons token rest ∙ ap (option_and_then (λ n. option_map (λ ns. n ∷ ns) (numbers_of rest))) (sym is) in
    goes ∙ ap (joined_to before) first ∙ joined_to-push before n (numbers_of rest)

-- the numbers are not so many, if all tokens spell one
abbrev pub AreNot : ℕ → Option (List ℕ) → Type 0
AreNot n numbers = IfSome numbers (λ ns. length ns ≢ n)

-- all tokens are taken
pub goes-ends : (all : List (List ℕ)) (before : List ℕ) → Goes all before [] → numbers_of all ≡ Some before
goes-ends all before goes = goes ∙ ap (joined_to before) numbers_of-nil ∙ ap (λ (ns : List ℕ). Some ns) (append-nil before)

-- a token spells no number, or none is left
pub goes-stops : (all rest : List (List ℕ)) (before : List ℕ) (n : ℕ) → Goes all before rest
    → None ≡ number_of (get_or rest 0 []) → length before < n → AreNot n (numbers_of all)
goes-stops all [] before n goes is fewer = rw (goes-ends all before goes) (λ e. omega arith)
goes-stops all (token ∷ rest) before n goes is fewer =
    let first : numbers_of (token ∷ rest) ≡ None =
    numbers_of-cons token rest ∙ ap (option_and_then (λ n. option_map (λ ns. n ∷ ns) (numbers_of rest))) (sym is) in
    rw (goes, first) tt

more_than : (n : ℕ) (before : List ℕ) (rest : Option (List ℕ)) (first : Option ℕ) → length before ≡ n
    → AreNot n (joined_to before (option_and_then (λ m. option_map (λ ns. m ∷ ns) rest) first))
more_than n before rest None same = tt
more_than n before None (Some m) same = tt
more_than n before (Some ns) (Some m) same = λ e. omega (arith, length-append before (m ∷ ns))

-- a token is left
pub goes-on : (all rest : List (List ℕ)) (token : List ℕ) (before : List ℕ) (n : ℕ)
    → Goes all before (token ∷ rest) → length before ≡ n → AreNot n (numbers_of all)
goes-on all rest token before n goes same =
    rw (goes, numbers_of-cons token rest) (more_than n before (numbers_of rest) (number_of token) same)

-- the numbers of tokens, one by one
each-step : (token : List ℕ) (tokens : List (List ℕ)) (ns : List ℕ) (first : Option ℕ) (rest : Option (List ℕ)) → number_of token ≡ first
    → ((ms : List ℕ) → rest ≡ Some ms → map number_of tokens ≡ map (λ n. Some n) ms)
    → option_and_then (λ n. option_map (λ ms. n ∷ ms) rest) first ≡ Some ns
    → number_of token ∷ map number_of tokens ≡ map (λ n. Some n) ns
each-step token tokens ns None rest first_is others are = cc
each-step token tokens ns (Some n) None first_is others are = cc
each-step token tokens [] (Some n) (Some ms) first_is others are = cc
each-step token tokens (k ∷ ns) (Some n) (Some ms) first_is others are =
    let same : ms ≡ ns = cc in
    let head : n ≡ k = cc in
    rw (first_is, others ms refl, same, head) refl

pub numbers_of-each : (tokens : List (List ℕ)) (ns : List ℕ) → numbers_of tokens ≡ Some ns → map number_of tokens ≡ map (λ n. Some n) ns
unfolding numbers_of
numbers_of-each [] [] are = refl
numbers_of-each [] (n ∷ ns) are = cc
numbers_of-each (token ∷ tokens) ns are =
    each-step token tokens ns (number_of token) (numbers_of tokens) refl (λ ms e. numbers_of-each tokens ms e) are

pub numbers_of-all : (tokens : List (List ℕ)) (ns : List ℕ) → map number_of tokens ≡ map (λ n. Some n) ns → numbers_of tokens ≡ Some ns
unfolding numbers_of
numbers_of-all [] [] are = refl
numbers_of-all [] (n ∷ ns) are = cc
numbers_of-all (token ∷ tokens) [] are = cc
numbers_of-all (token ∷ tokens) (n ∷ ns) are =
    let first : number_of token ≡ Some n = cc in
    let others : map number_of tokens ≡ map (λ n. Some n) ns = cc in
    rw (first, numbers_of-all tokens ns others) refl
