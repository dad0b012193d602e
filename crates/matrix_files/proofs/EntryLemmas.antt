-- What the first tokens of an entry line spell.
use Rattle.std.proofs.Common.{◌≡◌, ◌==◌, ℕ, true, List, [], ◌∷◌, length, drop, slice_index_or, Some, refl}
use Rattle.mp_text.specs.Text.{number_of}
use Rattle.matrix_files.specs.MatrixFile.{entry_stated}

-- two numbers at the front of tokens, and the values after them
pub entry_read : (values : ℕ) (tokens : List (List ℕ)) (i j : ℕ)
    → Some i ≡ number_of (slice_index_or tokens 0 []) → Some j ≡ number_of (slice_index_or (drop 1 tokens) 0 [])
    → (length (drop 1 (drop 1 tokens)) == values) ≡ true → Some (i, j) ≡ entry_stated values tokens
unfolding entry_stated number_of
entry_read values [] i j first second left = absurd cc
entry_read values (a ∷ []) i j first second left = absurd cc
entry_read values (a ∷ b ∷ rest) i j first second left = rw (left, ← first, ← second) refl
