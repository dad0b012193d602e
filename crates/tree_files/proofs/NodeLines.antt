-- Lines with the fields of a node, and lines without.
use Rattle.std.proofs.Common.{◌≡◌, ℕ, false, List, [], ◌∷◌, codes, Option, Some, None, Err, inl, inr, refl}
use Rattle.std.specs.Option.{option_and_then, option_map}
use Rattle.std.specs.Str.{bytes_eq}
use Rattle.std.specs.Cmp.Lexicographic.{pointwise}
use Rattle.std.proofs.lemmas.Bool.{cases_Bool, and_right}
use Rattle.mp_text.specs.Text.{Row, number_of, numbers_of}
use Rattle.mp_text.specs.Reading.{tested}
use Rattle.file_frame.specs.declared.version.Version.{Version}
use Rattle.file_frame.specs.declared.version.Version.TheVariants.{One, Two}
use Rattle.tree_files.specs.TreeFile.{fields_of, fields_stated, node_tests}
use Rattle.tree_files.specs.Reader.{refusal_without_fields}
use Rattle.tree_files.specs.declared.fields.NodeFields.{NodeFields}
use Rattle.file_frame.specs.Frame.{is_end}

-- one number is too few
one_number : (version : Version) (first : Option ℕ) (f : NodeFields)
    → fields_of version (option_and_then (λ n. option_map (λ ns. n ∷ ns) (Some [])) first) ≡ Some f → {A : Type 0} → A
one_number One None f read = absurd cc
one_number One (Some n) f read = absurd cc
one_number Two None f read = absurd cc
one_number Two (Some n) f read = absurd cc

-- the end has one word
not_end : (version : Version) (tokens : List (List ℕ)) (f : NodeFields) → fields_of version (numbers_of tokens) ≡ Some f
    → pointwise bytes_eq tokens (codes "end" ∷ []) ≡ false
unfolding numbers_of
not_end version [] f read = refl
not_end version (token ∷ []) f read = one_number version (number_of token) f read
not_end version (token ∷ second ∷ rest) f read = and_right (bytes_eq token (codes "end")) false refl

pub fields_no_end : (version : Version) (row : Row) (f : NodeFields) → fields_stated version row ≡ Some f → is_end row ≡ false
fields_no_end version row f read = not_end version row.tokens f read

pub no_fields : {S : Type 0} (version : Version) (count total : ℕ) (row : Row) (value : S) → fields_stated version row ≡ None
    → tested (node_tests version count total row) value ≡ Err (refusal_without_fields row)
no_fields version count total row value none =
    elim (cases_Bool (is_end row)) [ inl end ↦ rw end refl | inr other ↦ rw (other, none) refl ]
