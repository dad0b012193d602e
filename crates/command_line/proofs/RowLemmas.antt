-- The rows of clap's matches, for options that are given.
use Rattle.std.proofs.Common.{◌≡◌, ◌∙◌, true, false, not, ◌||◌, List, [], ◌∷◌, ◌++◌, map}
use Rattle.std.proofs.Common.{Some, refl, sym, ap, append-nil, inl, inr, bytes_eq}
use Rattle.std.proofs.lemmas.Bool.{cases_Bool, and_parts, or_parts, not-true}
use Rattle.std.proofs.lemmas.List.Folds.{list_any-append}
use Rattle.std.proofs.lemmas.Slice.Eq.{bytes_eq-Decides}
use Rattle.clap.specs.Walk.{Row, arg_by_long, arg_by_id, has_row, at_row, without, used, first_of, more_values}
use Rattle.clap.specs.Takes.{use_passes}
use Rattle.clap.specs.declared.parser.matches.ValueSource.TheVariants.{CommandLine}
use Rattle.command_line.specs.Words.{Text, Given, are_distinct, gives, value_of}
use Rattle.command_line.specs.Forms.{given_as, is_among}
use Rattle.command_line.specs.Table.{row_for}
use Rattle.command_line.proofs.OptionLemmas.{bytes_eq_sym}
use Rattle.command_line.proofs.TableLemmas.{built_rule}

-- ---- names

pub same_bytes : (a b : Text) → bytes_eq a b ≡ true → a ≡ b
same_bytes a b e = (bytes_eq-Decides a b).0 e

pub by_long : (names : List Text) (name : Text) → is_among names name ≡ true
    → arg_by_long (map built_rule names) name ≡ Some (built_rule name)
by_long [] name e = absurd cc
by_long (first ∷ names) name e = elim (cases_Bool (bytes_eq first name)) [
  | inl same ↦ rw same (ap (λ v. Some (built_rule v)) (same_bytes first name same))
  | inr other ↦ (let e' : is_among names name ≡ true = rw other at e in rw other (by_long names name e'))
]

pub by_id : (names : List Text) (name : Text) → is_among names name ≡ true
    → arg_by_id (map built_rule names) name ≡ Some (built_rule name)
by_id [] name e = absurd cc
by_id (first ∷ names) name e = elim (cases_Bool (bytes_eq first name)) [
  | inl same ↦ rw same (ap (λ v. Some (built_rule v)) (same_bytes first name same))
  | inr other ↦ (let e' : is_among names name ≡ true = rw other at e in rw other (by_id names name e'))
]

-- ---- one row more

at_absent : (id : Text) (change : Row → List Row) (missing rows : List Row) → has_row id rows ≡ false
    → at_row id change missing rows ≡ rows ++ missing
at_absent id change missing [] e = refl
at_absent id change missing (row ∷ rows) e =
    let parts = or_parts (bytes_eq row.id id) (has_row id rows) e in
    rw parts.0 (ap (λ v. row ∷ v) (at_absent id change missing rows parts.1))

pub used_once : (name value : Text) (rows : List Row) → has_row name rows ≡ false
    → used (built_rule name) (value ∷ []) rows ≡ rows ++ row_for (given_as name value) ∷ []
used_once name value rows e =
    let same : without name rows ≡ rows = at_absent name (λ _. []) [] rows e ∙ append-nil rows in
    rw same (at_absent name (more_values CommandLine (value ∷ [])) (row_for (given_as name value) ∷ []) rows e)

pub use_once : (name value : Text) (rows : List Row) → has_row name rows ≡ false
    → use_passes false (built_rule name) (value ∷ []) rows ≡ true
use_once name value rows e = rw e refl

pub rows_gives : (name : Text) (gs : List Given) → has_row name (map row_for gs) ≡ gives name gs
rows_gives name [] = refl
rows_gives name (g ∷ gs) = ap (λ b. bytes_eq g.name name || b) (rows_gives name gs)

-- an option is not among those before it
pub not_before : (gs : List Given) (g : Given) (rest : List Given) → are_distinct (gs ++ g ∷ rest) ≡ true → gives g.name gs ≡ false
not_before [] g rest e = refl
not_before (first ∷ gs) g rest e =
    let both = and_parts (not (gives first.name (gs ++ g ∷ rest))) (are_distinct (gs ++ g ∷ rest)) e in
    let parts = list_any-append (λ (o : Given). bytes_eq o.name first.name) gs (g ∷ rest) in
    let later = (or_parts (gives first.name gs) (gives first.name (g ∷ rest)) (sym parts ∙ not-true _ both.0)).1 in
    let other = (or_parts (bytes_eq g.name first.name) (gives first.name rest) later).0 in
    rw (bytes_eq_sym first.name g.name, other) (not_before gs g rest both.1)

-- ---- the value of an option

pub value_found : (name : Text) (gs : List Given) → first_of name (map row_for gs) ≡ value_of name gs
value_found name [] = refl
value_found name (g ∷ gs) = elim (cases_Bool (bytes_eq g.name name)) [
  | inl same ↦ rw same refl
  | inr other ↦ rw other (value_found name gs)
]
