-- One word: how clap's walk goes on, and that it passes.
use Rattle.std.proofs.Common.{◌≡◌, ◌∙◌, ℕ, true, false, ◌&&◌, List, [], ◌∷◌, ◌++◌, map, Option, Some, None, refl, sym, ap, inl, inr}
use Rattle.std.specs.Prelude.{nat_eq}
use Rattle.std.specs.Str.{bytes_eq}
use Rattle.std.proofs.lemmas.Bool.{cases_Bool, not-true}
use Rattle.std.proofs.lemmas.List.{map-append}
use Rattle.std.proofs.lemmas.Slice.Eq.{bytes_eq-Decides}
use Rattle.clap.specs.Lexer.{long_of, short_of, name_and_value}
use Rattle.clap.specs.Walk.{Held, Row, Rule, Walk, option, walked, walk_from, arg_by_long, arg_by_id, has_row, settled, reacted, used}
use Rattle.clap.specs.Takes.{turn_passes, settle_passes, use_passes}
use Rattle.command_line.specs.Words.{Text, Given, Shape, is_value}
use Rattle.command_line.specs.Forms.{given_as, if_named, option_in}
use Rattle.command_line.specs.Table.{row_for}
use Rattle.command_line.proofs.FormLemmas.{hyphens_of}
use Rattle.command_line.proofs.RowLemmas.{used_once, use_once}
use Rattle.command_line.proofs.TableLemmas.{built_rule, built_leaf}

-- ---- clap reads a word of an option as we do

-- it begins with two hyphens and goes on
hyphens_then : (w : Text) (p : Text × Option Text) → option_in w ≡ Some p → (c : ℕ) × (text : Text) × (w ≡ 45 ∷ 45 ∷ c ∷ text)
hyphens_then [] p e = absurd cc
hyphens_then (a ∷ []) p e = absurd cc
hyphens_then (a ∷ b ∷ text) p e = elim (cases_Bool (nat_eq a 45 && nat_eq b 45)) [
  | inl y ↦ go text (hyphens_of a b text y) (rw y at e)
  | inr n ↦ (let none : None ≡ Some p = rw n at e in absurd cc)
]
  where
    go : (rest : Text) → a ∷ b ∷ text ≡ 45 ∷ 45 ∷ rest → if_named (name_and_value rest).0 (name_and_value rest).1 ≡ Some p
        → (c : ℕ) × (rest : Text) × (a ∷ b ∷ text ≡ 45 ∷ 45 ∷ c ∷ rest)
    go [] is e = absurd cc
    go (c ∷ rest) is e = (c, rest, is)

name_kept : (name : Text) (value : Option Text) (p : Text × Option Text) → if_named name value ≡ Some p → Some (name, value) ≡ Some p
name_kept [] value p e = absurd cc
name_kept (b ∷ name) value p e = e

long_is : (w : Text) (p : Text × Option Text) → option_in w ≡ Some p → long_of w ≡ Some p
long_is w p e =
    let found = hyphens_then w p e in
    let text = found.0 ∷ found.1 in
    let whole : option_in (45 ∷ 45 ∷ text) ≡ Some p = rw found.2 at e in
    rw found.2 (name_kept (name_and_value text).0 (name_and_value text).1 p whole)

no_hyphens : (w : Text) (p : Text × Option Text) → option_in w ≡ Some p → bytes_eq w (45 ∷ 45 ∷ []) ≡ false
no_hyphens w p e = let found = hyphens_then w p e in rw found.2 refl

short_none : (b : ℕ) (bs : Text) → nat_eq b 45 ≡ false → short_of (b ∷ bs) ≡ None
short_none b bs n = rw n refl

-- ---- steps of the walk

-- the walk, where an option waits for its value
abbrev pub waiting_walk : Text → List Row → ℕ → Walk
waiting_walk name rows skip = record (walk_from (record { rows = rows; pending = Some (name, []); skip = skip })) { waiting = option name }

-- what is held, where an option has its value
abbrev pub pending_value : Text → Text → List Row → ℕ → Held
pending_value name value rows skip = record { rows = rows; pending = Some (name, value ∷ []); skip = skip }

-- `--name=value`
pub step_whole : (rules : List Rule) (h : Held) (w name value : Text) → option_in w ≡ Some (name, Some value)
    → arg_by_long rules name ≡ Some (built_rule name)
    → walked rules [] (walk_from h) w ≡ walk_from (reacted rules (built_rule name) (value ∷ []) h)
unfolding walked
step_whole rules h w name value is found = rw (no_hyphens w _ is, long_is w _ is, found) refl

-- `--name`
pub step_name : (rules : List Rule) (h : Held) (w name : Text) → option_in w ≡ Some (name, None)
    → arg_by_long rules name ≡ Some (built_rule name) → walked rules [] (walk_from h) w ≡ waiting_walk name (settled rules h).rows h.skip
unfolding walked
step_name rules h w name is found = rw (no_hyphens w _ is, long_is w _ is, found) refl

-- `value`
pub step_value : (rules : List Rule) (rows : List Row) (skip : ℕ) (name value : Text) → is_value value ≡ true
    → arg_by_id rules name ≡ Some (built_rule name)
    → walked rules [] (waiting_walk name rows skip) value ≡ walk_from (pending_value name value rows skip)
unfolding walked
step_value rules rows skip name [] e found = absurd cc
step_value rules rows skip name (b ∷ bs) e found =
    let n : nat_eq b 45 ≡ false = not-true _ e in
    let same : bytes_eq name name ≡ true = (bytes_eq-Decides name name).1 refl in
    rw (n, short_none b bs n, found, same) refl

-- ---- they pass, and what is ready after them

-- the options so far are in the rows, once the pending one is used
abbrev pub Ready : List Rule → List Given → Held → Type 0
Ready rules gs h = (settle_passes rules false h ≡ true) × ((settled rules h).rows ≡ map row_for gs)

abbrev pub rules_of : Shape → List Rule
rules_of s = map built_rule s.options

pub pass_whole : (s : Shape) (h : Held) (gs : List Given) (w name value : Text) → option_in w ≡ Some (name, Some value)
    → arg_by_long (rules_of s) name ≡ Some (built_rule name) → Ready (rules_of s) gs h → has_row name (map row_for gs) ≡ false
    → turn_passes (built_leaf s) [] (walk_from h) w ≡ true
pass_whole s h gs w name value is found ready new =
    let rows = (settled (rules_of s) h).rows in
    let fits : use_passes false (built_rule name) (value ∷ []) rows ≡ true = use_once name value rows (ap (has_row name) ready.1 ∙ new) in
    rw (no_hyphens w _ is, long_is w _ is, found, ready.0, fits) refl

pub pass_name : (s : Shape) (h : Held) (gs : List Given) (w name : Text) → option_in w ≡ Some (name, None)
    → arg_by_long (rules_of s) name ≡ Some (built_rule name) → Ready (rules_of s) gs h
    → turn_passes (built_leaf s) [] (walk_from h) w ≡ true
pass_name s h gs w name is found ready = rw (no_hyphens w _ is, long_is w _ is, found, ready.0) refl

pub pass_value : (s : Shape) (rows : List Row) (skip : ℕ) (name value : Text) → is_value value ≡ true
    → turn_passes (built_leaf s) [] (waiting_walk name rows skip) value ≡ true
pass_value s rows skip name [] e = absurd cc
pass_value s rows skip name (b ∷ bs) e = let n : nat_eq b 45 ≡ false = not-true _ e in rw (n, short_none b bs n) refl

rows_used : (rows : List Row) (gs : List Given) (name value : Text) → rows ≡ map row_for gs → has_row name (map row_for gs) ≡ false
    → used (built_rule name) (value ∷ []) rows ≡ map row_for (gs ++ given_as name value ∷ [])
rows_used rows gs name value is new =
    ap (used (built_rule name) (value ∷ [])) is ∙ used_once name value (map row_for gs) new
    ∙ sym (map-append row_for gs (given_as name value ∷ []))

pub ready_whole : (rules : List Rule) (h : Held) (gs : List Given) (name value : Text) → Ready rules gs h
    → has_row name (map row_for gs) ≡ false
    → Ready rules (gs ++ given_as name value ∷ []) (reacted rules (built_rule name) (value ∷ []) h)
ready_whole rules h gs name value ready new = (refl, rows_used (settled rules h).rows gs name value ready.1 new)

pub ready_value : (rules : List Rule) (rows : List Row) (skip : ℕ) (gs : List Given) (name value : Text) → rows ≡ map row_for gs
    → has_row name (map row_for gs) ≡ false → arg_by_id rules name ≡ Some (built_rule name)
    → Ready rules (gs ++ given_as name value ∷ []) (pending_value name value rows skip)
ready_value rules rows skip gs name value is new found =
    (rw found (use_once name value rows (ap (has_row name) is ∙ new)), rw found (rows_used rows gs name value is new))
