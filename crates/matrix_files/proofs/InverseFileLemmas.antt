-- Of an order whose places stand in a file, in either form: its two tables undo each other, so that it is a permutation with these places.
use Rattle.std.proofs.Common.{◌≡◌, ℕ, zero, suc, ◌-◌, ◌≤◌, Bool, true, false, cond, List, ◌∷◌, length, get_or, map, refl, sym, ap}
use Rattle.std.proofs.Common.{subst, ◌∙◌, arith}
use Rattle.std.proofs.lemmas.List.FromFn.{length-map-range_with_len, get_or-map-range_with_len}
use Rattle.lists.specs.Numbers.{number_at}
use Rattle.mp_text.specs.declared.layout.Layout.TheVariants.{Commented}
use Rattle.mp_text.specs.declared.refusals.Refusal.{Refusal}
use Rattle.mp_text.specs.declared.refusals.Refusal.TheVariants as refusals
use Rattle.mp_text.specs.Text.{Row}
use Rattle.mp_text.specs.Ahead.{rows_of_bytes, past_of_bytes}
use Rattle.mp_text.specs.Grammar.{Format, IsWellFormed, Refuses}
use Rattle.permutations.specs.Perm.{AreInverse, IsPerm, IsVertex, vertex_at, place_of}
use Rattle.permutations.proofs.InverseLemmas.{perm_of_tables, places_of_tables}
use Rattle.permutations.proofs.PermLemmas.{vertex_of_place, place_of_vertex}
use Rattle.permutations.proofs.PlaceLemmas.{place-le}
use Rattle.matrix_files.specs.OrderFile.{tokens_of_rows}
use Rattle.matrix_files.specs.PermFile.{counted, numbering_format}
use Rattle.matrix_files.specs.OrderReader.{ReadsNumbering, IsFormatRefusal}
use Rattle.matrix_files.specs.ListingFile.{base_listed, places_listed, listing_format}
use Rattle.matrix_files.specs.ListingReader.{ReadsListing, ReadsPlaces}
use Rattle.matrix_files.specs.InverseFile.{inverse_of, is_listing, base_alone, inverse_format, places_stated, ReadsInverse}
use Rattle.matrix_files.specs.InverseFile.{IsInverseRefusal}
use Rattle.matrix_files.specs.declared.perm_file.PermKind.{PermKind}
use Rattle.matrix_files.proofs.PermFileLemmas.{numbering_is_perm}
use Rattle.matrix_files.proofs.ListingLemmas.{listing_is_perm}

module _ (n : ℕ) (places : List ℕ) (perm : IsPerm n places) where
  long : length (inverse_of places) ≡ n
  long = length-map-range_with_len (place_of places) 1 (length places) ∙ perm.len

  -- the vertex at a place
  at_place : (k : ℕ) → k ≤ n → get_or (0 ∷ inverse_of places) k 0 ≡ place_of places k
  at_place zero le = sym (place_of_vertex n places perm 0 (omega arith))
  at_place (suc i) le =
      get_or-map-range_with_len (place_of places) 1 (length places) i (suc i) 0 (omega (arith, perm.len)) (omega arith)

  -- the place of a vertex
  at_vertex : (v : ℕ) → get_or (0 ∷ places) v 0 ≡ vertex_at places v
  at_vertex zero = refl
  at_vertex (suc i) = refl

  small : (v : ℕ) → v ≤ n → get_or (0 ∷ places) v 0 ≤ n
  small zero le = omega arith
  small (suc i) le = (perm.vertices i 0 (omega (arith, perm.len))).1

  pub inverse_tables_of : AreInverse (0 ∷ inverse_of places) (0 ∷ places)
  inverse_tables_of = record {
    some = omega arith;
    same_length = ap suc (perm.len ∙ sym long);
    unused = refl;
    vertex = λ k lt.
        let le : k ≤ n = omega (arith, lt, long) in
        let here = at_place k le in (
          omega (arith, here, place-le places k, perm.len, long),
          ap (λ (v : ℕ). get_or (0 ∷ places) v 0) here ∙ at_vertex (place_of places k) ∙ vertex_of_place n places perm k le,
        );
    place = λ v lt.
        let le : v ≤ n = omega (arith, lt, long) in
        let there = small v le in (
          omega (arith, there, long),
          at_place (get_or (0 ∷ places) v 0) there ∙ ap (place_of places) (at_vertex v) ∙ place_of_vertex n places perm v le,
        );
  }

-- ---- the form of a file

module _ (n : ℕ) (bytes : List ℕ) where
  abbrev rows : List Row
  rows = rows_of_bytes Commented bytes

  abbrev tokens : List (List ℕ)
  tokens = tokens_of_rows rows

  listed_format : is_listing n rows ≡ true → inverse_format n rows ≡ listing_format (base_listed tokens) n
  listed_format many =
      ap (λ (b : Bool). cond b (listing_format (base_listed tokens) n) (numbering_format (base_alone rows) n)) many

  alone_format : is_listing n rows ≡ false → inverse_format n rows ≡ numbering_format (base_alone rows) n
  alone_format few =
      ap (λ (b : Bool). cond b (listing_format (base_listed tokens) n) (numbering_format (base_alone rows) n)) few

  abbrev stated_in : Bool → List ℕ
  stated_in b = map (counted (cond b (base_listed tokens) (base_alone rows))) (cond b (places_listed tokens) tokens)

  listed_places : is_listing n rows ≡ true → places_stated n rows ≡ map (counted (base_listed tokens)) (places_listed tokens)
  listed_places many = ap stated_in many

  alone_places : is_listing n rows ≡ false → places_stated n rows ≡ map (counted (base_alone rows)) tokens
  alone_places few = ap stated_in few

  -- ---- what it reads as, and what refuses it

  abbrev IsWell : Format PermKind → Type 0
  IsWell format = IsWellFormed format rows (past_of_bytes bytes)

  pub reads_listed : (places : List ℕ) → is_listing n rows ≡ true → ReadsListing (base_listed tokens) n bytes places
      → ReadsPlaces n bytes places
  reads_listed places many reads =
      record { form = subst IsWell (sym (listed_format many)) reads.form; stated = reads.stated ∙ sym (listed_places many) }

  pub reads_alone : (places : List ℕ) → is_listing n rows ≡ false → ReadsNumbering (base_alone rows) n bytes places
      → ReadsPlaces n bytes places
  reads_alone places few reads =
      record { form = subst IsWell (sym (alone_format few)) reads.form; stated = reads.stated ∙ sym (alone_places few) }

  refused_by : (format : Format PermKind) (r : Refusal PermKind) → inverse_format n rows ≡ format → IsFormatRefusal format bytes r
      → IsInverseRefusal n bytes r
  refused_by format refusals.NoMemory is refused = tt
  refused_by format (refusals.Format f) is refused =
      subst (λ (g : Format PermKind). Refuses g rows (past_of_bytes bytes) (refusals.Format f)) (sym is) refused
  refused_by format (refusals.Limit l) is refused = refused

  pub refused_listed : (r : Refusal PermKind) → is_listing n rows ≡ true → IsFormatRefusal (listing_format (base_listed tokens) n) bytes r
      → IsInverseRefusal n bytes r
  refused_listed r many refused = refused_by (listing_format (base_listed tokens) n) r (listed_format many) refused

  pub refused_alone : (r : Refusal PermKind) → is_listing n rows ≡ false → IsFormatRefusal (numbering_format (base_alone rows) n) bytes r
      → IsInverseRefusal n bytes r
  refused_alone r few refused = refused_by (numbering_format (base_alone rows) n) r (alone_format few) refused

  -- the places of a file that is read are a permutation, in either form
  stated_perm : IsWell (inverse_format n rows) → IsPerm n (places_stated n rows)
  stated_perm form = go (is_listing n rows) refl where
    go : (b : Bool) → is_listing n rows ≡ b → IsPerm n (places_stated n rows)
    go true many = listing_is_perm (base_listed tokens) n bytes (places_stated n rows) many
        (record { form = subst IsWell (listed_format many) form; stated = listed_places many })
    go false few = numbering_is_perm (base_alone rows) n bytes (places_stated n rows)
        (record { form = subst IsWell (alone_format few) form; stated = alone_places few })

module _ (n : ℕ) (bytes order : List ℕ) (reads : ReadsInverse n bytes order) where
  abbrev places : List ℕ
  places = places_stated n (rows_of_bytes Commented bytes)

  perm : IsPerm n places
  perm = stated_perm n bytes reads.form

  undone : AreInverse (0 ∷ inverse_of places) (0 ∷ places)
  undone = inverse_tables_of n places perm

  pub inverse_perm : IsPerm n order
  inverse_perm =
      rw reads.stated
      (subst (λ (k : ℕ). IsPerm k (inverse_of places)) (long n places perm) (perm_of_tables (inverse_of places) (0 ∷ places) undone))

  pub inverse_places : (v : ℕ) → IsVertex n v → place_of order v ≡ number_at places v
  inverse_places zero vertex = absurd (let some = vertex.0 in omega arith)
  inverse_places (suc i) vertex =
      let at : suc i - 1 ≡ i = omega arith in
      ap (λ (vs : List ℕ). place_of vs (suc i)) reads.stated
      ∙ sym (places_of_tables (inverse_of places) (0 ∷ places) undone (suc i))
      ∙ ap (λ (k : ℕ). get_or places k 0) (sym at)
