-- Files in memory: what a change of one file does to the file, the contents and the count of
-- every name.
use Rattle.std.proofs.Common.{◌≡◌, ℕ, ◌≤◌, Bool, true, false, cond, ◌⊎◌, inl, inr, List, [], ◌∷◌, ◌++◌, length}
use Rattle.std.proofs.Common.{get_or, set, Option, Some, None, refl, sym, ap, subst, ◌∙◌, arith}
use Rattle.std.specs.Prelude.{find, position, nat_lt}
use Rattle.std.specs.List.{position_or_len, slice_get}
use Rattle.std.specs.Option.{option_or}
use Rattle.std.specs.Str.{bytes_eq}
use Rattle.std.proofs.lemmas.Slice.Eq.{bytes_eq-Decides}
use Rattle.std.proofs.lemmas.List.Folds.{find_at, find-set, find_past, find-append}
use Rattle.std.proofs.lemmas.List.Quantifiers.{position-Some}
use Rattle.std.proofs.lemmas.Option.{slice_get_past, slice_get_read}
use Rattle.std.proofs.lemmas.Bool.Decides.{nat_tests}
use Rattle.mp_outside.specs.Outside.{one_more, Rose}
use Rattle.mp_outside.specs.MemFiles.{MemFile, FilesState, has_name, file_of, contents_of, fault_count_of, RaisesOnly, Puts}
use Rattle.lists.proofs.Bools.{or_true, true_or_false}

same_or_not : (a b : List ℕ) → ((bytes_eq a b ≡ true) × (a ≡ b)) ⊎ (bytes_eq a b ≡ false)
same_or_not a b = elim (true_or_false (bytes_eq a b)) [ inl e ↦ inl (e, (bytes_eq-Decides a b).0 e) | inr e ↦ inr e ]

-- where an element is found, its place is the first that passes
place_of : {X : Type 0} (p : X → Bool) (xs : List X) (i : ℕ) → position p xs ≡ Some i → i ≡ position_or_len p xs
place_of p xs i at =
    elim (true_or_false (nat_lt (position_or_len p xs) (length xs))) [
      | inl e ↦ (let some : Some (position_or_len p xs) ≡ Some i = rw e at at in cc)
      | inr e ↦ (let none : None ≡ Some i = rw e at at in absurd cc)
    ]

-- where none is found, there is none
pub none_found : {X : Type 0} (p : X → Bool) (xs : List X) → position p xs ≡ None → find p xs ≡ None
none_found p xs at =
    elim (true_or_false (nat_lt (position_or_len p xs) (length xs))) [
      | inl e ↦ (let some : Some (position_or_len p xs) ≡ None = rw e at at in absurd cc)
      | inr e ↦
          (let past : length xs ≤ position_or_len p xs = grind (arith, nat_tests) in
          find_at p xs ∙ slice_get_past xs (position_or_len p xs) past)
    ]

-- the file at the place of a name is the file with this name
pub found : (name : List ℕ) (files : List MemFile) (i : ℕ) (file : MemFile)
    → position (has_name name) files ≡ Some i → file ≡ get_or files i file → find (has_name name) files ≡ Some file
found name files i file at is =
    let place = place_of (has_name name) files i at in
    let within = (position-Some (has_name name) files i file at).0 in
    find_at (has_name name) files ∙ ap (λ (k : ℕ). slice_get files k) (sym place)
    ∙ slice_get_read files (length files) i file refl within is

-- in the changed list one name has this file, and every other name the file that it had
pub record Sets (files changed : List MemFile) (name : List ℕ) (file : MemFile) : Type 0 where
  pub at : (other : List ℕ) → find (has_name other) changed ≡ cond (bytes_eq name other) (Some file) (find (has_name other) files)

-- a file was replaced by one of the same name
pub Sets-set : (name : List ℕ) (files : List MemFile) (i : ℕ) (file changed : MemFile) → position (has_name name) files ≡ Some i
    → file ≡ get_or files i file → changed.name ≡ file.name → Sets files (set files i changed) name changed
Sets-set name files i file changed at is same =
    let known = position-Some (has_name name) files i file at in
    let named : file.name ≡ name = (bytes_eq-Decides file.name name).0 (subst (λ (f : MemFile). has_name name f ≡ true) (sym is) known.1) in
    let passes : has_name name changed ≡ true = (bytes_eq-Decides changed.name name).1 (same ∙ named) in
    let place = place_of (has_name name) files i at in
    record {
      at = λ other.
          elim (same_or_not name other) [
            | inl e ↦ rw e.0
                (subst (λ (o : List ℕ). find (has_name o) (set files i changed) ≡ Some changed) e.1
                (find-set (has_name name) files i changed place known.0 passes))
            | inr e ↦ rw e (find_past (has_name other) files i changed file (ap (has_name other) (sym is)
                ∙ ap (λ (n : List ℕ). bytes_eq n other) named ∙ e) (ap (λ (n : List ℕ). bytes_eq n other) (same ∙ named) ∙ e))
          ];
    }

option_or-None : (o : Option MemFile) → option_or o None ≡ o
option_or-None None = refl
option_or-None (Some x) = refl

-- a file was put at the end, of a name that no file has
pub Sets-append : (name : List ℕ) (files : List MemFile) (file : MemFile)
    → position (has_name name) files ≡ None → file.name ≡ name → Sets files (files ++ file ∷ []) name file
Sets-append name files file at named =
    record {
      at = λ other.
          elim (same_or_not name other) [
            | inl e ↦
                (let none : find (has_name other) files ≡ None =
                subst (λ (o : List ℕ). find (has_name o) files ≡ None) e.1 (none_found (has_name name) files at) in
                let passes : has_name other file ≡ true = (bytes_eq-Decides file.name other).1 (named ∙ e.1) in
                rw (e.0, find-append (has_name other) files (file ∷ []), none, passes) refl)
            | inr e ↦ (let fails : has_name other file ≡ false = ap (λ (n : List ℕ). bytes_eq n other) named ∙ e in
                rw (e, find-append (has_name other) files (file ∷ []), fails) (option_or-None (find (has_name other) files)))
          ];
    }

-- ---- what becomes of the contents and the counts

-- a put, where the file keeps the count that its name had
pub Puts-Sets : (old new : FilesState) (name bytes : List ℕ) (file : MemFile) → Sets old.files new.files name file
    → new ≡ record old { files = new.files } → file.bytes ≡ bytes → file.faults ≡ fault_count_of old name → Puts old new name bytes
Puts-Sets old new name bytes file sets rest contents count =
    let shared : new.shared ≡ old.shared = ap (λ (s : FilesState). s.shared) rest in
    record {
      contents = rw (sets.at name, (bytes_eq-Decides name name).1 refl, contents) refl;
      others = λ other differs.
          elim (same_or_not name other) [
            | inl e ↦ absurd (differs (sym e.1))
            | inr e ↦ rw (sets.at other, e) refl
          ];
      faults = λ other.
          elim (same_or_not name other) [
            | inl e ↦ rw (sets.at other, e.0) (count ∙ ap (fault_count_of old) e.1)
            | inr e ↦ rw (sets.at other, e, shared) refl
          ];
      rest = rest;
    }

-- a file was replaced by one of the same contents
pub same_contents : (old new : FilesState) (name : List ℕ) (file changed : MemFile) → Sets old.files new.files name changed
    → file_of old name ≡ Some file → changed.bytes ≡ file.bytes → (other : List ℕ) → contents_of new other ≡ contents_of old other
same_contents old new name file changed sets held same other =
    elim (same_or_not name other) [
      | inl e ↦
          (let held_other : file_of old other ≡ Some file = subst (λ (o : List ℕ). file_of old o ≡ Some file) e.1 held in
          rw (sets.at other, e.0, held_other, same) refl)
      | inr e ↦ rw (sets.at other, e) refl
    ]

-- the count of a held name rose
pub RaisesOnly-held : (old new : FilesState) (name : List ℕ) (file changed : MemFile) → Sets old.files new.files name changed
    → file_of old name ≡ Some file → new.shared ≡ old.shared → changed.faults ≡ one_more file.faults → RaisesOnly old new name
RaisesOnly-held old new name file changed sets held shared raised other =
    elim (same_or_not name other) [
      | inl e ↦
          (let held_other : file_of old other ≡ Some file = subst (λ (o : List ℕ). file_of old o ≡ Some file) e.1 held in
          rw (sets.at other, e.0, held_other) raised)
      | inr e ↦ rw (sets.at other, e, held, shared) refl
    ]

held_or_not : (o : Option MemFile) → (o ≡ None) ⊎ ((file : MemFile) × (o ≡ Some file))
held_or_not None = inl refl
held_or_not (Some file) = inr (file, refl)

-- the count that the names share that are not held rose
pub RaisesOnly-shared : (old new : FilesState) (name : List ℕ) → new.files ≡ old.files
    → file_of old name ≡ None → new.shared ≡ one_more old.shared → RaisesOnly old new name
RaisesOnly-shared old new name files absent raised other =
    elim (held_or_not (file_of old other)) [
      | inl none ↦ rw (files, none, absent, or_true (bytes_eq name other)) raised
      | inr some ↦ elim (same_or_not name other) [
        | inl e ↦
            (let none : file_of old other ≡ None = subst (λ (o : List ℕ). file_of old o ≡ None) e.1 absent in
            absurd (let x = some.1 in let y : None ≡ Some some.0 = sym none ∙ x in cc))
        | inr e ↦ rw (files, e, some.1, absent) refl
      ]
    ]

-- a count that rises alone has risen
pub Rose-RaisesOnly : (old new : FilesState) (name : List ℕ)
    → RaisesOnly old new name → Rose (fault_count_of old name) (fault_count_of new name)
Rose-RaisesOnly old new name raises =
    let same : bytes_eq name name ≡ true = (bytes_eq-Decides name name).1 refl in
    let raised : fault_count_of new name ≡ one_more (fault_count_of old name) = rw same at (raises name) in
    omega arith

-- no count falls where the count of the changed file did not
pub later_counts : (old new : FilesState) (name : List ℕ) (file changed : MemFile)
    → Sets old.files new.files name changed → file_of old name ≡ Some file → new.shared ≡ old.shared
    → file.faults ≤ changed.faults → (other : List ℕ) → fault_count_of old other ≤ fault_count_of new other
later_counts old new name file changed sets held shared later other =
    elim (same_or_not name other) [
      | inl e ↦
          (let held_other : file_of old other ≡ Some file = subst (λ (o : List ℕ). file_of old o ≡ Some file) e.1 held in
          rw (sets.at other, e.0, held_other) later)
      | inr e ↦ rw (sets.at other, e, shared) (omega arith)
    ]
