-- Files in memory, as contracts see them.
use Rattle.std.specs.Prelude.{◌≡◌, ◌≢◌, ℕ, ◌-◌, ◌^◌, Bool, ◌&&◌, ◌||◌, if◌then◌else◌, List, [], Contains, find, Option, Some, None, is_none}
use Rattle.std.specs.Prelude.{◌⊎◌}
use Rattle.std.specs.Option.{option_map, option_map_or}
use Rattle.std.specs.Str.{bytes_eq}
use Rattle.mp_outside.specs.Outside.{one_more}

-- a file: its name, its contents, and how many of its loads failed
pub record MemFile : Type 0 where
  pub name : List ℕ
  pub bytes : List ℕ
  pub faults : ℕ

-- the files that are held, the count of faults that all other names share, the most bytes that
-- a load gives, the number of loads so far, and the numbers of the loads that fail
pub record FilesState : Type 0 where
  pub files : List MemFile
  pub shared : ℕ
  pub most : ℕ
  pub calls : ℕ
  pub failing : List ℕ

-- nothing is held, nothing is to fail, and a load gives as many bytes as there are
abbrev pub no_files : FilesState
no_files = record { files = []; shared = 0; most = 2 ^ 64 - 1; calls = 0; failing = [] }

-- whether the file has this name
abbrev pub has_name : List ℕ → MemFile → Bool
has_name name file = bytes_eq file.name name

-- the file with this name, if it is held
abbrev pub file_of : FilesState → List ℕ → Option MemFile
file_of s name = find (has_name name) s.files

-- the contents of a name, if it is held
abbrev pub contents_of : FilesState → List ℕ → Option (List ℕ)
contents_of s name = option_map (λ file. file.bytes) (file_of s name)

-- the count of a name: its file's, or the one that all other names share
abbrev pub fault_count_of : FilesState → List ℕ → ℕ
fault_count_of s name = option_map_or (λ file. file.faults) (file_of s name) s.shared

-- the next load, of this name, fails: its number is listed, or the name is not held
abbrev pub LoadFails : FilesState → List ℕ → Type 0
LoadFails s name = Contains s.failing (one_more s.calls) ⊎ (contents_of s name ≡ None)

-- two names have one count: they are the same name, or neither is held
abbrev pub have_one_count : FilesState → List ℕ → List ℕ → Bool
have_one_count s one other = bytes_eq one other || (is_none (contents_of s one) && is_none (contents_of s other))

-- the count of this name rose by one, and no count that is not the same one changed
abbrev pub RaisesOnly : FilesState → FilesState → List ℕ → Type 0
RaisesOnly old new name =
    (other : List ℕ)
    → fault_count_of new other
    ≡ (if have_one_count old name other then one_more (fault_count_of old other) else fault_count_of old other)

-- this name got these contents, and nothing else changed
pub record Puts (old new : FilesState) (name bytes : List ℕ) : Type 0 where
  pub contents : contents_of new name ≡ Some bytes
  pub others : (other : List ℕ) → other ≢ name → contents_of new other ≡ contents_of old other
  pub faults : (other : List ℕ) → fault_count_of new other ≡ fault_count_of old other
  pub rest : new ≡ record old { files = new.files }
