-- No public clause names this.
-- Worked examples of the definitions.
use Rattle.std.specs.Prelude.{◌≡◌, ◌-◌, ◌^◌, [], ◌∷◌, Some, None, codes, refl, true, false}
use Rattle.mp_outside.specs.Outside.{one_more}
use Rattle.mp_outside.specs.MemFiles.{FilesState, contents_of, fault_count_of, have_one_count}

one_more_last : one_more (2 ^ 64 - 1) ≡ 2 ^ 64 - 1
one_more_last = refl

-- one file `a` of two bytes whose loads failed three times, and five failed loads of other names
abbrev one_file : FilesState
one_file =
    record { files = record { name = codes "a"; bytes = 7 ∷ 8 ∷ []; faults = 3 } ∷ []; shared = 5; most = 4; calls = 9; failing = [] }

held_contents : contents_of one_file (codes "a") ≡ Some (7 ∷ 8 ∷ [])
held_contents = refl

other_contents : contents_of one_file (codes "b") ≡ None
other_contents = refl

held_faults : fault_count_of one_file (codes "a") ≡ 3
held_faults = refl

other_faults : fault_count_of one_file (codes "b") ≡ 5
other_faults = refl

others_have_one_count : have_one_count one_file (codes "b") (codes "c") ≡ true
others_have_one_count = refl

held_has_its_own : have_one_count one_file (codes "a") (codes "b") ≡ false
held_has_its_own = refl
