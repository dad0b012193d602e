use Rattle.segment_merge_tests.proofs.tests.random_sides_are_merged_as_plainly.Given as goal

abbrev pub ghosts-merged_rows : goal.ghosts-merged_rows
ghosts-merged_rows g a = record { name = a.blank.name; parts = a.blank.parts }
