use Rattle.segment_merge_tests.proofs.tests.sides_are_merged_in_rising_order.Given as goal

abbrev pub ghosts-merged_rows : goal.ghosts-merged_rows
ghosts-merged_rows g a = record { name = a.blank.name; parts = a.blank.parts }
