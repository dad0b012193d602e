use Rattle.segment_merge_tests.proofs.tests.three_two_and_one_segments_take_three_steps.Given as goal

abbrev pub ghosts-takes_three_steps : goal.ghosts-takes_three_steps
ghosts-takes_three_steps g a = record { name = a.blank.name; parts = a.blank.parts }
