use Rattle.step_count_tests.proofs.tests.a_count_takes_no_bytes.Given as goal

abbrev pub ghosts-size_of_two : goal.ghosts-size_of_two
ghosts-size_of_two g a = record { name = a.blank.name; parts = a.blank.parts }
