use Rattle.sp_cuts_tests.proofs.tests.planned.Given as goal

abbrev pub ghosts-plan : goal.ghosts-plan
ghosts-plan a = record { name = a.blank.name; parts = a.blank.parts }
