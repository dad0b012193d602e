use Rattle.sp_cuts_tests.proofs.tests.stairs.walked.Given as goal

abbrev pub ghosts-counted : goal.ghosts-counted
ghosts-counted a = record { name = a.blank.name; parts = a.blank.parts }
