use Rattle.plan_claims_tests.proofs.tests.assert_accepted.Given as goal

abbrev pub ghosts-certified : goal.ghosts-certified
ghosts-certified g a = record { name = a.blank.name; parts = a.blank.parts }
