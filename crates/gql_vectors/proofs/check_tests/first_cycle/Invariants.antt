use Rattle.gql_vectors.proofs.check_tests.first_cycle.Given as goal

abbrev pub ghosts-counted : goal.ghosts-counted
ghosts-counted g a = record { name = a.blank.name; parts = a.blank.parts }
