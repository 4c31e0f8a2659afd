use Rattle.gql_check_code.proofs.inputs.check_inputs.Given as goal

abbrev pub ghosts-check_uncounted : goal.ghosts-check_uncounted
ghosts-check_uncounted g a = record { name = a.blank.name; parts = a.blank.parts }
