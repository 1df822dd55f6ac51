use Rattle.tests_public.proofs.threads.seats.go_moves_with_the_luck.Given as goal

abbrev pub ghosts-failed_put : goal.ghosts-failed_put
ghosts-failed_put g a = record { name = a.blank.name; parts = a.blank.parts }
