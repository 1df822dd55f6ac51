use Rattle.tests_public.proofs.threads.meetings.a_world_closes_after_four_threads.Given as goal

abbrev pub ghosts-meeting : goal.ghosts-meeting
ghosts-meeting g a = record { name = a.blank.name; parts = a.blank.parts }
