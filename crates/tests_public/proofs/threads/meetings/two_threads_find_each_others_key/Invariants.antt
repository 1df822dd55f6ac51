use Rattle.tests_public.proofs.threads.meetings.two_threads_find_each_others_key.Given as goal

abbrev pub ghosts-meeting : goal.ghosts-meeting
ghosts-meeting g a = record { name = a.blank.name; parts = a.blank.parts }
