-- What wasn't asked for needn't be done.
use Rattle.std.{proofs.Common.{ap, codes, refl, subst, rules}, specs.Prelude.{option_map}}
use Rattle.cacache_program.{specs.Words.{IsWrong}, proofs.{Asking.{asked_as, not_keyed, not_unkeyed, other_keyed, other_unkeyed}, FurtherAsked.{other_further}}}
use Rattle.cacache_program.proofs.program.run.Goals as goal

pub returns-in-write-default-Some : goal.returns-in-write-default-Some
returns-in-write-default-Some g c =
    let asked = c.parse_words.ensures in
    let word = c.in-write-default-Some.is-write-0 in
    let key = ap (option_map (λ k. k.now)) c.in-write-default-Some.is-2 in
    record {
      status = search rules;
      wrong = λ wrong. absurd ((subst IsWrong (asked_as asked word key) wrong.0).0 refl);
      nothing_done = search rules;
      quiet = search rules;
      input = search rules;
      writes = search rules;
      reads = other_keyed (codes "read") _ asked word refl;
      finds = other_keyed (codes "find") _ asked word refl;
      removes = other_keyed (codes "remove") _ asked word refl;
      clears = not_unkeyed _ asked key;
      lists = not_unkeyed _ asked key;
      storms = other_keyed (codes "storm") _ asked word refl;
      further = other_further asked word refl refl refl refl;
    }

pub returns-in-read-default-Some : goal.returns-in-read-default-Some
returns-in-read-default-Some g c =
    let asked = c.parse_words.ensures in
    let word = c.in-read-default-Some.is-read-0 in
    let key = ap (option_map (λ k. k.now)) c.in-read-default-Some.is-2 in
    record {
      status = search rules;
      wrong = λ wrong. absurd ((subst IsWrong (asked_as asked word key) wrong.0).1 refl);
      nothing_done = search rules;
      quiet = search rules;
      input = search rules;
      writes = other_keyed (codes "write") _ asked word refl;
      reads = search rules;
      finds = other_keyed (codes "find") _ asked word refl;
      removes = other_keyed (codes "remove") _ asked word refl;
      clears = not_unkeyed _ asked key;
      lists = not_unkeyed _ asked key;
      storms = other_keyed (codes "storm") _ asked word refl;
      further = other_further asked word refl refl refl refl;
    }

pub returns-in-find-default-Some : goal.returns-in-find-default-Some
returns-in-find-default-Some g c =
    let asked = c.parse_words.ensures in
    let word = c.in-find-default-Some.is-find-0 in
    let key = ap (option_map (λ k. k.now)) c.in-find-default-Some.is-2 in
    record {
      status = search rules;
      wrong = λ wrong. absurd ((subst IsWrong (asked_as asked word key) wrong.0).2 refl);
      nothing_done = search rules;
      quiet = search rules;
      input = search rules;
      writes = other_keyed (codes "write") _ asked word refl;
      reads = other_keyed (codes "read") _ asked word refl;
      finds = search rules;
      removes = other_keyed (codes "remove") _ asked word refl;
      clears = not_unkeyed _ asked key;
      lists = not_unkeyed _ asked key;
      storms = other_keyed (codes "storm") _ asked word refl;
      further = other_further asked word refl refl refl refl;
    }

pub returns-in-remove-default-Some : goal.returns-in-remove-default-Some
returns-in-remove-default-Some g c =
    let asked = c.parse_words.ensures in
    let word = c.in-remove-default-Some.is-remove-0 in
    let key = ap (option_map (λ k. k.now)) c.in-remove-default-Some.is-2 in
    record {
      status = search rules;
      wrong = λ wrong. absurd ((subst IsWrong (asked_as asked word key) wrong.0).3 refl);
      nothing_done = search rules;
      quiet = search rules;
      input = search rules;
      writes = other_keyed (codes "write") _ asked word refl;
      reads = other_keyed (codes "read") _ asked word refl;
      finds = other_keyed (codes "find") _ asked word refl;
      removes = search rules;
      clears = not_unkeyed _ asked key;
      lists = not_unkeyed _ asked key;
      storms = other_keyed (codes "storm") _ asked word refl;
      further = other_further asked word refl refl refl refl;
    }

pub returns-in-storm-default-Some : goal.returns-in-storm-default-Some
returns-in-storm-default-Some g c =
    let asked = c.parse_words.ensures in
    let word = c.in-storm-default-Some.is-storm-0 in
    let key = ap (option_map (λ k. k.now)) c.in-storm-default-Some.is-2 in
    record {
      status = search rules;
      wrong = λ wrong. absurd ((subst IsWrong (asked_as asked word key) wrong.0).4 refl);
      nothing_done = search rules;
      quiet = search rules;
      input = search rules;
      writes = other_keyed (codes "write") _ asked word refl;
      reads = other_keyed (codes "read") _ asked word refl;
      finds = other_keyed (codes "find") _ asked word refl;
      removes = other_keyed (codes "remove") _ asked word refl;
      clears = not_unkeyed _ asked key;
      lists = not_unkeyed _ asked key;
      storms = search rules;
      further = other_further asked word refl refl refl refl;
    }

pub returns-in-clear-default-None : goal.returns-in-clear-default-None
returns-in-clear-default-None g c =
    let asked = c.parse_words.ensures in
    let word = c.in-clear-default-None.is-clear-0 in
    let key = ap (option_map (λ k. k.now)) c.in-clear-default-None.is-2 in
    record {
      status = search rules;
      wrong = λ wrong. absurd ((subst IsWrong (asked_as asked word key) wrong.0).1 refl);
      nothing_done = search rules;
      quiet = search rules;
      input = search rules;
      writes = not_keyed _ asked key;
      reads = not_keyed _ asked key;
      finds = not_keyed _ asked key;
      removes = not_keyed _ asked key;
      clears = search rules;
      lists = other_unkeyed (codes "ls") _ asked word refl;
      storms = not_keyed _ asked key;
      further = other_further asked word refl refl refl refl;
    }

pub returns-in-ls-default-None : goal.returns-in-ls-default-None
returns-in-ls-default-None g c =
    let asked = c.parse_words.ensures in
    let word = c.in-ls-default-None.is-ls-0 in
    let key = ap (option_map (λ k. k.now)) c.in-ls-default-None.is-2 in
    record {
      status = search rules;
      wrong = λ wrong. absurd ((subst IsWrong (asked_as asked word key) wrong.0).0 refl);
      nothing_done = search rules;
      quiet = search rules;
      input = search rules;
      writes = not_keyed _ asked key;
      reads = not_keyed _ asked key;
      finds = not_keyed _ asked key;
      removes = not_keyed _ asked key;
      clears = other_unkeyed (codes "clear") _ asked word refl;
      lists = search rules;
      storms = not_keyed _ asked key;
      further = other_further asked word refl refl refl refl;
    }
