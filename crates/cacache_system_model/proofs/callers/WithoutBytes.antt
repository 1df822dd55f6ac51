-- The table is blind to what handles hold: the steps and the end of a call depend on its answers alone.
use Rattle.std.proofs.{lemmas.Grind.{common_steps}, Common.{rules, arith, ◌≡◌, ℕ, Bool, cond, List, Option, None, Some, option_map, refl, sym, ap, ◌∙◌}}
use Rattle.cacache_core.specs.declared.errors.Fault.TheVariants as faults
use Rattle.cacache_store.specs.{declared.store.plain.{PlainFile.{PlainFile}, PlainTemp.{PlainTemp}}, Plain.{PlainStep, PlainAnswer}}
use Rattle.cacache_store.specs.declared.store.answer.Answer.TheVariants as answers
use Rattle.cacache_system.specs.Seen.{NumberedStep, NumberedAnswer, step_as, answer_as}
use Rattle.cacache_system_model.specs.{Machine.{Machine}, Laws.{step_on, answer_on}, callers.Seen.{step_seen, answer_seen, temp_of}}
use Rattle.cacache_calls.specs.{declared.{carried.Commit.{Commit}, reply.Reply.{Reply}, visit.{Visit.{Visit}, Task.{Task}}}, Common.{fails, errand_step}, State.{State, doing, writing, syncing, persisting, hashing, walking, over, Errand, Hashing, Walk}, Storing.{write_rest}, Table.{wants, after}, Walking.{visit_step, after_visit}}
use Rattle.cacache_history.specs.History.{Ends}

-- ---- without what handles hold

abbrev pub file_without : PlainFile → PlainFile
file_without file = record { left = 0; bytes = None }

abbrev pub temp_without : PlainTemp → PlainTemp
temp_without temp = record { path = temp.path; bytes = None }

abbrev pub step_without : PlainStep → PlainStep
step_without step = step_as file_without temp_without step

abbrev pub answer_without : PlainAnswer → PlainAnswer
answer_without answer = answer_as file_without temp_without answer

abbrev pub without_bytes : State → State
without_bytes (doing errand s) = doing errand (without_bytes s)
without_bytes (writing c file rest) = writing c (temp_without file) rest
without_bytes (syncing c file) = syncing c (temp_without file)
without_bytes (persisting c file) = persisting c (temp_without file)
without_bytes (hashing h file bytes) = hashing h (file_without file) bytes
without_bytes s = s

-- two states, or answers, are the same but for what handles hold
abbrev pub Alike : State → State → Type 0
Alike s c = without_bytes s ≡ without_bytes c

abbrev pub AlikeAnswers : PlainAnswer → PlainAnswer → Type 0
AlikeAnswers a b = answer_without a ≡ answer_without b

pub without_twice : (s : State) → Alike s (without_bytes s)
without_twice (doing errand s) = ap (doing errand) (without_twice s)
without_twice (writing c file rest) = refl
without_twice s = refl

temp_without_bytes : (s : State) → temp_of (without_bytes s) ≡ temp_of s
temp_without_bytes (doing errand s) = temp_without_bytes s
temp_without_bytes s = refl

-- states that are alike are about a temporary file at the same path
pub temp_alike : (s c : State) → Alike s c → temp_of s ≡ temp_of c
temp_alike s c same = sym (temp_without_bytes s) ∙ ap temp_of same ∙ temp_without_bytes c

-- ---- the state behind an answer

moves_without : (c : Commit) (file : PlainTemp) (b : Bool) → Alike (cond b (syncing c file) (persisting c file)) (cond b (syncing c (temp_without file)) (persisting c (temp_without file)))
moves_without c file b = grind (arith, common_steps)

rest_without : (c : Commit) (file : PlainTemp) (rest : List ℕ) → Alike (write_rest c file rest) (write_rest c (temp_without file) rest)
rest_without c file rest = grind (arith, moves_without)

written_without : (c : Commit) (file : PlainTemp) (rest : List ℕ) (b : Bool) → Alike (cond b (fails faults.WriteZero) (write_rest c file rest)) (cond b (fails faults.WriteZero) (write_rest c (temp_without file) rest))
written_without c file rest b = grind (arith, rest_without)

-- a visit goes on alike
visit_without : (w : Walk) (v : Visit) (todo : List Task) (a : PlainAnswer) → after_visit w v todo a ≡ after_visit w v todo (answer_without a)
visit_without w v todo a = grind (arith, common_steps)

got_without : (h : Hashing) (file : PlainFile) (bytes more : List ℕ) → Alike (after (hashing h file bytes) (answers.Got file more)) (after (hashing h file bytes) (answers.Got (file_without file) more))
got_without h file bytes more = grind (arith, common_steps)

-- the state behind an answer, without what handles hold
pub after_without : (s : State) (a : PlainAnswer) → Alike (after s a) (after (without_bytes s) (answer_without a))
after_without s a = grind (arith, without_twice, rest_without, written_without, got_without, visit_without)

-- the steps of a store, with and without the bytes of its files
pub steps_alike : (m : Machine) (step : NumberedStep) → step_without (step_on m step) ≡ step_without (step_seen step)
steps_alike m step = grind (arith, common_steps)

-- and its answers
answers_alike : (m : Machine) (a : NumberedAnswer) → AlikeAnswers (answer_on m a) (answer_seen a)
answers_alike m a = grind (arith, steps_alike)

-- states that are alike stay so
pub alike_after : (m : Machine) (s c : State) (a : NumberedAnswer) → Alike s c → Alike (after s (answer_on m a)) (after c (answer_seen a))
alike_after m s c a same = search (rules, after_without, answers_alike)

-- ---- the step of a state

errand_without : (errand : Errand) → errand_step errand ≡ step_without (errand_step errand)
errand_without errand = grind (arith, common_steps)

visited_without : (v : Visit) → visit_step v ≡ step_without (visit_step v)
visited_without v = grind (arith, common_steps)

pub wants_without : (s : State) → wants (without_bytes s) ≡ option_map step_without (wants s)
wants_without s = grind (arith, errand_without, visited_without)

wants_alike : (s c : State) → Alike s c → option_map step_without (wants s) ≡ option_map step_without (wants c)
wants_alike s c same = sym (wants_without s) ∙ ap wants same ∙ wants_without c

wanted_so : (o : Option PlainStep) (step : PlainStep) → option_map step_without o ≡ Some step → (plain : PlainStep) × (o ≡ Some plain) × (step_without plain ≡ step)
wanted_so o step e = grind (arith, common_steps)

-- the step that a state wants, where one that is alike wants this one
pub wanted_plain : (s c : State) (step : PlainStep) → Alike s c → wants c ≡ Some step → (plain : PlainStep) × (wants s ≡ Some plain) × (step_without plain ≡ step_without step)
wanted_plain s c step same e = wanted_so (wants s) (step_without step) (wants_alike s c same ∙ ap (option_map step_without) e)

wants_none : (o : Option PlainStep) → option_map step_without o ≡ None → o ≡ None
wants_none o e = grind (arith, common_steps)

pub none_plain : (s c : State) → Alike s c → wants c ≡ None → wants s ≡ None
none_plain s c same e = wants_none (wants s) (wants_alike s c same ∙ ap (option_map step_without) e)

-- a state that walks without what handles hold walks so
pub walking_without : (s : State) (w : Walk) (v : Visit) (todo : List Task) → without_bytes s ≡ walking w v todo → s ≡ walking w v todo
walking_without (walking own visit tasks) w v todo e = e
walking_without s w v todo e = absurd cc

-- a state that is over without what handles hold is over
over_without : (s : State) (reply : Reply) → without_bytes s ≡ over reply → s ≡ over reply
over_without (over r) reply e = e
over_without s reply e = absurd cc

pub ends_plain : (s c : State) (reply : Option Reply) → Alike s c → Ends c reply → Ends s reply
ends_plain s c reply same which = grind (arith, wanted_plain, over_without)
