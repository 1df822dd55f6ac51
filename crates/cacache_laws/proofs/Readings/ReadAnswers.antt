-- Steps that read leave the tree.
-- A lookup and a read answer by what the cache held, and leave the tree.
use Rattle.std.proofs.{Common.{arith, rules, ◌≡◌, ℕ, List, Result, Ok, Err, length, refl, ◌⊎◌, inl, inr, [], ◌∷◌, Option, None, Some, sym, ap, subst, ◌∙◌}, lemmas.Grind.{common_steps}}
use Rattle.cacache_core.specs.declared.{errors.{Fault.{Fault}, Error.TheVariants.{IoError, OutOfMemory}}, integrity.digest.Hash.{Hash}}
use Rattle.cacache_store.specs.{declared.store.plain.PlainFile.{PlainFile}, Plain.{PlainAnswer, PlainStep}}
use Rattle.cacache_disk.specs.{declared.luck.Luck.TheVariants.{Plain}, Tree.{Tree, listing}, LedTo.{file_at, folder}, Apply.{apply, unless, opened}}
use Rattle.sha1.specs.Sha1.{sha1}
use Rattle.cacache_entry.specs.Bucket.{Found, latest}
use Rattle.cacache_calls.specs.{declared.{answers.Refusal.{Refusal}, command.Command.{Command}, reply.Reply.{Reply}}, Steps.{bucket_path, content_path}, Replies.{find_reply, content_reply, refusal_reply, lookup}, Runs.{Moves, plain_reply}}
use Rattle.cacache_value.specs.Shows.{blob_bytes}
use Rattle.cacache_history.specs.{Setup.{Setup, home}, History.{Turn, turn_of}, Turns.{shown_result, as_refusal, content_at, bucket_read, content_read}, TurnReplies.{FindsHeld, ReadsHeld, ReadsNext, GetsHeld, ReadsValue}}
use Rattle.cacache_laws.specs.{Sequence.{turns_on, tree_on}, ReadAnswers.{entries_on, read_on, get_on, reply_on, UnlessFailed, RepliesFollow, ReadsKeep}}
use Rattle.cacache_core.specs.declared.errors.Fault.TheVariants as faults
use Rattle.cacache_store.specs.declared.store.step.Step.TheVariants as steps
use Rattle.cacache_store.specs.declared.store.answer.Answer.TheVariants as answers
use Rattle.cacache_calls.specs.declared.answers.Refusal.TheVariants as refusals
use Rattle.cacache_calls.specs.declared.command.Command.TheVariants as commands
use Rattle.cacache_calls.specs.declared.reply.Reply.TheVariants as replies

-- a step that answers a value or a fault, and leaves the tree
unless_keeps : {A : Type 0} (r : Result A Fault) (t : Tree) (answer : A → PlainAnswer) → (unless r t (λ x. (answer x, t))).1 ≡ t
unless_keeps r t answer = grind (arith, common_steps)

pub reading_keeps : (t : Tree) (path : List ℕ) → (apply t (steps.ReadAll path) Plain).1 ≡ t
unfolding apply
reading_keeps t path = unless_keeps (file_at t path faults.IsADirectory) t answers.Bytes

pub listing_keeps : (t : Tree) (path : List ℕ) → (apply t (steps.ReadDir path) Plain).1 ≡ t
unfolding apply
listing_keeps t path = unless_keeps (folder t path) t (λ names. answers.Names (listing t names))

pub asking_keeps : (t : Tree) (path : List ℕ) → (apply t (steps.Exists path) Plain).1 ≡ t
unfolding apply
asking_keeps t path = refl

pub opening_keeps : (t : Tree) (path : List ℕ) → (apply t (steps.Open path) Plain).1 ≡ t
unfolding apply
opening_keeps t path = unless_keeps (file_at t path faults.IsADirectory) t (λ bytes. answers.File (opened bytes))

pub piece_keeps : (t : Tree) (file : PlainFile) (max : ℕ) → (apply t (steps.Read file max) Plain).1 ≡ t
unfolding apply
piece_keeps t file max = refl

pub sizing_keeps : (t : Tree) (path : List ℕ) → (apply t (steps.Size path) Plain).1 ≡ t
unfolding apply
sizing_keeps t path = unless_keeps (file_at t path faults.IsADirectory) t (λ bytes. answers.Length (length bytes))

-- a file that was opened is one of some bytes
pub opened_so : (t : Tree) (path : List ℕ) (file : PlainFile) → answers.File file ≡ (apply t (steps.Open path) Plain).0 → (bytes : List ℕ) × (file ≡ opened bytes)
unfolding apply
opened_so t path file e = search rules

-- ---- what is shown, unless a step failed

-- what a step that reads shows is this, or it failed
abbrev Shown : {X : Type 0} → Result X Refusal → Result X Refusal → Type 0
Shown r b = (b ≡ r) ⊎ ((refusal : Refusal) × (b ≡ Err refusal))

pub is_shown : {X : Type 0} (a : PlainAnswer) (r : Result X Refusal) → Shown r (shown_result a r)
is_shown a r = grind (arith, common_steps)

module _ (expected r : Reply) where
  refused_so : (refusal : Refusal) → r ≡ refusal_reply refusal → UnlessFailed expected r
  refused_so refusal e = grind (arith, common_steps)

  memory_so : r ≡ replies.Refused OutOfMemory → UnlessFailed expected r
  memory_so e = subst (UnlessFailed expected) (sym e) tt

pub same_so : (expected r : Reply) → r ≡ expected → UnlessFailed expected r
same_so expected r e = grind (arith, common_steps)

-- ---- what is answered

module _ (s : Setup) (r : Reply) where
  reads : (t : Tree) (i : List Hash) (moves : Moves) → ReadsHeld s i (turns_on t moves) r → UnlessFailed (read_on (home s) t i) r
  reads t i [] h = absurd cc
  reads t i (m ∷ moves) h =
      let first : turn_of t Plain m ≡ h.0 = cc in
      let e : r ≡ content_reply i (content_read s i (turn_of t Plain m)) = h.3 ∙ ap (λ (turn : Turn). content_reply i (content_read s i turn)) (sym first) in
      elim (is_shown m.1 (as_refusal (blob_bytes t (content_at s i (turn_of t Plain m))))) [
        | inl same ↦ same_so (read_on (home s) t i) r (e ∙ ap (content_reply i) same)
        | inr refused ↦ refused_so (read_on (home s) t i) r refused.0 (e ∙ ap (content_reply i) refused.1)
      ]

  finds : (t : Tree) (key : List ℕ) (moves : Moves) → FindsHeld s key (turns_on t moves) r → UnlessFailed (replies.LookedUp (latest key (entries_on (home s) t key))) r
  finds t key [] h = absurd cc
  finds t key (m ∷ moves) h =
      let expected = replies.LookedUp (latest key (entries_on (home s) t key)) in
      let first : turn_of t Plain m ≡ h.0 = cc in
      let e : r ≡ find_reply key (bucket_read s (sha1 key) (turn_of t Plain m)) = h.3 ∙ ap (λ (turn : Turn). find_reply key (bucket_read s (sha1 key) turn)) (sym first) in
      elim (is_shown m.1 (Ok (entries_on (home s) t key))) [
        | inl same ↦ same_so expected r (e ∙ ap (find_reply key) same)
        | inr refused ↦ refused_so expected r refused.0 (e ∙ ap (find_reply key) refused.1)
      ]

  found : (t : Tree) (key : List ℕ) (o : Option Found) (moves : Moves) → ReadsNext s key (Ok o) (turns_on t moves) r → UnlessFailed (get_on s t key o) r
  found t key None moves h = same_so (get_on s t key None) r h.1
  found t key (Some f) moves h = reads t f.integrity moves h

  gets : (t : Tree) (key : List ℕ) (moves : Moves) → GetsHeld s key (turns_on t moves) r → UnlessFailed (get_on s t key (latest key (entries_on (home s) t key))) r
  gets t key [] h = absurd cc
  gets t key (m ∷ moves) h =
      let entries = entries_on (home s) t key in
      let expected = get_on s t key (latest key (entries_on (home s) t key)) in
      let first : turn_of t Plain m ≡ h.0 = cc in
      let rest : turns_on (apply t m.0 Plain).1 moves ≡ h.1 = cc in
      let step : m.0 ≡ steps.ReadAll (bucket_path s.cache key) = ap (λ (turn : Turn). turn.move.step) first ∙ h.3 in
      let keeps : (apply t m.0 Plain).1 ≡ t = ap (λ x. (apply t x Plain).1) step ∙ reading_keeps t (bucket_path s.cache key) in
      let next : ReadsNext s key (lookup key (shown_result m.1 (Ok (entries_on (home s) t key)))) (turns_on (apply t m.0 Plain).1 moves) r
      = subst (λ more. ReadsNext s key (lookup key (bucket_read s (sha1 key) (turn_of t Plain m))) more r) (sym rest)
      (subst (λ (turn : Turn). ReadsNext s key (lookup key (bucket_read s (sha1 key) turn)) h.1 r) (sym first) h.4) in
      elim (is_shown m.1 (Ok (entries_on (home s) t key))) [
        | inl same ↦
            found t key (latest key entries) moves
            (subst (λ tree. ReadsNext s key (Ok (latest key (entries_on (home s) t key))) (turns_on tree moves) r) keeps
            (subst (λ b. ReadsNext s key (lookup key b) (turns_on (apply t m.0 Plain).1 moves) r) same next))
        | inr refused ↦
            refused_so expected r refused.0
            (subst (λ b. ReadsNext s key (lookup key b) (turns_on (apply t m.0 Plain).1 moves) r) refused.1 next).1
      ]

  -- ---- they leave the tree

  pub no_moves : (t : Tree) (moves : Moves) → turns_on t moves ≡ [] → moves ≡ []
  no_moves t [] e = refl
  no_moves t (m ∷ moves) e = absurd cc

  one_read : (t : Tree) (m : PlainStep × PlainAnswer) (path : List ℕ) → m.0 ≡ steps.ReadAll path → (apply t m.0 Plain).1 ≡ t
  one_read t m path is = ap (λ x. (apply t x Plain).1) is ∙ reading_keeps t path

  -- one read, and nothing else
  only_one : (t : Tree) (path : List ℕ) (moves : Moves) (turn : Turn) → turns_on t moves ≡ turn ∷ [] → turn.move.step ≡ steps.ReadAll path → tree_on t moves ≡ t
  only_one t path [] turn e is = refl
  only_one t path (m ∷ moves) turn e is =
      let first : turn_of t Plain m ≡ turn = cc in
      let none : turns_on (apply t m.0 Plain).1 moves ≡ [] = cc in
      ap (tree_on (apply t m.0 Plain).1) (no_moves (apply t m.0 Plain).1 moves none) ∙ one_read t m path (ap (λ (x : Turn). x.move.step) first ∙ is)

  read_keeps : (t : Tree) (i : List Hash) (moves : Moves) → ReadsHeld s i (turns_on t moves) r → tree_on t moves ≡ t
  read_keeps t i moves h = only_one t (content_path s.cache i) moves h.0 h.1 h.2

  lookup_keeps : (t : Tree) (key : List ℕ) (moves : Moves) → FindsHeld s key (turns_on t moves) r → tree_on t moves ≡ t
  lookup_keeps t key moves h = only_one t (bucket_path s.cache key) moves h.0 h.1 h.2

  next_keeps : (t : Tree) (key : List ℕ) (o : Result (Option Found) Refusal) (moves : Moves) → ReadsNext s key o (turns_on t moves) r → tree_on t moves ≡ t
  next_keeps t key (Ok (Some f)) moves h = read_keeps t f.integrity moves h
  next_keeps t key o moves h = ap (tree_on t) (no_moves t moves h.0)

  get_keeps : (t : Tree) (key : List ℕ) (moves : Moves) → GetsHeld s key (turns_on t moves) r → tree_on t moves ≡ t
  get_keeps t key [] h = refl
  get_keeps t key (m ∷ moves) h =
      let first : turn_of t Plain m ≡ h.0 = cc in
      let rest : turns_on (apply t m.0 Plain).1 moves ≡ h.1 = cc in
      let is : m.0 ≡ steps.ReadAll (bucket_path s.cache key) = ap (λ (turn : Turn). turn.move.step) first ∙ h.3 in
      next_keeps (apply t m.0 Plain).1 key (lookup key (bucket_read s (sha1 key) h.0)) moves
      (subst (λ more. ReadsNext s key (lookup key (bucket_read s (sha1 key) h.0)) more r) (sym rest) h.4)
      ∙ one_read t m (bucket_path s.cache key) is

  -- ---- each command that reads

  keeps : (t : Tree) (moves : Moves) (command : Command) (expected : Reply) → reply_on s t command ≡ Some expected → ReadsValue s command (turns_on t moves) r → tree_on t moves ≡ t
  keeps t moves (commands.Find key) expected is h = lookup_keeps t key moves h
  keeps t moves (commands.Get key) expected is h = get_keeps t key moves h
  keeps t moves (commands.GetHash i) expected is h = read_keeps t i moves h
  keeps t moves other expected is h = absurd cc

  follows : (t : Tree) (moves : Moves) (command : Command) (expected : Reply) → reply_on s t command ≡ Some expected → ReadsValue s command (turns_on t moves) r → UnlessFailed expected r
  follows t moves (commands.Find key) expected is h =
      let same : replies.LookedUp (latest key (entries_on (home s) t key)) ≡ expected = cc in
      subst (λ x. UnlessFailed x r) same (finds t key moves h)
  follows t moves (commands.Get key) expected is h =
      let same : get_on s t key (latest key (entries_on (home s) t key)) ≡ expected = cc in
      subst (λ x. UnlessFailed x r) same (gets t key moves h)
  follows t moves (commands.GetHash i) expected is h =
      let same : read_on (home s) t i ≡ expected = cc in
      subst (λ x. UnlessFailed x r) same (reads t i moves h)
  follows t moves other expected is h = absurd cc

pub replies_follow : RepliesFollow
replies_follow s t call expected is answers = search (rules, memory_so, follows)

pub reads_keep : ReadsKeep
reads_keep s t call expected is answers =
    elim answers.reads [
      | inl e ↦ inl e
      | inr h ↦ inr (keeps s (plain_reply call.reply) t call.moves call.command expected is h)
    ]
