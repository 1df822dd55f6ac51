-- What the removal of a content, and of a key with its content, leaves in a cache.
use Rattle.std.proofs.{lemmas.{Grind.{common_steps}, List.Elements.{All-head}}, Common.{rules, ◌≡◌, ◌⊎◌, inl, inr, ℕ, Bool, true, false, cond, List, [], ◌∷◌, ◌++◌, Option, None, Some, Result, Ok, Err, refl, sym, ap, subst, ◌∙◌, arith}}
use Rattle.cacache_laws.specs.{Caches.{Called, IsCache, HasContent, IsExcused, lies_under, setup_at}, Beside.{ShareAddress, found_under}, CallErrors.{FailsOnly}, Removed.{KeepsApart}, Sequence.{after_deeds, turns_on}}
use Rattle.cacache_laws.proofs.{Putting.{Puts.{follows_of}, Deeds.{alike_lookup}}, Readings.Known.{Known, known, excuse}}
use Rattle.sha1.specs.Sha1.{sha1}
use Rattle.cacache_core.specs.{declared.{errors.{Error.{Error, TheVariants.{IoError, OutOfMemory}}, Fault.{Fault}}, integrity.digest.Hash.{Hash}}, Integrity.{IsHash, IsIntegrity}, Paths.{Names, names_of, names_below, home_of, joined, content_names, bucket_names_of}}
use Rattle.cacache_core.proofs.{PathLemmas.{keys_have_digests}, PathTexts.{paths_differ}}
use Rattle.cacache_core.specs.declared.errors.Fault.TheVariants as faults
use Rattle.cacache_store.specs.declared.store.answer.Answer.TheVariants as answers
use Rattle.cacache_store.specs.{declared.store.log.LogItem.{LogItem}, Plain.{PlainStep, PlainAnswer}}
use Rattle.cacache_store.specs.declared.store.step.Step.TheVariants as steps
use Rattle.cacache_disk.{specs.{declared.luck.Luck.TheVariants.{Plain}, Apply.{apply}, Tree.{Tree}, Replay.{tree_of}}, proofs.Roots.{same_self}}
use Rattle.cacache_entry.specs.Bucket.{latest}
use Rattle.cacache_calls.specs.{declared.{command.Command.{Command}, reply.Reply.{Reply}}, Promises.{own_of}, Runs.{Moves, Runs}, State.{State, doing, over, remove}, Steps.{content_path}}
use Rattle.cacache_calls.specs.declared.command.Command.TheVariants as commands
use Rattle.cacache_calls.specs.declared.reply.Reply.TheVariants as replies
use Rattle.cacache_value.specs.{Acts.{Drop, act_at, act_if_done, act_of, list_of}, Kinds.{is_path_of}, Value.{Value, value_of_tree}}
use Rattle.cacache_history.specs.Commits.{Deed, deeds, deeds_of_act, finds_in}
use Rattle.cacache_history.proofs.{Contents.Righted.{one_address}, Histories.ShownTurns.{content_below}, Entries.Writes.{one_path}}

-- ---- runs of removals

-- it was refused, by a step or for memory
abbrev pub IsRefused : Reply → Type 0
IsRefused r = (e : Error) × (r ≡ replies.Refused e) × FailsOnly (replies.Refused e)

-- a state that is over makes no move, and answers its reply or out of memory
pub over_run : (q r : Reply) (moves : Moves) → Runs (over q) moves r → (moves ≡ []) × ((r ≡ q) ⊎ (r ≡ replies.Refused OutOfMemory))
over_run q r [] (inl e) = (refl, inl cc)
over_run q r [] (inr e) = (refl, inr e)
over_run q r (m ∷ moves) run = absurd cc

pub refused_run : (q : Error) (r : Reply) (moves : Moves) → FailsOnly (replies.Refused q) → Runs (over (replies.Refused q)) moves r → (moves ≡ []) × IsRefused r
refused_run q r moves fails run =
    let o = over_run (replies.Refused q) r moves run in (
      o.0,
      elim o.1 [
        | inl e ↦ (q, e, fails)
        | inr e ↦ (OutOfMemory, e, tt)
      ],
    )

-- what a removal that is done does
abbrev pub removed_at : List ℕ → List Deed
removed_at path = deeds_of_act (act_at (names_of path) Drop)

-- the removal of a path came to nothing and was refused, or it is done and the call went on
abbrev pub Removal : List ℕ → State → Tree → Moves → Reply → Type 0
Removal path next t moves r =
    ((deeds (turns_on t moves) ≡ []) × IsRefused r)
    ⊎ ((more : Moves) × (rest : Tree) × (deeds (turns_on t moves) ≡ (removed_at path ++ []) ++ deeds (turns_on rest more)) × Runs next more r)

module _ (path : List ℕ) (next : State) (t : Tree) (r : Reply) where
  stopped : (step : PlainStep) (a : PlainAnswer) (more : Moves) (q : Error) → FailsOnly (replies.Refused q) → step ≡ steps.RemoveFile path
      → deeds_of_act (act_if_done a (act_at (names_of path) Drop)) ≡ [] → Runs (over (replies.Refused q)) more r → Removal path next t ((step, a) ∷ more) r
  stopped step a more q fails is nothing run =
      let o = refused_run q r more fails run in
      inl (
        ap (λ x. deeds (turns_on t ((x, a) ∷ more))) is
            ∙ ap (λ (ms : Moves). deeds (turns_on t ((steps.RemoveFile path, a) ∷ ms))) o.0
            ∙ ap (λ (l : List Deed). (l ++ []) ++ []) nothing,
        o.1,
      )

  pub removal : (moves : Moves) → Runs (doing (remove path) next) moves r → Removal path next t moves r
  removal [] (inl e) = absurd cc
  removal [] (inr e) = inl (refl, (OutOfMemory, e, tt))
  removal ((step, answers.Done) ∷ more) run =
      let is : step ≡ steps.RemoveFile path = cc in
      inr (
        more,
        (apply t step Plain).1,
        ap (λ (x : PlainStep). (deeds_of_act (act_of x Plain answers.Done) ++ finds_in x answers.Done) ++ deeds (turns_on (apply t step Plain).1 more)) is,
        run.2,
      )
  removal ((step, answers.Failed fault) ∷ more) run = stopped step (answers.Failed fault) more (IoError fault []) tt (cc) (refl {A = List Deed} {a = []}) run.2
  removal ((step, answers.NoMemory given) ∷ more) run = stopped step (answers.NoMemory given) more OutOfMemory tt (cc) (refl {A = List Deed} {a = []}) run.2
  removal ((step, a) ∷ more) run = stopped step a more (IoError faults.Device []) tt (cc) (refl {A = List Deed} {a = []}) run.2

-- ---- what a removal does to a value

-- deeds after those of a removal
pub then_deeds : (folder : Option Names) (r : Result Names Fault) (more : List Deed) (v : Value)
    → after_deeds folder ((deeds_of_act (act_at r Drop) ++ []) ++ more) v ≡ after_deeds folder more (after_deeds folder (deeds_of_act (act_at r Drop)) v)
then_deeds folder r more v = grind (arith, common_steps)

cut_once : {A B : Type 0} (a b : A) (old : Option B) (here : Bool) → (here ≡ true → a ≡ b) → (cond here None old ≡ old) ⊎ ((a ≡ b) × (cond here None old ≡ None))
cut_once a b old here is = grind (arith, common_steps)

uncut : {A : Type 0} (old : Option A) (here : Bool) → (here ≡ true → ⊥) → cond here None old ≡ old
uncut old here never = grind (arith, common_steps)

pub not_content : (a : Hash) (d : List ℕ) → content_names a ≡ bucket_names_of d → ⊥
not_content a d e = absurd cc

module _ (cache path : List ℕ) (v : Value) where
  abbrev cut_value : Value
  cut_value = after_deeds (home_of cache) (removed_at path) v

  -- at the place of a content
  module _ (b : Hash) (hash : IsHash b) (below : names_of path ≡ names_below (home_of cache) (content_names b)) where
    pub cut_contents : (a : Hash) → IsHash a → (cut_value.contents a ≡ v.contents a) ⊎ ((a ≡ b) × (cut_value.contents a ≡ None))
    cut_contents a is = by (names_of path) refl
      where
        by : (r : Result Names Fault) → names_of path ≡ r
            → ((after_deeds (home_of cache) (deeds_of_act (act_at r Drop)) v).contents a ≡ v.contents a) ⊎ ((a ≡ b) × ((after_deeds (home_of cache) (deeds_of_act (act_at r Drop)) v).contents a ≡ None))
        by (Err fault) e = inl refl
        by (Ok names) e = cut_once a b (v.contents a) (is_path_of (home_of cache) (content_names a) names) (λ here. one_address cache (home_of cache) b a names hash is (sym below ∙ e) here)

    pub uncut_buckets : (d : List ℕ) → cut_value.buckets d ≡ v.buckets d
    uncut_buckets d = search (rules, uncut, not_content, one_path)

  -- at the place of a key's bucket
  module _ (key : List ℕ) (below : names_of path ≡ names_below (home_of cache) (bucket_names_of (sha1 key))) where
    pub cut_buckets : (other : List ℕ) → (cut_value.buckets (sha1 other) ≡ v.buckets (sha1 other)) ⊎ ((sha1 other ≡ sha1 key) × (cut_value.buckets (sha1 other) ≡ None))
    cut_buckets other = by (names_of path) refl
      where
        by : (r : Result Names Fault) → names_of path ≡ r
            → ((after_deeds (home_of cache) (deeds_of_act (act_at r Drop)) v).buckets (sha1 other) ≡ v.buckets (sha1 other))
            ⊎ ((sha1 other ≡ sha1 key) × ((after_deeds (home_of cache) (deeds_of_act (act_at r Drop)) v).buckets (sha1 other) ≡ None))
        by (Err fault) e = inl refl
        by (Ok names) e =
            cut_once (sha1 other) (sha1 key) (v.buckets (sha1 other)) (is_path_of (home_of cache) (bucket_names_of (sha1 other)) names)
            (λ here. (paths_differ.buckets [] (sha1 other) (sha1 key) (keys_have_digests other) (keys_have_digests key)).0
            (ap (joined []) (one_path (home_of cache) (bucket_names_of (sha1 key)) (bucket_names_of (sha1 other)) names (sym below ∙ e) here)))

    pub uncut_contents : (a : Hash) → cut_value.contents a ≡ v.contents a
    uncut_contents a = search (rules, uncut, not_content, one_path)

-- what was removed of a tree's value is gone
content_gone : (folder : Option Names) (path : List ℕ) (t : Tree) (b : Hash) → names_of path ≡ names_below folder (content_names b)
    → (after_deeds folder (removed_at path) (value_of_tree folder t)).contents b ≡ None
content_gone None path t b below = ap (λ r. (after_deeds None (deeds_of_act (act_at r Drop)) (value_of_tree None t)).contents b) below
content_gone (Some folder) path t b below = search (rules, same_self)

pub bucket_gone : (folder : Option Names) (path : List ℕ) (w : Value) (d : List ℕ) → names_of path ≡ names_below folder (bucket_names_of d) → (folder ≡ None → w.buckets d ≡ None)
    → (after_deeds folder (removed_at path) w).buckets d ≡ None
bucket_gone None path w d below none = ap (λ r. (after_deeds None (deeds_of_act (act_at r Drop)) w).buckets d) below ∙ none refl
bucket_gone (Some folder) path w d below none = search (rules, same_self)

-- a cache without a folder holds nothing
pub nowhere : (folder : Option Names) (t : Tree) (d : List ℕ) → folder ≡ None → (value_of_tree folder t).buckets d ≡ None
nowhere folder t d e = grind (arith, common_steps)

-- ---- the last removal of a call

-- a removal answers that it is done, or was refused
abbrev pub Ends : Reply → Type 0
Ends r = (r ≡ replies.Done) ⊎ IsRefused r

module _ (path : List ℕ) (t : Tree) (moves : Moves) (r : Reply) (folder : Option Names) (v : Value) where
  -- it left the value, or without what it removed; if it is done, without
  pub record LastRemoval : Type 0 where
    pub either : (after_deeds folder (deeds (turns_on t moves)) v ≡ v) ⊎ (after_deeds folder (deeds (turns_on t moves)) v ≡ after_deeds folder (removed_at path) v)
    pub done : r ≡ replies.Done → after_deeds folder (deeds (turns_on t moves)) v ≡ after_deeds folder (removed_at path) v
    pub ends : Ends r

  pub last_removal : Removal path (over replies.Done) t moves r → LastRemoval
  last_removal h = grind (arith, over_run, then_deeds)

-- ---- a content

module _ (cache base : List ℕ) (b : Hash) (bs : List Hash) (formed : IsIntegrity (b ∷ bs)) (old new : List LogItem) (r : Reply) (k : Known cache base (commands.RemoveHash (b ∷ bs)) r old new) where
  abbrev place : List ℕ
  place = content_path cache (b ∷ bs)

  place_below : names_of place ≡ names_below (home_of cache) (content_names b)
  place_below = content_below (setup_at cache []) b bs (All-head IsHash b bs formed.hashes)

  hash_last : LastRemoval place (tree_of old) k.call.moves r (home_of cache) (value_of_tree (home_of cache) (tree_of old))
  hash_last = search (rules, last_removal, removal)

  hash_contents : (a : Hash) → IsHash a
      → ((value_of_tree (home_of cache) (tree_of new)).contents a ≡ (value_of_tree (home_of cache) (tree_of old)).contents a)
      ⊎ ((a ≡ b) × ((value_of_tree (home_of cache) (tree_of new)).contents a ≡ None))
  hash_contents a is =
      let v = value_of_tree (home_of cache) (tree_of old) in
      let follows = follows_of cache base (commands.RemoveHash (b ∷ bs)) r old new k in
      elim hash_last.either [
        | inl same ↦ inl (follows.contents a ∙ ap (λ (x : Value). x.contents a) same)
        | inr cut ↦ elim (cut_contents cache place v b (All-head IsHash b bs formed.hashes) place_below a is) [
          | inl stays ↦ inl (follows.contents a ∙ ap (λ (x : Value). x.contents a) cut ∙ stays)
          | inr gone ↦ inr (gone.0, follows.contents a ∙ ap (λ (x : Value). x.contents a) cut ∙ gone.1)
        ]
      ]

  hash_finds : (key : List ℕ) → found_under cache key new ≡ found_under cache key old
  hash_finds key =
      let v = value_of_tree (home_of cache) (tree_of old) in
      let follows = follows_of cache base (commands.RemoveHash (b ∷ bs)) r old new k in
      let left = after_deeds (home_of cache) (deeds (turns_on (tree_of old) k.call.moves)) (value_of_tree (home_of cache) (tree_of old)) in
      alike_lookup key left (value_of_tree (home_of cache) (tree_of new)) follows
      ∙ elim hash_last.either [
        | inl same ↦ ap (λ (x : Value). latest key (list_of (x.buckets (sha1 key)))) same
        | inr cut ↦
            ap (λ (x : Value). latest key (list_of (x.buckets (sha1 key)))) cut
            ∙ ap (λ o. latest key (list_of o)) (uncut_buckets cache place v b (All-head IsHash b bs formed.hashes) place_below (sha1 key))
      ]

  hash_lies : (i : List Hash) → IsIntegrity i
      → (lies_under cache i new ≡ lies_under cache i old) ⊎ (ShareAddress i (b ∷ bs) × (lies_under cache i new ≡ None))
  hash_lies i is = grind (arith, hash_contents)

  hash_content : (i : List Hash) (bytes : List ℕ) → (ShareAddress i (b ∷ bs) → ⊥) → HasContent cache i bytes old → HasContent cache i bytes new
  hash_content i bytes apart h = search (rules, hash_lies)

  hash_keeps : KeepsApart cache (b ∷ bs) old new
  hash_keeps = search (rules, hash_finds, hash_lies, hash_content)

  hash_goes : r ≡ replies.Done → lies_under cache (b ∷ bs) new ≡ None
  hash_goes e =
      let follows = follows_of cache base (commands.RemoveHash (b ∷ bs)) r old new k in
      follows.contents b ∙ ap (λ (x : Value). x.contents b) (hash_last.done e) ∙ content_gone (home_of cache) place (tree_of old) b place_below

-- the reply of a removal, by what holds if it is done
abbrev pub Says : Type 0 → Reply → List LogItem → List LogItem → Type 0
Says X replies.Done old new = X
Says X (replies.Refused e) old new = IsExcused e old new
Says X r old new = ⊥

-- after a removal that is done, nothing lies under the integrity
abbrev pub RemovesContent : List ℕ → List Hash → Reply → List LogItem → List LogItem → Type 0
RemovesContent cache i replies.Done old new = lies_under cache i new ≡ None
RemovesContent cache i (replies.Refused e) old new = IsExcused e old new
RemovesContent cache i r old new = ⊥

pub says : (cache base : List ℕ) (command : Command) (old new : List LogItem) (X : Type 0) → ((fault : Fault) → own_of command fault → ⊥) → (r : Reply)
    → Known cache base command r old new → (r ≡ replies.Done → X) → Ends r → Says X r old new
says cache base command old new X none r k h ends = grind (arith, excuse)

-- the removal of a content, and all else stays, whatever it answers
pub contents_go : (cache : List ℕ) (i : List Hash) (r : Reply) (old new : List LogItem) → IsIntegrity i → IsCache cache old
    → Called cache (commands.RemoveHash i) r old new → IsCache cache new × RemovesContent cache i r old new × KeepsApart cache i old new
contents_go cache [] r old new formed sound c = absurd (omega (arith, formed.nonempty))
contents_go cache (b ∷ bs) r old new formed sound c =
    let k = known cache (commands.RemoveHash (b ∷ bs)) r old new c tt formed sound in (
      k.sound,
      said r (says cache c.base (commands.RemoveHash (b ∷ bs)) old new (lies_under cache (b ∷ bs) new ≡ None) (λ fault none. none) r k (hash_goes cache c.base b bs formed old new r k) (hash_last cache c.base b bs formed old new r k).ends),
      hash_keeps cache c.base b bs formed old new r k,
    )
  where
    said : (q : Reply) → Says (lies_under cache (b ∷ bs) new ≡ None) q old new → RemovesContent cache (b ∷ bs) q old new
    said replies.Done h = h
    said (replies.Refused e) h = h
    said other h = absurd h
