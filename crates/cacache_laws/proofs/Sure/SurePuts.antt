-- A put in which all steps succeed.
use Rattle.std.proofs.{Common.{rules, ◌≡◌, ◌==◌, ℕ, true, false, cond, List, [], ◌∷◌, ◌++◌, None, Some, Result, Ok, length, take, drop, refl, sym, ap, subst, ◌∙◌, arith}, lemmas.{Bool.{ne_eqb}, List.{drop_all}}}
use Rattle.cacache_core.specs.{declared.{errors.Fault.{Fault}, integrity.digest.Hash.{Hash}}, Integrity.{digest, IsHash, hash_of}, Paths.{Names, names_of, content_names, folder_names, temp_names}}
use Rattle.cacache_core.specs.declared.errors.Fault.TheVariants as faults
use Rattle.cacache_store.specs.declared.store.plain.PlainTemp.{PlainTemp}
use Rattle.cacache_store.specs.declared.store.step.Step.TheVariants as steps
use Rattle.cacache_store.specs.declared.store.answer.Answer.TheVariants as answers
use Rattle.cacache_disk.specs.{declared.{luck.Luck.TheVariants.{Plain}, node.Node.TheVariants.{File}}, Tree.{Tree, look, put, cut}, LedTo.{place}, Apply.{apply}}
use Rattle.cacache_disk.proofs.{PutNodes.{look-cut}, Roots.{same_self}}
use Rattle.cacache_calls.specs.declared.command.Command.TheVariants as commands
use Rattle.cacache_calls.specs.{declared.{command.Put.{Put}, reply.Reply.{Reply}}, Common.{fails}, State.{doing, creating, writing, syncing, persisting, make_folder}, Steps.{temp_path, temp_folder, content_path, content_folder, content_folders}, Table.{opening}, Storing.{placed, secured, move_in, persist, write_rest, put_commit}}
use Rattle.cacache_calls.proofs.Going.{cond_leads}
use Rattle.cacache_value.{specs.{Kinds.{Content, Temporary, Way, path_kind, IsFor}, Placed.{Proper}}, proofs.Applying.{suits}}
use Rattle.cacache_history.proofs.Contents.Digests.{digest_hash}
use Rattle.cacache_laws.specs.Succeeds.{put_reply}
use Rattle.cacache_laws.proofs.{Putting.WrittenFiles.{Stands}, Sure.{SureCommits.{placed_ends as commit_ends}, SurePlays.{Plays, goes, syncs}, SureSpares.{put_other}, SureTemps.{temp_lies, temp_folder_lies, content_synced, own_temporary_at, with_folder, with_file, made_file, file_ground, stands}, SureRuns.{Ground, Lies, goes_to, is_for, makes_dirs, dirs_keep, persists, look_own}}}
use Rattle.cacache_laws.proofs.Sure.SureCommits as commits

-- ---- once the content is there

module _ (cache : List ℕ) (home : Names) (is : names_of cache ≡ Ok home) (p : Put) (q : Names) (temporary : path_kind (Some home) q ≡ Temporary) where
  -- the reply is this one, and no temporary file is there
  abbrev pub PutSo : Reply → Tree → Reply → Type 0
  PutSo wanted t r = (r ≡ wanted) × (look t q ≡ None)

  module _ (t : Tree) (g : Ground home t) (none : look t q ≡ None) where
    pub placed_ends : Plays (PutSo (put_reply cache p)) t (placed (put_commit cache p))
    placed_ends = commit_ends (put_commit cache p) home is (λ x. look x q ≡ None) (λ old new spares. spares q temporary) t g none

-- ---- from a full temporary file on

module _ (cache : List ℕ) (home : Names) (is : names_of cache ≡ Ok home) (p : Put) (number : ℕ) (t : Tree) (g : Ground home t) (file : PlainTemp) (s : Stands t file) (path_is : file.path ≡ temp_path cache number) where
  abbrev h : Hash
  h = hash_of p.options.algorithm (digest p.options.algorithm p.data)

  hash : IsHash h
  hash = digest_hash p.options.algorithm p.data

  -- the path of the temporary file
  abbrev pub own : Names
  own = home ++ temp_names number

  abbrev Ended : Reply → Tree → Reply → Type 0
  Ended = PutSo cache home is p own (own_temporary_at cache home is number)

  abbrev front : Names
  front = commits.front cache home is t g h hash

  folder_lies : Lies home (content_folder cache (put_commit cache p).computed) front Way
  folder_lies = commits.folder_lies cache home is t g h hash

  lies : Lies home (content_path cache (put_commit cache p).computed) (content_names h) Content
  lies = commits.lies cache home is t g h hash

  -- the tree with the content's folders
  abbrev made : Tree
  made = commits.made cache home is t g h hash

  made_ground : Ground home made
  made_ground = commits.made_ground cache home is t g h hash

  -- the file is still there
  abbrev still : Stands made file
  still = record {
    names = s.names;
    bytes = s.bytes;
    was = s.was;
    known_to_be = s.known_to_be;
    named = s.named;
    there = dirs_keep home t g (content_folder cache (put_commit cache p).computed) front folder_lies s.names (File s.was) s.there;
  }

  led : place made (content_path cache (put_commit cache p).computed) ≡ Ok (home ++ content_names h)
  led = commits.led cache home is t g h hash

  -- the tree with the content
  abbrev stored : Tree
  stored = put (cut made s.names) (home ++ content_names h) (File s.bytes)

  persisted : apply made (steps.Persist file (content_path cache (put_commit cache p).computed)) Plain ≡ (answers.Done, stored)
  persisted =
      persists home made file (content_path cache (put_commit cache p).computed) (home ++ content_names h) still led
      (suits (Some home) made (home ++ content_names h) Content lies.kind made_ground.placed)

  proper : Proper (Some home) (steps.Persist file (content_path cache (put_commit cache p).computed))
  proper = (
    subst (λ x. IsFor (Some home) Temporary x) (sym path_is) (is_for home (temp_path cache number) (temp_names number) Temporary (temp_lies cache home is number)),
    is_for home (content_path cache (put_commit cache p).computed) (content_names h) Content lies,
  )

  stored_ground : Ground home stored
  stored_ground = goes_to home made stored (steps.Persist file (content_path cache (put_commit cache p).computed)) answers.Done made_ground proper persisted

  -- the file's names are those of its path
  own_names : s.names ≡ own
  own_names =
      let both : ◌≡◌ {A = Result Names Fault} (Ok s.names) (Ok own) = sym s.named ∙ ap names_of path_is ∙ (temp_lies cache home is number).named in
      cc

  gone : look stored own ≡ None
  gone =
      put_other (Some home) own (own_temporary_at cache home is number) (cut made s.names) Content (home ++ content_names h) (File s.bytes) lies.kind (λ differ. absurd cc)
      (ap (λ n. look (cut made n) own) own_names ∙ look-cut made own own ∙ ap (λ b. cond b None (look made own)) (same_self own))

  secured_ends : Plays (Ended (put_reply cache p)) stored (secured (put_commit cache p))
  secured_ends =
      let placed_now = placed_ends cache home is p own (own_temporary_at cache home is number) stored stored_ground gone in
      cond_leads (Plays (Ended (put_reply cache p)) stored) p.options.durable _ _
      (λ durable.
      syncs (Ended (put_reply cache p)) stored (placed (put_commit cache p)) (content_folders cache (put_commit cache p).computed)
      (content_synced cache home is h [] hash stored (File s.bytes) stored_ground.rooted (look_own (cut made s.names) (home ++ content_names h) (File s.bytes))) placed_now)
      (λ plain. placed_now)

  moved_in : Plays (Ended (put_reply cache p)) made (persisting (put_commit cache p) file)
  moved_in = search (rules, goes, persisted, secured_ends)

  synced : apply made (steps.SyncTemp file) Plain ≡ (answers.Synced file, made)
  unfolding apply
  synced = refl

  pub persist_ends : Plays (Ended (put_reply cache p)) t (persist (put_commit cache p) file)
  persist_ends =
      let Q = Ended (put_reply cache p) in
      let folder = content_folder cache (put_commit cache p).computed in
      goes Q t made (doing (make_folder folder) (move_in (put_commit cache p) file)) (steps.MakeDirs folder) answers.Done refl
      (makes_dirs home t g folder front folder_lies) tt
      (cond_leads (Plays (Ended (put_reply cache p)) made) p.options.durable _ _
      (λ durable. goes Q made made (syncing (put_commit cache p) file) (steps.SyncTemp file) (answers.Synced file) refl synced refl moved_in)
      (λ plain. moved_in))

-- ---- from the opening on

module _ (cache : List ℕ) (home : Names) (is : names_of cache ≡ Ok home) (p : Put) (number : ℕ) (base : List ℕ) (t : Tree) (g : Ground home t) (none : look t (home ++ temp_names number) ≡ None) where
  abbrev Opened : Tree → Reply → Type 0
  Opened = PutSo cache home is p (home ++ temp_names number) (own_temporary_at cache home is number) (put_reply cache p)

  -- the tree with the folder of temporary files, and the one with an empty file in it
  abbrev one : Tree
  one = with_folder cache home is number t g none

  abbrev two : Tree
  two = with_file cache home is number t g none

  -- a file at this path of these bytes
  abbrev full : List ℕ → PlainTemp
  full bytes = record { path = temp_path cache number; bytes = Some bytes }

  from_full : (bytes : List ℕ) → Plays Opened two (persist (put_commit cache p) (full bytes))
  from_full bytes = persist_ends cache home is p number two (file_ground cache home is number t g none) (full bytes) (stands cache home is number t g none bytes) refl

  wrote : (b : ℕ) (bs : List ℕ) → apply two (steps.Write (full []) (b ∷ bs)) Plain ≡ (answers.Wrote (full (take (length (b ∷ bs)) (b ∷ bs))) (length (b ∷ bs)), two)
  unfolding apply
  wrote b bs = refl

  from_file : (bytes : List ℕ) → Plays Opened two (write_rest (put_commit cache p) (full []) bytes)
  from_file [] = from_full []
  from_file (b ∷ bs) =
      let n = length (b ∷ bs) in
      let now = full (take (length (b ∷ bs)) (b ∷ bs)) in
      goes Opened two two (writing (put_commit cache p) (full []) (b ∷ bs)) (steps.Write (full []) (b ∷ bs)) (answers.Wrote now n) refl (wrote b bs) (omega arith, refl)
      (cond_leads (Plays Opened two) (length (b ∷ bs) == 0) (fails faults.WriteZero) (write_rest (put_commit cache p) now (drop n (b ∷ bs)))
      (λ zero. let differ : true ≡ false = sym zero ∙ ne_eqb (length (b ∷ bs)) 0 (λ e. absurd (omega arith)) in absurd cc)
      (λ some. subst (λ rest. Plays Opened two (write_rest (put_commit cache p) now rest)) (sym (drop_all n (b ∷ bs) (omega arith))) (from_full (take (length (b ∷ bs)) (b ∷ bs)))))

  pub puts_so : Plays Opened t (opening (record { cache = cache; base = base; number = number }) (commands.Put p))
  puts_so =
      goes Opened t one (doing (make_folder (temp_folder cache)) (creating number (put_commit cache p) p.data)) (steps.MakeDirs (temp_folder cache)) answers.Done refl
      (makes_dirs home t g (temp_folder cache) (folder_names (temp_names 0)) (temp_folder_lies cache home is)) tt
      (goes Opened one two (creating number (put_commit cache p) p.data) (steps.CreateTemp (temp_path cache number)) (answers.Temp (full [])) refl (made_file cache home is number t g none) refl (from_file p.data))
