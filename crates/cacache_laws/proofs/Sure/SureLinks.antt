-- A link, and an open linker's commit, in which all steps succeed.
use Rattle.std.proofs.{Common.{rules, ◌≡◌, ℕ, cond, List, [], ◌∷◌, ◌++◌, Option, None, Some, Result, Ok, Err, length, refl, sym, ap, subst, ◌∙◌, arith, append_assoc}, lemmas.List.{length-append}}
use Rattle.cacache_core.specs.{declared.{errors.{Error.TheVariants.{IoError}, Fault.{Fault}}, integrity.digest.Hash.{Hash}}, Integrity.{digest, IsHash, hash_of}, Paths.{Names, names_of, content_names}}
use Rattle.cacache_core.specs.declared.errors.Fault.TheVariants as faults
use Rattle.cacache_store.specs.declared.store.answer.Answer.TheVariants as answers
use Rattle.cacache_store.specs.{declared.store.log.LogItem.{LogItem}, Plain.{PlainAnswer}}
use Rattle.cacache_store.specs.declared.store.step.Step.TheVariants as steps
use Rattle.cacache_disk.specs.{declared.{luck.Luck.TheVariants.{Plain}, node.Node.{Node, TheVariants.{Folder, File, Link}}}, Tree.{Tree, look, put, Rooted}, LedTo.{file_at, free, place}, Apply.{apply, make_some, opened}, Replay.{tree_of}}
use Rattle.cacache_disk.proofs.{PlantedNodes.{deeper}, Standing.{upper_folder}}
use Rattle.cacache_calls.specs.{declared.{carried.Commit.{Commit}, reply.Reply.{Reply, TheVariants.{Refused}}, target.Target.{Target}}, Common.{fails}, Linking.{commit_for, link_target, with_size}, State.{confirming, hashing, linking, opening_file, sizing, to_link}, Steps.{content_path, content_folder}, Storing.{link, placed, secured_found}, Table.{opening}}
use Rattle.cacache_calls.specs.declared.command.Command.TheVariants as commands
use Rattle.cacache_value.specs.{Kinds.{Content, Elsewhere, IsFor}, Placed.{MayStand, Proper}, Shows.{blob_there}, Value.{AtLink, Blob, InFile, blob_in, value_of_tree}}
use Rattle.cacache_history.{specs.Turns.{blob_at}, proofs.Contents.Digests.{digest_hash}}
use Rattle.cacache_laws.specs.{LinkAnswers.{LinkersAnswer, LinksAnswer, link_reply, linked_reply, unless_dangling}, Succeeds.{compared_reply, is_yes}}
use Rattle.cacache_laws.proofs.{Sure.{Succeeds.{back, ground}, SureCommits.{CommitSo, placed_ends}, SureReads.{opens_as, reads_whole, sizes_as, IsAsked, asks, content_there, is_asked, suited}, SureInserts.{one_behind}, SurePlays.{ends_so, ends_too}, SureRuns.{EndsSo, both, ends, goes, of_log, Ground, arrives, goes_to, is_for, makes_dirs}}, trees.Covering.{home_named}}
use Rattle.cacache_laws.proofs.Sure.SureCommits as commits

-- ---- folders that are there

pub make_step : (t : Tree) (p rest : Names) (name : List ℕ) (node : Node) (most : ℕ) → look t (p ++ name ∷ []) ≡ Some node → make_some t p (name ∷ rest) most ≡ make_some t (p ++ name ∷ []) rest most
make_step t p rest name node most e = rw (e, make_some) refl

-- no folder is made if all of them are there
made_already : (t : Tree) (p above : Names) (node : Node) (most : ℕ) → Rooted t → look t (p ++ above) ≡ Some node → make_some t p above most ≡ t
made_already t p [] node most rooted e = refl
made_already t p (name ∷ []) node most rooted e = make_step t p [] name node most e
made_already t p (name ∷ next ∷ rest) node most rooted e =
    let below = ap (look t) (append_assoc p (name ∷ []) (next ∷ rest)) ∙ e in
    make_step t p (next ∷ rest) name Folder most (upper_folder t (p ++ name ∷ []) rest next node rooted below) ∙ made_already t (p ++ name ∷ []) (next ∷ rest) node most rooted below

-- ---- a link

symlinks : (t : Tree) (target p : List ℕ) (names : Names) → place t p ≡ Ok names → look t names ≡ None → apply t (steps.Symlink target p) Plain ≡ (answers.Done, put t names (Link target))
unfolding apply free
symlinks t target p names led none = rw (led, none) refl

finds_there : (t : Tree) (target p : List ℕ) (names : Names) (node : Node) → place t p ≡ Ok names → look t names ≡ Some node → apply t (steps.Symlink target p) Plain ≡ (answers.Failed faults.AlreadyExists, t)
unfolding apply free
finds_there t target p names node led there = rw (led, there) refl

module _ (target : Target ℕ) (bytes : List ℕ) (home : Names) (is : names_of target.cache ≡ Ok home) (apart : IsFor (Some home) Elsewhere target.path) (t : Tree) (g : Ground home t) where
  abbrev c : Commit
  c = commit_for target bytes

  abbrev h : Hash
  h = hash_of target.options.algorithm (digest target.options.algorithm bytes)

  hash : IsHash h
  hash = digest_hash target.options.algorithm bytes

  abbrev path : List ℕ
  path = content_path target.cache (h ∷ [])

  abbrev names : Names
  names = home ++ content_names h

  abbrev front : Names
  front = commits.front target.cache home is t g h hash

  -- the tree with the content's folders
  abbrev made : Tree
  made = commits.made target.cache home is t g h hash

  made_ground : Ground home made
  made_ground = commits.made_ground target.cache home is t g h hash

  led : place made path ≡ Ok names
  led = commits.led target.cache home is t g h hash

  abbrev last : List ℕ
  last = commits.last target.cache home is t g h hash

  seam : names ≡ (home ++ front) ++ last ∷ []
  seam = one_behind home front last

  -- what is there stays
  here_so : look made names ≡ look t names
  here_so = deeper t [] (home ++ front) names (length (home ++ front)) (omega (arith, ap (λ (l : Names). length l) seam, length-append (home ++ front) (last ∷ [])))

  -- and then no folder is made
  already : (node : Node) → look t names ≡ Some node → made ≡ t
  already node e = made_already t [] (home ++ front) Folder (length (home ++ front)) g.rooted (upper_folder t (home ++ front) [] last node g.rooted (ap (look t) (sym seam) ∙ e))

  -- what a commit of the content answers
  abbrev stored : Reply
  stored = compared_reply c c.options.integrity

  abbrev refused : Reply
  refused = Refused (IoError faults.AlreadyExists [])

  abbrev Says : Reply → Tree → Reply → Type 0
  Says wanted new r = r ≡ wanted

  placed_so : (x : Tree) → Ground home x → EndsSo (Says stored) x (placed c)
  placed_so x stands =
      ends_so (Says stored) x (placed c)
      (ends_too (CommitSo c home is (λ _. Unit {0}) (λ old new spares kept. tt) stored) (Says stored) (λ _ r h. h.0) x (placed c)
      (placed_ends c home is (λ _. Unit {0}) (λ old new spares kept. tt) x stands tt))

  -- ---- if something lies there

  by_answer : (a : PlainAnswer) → IsAsked a → apply made (steps.Exists path) Plain ≡ (a, made) → EndsSo (Says (cond (is_yes a) stored refused)) made (confirming c faults.AlreadyExists)
  by_answer (answers.There there) asked e =
      goes (Says (cond there stored refused)) made made (confirming c faults.AlreadyExists) (steps.Exists path) (answers.There there) refl e
      (both (λ reply s. EndsSo (Says reply) made s) there stored refused (secured_found c) (fails faults.AlreadyExists) (placed_so made made_ground) (ends (Says refused) made refused refl))
  by_answer (answers.Failed fault) asked e = search (rules, goes, ends)
  by_answer other asked e = absurd asked

  confirmed : (node : Node) (blob : Blob) → look t names ≡ Some node → MayStand (Some home) (Some node) Content → blob_in (Some node) ≡ Some blob
      → EndsSo (Says (unless_dangling stored t (Some blob))) made (linking c target.path)
  confirmed node blob e may is_blob =
      let told = content_there home made path names (Some node) (here_so ∙ e) may (arrives led) in
      let same = told ∙ ap (λ x. blob_there x (blob_in (Some node))) (already node e) ∙ ap (blob_there t) is_blob in
      let wanted = unless_dangling stored t (Some blob) in
      goes (Says wanted) made made (linking c target.path) (steps.Symlink target.path path) (answers.Failed faults.AlreadyExists) refl (finds_there made target.path path names node led (here_so ∙ e))
      (by_answer (blob_there t (Some blob)) (subst IsAsked same (is_asked _)) (asks made path (blob_there t (Some blob)) same))

  linked_ends : (here : Option Node) → look t names ≡ here → MayStand (Some home) here Content → EndsSo (Says (unless_dangling stored t (blob_in here))) made (linking c target.path)
  linked_ends None e may =
      let done = symlinks made target.path path names led (here_so ∙ e) in
      let proper : Proper (Some home) (steps.Symlink target.path path) = (is_for home path (content_names h) Content (commits.lies target.cache home is t g h hash), apart) in
      goes (Says stored) made (put made names (Link target.path)) (linking c target.path) (steps.Symlink target.path path) answers.Done refl done
      (placed_so (put made names (Link target.path)) (goes_to home made (put made names (Link target.path)) (steps.Symlink target.path path) answers.Done made_ground proper done))
  linked_ends (Some Folder) e may = absurd may
  linked_ends (Some (File held)) e may = confirmed (File held) (InFile held) e may refl
  linked_ends (Some (Link to)) e may = confirmed (Link to) (AtLink to) e may refl

  pub link_ends : EndsSo (Says (unless_dangling stored t (blob_at (value_of_tree (Some home) t) (Some h)))) t (link c target.path)
  link_ends =
      goes (Says (unless_dangling stored t (blob_in (look t names)))) t made (link c target.path) (steps.MakeDirs (content_folder target.cache (h ∷ []))) answers.Done refl
      (makes_dirs home t g (content_folder target.cache (h ∷ [])) front (commits.folder_lies target.cache home is t g h hash))
      (linked_ends (look t names) refl (suited home t g target.cache (home_named target.cache home is) h [] hash))

-- ---- on a store in memory

module _ (cache : List ℕ) (home : Names) (is : names_of cache ≡ Ok home) (old : List LogItem) (g : Ground home (tree_of old)) where
  abbrev t : Tree
  t = tree_of old

  -- a target in this cache
  module _ (target : Target ℕ) (here : target.cache ≡ cache) (apart : IsFor (Some home) Elsewhere target.path) where
    abbrev Tells : Reply → Tree → Reply → Type 0
    Tells wanted new r = r ≡ wanted

    named : names_of target.cache ≡ Ok home
    named = ap names_of here ∙ is

    -- once all bytes were read
    link_of : (bytes : List ℕ) → EndsSo (Tells (linked_reply (commit_for target bytes) old)) t (link (commit_for target bytes) target.path)
    link_of bytes =
        back target.cache home named
        (λ h. EndsSo (Tells (unless_dangling (compared_reply (commit_for target bytes) target.options.integrity) (tree_of old) (blob_at (value_of_tree h (tree_of old)) (Some (hash_of target.options.algorithm (digest target.options.algorithm bytes)))))) (tree_of old)
        (link (commit_for target bytes) target.path))
        (link_ends target bytes home named apart (tree_of old) g)

    pub commit_of : (bytes rest : List ℕ) → EndsSo (Tells (linked_reply (commit_for target (bytes ++ rest)) old)) t (hashing (to_link target) (opened rest) bytes)
    commit_of bytes rest = reads_whole (Tells (linked_reply (commit_for target (bytes ++ rest)) old)) t (to_link target) (bytes ++ rest) (link_of (bytes ++ rest)) rest bytes refl

  -- from its first step on
  pub whole_of : (target : Target ℕ) → target.cache ≡ cache → IsFor (Some home) Elsewhere target.path → (r : Result (List ℕ) Fault) → file_at t target.path faults.IsADirectory ≡ r
      → EndsSo (λ new x. x ≡ link_reply target old r) t (sizing target)
  whole_of target here apart (Err fault) e = search (rules, goes, sizes_as, ends)
  whole_of target here apart (Ok held) e =
      let Q : Tree → Reply → Type 0 = λ new x. x ≡ link_reply target old (Ok held) in
      let sized = with_size target (length held) in
      goes Q t t (sizing target) (steps.Size target.path) (answers.Length (length held)) refl (sizes_as t target.path (Ok held) e)
      (goes Q t t (opening_file (to_link sized)) (steps.Open target.path) (answers.File (opened held)) refl (opens_as t target.path (Ok held) e)
      (commit_of sized here apart [] held))

pub links_answer : LinksAnswer
links_answer cache l r old new c folder standing apart =
    let home = folder.0 in
    let target = link_target (record { cache = cache; base = c.base; number = c.number }) l in
    let far = subst (λ h. IsFor h Elsewhere target.path) (home_named cache home folder.1) apart in
    of_log (λ _ x. x ≡ link_reply target old (file_at (tree_of old) target.path faults.IsADirectory)) (opening (record { cache = cache; base = c.base; number = c.number }) (commands.Link l)) r old new
    (whole_of cache home folder.1 old (ground cache old home folder.1 standing) target refl far (file_at (tree_of old) target.path faults.IsADirectory) refl) c.ran c.logged

pub linkers_answer : LinkersAnswer
linkers_answer cache base l bytes rest r old new folder standing apart c =
    let home = folder.0 in
    let target = link_target (record { cache = cache; base = base; number = 0 }) l in
    let far = subst (λ h. IsFor h Elsewhere target.path) (home_named cache home folder.1) apart in
    of_log (λ _ x. x ≡ linked_reply (commit_for target (bytes ++ rest)) old) (hashing (to_link target) (opened rest) bytes) r old new
    (commit_of cache home folder.1 old (ground cache old home folder.1 standing) target refl far bytes rest) c.ran c.logged
