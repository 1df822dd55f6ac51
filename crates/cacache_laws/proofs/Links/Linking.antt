-- What a link leaves: its bytes are those that the target shows, and its deeds are those of its commit.
use Rattle.std.proofs.Common.{arith, rules, ◌≡◌, ◌⊎◌, inl, inr, ℕ, true, false, List, [], ◌∷◌, ◌++◌, ◌||◌, Option, None, Some, Result, Ok, Err, length, map, refl, sym, ap, subst, ◌∙◌}
use Rattle.cacache_laws.specs.{Puts.{LeadsToPut, MayLeadToPut, ExpectsIntegrity, stored_as}, Beside.{ShareAddress, own_integrity}, Caches.{Called, HasContent, IsCache, lies_under}, ExportEffects.{IsApart}, Links.{FitsLink, KeepsBesideLink, put_like}, Sequence.{Alike, AreAnswered, CallIsAnswered, IsMadeOn, IsSound, SequenceCall, after_deeds, tree_on, turns_on}, Inserts.{own_hash}}
use Rattle.cacache_laws.proofs.{Putting.Deeds.{commit_leads, finds_so, lies_or_found, lies_so, may_lead}, Calls.{Replays.{some_same}, InParts.{logs_lead}, Sequence.{calls_answer_alone, turns_made}}, Readings.ReadAnswers.{sizing_keeps}, Removing.Removed.{over_run}}
use Rattle.cacache_core.specs.{declared.{errors.{Error.TheVariants.{IoError}, Fault.{Fault}}, integrity.digest.Hash.{Hash}}, Paths.{Names, home_of, names_of}}
use Rattle.cacache_core.specs.declared.errors.Fault.TheVariants as faults
use Rattle.cacache_store.specs.declared.store.answer.Answer.TheVariants as answers
use Rattle.cacache_store.specs.declared.store.{log.LogItem.{LogItem, TheVariants.{Made}}, plain.PlainFile.{PlainFile}}
use Rattle.cacache_store.specs.declared.store.step.Step.TheVariants as steps
use Rattle.cacache_disk.specs.{declared.luck.Luck.TheVariants.{Plain}, Tree.{Tree}, Apply.{apply, opened, unless}, LedTo.{file_at, leads, place}, Replay.{bytes_told, shown, tree_of}}
use Rattle.cacache_disk.proofs.Roots.{same_self}
use Rattle.cacache_calls.specs.declared.command.Command.TheVariants as commands
use Rattle.cacache_calls.specs.{declared.{command.{Link.{Link}, Put.{Put}}, reply.Reply.{Reply}, target.Target.{Target}}, Linking.{based, commit_for, link_target, with_size}, Promises.{Stores}, Runs.{Moves, Runs}, Sound.{SoundTarget}, Steps.{content_path}, Storing.{put_commit}, State.{sizing}, Table.{after, opening}}
use Rattle.cacache_calls.proofs.Verifying.{links_read_whole}
use Rattle.cacache_calls.specs.declared.reply.Reply.TheVariants as replies
use Rattle.cacache_value.specs.{Acts.{PutLink}, Value.{AtLink, value_of_tree}}
use Rattle.cacache_history.specs.{Commits.{CommitsAs, Deed, IsNotOk, LinksTo, ReadsTarget, deeds, finds}, Setup.{Setup, call_site, same_place}, Values.{IsThere}}
use Rattle.cacache_history.proofs.Contents.{Digests.{digest_hash}, OpenedContents.{EachAsks, OnDisks, gives_all, run_asks}}

-- ---- the bytes that the target shows

pub on_disks : (t : Tree) (moves : Moves) → AreAnswered t moves → OnDisks moves
on_disks t [] h = tt
on_disks t (m ∷ moves) h = ((t, Plain, h.0), on_disks (apply t m.0 Plain).1 moves h.1)

pub opened_held : (t : Tree) (path held : List ℕ) (file : PlainFile) → shown t path ≡ Some held → answers.File file ≡ (apply t (steps.Open path) Plain).0 → file.bytes ≡ Some held
unfolding apply
opened_held t path held file = search rules

-- the key leads to the link's entry; under the integrity of the target's bytes lies the link, or what lay
-- there before
pub record HasLinked (cache : List ℕ) (p : Put) (path : List ℕ) (i : List Hash)
    (old new : List LogItem) : Type 0 where
  pub stored : i ≡ stored_as p
  pub entry : LeadsToPut cache p new
  pub lies : (lies_under cache (own_integrity p) new ≡ Some (AtLink path))
      ⊎ (IsThere (lies_under cache (own_integrity p) old)
      × (lies_under cache (own_integrity p) new ≡ lies_under cache (own_integrity p) old))

-- what holds of the bytes that were read holds of these
read_held : (t : Tree) (path held : List ℕ) (P : List ℕ → Type 0) (moves : Moves) → shown t path ≡ Some held → AreAnswered t moves → EachAsks moves → ReadsTarget path P moves → P held
read_held t path held P moves shows answered asks read =
    let w = read.3 in
    let sized = subst (AreAnswered t) read.2 answered in
    let at : AreAnswered t read.1 = subst (λ x. AreAnswered x read.1) (sizing_keeps t path) sized.1 in
    let opens = subst (AreAnswered t) w.3 at in
    let rest = subst EachAsks w.3 (subst EachAsks read.2 asks).1 in
    let same : w.1 ≡ held = gives_all w.0 w.1 held w.2 (opened_held t path held w.0 shows opens.0) (on_disks (apply t (steps.Open path) Plain).1 w.2 opens.1) rest.1 w.4 in
    subst P same w.5

-- ---- logs

-- what a link of these bytes leaves, whatever it answers
pub record LeavesLink (cache : List ℕ) (p : Put) (path : List ℕ) (r : Reply)
    (old new : List LogItem) : Type 0 where
  pub links : (i : List Hash) → r ≡ replies.Stored i → HasLinked cache p path i old new
  pub leads : MayLeadToPut cache p old new
  pub beside : KeepsBesideLink cache p.key (own_integrity p) path old new

module _ (cache : List ℕ) (p : Put) (path : List ℕ) (old new : List LogItem) (ds : List Deed) (reply : Option Reply)
    (commits : CommitsAs (put_commit cache p) (λ names. PutLink names path) ds reply)
    (follows : Alike (value_of_tree (home_of cache) (tree_of new)) (after_deeds (home_of cache) ds (value_of_tree (home_of cache) (tree_of old)))) where
  content_so : (i : List Hash) (bytes : List ℕ) → (ShareAddress i (own_integrity p) → ⊥) → HasContent cache i bytes old → HasContent cache i bytes new
  content_so i bytes apart h =
      elim (lies_so cache p (AtLink path) old new ds reply commits follows i h.formed) [
        | inl same ↦ record { content = same ∙ h.content; formed = h.formed; meets = h.meets }
        | inr at ↦ absurd (apart at.0)
      ]

  link_keeps : KeepsBesideLink cache p.key (own_integrity p) path old new
  link_keeps = record {
    finds = finds_so cache p (AtLink path) old new ds reply commits follows;
    lies = lies_so cache p (AtLink path) old new ds reply commits follows;
    content = content_so;
    key = λ other bytes i differ apart h. record { found = h.found; finds = finds_so cache p (AtLink path) old new ds reply commits follows other differ ∙ h.finds; integrity = h.integrity; content = content_so i bytes apart h.content };
  }

  link_lies : (IsNotOk reply → ⊥) → ((more : List Deed) → ds ≡ finds (content_path cache (own_integrity p)) ∷ more → IsThere (lies_under cache (own_integrity p) old))
      → (lies_under cache (own_integrity p) new ≡ Some (AtLink path))
      ⊎ (IsThere (lies_under cache (own_integrity p) old) × (lies_under cache (own_integrity p) new ≡ lies_under cache (own_integrity p) old))
  link_lies ok there =
      elim (lies_or_found cache p (AtLink path) old new ds reply commits follows ok) [
        | inl put ↦ inl put
        | inr found ↦ inr (there found.0 found.1, found.2)
      ]

-- what a link leaves if its deeds are those of its commit
module _ (cache : List ℕ) (p : Put) (path : List ℕ) (old new : List LogItem) (ds : List Deed) (r : Reply)
    (commits : CommitsAs (put_commit cache p) (λ names. PutLink names path) ds (Some r))
    (follows : Alike (value_of_tree (home_of cache) (tree_of new)) (after_deeds (home_of cache) ds (value_of_tree (home_of cache) (tree_of old))))
    (expects : ExpectsIntegrity p) (stored : (i : List Hash) → r ≡ replies.Stored i → i ≡ stored_as p)
    (found : (more : List Deed) → ds ≡ finds (content_path cache (own_integrity p)) ∷ more → IsThere (lies_under cache (own_integrity p) old)) where
  pub leaves_by : LeavesLink cache p path r old new
  leaves_by = record {
    links = λ i is. record {
      stored = stored i is;
      entry = commit_leads cache p (AtLink path) old new ds (Some r) commits follows expects (λ no. subst (λ x. IsNotOk (Some x)) is no);
      lies = link_lies cache p path old new ds (Some r) commits follows (λ no. subst (λ x. IsNotOk (Some x)) is no) found;
    };
    leads = may_lead cache p (AtLink path) old new ds (Some r) commits follows expects;
    beside = link_keeps cache p path old new ds (Some r) commits follows;
  }

-- ---- calls

-- a cache whose links may lead to this file
abbrev pub setup_to : List ℕ → List ℕ → List ℕ → Setup
setup_to cache base path = record { cache = cache; base = base; outside = (path, []) ∷ []; callers = 0 }

-- the file lies outside
pub is_there : (path : List ℕ) (names : Names) (r : Result Names Fault) → r ≡ Ok names → (same_place r r || false) ≡ true
is_there path names r is = grind (arith, same_self)

-- what a call leaves if its target shows these bytes
module _ (cache : List ℕ) (l : Link) (base : List ℕ) (number : ℕ) (moves : Moves) (r : Reply) (old new : List LogItem)
    (run : Runs (opening (record { cache = cache; base = base; number = number }) (commands.Link l)) moves r)
    (answers : CallIsAnswered (setup_to cache base (based base l.target)) (tree_of old) (record { command = commands.Link l; number = number; moves = moves; reply = r }))
    (leads : tree_of new ≡ tree_on (tree_of old) moves)
    (held : List ℕ) (expects : ExpectsIntegrity (put_like l held)) (shows : shown (tree_of old) (based base l.target) ≡ Some held) where
  target_follows : Alike (value_of_tree (home_of cache) (tree_of new)) (after_deeds (home_of cache) (deeds (turns_on (tree_of old) moves)) (value_of_tree (home_of cache) (tree_of old)))
  target_follows = search rules

  asks_pieces : EachAsks moves
  asks_pieces = run_asks (opening (record { cache = cache; base = base; number = number }) (commands.Link l)) moves r run

  target_commits : CommitsAs (put_commit cache (put_like l held)) (λ names. PutLink names (based base l.target)) (deeds (turns_on (tree_of old) moves)) (Some r)
  target_commits =
      let turns = turns_on (tree_of old) moves in
      let t = link_target (record { cache = cache; base = base; number = number }) l in
      elim answers.commits [
        | inl nothing ↦ inl nothing
        | inr read ↦
            (read_held (tree_of old) (based base l.target) held (LinksTo t turns (Some r)) moves shows answers.disk asks_pieces
            (subst (λ ms. ReadsTarget (based base l.target) (LinksTo (link_target (record { cache = cache; base = base; number = number }) l) (turns_on (tree_of old) moves) (Some r)) ms) (turns_made (tree_of old) moves) read)).1
      ]

  target_stored : (i : List Hash) → r ≡ replies.Stored i → i ≡ stored_as (put_like l held)
  target_stored i is =
      let t = link_target (record { cache = cache; base = base; number = number }) l in
      let w = links_read_whole (record { cache = cache; base = base; number = number }) l moves (replies.Stored i)
      (subst (Runs (opening (record { cache = cache; base = base; number = number }) (commands.Link l)) moves) is run) in
      (read_held (tree_of old) (based base l.target) held (λ b. Stores (commit_for (with_size t w.0) b) (replies.Stored i)) moves shows answers.disk asks_pieces (w.0, w.1, w.2, w.3)).0

  leaves_link : LeavesLink cache (put_like l held) (based base l.target) r old new
  leaves_link =
      leaves_by cache (put_like l held) (based base l.target) old new (deeds (turns_on (tree_of old) moves)) r target_commits target_follows expects target_stored
      (λ more e. answers.found (own_hash (put_like l held)) more (digest_hash l.options.algorithm held) e)

-- a path that names nothing shows nothing
pub nowhere : (t : Tree) (path : List ℕ) (fault folder : Fault) → names_of path ≡ Err fault → file_at t path folder ≡ Err fault
unfolding file_at leads place
nowhere t path fault folder e = rw e refl

pub nothing_shown : (t : Tree) (path held : List ℕ) (fault : Fault) → names_of path ≡ Err fault → shown t path ≡ Some held → ⊥
unfolding apply
nothing_shown t path held fault e shows =
    let no : None ≡ Some held = sym (ap (λ r. bytes_told (unless r t (λ b. (answers.Bytes b, t))).0) (nowhere t path fault faults.IsADirectory e)) ∙ shows in
    absurd cc

-- a link to it asks for its size, and fails
size_fails : (t : Tree) (path : List ℕ) (fault : Fault) → names_of path ≡ Err fault → (apply t (steps.Size path) Plain).0 ≡ answers.Failed fault
unfolding apply
size_fails t path fault e = ap (λ r. (unless r t (λ b. (answers.Length (length b), t))).0) (nowhere t path fault faults.IsADirectory e)

stops : (t : Tree) (target : Target ℕ) (fault : Fault) (moves : Moves) (r : Reply) → names_of target.path ≡ Err fault → Runs (sizing target) moves r → AreAnswered t moves → tree_on t moves ≡ t
stops t target fault [] r e run answered = refl
stops t target fault ((step, a) ∷ more) r e run answered =
    let is : step ≡ steps.Size target.path = cc in
    let failed : a ≡ answers.Failed fault = answered.0 ∙ ap (λ x. (apply t x Plain).0) is ∙ size_fails t target.path fault e in
    let none = (over_run (replies.Refused (IoError fault [])) r more (subst (λ x. Runs (after (sizing target) x) more r) failed run.2)).0 in
    ap (λ (ms : Moves). tree_on (apply t step Plain).1 ms) none ∙ ap (λ x. (apply t x Plain).1) is ∙ sizing_keeps t target.path

module _ (cache : List ℕ) (l : Link) (r : Reply) (old new : List LogItem) (c : Called cache (commands.Link l) r old new) (sound : IsCache cache old) where
  -- what a link leaves, by what its target's path names
  abbrev Leaves : Type 0
  Leaves =
      IsCache cache new
      × ((held : List ℕ) → ExpectsIntegrity (put_like l held) → shown (tree_of old) (based c.base l.target) ≡ Some held → LeavesLink cache (put_like l held) (based c.base l.target) r old new)

  named_leaves : (names : Names) → names_of (based c.base l.target) ≡ Ok names → FitsLink cache l → IsApart cache (based c.base l.target) → Leaves
  named_leaves names named fits apart =
      let path = based c.base l.target in
      let s = setup_to cache c.base (based c.base l.target) in
      let call : SequenceCall = record { command = commands.Link l; number = c.number; moves = c.ran.0; reply = r } in
      let made : IsMadeOn (setup_to cache c.base (based c.base l.target)) old (record { command = commands.Link l; number = c.number; moves = c.ran.0; reply = r }) new
      = record {
        run = subst (λ x. Runs (opening (call_site (setup_to cache c.base (based c.base l.target)) c.number) (commands.Link l)) c.ran.0 x) (sym c.plain) c.ran.1;
        gained = some_same new (old ++ map (λ m. Made m.0 m.1) c.ran.0) c.ran.2;
      } in
      let target : SoundTarget (record { cache = cache; base = c.base; number = c.number }) (link_target (record { cache = cache; base = c.base; number = c.number }) l) = record { here = refl; formed = fits } in
      let a = calls_answer_alone s call old new (apart, tt) ((target, is_there path names (names_of path) named), tt, tt) sound made c.logged in
      (a.1, λ held expects shows. leaves_link cache l c.base c.number c.ran.0 r old new c.ran.1 a.0 a.2 held expects shows)

  nameless_leaves : (fault : Fault) → names_of (based c.base l.target) ≡ Err fault → Leaves
  nameless_leaves fault nameless =
      let lead = logs_lead old new c.ran.0 c.ran.2 c.logged in
      let t = link_target (record { cache = cache; base = c.base; number = c.number }) l in
      let same : tree_of new ≡ tree_of old = lead.1 ∙ stops (tree_of old) t fault c.ran.0 r nameless c.ran.1 lead.0 in
      (subst (IsSound (home_of cache)) (sym same) sound, λ held expects shows. absurd (nothing_shown (tree_of old) (based c.base l.target) held fault nameless shows))

-- a link to a file apart from the cache leaves a cache, and so much of the bytes that the file shows
pub links_last : (cache : List ℕ) (l : Link) (r : Reply) (old new : List LogItem) (c : Called cache (commands.Link l) r old new)
    → FitsLink cache l → IsApart cache (based c.base l.target) → IsCache cache old → IsCache cache new
    × ((held : List ℕ) → ExpectsIntegrity (put_like l held) → shown (tree_of old) (based c.base l.target) ≡ Some held → LeavesLink cache (put_like l held) (based c.base l.target) r old new)
links_last cache l r old new c fits apart sound = by (names_of (based c.base l.target)) refl
  where
    by : (n : Result Names Fault) → names_of (based c.base l.target) ≡ n → Leaves cache l r old new c sound
    by (Ok names) e = named_leaves cache l r old new c sound names e fits apart
    by (Err fault) e = nameless_leaves cache l r old new c sound fault e
