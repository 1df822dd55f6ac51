-- An export in which all steps succeed.
use Rattle.std.proofs.{lemmas.{Grind.{common_steps}, List.{take_all, Elements.{All-head}}}, Common.{rules, ◌≡◌, option_map, ℕ, List, [], ◌∷◌, ◌++◌, Option, None, Some, Result, Ok, Err, length, take, refl, sym, ap, subst, ◌∙◌, arith}}
use Rattle.sha1.specs.Sha1.{sha1}
use Rattle.cacache_core.specs.{declared.{errors.{Error.TheVariants.{EntryNotFound, IoError, IntegrityError}, Fault.{Fault}, IntegrityFault.TheVariants.{Check}}, integrity.digest.Hash.{Hash}}, Integrity.{IsHash, IsIntegrity, actual, address}, Matching.{meets}, Paths.{Names, home_of, content_names}}
use Rattle.cacache_core.specs.declared.errors.Fault.TheVariants as faults
use Rattle.cacache_store.specs.declared.store.answer.Answer.TheVariants as answers
use Rattle.cacache_store.specs.declared.store.log.LogItem.{LogItem}
use Rattle.cacache_store.specs.declared.store.step.Step.TheVariants as steps
use Rattle.cacache_disk.specs.{declared.{luck.Luck.TheVariants.{Plain}, node.Node.{Node, TheVariants.{Folder, File, Link}}}, Tree.{Tree, look, put}, LedTo.{and_then, bytes_there, file_at, free, linked, writable}, Apply.{apply, opened, unless}, Replay.{shown, tree_of}}
use Rattle.cacache_entry.specs.Bucket.{Found, latest}
use Rattle.cacache_calls.specs.declared.carried.Aim.TheVariants as aims
use Rattle.cacache_calls.specs.{declared.{carried.{Content.{Content}, Lookup.{Lookup}}, command.{Export.{Export}, How.{How, TheVariants.{Copy, HardLink, Reflink}}, Source.{Source}}, reply.Reply.{Reply, TheVariants.{Copied, Done, Refused}}}, Common.{ends_with}, Reading.{copied_count, export, export_content, export_from, verified, found_for}, Replies.{OrMemory}, State.{State, copying, doing, hard_link, opening_file, over, reflink, to_verify}, Steps.{content_path}, Table.{opening}}
use Rattle.cacache_calls.specs.declared.command.Command.TheVariants as commands
use Rattle.cacache_calls.specs.declared.command.Source.TheVariants as sources
use Rattle.cacache_value.specs.{Kinds.{Content as AtContent}, Placed.{MayStand}, Shows.{blob_bytes, link_end}, Value.{AtLink, Blob, InFile, blob_in, value_of_tree}}
use Rattle.cacache_history.{specs.{Turns.{blob_at}, History.{NamesSource}}, proofs.Entries.Spelled.{HasIntegrity, latest_has}}
use Rattle.cacache_laws.specs.{Caches.{Called, IsCache, lies_under}, Beside.{found_under}, results.Exports.{NamesHeld}, ExportAnswers.{export_reply, ExportsAnswer, StaysIfRefused, blob_named, blob_read, exported_reply, led_reply, made_reply, or_told, verified_reply}, ReadAnswers.{entries_on}}
use Rattle.cacache_laws.proofs.{Putting.WrittenFiles.{written_shown, put_shown}, Readings.Standing.{caches_stand}, Sure.{Succeeds.{either, home_ground}, SureReads.{opens_as, reads_whole, bytes_at, held, led_there, looks_so, read_at, suited}, SureRuns.{EndsSo, both, ends, goes, of_log, Ground, Reached, arrives, missing}}, trees.Covering.{home_named}}

-- ---- what lies there

-- the bytes that a copy takes are those that a read gives
same_node : (here : Option Node) (bytes : List ℕ) → bytes_there faults.InvalidInput here ≡ Ok bytes → bytes_there faults.IsADirectory here ≡ Ok bytes
same_node here bytes e = grind (arith, common_steps)

same_end : (t : Tree) (end : Result Names Fault) (bytes : List ℕ) → and_then end (λ names. bytes_there faults.InvalidInput (look t names)) ≡ Ok bytes
    → and_then end (λ names. bytes_there faults.IsADirectory (look t names)) ≡ Ok bytes
same_end t end bytes e = grind (arith, same_node)

pub read_too : (t : Tree) (blob : Option Blob) (bytes : List ℕ) → blob_read faults.InvalidInput t blob ≡ Ok bytes → blob_bytes t blob ≡ Ok bytes
read_too t blob bytes e = grind (arith, same_end)

-- the node that a hard link is a name of
abbrev named : Option Node → Result Node Fault
named None = Err faults.NotFound
named (Some node) = Ok node

module _ (home : Names) (t : Tree) (p : List ℕ) (names : Names) where
  named_as : (here : Option Node) → look t names ≡ here → MayStand (Some home) here AtContent → Reached t p names → linked t p ≡ named here
  unfolding linked
  named_as here e s h = grind (arith, missing, arrives)

  told_so : (here : Option Node) → MayStand (Some home) here AtContent → or_told (named here) (λ node. Done) ≡ or_told (blob_named (blob_in here)) (λ blob. Done)
  told_so here s = grind (arith, common_steps)

file_there : (here : Option Node) (bytes : List ℕ) → blob_in here ≡ Some (InFile bytes) → here ≡ Some (File bytes)
file_there here bytes e = grind (arith, common_steps)

-- unless it is refused the path shows the bytes that a copy took, or those of the file that lies there
abbrev pub Shows : List ℕ → Tree → Option Blob → Tree → Reply → Type 0
Shows to t blob new (Refused e) = Unit {0}
Shows to t blob new (Copied n) = (bytes : List ℕ) → blob_read faults.InvalidInput t blob ≡ Ok bytes → shown new to ≡ Some bytes
Shows to t blob new r = (bytes : List ℕ) → blob ≡ Some (InFile bytes) → shown new to ≡ Some bytes

-- ---- an export of a content

module _ (cache : List ℕ) (home : Names) (is : home_of cache ≡ Some home) (t : Tree) (g : Ground home t) (e : Export) where
  -- this reply, and after a refusal the same tree; otherwise the path shows what lies there
  abbrev pub Gives : Option Blob → Reply → Tree → Reply → Type 0
  Gives blob wanted new r = (r ≡ wanted) × StaysIfRefused r t new × Shows e.to t blob new r

  abbrev Leads : Option Blob → Reply → State → Type 0
  Leads blob wanted s = EndsSo (Gives blob wanted) t s

  module _ (h : Hash) (hs : List Hash) (hash : IsHash h) where
    -- the content of the integrity
    abbrev k : Content
    k = record { cache = cache; integrity = h ∷ hs }

    abbrev path : List ℕ
    path = content_path cache (h ∷ hs)

    -- what lies there
    abbrev blob : Option Blob
    blob = held home t g cache is h hs hash

    abbrev names : Names
    names = home ++ content_names h

    from_at : (folder : Fault) → file_at t path folder ≡ blob_read folder t blob
    from_at folder = read_at home t g cache is h hs hash folder

    -- ---- its last step

    copy_is : (r : Result (List ℕ) Fault) (w : Result Names Fault) → file_at t path faults.InvalidInput ≡ r → writable t e.to ≡ w
        → apply t (steps.Copy path e.to) Plain ≡ unless r t (λ bytes. unless w t (λ q. (answers.Took (length bytes), put t q (File (take (length bytes) bytes)))))
    unfolding apply
    copy_is r w from to = search rules

    reflink_is : (w : Result Names Fault) (r : Result (List ℕ) Fault) → free t e.to ≡ w → file_at t path faults.IsADirectory ≡ r
        → apply t (steps.Reflink path e.to) Plain ≡ unless w t (λ q. unless r t (λ bytes. (answers.Done, put t q (File bytes))))
    unfolding apply
    reflink_is w r to from = search rules

    hard_link_is : (w : Result Names Fault) (n : Result Node Fault) → free t e.to ≡ w → linked t path ≡ n
        → apply t (steps.HardLink path e.to) Plain ≡ unless w t (λ q. unless n t (λ node. (answers.Done, put t q node)))
    unfolding apply
    hard_link_is w n to from = search rules

    -- a refusal
    refused : (fault : Fault) → EndsSo (Gives blob (Refused (IoError fault []))) t (over (Refused (IoError fault [])))
    refused fault = ends (Gives blob (Refused (IoError fault []))) t (Refused (IoError fault [])) (refl, refl, tt)

    -- a count that was verified is that of the bytes
    abbrev Counts : Option ℕ → Type 0
    Counts count = (bytes : List ℕ) → blob_read faults.InvalidInput t blob ≡ Ok bytes → copied_count count (length bytes) ≡ length bytes

    copy_ends : (count : Option ℕ) (r : Result (List ℕ) Fault) (w : Result Names Fault) → blob_read faults.InvalidInput t blob ≡ r → writable t e.to ≡ w → Counts count
        → Leads blob (or_told r (λ bytes. or_told w (λ q. Copied (length bytes)))) (copying path e.to count)
    copy_ends count (Err fault) w from to counts =
        goes (Gives blob (Refused (IoError fault []))) t t (copying path e.to count) (steps.Copy path e.to) (answers.Failed fault) refl (copy_is (Err fault) w (from_at faults.InvalidInput ∙ from) to) (refused fault)
    copy_ends count (Ok bytes) (Err fault) from to counts =
        goes (Gives blob (Refused (IoError fault []))) t t (copying path e.to count) (steps.Copy path e.to) (answers.Failed fault) refl (copy_is (Ok bytes) (Err fault) (from_at faults.InvalidInput ∙ from) to) (refused fault)
    copy_ends count (Ok bytes) (Ok q) from to counts =
        goes (Gives blob (Copied (length bytes))) t (put t q (File (take (length bytes) bytes))) (copying path e.to count) (steps.Copy path e.to) (answers.Took (length bytes)) refl
        (copy_is (Ok bytes) (Ok q) (from_at faults.InvalidInput ∙ from) to)
        (ends (Gives blob (Copied (length bytes))) (put t q (File (take (length bytes) bytes))) (Copied (copied_count count (length bytes))) (
          ap Copied (counts bytes from),
          tt,
          λ held lies.
              let both : ◌≡◌ {A = Result (List ℕ) Fault} (Ok bytes) (Ok held) = sym from ∙ lies in
              let same : bytes ≡ held = cc in
              ap (λ b. shown (put t q (File b)) e.to) (take_all (length bytes) bytes (omega arith)) ∙ written_shown t e.to bytes q to ∙ ap Some same,
        ))

    reflink_ends : (w : Result Names Fault) (r : Result (List ℕ) Fault) → free t e.to ≡ w → file_at t path faults.IsADirectory ≡ r
        → Leads blob (or_told w (λ q. or_told r (λ bytes. Done))) (doing (reflink path e.to) (over Done))
    reflink_ends (Err fault) r to from =
        goes (Gives blob (Refused (IoError fault []))) t t (doing (reflink path e.to) (over Done)) (steps.Reflink path e.to) (answers.Failed fault) refl (reflink_is (Err fault) r to from) (refused fault)
    reflink_ends (Ok q) (Err fault) to from =
        goes (Gives blob (Refused (IoError fault []))) t t (doing (reflink path e.to) (over Done)) (steps.Reflink path e.to) (answers.Failed fault) refl (reflink_is (Ok q) (Err fault) to from) (refused fault)
    reflink_ends (Ok q) (Ok bytes) to from =
        goes (Gives blob Done) t (put t q (File bytes)) (doing (reflink path e.to) (over Done)) (steps.Reflink path e.to) answers.Done refl (reflink_is (Ok q) (Ok bytes) to from)
        (ends (Gives blob Done) (put t q (File bytes)) Done (
          refl,
          tt,
          λ held lies.
              let both : ◌≡◌ {A = Result (List ℕ) Fault} (Ok bytes) (Ok held)
              = sym from ∙ bytes_at home t g cache is h hs hash ∙ ap (blob_bytes t) lies in
              let same : bytes ≡ held = cc in
              put_shown t e.to bytes q to ∙ ap Some same,
        ))

    hard_link_ends : (w : Result Names Fault) (n : Result Node Fault) → free t e.to ≡ w → linked t path ≡ n → ((bytes : List ℕ) → blob ≡ Some (InFile bytes) → n ≡ Ok (File bytes))
        → Leads blob (or_told w (λ q. or_told n (λ node. Done))) (doing (hard_link path e.to) (over Done))
    hard_link_ends (Err fault) n to from here =
        goes (Gives blob (Refused (IoError fault []))) t t (doing (hard_link path e.to) (over Done)) (steps.HardLink path e.to) (answers.Failed fault) refl (hard_link_is (Err fault) n to from) (refused fault)
    hard_link_ends (Ok q) (Err fault) to from here =
        goes (Gives blob (Refused (IoError fault []))) t t (doing (hard_link path e.to) (over Done)) (steps.HardLink path e.to) (answers.Failed fault) refl (hard_link_is (Ok q) (Err fault) to from) (refused fault)
    hard_link_ends (Ok q) (Ok node) to from here =
        goes (Gives blob Done) t (put t q node) (doing (hard_link path e.to) (over Done)) (steps.HardLink path e.to) answers.Done refl (hard_link_is (Ok q) (Ok node) to from)
        (ends (Gives blob Done) (put t q node) Done (
          refl,
          tt,
          λ held lies.
              let both : ◌≡◌ {A = Result Node Fault} (Ok node) (Ok (File held)) = here held lies in
              let same : node ≡ File held = cc in
              ap (λ x. shown (put t q x) e.to) same ∙ put_shown t e.to held q to,
        ))

    made_ends : (how : How) (count : Option ℕ) → Counts count → Leads blob (made_reply how e.to t blob) (export_from how path e.to count)
    made_ends Copy count counts = copy_ends count (blob_read faults.InvalidInput t blob) (writable t e.to) refl refl counts
    made_ends Reflink count counts = reflink_ends (free t e.to) (blob_bytes t blob) refl (bytes_at home t g cache is h hs hash)
    made_ends HardLink count counts =
        subst (λ reply. Leads blob (or_told (free t e.to) (λ q. reply)) (doing (hard_link path e.to) (over Done))) (told_so home t path names (look t names) (suited home t g cache is h hs hash))
        (hard_link_ends (free t e.to) (named (look t names)) refl (named_as home t path names (look t names) refl (suited home t g cache is h hs hash) (led_there home t g cache is h hs hash))
        (λ bytes lies. ap named (file_there (look t names) bytes lies)))

    -- ---- before it

    verified_ends : (bytes : List ℕ) → blob_bytes t blob ≡ Ok bytes → Leads blob (verified_reply (h ∷ hs) (made_reply e.how e.to t blob) bytes) (verified k e bytes)
    verified_ends bytes whole =
        let unmet = Refused (IntegrityError (Check (h ∷ hs) (actual (h ∷ hs) bytes))) in
        both (Leads blob) (meets (h ∷ hs) bytes) (made_reply e.how e.to t blob) unmet (export_content k e (Some (length bytes))) (ends_with (IntegrityError (Check (h ∷ hs) (actual (h ∷ hs) bytes))))
        (made_ends e.how (Some (length bytes)) (λ copied from. let both : ◌≡◌ {A = Result (List ℕ) Fault} (Ok bytes) (Ok copied) = sym whole ∙ read_too t blob copied from in let same : bytes ≡ copied = cc in ap (λ (b : List ℕ). length b) same))
        (ends (Gives blob unmet) t unmet (refl, refl, tt))

    checked_ends : (r : Result (List ℕ) Fault) → blob_bytes t blob ≡ r → Leads blob (or_told r (verified_reply (h ∷ hs) (made_reply e.how e.to t blob))) (opening_file (to_verify k e))
    checked_ends (Err fault) from =
        goes (Gives blob (Refused (IoError fault []))) t t (opening_file (to_verify k e)) (steps.Open path) (answers.Failed fault) refl (opens_as t path (Err fault) (bytes_at home t g cache is h hs hash ∙ from)) (refused fault)
    checked_ends (Ok bytes) from =
        let wanted = verified_reply (h ∷ hs) (made_reply e.how e.to t blob) bytes in
        goes (Gives blob wanted) t t (opening_file (to_verify k e)) (steps.Open path) (answers.File (opened bytes)) refl (opens_as t path (Ok bytes) (bytes_at home t g cache is h hs hash ∙ from))
        (reads_whole (Gives blob wanted) t (to_verify k e) bytes (verified_ends bytes from) bytes [] refl)

    export_ends : Leads blob (exported_reply (h ∷ hs) e t blob) (export k e)
    export_ends = search (rules, both, checked_ends, made_ends)

  -- what lies under an integrity
  abbrev pub lies_at : List Hash → Option Blob
  lies_at i = blob_at (value_of_tree (Some home) t) (address i)

  pub content_ends : (i : List Hash) → IsIntegrity i → Leads (lies_at i) (exported_reply i e t (lies_at i)) (export (record { cache = cache; integrity = i }) e)
  content_ends [] formed = absurd (omega (arith, formed.nonempty))
  content_ends (h ∷ hs) formed = export_ends h hs (All-head IsHash h hs formed.hashes)

-- ---- by its source

module _ (cache key : List ℕ) (home : Names) (is : home_of cache ≡ Some home) (old : List LogItem) (g : Ground home (tree_of old)) (e : Export) where
  abbrev look_up : Lookup
  look_up = record { cache = cache; key = key; aim = aims.Export e }

  -- what lies where the key leads
  abbrev led_to : Option Found → Option Blob
  led_to None = None
  led_to (Some f) = lies_at cache home is (tree_of old) g e f.integrity

  by_found : (found : Option Found) → HasIntegrity found → EndsSo (Gives cache home is (tree_of old) g e (led_to found) (led_reply cache key e old found)) (tree_of old) (found_for look_up (aims.Export e) found)
  by_found None has = search (rules, ends)
  by_found (Some f) has =
      subst
      (λ h. EndsSo (Gives cache home is (tree_of old) g e (lies_at cache home is (tree_of old) g e f.integrity) (exported_reply f.integrity e (tree_of old) (blob_at (value_of_tree h (tree_of old)) (address f.integrity)))) (tree_of old) (export (record { cache = cache; integrity = f.integrity }) e))
      (sym is) (content_ends cache home is (tree_of old) g e f.integrity has)

  led_blob : (found : Option Found) (i : List Hash) → option_map (λ (f : Found). f.integrity) found ≡ Some i → led_to found ≡ lies_at cache home is (tree_of old) g e i
  led_blob found i leads = grind (arith, common_steps)

-- it answers so, and unless it is refused its path shows what lies where the source leads
abbrev pub Told : List ℕ → Source → Export → Reply → List LogItem → List LogItem → Type 0
Told cache source e r old new =
    (r ≡ export_reply cache source e old) × StaysIfRefused r (tree_of old) (tree_of new)
    × ((i : List Hash) → NamesHeld cache source i old → Shows e.to (tree_of old) (lies_under cache i old) (tree_of new) r)

pub exports_told : (cache : List ℕ) (home : Names) → home_of cache ≡ Some home → (source : Source) (e : Export) (r : Reply) (old new : List LogItem) → NamesSource source → IsCache cache old → Called cache (commands.Export source e) r old new
    → OrMemory (Told cache source e r old new) r
exports_told cache home is (sources.Hash i) e r old new formed sound c =
    let g = home_ground cache old home is (caches_stand cache old sound) in
    either r
    (λ h. (
      h.0 ∙ ap (λ o. exported_reply i e (tree_of old) (blob_at (value_of_tree o (tree_of old)) (address i))) (sym is),
      h.1,
      λ j same. subst (λ blob. Shows e.to (tree_of old) blob (tree_of new) r) (ap (λ o. blob_at (value_of_tree o (tree_of old)) (address i)) (sym is) ∙ ap (λ k. lies_under cache k old) same) h.2,
    ))
    (of_log (Gives cache home is (tree_of old) g e (lies_at cache home is (tree_of old) g e i) (exported_reply i e (tree_of old) (lies_at cache home is (tree_of old) g e i))) (opening (record { cache = cache; base = c.base; number = c.number }) (commands.Export (sources.Hash i) e)) r old new
    (content_ends cache home is (tree_of old) g e i formed) c.ran c.logged)
exports_told cache home is (sources.Key key) e r old new formed sound c =
    let g = home_ground cache old home is (caches_stand cache old sound) in
    let led = latest key (entries_on (Some home) (tree_of old) key) in
    let has : HasIntegrity (latest key (entries_on (home_of cache) (tree_of old) key)) = latest_has key (entries_on (home_of cache) (tree_of old) key) (sound.formed (sha1 key)) in
    let led_has : HasIntegrity led = subst (λ h. HasIntegrity (latest key (entries_on h (tree_of old) key))) is has in
    let here : latest key (entries_on (Some home) (tree_of old) key) ≡ found_under cache key old = ap (λ h. latest key (entries_on h (tree_of old) key)) (sym is) in
    let Q : Tree → Reply → Type 0
    = Gives cache home is (tree_of old) g e (led_to cache key home is old g e (latest key (entries_on (Some home) (tree_of old) key))) (led_reply cache key e old (latest key (entries_on (Some home) (tree_of old) key))) in
    either r
    (λ h. (
      h.0 ∙ ap (led_reply cache key e old) here,
      h.1,
      λ i leads.
          subst (λ blob. Shows e.to (tree_of old) blob (tree_of new) r)
          (led_blob cache key home is old g e (latest key (entries_on (Some home) (tree_of old) key)) i (ap (option_map (λ (f : Found). f.integrity)) here ∙ leads)
          ∙ ap (λ o. blob_at (value_of_tree o (tree_of old)) (address i)) (sym is)) h.2,
    ))
    (of_log Q (opening (record { cache = cache; base = c.base; number = c.number }) (commands.Export (sources.Key key) e)) r old new
    (looks_so Q home (tree_of old) g (look_up cache key home is old g e) is (by_found cache key home is old g e led led_has)) c.ran c.logged)

pub exports_answer : ExportsAnswer
exports_answer cache source e r old new folder formed sound c =
    either r (λ h. (h.0, h.1)) (exports_told cache folder.0 (home_named cache folder.0 folder.1) source e r old new formed sound c)

-- for a source that leads to this integrity
pub by_held : (cache : List ℕ) (source : Source) (i : List Hash) (e : Export) (old : List LogItem) → NamesHeld cache source i old → export_reply cache source e old ≡ exported_reply i e (tree_of old) (lies_under cache i old)
by_held cache (sources.Hash j) i e old leads = ap (λ j. exported_reply j e (tree_of old) (lies_under cache j old)) leads
by_held cache (sources.Key key) i e old leads = search rules
