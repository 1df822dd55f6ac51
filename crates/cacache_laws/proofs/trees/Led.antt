-- In a cache where each thing lies in its place a listing of the index lists what lookups find.
use Rattle.std.proofs.{Common.{arith, ◌≡◌, inl, inr, ℕ, Bool, true, false, cond, List, [], ◌∷◌, ◌++◌, Option, Some, Ok, Err, take, refl, sym, ap, subst, ◌∙◌}, lemmas.{Grind.{common_steps}, List.Elements.{All-nil, All-cons, All-head, All-tail, All-append, All-take}}}
use Rattle.std.specs.Prelude.{All, Contains}
use Rattle.cacache_disk.specs.{declared.{node.Node.{TheVariants.{Link, File}, Node}, luck.Luck.TheVariants.{Plain}}, Tree.{Tree, look, Rooted}, LedTo.{place, followed, leads, file_at}, Apply.{apply}, Replay.{tree_of}}
use Rattle.cacache_disk.proofs.Standing.{way_clear}
use Rattle.cacache_value.specs.{Kinds.{PathKind, Content, Elsewhere, IsFor, path_kind, NamesBelow}, Placed.{MayStand, Placed}, Acts.{list_of}, Shows.{ShowsBucket}, Value.{bucket_in, value_of_tree}}
use Rattle.cacache_value.proofs.Shows.{trees_show}
use Rattle.cacache_laws.specs.{trees.{Collecting.{CachesLinkOut, LinksLeadOut}, Compacted.{FindsFormed}, Answers.{AnsweredBy, AnswersOn}, Housed.{CachesAreHoused, Housed, IndexesLead}, Index.{IndexLists, entries_in}, Verifying.{found_in}}, Caches.{setup_at}, ReadAnswers.{entries_on}, Sequence.{turns_on}}
use Rattle.cacache_laws.proofs.{Listings.ListedTurns.{Leads, turns_lead}, Readings.Looks.{moves_keep, moves_place}, Calls.Sequence.{turns_made}, trees.{Twins.Agreeing.{said}, Collected.{indexes_find}, Members.{Member, member_contains}, Stepping.{read_answer}}}
use Rattle.sha1.specs.Sha1.{sha1}
use Rattle.cacache_core.specs.{declared.errors.{Fault.TheVariants.{IsADirectory, NotFound}, Error.TheVariants.{OutOfMemory}}, Integrity.{IsIntegrity}, Paths.{Names, names_of, home_of, bucket_names_of}}
use Rattle.cacache_store.specs.declared.store.answer.Answer.TheVariants as answers
use Rattle.cacache_store.specs.{declared.store.step.Step.TheVariants.{ReadAll}, Plain.{PlainAnswer}}
use Rattle.cacache_entry.specs.{Bucket.{entries_of, Found, latest}, Entry.{Entry}}
use Rattle.cacache_calls.specs.declared.command.Command.TheVariants as commands
use Rattle.cacache_calls.specs.{declared.reply.Reply.{Reply, TheVariants.{Listed, LookedUp, Refused}}, Licence.{looking_on, AllMay}, Replies.{too_deep, bucket_shown, find_reply}, Runs.{Moves, Runs}, State.{State, Site, Item}, Steps.{bucket_path}, Table.{after, opening}, Walking.{most}}
use Rattle.cacache_calls.proofs.{Replies.{finds_shown}, Within.{calls_keep_to}}
use Rattle.cacache_history.specs.{AddedEntries.{BucketsHaveKeys}, ListingTurns.{is_past, listing_of}, Setup.{Setup}, Turns.{made_in, EachTurn}}
use Rattle.cacache_history.proofs.{Entries.{Bucketed.{KeyedTurn}, Spelled.{TreeFormed, HasIntegrity, latest_has}, Owned.{TreeOwn}}, Histories.{Holding.{TurnsHold}, ShownTurns.{bucket_below}}, Listings.ListingTurns.{lists}}

link_out : (home : Names) (target : List ℕ) (k : PathKind) → MayStand (Some home) (Some (Link target)) k → IsFor (Some home) Elsewhere target
link_out home target Content may = may
link_out home target Elsewhere may = may
link_out home target other may = absurd may

pub links_out : (home : Names) (t : Tree) → Placed (Some home) t → LinksLeadOut home t
links_out home t placed names target is = link_out home target (path_kind (Some home) names) (subst (λ o. MayStand (Some home) o (path_kind (Some home) names)) is (placed names))

pub caches_link_out : CachesLinkOut
caches_link_out cache home log is cached = links_out home (tree_of log) (subst (λ h. Placed h (tree_of log)) is cached.placed)

pub caches_are_housed : CachesAreHoused
caches_are_housed cache home log is cached =
    subst (λ f. Housed f (tree_of log)) is (record { placed = cached.placed; keyed = cached.keyed; formed = cached.formed; own = cached.own })

-- ---- members

all_at : {X : Type 0} (P : X → Type 0) (x : X) (xs : List X) → All P xs → Member x xs → P x
all_at P x [] all m = absurd m
all_at P x (y ∷ ys) all (inl e) = subst P (sym e) (All-head P y ys all)
all_at P x (y ∷ ys) all (inr m) = all_at P x ys (All-tail P y ys all) m

entry_item : (f : Found) (items : List Item) → Member f (entries_in items) → Member (Ok f) items
entry_item f [] m = absurd m
entry_item f (Ok g ∷ items) (inl e) = inl (ap Ok e)
entry_item f (Ok g ∷ items) (inr m) = inr (entry_item f items m)
entry_item f (Err error ∷ items) m = inr (entry_item f items m)

-- ---- a listing

module _ (site : Site) (t : Tree) (rooted : Rooted t) (housed : Housed (home_of site.cache) t) where
  abbrev x : Setup
  x = setup_at site.cache site.base

  -- its turns find this tree
  moved : (first : Tree) (s : State) (moves : Moves) (r : Reply) → first ≡ t → AllMay looking_on moves → Runs s moves r → AnsweredBy t moves → TurnsHold x (turns_on first moves) × EachTurn (KeyedTurn x) (turns_on first moves)
  moved first s [] r here may run a = (tt, tt)
  moved first s (m ∷ moves) r here may run a =
      let next : (apply first m.0 Plain).1 ≡ t = moves_keep first (m ∷ []) (may.0, tt) ∙ here in
      let rest = moved (apply first m.0 Plain).1 (after s m.1) moves r next may.1 run.2 a.1 in
      let back = sym here in (
        (
          record {
            placed = subst (Placed (home_of site.cache)) back housed.placed;
            rooted = subst Rooted back rooted;
            formed = subst (TreeFormed (home_of site.cache)) back housed.formed;
            answered = a.0 ∙ ap (λ z. (apply z m.0 Plain).0) back;
            fits = run.1;
          },
          rest.0,
        ),
        (
          record {
            keyed = subst (BucketsHaveKeys (home_of site.cache)) back housed.keyed;
            own = subst (TreeOwn (home_of site.cache)) back housed.own;
          },
          rest.1,
        ),
      )

  all_lead : (b : Bool) (items : List Item) → All (Leads x t) items → All (Leads x t) (cond b (take most items ++ too_deep ∷ []) items)
  all_lead true items h =
      All-append (Leads x t) (take most items) (too_deep ∷ []) (All-take (Leads x t) most items h) (All-cons (Leads x t) too_deep [] tt (All-nil (Leads x t)))
  all_lead false items h = h

  items_lead : (items : List Item) → AnswersOn site t commands.Ls (Listed items) → All (Leads x t) items
  items_lead items on =
      let may = calls_keep_to looking_on site commands.Ls on.0 (Listed items) tt on.1 in
      let held = moved t (opening site commands.Ls) on.0 (Listed items) refl may on.1 on.2 in
      let run : Runs (opening site commands.Ls) (made_in (turns_on t on.0)) (Listed items) = subst (λ ms. Runs (opening site commands.Ls) ms (Listed items)) (sym (turns_made t on.0)) on.1 in
      elim (lists x site.number (turns_on t on.0) (Listed items) held.0 held.1 run) [
        | inl memory ↦ absurd (let wrong : Listed items ≡ Refused OutOfMemory = memory in cc)
        | inr h ↦
            let all = turns_lead x t (turns_on t on.0) h.0 (moves_place t t on.0 refl may) h.1 in
            let same : items ≡ listing_of (turns_on t on.0) h.0 = (let reply : Listed items ≡ Listed (listing_of (turns_on t on.0) h.0) = h.4.answers in cc) in
            subst (All (Leads x t)) (sym same) (all_lead (is_past (turns_on t on.0) h.0) h.0 all)
      ]

pub indexes_lead : IndexesLead
indexes_lead site home t entries f is rooted housed index c =
    let all = items_lead site t rooted (subst (λ h. Housed h t) (sym is) housed) index.items index.answers in
    let member = entry_item f index.items (subst (Member f) index.those (member_contains f entries c)) in
    subst (λ h. latest f.key (entries_on h t f.key) ≡ Some f) is (all_at (Leads (setup_at site.cache site.base) t) (Ok f) index.items all member)

-- ---- a lookup

by_answer : (key : List ℕ) (found : Option Found) (bucket : Option (List Entry)) (a : PlainAnswer) → ShowsBucket bucket a → LookedUp found ≡ find_reply key (bucket_shown a) → found ≡ latest key (list_of bucket)
by_answer key found bucket a h e = grind (arith, common_steps)

file_read : (t : Tree) (path : List ℕ) (names : Names) (bytes : List ℕ) → Rooted t → names_of path ≡ Ok names → look t names ≡ Some (File bytes) → file_at t path IsADirectory ≡ Ok bytes
unfolding file_at leads place followed
file_read t path names bytes rooted is there = rw (is, way_clear t [] names (File bytes) rooted there, there, there) refl

-- a file that is there is read
pub file_shown : (t : Tree) (path : List ℕ) (names : Names) (bytes : List ℕ) → Rooted t → names_of path ≡ Ok names → look t names ≡ Some (File bytes) → (apply t (ReadAll path) Plain).0 ≡ answers.Bytes bytes
file_shown t path names bytes rooted is there = read_answer t path ∙ ap said (file_read t path names bytes rooted is there)

bucket_at : (key : List ℕ) (found : Found) (here node : Option Node) → node ≡ here → latest key (list_of (bucket_in here)) ≡ Some found → (bytes : List ℕ) × (node ≡ Some (File bytes)) × (latest key (entries_of bytes) ≡ Some found)
bucket_at key found here there is e = grind (arith, common_steps)

module _ (site : Site) (home : Names) (t : Tree) (is : home_of site.cache ≡ Some home) (rooted : Rooted t) where
  below : (key : List ℕ) → NamesBelow (Some home) (bucket_names_of (sha1 key)) (bucket_path site.cache key)
  below key = subst (λ f. NamesBelow f (bucket_names_of (sha1 key)) (bucket_path site.cache key)) is (bucket_below (setup_at site.cache site.base) key)

  -- it answers what the tree has
  pub finds_led : (key : List ℕ) (found : Option Found) → Placed (Some home) t → AnswersOn site t (commands.Find key) (LookedUp found) → found ≡ found_in home t key
  finds_led key found placed on =
      elim (finds_shown site key on.0 (LookedUp found) on.1) [
        | inl memory ↦ absurd (let wrong : LookedUp found ≡ Refused OutOfMemory = memory in cc)
        | inr shown ↦
            let at = subst (AnsweredBy t) shown.1 on.2 in
            let shows = (trees_show (Some home) t placed rooted).bucket (sha1 key) (bucket_path site.cache key) Plain (below key) in
            by_answer key found _ shown.0 (subst (ShowsBucket _) (sym at.0) shows) shown.2
      ]

  -- and a listing has it
  pub found_listed : (entries : List Found) (key : List ℕ) (found : Found) → IndexLists site t entries → found_in home t key ≡ Some found → Contains entries found
  found_listed entries key found index e =
      let b = bucket_at key found (look t (home ++ bucket_names_of (sha1 key))) (look t (home ++ bucket_names_of (sha1 key))) refl e in
      let read = read_answer t (bucket_path site.cache key) ∙ ap said (file_read t (bucket_path site.cache key) (home ++ bucket_names_of (sha1 key)) b.0 rooted (below key) b.1) in
      indexes_find site home t entries key b.0 found is rooted index read b.2

-- what a lookup finds has an integrity
pub found_integrity : (home : Names) (t : Tree) (key : List ℕ) (found : Found) → Housed (Some home) t → found_in home t key ≡ Some found → IsIntegrity found.integrity
found_integrity home t key found housed e = subst HasIntegrity e (latest_has key (entries_on (Some home) t key) (housed.formed (sha1 key)))

-- links lead out, and found entries have integrities, if each thing lies in its place
pub houses_are_fit : (cache : List ℕ) (home : Names) (t : Tree) → home_of cache ≡ Some home → Rooted t → Housed (Some home) t
    → LinksLeadOut home t × FindsFormed cache t
houses_are_fit cache home t is rooted housed = (
  links_out home t housed.placed,
  λ key found f.
      let site : Site = record { cache = cache; base = []; number = 0 } in
      let shows = (trees_show (Some home) t housed.placed rooted).bucket (sha1 key) (bucket_path cache key) Plain (below site home t is rooted key) in
      let bucket = subst (ShowsBucket ((value_of_tree (Some home) t).buckets (sha1 key))) f.1 shows in
      found_integrity home t key found housed (ap (λ b. latest key (list_of b)) bucket ∙ f.2),
)
