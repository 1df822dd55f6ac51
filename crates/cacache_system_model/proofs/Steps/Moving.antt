-- Temporary files that are put, in the place of another or of none.
use Rattle.std.proofs.Common.{◌≡◌, ℕ, Bool, true, false, if◌then◌else◌, List, [], refl, sym, ap, subst, ◌∙◌, ⊎_elim}
use Rattle.std.specs.Prelude.{Option, Some, Result, Ok, Err, MatchResult, option_map}
use Rattle.std_io.specs.declared.io.kind.ErrorKind.{ErrorKind}
use Rattle.cacache_core.specs.{declared.errors.Fault.{Fault, TheVariants.{NotFound}}, Paths.{Names}}
use Rattle.cacache_store.specs.declared.store.step.Step.TheVariants as steps
use Rattle.cacache_store.specs.Plain.{PlainAnswer}
use Rattle.cacache_disk.specs.{declared.{luck.Luck.TheVariants.{Plain}, node.Node.{Node, TheVariants.{File}}}, Tree.{Tree, look, bytes_of}, LedTo.{and_then, place, standing, found, way_fault, where_there}, Apply.{apply}}
use Rattle.cacache_system.specs.{declared.call.{FileInfo.{FileInfo}, SystemCall.{SystemCall}, CallResult.{CallResult}}, CallsOf.{Stage, over, only, preparing, keeping, give, give_mode, sync_again, after}, Seen.{NumberedTemp}, AnswersOf.{Hint, rewrites, persist, misses}}
use Rattle.cacache_system.specs.declared.call.SystemCall.TheVariants as asks
use Rattle.cacache_system.specs.declared.call.CallResult.TheVariants as says
use Rattle.cacache_system_model.specs.{Machine.{under, OpenFile, node_of, Machine, with_sync, fixes, Became, ShowsEnd, GivesRights}, Calls.{GoesWell, LeavesPart}, Laws.{Leads, IsDone}, StepLaws.{StillStands, LeadsOrMisses, MayReplace, PersistAgrees}}
use Rattle.cacache_system_model.proofs.{Leading.{Claim, over_leads, call_leads, only_leads}, Claims.{way_of, claim_of, cases_of, agrees_of, claim_plain, claim_broken}, Steps.{Opening.{said_leads, open_of}, CopyFacts.{not_absent, fault_absent}, Changing.{put_away}}, memory.Places.{place_led}}

-- the same stands, and the same files are open
pub record Same (m n : Machine) : Type 0 where
  pub tree : n.tree ≡ m.tree
  pub files : n.files ≡ m.files

still_same : (m n l : Machine) → Same m n → l ≡ n → Same m l
still_same m n l same is = subst (λ (x : Machine). Same m x) (sym is) same

there_at : (o : Option Node) (names : Names) (node : Node) → o ≡ Some node → where_there o names ≡ Ok names
there_at o names node is = ap (λ (x : Option Node). where_there x names) is

-- what stands at a path that leads there
stands_at : (t : Tree) (path : List ℕ) (names : Names) (node : Node) → place t path ≡ Ok names → look t names ≡ Some node → standing t path ≡ Ok names
unfolding standing
stands_at t path names node at is =
    ap (λ (r : Result Names Fault). and_then r (λ n. where_there (look t n) n)) at ∙ there_at (look t names) names node is

-- an open file has what holds of each
-- what the disk answers, and leaves, where a temporary file is put
abbrev disk_puts : Tree → (ℕ → Option OpenFile) → NumberedTemp → List ℕ → PlainAnswer × Tree
disk_puts t files temp path =
    apply t (steps.Persist (record { path = temp.path; bytes = option_map (λ (f : OpenFile). bytes_of (node_of t f.place)) (files temp.number) }) path) Plain

module _ (b : Bool) (m : Machine) (temp : NumberedTemp) (path : List ℕ) (names : Names) (bytes : List ℕ) (ready : StillStands m temp names bytes)
    (done : b ≡ false → IsDone m (steps.Persist temp path)) where
  abbrev put_claim : Claim
  put_claim = claim_of b m (steps.Persist temp path)

  ready_on : (n : Machine) → Same m n → StillStands n temp names bytes
  ready_on n same = record {
    named = ready.named;
    way = ap (λ (t : Tree). way_fault t [] names) same.tree ∙ ready.way;
    stands = ap (λ (t : Tree). look t names) same.tree ∙ ready.stands;
    opened = ap (λ (files : ℕ → Option OpenFile). option_map (λ (f : OpenFile). f.place) (files temp.number)) same.files ∙ ready.opened;
  }

  same_puts : (n : Machine) → Same m n → disk_puts m.tree m.files temp path ≡ disk_puts n.tree n.files temp path
  same_puts n same =
      ap (λ (t : Tree). disk_puts t m.files temp path) (sym same.tree)
      ∙ ap (λ (files : ℕ → Option OpenFile). disk_puts n.tree files temp path) (sym same.files)

  -- a call failed without cause
  breaks : (why : ErrorKind) (n l : Machine) → Same m n → b ≡ false → misses why ≡ false → l ≡ n → put_claim (says.Failed why) l
  breaks why n l same broke fine stays =
      claim_broken b m (steps.Persist temp path) done why l broke refl fine (ap (λ (x : Machine). x.tree) stays ∙ same.tree)

  -- the move
  moves : (n : Machine) → Same m n → Leads (way_of b) (only (asks.Rename temp.path path)) n put_claim
  moves n same =
      only_leads (way_of b) (asks.Rename temp.path path) n put_claim (λ said l happens.
      ⊎_elim
      (λ (most, all, well).
      claim_plain b m (steps.Persist temp path) done said l
      (same_puts n same ∙ put_away n temp path names bytes (ready_on n same) most said l well))
      (λ (broke, why, is, fine, part, left).
      subst (λ (r : CallResult). put_claim r l) (sym is) (breaks why n l same broke fine left))
      (cases_of b n (asks.Rename temp.path path) said l happens))

  -- a call that goes before a stage
  prepares : (call : SystemCall) (s : Stage) (n : Machine) → Same m n → ((most : Option ℕ) (said : CallResult) (l : Machine) → GoesWell most n call said l → (said ≡ says.Done) × Same m l)
      → ((why : ErrorKind) (part : Option ℕ) (l : Machine) → LeavesPart n call why part l → l.tree ≡ n.tree)
      → ((l : Machine) → Same m l → Leads (way_of b) s l put_claim) → Leads (way_of b) (preparing call s) n put_claim
  prepares call s n same goes whole next =
      call_leads (way_of b) (preparing call s) call n put_claim refl (λ end never. absurd never) (λ said l happens.
      ⊎_elim
      (λ (most, all, well).
      let went = goes most said l well in
      said_leads b (preparing call s) said says.Done l put_claim went.0 (next l went.1))
      (λ (broke, why, is, fine, part, left).
      said_leads b (preparing call s) said (says.Failed why) l put_claim is
      (over_leads (way_of b) (says.Failed why) l put_claim (claim_broken b m (steps.Persist temp path) done why l broke refl fine (whole why part l left ∙ same.tree))))
      (cases_of b n call said l happens))

  -- it gets an owner, or a mode
  given : (n : Machine) → Same m n → (said : CallResult) (l : Machine) → GivesRights temp.number n said l → (said ≡ says.Done) × Same m l
  given n same said l well =
      let given = open_of n l temp.number (under names) said (λ file said l. (said ≡ says.Done) × (l ≡ n)) (ready_on n same).opened well in
      (given.3.0, still_same m n l same given.3.1)

  synced : (n : Machine) → Same m n → (most : Option ℕ) (said : CallResult) (l : Machine) → GoesWell most n (asks.Sync temp.number) said l → (said ≡ says.Done) × Same m l
  synced n same most said l well =
      let went = open_of n l temp.number (under names) said (λ file said l. (said ≡ says.Done) × Became n n.tree n.files (with_sync file.place (fixes n.synced (node_of n.tree file.place)) n.synced) l)
      (ready_on n same).opened well in
      (went.3.0, record { tree = went.3.1.0 ∙ same.tree; files = went.3.1.1 ∙ same.files })

  syncs : (c : Bool) (s : Stage) (n : Machine) → Same m n → ((l : Machine) → Same m l → Leads (way_of b) s l put_claim) → Leads (way_of b) (sync_again c temp.number s) n put_claim
  syncs true s n same next = prepares (asks.Sync temp.number) s n same (synced n same) (λ why part l left. left.0) next
  syncs false s n same next = next n same

  -- it gets the owner, the group and the mode
  gives : (c : Bool) (info : FileInfo) (s : Stage) (n : Machine) → Same m n → ((l : Machine) → Same m l → Leads (way_of b) s l put_claim)
      → Leads (way_of b) (give temp.number c info s) n put_claim
  gives c info s n same next =
      prepares (asks.SetOwner temp.number info.owner info.group) (give_mode temp.number c info.mode s) n same (λ most. given n same) (λ why part l left. ap (λ (x : Machine). x.tree) left) (λ l is.
      prepares (asks.SetMode temp.number info.mode) (sync_again c temp.number s) l is (λ most. given l is) (λ why part k left. ap (λ (x : Machine). x.tree) left) (λ k so. syncs c s k so next))

  -- the file that it replaces is looked at
  keeps_at : (c : Bool) (s : Stage) (ends : Result Names Fault) (said : CallResult) (n : Machine) → MatchResult ends (λ names. Unit {0}) (λ fault. fault ≡ NotFound) → ((l : Machine) → Same m l → Leads (way_of b) s l put_claim)
      → ShowsEnd ends m said n → Leads (way_of b) (after (keeping temp.number c path s) said) n put_claim
  keeps_at c s (Ok there) said n may next (info, is, fits, stays) =
      said_leads b (keeping temp.number c path s) said (says.Info info) n put_claim is
      (gives c info s n (still_same m m n (record { tree = refl; files = refl }) stays) next)
  keeps_at c s (Err fault) said n may next (why, is, of, memory, stays) =
      said_leads b (keeping temp.number c path s) said (says.Failed why) n put_claim is
      (subst (λ (x : Bool). Leads (way_of b) (if x then s else over (says.Failed why)) n put_claim) (sym (fault_absent why (of ∙ may)))
      (next n (still_same m m n (record { tree = refl; files = refl }) stays)))

  keeps : (c : Bool) (s : Stage) → LeadsOrMisses m.tree path → ((l : Machine) → Same m l → Leads (way_of b) s l put_claim)
      → Leads (way_of b) (keeping temp.number c path s) m put_claim
  keeps c s may next =
      call_leads (way_of b) (keeping temp.number c path s) (asks.Stat path) m put_claim refl (λ end never. absurd never) (λ said n happens.
      ⊎_elim
      (λ (most, all, well). keeps_at c s (found m.tree path) said n may next well)
      (λ (broke, why, is, fine, part, left).
      said_leads b (keeping temp.number c path s) said (says.Failed why) n put_claim is
      (subst (λ (x : Bool). Leads (way_of b) (if x then s else over (says.Failed why)) n put_claim) (sym (not_absent why fine))
      (over_leads (way_of b) (says.Failed why) n put_claim (breaks why m n (record { tree = refl; files = refl }) broke fine left))))
      (cases_of b m (asks.Stat path) said n happens))

  puts : (hint : Hint) → MayReplace m.tree hint path → Leads (way_of b) (persist hint temp path) m put_claim
  puts (rewrites c) leads = keeps c (only (asks.Rename temp.path path)) leads (λ l same. moves l same)
  puts hint may = moves m (record { tree = refl; files = refl })

-- a temporary file is put
pub persist_agrees : PersistAgrees
persist_agrees m hint temp path names bytes ready may =
    agrees_of m hint (steps.Persist temp path) (λ b done. puts b m temp path names bytes ready done hint may)
