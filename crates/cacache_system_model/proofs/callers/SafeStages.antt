-- Stages of a step whose calls neither move nor remove what is at some names, and put nothing there.
use Rattle.std.proofs.Common.{◌≡◌, length, ◌==◌, ◌||◌, not, ℕ, zero, suc, Bool, true, false, cond, List, [], ◌∷◌, ◌++◌, Option, None, Some, refl, sym, subst, ◌∙◌}
use Rattle.std.specs.{Bool.{nat_eq}, Cmp.Lexicographic.{pointwise}, Str.{is_utf8}}
use Rattle.std_io.specs.declared.io.kind.ErrorKind.{ErrorKind}
use Rattle.std_io.specs.declared.io.kind.ErrorKind.TheVariants as kind
use Rattle.cacache_core.specs.Paths.{Names}
use Rattle.cacache_store.specs.declared.store.answer.{Kind.{Kind}, Name.{Name}}
use Rattle.cacache_store.specs.declared.store.answer.Kind.TheVariants as kinds
use Rattle.cacache_disk.specs.{declared.node.Node.TheVariants.{File}, Tree.{Tree, look}}
use Rattle.cacache_system.specs.{declared.call.{FileInfo.{FileInfo}, SystemCall.{SystemCall}, CallResult.{CallResult}}, Seen.{text_of, is_proper, is_passed, names_in, with_slash}, CallsOf.{Stage, Reader, reader, read_once, more_names, entered as entered_name, ask_kind, next_name, broken_off, is_no_folder, opening_folder, following, reading_names, asking_kind, Purpose, to_give, to_sync, to_sync_folder, over, only, trying, taking_memory, opening, checking, opening_whole, reading_front, measuring, reading_rest, appending, standing as asking_folder, making, confirming, sizing, asking_source, asking_target, asking_end, making_end, resolving, making_fresh, filling, replacing, scrapping, copied, place_fresh, fresh_beside, fresh_number, name_taken, already_exists, is_link, after, interrupts, is_absent, is_same_node, unless_folder, if_folder, opened, below, climb, unmade, above_of, keeping, preparing, sync_again, give}}
use Rattle.cacache_system.specs.declared.call.SystemCall.TheVariants as asks
use Rattle.cacache_system.specs.declared.call.CallResult.TheVariants as says
use Rattle.cacache_system_model.specs.{Machine.{Machine}, Calls.{OccursSomehow}, callers.Opened.{Avoids, IsApart}}
use Rattle.cacache_system_model.proofs.callers.{ListCalls.{CanOpen, IsListing, FolderLeft}, OpenTemps.{IsNew, new_moves, made_new, filled_new}, CopyTargets.{end_apart, spelled, IsLinkAt, link_shown, IsBarred, barred, never_opened, fresh_apart, not_made}, OpenCalls.{Moves, keeps_same, Readable, IsOpenNumber, IsNamed, Safe}, UnchangedCalls.{Unchanged, Readies, open_ready, append_ready}}

module _ (q : Names) where
  -- ---- stages

  -- a file is there
  abbrev pub IsFile : Tree → Type 0
  IsFile t = (bytes : List ℕ) × (look t q ≡ Some (File bytes))

  -- the calls from a stage on are such
  abbrev pub IsSafe : Stage → Machine → Type 0
  IsSafe (over r) m = Unit {0}
  IsSafe (only call) m = Safe q m call
  IsSafe (trying again (asks.Write number bytes)) m = IsNamed m number
  IsSafe (trying again (asks.Read number size)) m = Readable m number
  IsSafe (taking_memory s) m = IsSafe s m
  IsSafe (opening purpose path) m = Unit {0}
  IsSafe (checking purpose number) m = Readable m number
  IsSafe (opening_whole path) m = Unit {0}
  IsSafe (reading_front again size number) m = Readable m number
  IsSafe (measuring front number) m = Readable m number
  IsSafe (reading_rest front number) m = Readable m number
  IsSafe (appending path bytes) m = Unit {0}
  IsSafe (asking_folder path) m = Unit {0}
  IsSafe (making again path todo) m = Unit {0}
  IsSafe (confirming why path todo) m = Unit {0}
  IsSafe (keeping number synced path s) m = IsOpenNumber m number × ((n : Machine) → Unchanged m n → IsSafe s n)
  IsSafe (preparing call s) m = Readies m call × ((n : Machine) → Unchanged m n → IsSafe s n)
  IsSafe (sizing path) m = Unit {0}
  IsSafe (asking_source number from to) m = IsApart q m.tree to
  IsSafe (asking_target number source from to) m = IsApart q m.tree to
  IsSafe (asking_end number source from to) m = IsApart q m.tree to × IsLinkAt m.tree to
  IsSafe (making_end number from to) m = IsBarred m.tree to
  IsSafe (resolving number from to) m = IsApart q m.tree to
  IsSafe (making_fresh left number from path) m = IsFile m.tree × Avoids q path
  IsSafe (filling from fresh path) m = IsNew m.tree fresh × Avoids q fresh × Avoids q path
  IsSafe (replacing count fresh path) m = Moves m.tree fresh × Avoids q fresh × Avoids q path
  IsSafe (scrapping why fresh) m = Avoids q fresh
  IsSafe (opening_folder path) m = CanOpen m.tree path × CanOpen m.tree (with_slash path)
  IsSafe (following path) m = CanOpen m.tree (with_slash path)
  IsSafe (reading_names again r found) m = IsListing m r.number
  IsSafe (asking_kind r name names found) m = IsListing m r.number
  IsSafe s m = ⊥

  pub cond_safe : (b : Bool) (s t : Stage) (m : Machine) → IsSafe s m → IsSafe t m → IsSafe (cond b s t) m
  cond_safe true s t m h k = h
  cond_safe false s t m h k = k

  -- so they are if each is, where it is taken
  pub cond_so : (b : Bool) (s t : Stage) (m : Machine) → (b ≡ true → IsSafe s m) → (b ≡ false → IsSafe t m) → IsSafe (cond b s t) m
  cond_so true s t m h k = h refl
  cond_so false s t m h k = k refl

  pub unless_safe : (k : Kind) (s : Stage) (m : Machine) → IsSafe s m → IsSafe (unless_folder k s) m
  unless_safe kinds.Folder s m h = tt
  unless_safe k s m h = h

  pub if_safe : (k : Kind) (why : ErrorKind) (s : Stage) (m : Machine) → IsSafe s m → IsSafe (if_folder k why s) m
  if_safe kinds.Folder why s m h = h
  if_safe k why s m h = tt

  pub opened_safe : (purpose : Purpose) (number : ℕ) (info : FileInfo) (m : Machine) → Readable m number → IsSafe (opened purpose number info) m
  opened_safe to_give number info m h = unless_safe info.kind (over (says.Opened number)) m tt
  opened_safe to_sync number info m h = unless_safe info.kind (only (asks.Sync number)) m (h.0, h.1)
  opened_safe to_sync_folder number info m h = if_safe info.kind kind.NotADirectory (only (asks.Sync number)) m (h.0, h.1)

  pub checked_safe : (purpose : Purpose) (number : ℕ) (said : CallResult) (m : Machine) → Readable m number → IsSafe (after (checking purpose number) said) m
  checked_safe purpose number (says.Info info) m h = opened_safe purpose number info m h
  checked_safe purpose number said m h = tt

  pub front_safe : (again : Bool) (size number : ℕ) (said : CallResult) (m : Machine) → Readable m number → IsSafe (after (reading_front again size number) said) m
  front_safe again size number (says.Bytes front) m h = cond_safe (length front == size) (measuring front number) (taking_memory (reading_rest front number)) m h h
  front_safe again size number (says.Failed why) m h = cond_safe (interrupts why) (reading_front true size number) (over (says.Failed why)) m h tt
  front_safe again size number said m h = tt

  pub measured_safe : (front : List ℕ) (number : ℕ) (said : CallResult) (m : Machine) → Readable m number → IsSafe (after (measuring front number) said) m
  measured_safe front number (says.Info info) m h = h
  measured_safe front number said m h = tt

  pub rest_safe : (front : List ℕ) (number : ℕ) (said : CallResult) (m : Machine) → IsSafe (after (reading_rest front number) said) m
  rest_safe front number (says.Bytes rest) m = tt
  rest_safe front number said m = tt

  pub below_safe : (todo : List (List ℕ)) (m : Machine) → IsSafe (below todo) m
  below_safe [] m = tt
  below_safe (path ∷ todo) m = tt

  pub climb_safe : (o : Option (List ℕ)) (why : ErrorKind) (path : List ℕ) (todo : List (List ℕ)) (m : Machine) → IsSafe (climb o why path todo) m
  climb_safe None why path todo m = tt
  climb_safe (Some up) why path todo m = tt

  pub unmade_safe : (again : Bool) (why : ErrorKind) (path : List ℕ) (todo : List (List ℕ)) (m : Machine) → IsSafe (unmade again why path todo) m
  unmade_safe true why path todo m = tt
  unmade_safe false why path todo m = climb_safe (above_of path) why path todo m

  pub folder_safe : (path : List ℕ) (said : CallResult) (m : Machine) → IsSafe (after (asking_folder path) said) m
  folder_safe path (says.Info info) m = if_safe info.kind kind.AlreadyExists (over says.Done) m tt
  folder_safe path (says.Failed why) m = cond_safe (is_absent why) (making false path []) (over (says.Failed why)) m tt tt
  folder_safe path said m = tt

  pub making_safe : (again : Bool) (path : List ℕ) (todo : List (List ℕ)) (said : CallResult) (m : Machine) → IsSafe (after (making again path todo) said) m
  making_safe again path todo says.Done m = below_safe todo m
  making_safe again path todo (says.Failed why) m = cond_safe (is_absent why) (unmade again why path todo) (confirming why path todo) m (unmade_safe again why path todo m) tt
  making_safe again path todo said m = tt

  pub confirming_safe : (why : ErrorKind) (path : List ℕ) (todo : List (List ℕ)) (said : CallResult) (m : Machine) → IsSafe (after (confirming why path todo) said) m
  confirming_safe why path todo (says.Info info) m = if_safe info.kind kind.AlreadyExists (below todo) m (below_safe todo m)
  confirming_safe why path todo (says.Failed is_said) m = tt
  confirming_safe why path todo said m = tt

  -- from a stage on after calls that changed neither tree nor open files
  abbrev pub SafeLater : Stage → Machine → Type 0
  SafeLater s m = (n : Machine) → Unchanged m n → IsSafe s n

  pub open_later : (m n : Machine) (number : ℕ) → Unchanged m n → IsOpenNumber m number → IsOpenNumber n number
  open_later m n number (tree, files) (place, is) = (place, keeps_same place m n files number is)

  pub unchanged_on : (m n k : Machine) → Unchanged m n → Unchanged n k → Unchanged m k
  unchanged_on m n k (tree, files) (later, still) = (later ∙ tree, still ∙ files)

  pub again_safe : (synced : Bool) (number : ℕ) (s : Stage) (m : Machine) → IsOpenNumber m number → SafeLater s m → IsSafe (sync_again synced number s) m
  again_safe true number s m open_file later = (open_file, later)
  again_safe false number s m open_file later = later m (refl, refl)

  pub give_safe : (number : ℕ) (synced : Bool) (info : FileInfo) (s : Stage) (m : Machine) → IsOpenNumber m number → SafeLater s m → IsSafe (give number synced info s) m
  give_safe number synced info s m open_file later = (
    open_file,
    λ n same. (
      open_later m n number same open_file,
      λ k next.
          let still = unchanged_on m n k same next in
          again_safe synced number s k (open_later m k number still open_file) (λ j last. later j (unchanged_on m k j still last)),
    ),
  )

  pub kept_safe : (number : ℕ) (synced : Bool) (path : List ℕ) (s : Stage) (said : CallResult) (m : Machine) → IsOpenNumber m number → SafeLater s m
      → IsSafe (after (keeping number synced path s) said) m
  kept_safe number synced path s (says.Info info) m open_file later = give_safe number synced info s m open_file later
  kept_safe number synced path s (says.Failed why) m open_file later = cond_safe (is_absent why) s (over (says.Failed why)) m (later m (refl, refl)) tt
  kept_safe number synced path s said m open_file later = tt

  pub prepared_safe : (call : SystemCall) (s : Stage) (said : CallResult) (m : Machine) → IsSafe s m → IsSafe (after (preparing call s) said) m
  prepared_safe call s says.Done m h = h
  prepared_safe call s said m h = tt

  pub file_safe : (purpose : Purpose) (path : List ℕ) (said : CallResult) (m n : Machine) → OccursSomehow m (asks.OpenToRead path) said n → IsSafe (after (opening purpose path) said) n
  file_safe purpose path (says.Opened number) m n h = open_ready path m n number h
  file_safe purpose path said m n h = tt

  pub whole_safe : (path : List ℕ) (said : CallResult) (m n : Machine) → OccursSomehow m (asks.OpenToRead path) said n → IsSafe (after (opening_whole path) said) n
  whole_safe path (says.Opened number) m n h = open_ready path m n number h
  whole_safe path said m n h = tt

  pub line_safe : (path bytes : List ℕ) (said : CallResult) (m n : Machine) → OccursSomehow m (asks.OpenToAppend path) said n → IsSafe (after (appending path bytes) said) n
  line_safe path bytes (says.Opened number) m n h = append_ready path m n number h
  line_safe path bytes said m n h = tt

  -- ---- listings

  pub more_safe : (r : Reader) (found : List Name) (m : Machine) → IsListing m r.number → IsSafe (more_names r found) m
  more_safe r found m h = cond_safe (r.left == 0) (over (says.Failed kind.FileTooLarge)) (reading_names false r found) m tt h

  pub entered_safe : (name : List ℕ) (what : Kind) (go : Name → Stage) (m : Machine) → ((entry : Name) → IsSafe (go entry) m) → IsSafe (entered_name name what go) m
  entered_safe name what go m h =
      let entry : Name = record { name = text_of name; kind = what } in cond_safe (is_proper (text_of name)) (go entry) (over (says.Failed kind.InvalidFilename)) m (h entry) tt

  pub next_safe : (names : List (List ℕ)) (r : Reader) (found : List Name) (m : Machine) → IsListing m r.number → IsSafe (next_name r names found) m
  next_safe [] r found m h = more_safe r found m h
  next_safe (name ∷ names) r found m h =
      let go : Name → Stage = λ (entry : Name). next_name r names (found ++ entry ∷ []) in
      cond_safe (is_passed name) (next_name r names found) (taking_memory (ask_kind r name names found go)) m (next_safe names r found m h)
      (cond_safe (is_utf8 (r.folder ++ name)) (asking_kind r name names found) (entered_name name kinds.File go) m h
      (entered_safe name kinds.File go m (λ entry. next_safe names r (found ++ entry ∷ []) m h)))

  pub listed_safe : (again : Bool) (r : Reader) (found : List Name) (said : CallResult) (m : Machine) → IsListing m r.number → IsSafe (after (reading_names again r found) said) m
  listed_safe again r found (says.Bytes bytes) m h =
      cond_safe (length bytes == 0) (taking_memory (over (says.Names found))) (next_name (read_once r) (names_in bytes) found) m tt (next_safe (names_in bytes) (read_once r) found m h)
  listed_safe again r found (says.Failed why) m h = cond_safe (interrupts why) (reading_names true r found) (over (says.Failed (broken_off why))) m h tt
  listed_safe again r found said m h = tt

  pub kind_safe : (r : Reader) (name : List ℕ) (names : List (List ℕ)) (found : List Name) (said : CallResult) (m : Machine) → IsListing m r.number → IsSafe (after (asking_kind r name names found) said) m
  kind_safe r name names found (says.Info info) m h = entered_safe name info.kind (λ (entry : Name). next_name r names (found ++ entry ∷ [])) m (λ entry. next_safe names r (found ++ entry ∷ []) m h)
  kind_safe r name names found (says.Failed why) m h = cond_safe (is_absent why) (next_name r names found) (over (says.Failed why)) m (next_safe names r found m h) tt
  kind_safe r name names found said m h = tt

  pub opened_safe_folder : (path : List ℕ) (said : CallResult) (m n : Machine) → CanOpen m.tree (with_slash path) → FolderLeft m said n → IsSafe (after (opening_folder path) said) n
  opened_safe_folder path (says.Opened number) m n can left = more_safe (reader number path) [] n (left.2 number refl)
  opened_safe_folder path (says.Failed why) m n can left =
      cond_safe (is_no_folder why) (following path) (over (says.Failed why)) n (subst (λ (t : Tree). CanOpen t (with_slash path)) (sym left.1) can) tt
  opened_safe_folder path said m n can left = tt

  pub followed_safe : (path : List ℕ) (said : CallResult) (m n : Machine) → FolderLeft m said n → IsSafe (after (following path) said) n
  followed_safe path (says.Opened number) m n left = more_safe (reader number path) [] n (left.2 number refl)
  followed_safe path (says.Failed why) m n left = tt
  followed_safe path said m n left = tt

  -- ---- copies

  pub size_safe : (path : List ℕ) (said : CallResult) (m : Machine) → IsSafe (after (sizing path) said) m
  size_safe path (says.Info info) m = unless_safe info.kind (over (says.Info info)) m tt
  size_safe path said m = tt

  pub source_safe : (number : ℕ) (from to : List ℕ) (said : CallResult) (m : Machine) → IsApart q m.tree to → IsSafe (after (asking_source number from to) said) m
  source_safe number from to (says.Info source) m apart = cond_safe source.regular (asking_target number source from to) _ m apart tt
  source_safe number from to said m apart = tt

  pub copied_safe : (number : ℕ) (through : Bool) (source target : FileInfo) (from to : List ℕ) (m : Machine) → IsApart q m.tree to → IsSafe (copied number through source target from to) m
  copied_safe number through source target from to m apart =
      unless_safe target.kind _ m
      (cond_safe (pointwise nat_eq from to || is_same_node source target) _ _ m tt
      (cond_safe (not target.regular) _ _ m tt (cond_safe through (resolving number from to) (place_fresh number from to) m apart ((apart.bytes, apart.stands), apart.avoids))))

  pub target_safe : (number : ℕ) (source : FileInfo) (from to : List ℕ) (said : CallResult) (m n : Machine) → IsApart q n.tree to → n ≡ m → OccursSomehow m (asks.StatLink to) said n
      → IsSafe (after (asking_target number source from to) said) n
  target_safe number source from to (says.Info target) m n apart same h =
      cond_so (is_link target.kind) (asking_end number source from to) (copied number false source target from to) n
      (λ link. (apart, subst (λ (x : Machine). IsLinkAt x.tree to) (sym same) (link_shown to m n target link h)))
      (λ other. copied_safe number false source target from to n apart)
  target_safe number source from to (says.Failed why) m n apart same h =
      cond_safe (is_absent why) (place_fresh number from to) (over (says.Failed why)) n ((apart.bytes, apart.stands), apart.avoids) tt
  target_safe number source from to said m n apart same h = tt

  pub end_safe : (number : ℕ) (source : FileInfo) (from to : List ℕ) (said : CallResult) (m n : Machine) → IsApart q n.tree to → IsLinkAt m.tree to → n ≡ m → OccursSomehow m (asks.Stat to) said n
      → IsSafe (after (asking_end number source from to) said) n
  end_safe number source from to (says.Info target) m n apart link same h = copied_safe number true source target from to n apart
  end_safe number source from to (says.Failed why) m n apart link same h =
      cond_so (is_absent why) (making_end number from to) (over (says.Failed why)) n
      (λ absent. subst (λ (x : Machine). IsBarred x.tree to) (sym same) (barred to why m n link absent h)) (λ other. tt)
  end_safe number source from to said m n apart link same h = tt

  pub made_end_safe : (number : ℕ) (from to : List ℕ) (said : CallResult) (m n : Machine) → IsBarred m.tree to → OccursSomehow m (asks.OpenToAppend to) said n
      → IsSafe (after (making_end number from to) said) n
  made_end_safe number from to (says.Opened file) m n bars h = absurd (never_opened to m n file bars h)
  made_end_safe number from to said m n bars h = tt

  pub resolved_safe : (number : ℕ) (from to : List ℕ) (said : CallResult) (m n : Machine) → IsApart q m.tree to → n ≡ m → OccursSomehow m (asks.RealPath to) said n
      → IsSafe (after (resolving number from to) said) n
  resolved_safe number from to (says.Bytes path) m n apart same h =
      let at = spelled to path m n h in
      (subst (λ (x : Machine). IsFile x.tree) (sym same) (apart.bytes, apart.stands), end_apart q m.tree to path at.0 apart at.1 at.2)
  resolved_safe number from to said m n apart same h = tt

  pub taken_safe : (left number : ℕ) (why : ErrorKind) (from path : List ℕ) (m : Machine) → (already_exists why ≡ true → IsFile m.tree × Avoids q path) → IsSafe (name_taken left number why from path) m
  taken_safe zero number why from path m there = tt
  taken_safe (suc left) number why from path m there = cond_so (already_exists why) (taking_memory (making_fresh left number from path)) (over (says.Failed why)) m there (λ other. tt)

  pub fresh_safe : (left number : ℕ) (from path : List ℕ) (said : CallResult) (m n : Machine) → IsFile m.tree × Avoids q path
      → OccursSomehow m (asks.CreateNew (fresh_beside path (fresh_number left number)) 384) said n → IsSafe (after (making_fresh left number from path) said) n
  fresh_safe left number from path (says.Opened file) m n (there, avoids) h =
      let fresh = fresh_beside path (fresh_number left number) in
      (made_new fresh 384 m n file h, fresh_apart q there.0 fresh 384 m n file there.1 h, avoids)
  fresh_safe left number from path (says.Failed why) m n there h =
      taken_safe left number why from path n
      (λ taken. subst (λ (x : Machine). IsFile x.tree × Avoids q path) (sym (not_made (fresh_beside path (fresh_number left number)) 384 m n why taken h)) there)
  fresh_safe left number from path said m n there h = tt

  pub filled_safe : (from fresh path : List ℕ) (said : CallResult) (m n : Machine) → IsNew m.tree fresh × Avoids q fresh × Avoids q path → OccursSomehow m (asks.CopyFile from fresh) said n
      → IsSafe (after (filling from fresh path) said) n
  filled_safe from fresh path (says.Count size) m n (new, avoids, other) h = (new_moves n.tree fresh (filled_new from fresh m n size new h), avoids, other)
  filled_safe from fresh path (says.Failed why) m n (new, avoids, other) h = avoids
  filled_safe from fresh path said m n new h = tt

  pub replaced_safe : (count : ℕ) (fresh path : List ℕ) (said : CallResult) (m : Machine) → Avoids q fresh → IsSafe (after (replacing count fresh path) said) m
  replaced_safe count fresh path says.Done m avoids = tt
  replaced_safe count fresh path (says.Failed why) m avoids = avoids
  replaced_safe count fresh path said m avoids = tt
