-- The kinds of calls that stages make.
use Rattle.std.proofs.Common.{◌≡◌, ◌==◌, ◌&&◌, not, ℕ, min, Bool, true, false, if◌then◌else◌, List, [], ◌∷◌, ◌++◌, length, refl, sym, subst}
use Rattle.std.specs.{Prelude.{Option, None, Some}, Str.{is_utf8}}
use Rattle.std_io.specs.declared.io.kind.ErrorKind.{ErrorKind}
use Rattle.std_io.specs.declared.io.kind.ErrorKind.TheVariants as kind
use Rattle.cacache_store.specs.declared.store.answer.{Kind.{Kind}, Name.{Name}}
use Rattle.cacache_store.specs.declared.store.answer.Kind.TheVariants as kinds
use Rattle.cacache_system.specs.{declared.call.{SystemCall.{SystemCall}, CallResult.{CallResult}, CallItem.{CallItem}}, Seen.{is_passed, names_in, with_slash, text_of, is_proper, NumberedFile}, CallsOf.{Stage, Purpose, Reader, over, only, trying, taking_memory, opening, checking, opening_whole, reading_front, measuring, reading_rest, sizing, standing, making, confirming, opening_folder, following, reading_names, asking_kind, to_give, to_sync, to_sync_folder, wants, after, was_interrupted, interrupts, is_absent, is_no_folder, unless_folder, if_folder, above_of, below, climb, unmade, reader, read_once, more_names, entered, ask_kind, next_name, broken_off, Runs}, AnswersOf.{Hint, is_missing, make_dirs, list, read_piece}}
use Rattle.cacache_system.specs.declared.call.SystemCall.TheVariants as asks
use Rattle.cacache_system.specs.declared.call.CallResult.TheVariants as says
use Rattle.cacache_system_model.specs.CallForms.{changes_nothing, makes_folder, writes_file, Only}

pub same_call : (c d : SystemCall) → Some c ≡ Some d → d ≡ c
same_call c d is = cc

pub no_call : (c : SystemCall) → None ≡ Some c → ⊥
no_call c is = cc

is_kind : (k : SystemCall → Bool) (c d : SystemCall) → Some c ≡ Some d → k c ≡ true → k d ≡ true
is_kind k c d is of = subst (λ (x : SystemCall). k x ≡ true) (sym (same_call c d is)) of

module _ (k : SystemCall → Bool) (S : Stage → Type 0) (asked : (s : Stage) (call : SystemCall) → S s → wants s ≡ Some call → k call ≡ true) (stays : (s : Stage) (said : CallResult) → S s → S (after s said)) where
  only_kind : (calls : List CallItem) (s : Stage) (end : CallResult) → S s → Runs s calls end → Only k calls
  only_kind [] s end h runs = tt
  only_kind (x ∷ calls) s end h (wanted, runs) = (asked s x.call h wanted, only_kind calls (after s x.result) end (stays s x.result h) runs)

module _ (S : Stage → Type 0) where
  by_if : (b : Bool) (s t : Stage) → S s → S t → S (if b then s else t)
  by_if true s t h g = h
  by_if false s t h g = g

  by_folder : (what : Kind) (why : ErrorKind) (s : Stage) → S (over (says.Failed why)) → S s → S (if_folder what why s)
  by_folder kinds.Folder why s h g = g
  by_folder _ why s h g = h

  by_no_folder : (what : Kind) (s : Stage) → S (over (says.Failed kind.IsADirectory)) → S s → S (unless_folder what s)
  by_no_folder kinds.Folder s h g = h
  by_no_folder _ s h g = g

-- ---- folders are made

abbrev InFolders : Stage → Type 0
InFolders (over r) = Unit {0}
InFolders (standing p) = Unit {0}
InFolders (making again p todo) = Unit {0}
InFolders (confirming why p todo) = Unit {0}
InFolders s = ⊥

folder_asked : (s : Stage) (call : SystemCall) → InFolders s → wants s ≡ Some call → makes_folder call ≡ true
folder_asked (over r) call h w = absurd (no_call call w)
folder_asked (standing p) call h w = is_kind makes_folder (asks.Stat p) call w refl
folder_asked (making again p todo) call h w = is_kind makes_folder (asks.MakeFolder p) call w refl
folder_asked (confirming why p todo) call h w = is_kind makes_folder (asks.Stat p) call w refl
folder_asked s call h w = absurd h

folder_below : (todo : List (List ℕ)) → InFolders (below todo)
folder_below [] = tt
folder_below (p ∷ todo) = tt

folder_climbs : (up : Option (List ℕ)) (why : ErrorKind) (p : List ℕ) (todo : List (List ℕ)) → InFolders (climb up why p todo)
folder_climbs None why p todo = tt
folder_climbs (Some above) why p todo = tt

folder_unmade : (again : Bool) (why : ErrorKind) (p : List ℕ) (todo : List (List ℕ)) → InFolders (unmade again why p todo)
folder_unmade true why p todo = tt
folder_unmade false why p todo = folder_climbs (above_of p) why p todo

folder_stays : (s : Stage) (said : CallResult) → InFolders s → InFolders (after s said)
folder_stays (over r) said h = tt
folder_stays (standing p) (says.Info info) h = by_folder InFolders info.kind kind.AlreadyExists (over says.Done) tt tt
folder_stays (standing p) (says.Failed why) h = by_if InFolders (is_absent why) (making false p []) (over (says.Failed why)) tt tt
folder_stays (standing p) said h = tt
folder_stays (making again p todo) says.Done h = folder_below todo
folder_stays (making again p todo) (says.Failed why) h =
    by_if InFolders (is_absent why) (unmade again why p todo) (confirming why p todo) (folder_unmade again why p todo) tt
folder_stays (making again p todo) said h = tt
folder_stays (confirming why p todo) (says.Info info) h = by_folder InFolders info.kind kind.AlreadyExists (below todo) tt (folder_below todo)
folder_stays (confirming why p todo) said h = tt
folder_stays s said h = absurd h

folder_first : (hint : Hint) (p : List ℕ) → InFolders (make_dirs hint p)
folder_first is_missing p = tt
folder_first hint p = tt

pub only_folders : (calls : List CallItem) (hint : Hint) (p : List ℕ) (end : CallResult) → Runs (make_dirs hint p) calls end → Only makes_folder calls
only_folders calls hint p end runs = only_kind makes_folder InFolders folder_asked folder_stays calls (make_dirs hint p) end (folder_first hint p) runs

-- ---- bytes are written

abbrev InWrites : Stage → Type 0
InWrites (over r) = Unit {0}
InWrites (trying again call) = writes_file call ≡ true
InWrites s = ⊥

write_asked : (s : Stage) (call : SystemCall) → InWrites s → wants s ≡ Some call → writes_file call ≡ true
write_asked (over r) call h w = absurd (no_call call w)
write_asked (trying again c) call h w = is_kind writes_file c call w h
write_asked s call h w = absurd h

write_stays : (s : Stage) (said : CallResult) → InWrites s → InWrites (after s said)
write_stays (over r) said h = tt
write_stays (trying again c) said h = by_if InWrites (was_interrupted said) (trying true c) (over said) h tt
write_stays s said h = absurd h

pub only_writes : (calls : List CallItem) (number : ℕ) (bytes : List ℕ) (end : CallResult) → Runs (trying false (asks.Write number bytes)) calls end → Only writes_file calls
only_writes calls number bytes end runs = only_kind writes_file InWrites write_asked write_stays calls (trying false (asks.Write number bytes)) end refl runs

-- ---- nothing changes

abbrev pub ToRead : Purpose → Type 0
ToRead to_give = Unit {0}
ToRead purpose = ⊥

abbrev pub Looking : Stage → Type 0
Looking (over r) = Unit {0}
Looking (only call) = changes_nothing call ≡ true
Looking (trying again call) = changes_nothing call ≡ true
Looking (taking_memory s) = Looking s
Looking (opening purpose p) = ToRead purpose
Looking (checking purpose f) = ToRead purpose
Looking (opening_whole p) = Unit {0}
Looking (reading_front again size f) = Unit {0}
Looking (measuring front f) = Unit {0}
Looking (reading_rest front f) = Unit {0}
Looking (sizing p) = Unit {0}
Looking (opening_folder p) = Unit {0}
Looking (following p) = Unit {0}
Looking (reading_names again r found) = Unit {0}
Looking (asking_kind r name names found) = Unit {0}
Looking s = ⊥

look_asked : (s : Stage) (call : SystemCall) → Looking s → wants s ≡ Some call → changes_nothing call ≡ true
look_asked (over r) call h w = absurd (no_call call w)
look_asked (only c) call h w = is_kind changes_nothing c call w h
look_asked (trying again c) call h w = is_kind changes_nothing c call w h
look_asked (taking_memory s) call h w = look_asked s call h w
look_asked (opening purpose p) call h w = is_kind changes_nothing (asks.OpenToRead p) call w refl
look_asked (checking purpose f) call h w = is_kind changes_nothing (asks.StatFile f) call w refl
look_asked (opening_whole p) call h w = is_kind changes_nothing (asks.OpenToRead p) call w refl
look_asked (measuring front f) call h w = is_kind changes_nothing (asks.StatFile f) call w refl
look_asked (reading_front again size f) call h w = is_kind changes_nothing (asks.Read f size) call w refl
look_asked (reading_rest front f) call h w = is_kind changes_nothing (asks.ReadRest f) call w refl
look_asked (sizing p) call h w = is_kind changes_nothing (asks.Stat p) call w refl
look_asked (opening_folder p) call h w = is_kind changes_nothing (asks.OpenFolder p) call w refl
look_asked (following p) call h w = is_kind changes_nothing (asks.OpenFolder (with_slash p)) call w refl
look_asked (reading_names again r found) call h w = is_kind changes_nothing (asks.ReadNames r.number 4096) call w refl
look_asked (asking_kind r name names found) call h w = is_kind changes_nothing (asks.StatLink (r.folder ++ name)) call w refl
look_asked s call h w = absurd h

look_more : (r : Reader) (found : List Name) → Looking (more_names r found)
look_more r found = by_if Looking (r.left == 0) (over (says.Failed kind.FileTooLarge)) (reading_names false r found) tt tt

look_entered : (name : List ℕ) (what : Kind) (go : Name → Stage) → ((entry : Name) → Looking (go entry)) → Looking (entered name what go)
look_entered name what go h =
    by_if Looking (is_proper (text_of name)) (go (record { name = text_of name; kind = what })) (over (says.Failed kind.InvalidFilename)) (h (record { name = text_of name; kind = what })) tt

look_next : (r : Reader) (names : List (List ℕ)) (found : List Name) → Looking (next_name r names found)
look_next r [] found = look_more r found
look_next r (name ∷ names) found =
    by_if Looking (is_passed name) (next_name r names found) (taking_memory (ask_kind r name names found (λ entry. next_name r names (found ++ entry ∷ [])))) (look_next r names found)
    (by_if Looking (is_utf8 (r.folder ++ name)) (asking_kind r name names found) (entered name kinds.File (λ entry. next_name r names (found ++ entry ∷ []))) tt
    (look_entered name kinds.File (λ entry. next_name r names (found ++ entry ∷ [])) (λ entry. look_next r names (found ++ entry ∷ []))))

look_stays : (s : Stage) (said : CallResult) → Looking s → Looking (after s said)
look_stays (over r) said h = tt
look_stays (only c) said h = tt
look_stays (trying again c) said h = by_if Looking (was_interrupted said) (trying true c) (over said) h tt
look_stays (taking_memory s) said h = look_stays s said h
look_stays (opening purpose p) (says.Opened f) h = h
look_stays (opening purpose p) said h = tt
look_stays (checking to_sync f) said h = absurd h
look_stays (checking to_sync_folder f) said h = absurd h
look_stays (checking to_give f) (says.Info info) h = by_no_folder Looking info.kind (over (says.Opened f)) tt tt
look_stays (checking purpose f) said h = tt
look_stays (opening_whole p) (says.Opened f) h = tt
look_stays (opening_whole p) said h = tt
look_stays (measuring front f) (says.Info info) h = tt
look_stays (measuring front f) said h = tt
look_stays (reading_front again size f) (says.Bytes front) h = by_if Looking (length front == size) (measuring front f) (taking_memory (reading_rest front f)) tt tt
look_stays (reading_front again size f) (says.Failed why) h = by_if Looking (interrupts why) (reading_front true size f) (over (says.Failed why)) tt tt
look_stays (reading_front again size f) said h = tt
look_stays (reading_rest front f) (says.Bytes rest) h = tt
look_stays (reading_rest front f) said h = tt
look_stays (sizing p) (says.Info info) h = by_no_folder Looking info.kind (over (says.Info info)) tt tt
look_stays (sizing p) said h = tt
look_stays (opening_folder p) (says.Opened f) h = look_more (reader f p) []
look_stays (opening_folder p) (says.Failed why) h =
    by_if Looking (is_no_folder why) (following p) (over (says.Failed why)) tt tt
look_stays (opening_folder p) said h = tt
look_stays (following p) (says.Opened f) h = look_more (reader f p) []
look_stays (following p) said h = tt
look_stays (reading_names again r found) (says.Bytes bytes) h =
    by_if Looking (length bytes == 0) (taking_memory (over (says.Names found))) (next_name (read_once r) (names_in bytes) found) tt (look_next (read_once r) (names_in bytes) found)
look_stays (reading_names again r found) (says.Failed why) h = by_if Looking (interrupts why) (reading_names true r found) (over (says.Failed (broken_off why))) tt tt
look_stays (reading_names again r found) said h = tt
look_stays (asking_kind r name names found) (says.Info info) h =
    look_entered name info.kind (λ entry. next_name r names (found ++ entry ∷ [])) (λ entry. look_next r names (found ++ entry ∷ []))
look_stays (asking_kind r name names found) (says.Failed why) h = by_if Looking (is_absent why) (next_name r names found) (over (says.Failed why)) (look_next r names found) tt
look_stays (asking_kind r name names found) said h = tt
look_stays s said h = absurd h

pub only_looks : (calls : List CallItem) (s : Stage) (end : CallResult) → Looking s → Runs s calls end → Only changes_nothing calls
only_looks calls s end h runs = only_kind changes_nothing Looking look_asked look_stays calls s end h runs

pub piece_looks : (f : NumberedFile) (size : ℕ) → Looking (read_piece f size)
piece_looks f size = by_if Looking (f.left == 0 && not (size == 0)) (over (says.Failed kind.FileTooLarge)) (taking_memory (trying false (asks.Read f.number (min size f.left)))) tt refl

pub list_looks : (p : List ℕ) → Looking (list p)
list_looks p = by_if Looking (length p == 0) (over (says.Failed kind.NotFound)) (taking_memory (opening_folder p)) tt tt
