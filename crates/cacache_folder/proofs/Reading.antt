-- Reads of open files by their handles, files that are read whole, and pieces of open files.
use Rattle.std.proofs.{Common.{◌≡◌, ◌==◌, ◌&&◌, not, ℕ, Bool, true, false, if◌then◌else◌, min, sym, ap, subst, ◌∙◌, ◌≢◌, ◌⊎◌, ◌≤◌, List, ◌++◌, take, drop, length, refl, inl, inr, arith, take-append-drop, ◌+◌, ◌-◌, length-take-le, eq-eqb}, lemmas.{Bool.Decides.{eqb_tells}, List.{take-append-le, take-take}}}
use Rattle.std.specs.Io.{StartsWith, appended_bytes}
use Rattle.std_io.specs.declared.io.kind.ErrorKind.{ErrorKind, TheVariants.{FileTooLarge}}
use Rattle.cacache_system.specs.{declared.call.{SystemCall.TheVariants.{Read, ReadRest}, CallResult.{CallResult, TheVariants.{Failed, Bytes}}}, CallsOf.{Stage, over, trying, Ends, RunLogged, taking_memory, reading_front, front_known, measuring, reading_rest, interrupts, after}, Seen.{NumberedFile, MakesCall}, AnswersOf.{read_piece}}
use Rattle.cacache_folder.specs.{HandleRuns.{reading}, Goings.{Insists}, Listings.{Log}}
use Rattle.cacache_folder.proofs.CallRuns.{run_none, run_as, insists_run, run_call, run_took, run_refused, calls_end, calls_run, insists_front, interrupted_only}
use Rattle.std_io.specs.declared.io.kind.ErrorKind.TheVariants as kind

abbrev reading_if : Bool → NumberedFile → ℕ → Stage
reading_if b file room = if b then over (Failed FileTooLarge) else trying false (Read file.number (min room file.left))

-- a file that gives no more is asked for nothing
pub reading_over : (file : NumberedFile) (room : ℕ) (b : Bool) (why : ErrorKind) (log : Log) → b ≡ (file.left == 0 && not (room == 0)) → b ≡ true → why ≡ FileTooLarge
    → RunLogged (reading file room) (Failed why) log log
reading_over file room b why log is said so =
    run_none (reading file room) (Failed why) log
    (subst (λ (x : Bool). Ends (reading_if x file room) (Failed why)) (sym said ∙ is) (ap Failed (sym so)))

-- another one is asked for as many bytes as there is room for, but no more than are left
pub reading_run : (file : NumberedFile) (room size : ℕ) (b : Bool) (end : CallResult) (old new : Log) → b ≡ (file.left == 0 && not (room == 0)) → b ≡ false
    → size ≡ min room file.left → Insists (Read file.number size) end old new → RunLogged (reading file room) end old new
reading_run file room size b end old new is said sized insists =
    subst (λ (x : Bool). RunLogged (reading_if x file room) end old new) (sym said ∙ is)
    (run_as (trying false (Read file.number size)) (trying false (Read file.number (min room file.left))) end old new
    (insists_run (Read file.number size) end old new insists) (ap (λ (n : ℕ). trying false (Read file.number n)) sized))

-- ---- files that are read whole, and pieces of open files

whole_is : (front whole : List ℕ) → StartsWith whole front → whole ≡ front ++ appended_bytes front whole
whole_is front whole starts = sym (take-append-drop (length front) whole) ∙ ap (λ (xs : List ℕ). xs ++ drop (length front) whole) starts

-- all that was left is read, and memory is found for its owner
pub rest_run : (front whole bytes : List ℕ) (file : ℕ) (old new : Log) → MakesCall old new (ReadRest file) (Bytes (appended_bytes front whole))
    → StartsWith whole front → bytes ≡ whole → RunLogged (reading_rest front file) (Bytes bytes) old new
rest_run front whole bytes file old new makes starts is =
    run_call (reading_rest front file) (ReadRest file) (Bytes (appended_bytes front whole)) (Bytes bytes) old new new makes refl
    (run_none (taking_memory (over (Bytes (front ++ appended_bytes front whole)))) (Bytes bytes) new (inr (ap Bytes (sym (is ∙ whole_is front whole starts)))))

-- or none is
pub rest_refused : (front whole : List ℕ) (file : ℕ) (why : ErrorKind) (old new : Log) → MakesCall old new (ReadRest file) (Bytes (appended_bytes front whole))
    → why ≡ kind.OutOfMemory → RunLogged (reading_rest front file) (Failed why) old new
rest_refused front whole file why old new makes is =
    run_call (reading_rest front file) (ReadRest file) (Bytes (appended_bytes front whole)) (Failed why) old new new makes refl
    (run_none (taking_memory (over (Bytes (front ++ appended_bytes front whole)))) (Failed why) new (inl (ap Failed is)))

-- a first read, and then the rest
pub front_run : (file same : ℕ) (given front : List ℕ) (end : CallResult) (old mid new : Log) → Insists (Read file 2048) (Bytes given) old mid → same ≡ file → front ≡ given
    → RunLogged (front_known 2048 front same) end mid new → RunLogged (reading_front false 2048 file) end old new
front_run file same given front end old mid new insists is gives run =
    calls_run (reading_front false 2048 file) (front_known 2048 given file) end old mid new (insists_front file 2048 (Bytes given) old mid insists)
    (run_as (front_known 2048 front same) (front_known 2048 given file) end mid new run (ap (front_known 2048 front) is ∙ ap (λ (xs : List ℕ). front_known 2048 xs file) gives))

front_ends : (file size : ℕ) (why : ErrorKind) (b : Bool) → interrupts why ≡ b → Ends (if b then reading_front true size file else over (Failed why)) (Failed why)
front_ends file size why true is = ap Failed (interrupted_only why is)
front_ends file size why false is = refl

-- a first read that fails
pub front_fails : (file size : ℕ) (why : ErrorKind) (old new : Log) → Insists (Read file size) (Failed why) old new
    → RunLogged (reading_front false size file) (Failed why) old new
front_fails file size why old new insists =
    calls_end (reading_front false size file) (after (reading_front true size file) (Failed why)) (Failed why) old new
    (insists_front file size (Failed why) old new insists) (front_ends file size why (interrupts why) refl)

front_if : (b : Bool) (front : List ℕ) (file : ℕ) (end : CallResult) (old new : Log) → length front == 2048 ≡ b
    → RunLogged (if b then measuring front file else taking_memory (reading_rest front file)) end old new → RunLogged (front_known 2048 front file) end old new
front_if b front file end old new is run =
    subst (λ (x : Bool). RunLogged (if x then measuring front file else taking_memory (reading_rest front file)) end old new) (sym is) run

-- a front that came back full
pub front_full : (front : List ℕ) (file : ℕ) (end : CallResult) (old new : Log) → length front ≡ 2048
    → RunLogged (measuring front file) end old new → RunLogged (front_known 2048 front file) end old new
front_full front file end old new is run = front_if true front file end old new (eq-eqb (length front) 2048 is) run

unequal : (n most : ℕ) → n ≢ most → (((n == most) ≡ true) × (n ≡ most)) ⊎ (((n == most) ≡ false) × (n ≢ most)) → (n == most) ≡ false
unequal n most differ (inl same) = absurd (differ same.1)
unequal n most differ (inr is) = is.0

-- one that didn't
pub front_short : (front : List ℕ) (file : ℕ) (end : CallResult) (old new : Log) → length front ≢ 2048
    → RunLogged (taking_memory (reading_rest front file)) end old new → RunLogged (front_known 2048 front file) end old new
front_short front file end old new some run = front_if false front file end old new (unequal (length front) 2048 some (eqb_tells (length front) 2048)) run

-- memory is refused before
pub took_refused : (s : Stage) (why : ErrorKind) (log : Log) → why ≡ kind.OutOfMemory → RunLogged (taking_memory s) (Failed why) log log
took_refused s why log is = subst (λ (k : ErrorKind). RunLogged (taking_memory s) (Failed k) log log) (sym is) (run_refused s log)

-- a read for which memory was found
pub took_insists : (file size : ℕ) (end : CallResult) (old new : Log) → Insists (Read file size) end old new → RunLogged (taking_memory (trying false (Read file size))) end old new
took_insists file size end old new insists = run_took (trying false (Read file size)) end old new (insists_run (Read file size) end old new insists)

-- whether a file gave all that it may
abbrev pub gives_over : ℕ → ℕ → Bool
gives_over left size = left == 0 && not (size == 0)

abbrev piece_if : Bool → NumberedFile → ℕ → Stage
piece_if b file size = if b then over (Failed kind.FileTooLarge) else taking_memory (trying false (Read file.number (min size file.left)))

-- a file that gives no more
pub piece_over : (file : NumberedFile) (size : ℕ) (b : Bool) (why : ErrorKind) (log : Log) → b ≡ (file.left == 0 && not (size == 0)) → b ≡ true → why ≡ kind.FileTooLarge
    → RunLogged (read_piece file size) (Failed why) log log
piece_over file size b why log is said so =
    run_none (read_piece file size) (Failed why) log
    (subst (λ (x : Bool). Ends (piece_if x file size) (Failed why)) (sym said ∙ is) (ap Failed (sym so)))

-- one that does
pub piece_run : (file : NumberedFile) (size : ℕ) (b : Bool) (end : CallResult) (old new : Log) → b ≡ (file.left == 0 && not (size == 0)) → b ≡ false
    → RunLogged (taking_memory (trying false (Read file.number (min size file.left)))) end old new → RunLogged (read_piece file size) end old new
piece_run file size b end old new is said run =
    subst (λ (x : Bool). RunLogged (piece_if x file size) end old new) (sym said ∙ is) run

-- what was read is in front
pub cut_front : (count len : ℕ) (front rest : List ℕ) → count ≤ length front → count ≤ len → take count front ≡ take count (take len (front ++ rest))
cut_front count len front rest fits within =
    sym (take-take count len (front ++ rest) within ∙ take-append-le count front rest fits)

-- a read, with its size and its bytes given in another form
pub insists_as : (file size same : ℕ) (given bytes : List ℕ) (old new : Log) → Insists (Read file size) (Bytes given) old new → size ≡ same → given ≡ bytes
    → Insists (Read file same) (Bytes bytes) old new
insists_as file size same given bytes old new insists sized is =
    subst (λ (n : ℕ). Insists (Read file n) (Bytes bytes) old new) sized
    (subst (λ (b : List ℕ). Insists (Read file size) (Bytes b) old new) is insists)

-- a failed one by its error
pub insists_fails : (file size same : ℕ) (why : ErrorKind) (old new : Log) → Insists (Read file size) (Failed why) old new → size ≡ same
    → Insists (Read file same) (Failed why) old new
insists_fails file size same why old new insists sized = subst (λ (n : ℕ). Insists (Read file n) (Failed why) old new) sized insists

-- a read of at most as many bytes as there is room for
pub took_read : (file size : ℕ) (given bytes : List ℕ) (old new : Log) → Insists (Read file size) (Bytes given) old new → bytes ≡ given
    → RunLogged (taking_memory (trying false (Read file size))) (Bytes bytes) old new
took_read file size given bytes old new insists is =
    took_insists file size (Bytes bytes) old new (insists_as file size size given bytes old new insists refl (sym is))

-- what is left of a file after so many bytes were read
pub taken_left : (left count : ℕ) (bytes items : List ℕ) → bytes ≡ take count items → count ≤ length items → count ≤ left → (left - count) + length bytes ≡ left
taken_left left count bytes items is fits within =
    let size : length bytes ≡ count = ap (λ (xs : List ℕ). length xs) is ∙ length-take-le count items fits in
    omega (arith, size, within)
