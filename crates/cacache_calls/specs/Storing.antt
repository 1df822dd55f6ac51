-- Commits: bytes, or a link, become a content; a commit with a key then inserts its entry.
use Rattle.std.specs.Prelude.{ℕ, ◌==◌, List, [], ◌∷◌, Option, None, Some, Bool, is_some, if◌then◌else◌, length, drop}
use Rattle.cacache_core.specs.{declared.{errors.{Fault.{Fault}, IntegrityFault.TheVariants.{Check}, Error.TheVariants.{SizeMismatch, IntegrityError}}, integrity.digest.Hash.{Hash}}, Integrity.{integrity_under}, Texts.{integrity_text}, Matching.{matching}}
use Rattle.cacache_core.specs.declared.errors.Fault.TheVariants as faults
use Rattle.cacache_store.specs.declared.store.plain.PlainTemp.{PlainTemp}
use Rattle.cacache_calls.specs.{declared.{command.Put.{Put}, reply.Reply.TheVariants.{Stored}, carried.Commit.{Commit}}, Steps.{temp_folder, content_path, content_folder, content_folders}, State.{State, doing, creating, writing, syncing, persisting, linking, over, Site, Insertion, make_folder, sync_file}, Common.{ends_with, fails, sync_up}, Inserting.{insert, entry_of, given_or}}

-- ---- once the content is stored: the integrity, then the size, then the entry

-- the entry has the expected integrity, or the computed one if none is expected, and the count of the bytes
abbrev pub insertion_of : Commit → List ℕ → Insertion
insertion_of c key =
    let i = given_or c.computed c.options.integrity in
    record {
      cache = c.cache;
      entry = entry_of key (Some (integrity_text i)) c.count c.moment c.options;
      durable = c.options.durable;
      reply = Stored i;
    }

-- a commit with a key inserts its entry; one without a key is over
abbrev pub indexed : Commit → Option (List ℕ) → State
indexed c None = over (Stored c.computed)
indexed c (Some key) = insert (insertion_of c key)

-- the count must equal the expected size, if there is one
abbrev pub sized : Commit → Option ℕ → State
sized c None = indexed c c.key
sized c (Some wanted) =
    if wanted == c.count then indexed c c.key else ends_with (SizeMismatch wanted c.count)

-- the expected integrity lists the computed hash
abbrev pub matches : List Hash → List Hash → Bool
matches expected computed = is_some (matching expected computed)

-- the computed integrity must match the expected one, if there is one
abbrev pub compared : Commit → Option (List Hash) → State
compared c None = sized c c.options.size
compared c (Some expected) =
    if matches expected c.computed then sized c c.options.size
    else ends_with (IntegrityError (Check expected c.computed))

-- the content is stored
abbrev pub placed : Commit → State
placed c = compared c c.options.integrity

-- a durable commit first syncs the folders on the path to the content
abbrev pub secured : Commit → State
secured c =
    if c.options.durable then sync_up (content_folders c.cache c.computed) (placed c)
    else placed c

-- if it found the content there, it syncs the content before them
abbrev pub secured_found : Commit → State
secured_found c =
    if c.options.durable then doing (sync_file (content_path c.cache c.computed)) (secured c)
    else secured c

-- ---- before the content is stored

-- the content's folder is made first
abbrev pub into_folder : Commit → State → State
into_folder c s = doing (make_folder (content_folder c.cache c.computed)) s

-- a temporary file becomes the content; a durable commit syncs the file first
abbrev pub move_in : Commit → PlainTemp → State
move_in c file = if c.options.durable then syncing c file else persisting c file

-- the same, once the content's folder is made
abbrev pub persist : Commit → PlainTemp → State
persist c file = into_folder c (move_in c file)

-- a link to the target becomes the content
abbrev pub link : Commit → List ℕ → State
link c target = into_folder c (linking c target)

-- the call writes the remaining bytes next, if there are any
abbrev pub write_rest : Commit → PlainTemp → List ℕ → State
write_rest c file [] = persist c file
write_rest c file (b ∷ bs) = writing c file (b ∷ bs)

-- a write that took none of the bytes ends the call
abbrev pub after_write : Commit → List ℕ → PlainTemp × ℕ → State
after_write c rest (file, n) =
    if n == 0 then fails faults.WriteZero else write_rest c file (drop n rest)

-- unless the content is confirmed, the call returns the first fault
abbrev pub after_confirm : Commit → Fault → Bool → State
after_confirm c fault there = if there then secured_found c else fails fault

-- the integrity of a put's bytes is known before its first step
abbrev pub put_commit : List ℕ → Put → Commit
put_commit cache p = record {
  cache = cache;
  key = p.key;
  computed = integrity_under p.options.algorithm p.data;
  count = length p.data;
  moment = p.moment;
  options = p.options;
}

-- a put first makes the folder of temporary files
abbrev pub store : Site → Put → State
store site p =
    doing (make_folder (temp_folder site.cache))
    (creating site.number (put_commit site.cache p) p.data)
