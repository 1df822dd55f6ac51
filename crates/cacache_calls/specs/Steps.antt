-- Steps of a call: their paths as texts, and what they returned as plain data.
use Rattle.std.specs.Prelude.{ℕ, List, [], Option, None, Some, Result, Ok, Err}
use Rattle.cacache_core.specs.{declared.integrity.digest.Hash.{Hash}, Integrity.{address}, Paths.{joined, content_names, bucket_names, temp_names, folder_names, folders_to}}
use Rattle.cacache_store.specs.declared.store.plain.{PlainFile.{PlainFile}, PlainTemp.{PlainTemp}}
use Rattle.cacache_calls.specs.declared.answers.{Refusal.{Refusal}, Written.{Written}, Got.{Got}}

-- the path of a temporary file
unfoldable pub temp_path : List ℕ → ℕ → List ℕ
temp_path cache number = joined cache (temp_names number)

-- the folder of temporary files
unfoldable pub temp_folder : List ℕ → List ℕ
temp_folder cache = joined cache (folder_names (temp_names 0))

-- the path that an address has, and the empty path if there is no address
abbrev pub addressed : {A : Type 0} → (Hash → List A) → Option Hash → List A
addressed given None = []
addressed given (Some h) = given h

-- the path of an integrity's content, from its address
unfoldable pub content_path : List ℕ → List Hash → List ℕ
content_path cache i = addressed (λ h. joined cache (content_names h)) (address i)

-- the folder of an integrity's content
unfoldable pub content_folder : List ℕ → List Hash → List ℕ
content_folder cache i = addressed (λ h. joined cache (folder_names (content_names h))) (address i)

-- the folders on the path to an integrity's content, the cache folder first
unfoldable pub content_folders : List ℕ → List Hash → List (List ℕ)
content_folders cache i = addressed (λ h. folders_to cache (content_names h)) (address i)

-- the path of a key's bucket
unfoldable pub bucket_path : List ℕ → List ℕ → List ℕ
bucket_path cache key = joined cache (bucket_names key)

-- the folder of a key's bucket
unfoldable pub bucket_folder : List ℕ → List ℕ → List ℕ
bucket_folder cache key = joined cache (folder_names (bucket_names key))

-- the folders on the path to a key's bucket, the cache folder first
unfoldable pub bucket_folders : List ℕ → List ℕ → List (List ℕ)
bucket_folders cache key = folders_to cache (bucket_names key)

-- ---- what a step returned, as plain data

-- a result whose value has this plain form
abbrev pub seen_by : {X Y : Type 0} → (X → Y) → Result X Refusal → Result Y Refusal
seen_by f (Ok x) = Ok (f x)
seen_by f (Err refusal) = Err refusal

-- a temporary file after a write, and how many of the bytes it took
abbrev pub written_as : {T : Type 0} → (T → PlainTemp) → Written T → PlainTemp × ℕ
written_as temp w = (temp w.file, w.count)

-- an open file after a read, and the bytes that the read returned
abbrev pub got_as : {F : Type 0} → (F → PlainFile) → Got F → PlainFile × List ℕ
got_as file g = (file g.file, g.bytes)
