-- Removals of one content or of one key.
use Rattle.std.specs.Prelude.{ℕ, List, Option, None, Some}
use Rattle.cacache_core.specs.declared.integrity.digest.Hash.{Hash}
use Rattle.cacache_entry.specs.Bucket.{Found}
use Rattle.cacache_calls.specs.{declared.reply.Reply.TheVariants.{Done}, Steps.{content_path, bucket_path}, State.{State, doing, over, remove}}

-- the call removes the content of an integrity, and goes on
abbrev pub remove_content : List ℕ → List Hash → State → State
remove_content cache i next = doing (remove (content_path cache i)) next

-- the call removes the bucket of a key, and is over
abbrev pub remove_bucket : List ℕ → List ℕ → State
remove_bucket cache key = doing (remove (bucket_path cache key)) (over Done)

-- the call first removes the content that the key's lookup found, and then the key's bucket
abbrev pub remove_found : List ℕ → List ℕ → Option Found → State
remove_found cache key (Some f) = remove_content cache f.integrity (remove_bucket cache key)
remove_found cache key None = remove_bucket cache key
