-- Reading steps show what the value holds.
use Rattle.std.proofs.{Common.{arith, ◌≡◌, ℕ, true, false, List, [], ◌++◌, Option, None, Some, Ok, Err, refl, ap, subst, length}, lemmas.Grind.{common_steps}}
use Rattle.std.specs.Prelude.{Result}
use Rattle.cacache_core.specs.{declared.{errors.Fault.{Fault, TheVariants.{NotFound, IsADirectory, InvalidInput}}, integrity.digest.Hash.{Hash}}, Paths.{content_names, bucket_names_of, names_of, names_below}}
use Rattle.cacache_store.specs.{declared.store.{step.Step.TheVariants.{ReadAll, Open, Size, Exists}, answer.Answer.TheVariants.{Bytes, File as Opened, There, Length, Failed}}, Plain.{PlainStep, PlainAnswer}}
use Rattle.cacache_disk.specs.{declared.{luck.Luck.{Luck}, node.Node.{Node}}, Tree.{Tree, Names, look, Rooted}, LedTo.{way_fault, place, followed, leads, found, file_at, bytes_there}, Apply.{apply, plain, unless, is_there, fails, fault_told, made_up}}
use Rattle.cacache_disk.proofs.Standing.{way_clear}
use Rattle.cacache_entry.specs.Entry.{Entry}
use Rattle.cacache_value.specs.{Kinds.{Content, Bucket, path_kind, is_used}, Value.{blob_in, bucket_in, wide_value}, Placed.{MayStand, Placed}, Shows.{link_end, blob_bytes, blob_there, ShowsBucket, ShowsContent, ShowsThere}, ValueLaws.{TreesShow}}
use Rattle.cacache_value.proofs.{PathKinds.{kind-below}, Applying.{OnlyMissing, way_missing, suits}}

-- ---- an answer under any luck

failed_is : (a : PlainAnswer) (own : Fault) → fault_told a ≡ Some own → a ≡ Failed own
failed_is a own e = grind (arith, common_steps)

module _ (Q : PlainAnswer → Type 0) (made_up_too : (fault : Fault) → Q (Failed (made_up fault))) where
  fails_answer : (t left : Tree) (a : PlainAnswer) (own : Option Fault) (fault : Fault) → fault_told a ≡ own → Q a → Q (fails own fault t left).0
  fails_answer t left a own fault e h = grind (arith, failed_is)

  pub apply_answer : (t : Tree) (step : PlainStep) (luck : Luck) → ((most : Option ℕ) → Q (plain t step most).0) → Q (apply t step luck).0
  unfolding apply
  apply_answer t step luck h = grind (arith, fails_answer)

-- ---- where a path of the cache leads

-- something is there, or nothing, or a folder on the way is missing too
data Leads (t : Tree) (path : List ℕ) (names : Names) : Type 0 where
  there : (node : Node) → look t names ≡ Some node → place t path ≡ Ok names → Leads t path names
  free : look t names ≡ None → place t path ≡ Ok names → Leads t path names
  missing : look t names ≡ None → place t path ≡ Err NotFound → Leads t path names

missing_at : (t : Tree) (path : List ℕ) (names : Names) (fault : Option Fault) → way_fault t [] names ≡ fault → OnlyMissing fault
    → names_of path ≡ Ok names → look t names ≡ None → Leads t path names
unfolding place
missing_at t path names fault e h is none = grind (arith, common_steps)

leads_at : (home : Option Names) (t : Tree) (path : List ℕ) (names : Names) (here : Option Node) → look t names ≡ here → Placed home t → Rooted t
    → is_used (path_kind home names) ≡ true → names_of path ≡ Ok names → Leads t path names
unfolding place
leads_at home t path names None e placed rooted inside is = missing_at t path names (way_fault t [] names) refl (way_missing home t [] names inside placed) is e
leads_at home t path names (Some node) e placed rooted inside is = there node e (rw (is, way_clear t [] names node rooted e) refl)

module _ (t : Tree) (path : List ℕ) (names : Names) where
  content_read : (home : Option Names) (here : Option Node) → look t names ≡ here → MayStand home here Content → Leads t path names
      → file_at t path IsADirectory ≡ blob_bytes t (blob_in here)
  unfolding file_at leads followed link_end
  content_read home here e s h = grind (arith, common_steps)

  content_there : (home : Option Names) (here : Option Node) → look t names ≡ here → MayStand home here Content → Leads t path names
      → is_there (found t path) ≡ blob_there t (blob_in here)
  unfolding found leads followed link_end
  content_there home here e s h = grind (arith, common_steps)

  bucket_read : (home : Option Names) (here : Option Node) → look t names ≡ here → MayStand home here Bucket → Leads t path names
      → file_at t path IsADirectory ≡ bytes_there IsADirectory here
  unfolding file_at leads followed
  bucket_read home here e s h = grind (arith, common_steps)

-- ---- what the answers show

made_up_bucket : (listed : Option (List Entry)) (fault : Fault) → ShowsBucket listed (Failed (made_up fault))
made_up_bucket listed fault = grind (arith, common_steps)

made_up_content : (held : Result (List ℕ) Fault) (fault : Fault) → ShowsContent held (Failed (made_up fault))
made_up_content held fault = grind (arith, common_steps)

bucket_shown : (home : Option Names) (t : Tree) (here : Option Node) (r : Result (List ℕ) Fault) → MayStand home here Bucket
    → r ≡ bytes_there IsADirectory here → ShowsBucket (bucket_in here) (unless r t (λ bytes. (Bytes bytes, t))).0
bucket_shown home t here r s e = grind (arith, common_steps)

-- what answers a read of a content's bytes
abbrev IsAnswerOf : (List ℕ → PlainAnswer) → Type 0
IsAnswerOf answer = (bytes : List ℕ) → ShowsContent (Ok bytes) (answer bytes)

content_shown : (t : Tree) (answer : List ℕ → PlainAnswer) (r : Result (List ℕ) Fault) → IsAnswerOf answer
    → ShowsContent r (unless r t (λ bytes. (answer bytes, t))).0
content_shown t answer r shows = grind (arith, common_steps)

there_shown : (a : PlainAnswer) → ShowsThere a a
there_shown a = grind (arith, common_steps)

unnamed : (t : Tree) (path : List ℕ) → names_of path ≡ Err InvalidInput → leads t path ≡ Err InvalidInput
unfolding leads place
unnamed t path is = rw is refl

unread : (t : Tree) (path : List ℕ) → names_of path ≡ Err InvalidInput → file_at t path IsADirectory ≡ Err InvalidInput
unfolding file_at
unread t path is = rw (unnamed t path is) refl

unfound : (t : Tree) (path : List ℕ) → names_of path ≡ Err InvalidInput → found t path ≡ Err InvalidInput
unfolding found
unfound t path is = rw (unnamed t path is) refl

module _ (t : Tree) (path : List ℕ) (luck : Luck) where
  shows_bucket : (home : Option Names) (hash : List ℕ) → Placed home t → Rooted t → names_of path ≡ names_below home (bucket_names_of hash)
      → ShowsBucket ((wide_value home t).buckets hash) (apply t (ReadAll path) luck).0
  shows_bucket None hash placed rooted is = apply_answer (ShowsBucket None) (made_up_bucket None) t (ReadAll path) luck (λ most. rw (unread t path is) tt)
  shows_bucket (Some home) hash placed rooted is =
      let names = home ++ bucket_names_of hash in
      let k = kind-below home (bucket_names_of hash) in
      let s = suits (Some home) t (home ++ bucket_names_of hash) Bucket k placed in
      let l = leads_at (Some home) t path (home ++ bucket_names_of hash) (look t (home ++ bucket_names_of hash)) refl placed rooted (ap is_used k) is in
      apply_answer (ShowsBucket (bucket_in (look t (home ++ bucket_names_of hash)))) (made_up_bucket _) t (ReadAll path) luck
      (λ most. bucket_shown (Some home) t (look t (home ++ bucket_names_of hash)) (file_at t path IsADirectory) s (bucket_read t path (home ++ bucket_names_of hash) (Some home) (look t (home ++ bucket_names_of hash)) refl s l))

  module _ (step : PlainStep) (answer : List ℕ → PlainAnswer) (answers : IsAnswerOf answer)
      (is_step : (most : Option ℕ) → plain t step most ≡ unless (file_at t path IsADirectory) t (λ bytes. (answer bytes, t))) where
    read_shown : (content : Result (List ℕ) Fault) → file_at t path IsADirectory ≡ content → ShowsContent content (apply t step luck).0
    read_shown content read =
        apply_answer (ShowsContent content) (made_up_content content) t step luck
        (λ most. rw is_step (subst (λ r. ShowsContent r (unless (file_at t path IsADirectory) t (λ bytes. (answer bytes, t))).0) read (content_shown t answer (file_at t path IsADirectory) answers)))

    shows_content : (home : Option Names) (address : Hash) → Placed home t → Rooted t → names_of path ≡ names_below home (content_names address)
        → ShowsContent (blob_bytes t ((wide_value home t).contents address)) (apply t step luck).0
    shows_content None address placed rooted is =
        apply_answer (ShowsContent (Err NotFound)) (made_up_content (Err NotFound)) t step luck (λ most. rw (is_step, unread t path is) tt)
    shows_content (Some home) address placed rooted is =
        let k = kind-below home (content_names address) in
        let s = suits (Some home) t (home ++ content_names address) Content k placed in
        let l = leads_at (Some home) t path (home ++ content_names address) (look t (home ++ content_names address)) refl placed rooted (ap is_used k) is in
        read_shown (blob_bytes t (blob_in (look t (home ++ content_names address)))) (content_read t path (home ++ content_names address) (Some home) (look t (home ++ content_names address)) refl s l)

  shows_there : (home : Option Names) (address : Hash) → Placed home t → Rooted t → names_of path ≡ names_below home (content_names address)
      → ShowsThere (blob_there t ((wide_value home t).contents address)) (apply t (Exists path) luck).0
  shows_there None address placed rooted is = apply_answer (ShowsThere (There false)) (λ fault. tt) t (Exists path) luck (λ most. rw (unfound t path is) tt)
  shows_there (Some home) address placed rooted is =
      let k = kind-below home (content_names address) in
      let s = suits (Some home) t (home ++ content_names address) Content k placed in
      let l = leads_at (Some home) t path (home ++ content_names address) (look t (home ++ content_names address)) refl placed rooted (ap is_used k) is in
      let read = content_there t path (home ++ content_names address) (Some home) (look t (home ++ content_names address)) refl s l in
      apply_answer (ShowsThere (blob_there t (blob_in (look t (home ++ content_names address))))) (λ fault. tt) t (Exists path) luck
      (λ most. subst (λ r. ShowsThere r (is_there (found t path))) read (there_shown (is_there (found t path))))

pub trees_show : TreesShow
trees_show home t placed rooted = record {
  bucket = λ digest path luck is. shows_bucket t path luck home digest placed rooted is;
  content = λ address path luck is. shows_content t path luck (ReadAll path) Bytes (λ bytes. refl) (λ most. refl) home address placed rooted is;
  opened = λ address path luck is.
      shows_content t path luck (Open path) (λ bytes. Opened (record { left = length bytes; bytes = Some bytes })) (λ bytes. (bytes, refl, refl)) (λ most. refl) home address placed rooted is;
  size = λ address path luck is.
      shows_content t path luck (Size path) (λ bytes. Length (length bytes)) (λ bytes. (bytes, refl, refl)) (λ most. refl) home address placed rooted is;
  there = λ address path luck is. shows_there t path luck home address placed rooted is;
}
