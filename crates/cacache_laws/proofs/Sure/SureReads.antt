-- Lookups, reads, questions and removals in which all steps succeed.
-- A file is opened and read to its end, if no step fails without cause.
use Rattle.std.proofs.{lemmas.{Grind.{common_steps}, Bool.{eq-eqb, cond-true}, List.{length-take, nil_from_length}}, Common.{rules, ◌≡◌, ◌⊎◌, inl, inr, ℕ, Bool, true, false, cond, List, [], ◌∷◌, ◌++◌, Option, None, Some, Result, Ok, Err, refl, sym, ap, subst, ◌∙◌, ◌==◌, ◌<◌, zero, suc, length, take, drop, arith, append_assoc, append-nil, take-append-drop, length-drop}}
use Rattle.cacache_core.specs.{declared.{errors.{Error.TheVariants.{IoError, IntegrityError}, Fault.{Fault}, IntegrityFault.TheVariants.{Check}}, integrity.digest.Hash.{Hash}}, Integrity.{IsHash, actual}, Matching.{meets}, Paths.{Names, home_of, bucket_names, content_names}}
use Rattle.cacache_store.specs.Plain.{PlainAnswer}
use Rattle.cacache_disk.specs.{declared.{luck.Luck.TheVariants.{Plain}, node.Node.{Node, TheVariants.{Folder, File, Link}}}, Tree.{Tree, look, cut}, LedTo.{leads, followed, file_at, found, removable}, Apply.{apply, is_there, opened, rest_of, unless}}
use Rattle.cacache_entry.specs.Bucket.{latest}
use Rattle.cacache_calls.specs.{declared.{carried.Lookup.{Lookup}, reply.Reply.{Reply, TheVariants.{Read, Exists, Refused}}}, Common.{ends_with}, Reading.{found_for, found_in}, State.{State, doing, looking, reading, asking, over, remove, Hashing, hashing}, Steps.{bucket_path, content_path}, Replies.{content_reply}, Linking.{after_read, hashed}, Table.{piece}}
use Rattle.cacache_value.specs.{Kinds.{Content, Bucket, is_used}, Placed.{MayStand}, Shows.{link_end, blob_bytes, blob_there}, Acts.{list_of}, Value.{Blob, InFile, AtLink, blob_in, bucket_in, value_of_tree}}
use Rattle.cacache_value.proofs.Applying.{suits}
use Rattle.cacache_history.specs.Turns.{as_refusal}
use Rattle.cacache_laws.specs.{ExportAnswers.{blob_read}, ReadAnswers.{entries_on, read_on}, Succeeds.{is_yes}}
use Rattle.cacache_laws.proofs.{Sure.{SureInserts.{bucket_lies}, SureTemps.{content_lies}, SureRuns.{EndsSo, ends, goes, Ground, Lies, Reached, arrives, missing, goes_to, reached}}, trees.Twins.Agreeing.{said}, Calls.InParts.{file_of}}
use Rattle.cacache_core.specs.declared.errors.Fault.TheVariants as faults
use Rattle.cacache_store.specs.declared.store.step.Step.TheVariants as steps
use Rattle.cacache_store.specs.declared.store.answer.Answer.TheVariants as answers

-- ---- what a bucket's file answers

-- the answer to a read of what is there
abbrev file_told : Option Node → PlainAnswer
file_told None = answers.Failed faults.NotFound
file_told (Some Folder) = answers.Failed faults.IsADirectory
file_told (Some (File bytes)) = answers.Bytes bytes
file_told (Some (Link target)) = answers.Failed faults.TooDeep

bucket_read : (home : Names) (t : Tree) (p : List ℕ) (names : Names) (here : Option Node) → look t names ≡ here → MayStand (Some home) here Bucket → Reached t p names
    → apply t (steps.ReadAll p) Plain ≡ (file_told here, t)
unfolding apply file_at leads followed
bucket_read home t p names here e s h = grind (arith, missing, arrives)

-- ---- what a content's path answers

pub told_all : (t : Tree) (p : List ℕ) (r : Result (List ℕ) Fault) → file_at t p faults.IsADirectory ≡ r → apply t (steps.ReadAll p) Plain ≡ (said r, t)
unfolding apply
told_all t p r e = grind (arith, common_steps)

-- the bytes of a content, if a folder at a link's end gives `IsADirectory`
pub as_bytes : (t : Tree) (blob : Option Blob) → blob_read faults.IsADirectory t blob ≡ blob_bytes t blob
as_bytes t blob = grind (arith, common_steps)

module _ (home : Names) (t : Tree) (p : List ℕ) (names : Names) where
  pub read_as : (folder : Fault) (here : Option Node) → look t names ≡ here → MayStand (Some home) here Content → Reached t p names → file_at t p folder ≡ blob_read folder t (blob_in here)
  unfolding file_at leads followed link_end
  read_as folder here e s h = grind (arith, missing, arrives)

  pub content_there : (here : Option Node) → look t names ≡ here → MayStand (Some home) here Content → Reached t p names → is_there (found t p) ≡ blob_there t (blob_in here)
  unfolding found leads followed link_end
  content_there here e s h = grind (arith, missing, arrives)

  -- what is there can be removed, and nothing else
  removed : (here : Option Node) → look t names ≡ here → MayStand (Some home) here Content → Reached t p names
      → ((here ≡ None) × (apply t (steps.RemoveFile p) Plain ≡ (answers.Failed faults.NotFound, t))) ⊎ ((node : Node) × (here ≡ Some node) × (apply t (steps.RemoveFile p) Plain ≡ (answers.Done, cut t names)))
  unfolding apply removable
  removed here e s h = grind (arith, arrives, missing)

pub asks : (t : Tree) (p : List ℕ) (a : PlainAnswer) → is_there (found t p) ≡ a → apply t (steps.Exists p) Plain ≡ (a, t)
unfolding apply
asks t p a e = ap (λ x. (x, t)) e

-- what answers a question
abbrev pub IsAsked : PlainAnswer → Type 0
IsAsked (answers.There there) = Unit {0}
IsAsked (answers.Failed fault) = Unit {0}
IsAsked other = ⊥

pub is_asked : (r : Result Names Fault) → IsAsked (is_there r)
is_asked r = grind (arith, common_steps)

-- what is at a content's path is a content
is_blob : (home : Names) (here : Option Node) → MayStand (Some home) here Content → (node : Node) → here ≡ Some node → (blob : Blob) × (blob_in here ≡ Some blob)
is_blob home None s node e = absurd cc
is_blob home (Some Folder) s node e = absurd s
is_blob home (Some (File bytes)) s node e = (InFile bytes, refl)
is_blob home (Some (Link target)) s node e = (AtLink target, refl)

-- ---- lookups

module _ (Q : Tree → Reply → Type 0) (home : Names) (t : Tree) (g : Ground home t) (l : Lookup) (is : home_of l.cache ≡ Some home) where
  by_bucket : (here : Option Node) → look t (home ++ bucket_names l.key) ≡ here → EndsSo Q t (found_for l l.aim (latest l.key (entries_on (Some home) t l.key))) → MayStand (Some home) here Bucket
      → apply t (steps.ReadAll (bucket_path l.cache l.key)) Plain ≡ (file_told here, t) → EndsSo Q t (looking l)
  unfolding found_in
  by_bucket None e next s read =
      let none : latest l.key (entries_on (Some home) t l.key) ≡ None = ap (λ n. latest l.key (list_of (bucket_in n))) e in
      goes Q t t (looking l) (steps.ReadAll (bucket_path l.cache l.key)) (answers.Failed faults.NotFound) refl read
      (subst (λ f. EndsSo Q t (found_for l l.aim f)) none next)
  by_bucket (Some (File bytes)) e next s read =
      let some : latest l.key (entries_on (Some home) t l.key) ≡ found_in l.key bytes = ap (λ n. latest l.key (list_of (bucket_in n))) e in
      goes Q t t (looking l) (steps.ReadAll (bucket_path l.cache l.key)) (answers.Bytes bytes) refl read
      (subst (λ f. EndsSo Q t (found_for l l.aim f)) some next)
  by_bucket here e next s read = absurd s

  -- a lookup goes on with what the key leads to
  pub looks_so : EndsSo Q t (found_for l l.aim (latest l.key (entries_on (Some home) t l.key))) → EndsSo Q t (looking l)
  looks_so next =
      let lies = bucket_lies l.cache home is l.key in
      let names = home ++ bucket_names l.key in
      let s = suits (Some home) t (home ++ bucket_names l.key) Bucket lies.kind g.placed in
      let r = reached home t (bucket_path l.cache l.key) (home ++ bucket_names l.key) g lies.named (ap is_used lies.kind) (look t names) refl in
      by_bucket (look t names) refl next s (bucket_read home t (bucket_path l.cache l.key) names (look t names) refl s r)

-- ---- contents

module _ (home : Names) (t : Tree) (g : Ground home t) (cache : List ℕ) (is : home_of cache ≡ Some home) (h : Hash) (hs : List Hash) (hash : IsHash h) where
  abbrev pub content_at : Names
  content_at = home ++ content_names h

  -- what lies there
  abbrev pub held : Option Blob
  held = (value_of_tree (Some home) t).contents h

  lies : Lies home (content_path cache (h ∷ hs)) (content_names h) Content
  lies = content_lies cache home is h hs hash

  pub suited : MayStand (Some home) (look t content_at) Content
  suited = suits (Some home) t content_at Content lies.kind g.placed

  pub led_there : Reached t (content_path cache (h ∷ hs)) content_at
  led_there = reached home t (content_path cache (h ∷ hs)) content_at g lies.named (ap is_used lies.kind) (look t content_at) refl

  -- the bytes that are read there, if a folder gives this fault
  pub read_at : (folder : Fault) → file_at t (content_path cache (h ∷ hs)) folder ≡ blob_read folder t held
  read_at folder = read_as home t (content_path cache (h ∷ hs)) content_at folder (look t content_at) refl suited led_there

  pub bytes_at : file_at t (content_path cache (h ∷ hs)) faults.IsADirectory ≡ blob_bytes t held
  bytes_at = read_at faults.IsADirectory ∙ as_bytes t held

module _ (Q : Tree → Reply → Type 0) (home : Names) (t : Tree) (g : Ground home t) (cache : List ℕ) (is : home_of cache ≡ Some home) (h : Hash) (hs : List Hash) (hash : IsHash h) where
  abbrev names : Names
  names = home ++ content_names h

  by_bytes : (r : Result (List ℕ) Fault) → blob_bytes t ((value_of_tree (Some home) t).contents h) ≡ r → Q t (content_reply (h ∷ hs) (as_refusal r))
      → apply t (steps.ReadAll (content_path cache (h ∷ hs))) Plain ≡ (said r, t) → EndsSo Q t (reading (record { cache = cache; integrity = h ∷ hs }))
  by_bytes (Ok bytes) e q read =
      goes Q t t (reading (record { cache = cache; integrity = h ∷ hs })) (steps.ReadAll (content_path cache (h ∷ hs))) (answers.Bytes bytes) refl read
      (by_meeting (meets (h ∷ hs) bytes) q)
    where
      by_meeting : (b : Bool) → Q t (cond b (Read bytes) (Refused (IntegrityError (Check (h ∷ hs) (actual (h ∷ hs) bytes)))))
          → EndsSo Q t (cond b (over (Read bytes)) (ends_with (IntegrityError (Check (h ∷ hs) (actual (h ∷ hs) bytes)))))
      by_meeting true q = ends Q t (Read bytes) q
      by_meeting false q = ends Q t (Refused (IntegrityError (Check (h ∷ hs) (actual (h ∷ hs) bytes)))) q
  by_bytes (Err fault) e q read = search (rules, goes, ends)

  -- a read answers what lies there
  pub reads_so : Q t (read_on (Some home) t (h ∷ hs)) → EndsSo Q t (reading (record { cache = cache; integrity = h ∷ hs }))
  reads_so q =
      let r = blob_bytes t ((value_of_tree (Some home) t).contents h) in
      by_bytes r refl q (told_all t (content_path cache (h ∷ hs)) r (bytes_at home t g cache is h hs hash))

  by_there : (a : PlainAnswer) → Q t (Exists (is_yes a)) → apply t (steps.Exists (content_path cache (h ∷ hs))) Plain ≡ (a, t) → IsAsked a
      → EndsSo Q t (asking (record { cache = cache; integrity = h ∷ hs }))
  by_there (answers.There there) q read asked = search (rules, goes, ends)
  by_there (answers.Failed fault) q read asked = search (rules, goes, ends)
  by_there other q read asked = absurd asked

  -- a question answers whether something does
  pub asks_so : Q t (Exists (is_yes (blob_there t ((value_of_tree (Some home) t).contents h)))) → EndsSo Q t (asking (record { cache = cache; integrity = h ∷ hs }))
  asks_so q =
      let a = blob_there t ((value_of_tree (Some home) t).contents h) in
      let same = content_there home t (content_path cache (h ∷ hs)) names (look t names) refl (suited home t g cache is h hs hash) (led_there home t g cache is h hs hash) in
      by_there a q (asks t (content_path cache (h ∷ hs)) a same) (subst IsAsked same (is_asked (found t (content_path cache (h ∷ hs)))))

  -- a removal is done if something is there
  pub removes_so : (next : State) → ((blob : Blob) → held home t g cache is h hs hash ≡ Some blob → Ground home (cut t names) → EndsSo Q (cut t names) next) → (held home t g cache is h hs hash ≡ None → Q t (Refused (IoError faults.NotFound [])))
      → EndsSo Q t (doing (remove (content_path cache (h ∷ hs))) next)
  removes_so next there none =
      let path = content_path cache (h ∷ hs) in
      elim (removed home t (content_path cache (h ∷ hs)) names (look t names) refl (suited home t g cache is h hs hash) (led_there home t g cache is h hs hash)) [
        | inl n ↦
            goes Q t t (doing (remove path) next) (steps.RemoveFile path) (answers.Failed faults.NotFound) refl n.1
            (ends Q t (Refused (IoError faults.NotFound [])) (none (ap blob_in n.0)))
        | inr s ↦
            let some = is_blob home (look t names) (suited home t g cache is h hs hash) s.0 s.1 in
            goes Q t (cut t names) (doing (remove path) next) (steps.RemoveFile path) answers.Done refl s.2 (there some.0 some.1 (goes_to home t (cut t names) (steps.RemoveFile path) answers.Done g tt s.2))
      ]

-- ---- by its path

pub opens_as : (t : Tree) (p : List ℕ) (r : Result (List ℕ) Fault) → file_at t p faults.IsADirectory ≡ r → apply t (steps.Open p) Plain ≡ unless r t (λ bytes. (answers.File (opened bytes), t))
unfolding apply
opens_as t p r e = ap (λ x. unless x t (λ bytes. (answers.File (opened bytes), t))) e

pub sizes_as : (t : Tree) (p : List ℕ) (r : Result (List ℕ) Fault) → file_at t p faults.IsADirectory ≡ r → apply t (steps.Size p) Plain ≡ unless r t (λ bytes. (answers.Length (length bytes), t))
unfolding apply
sizes_as t p r e = ap (λ x. unless x t (λ bytes. (answers.Length (length bytes), t))) e

-- ---- a read of a piece

rest_opened : (rest : List ℕ) (size : ℕ) → rest_of rest size ≡ opened (drop size rest)
rest_opened rest size = ap (λ n. file_of n (drop size rest)) (omega (arith, length-drop size rest))

pub reads : (t : Tree) (rest : List ℕ) → apply t (steps.Read (opened rest) piece) Plain ≡ (answers.Got (opened (drop piece rest)) (take piece rest), t)
unfolding apply
reads t rest =
    ap (λ a. (a, t)) (cond-true (length rest == length rest) (answers.Got (rest_of rest piece) (take piece rest)) (answers.Failed faults.Closed) (eq-eqb (length rest) (length rest) refl) ∙ ap (λ f. answers.Got f (take piece rest)) (rest_opened rest piece))

-- ---- all of them

module _ (Q : Tree → Reply → Type 0) (t : Tree) (h : Hashing) (bytes : List ℕ) (next : EndsSo Q t (hashed h bytes)) where
  -- what was read so far, and the rest
  by_piece : (fuel : ℕ) (rest so_far : List ℕ) → length rest < suc fuel → so_far ++ rest ≡ bytes
      → ((rest so_far : List ℕ) → length rest < fuel → so_far ++ rest ≡ bytes → EndsSo Q t (hashing h (opened rest) so_far))
      → (got : List ℕ) → take piece rest ≡ got → EndsSo Q t (after_read h so_far (opened (drop piece rest), got))
  by_piece fuel rest so_far low all deeper [] is =
      let none : length rest ≡ 0 = omega (arith, length-take piece rest, ap (λ (l : List ℕ). length l) is) in
      let whole : so_far ≡ bytes = sym (append-nil so_far) ∙ ap (λ l. so_far ++ l) (sym (nil_from_length rest none)) ∙ all in
      subst (λ b. EndsSo Q t (hashed h b)) (sym whole) next
  by_piece fuel rest so_far low all deeper (c ∷ cs) is =
      let some : 0 < length (take piece rest) = subst (λ (l : List ℕ). 0 < length l) (sym is) (omega arith) in
      deeper (drop piece rest) (so_far ++ c ∷ cs) (omega (arith, low, length-take piece rest, length-drop piece rest, some))
      (append_assoc so_far (c ∷ cs) (drop piece rest) ∙ ap (λ l. so_far ++ (l ++ drop piece rest)) (sym is) ∙ ap (λ l. so_far ++ l) (take-append-drop piece rest) ∙ all)

  reads_on : (fuel : ℕ) (rest so_far : List ℕ) → length rest < fuel → so_far ++ rest ≡ bytes → EndsSo Q t (hashing h (opened rest) so_far)
  reads_on zero rest so_far low all = absurd (omega (arith, low))
  reads_on (suc fuel) rest so_far low all =
      goes Q t t (hashing h (opened rest) so_far) (steps.Read (opened rest) piece) (answers.Got (opened (drop piece rest)) (take piece rest)) refl (reads t rest)
      (by_piece fuel rest so_far low all (reads_on fuel) (take piece rest) refl)

  -- a call that reads the rest of the bytes ends as one that has them all
  pub reads_whole : (rest so_far : List ℕ) → so_far ++ rest ≡ bytes → EndsSo Q t (hashing h (opened rest) so_far)
  reads_whole rest so_far all = reads_on (suc (length rest)) rest so_far (omega arith) all
