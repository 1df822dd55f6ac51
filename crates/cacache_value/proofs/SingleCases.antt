-- The single cases.
use Rattle.std.proofs.{lemmas.{Grind.{common_steps}, List.{append_cancel_left}, Bool.{false_from_ne_true}}, Common.{rules, ◌≡◌, ◌≢◌, ◌≤◌, ◌<◌, ℕ, false, cond, List, [], ◌∷◌, ◌++◌, Option, None, Some, Ok, length, take, refl, ap, ◌∙◌, arith, append-nil}}
use Rattle.cacache_core.specs.{declared.{integrity.digest.Hash.{Hash}, errors.Fault.TheVariants.{NotFound, Device}}, Integrity.{IsHash}, Paths.{joined, content_names, bucket_names_of, Names, names_of}, Laws.{IsKeyDigest}}
use Rattle.cacache_core.proofs.PathTexts.{paths_differ}
use Rattle.cacache_entry.{proofs.Lookups.{empty_holds_nothing}, specs.{Entry.{Entry, line_of}, FittingEntries.{IsEntry, IsWritable}, Bucket.{entries_of}}}
use Rattle.cacache_disk.{specs.{Tree.{Tree, same_path}, declared.luck.Luck.{Luck, TheVariants.{Fail}}}, proofs.{Maps.{same_path-true}, Roots.{same_self}}}
use Rattle.cacache_store.specs.{declared.store.answer.Answer.TheVariants.{Took, Failed}, Plain.{PlainAnswer}}
use Rattle.cacache_value.specs.{Value.{Value}, Acts.{list_of, amount_left, folders_left, make_folders, PutBytes, AddEntries, act_with, change}, SingleCases.{bucket_after, AppendCases, ContentCases, RemovedBucketsGo, OtherBucketsKeep, FolderCases, KindCases, TreeCases, LinkCases, row_folder, folders_after}}
use Rattle.cacache_value.proofs.MadeFolders.{whole_line, torn_line, append_act, nothing_left_is_nothing}

here : {A : Type 0} (p : Names) (x y : A) → cond (same_path p p) x y ≡ x
here p x y = ap (λ b. cond b x y) (same_self p)

-- the bucket after an append that left so much
bucket_with : (home : Names) (v : Value) (path digest : List ℕ) (e : Entry) (luck : Luck) (answer : PlainAnswer) (n : ℕ) (new : List Entry)
    → names_of path ≡ Ok (home ++ bucket_names_of digest) → amount_left luck answer ≡ Some n → entries_of (take n (line_of e)) ≡ new
    → bucket_after home v path digest e luck answer ≡ Some (list_of (v.buckets digest) ++ new)
bucket_with home v path digest e luck answer n new is left adds = search (rules, append_act, here)

pub append_cases : (home : Names) (v : Value) (path digest : List ℕ) (e : Entry) → IsEntry e → IsWritable e
    → names_of path ≡ Ok (home ++ bucket_names_of digest) → AppendCases home v path digest e
append_cases home v path digest e formed fits is =
    let whole = λ (luck : Luck) (answer : PlainAnswer) (n : ℕ) (left : amount_left luck answer ≡ Some n) (long : length (line_of e) ≤ n).
    bucket_with home v path digest e luck answer n (e ∷ []) is left (whole_line e n formed fits long) in
    let torn = λ (luck : Luck) (answer : PlainAnswer) (n : ℕ) (left : amount_left luck answer ≡ Some n) (short : n < length (line_of e)).
    bucket_with home v path digest e luck answer n [] is left (torn_line e n formed fits short) ∙ ap Some (append-nil (list_of (v.buckets digest))) in
    let nothing = λ (luck : Luck) (answer : PlainAnswer) (left : amount_left luck answer ≡ None).
    ap (λ act. change (Some home) act v) (nothing_left_is_nothing path (line_of e) luck answer left) in
    record {
      whole = λ luck. whole luck (Took (length (line_of e))) (length (line_of e)) refl (omega arith);
      torn = λ luck n short. torn luck (Took n) n refl short;
      failed_whole = λ n long. whole (Fail Device (Some n)) (Failed Device) n refl long;
      failed_torn = λ n short. torn (Fail Device (Some n)) (Failed Device) n refl short;
      created_only = torn (Fail Device (Some 0)) (Failed Device) 0 refl (omega arith);
      failed = nothing (Fail Device None) (Failed Device) refl;
      no_folder = λ luck. nothing luck (Failed NotFound) refl;
    }

-- two addresses have two paths
contents_apart : (home : Names) (a b : Hash) → IsHash a → IsHash b → b ≢ a → same_path (home ++ content_names b) (home ++ content_names a) ≡ false
contents_apart home a b p q differ =
    false_from_ne_true (same_path (home ++ content_names b) (home ++ content_names a)) (λ s.
    let same : content_names b ≡ content_names a = append_cancel_left home (content_names b) (content_names a) (same_path-true _ _ s) in
    differ ((paths_differ.contents [] b a q p).0 (ap (joined []) same)))

unput : (o : Option (List ℕ)) (home : Names) (v : Value) (a b : Hash) → same_path (home ++ content_names b) (home ++ content_names a) ≡ false
    → (change (Some home) (act_with o (PutBytes (home ++ content_names a))) v).contents b ≡ v.contents b
unput o home v a b e = grind (arith, common_steps)

-- so have two digests
buckets_apart : (home : Names) (d b : List ℕ) → IsKeyDigest d → IsKeyDigest b → b ≢ d → same_path (home ++ bucket_names_of b) (home ++ bucket_names_of d) ≡ false
buckets_apart home d b p q differ =
    false_from_ne_true (same_path (home ++ bucket_names_of b) (home ++ bucket_names_of d)) (λ s.
    let same : bucket_names_of b ≡ bucket_names_of d = append_cancel_left home (bucket_names_of b) (bucket_names_of d) (same_path-true _ _ s) in
    differ ((paths_differ.buckets [] b d q p).0 (ap (joined []) same)))

unadd : (o : Option ℕ) (home : Names) (v : Value) (bytes d b : List ℕ) → same_path (home ++ bucket_names_of b) (home ++ bucket_names_of d) ≡ false
    → (change (Some home) (act_with o (λ count. AddEntries (home ++ bucket_names_of d) (entries_of (take count bytes)))) v).buckets b ≡ v.buckets b
unadd o home v bytes d b e = grind (arith, common_steps)

pub other_buckets_keep : OtherBucketsKeep
other_buckets_keep home v path bytes d b luck answer p q differ is = search (rules, unadd, buckets_apart)

pub content_cases : (home : Names) (v : Value) (path : List ℕ) (a : Hash) → names_of path ≡ Ok (home ++ content_names a)
    → ContentCases home v path a
content_cases home v path a is = record {
  replaced = λ luck file bytes known. rw (is, known) (here (home ++ content_names a) _ _);
  others_keep = λ luck file b ha hb differ. rw is (unput file.bytes home v a b (contents_apart home a b ha hb differ));
  failed = λ luck file. refl;
  linked = λ luck target. rw is (here (home ++ content_names a) _ _);
  removed = λ luck. rw is (here (home ++ content_names a) _ _);
}

pub removed_buckets_go : RemovedBucketsGo
removed_buckets_go home v path digest luck is = rw is (here (home ++ bucket_names_of digest) _ _)

pub tree_cases : (home : Names) (t : Tree) → TreeCases home t
tree_cases home t = search (rules, empty_holds_nothing)

pub link_cases : (t : Tree) (target : List ℕ) → LinkCases t target
link_cases t target = search rules

-- the folders after a step that left so many
folders_with : (p : List ℕ) (luck : Luck) (answer : PlainAnswer) (n : ℕ) (names : Names) → names_of p ≡ Ok row_folder
    → folders_left row_folder luck answer ≡ Some n → folders_after p luck answer names ≡ make_folders (λ names. false) [] row_folder n names
folders_with p luck answer n names is left = search rules

pub folder_cases : (p : List ℕ) (luck : Luck) → names_of p ≡ Ok row_folder → FolderCases p luck
folder_cases p luck is = search (rules, folders_with)

pub kind_cases : KindCases
kind_cases = search rules
