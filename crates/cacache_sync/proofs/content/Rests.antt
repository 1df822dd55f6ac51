-- The lookup before an opening, a buffer that is filled from its front, and the rest of a content, piece by piece.
use Rattle.std.specs.{Prelude.{Option, None, Some, IfOk, IfErr, IsOk}, Io.KnownBytes.{Consumes, Keeps, Appends, IsAtEnd}}
use Rattle.std.proofs.{Common.{◌≡◌, ◌≤◌, ◌∙◌, ℕ, ◌+◌, ◌-◌, List, [], ◌++◌, ap, append-nil, drop, drop_at, le_refl, length, length-take-le, subst, sym, take, take-append-drop, take_all, inl, inr, Result, Ok, Err, ◌^◌, min, refl, append_assoc, length-append, arith}, KnownBytes.{Consumes-kept, Consumes-trans, Appends-trans, Consumes-whole}, lemmas.Slice.{take-put_mid_below}}
use Rattle.cacache_sync.specs.{content.{OpenReads.{GivesPart, FindsKey, OpensKey, HasRead, ReadsMore, AreLeft, FailsToEnd, Finishes, PassesOn}, OpenWrites.{counted_bytes}}, declared.content.reader.SyncReader.{SyncReader}}
use Rattle.cacache_core.specs.{declared.{errors.Error.{Error, TheVariants.{EntryNotFound, IntegrityError, OutOfMemory}}, integrity.{algorithm.Algorithm.{Algorithm}, digest.Hash.{Hash}}}, Integrity.{Meets, strongest, actual}, Errors.{IsCheckFailure}}
use Rattle.cacache_store.specs.declared.store.{log.LogItem.{LogItem}, plain.PlainFile.{PlainFile}}
use Rattle.cacache_calls.specs.{declared.{answers.Refusal.{Refusal}, reply.Reply.TheVariants.{Refused}}, Replies.{find_reply, bucket_shown}, Runs.{without_message}}
use Rattle.cacache_calls.proofs.Replies.{finds_shown}
use Rattle.cacache_entry.specs.Entry.{Entry}
use Rattle.cacache_jobs.specs.JobStates.{site_of}
use Rattle.cacache_calls.specs.declared.answers.Refusal.TheVariants as refusals
use borrow.Rule.Slice.PartMut.{post_of, put_mid}
use lib.Seq.{take-add, take-append-le}

-- a part that was put in the place of the rest stands after the front
filled : (at room n : ℕ) (old part : List ℕ) → at ≤ length old → n ≤ length part
    → take (at + n) (put_mid at room old part) ≡ take at old ++ take n part
filled at room n old part within fits =
    let new = put_mid at room old part in
    let front : take at new ≡ take at old = take-put_mid_below _ _ _ _ _ (le_refl _) within in
    let back = drop_at (take at old) (part ++ post_of at room old) at (length-take-le at old within) in
    let read : take n (drop at new) ≡ take n part = ap (take n) back ∙ take-append-le n part (post_of at room old) fits in
    take-add at n new ∙ ap (λ l. l ++ take n (drop at new)) front ∙ ap (λ l. take at old ++ l) read

-- known bytes of which none are consumed stay
pub consumes_nothing : (old new : Option (List ℕ)) → Consumes old new [] → Keeps old new
consumes_nothing None new consumes = tt
consumes_nothing (Some xs) None consumes = consumes
consumes_nothing (Some xs) (Some ys) consumes = sym consumes

module _ {R : Type 0} (left : R → Option (List ℕ)) (gave : R → R → List ℕ → Type 0) where
  -- these bytes more were given, which the known bytes lost
  abbrev pub Gave : R → R → List ℕ → Type 0
  Gave old new more = Consumes (left old) (left new) more × gave old new more

  module _ (on : (u v w : R) (one two : List ℕ) → gave u v one → gave v w two → gave u w (one ++ two)) (u v w : R) (old part : List ℕ) (at room : ℕ) (within : at ≤ length old) (x : Gave u v (take at old)) where
    -- the front of the buffer, and then n bytes more of the rest
    pub gave_further : (n : ℕ) → n ≤ length part → Gave v w (take n part) → Gave u w (take (at + n) (put_mid at room old part))
    gave_further n fits y =
        rw (filled at room n old part within fits) (Consumes-trans _ _ _ (take at old) (take n part) x.0 y.0, on u v w (take at old) (take n part) x.1 y.1)

    -- the front of the buffer, and then none
    pub gave_no_further : Keeps (left v) (left w) → gave v w [] → Gave u w (take at (put_mid at room old part))
    gave_no_further kept none =
        let stays : take at (put_mid at room old part) ≡ take at old = take-put_mid_below _ _ _ _ _ (le_refl _) within in
        rw stays (Consumes-kept _ _ _ (take at old) x.0 kept, subst (gave u w) (append-nil (take at old)) (on u v w (take at old) [] x.1 none))

  -- the front of the buffer
  pub part_given : (u w : R) (buf : List ℕ) (n : ℕ) → Gave u w (take n buf) → GivesPart left gave u w buf
  part_given u w buf n x = (take n buf, drop n buf, sym (take-append-drop n buf), x.1, x.0)

  -- the whole buffer
  pub whole_given : (u w : R) (buf : List ℕ) (n : ℕ) → length buf ≤ n → gave u w (take n buf) → gave u w buf
  whole_given u w buf n all x = subst (gave u w) (take_all n buf all) x

-- ---- the lookup

-- a lookup isn't refused for finding nothing
finds_none : (key c k : List ℕ) (shown : Result (List Entry) Refusal) → Refused (EntryNotFound c k) ≡ find_reply key shown → ⊥
finds_none key c k (Ok entries) is = absurd cc
finds_none key c k (Err (refusals.Fault fault)) is = absurd cc
finds_none key c k (Err refusals.Memory) is = absurd cc

module _ {F : Type 0} (file : F → PlainFile) (cache base key : List ℕ) where
  -- the lookup was refused
  pub refused_key : (e : Error) (old new : Option (List LogItem)) → FindsKey cache base key (Refused (without_message e)) old new → OpensKey file cache base key (Err e) old new
  refused_key (EntryNotFound c k) old new ran =
      elim (finds_shown (site_of cache base 0) key ran.0 (Refused (EntryNotFound c k)) ran.1) [
        | inl is ↦ absurd cc
        | inr shown ↦ absurd (finds_none key c k (bucket_shown shown.0) shown.2)
      ]
  refused_key e old new ran = inl ran

-- ---- the rest of a content, piece by piece

module _ {F : Type 0} (file : F → PlainFile) where
  -- some bytes left the reader and went to the writer, and they are counted
  abbrev pub Passed : SyncReader F → SyncReader F → Option (List ℕ) → Option (List ℕ) → ℕ → Type 0
  Passed u v before after count =
      (bytes : List ℕ) × Consumes (file u.file).bytes (file v.file).bytes bytes × ReadsMore u v bytes
      × Appends before after bytes × (count ≡ counted_bytes bytes)

  -- a piece more
  pub more_passed : (u v w : SyncReader F) (before mid after : Option (List ℕ)) (count new : ℕ) (piece : List ℕ) → Passed u v before mid count
      → Consumes (file v.file).bytes (file w.file).bytes piece → ReadsMore v w piece → Appends mid after piece → new ≡ min (count + length piece) (2 ^ 64 - 1) → Passed u w before after new
  more_passed u v w before mid after count new piece x consumes reads appends counts =
      let bytes = x.0 in (
        bytes ++ piece,
        Consumes-trans _ _ _ bytes piece x.1 consumes,
        λ i had is. subst (HasRead w i) (append_assoc had bytes piece) (reads i (had ++ bytes) (x.2 i had is)),
        Appends-trans _ _ _ bytes piece x.3 appends,
        omega (arith, length-append bytes piece, x.4, counts),
      )

  -- a read that failed
  pub kept_passed : (u v w : SyncReader F) (before after : Option (List ℕ)) (count : ℕ) → Passed u v before after count → Keeps (file v.file).bytes (file w.file).bytes → ReadsMore v w [] → Passed u w before after count
  kept_passed u v w before after count x kept reads =
      let bytes = x.0 in (
        bytes,
        Consumes-kept _ _ _ bytes x.1 kept,
        λ i had is. subst (HasRead w i) (append-nil (had ++ bytes)) (reads i (had ++ bytes) (x.2 i had is)),
        x.3,
        x.4,
      )

  -- the read that gave nothing
  pub all_passed : (u v w : SyncReader F) (before after : Option (List ℕ)) (count : ℕ) → Passed u v before after count → Keeps (file v.file).bytes (file w.file).bytes → IsAtEnd (file w.file).bytes → ReadsMore v w [] → PassesOn file u w before after count
  all_passed u v w before after count x kept end reads =
      let y = kept_passed u v w before after count x kept reads in
      (y.0, Consumes-whole _ _ y.0 (λ xs. y.0 ≡ xs) y.1 end refl, y.2, y.3, y.4)

not_ok : (e : Error) → IsOk {T = Algorithm} {E = Error} (Err e) → ⊥
not_ok e is = absurd cc

module _ (file : PlainFile) (i : List Hash) (bytes : List ℕ) where
  module _ (rest : List ℕ) (left : AreLeft file rest) where
    -- what a check of all bytes answers
    abbrev pub Checked : Result Algorithm Error → Type 0
    Checked r =
        IfOk r (λ a. Meets i (bytes ++ rest) × (strongest i ≡ Some a))
        × (Meets i (bytes ++ rest) → IsOk r) × IfErr r (IsCheckFailure i (actual i (bytes ++ rest)))

    pub check_fails : (e : Error) → Checked (Err e) → FailsToEnd file i bytes e
    check_fails OutOfMemory is = tt
    check_fails (IntegrityError fault) is = (rest, (left, λ meets. not_ok (IntegrityError fault) (is.1 meets), ap IntegrityError is.2))
    check_fails e is = absurd is.2

    pub finished : (r : Result Algorithm Error) → Checked r → Finishes file i bytes r
    finished (Ok a) is = ((rest, (left, is.0.0)), is.0.1)
    finished (Err e) is = check_fails e is
