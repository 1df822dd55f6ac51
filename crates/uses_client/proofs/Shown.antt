-- What was found, read, opened or installed, by what the laws say, and what an audit's answers say.
use Rattle.std.proofs.Common.{◌≡◌, Result, Ok, Err, refl, subst, sym, ◌∙◌, inl, inr, ℕ, List, Option, None, Some, option_map, Vec, ap, ◌⊎◌, [], ◌∷◌, arith, ◌<◌, zero, suc, get_or, length, Bool, true, false}
use Rattle.std.specs.{Prelude.{IsErrAnd, MatchResult, IfOk}, Global.{Global}}
use Rattle.cacache.specs.{Calls.{Error, without_message, Said}, Entries.{Found, Metadata, found_view}, Integrities.{Hash, Sha256, integrity_under, Meets}, Laws.{FailsClearing, LiesLinked, leads_to, lies_under, shown, tree_of, Fault, IoError, OpensAs, OutOfMemory, HasContent, IsCache, IsIntegrity, IsReady, IsThere, KeepsUntouched, LeavesKnownCache, LiesOrStayed, ListsOwn, said_integrity, FailsListing, In, LiesWhole, NamesFolder}, Stores.{LogItem, PlainFile}}
use Rattle.uses_client.specs.{Given.{GivesLinked}, Packages.{FailsClear, FailsWrite, expected_said, said_of, IsRight}, Writing.{StoredWith}}

pub by_result : {X : Type 0} (r : Result X Error) (A : X → Type 0) (B : Error → Type 0) → ((x : X) → r ≡ Ok x → A x) → ((e : Error) → r ≡ Err e → B e) → MatchResult r A B
by_result (Ok x) A B f h = f x refl
by_result (Err e) A B f h = h e refl

-- what `?` hands on
pub handed : {X : Type 0} (P : Result X Error → Type 0) (r : Result X Error) (e : Error) → IsErrAnd r (λ x. x ≡ e) → P (Err e) → P r
handed P (Ok x) e is p = absurd is
handed P (Err x) e is p = subst (λ y. P (Err y)) (sym is) p

-- ---- what was found or read, by what the laws say

-- of a key that leads to nothing no entry is found
pub nothing : (found : Option Metadata) (there : Option Found) → option_map found_view found ≡ there → there ≡ None → found ≡ None
nothing None there is none = refl
nothing (Some m) there is none = let no : Some (found_view m) ≡ None = is ∙ none in absurd cc

-- of a key that leads to a link to a file what the file shows is read
pub mirrored : (cache key path held : List ℕ) (i : List Hash) (r : Result (Vec ℕ Global) Error) (old mid new : List LogItem) → leads_to cache key mid ≡ Some i → i ≡ integrity_under Sha256 held → LiesLinked cache i path old mid
    → GivesLinked cache key r mid → tree_of new ≡ tree_of mid → shown (tree_of new) path ≡ Some held → lies_under cache (integrity_under Sha256 held) old ≡ None → IfOk r (λ v. v.items ≡ held)
mirrored cache key path held i r old mid new leads own lies reads same after none =
    reads i path held leads (record { lies = lies (ap (λ j. lies_under cache j old) own ∙ none); shows = ap (λ t. shown t path) (sym same) ∙ after })

-- why a clearing failed
pub clear_failed : (cache : List ℕ) (log : List LogItem) (e : Error) → FailsClearing cache log e → FailsClear e
clear_failed cache log e (inl memory) = inl memory
clear_failed cache log e (inr (inl deep)) = inr (inl deep)
clear_failed cache log e (inr (inr missing)) = inr (inr missing.1)

-- ---- what an opening says about the bytes that are to be opened

pub told : (content : Result (List ℕ) Fault) (r : Result PlainFile Error) → OpensAs content r
    → MatchResult r (λ file. (bytes : List ℕ) × (content ≡ Ok bytes)) (λ e. (e ≡ OutOfMemory) ⊎ ((fault : Fault) × (content ≡ Err fault) × (without_message e ≡ IoError fault [])))
told (Ok bytes) (Ok file) h = (bytes, refl)
told (Ok bytes) (Err e) h = inl h
told (Err fault) (Ok file) h = absurd h
told (Err fault) (Err e) (inl memory) = inl memory
told (Err fault) (Err e) (inr is) = inr (fault, refl, is)

-- ---- what a commit left, since before its writer was opened

-- no writer was opened, or it was given up
pub unstored : (cache key : List ℕ) (s : Said) (bytes : List ℕ) (r : Result (List Hash) Error) (e : Error) (old new : List LogItem) → IsErrAnd r (λ x. x ≡ e) → IsCache cache new
    → KeepsUntouched cache (Some key) (said_integrity s bytes) bytes old new → (IsReady cache old → FailsWrite e) → StoredWith cache key s bytes r old new
unstored cache key s bytes (Ok i) e old new is sound keeps fails = absurd is
unstored cache key s bytes (Err x) e old new is sound keeps fails = record { sound = sound; stored = tt; expected = tt; leads = tt; content = tt; keeps = keeps; fails = λ ready. inl (subst FailsWrite (sym is) (fails ready)) }

-- if nothing lay there, the bytes lie there
pub if_free : (cache bytes : List ℕ) (own : List Hash) (old mid new : List LogItem) → LeavesKnownCache cache old mid → LiesOrStayed cache own bytes mid new → lies_under cache own old ≡ None → HasContent cache own bytes new
if_free cache bytes own old mid new left (inl has) none = has
if_free cache bytes own old mid new left (inr h) none = absurd (subst IsThere (left.1.lies own ∙ none) h.0)

-- ---- an integrity that was expected has a first hash

pub as_said : (expected : List Hash) (size : ℕ) (s : Said) → IsIntegrity expected → ((h : Hash) (hs : List Hash) → expected ≡ h ∷ hs → s ≡ expected_said h.algorithm size expected) → s ≡ said_of expected size
as_said [] size s formed said = absurd (omega (arith, formed.nonempty))
as_said (h ∷ hs) size s formed said = said h hs refl

pub lists_own : (expected : List Hash) (size : ℕ) (bytes : List ℕ) → IsIntegrity expected → ListsOwn (said_of expected size) bytes expected → Meets expected bytes
lists_own [] size bytes formed own = absurd (omega (arith, formed.nonempty))
lists_own (h ∷ hs) size bytes formed own = own

-- ---- what the answers of an audit's calls say about the cache

-- an error other than out of memory says that no whole bytes lie there, since these are read unless memory is refused
pub no_is_right : (cache : List ℕ) (i : List Hash) (e : Error) (old : List LogItem) → ((bytes : List ℕ) → NamesFolder cache → LiesWhole cache i old bytes → e ≡ OutOfMemory) → (r : Result Bool Error)
    → IfOk r (λ told. (told ≡ false) × (e ≡ OutOfMemory → ⊥)) → IfOk r (IsRight cache i old)
no_is_right cache i e old reads (Ok told) is = subst (IsRight cache i old) (sym is.0) (λ folder bytes lies. is.1 (reads bytes folder lies))
no_is_right cache i e old reads (Err error) is = tt

-- what is found at a place among them is one of them
pub in_at : {X : Type 0} (all : List X) (at : ℕ) (x : X) → at < length all → x ≡ get_or all at x → In x all
in_at [] at x small is = absurd (omega (arith, small))
in_at (y ∷ ys) zero x small is = inl is
in_at (y ∷ ys) (suc at) x small is = inr (in_at ys at x (omega (arith, small)) is)

-- the error of an item, or of memory
pub listing_failed : (items : List (Result Found Error)) (e : Error) (old new : List LogItem) → (In (Err e) items → FailsListing e old new) → (e ≡ OutOfMemory) ⊎ In (Err e) items → FailsListing e old new
listing_failed items e old new gives (inl memory) = inl (inl memory)
listing_failed items e old new gives (inr i) = gives i

-- ---- verdicts

-- a verdict is right on the same tree too
pub right_on : (cache : List ℕ) (i : List Hash) (a b : List LogItem) (whole : Bool) → tree_of a ≡ tree_of b → IsRight cache i a whole → IsRight cache i b whole
right_on cache i a b true same h = rw (← same) h
right_on cache i a b false same h = rw (← same) h
