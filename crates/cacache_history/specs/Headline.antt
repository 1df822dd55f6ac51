-- The claim as a whole.
use Rattle.cacache_history.specs.{AddedEntries.{BucketsAreOfKeys, IndexIsShallow, BucketsHoldOwn, EntriesNameContents, PutsLeaveContents}, Commits.{CommitsAreCases}, History.{History, IsLegal}, LinkedContents.{LinksWereRight, LinksAreRight}, Lookups.{PlaceLaws}, ListingTurns.{ListingsReadValue}, Turns.{TurnsAreMoves, CallsAreRuns}, ReadingCalls.{ReadersDoNothing, ReadsAreVerified}, TurnReplies.{RepliesReadValue, RepliesHaveCauses}, Values.{ValueFollowsActs, BucketsOnlyGrow, ContentsStay, ContentsAreRight}}

-- Over every interleaving of callers' store steps, with failed steps, short appends and callers
-- stopped anywhere, lookups, reads and listings answer by one map of contents and one list of whole
-- entries per bucket; a commit puts nothing, its content, or its content and then its entry, and an
-- Ok says that its content was put or found, and with a key its entry then added; and whatever
-- bytes the files hold, a verified read answers Ok only with bytes that meet its integrity.
pub record Headline (h : History) : Type 0 where
  -- each record may come at its place: any caller's next step, as the disk answers it there
  pub legal : IsLegal h
  -- each turn of a call is a move of the history, on the tree of its place
  pub turns : TurnsAreMoves h
  -- what callers may say of places: which call each move is of, and what a lookup finds at each
  pub places : PlaceLaws h
  -- each reply is that of a run of its call, or out of memory
  pub runs : CallsAreRuns h
  -- one value: the cache begins with nothing, and holds what the acts of the steps made
  pub values : ValueFollowsActs h
  -- while a bucket isn't removed, its list of entries only grows at the end
  pub buckets : BucketsOnlyGrow h
  -- what is where a bucket may be is the bucket of some key
  pub keyed : BucketsAreOfKeys h
  -- no folder of the index lies more than two names below it
  pub shallow : IndexIsShallow h
  -- each entry has a key of its bucket
  pub own : BucketsHoldOwn h
  -- while a content isn't removed, there is one at its address
  pub contents : ContentsStay h
  -- a content that is bytes has the digest of its address
  pub digests : ContentsAreRight h
  -- one that is a link is of bytes that its target once held
  pub linked : LinksWereRight h
  -- and so has the digest of its address while the target's bytes are the same
  pub links : LinksAreRight h
  -- lookups, reads, questions, listings and checked exports answer by the value at their steps
  pub replies : RepliesReadValue h
  -- a listing answers exactly what the buckets of keys that it read held, and leaves none out
  pub listings : ListingsReadValue h
  -- bytes are answered only if they meet the integrity
  pub verified : ReadsAreVerified h
  -- a call that reads does nothing to the value
  pub readers : ReadersDoNothing h
  -- a commit did nothing, put or found its content, or then added its entry, too; an Ok says that it
  -- did all; a removal removed at most its content, and with its key the key's bucket
  pub commits : CommitsAreCases h
  -- an added entry, if no integrity is expected, names a content that is there, unless removed
  pub entries : EntriesNameContents h
  -- the content of a put that answered is there, with or without a key, unless removed
  pub stored : PutsLeaveContents h
  -- each `IoError` has a cause in its call's own steps
  pub causes : RepliesHaveCauses h

-- this holds of every legal history
abbrev pub HeadlineHolds : Type 0
HeadlineHolds = (h : History) → IsLegal h → Headline h
