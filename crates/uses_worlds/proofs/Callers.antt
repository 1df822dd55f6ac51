-- What a user says about many callers follows from the laws of places, buckets, collections, machines and seats.
use Rattle.std.proofs.Common.{◌≡◌, ◌⊎◌, inl, inr, ℕ, suc, List, [], ◌∷◌, Option, None, Some, slice_get, sym, ap, subst, ◌∙◌, arith, ◌++◌, ◌≤◌, refl}
use Rattle.std.specs.Prelude.{All, filter_map, map, slice_index_or}
use Rattle.cacache.specs.{Calls.{Reply, Stored, Read, Refused, plain_reply}, Entries.{Found}, Histories.{Call, Command, FoundOfPuts, Headline, History, IsCase, MetDigestsAreSame, MoveAt, Moved, Put, Reaches, SparesKey, call_site, found_of_put, now_before, CallIn, ListingsName, PutsKeep, address_of_put, lookup_at, SeenMakeHistories, history_of, Answers, IsLegal}, Integrities.{Meets}, Buckets.{Ends, LookupsSeeAnswered, LookupsSeeMoments, Opens, entries_of}, Laws.{OutOfMemory}, Shared.{AreAnswered, IsGiven, SeatAgrees, SeatIsAnswered, SeatsAreAnswered, Taken, said_command, said_reply}}
use Rattle.uses_worlds.specs.Callers.{CrashesAreSafe, OneOfTwo, PutThenGet, ReadersNeverLie, RemovalsAreSafe, AppendedAreFound, LookupsReadWhole, CollectionsKeepPuts, FoldersAreSafe, ReadIsRight}
use Rattle.cacache.specs.Calls as commands

-- ---- puts

pub one_put : (cache key : List ℕ) (p : Put) (now was : Option Found) → was ≡ Some (found_of_put cache key p) → (now ≡ was) ⊎ FoundOfPuts cache key (p ∷ []) now → now ≡ Some (found_of_put cache key p)
one_put cache key p now was is (inl same) = same ∙ is
one_put cache key p now was is (inr (inl own)) = own
one_put cache key p now was is (inr (inr never)) = absurd never

pub put_then_get : (h : History) → Headline h → MetDigestsAreSame → PutThenGet h
put_then_get h head same key p m between n putter reader put get i bytes keyed none moves is_put a is_get g =
    let stored = head.places.stored m between putter put p key i a is_put keyed none in
    let got = head.places.got between n reader get key bytes g is_get in
    let since = head.places.puts key (p ∷ []) stored.0 got.1.0 (omega (arith, stored.2, got.1.1))
    (λ place caller call from to. moves place caller call (omega (arith, stored.1, from)) (omega (arith, got.1.2, to))) in
    let found : Some got.0 ≡ Some (found_of_put h.setup.cache key p) = sym got.1.3 ∙ one_put h.setup.cache key p _ _ stored.3 since in
    let own : got.0 ≡ found_of_put h.setup.cache key p = cc in
    same p.options.algorithm p.data bytes (subst (λ (f : Found). Meets f.integrity bytes) own got.2)

two_puts : (cache key : List ℕ) (p q : Put) (now was : Option Found) (found : Found) → was ≡ None → now ≡ Some found → (now ≡ was) ⊎ FoundOfPuts cache key (p ∷ q ∷ []) now
    → (found ≡ found_of_put cache key p) ⊎ (found ≡ found_of_put cache key q)
two_puts cache key p q now was found none is (inl same) = let no : Some found ≡ None = sym is ∙ same ∙ none in absurd cc
two_puts cache key p q now was found none is (inr (inl own)) = let all : Some found ≡ Some (found_of_put cache key p) = sym is ∙ own in inl cc
two_puts cache key p q now was found none is (inr (inr (inl own))) = let all : Some found ≡ Some (found_of_put cache key q) = sym is ∙ own in inr cc
two_puts cache key p q now was found none is (inr (inr (inr never))) = absurd never

pub one_of_two : (h : History) → Headline h → OneOfTwo h
one_of_two h head key p q n caller call found moves is c =
    let at = head.places.found 0 n caller call key (Some found) c is in
    two_puts h.setup.cache key p q _ _ found (head.places.nothing key) at.3
    (head.places.puts key (p ∷ q ∷ []) 0 at.0 (omega arith) (λ place other made from to. moves place other made from (omega (arith, at.2, to))))

-- ---- callers that stop

module _ (h : History) (place caller : ℕ) (call : Call) (other : List ℕ) (move : MoveAt h place caller) (is : (now_before h place).calls caller ≡ Some call) (spares : SparesKey other call.command) where
  -- the only move there is the caller's
  only : (p c : ℕ) (made : Call) → p ≡ place → MoveAt h p c → (now_before h p).calls c ≡ Some made → SparesKey other made.command
  only p c made here its at =
      let both : Some (Moved c its.luck its.made its.reply) ≡ Some (Moved caller move.luck move.made move.reply) = sym its.is ∙ ap (slice_get h.records) here ∙ move.is in
      let same : c ≡ caller = cc in
      let calls : Some made ≡ Some call = sym at ∙ ap (λ (n : ℕ). (now_before h n).calls c) here ∙ ap (now_before h place).calls same ∙ is in
      let its_call : call ≡ made = cc in
      subst (λ (x : Call). SparesKey other x.command) its_call spares

-- what a call of this command did
case_of : (h : History) → Headline h → (call : Call) (reply : Option Reply) → Reaches h call reply → {command : Command} → call.command ≡ command
    → IsCase (call_site h.setup call.number) command call.turns reply
case_of h head call reply reaches is = subst (λ c. IsCase (call_site h.setup call.number) c call.turns reply) is (head.commits call reply reaches)

pub crash_safe : (h : History) → Headline h → CrashesAreSafe h
crash_safe h head = record {
  whole = λ call p reply reaches is. case_of h head call reply reaches is;
  others = λ place caller call p other move is put differs.
      head.places.stays other place (suc place) (omega arith)
      (λ at c made from to. only h place caller call other move is (subst (SparesKey other) (sym put) differs) at c made (omega (arith, from, to)));
}

pub removals_are_safe : (h : History) → Headline h → RemovalsAreSafe h
removals_are_safe h head = record {
  address = λ call i reply reaches is. case_of h head call reply reaches is;
  key = λ call key reply reaches is. case_of h head call reply reaches is;
  all = λ call reply reaches is. case_of h head call reply reaches is;
}

-- ---- reads

pub readers_never_lie : (h : History) → Headline h → ReadersNeverLie h
readers_never_lie h head n caller call key bytes c is =
    let got = head.places.got 0 n caller call key bytes c is in
    (got.1.0, got.0, got.1.2, head.places.wrote got.1.0 key got.0 got.1.3, got.2)

-- ---- what a user says about several processes follows from the laws of a bucket's file

pub lookups_read_whole : LookupsSeeMoments → LookupsReadWhole
lookups_read_whole moments start events reader bytes happen ran =
    let among = moments start events reader bytes happen ran in
    (among.before ++ Opens reader ∷ among.during, Ends reader ∷ among.after, among.parts, ap entries_of (sym among.same) ∙ among.read.entries)

pub appended_are_found : LookupsSeeAnswered → AppendedAreFound
appended_are_found answered start writing reading process count reader e bytes happen formed fits long appended ran =
    let h = answered start writing reading process count reader e bytes happen formed fits long appended ran in
    (h.has.older, h.newer, h.has.entries, h.has.last)

-- ---- a put that was answered before a listing began is kept by what spares the contents that the listing names

-- a call that was over before a place was so before each later one
over_later : (h : History) (m k n caller : ℕ) (call : Call) (reply : Option Reply) → k ≤ n → CallIn h m k caller call reply → CallIn h m n caller call reply
over_later h m k n caller call reply le c = record { place = c.place; from = c.from; to = omega (arith, c.to, le); idle = c.idle; move = c.move; reply_is = c.reply_is; stands = c.stands }

pub collections_keep_puts : (h : History) → Headline h → ListingsName → PutsKeep → CollectionsKeepPuts h
collections_keep_puts h head names puts key p m between after n putter lister put list i items keyed none is_put is_stored lists le moves spares =
    let found = found_of_put h.setup.cache key p in
    let stored = head.places.stored m between putter put p key i is_stored is_put keyed none in
    let stays : (place : ℕ) → between ≤ place → place ≤ n → lookup_at h place key ≡ Some (found_of_put h.setup.cache key p)
    = λ place from to.
    one_put h.setup.cache key p _ _ stored.3
    (head.places.puts key (p ∷ []) stored.0 place (omega (arith, stored.2, from)) (λ at caller call f t. moves at caller call (omega (arith, stored.1, f)) (omega (arith, t, to)))) in
    let began : between ≤ n = omega (arith, lists.answered.from, lists.answered.to, le) in
    let named = names h head.legal between after lister list items key found lists (λ place from to. stays place from (omega (arith, to, le))) in (
      stays n began (omega arith),
      address_of_put p,
      refl,
      puts h head.legal m n putter put p i is_put (over_later h m between n putter put (Some (Stored i)) began is_stored) (spares found (address_of_put p) named refl),
    )

-- ---- what a user says about callers over real folders follows from the law that their acts make a history

pub folders_are_safe : SeenMakeHistories → FoldersAreSafe
folders_are_safe law s m cache acts each =
    let g = law s m cache acts each in (
      g.records,
      g.of_acts,
      record {
        readers = readers_never_lie (history_of s (cache.past ++ g.records)) g.headline;
        crashes = crash_safe (history_of s (cache.past ++ g.records)) g.headline;
      },
    )

-- ---- what a user says about threads follows from what each command of a seat was answered

-- the one command has the one reply
pub read_is_right : (h : History) (seat : Taken) → SeatIsAnswered h seat → ReadIsRight seat
read_is_right h seat a i bytes begun got =
    by a.answered (sym a.commands ∙ ap (map said_command) begun) (sym a.replies ∙ ap (map said_reply) got) a.given
  where
    given : (c : Command) (r : Reply) → IsGiven h c r → c ≡ commands.GetHash i → r ≡ Read bytes → Meets i bytes
    given c r g asked told =
        elim g.answers [
          | inl lost ↦ let no : Read bytes ≡ Refused OutOfMemory = sym told ∙ lost in absurd cc
          | inr met ↦ subst (λ a. Answers (call_site h.setup g.call.number) (commands.GetHash i) (plain_reply a)) told
              (subst (λ k. Answers (call_site h.setup g.call.number) k (plain_reply r)) asked met)
        ]

    by : (l : List (Command × Option Reply)) → map (λ a. a.0) l ≡ commands.GetHash i ∷ [] → filter_map (λ a. a.1) l ≡ Read bytes ∷ []
        → AreAnswered h l → Meets i bytes
    by [] e f g = absurd cc
    by ((c, None) ∷ []) e f g = absurd cc
    by ((c, Some r) ∷ []) e f g = let asked : c ≡ commands.GetHash i = cc in let told : r ≡ Read bytes = cc in given c r g.0 asked told
    by (x ∷ y ∷ more) e f g = absurd cc

pub reads_are_right : SeatsAreAnswered → (h : History) → IsLegal h → (seats : List Taken) → All (SeatAgrees 0 h.records) seats → All ReadIsRight seats
reads_are_right law h legal seats agree k d in_range =
    read_is_right h (slice_index_or seats k d) (law h 0 (slice_index_or seats k d) legal (agree k d in_range) refl)
