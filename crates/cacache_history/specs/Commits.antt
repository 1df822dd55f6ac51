-- What a commit does to contents and buckets: nothing; its content; or its content and then its
-- entry. And what a removal removes.
use Rattle.std.specs.Prelude.{◌≡◌, ◌⊎◌, ◌<◌, ◌^◌, ℕ, true, List, [], ◌∷◌, ◌++◌, Option, None, Some, Ok, length}
use Rattle.cacache_core.specs.Paths.{Names, names_of}
use Rattle.cacache_store.specs.declared.store.step.Step.TheVariants as steps
use Rattle.cacache_store.specs.declared.store.answer.Answer.TheVariants as answers
use Rattle.cacache_store.specs.Plain.{PlainStep, PlainAnswer}
use Rattle.cacache_entry.specs.Bucket.{Found}
use Rattle.cacache_calls.specs.{declared.{command.Command.{Command}, reply.Reply.{Reply, TheVariants.{Refused}}, carried.Commit.{Commit}, target.Target.{Target}}, Steps.{content_path, bucket_path}, State.{Site, Insertion}, Inserting.{insertion, deletion}, Storing.{insertion_of, put_commit}, Linking.{commit_for, link_target}, Replies.{bucket_shown, lookup}, Runs.{Moves}, Verifying.{ReadsWhole}}
use Rattle.cacache_calls.specs.declared.command.Command.TheVariants as commands
use Rattle.cacache_value.specs.Acts.{Act, Nothing, PutBytes, PutLink, AddEntries, Drop, MakeFolders, DropFolder, act_of, Move}
use Rattle.cacache_history.specs.{Setup.{call_site}, History.{History, Turn, Call, Reaches}, Turns.{made_in}}

-- ---- deeds

-- what a step does to contents or buckets, or finds there
pub data Deed : Type 0 where
  -- it acts so on contents or buckets
  does : Act → Deed
  -- it finds that something is at this path
  finds : List ℕ → Deed

-- folders are left aside, and so is a bucket that gains no entry
abbrev pub deeds_of_act : Act → List Deed
deeds_of_act Nothing = []
deeds_of_act (PutBytes names bytes) = does (PutBytes names bytes) ∷ []
deeds_of_act (PutLink names target) = does (PutLink names target) ∷ []
deeds_of_act (AddEntries names []) = []
deeds_of_act (AddEntries names (e ∷ es)) = does (AddEntries names (e ∷ es)) ∷ []
deeds_of_act (Drop names) = does (Drop names) ∷ []
deeds_of_act (MakeFolders names count) = []
deeds_of_act (DropFolder names) = []

-- a question that was answered yes
abbrev pub finds_in : PlainStep → PlainAnswer → List Deed
finds_in (steps.Exists path) (answers.There true) = finds path ∷ []
finds_in step answer = []

-- what one move did, and what it found
abbrev pub deeds_of : Move → List Deed
deeds_of m = deeds_of_act (act_of m.step m.luck m.answer) ++ finds_in m.step m.answer

-- what these turns did, in order
abbrev pub deeds : List Turn → List Deed
deeds [] = []
deeds (turn ∷ turns) = deeds_of turn.move ++ deeds turns

-- ---- the cases

-- the content is put at the place of its integrity, or is found there
abbrev pub PutsContent : Commit → (Names → Act) → Deed → Type 0
PutsContent c put (does act) =
    (names : Names) × (names_of (content_path c.cache c.computed) ≡ Ok names) × (act ≡ put names)
PutsContent c put (finds path) = path ≡ content_path c.cache c.computed

-- the entry is added to the bucket of its key
abbrev pub IsAdded : Insertion → Deed → Type 0
IsAdded i (does act) =
    (names : Names) × (names_of (bucket_path i.cache i.entry.key) ≡ Ok names)
    × (act ≡ AddEntries names (i.entry ∷ []))
IsAdded i (finds path) = ⊥

-- the call isn't over, or was refused
abbrev pub IsNotOk : Option Reply → Type 0
IsNotOk None = Unit {0}
IsNotOk (Some (Refused e)) = Unit {0}
IsNotOk (Some r) = ⊥

-- it did nothing, and isn't Ok
abbrev pub DidNothing : List Deed → Option Reply → Type 0
DidNothing ds reply = (ds ≡ []) × IsNotOk reply

-- an insertion did nothing, or added its entry
abbrev pub InsertionAdds : Insertion → List Deed → Option Reply → Type 0
InsertionAdds i ds reply = DidNothing ds reply ⊎ ((entry : Deed) × IsAdded i entry × (ds ≡ entry ∷ []))

-- once the content is there, a commit with a key adds its entry
abbrev pub AddsAfter : Commit → Option (List ℕ) → List Deed → Option Reply → Type 0
AddsAfter c None ds reply = ds ≡ []
AddsAfter c (Some key) ds reply = InsertionAdds (insertion_of c key) ds reply

-- a commit did nothing, or put its content, and then what follows it
abbrev pub CommitsAs : Commit → (Names → Act) → List Deed → Option Reply → Type 0
CommitsAs c put ds reply =
    DidNothing ds reply
    ⊎ ((content : Deed) × (more : List Deed) × PutsContent c put content × (ds ≡ content ∷ more)
    × AddsAfter c c.key more reply)

-- the moves begin with the target's size and then read it to its end; this holds of its bytes
abbrev pub ReadsTarget : List ℕ → (List ℕ → Type 0) → Moves → Type 0
ReadsTarget path P moves =
    (n : ℕ) × (more : Moves) × (moves ≡ (steps.Size path, answers.Length n) ∷ more)
    × ReadsWhole path P more

-- a link's commit is that of bytes of this count, and its content a link to the target
abbrev pub LinksTo : Target ℕ → List Turn → Option Reply → List ℕ → Type 0
LinksTo t turns reply bytes =
    (length bytes < 2 ^ 64)
    × CommitsAs (commit_for t bytes) (λ names. PutLink names t.path) (deeds turns) reply

-- a link did nothing, or its commit is that of all bytes that the call itself read from the target
abbrev pub LinksAs : Target ℕ → List Turn → Option Reply → Type 0
LinksAs t turns reply =
    DidNothing (deeds turns) reply ⊎ ReadsTarget t.path (LinksTo t turns reply) (made_in turns)

-- ---- removals

-- at most what lies at these paths was removed, in their order
abbrev pub DropsAmong : List (List ℕ) → List Deed → Type 0
DropsAmong [] ds = ds ≡ []
DropsAmong (path ∷ paths) ds =
    DropsAmong paths ds
    ⊎ ((names : Names) × (more : List Deed) × (names_of path ≡ Ok names)
    × (ds ≡ does (Drop names) ∷ more) × DropsAmong paths more)

-- the first turn read the key's bucket, and a lookup in its answer found this
abbrev pub FoundFirst : List ℕ → List ℕ → List Turn → Found → Type 0
FoundFirst cache key turns found =
    (turn : Turn) × (more : List Turn) × (turns ≡ turn ∷ more)
    × (turn.move.step ≡ steps.ReadAll (bucket_path cache key))
    × (lookup key (bucket_shown turn.move.answer) ≡ Ok (Some found))

-- the content that the key's lookup found was removed at most, and then the key's bucket
abbrev pub RemovesFound : List ℕ → List ℕ → List Turn → Type 0
RemovesFound cache key turns =
    DropsAmong (bucket_path cache key ∷ []) (deeds turns)
    ⊎ ((found : Found) × FoundFirst cache key turns found
    × DropsAmong (content_path cache found.integrity ∷ bucket_path cache key ∷ []) (deeds turns))

-- something was removed, or found there
abbrev pub IsRemoval : Deed → Type 0
IsRemoval (does (Drop names)) = Unit {0}
IsRemoval (does act) = ⊥
IsRemoval (finds path) = Unit {0}

-- the same holds of each of these
abbrev pub AreRemovals : List Deed → Type 0
AreRemovals [] = Unit {0}
AreRemovals (d ∷ ds) = IsRemoval d × AreRemovals ds

-- ---- by the command

-- what a call of this command did, by the reply that it has so far
abbrev pub IsCase : Site → Command → List Turn → Option Reply → Type 0
IsCase site (commands.Put p) turns reply =
    CommitsAs (put_commit site.cache p) (λ names. PutBytes names p.data) (deeds turns) reply
IsCase site (commands.Link l) turns reply = LinksAs (link_target site l) turns reply
IsCase site (commands.Insert i) turns reply = InsertionAdds (insertion site.cache i) (deeds turns) reply
IsCase site (commands.Delete d) turns reply = InsertionAdds (deletion site.cache d) (deeds turns) reply
IsCase site (commands.Find key) turns reply = Unit {0}
IsCase site (commands.Get key) turns reply = Unit {0}
IsCase site (commands.GetHash i) turns reply = Unit {0}
IsCase site (commands.Exists i) turns reply = Unit {0}
IsCase site commands.Ls turns reply = Unit {0}
IsCase site (commands.Export source e) turns reply = Unit {0}
IsCase site (commands.RemoveHash i) turns reply =
    DropsAmong (content_path site.cache i ∷ []) (deeds turns)
IsCase site (commands.RemoveFully key) turns reply = RemovesFound site.cache key turns
IsCase site commands.Clear turns reply = AreRemovals (deeds turns)

-- each commit and each removal did one of the cases, whether it is over or was left on its way
abbrev pub CommitsAreCases : History → Type 0
CommitsAreCases h =
    (call : Call) (reply : Option Reply) → Reaches h call reply
    → IsCase (call_site h.setup call.number) call.command call.turns reply
