-- Calls and listings that an error ends.
-- Calls that were made one after another, and walks, as moves that leave each tree.
use Rattle.std.proofs.{Common.{◌≡◌, ◌⊎◌, ◌<◌, ◌+◌, ℕ, List, [], ◌∷◌, ◌++◌, Bool, Option, Ok, Err, Result, IfErr, inl, inr, refl, sym, ap, subst, ◌∙◌, map, length, take, drop, get_or, append_assoc, None, Some, append-nil, ◌-◌}, lemmas.List.{drop_more, take-append-drop, Elements.{All-append, All-cons, All-map, All-nil}}}
use Rattle.std.specs.{Prelude.{All, IsErrAnd}, List.{AllByRecursion}}
use Rattle.cacache_core.specs.declared.{errors.{Error.{Error, TheVariants.{IoError, OutOfMemory}}, Fault.{Fault, TheVariants.{NotFound}}}, integrity.digest.Hash.{Hash}}
use Rattle.cacache_store.specs.declared.store.log.LogItem.{LogItem}
use Rattle.cacache_entry.specs.Bucket.{Found}
use Rattle.cacache_calls.specs.{declared.{command.Command.{Command}, reply.Reply.{Reply}}, State.{Site, Item}, Table.{opening}, Runs.{Ran, plain_item, without_message, Moves, Gains}, Licence.{AllMay, looking_on}}
use Rattle.cacache_calls.proofs.Within.{calls_keep_to}
use Rattle.cacache_jobs.specs.JobStates.{site_of}
use Rattle.cacache_walks.specs.{Listing.{ListsContents}, Reading.{Folder, ReadsFolders, StopsWalk, folders_in}}
use Rattle.cacache_keep.specs.{Calls.{Asks, AsksEach, HasNoIndex, IsFirstError, IsIndexError, ListsEntries, MadeCalls, SaysWhy, StopsIndex, StopsQuestions, StopsReading, question_of, removal}, Reading.{ReadsEach}, Repairing.{DropsDamaged}, Walking.{MeetsIndex}}
use Rattle.cacache_disk.specs.Tree.{Tree}
use Rattle.cacache_laws.specs.{Looks.{OnlyLooks}, Sequence.{tree_on, AreAnswered}, trees.Answers.{AnswersOn}}
use Rattle.cacache_laws.proofs.{trees.Logged.{gains_join, tree_rest, answered_split, answered_rest, looked}, Readings.Looks.{moves_keep}}
use Rattle.cacache_calls.specs.declared.command.Command.TheVariants as commands
use Rattle.cacache_calls.specs.declared.reply.Reply.TheVariants as replies

-- ---- calls after calls

pub made_both : (site : Site) (calls more : List (Command × Reply)) (old mid new : Option (List LogItem)) → MadeCalls site calls old mid → MadeCalls site more mid new → MadeCalls site (calls ++ more) old new
made_both site [] more old mid new made after = subst (λ (log : Option (List LogItem)). MadeCalls site more log new) made after
made_both site (c ∷ calls) more old mid new made after = (made.0, made.1, made_both site calls more made.0 mid new made.2 after)

why_on : (calls more : List (Command × Reply)) (e : Error) → SaysWhy more e → SaysWhy (calls ++ more) e
why_on calls more e (inl memory) = inl memory
why_on calls more e (inr last) =
    inr (calls ++ last.0, last.1, ap (λ (l : List (Command × Reply)). calls ++ l) last.2 ∙ sym (append_assoc calls last.0 (last.1 ∷ [])), last.3)

-- the error ends what begins with these calls
pub stops_on : (site : Site) (calls : List (Command × Reply)) (e : Error) (old mid new : Option (List LogItem)) → MadeCalls site calls old mid → All (λ (c : Command × Reply). Asks c.0) calls → StopsQuestions site e mid new → StopsQuestions site e old new
stops_on site calls e old mid new made harmless s = record {
  calls = calls ++ s.calls;
  made = made_both site calls s.calls old mid new made s.made;
  harmless = All-append (λ (c : Command × Reply). Asks c.0) calls s.calls harmless s.harmless;
  why = why_on calls s.calls e s.why;
}

-- memory ran out after these calls
pub stops_lost : (site : Site) (calls : List (Command × Reply)) (old new : Option (List LogItem)) → MadeCalls site calls old new → All (λ (c : Command × Reply). Asks c.0) calls → StopsQuestions site OutOfMemory old new
stops_lost site calls old new made harmless = record { calls = calls; made = made; harmless = harmless; why = inl refl }

-- this call was refused
pub stops_at : (site : Site) (command : Command) (e : Error) (old new : Option (List LogItem)) → Asks command → Ran (opening site command) (replies.Refused (without_message e)) old new → StopsQuestions site e old new
stops_at site command e old new reading ran = record {
  calls = (command, replies.Refused (without_message e)) ∷ [];
  made = (new, ran, refl);
  harmless = All-cons (λ (c : Command × Reply). Asks c.0) (command, replies.Refused (without_message e)) [] reading (All-nil (λ (c : Command × Reply). Asks c.0));
  why = inr ([], (command, replies.Refused (without_message e)), refl, refl);
}

-- ---- questions, listings

pub asks_harmless : (asks : List (Found × Bool)) → All (λ (c : Command × Reply). Asks c.0) (map question_of asks)
asks_harmless asks = All-map (λ (c : Command × Reply). Asks c.0) question_of asks (λ k d below. tt)

entries_plain : (entries : List Found) (more : List Item) → map plain_item (map Ok entries ++ more) ≡ map Ok entries ++ map plain_item more
entries_plain [] more = refl
entries_plain (f ∷ fs) more = ap (λ (l : List Item). Ok f ∷ l) (entries_plain fs more)

-- the first error, without messages
first_plain : (items : List Item) (e : Error) → IsFirstError items e → IsFirstError (map plain_item items) (without_message e)
first_plain items e (entries, rest, is) = (entries, map plain_item rest, ap (map plain_item) is ∙ entries_plain entries (Err e ∷ rest))

only_missing : (item : Item) (message : List ℕ) → plain_item item ≡ Err (IoError NotFound message) → (m : List ℕ) × (item ≡ Err (IoError NotFound m))
only_missing (Err (IoError fault m)) message is = (m, (let same : fault ≡ NotFound = cc in ap (λ (f : Fault). Err (IoError f m)) same))
only_missing item message is = absurd (cc)

missing_too : (items : List Item) → HasNoIndex (map plain_item items) → HasNoIndex items
missing_too (item ∷ []) (message, is) =
    let it = only_missing item message (cc) in (it.0, ap (λ (i : Item). i ∷ []) it.1)
missing_too items (message, is) = absurd (cc)

-- the error ended the listing of the index, or memory ran out
pub items_stop : (cache base : List ℕ) (items : List Item) (e : Error) (odd : List (List ℕ)) (old new : Option (List LogItem)) → MeetsIndex cache (map plain_item items) odd old new → (e ≡ OutOfMemory) ⊎ IsIndexError items e → StopsIndex (site_of cache base 0) e old new
items_stop cache base items e odd old new met (inl memory) = (replies.Listed (map plain_item items), met.0, inl memory)
items_stop cache base items e odd old new met (inr (first, apart)) = (replies.Listed (map plain_item items), met.0, inr (first_plain items e first, λ missing. apart (missing_too items missing)))

-- entries, and then an error
pub first_error : (items : List Item) (entries : List Found) (e : Error) (k : ℕ) → k < length items → map Ok entries ≡ take k items → Err e ≡ get_or items k (Err e) → IsFirstError items e
first_error items entries e k below before is =
    (entries, drop (k + 1) items, sym (take-append-drop k items) ∙ ap (λ (l : List Item). take k items ++ l) (drop_more items k (Err e) below ∙ ap (λ (x : Item). x ∷ drop (k + 1) items) (sym is)) ∙ ap (λ (l : List Item). l ++ Err e ∷ drop (k + 1) items) (sym before))

pub asks_stop : (site : Site) (entries dangling : List Found) (e : Error) (old mid new : Option (List LogItem)) → AsksEach site entries dangling old mid → StopsQuestions site e mid new → StopsQuestions site e old new
asks_stop site entries dangling e old mid new r s = stops_on site (map question_of r.asks) e old mid new r.asking (asks_harmless r.asks) s

-- the error ended the questions after a listing of the index
pub entries_stop : (site : Site) (entries : List Found) (e : Error) (old mid new : Option (List LogItem)) → ListsEntries site entries old mid → StopsQuestions site e mid new → StopsReading site e old new
entries_stop site entries e old mid new l s = inr (entries, mid, l, s)

-- memory ran out right there
pub lost_here : (site : Site) (log : Option (List LogItem)) → StopsQuestions site OutOfMemory log log
lost_here site log = stops_lost site [] log log refl (All-nil (λ (c : Command × Reply). Asks c.0))

-- ---- results

-- what holds of an error if something else does
pub error_so : {X E : Type 0} {P Q : E → Type 0} (r : Result X E) → ((e : E) → P e → Q e) → IfErr r P → IfErr r Q
error_so (Ok x) f h = h
error_so (Err e) f h = f e h

-- the error that `?` hands on
pub error_as : {X E : Type 0} (P : E → Type 0) (r : Result X E) (e : E) → IsErrAnd r (λ x. x ≡ e) → P e → IfErr r P
error_as P (Ok x) e same p = tt
error_as P (Err x) e same p = subst P (sym same) p

-- what holds at a base folder holds at the same one
pub at_base : (P : Site → Type 0) (cache base before : List ℕ) → before ≡ base → P (site_of cache before 0) → P (site_of cache base 0)
at_base P cache base before same p = subst (λ (b : List ℕ). P (site_of cache b 0)) same p

-- ---- contents that are dropped

-- a listing of the contents, the reading of each, and the removal of the damaged ones, where the base folder is the same
pub drops : (cache base before : List ℕ) (addresses damaged : List (List Hash)) (strange : List (List ℕ)) (good : ℕ) (old found read new : Option (List LogItem)) → before ≡ base
    → ListsContents cache addresses strange old found → ReadsEach cache addresses good damaged found read → MadeCalls (site_of cache before 0) (map removal damaged) read new → DropsDamaged (site_of cache base 0) old new
drops cache base before addresses damaged strange good old found read new same lists reads removes = record {
  addresses = addresses;
  strange = strange;
  found = found;
  contents = lists;
  good = good;
  damaged = damaged;
  read = read;
  reading = reads;
  removing = at_base (λ s. MadeCalls s (map removal damaged) read new) cache base before same removes;
}

abbrev pub EachOn : Site → Tree → List (Command × Reply) → Type 0
EachOn site t = AllByRecursion (λ (c : Command × Reply). AnswersOn site t c.0 c.1)

abbrev pub AllLook : List (Command × Reply) → Type 0
AllLook = AllByRecursion (λ (c : Command × Reply). OnlyLooks c.0)

pub gains_none : (old new : Option (List LogItem)) → new ≡ old → Gains old new []
gains_none None new e = e
gains_none (Some log) new e = e ∙ ap Some (sym (append-nil log))

-- the moves of calls
pub calls_gain : (site : Site) (calls : List (Command × Reply)) (old new : Option (List LogItem)) → MadeCalls site calls old new → (moves : Moves) × Gains old new moves
calls_gain site [] old new made = ([], gains_none old new made)
calls_gain site (c ∷ calls) old new made =
    let rest = calls_gain site calls made.0 new made.2 in
    (made.1.0 ++ rest.0, gains_join old made.0 new made.1.0 rest.0 made.1.2 rest.1)

-- ---- moves that only look

abbrev pub Look : Moves → Type 0
Look moves = AllMay looking_on moves

pub folders_look : (todo : List Folder) (moves : Moves) → ReadsFolders todo moves → Look moves
folders_look todo [] h = tt
folders_look [] (m ∷ moves) h = absurd h
folders_look (f ∷ todo) (m ∷ moves) h = (rw h.0 tt, folders_look (folders_in f h.3.0 ++ todo) moves h.3.2)

pub stops_look : (left : ℕ) (todo : List Folder) (moves : Moves) (e : Error) → StopsWalk left todo moves e → Look moves
stops_look left todo [] e h = tt
stops_look left [] (m ∷ moves) e h = absurd h
stops_look left (f ∷ todo) (m ∷ moves) e h = (
  rw h.0 tt,
  elim h.3 [
    | inl on ↦ stops_look (left - length on.0) (folders_in f on.0 ++ todo) moves e on.2
    | inr ends ↦ subst Look (sym ends.0) tt
  ],
)

-- ---- logs that gained them

-- moves that a log gained, which leave each tree
pub record Keeps (old new : Option (List LogItem)) : Type 0 where
  pub moves : Moves
  pub gains : Gains old new moves
  pub stays : (t : Tree) → tree_on t moves ≡ t

pub gained : (old new : Option (List LogItem)) (moves : Moves) → Gains old new moves → Look moves → Keeps old new
gained old new moves gains look = record { moves = moves; gains = gains; stays = λ t. moves_keep t moves look }

pub then_keeps : (old mid new : Option (List LogItem)) → Keeps old mid → Keeps mid new → Keeps old new
then_keeps old mid new a b = record {
  moves = a.moves ++ b.moves;
  gains = gains_join old mid new a.moves b.moves a.gains b.gains;
  stays = λ t. tree_rest t a.moves b.moves (a.stays t) ∙ b.stays t;
}

-- a listing of the index leaves each tree
pub index_keeps : (site : Site) (reply : Reply) (old new : Option (List LogItem)) → Ran (opening site commands.Ls) reply old new → Keeps old new
index_keeps site reply old new ran = gained old new ran.0 ran.2 (calls_keep_to looking_on site commands.Ls ran.0 reply tt ran.1)

-- ---- calls that only look

-- on a tree that answers their moves they are these calls
pub record LooksMade (site : Site) (calls : List (Command × Reply)) (old new : Option (List LogItem)) : Type 0 where
  pub keeps : Keeps old new
  pub tells : (t : Tree) → AreAnswered t keeps.moves → EachOn site t calls

pub made_looks : (site : Site) (calls : List (Command × Reply)) (old new : Option (List LogItem)) → AllLook calls → MadeCalls site calls old new → LooksMade site calls old new
unfolding gained then_keeps
made_looks site [] old new looks made = record { keeps = record { moves = []; gains = gains_none old new made; stays = λ t. refl }; tells = λ t a. tt }
made_looks site (c ∷ calls) old new looks made =
    let ran = made.1 in
    let rest = made_looks site calls made.0 new looks.1 made.2 in
    let may = calls_keep_to looking_on site c.0 ran.0 c.1 looks.0 ran.1 in
    record {
      keeps = then_keeps old made.0 new (gained old made.0 ran.0 ran.2 may) rest.keeps;
      tells = λ t a. ((looked site t c.0 c.1 ran.0 looks.0 ran.1 (answered_split t ran.0 rest.keeps.moves a).0).0, rest.tells t (answered_rest t ran.0 rest.keeps.moves (moves_keep t ran.0 may) a));
    }
