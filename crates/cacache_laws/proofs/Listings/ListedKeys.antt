-- What a listing of a cache answers, by what the keys lead to.
use Rattle.std.proofs.{Common.{arith, ◌≡◌, ◌⊎◌, inl, inr, ℕ, Bool, true, false, cond, List, [], ◌∷◌, ◌++◌, Ok, Err, take, refl, sym, subst, ◌∙◌}, lemmas.List.Elements.{All-nil, All-cons, All-append, All-take}}
use Rattle.std.specs.Prelude.{All}
use Rattle.cacache_laws.specs.{Caches.{Called, AStepFailed, IsCache, setup_at}, Sequence.{turns_on}, ListedKeys.{IsShown, AreAllFound, AllListed, ListsKeys, GivesKeys}}
use Rattle.cacache_laws.proofs.{Readings.{Known.{Known, known}, Looks.{moves_place, run_turns}}, Calls.Sequence.{turns_made}, Listings.ListedTurns.{both_all, once_front, Explained, turns_explained, Leads, turns_lead, all_find, has_bucket, turns_list}}
use Rattle.cacache_core.specs.declared.errors.{Error.TheVariants.{OutOfMemory}, Fault.{Fault}}
use Rattle.cacache_store.specs.declared.store.log.LogItem.{LogItem}
use Rattle.cacache_disk.specs.Replay.{tree_of}
use Rattle.cacache_calls.specs.{declared.{command.Command.{Command}, reply.Reply.{Reply}}, Promises.{Faulted}, Replies.{items_given, too_deep, ListsGiven}, Runs.{plain_reply}, State.{Site, Item}, Table.{opening}, Walking.{most}, Licence.{looking_on, AllMay}}
use Rattle.cacache_calls.proofs.{ListReplies.{lists_shown}, Within.{calls_keep_to}}
use Rattle.cacache_calls.specs.declared.command.Command.TheVariants as commands
use Rattle.cacache_calls.specs.declared.reply.Reply.TheVariants as replies
use Rattle.cacache_history.specs.{History.{Turn}, ListingTurns.{NoKeyTwice, is_past, listing_of, ListsHeld}, TurnReplies.{ReadsValue}, Turns.{made_in, EachTurn}}
use Rattle.cacache_history.proofs.Histories.Holding.{TurnsHold}

module _ (cache base : List ℕ) (old new : List LogItem) where
  shown_item : (Why : Fault → Type 0) → ((fault : Fault) → Why fault → AStepFailed old new) → (item : Item) → Leads (setup_at cache base) (tree_of old) item → Explained Why item → IsShown cache old new item
  shown_item Why failed (Ok f) leads why = leads
  shown_item Why failed (Err e) leads why = inl (failed why.0 why.1)

  -- past the most, the first items and an error
  all_shown : (b : Bool) (items : List Item) → All (IsShown cache old new) items → All (IsShown cache old new) (cond b (take most items ++ too_deep ∷ []) items)
  all_shown true items h =
      All-append (IsShown cache old new) (take most items) (too_deep ∷ []) (All-take (IsShown cache old new) most items h) (All-cons (IsShown cache old new) too_deep [] (inr refl) (All-nil (IsShown cache old new)))
  all_shown false items h = h

no_key_twice : (b : Bool) (items : List Item) → NoKeyTwice items → NoKeyTwice (cond b (take most items ++ too_deep ∷ []) items)
no_key_twice true items h = once_front most items h
no_key_twice false items h = h

never_entries : (items : List Item) → AreAllFound (items ++ too_deep ∷ []) → ⊥
never_entries (Ok f ∷ items) h = never_entries items h
never_entries items h = h

pub unless_past : (P : List Item → Type 0) (b : Bool) (items : List Item) → (b ≡ false → AreAllFound items → P items) → AreAllFound (cond b (take most items ++ too_deep ∷ []) items)
    → P (cond b (take most items ++ too_deep ∷ []) items)
unless_past P b items h entries = grind (arith, never_entries)

module _ (cache base : List ℕ) (old new : List LogItem) (list : List Item) (sound : IsCache cache old) (k : Known cache base commands.Ls (replies.Listed list) old new) where
  abbrev turns : List Turn
  turns = turns_on (tree_of old) k.call.moves

  may : AllMay looking_on k.call.moves
  may = calls_keep_to looking_on (record { cache = cache; base = base; number = k.call.number }) commands.Ls k.call.moves (replies.Listed list) tt k.run

  here : EachTurn (λ turn. turn.place ≡ tree_of old) turns
  here = moves_place (tree_of old) (tree_of old) k.call.moves refl may

  holds : TurnsHold (setup_at cache base) turns
  holds = run_turns (setup_at cache base) (tree_of old) (opening (record { cache = cache; base = base; number = k.call.number }) commands.Ls) k.call.moves (replies.Listed list) sound may k.run k.answers.disk

  failed : (fault : Fault) → Faulted (made_in turns) fault → AStepFailed old new
  failed fault f = (k.call.moves, k.gained, fault, subst (λ moves. Faulted moves fault) (turns_made (tree_of old) k.call.moves) f)

  lists_keys : ListsHeld (setup_at cache base) turns (replies.Listed list) → ListsKeys cache list old new
  lists_keys h =
      let items = h.0 in
      let s = setup_at cache base in
      let t = tree_of old in
      let why = Faulted (made_in turns) in
      let past = is_past turns h.0 in
      let shown = both_all (Leads s t) (Explained why) (IsShown cache old new) (shown_item cache base old new why failed) items (turns_lead s t turns items here h.1) (turns_explained s turns items holds h.1) in
      let all : AreAllFound (listing_of turns h.0) → AllListed cache old (listing_of turns h.0)
      = unless_past (AllListed cache old) past items (λ near entries key found leads.
      let finds = all_find s t key found leads turns here in
      turns_list s key found turns items holds finds h.1 entries (h.4.finds near key (has_bucket s key found turns finds))) in
      let same : list ≡ listing_of turns h.0 = (let reply : replies.Listed list ≡ replies.Listed (listing_of turns h.0) = h.4.answers in cc) in
      subst (λ l. ListsKeys cache l old new) (sym same) (record { shown = all_shown cache base old new past items shown; once = no_key_twice past items h.3; all = all })

gives_keys : (cache base : List ℕ) (old new : List LogItem) → IsCache cache old → (r : Reply) → plain_reply r ≡ r → (k : Known cache base commands.Ls r old new) → ListsGiven (items_given k.call.moves) r → GivesKeys cache r old new
gives_keys cache base old new sound (replies.Listed list) plain k gave =
    let s = setup_at cache base in
    let moves = turns_on (tree_of old) k.call.moves in
    let reads : (k.call.reply ≡ replies.Refused OutOfMemory) ⊎ ReadsValue (setup_at cache base) commands.Ls (turns_on (tree_of old) k.call.moves) (plain_reply k.call.reply)
    = subst (λ (x : Command). (k.call.reply ≡ replies.Refused OutOfMemory) ⊎ ReadsValue (setup_at cache base) x (turns_on (tree_of old) k.call.moves) (plain_reply k.call.reply)) k.command_is k.answers.reads in
    elim reads [
      | inl e ↦ (let no : replies.Listed list ≡ replies.Refused OutOfMemory = sym k.reply_is ∙ e in absurd cc)
      | inr h ↦
          lists_keys cache base old new list sound k
          (subst (ListsHeld s moves) plain (subst (λ r. ListsHeld (setup_at cache base) (turns_on (tree_of old) k.call.moves) (plain_reply r)) k.reply_is h))
    ]
gives_keys cache base old new sound (replies.Refused e) plain k gave = gave
gives_keys cache base old new sound other plain k gave = absurd gave

-- each listing answers entries that keys lead to
pub listings_give : (cache : List ℕ) (r : Reply) (old new : List LogItem) → IsCache cache old → Called cache commands.Ls r old new
    → GivesKeys cache r old new
listings_give cache r old new sound c =
    let k = known cache commands.Ls r old new c tt tt sound in
    let site : Site = record { cache = cache; base = c.base; number = k.call.number } in
    gives_keys cache c.base old new sound r c.plain k (lists_shown site k.call.moves r k.run)
