-- Lookups of the keys of entries that are to be dropped, one after another.
use Rattle.std.proofs.{Common.{◌≡◌, ◌∙◌, ◌<◌, ◌+◌, ℕ, true, List, [], ◌∷◌, ◌++◌, Option, sym, ap, subst, map, length, get_or, take, drop, string_bytes}, lemmas.List.{drop_more, map-append, take-append-drop, take_more, Elements.{All-push}}}
use Rattle.cacache_core.specs.declared.errors.Error.{Error}
use Rattle.cacache_store.specs.declared.store.log.LogItem.{LogItem}
use Rattle.cacache_entry.specs.{Bucket.{Found}, View.{found_view}, declared.metadata.Metadata.{Metadata}}
use Rattle.cacache_calls.{specs.{declared.reply.Reply.{Reply}, Licence.{looking_on}, Runs.{Ran}, State.{Site}, Table.{opening}}, proofs.Within.{calls_keep_to}}
use Rattle.cacache_calls.specs.declared.command.Command.TheVariants as commands
use Rattle.cacache_calls.specs.declared.reply.Reply.TheVariants as replies
use Rattle.cacache_keep.specs.Confirming.{Confirms, Leads, LeadsAway, Lookup, StopsConfirming, finding, is_led}
use Rattle.cacache_keep.proofs.{Asked.{mapped_on}, Stopped.{AllLook, Keeps, LooksMade, gained, made_looks, then_keeps}}

-- ---- lookups that found their entries

views_more : (entries : List Metadata) (k : ℕ) (m : Metadata) → k < length entries → m ≡ get_or entries k m
    → map found_view (take (k + 1) entries) ≡ map found_view (take k entries) ++ found_view m ∷ []
views_more entries k m below is =
    let front : take (k + 1) entries ≡ take k entries ++ m ∷ [] = take_more entries k m below ∙ ap (λ (x : Metadata). take k entries ++ x ∷ []) (sym is) in
    ap (map found_view) front ∙ map-append found_view (take k entries) (m ∷ [])

views_split : (entries : List Metadata) (k : ℕ) (m : Metadata) → k < length entries → m ≡ get_or entries k m → map found_view entries ≡ map found_view (take k entries) ++ found_view m ∷ map found_view (drop (k + 1) entries)
views_split entries k m below is =
    ap (map found_view) (sym (take-append-drop k entries) ∙ ap (λ (l : List Metadata). take k entries ++ l) (drop_more entries k m below ∙ ap (λ (x : Metadata). x ∷ drop (k + 1) entries) (sym is)))
    ∙ map-append found_view (take k entries) (m ∷ drop (k + 1) entries)

-- the next one was found too
pub one_confirmed : (site : Site) (entries : List Metadata) (k : ℕ) (m : Metadata) (key : List ℕ) (found : Option Found) (old mid new : Option (List LogItem)) → k < length entries → m ≡ get_or entries k m → key ≡ string_bytes m.key → is_led (found_view m) found ≡ true
    → Confirms site (map found_view (take k entries)) old mid → Ran (opening site (commands.Find key)) (replies.LookedUp found) mid new → Confirms site (map found_view (take (k + 1) entries)) old new
one_confirmed site entries k m key found old mid new below is same leads done ran =
    let l : Lookup = (found_view m, found) in
    record {
      lookups = done.lookups ++ l ∷ [];
      each = map-append (λ (x : Lookup). x.0) done.lookups (l ∷ []) ∙ ap (λ (fs : List Found). fs ++ found_view m ∷ []) done.each ∙ sym (views_more entries k m below is);
      lead = All-push Leads done.lookups l done.lead leads;
      calls = mapped_on site finding done.lookups l old mid new done.calls (subst (λ (x : List ℕ). Ran (opening site (commands.Find x)) (replies.LookedUp found) mid new) same ran);
    }

-- the next one wasn't
pub not_confirmed : (site : Site) (entries : List Metadata) (k : ℕ) (m : Metadata) (key : List ℕ) (reply : Reply) (e : Error) (old mid new : Option (List LogItem)) → k < length entries → m ≡ get_or entries k m → key ≡ string_bytes m.key → LeadsAway (found_view m) reply e
    → Confirms site (map found_view (take k entries)) old mid → Ran (opening site (commands.Find key)) reply mid new → StopsConfirming site (map found_view entries) e old new
not_confirmed site entries k m key reply e old mid new below is same away done ran = record {
  done = map found_view (take k entries);
  next = found_view m;
  rest = map found_view (drop (k + 1) entries);
  split = views_split entries k m below is;
  between = mid;
  confirms = done;
  reply = reply;
  looked = subst (λ (x : List ℕ). Ran (opening site (commands.Find x)) reply mid new) same ran;
  why = away;
}

-- ---- they only look

finds_look : (lookups : List Lookup) → AllLook (map finding lookups)
finds_look [] = tt
finds_look (l ∷ lookups) = (tt, finds_look lookups)

pub confirms_made : (site : Site) (entries : List Found) (old new : Option (List LogItem)) → (c : Confirms site entries old new) → LooksMade site (map finding c.lookups) old new
confirms_made site entries old new c = made_looks site (map finding c.lookups) old new (finds_look c.lookups) c.calls

pub confirms_keep : (site : Site) (entries : List Found) (old new : Option (List LogItem)) → Confirms site entries old new → Keeps old new
confirms_keep site entries old new c = (confirms_made site entries old new c).keeps

pub astray_keeps : (site : Site) (entries : List Found) (e : Error) (old new : Option (List LogItem)) → StopsConfirming site entries e old new → Keeps old new
astray_keeps site entries e old new s =
    let ran = s.looked in
    then_keeps old s.between new (confirms_keep site s.done old s.between s.confirms) (gained s.between new ran.0 ran.2 (calls_keep_to looking_on site (commands.Find s.next.key) ran.0 s.reply tt ran.1))
