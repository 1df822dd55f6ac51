-- What exports answer, what the checked ones read first, and exports by the first way that is open.
use Rattle.std.{proofs.Common.{◌≡◌, ◌≢◌, ℕ, true, List, Option, Result, Ok, Err, refl, false}, specs.Prelude.{IfOk}}
use Rattle.cacache_core.specs.declared.errors.Error.{Error}
use Rattle.cacache_store.specs.declared.{store.log.LogItem.{LogItem}, env.Env.{Env}}
use Rattle.cacache_calls.specs.{declared.{command.{How.{How, TheVariants.{Copy, Reflink, HardLink}}, Source.{Source, TheVariants.{Key, Hash}}, Export.{Export}}, reply.Reply.{Reply, TheVariants.{Copied, Done}}}, Promises.{Answers, Exports, OnlyCopies, Only}, Replies.{done}, Runs.{reply_of}, State.{Site}}
use Rattle.cacache_jobs.specs.ReadFirst.{ReadsFirst, Verified}
use Rattle.cacache_sync.specs.{declared.ways.{Exported.{Exported}, ExportMode.{ExportMode, TheVariants.{Shared, Own}}}, Exports.{ExportsBy, Tries, is_closed, ways}}
use Rattle.cacache_calls.specs.declared.command.Command.TheVariants as commands

-- every export answers by how it is made
exports : (site : Site) (source : Source) (e : Export) (r : Reply) → Answers site (commands.Export source e) r → Exports e.how r
exports site (Key key) e r a = a
exports site (Hash i) e r a = a.0

-- a copy answers a count
pub says_count : (site : Site) (source : Source) (e : Export) (r : Reply) → e.how ≡ Copy → Answers site (commands.Export source e) r → OnlyCopies r
says_count site source e r copies a = let x : Exports e.how r = exports site source e r a in rw copies at x

-- every other export says nothing
done_by : (how : How) (r : Reply) → how ≢ Copy → Exports how r → Only Done r
done_by Copy r other x = absurd (other refl)
done_by Reflink r other x = x
done_by HardLink r other x = x

pub says_nothing : (site : Site) (source : Source) (e : Export) (r : Reply) → e.how ≢ Copy → Answers site (commands.Export source e) r → Only Done r
says_nothing site source e r other a = done_by e.how r other (exports site source e r a)

-- ---- what a checked one read first

pub copies_verified : (site : Site) (source : Source) (e : Export) (r : Result ℕ Error) (old new : Option (List LogItem)) → e.checked ≡ true → ReadsFirst site (commands.Export source e) (reply_of Copied r) old new → IfOk r (λ count. Verified site.cache source (Copied count) old new)
copies_verified site source e (Ok count) old new so first = first so
copies_verified site source e (Err error) old new so first = tt

pub links_verified : (site : Site) (source : Source) (e : Export) (r : Result (Unit {0}) Error) (old new : Option (List LogItem)) → e.checked ≡ true → ReadsFirst site (commands.Export source e) (reply_of done r) old new → IfOk r (λ _. Verified site.cache source Done old new)
links_verified site source e (Ok nothing) old new so first = first so
links_verified site source e (Err error) old new so first = tt

-- ---- the question of the path

-- ---- the ways

module _ {S C N : Type 0} (log : S → Option (List LogItem)) (cache : List ℕ) (source : Source) (to : List ℕ) where
  pub linked : (mode : ExportMode) (old new : Env S C N) (r : Result Exported Error) → mode ≡ Shared → ExportsBy log cache source to HardLink old new r → is_closed r ≡ false → Tries log cache source to (ways mode) old new r
  linked mode old new r shared by is = rw shared (new, r, by, rw is (refl, refl))

  pub copied_first : (mode : ExportMode) (old new : Env S C N) (r : Result Exported Error) → mode ≢ Shared → ExportsBy log cache source to Copy old new r → Tries log cache source to (ways mode) old new r
  copied_first Shared old new r own by = absurd (own refl)
  copied_first Own old new r own by = by

  pub copied_second : (mode : ExportMode) (old mid new : Env S C N) (tried r : Result Exported Error) → mode ≡ Shared → ExportsBy log cache source to HardLink old mid tried → is_closed tried ≡ true → ExportsBy log cache source to Copy mid new r → Tries log cache source to (ways mode) old new r
  copied_second mode old mid new tried r shared first closed by = rw shared (mid, tried, first, rw closed by)
