-- The law of a read of layers.
use Rattle.std.{proofs.{Common.{◌≡◌, inl, inr, ℕ, List, None, Some, Vec, Global, Result, sym, ap, ◌∙◌}, lemmas.Result.{MatchResult-weaker}}, specs.Prelude.{IfOk}}
use Rattle.cacache_core.specs.{declared.{errors.Error.{Error}, integrity.digest.Hash.{Hash}}, Paths.{home_of}}
use Rattle.cacache_store.specs.declared.store.log.LogItem.{LogItem}
use Rattle.cacache_disk.specs.Replay.{tree_of}
use Rattle.cacache_value.specs.Value.{value_of_tree}
use Rattle.cacache_sync.specs.{declared.layers.Layered.{Layered}, Layers.{lacks_entry}}
use Rattle.cacache_laws.specs.{Caches.{HasKey, LacksKey}, Looks.{SameStaysKnown}, results.{Composed.{GivesLayered}, Reads.{GivesJust, KeyRead}}}
use Rattle.uses_keep.proofs.several.read_layers.Goals as goal

module _ (l : Layered) (key : List ℕ) (r : Result (Vec ℕ Global) Error) (old new : List LogItem) where
  abbrev Gives : Type 0
  Gives = GivesLayered lacks_entry (λ cache. KeyRead cache key) (λ cache. LacksKey cache key) l r old new

  stays : Gives → tree_of new ≡ tree_of old
  stays (inl (told, k)) = k.same
  stays (inr (lacks, (mid, grows, same, k))) = k.same ∙ same

  upper : Gives → (i : List Hash) (bytes : List ℕ) → HasKey l.upper.now key i bytes old → GivesJust bytes r old new
  upper (inl (told, k)) i bytes has = k.gives i bytes has
  upper (inr (lacks, (mid, grows, same, k))) i bytes has = absurd (let both : None ≡ Some has.found = sym lacks ∙ has.finds in cc)

  lower : SameStaysKnown → Gives → LacksKey l.upper.now key old → (i : List Hash) (bytes : List ℕ) → HasKey l.lower.now key i bytes old → IfOk r (λ v. v.items ≡ bytes)
  lower known (inl (told, k)) lacks i bytes has = MatchResult-weaker r (k.lacks lacks) (λ v h. absurd h) (λ e h. tt)
  lower known (inr (none, (mid, grows, same, k))) lacks i bytes has =
      MatchResult-weaker r (k.gives i bytes ((known l.lower.now old mid (ap (value_of_tree (home_of l.lower.now)) same)).key key bytes i has)) (λ v h. h) (λ e h. tt)

pub returns : goal.returns
returns g c =
    let layers = c.args.layers.now in
    let key = c.args.key.now in
    let old = c.args.env.now in
    let read = c.read_sync-read in
    let it = c.layered_laws.ensures.reads key layers read.result old c.requires.upper c.requires.lower read.ensures in
    let new = read.new.env.store in
    record {
      same = stays layers key read.result old.store new it;
      first = upper layers key read.result old.store new it;
      second = lower layers key read.result old.store new c.look_laws.ensures.known it;
    }
