use Rattle.std.specs.Prelude.{◌≡◌, length}
use Rattle.cacache_store.specs.Plain.{AreProperNames}
use Rattle.cacache_system.specs.{Seen.{names_in}, CallsOf.{Reader, next_name}}
use Rattle.cacache_folder.specs.Listings.{LeadsTo}
use Rattle.cacache_folder.proofs.folder.listing.add_all.Given as goal

-- the names so far were listed
abbrev pub invariant-names : goal.invariant-names
invariant-names g l = record {
  proper : AreProperNames l.fn.names.items → AreProperNames l.names.items;
  same : l.folder.items ≡ l.fn.folder.items;
  ran : (r : Reader) → l.fn.folder.items ≡ r.folder
      → LeadsTo (next_name r (names_in l.fn.read) l.fn.names.items) (next_name r (names_in l.rest) l.names.items)
      (g.Y.System.calls l.fn.system) (g.Y.System.calls l.system);
}

-- the names that are left
abbrev pub decreases-names : goal.decreases-names
decreases-names g l = length l.rest
