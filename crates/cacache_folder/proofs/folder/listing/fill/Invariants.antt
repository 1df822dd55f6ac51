use Rattle.std.specs.Prelude.{◌≡◌, ◌^◌, ◌-◌, length}
use Rattle.cacache_store.specs.Plain.{AreProperNames}
use Rattle.cacache_system.specs.CallsOf.{more_names}
use Rattle.cacache_folder.specs.Listings.{LeadsTo, reader_of}
use Rattle.cacache_folder.proofs.folder.listing.fill.Given as goal

-- the names of the reads so far were listed
abbrev pub invariant-loop-left : goal.invariant-loop-left
invariant-loop-left g l = record {
  room : length l.buf ≡ 4096;
  number : g.Y.System.folder_number l.open ≡ g.Y.System.folder_number l.fn.open;
  proper : AreProperNames l.fn.names.items → AreProperNames l.names.items;
  same : l.folder.items ≡ l.fn.folder.items;
  ran : LeadsTo
      (more_names (reader_of (g.Y.System.folder_number l.fn.open) l.fn.folder.items (2 ^ 64 - 1)) l.fn.names.items)
      (more_names (reader_of (g.Y.System.folder_number l.fn.open) l.fn.folder.items l.left) l.names.items)
      (g.Y.System.calls l.fn.system) (g.Y.System.calls l.system);
}

-- the reads that are left
abbrev pub decreases-loop-left : goal.decreases-loop-left
decreases-loop-left g l = l.left
