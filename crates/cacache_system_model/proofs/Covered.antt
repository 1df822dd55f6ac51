-- Each step's law, if the step has what the law asks.
use Rattle.std.proofs.Common.{inl, inr}
use Rattle.cacache_store.specs.declared.store.step.Step.TheVariants as steps
use Rattle.cacache_system_model.specs.Premises.{EachMayBreak, EachGoesPlainly}
use Rattle.cacache_system_model.proofs.Steps.{Absent.{absent_plainly, absent_breaks}, Changing.{create_agrees, exists_agrees, symlink_agrees, hard_link_agrees, reflink_breaks}, Copying.{copy_agrees}, Dirs.{make_dirs_agrees}, Listing.{read_dir_in_order}, Looking.{open_agrees, size_agrees}, Moving.{persist_agrees}, Reading.{read_breaks, pieces_read_plainly}, Removing.{remove_file_agrees, remove_dir_agrees}, Syncing.{sync_temp_agrees, sync_file_agrees, sync_dir_agrees}, Whole.{read_all_agrees}, Writing.{append_agrees}}

pub each_may_break : EachMayBreak
each_may_break m hint (steps.MakeDirs p) (rooted, link) = (make_dirs_agrees m hint p rooted link).breaking
each_may_break m hint (steps.CreateTemp p) asks = (create_agrees m hint p).breaking
each_may_break m hint (steps.Write t bytes) asks = absurd asks
each_may_break m hint (steps.Persist t p) ((names, bytes, stands), may) = (persist_agrees m hint t p names bytes stands may).breaking
each_may_break m hint (steps.Append p bytes) asks = (append_agrees m hint p bytes).breaking
each_may_break m hint (steps.ReadAll p) asks = (read_all_agrees m hint p).breaking
each_may_break m hint (steps.Open p) asks = (open_agrees m hint p).breaking
each_may_break m hint (steps.Read f max) (found, bytes, stays) = read_breaks m hint f found bytes max stays
each_may_break m hint (steps.Exists p) asks = (exists_agrees m hint p).breaking
each_may_break m hint (steps.Size p) asks = (size_agrees m hint p).breaking
each_may_break m hint (steps.Symlink target p) asks = (symlink_agrees m hint target p).breaking
each_may_break m hint (steps.Copy p q) asks = (copy_agrees m hint p q asks).breaking
each_may_break m hint (steps.Reflink p q) asks = reflink_breaks m hint p q
each_may_break m hint (steps.HardLink p q) asks = (hard_link_agrees m hint p q).breaking
each_may_break m hint (steps.ReadDir p) (inl absent) = absent_breaks m p absent hint
each_may_break m hint (steps.ReadDir p) (inr (plain, ordered)) = read_dir_in_order m hint p plain ordered
each_may_break m hint (steps.RemoveFile p) asks = (remove_file_agrees m hint p).breaking
each_may_break m hint (steps.RemoveDir p) asks = (remove_dir_agrees m hint p).breaking
each_may_break m hint (steps.SyncTemp t) (names, bytes, stands) = (sync_temp_agrees m hint t names bytes stands).breaking
each_may_break m hint (steps.SyncFile p) asks = (sync_file_agrees m hint p).breaking
each_may_break m hint (steps.SyncDir p) asks = (sync_dir_agrees m hint p asks).breaking

pub each_goes_plainly : EachGoesPlainly
each_goes_plainly m hint (steps.MakeDirs p) (rooted, link) plain = (make_dirs_agrees m hint p rooted link).plainly
each_goes_plainly m hint (steps.CreateTemp p) asks plain = (create_agrees m hint p).plainly
each_goes_plainly m hint (steps.Write t bytes) asks plain = absurd asks
each_goes_plainly m hint (steps.Persist t p) ((names, bytes, stands), may) plain = (persist_agrees m hint t p names bytes stands may).plainly
each_goes_plainly m hint (steps.Append p bytes) asks plain = (append_agrees m hint p bytes).plainly
each_goes_plainly m hint (steps.ReadAll p) asks plain = (read_all_agrees m hint p).plainly
each_goes_plainly m hint (steps.Open p) asks plain = (open_agrees m hint p).plainly
each_goes_plainly m hint (steps.Exists p) asks plain = (exists_agrees m hint p).plainly
each_goes_plainly m hint (steps.Size p) asks plain = (size_agrees m hint p).plainly
each_goes_plainly m hint (steps.Symlink target p) asks plain = (symlink_agrees m hint target p).plainly
each_goes_plainly m hint (steps.Read f max) (found, bytes, stays) (piece, fits) = pieces_read_plainly m hint f found bytes max stays piece fits
each_goes_plainly m hint (steps.Copy p q) asks clear = (copy_agrees m hint p q asks).plainly clear
each_goes_plainly m hint (steps.HardLink p q) asks (node, is) = (hard_link_agrees m hint p q).plainly node is
each_goes_plainly m hint (steps.ReadDir p) asks absent = absent_plainly m p absent hint
each_goes_plainly m hint (steps.RemoveFile p) asks plain = (remove_file_agrees m hint p).plainly
each_goes_plainly m hint (steps.RemoveDir p) asks plain = (remove_dir_agrees m hint p).plainly
each_goes_plainly m hint (steps.SyncTemp t) (names, bytes, stands) plain = (sync_temp_agrees m hint t names bytes stands).plainly
each_goes_plainly m hint (steps.SyncFile p) asks plain = (sync_file_agrees m hint p).plainly
each_goes_plainly m hint (steps.SyncDir p) asks plain = (sync_dir_agrees m hint p asks).plainly
each_goes_plainly m hint other asks plain = absurd plain
