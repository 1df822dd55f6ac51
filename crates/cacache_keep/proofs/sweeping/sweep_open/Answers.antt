use Rattle.std.proofs.Common.{◌≡◌, ℕ, List, length, inl, inr, map, string_bytes, rules, subst, ◌∙◌}
use Rattle.cacache_keep.{specs.Sweeping.{RemovesFiles, RemovesSized, StopsSized, StopsSweeping, swept_folder}, proofs.{Collections.Sweeps.{counted_all}, Stopped.{error_as}}}
use Rattle.cacache_keep.proofs.sweeping.sweep_open.Goals as goal

pub returns-in_err-files-clause-stops : goal.returns-in_err-files-clause-stops
returns-in_err-files-clause-stops g c =
    let old = g.S.Store.log c.args.env.now.store in
    let listed = g.S.Store.log c.find_files.new.store in
    error_as (λ x. StopsSweeping c.args.cache.now x old listed) c.from_residual-in_err-files.result c.in_err-files.field-0.0 c.from_residual-in_err-files.ensures.1
    (inl c.in_err-files.ensures.stops)

pub returns-in_err-bytes-clause-stops : goal.returns-in_err-bytes-clause-stops
returns-in_err-bytes-clause-stops g c =
    let log = g.S.Store.log in
    let listed = log c.find_files.new.store in
    let new = log c.remove_files.new.store in
    let found = c.in_ok-files.field-0 in
    let e = c.in_err-bytes.field-0.0 in
    let is : c.in_ok-folder.folder ≡ swept_folder c.args.cache.now = search rules in
    let stop : StopsSized c.as_str-2.result.now found.files.items e listed new = search (rules, c.in_err-bytes.ensures.stops) in
    error_as (λ x. StopsSweeping c.args.cache.now x (log c.args.env.now.store) new) c.from_residual-in_err-bytes.result e c.from_residual-in_err-bytes.ensures.1
    (inr (
      found.files.items,
      map string_bytes found.strange.items,
      listed,
      c.in_ok-files.ensures.finds,
      subst (λ (f : List ℕ). StopsSized f found.files.items e listed new) (c.as_str-2.ensures.same ∙ is) stop,
    ))

pub returns-clause-sweeps : goal.returns-clause-sweeps
returns-clause-sweeps g c =
    let listed = g.S.Store.log c.find_files.new.store in
    let new = g.S.Store.log c.remove_files.new.store in
    let files = c.in_ok-files.field-0.files.items in
    let is : c.in_ok-folder.folder ≡ swept_folder c.args.cache.now = search rules in
    let removes : RemovesFiles c.as_str-2.result.now c.in_ok-files.field-0.files.items c.in_ok-bytes.bytes listed new = search (rules, c.in_ok-bytes.ensures.removes) in
    let count : c.len-files.result ≡ length c.in_ok-files.field-0.files.items = search (rules, c.len-files.ensures) in
    record {
      found = files;
      listed = listed;
      listing = c.in_ok-files.ensures.finds;
      removed = removes.0;
      each = removes.1;
      removing = subst (λ (f : List ℕ). RemovesSized f removes.0 listed new) (c.as_str-2.ensures.same ∙ is) removes.3;
      counted = counted_all c.len-files.result removes.0 files count removes.1;
      sized = removes.2;
    }
