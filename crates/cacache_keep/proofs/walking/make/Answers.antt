use Rattle.std.{proofs.Common.{Bool, Err, Ok, ap, arith, length, map, refl, subst, ◌≡◌, ◌++◌, ◌∙◌}, specs.Option.{option_to_list}}
use Rattle.cacache_core.specs.declared.errors.Error.TheVariants.{OutOfMemory}
use Rattle.cacache_store.specs.Plain.{plain_answer, plain_step}
use Rattle.cacache_calls.specs.Runs.{plain_item}
use Rattle.cacache_keep.specs.{Checking.{odd_bucket}, Walking.{IsTold, VisitStops, entry_at}}
use Rattle.cacache_keep.proofs.{Indexes.IndexWalks.{lost_before, resumed_goes, resumed_stops, stops_after}, Stopped.{error_as}}
use Rattle.cacache_keep.proofs.walking.make.Goals as goal

pub returns-in_err-step-clause-stops : goal.returns-in_err-step-clause-stops
returns-in_err-step-clause-stops g c =
    let log = g.S.Store.log c.args.store.now in
    error_as (λ x. VisitStops c.args.visit c.args.walk.now c.args.odd.now.items x log log) c.from_residual.result OutOfMemory c.from_residual.ensures.1 (λ cache old i. lost_before i)

pub returns-in_err-bucket-clause-stops : goal.returns-in_err-bucket-clause-stops
returns-in_err-bucket-clause-stops g c =
    let file = g.S.File.FileHandle.seen in
    let temp = g.S.Temp.TempHandle.seen in
    let mid = g.S.Store.log c.args.store.now in
    let new = g.S.Store.log c.step-answer.new.self in
    let odd = c.args.odd.now.items in
    let e = OutOfMemory in
    error_as (λ x. VisitStops c.args.visit c.args.walk.now odd x mid new) c.from_residual-in_err-bucket.result e c.from_residual-in_err-bucket.ensures.1
    (stops_after mid new c.args.visit c.args.walk.now c.args.walk.now odd odd (plain_step file temp c.in_ok-step.step) (plain_answer file temp c.step-answer.result) c.in_ok-step.ensures c.step-answer.ensures.fits c.step-answer.ensures.logged e refl)

pub returns-in_err-next-clause-stops : goal.returns-in_err-next-clause-stops
returns-in_err-next-clause-stops g c =
    let file = g.S.File.FileHandle.seen in
    let temp = g.S.Temp.TempHandle.seen in
    let mid = g.S.Store.log c.args.store.now in
    let new = g.S.Store.log c.step-answer.new.self in
    let odd = c.args.odd.now.items in
    let e = c.in_err-next.field-0.0 in
    error_as (λ x. VisitStops c.args.visit c.args.walk.now odd x mid new) c.from_residual-in_err-next.result e c.from_residual-in_err-next.ensures.1
    (resumed_stops mid new c.args.visit c.args.walk.now c.resume.new.self odd odd (plain_step file temp c.in_ok-step.step) (plain_answer file temp c.step-answer.result) c.in_ok-step.ensures c.step-answer.ensures.fits c.step-answer.ensures.logged (Err e) c.in_err-next.ensures)

pub returns-in_err-note-clause-stops : goal.returns-in_err-note-clause-stops
returns-in_err-note-clause-stops g c =
    let file = g.S.File.FileHandle.seen in
    let temp = g.S.Temp.TempHandle.seen in
    let mid = g.S.Store.log c.args.store.now in
    let new = g.S.Store.log c.step-answer.new.self in
    let odd = c.args.odd.now.items in
    let e = c.in_err-note.field-0.0 in
    error_as (λ x. VisitStops c.args.visit c.args.walk.now odd x mid new) c.from_residual-in_err-note.result e c.from_residual-in_err-note.ensures.1
    (stops_after mid new c.args.visit c.args.walk.now c.args.walk.now odd odd (plain_step file temp c.in_ok-step.step) (plain_answer file temp c.step-answer.result) c.in_ok-step.ensures c.step-answer.ensures.fits c.step-answer.ensures.logged e c.in_err-note.ensures.memory)

pub returns-clause-goes : goal.returns-clause-goes
returns-clause-goes g c =
    let file = g.S.File.FileHandle.seen in
    let temp = g.S.Temp.TempHandle.seen in
    let odd = c.args.odd.now.items in
    let lists : Bool = c.is_entry_at-lists.result in
    let items = c.resume.new.self.items.items in
    let before : c.len-before.result ≡ length c.args.walk.now.items.items = omega arith in
    let same : lists ≡ entry_at (map plain_item items) (length c.args.walk.now.items.items) = c.is_entry_at-lists.ensures ∙ ap (λ xs. entry_at (map plain_item xs) c.len-before.result) c.as_slice.ensures.value
    ∙ ap (entry_at (map plain_item items)) before in
    resumed_goes (g.S.Store.log c.args.store.now) (g.S.Store.log c.step-answer.new.self) c.args.visit c.args.walk.now c.resume.new.self odd c.note.new.odd.items (plain_step file temp c.in_ok-step.step) (plain_answer file temp c.step-answer.result) c.in_ok-step.ensures c.step-answer.ensures.fits c.step-answer.ensures.logged
    (Ok c.in_ok-next.next) c.in_ok-next.ensures lists same
    (subst (λ b. IsTold lists b → c.note.new.odd.items ≡ odd ++ option_to_list (odd_bucket b)) c.in_ok-bucket.ensures c.in_ok-note.ensures.notes)
