use Rattle.std.proofs.Common.{◌∙◌, ◌∷◌, ◌++◌, [], None, Some, sym, ap, subst, vec_len, slice_set}
use Rattle.cacache_history.specs.{declared.record.Record.TheVariants.{Moved}, History.{Made}}
use Rattle.cacache_world.specs.{Turned.{reply_after, told_by}, WorldKept.{history_told, adding, history_of, setup_of, Keeps, AddsRecord, TellsOwn}, Faults.{HasCall}}
use Rattle.cacache_world.proofs.Worlds.{keeps_call, over_left, tells_own, back_keeps, move_left, told_is, same_parts, keeps_same, keeps_ready, set_again}
use Rattle.cacache_world.specs.declared.event.Move.TheVariants as moves
use Rattle.cacache_world.proofs.world.World.move_one.Goals as goal

pub advance-requires : goal.advance-requires
advance-requires c =
    keeps_ready (history_told c.self.inside) c.self.inside.disk c.self.inside.begun c.self.inside.calls.items c.args.caller c.lift-job.result c.self.invariant c.lift-job.ensures.lifted.here

pub invariant_of-self-in-Over : goal.invariant_of-self-in-Over
invariant_of-self-in-Over c =
    let parts = same_parts c.self.inside.cache c.self.inside.outside.items (vec_len c.self.inside.calls) (vec_len c.lift-job.new.calls) _ c.note.new.records.items c.lift-job.ensures.len
    (c.note.ensures ∙ ap (λ xs. xs ++ Moved c.args.caller c.args.luck None (Some c.in-Over.copy) ∷ []) c.make_room.ensures.items) in
    subst (λ d. Keeps (history_of (setup_of c.self.inside.cache c.self.inside.outside.items (vec_len c.lift-job.new.calls)) c.note.new.records.items) d c.self.inside.begun c.lift-job.new.calls.items) (sym c.in-Over.ensures.0)
    (keeps_same (adding (history_told c.self.inside) (Moved c.args.caller c.args.luck None (Some c.in-Over.copy))) _ c.self.inside.disk c.self.inside.begun c.lift-job.new.calls.items parts
    (over_left (history_told c.self.inside) c.self.inside.disk c.self.inside.begun c.self.inside.calls.items c.lift-job.new.calls.items c.args.caller c.lift-job.result c.args.luck c.in-Over.copy c.self.invariant
    c.lift-job.ensures.lifted.here c.in-Over.ensures.2 c.lift-job.ensures.lifted.gone).keeps)

pub returns-in-Over-clause-adds : goal.returns-in-Over-clause-adds
returns-in-Over-clause-adds c =
    let parts = same_parts c.self.inside.cache c.self.inside.outside.items (vec_len c.self.inside.calls) (vec_len c.lift-job.new.calls) _ c.note.new.records.items c.lift-job.ensures.len
    (c.note.ensures ∙ ap (λ xs. xs ++ Moved c.args.caller c.args.luck None (Some c.in-Over.copy) ∷ []) c.make_room.ensures.items) in
    let new = history_of (setup_of c.self.inside.cache c.self.inside.outside.items (vec_len c.lift-job.new.calls)) c.note.new.records.items in
    let adds =
    subst (λ x. AddsRecord x (Moved c.args.caller c.args.luck None (Some c.in-Over.reply)) new) c.self.view_is
    (subst (λ r. AddsRecord (history_told c.self.inside) (Moved c.args.caller c.args.luck None (Some r)) new) c.in-Over.ensures.1
    (record {
      may = (over_left (history_told c.self.inside) c.self.inside.disk c.self.inside.begun c.self.inside.calls.items c.lift-job.new.calls.items c.args.caller c.lift-job.result c.args.luck c.in-Over.copy c.self.invariant
          c.lift-job.ensures.lifted.here c.in-Over.ensures.2 c.lift-job.ensures.lifted.gone).may;
      added = parts;
    })) in
    let own =
    subst (λ x. TellsOwn x c.args.caller None (moves.Done c.in-Over.reply)) c.self.view_is
    (subst (λ r. TellsOwn (history_told c.self.inside) c.args.caller None (moves.Done r)) c.in-Over.ensures.1
    (tells_own (history_told c.self.inside) c.self.inside.disk c.self.inside.begun c.self.inside.calls.items c.args.caller c.lift-job.result c.in-Over.copy c.self.invariant
    c.lift-job.ensures.lifted.here c.in-Over.ensures.2)) in
    (None, adds, own)

pub invariant_of-self-in-Back : goal.invariant_of-self-in-Back
invariant_of-self-in-Back c =
    let set = c.place.ensures.items ∙ ap (λ xs. slice_set xs c.args.caller (Some c.in-Back.job)) c.lift-job.ensures.lifted.gone ∙ set_again c.self.inside.calls.items c.args.caller None (Some c.in-Back.job) in
    subst (λ d. Keeps (history_of (setup_of c.self.inside.cache c.self.inside.outside.items (vec_len c.place.new.calls)) c.make_room.new.records.items) d c.self.inside.begun c.place.new.calls.items) (sym c.in-Back.ensures.0)
    (keeps_same (history_told c.self.inside) _ c.self.inside.disk c.self.inside.begun c.place.new.calls.items
    (same_parts c.self.inside.cache c.self.inside.outside.items (vec_len c.self.inside.calls) (vec_len c.place.new.calls) c.self.inside.records.items c.make_room.new.records.items
    (c.place.ensures.len ∙ c.lift-job.ensures.len) c.make_room.ensures.items)
    (back_keeps (history_told c.self.inside) c.self.inside.disk c.self.inside.begun c.self.inside.calls.items c.place.new.calls.items c.args.caller c.lift-job.result c.in-Back.job c.self.invariant
    c.lift-job.ensures.lifted.here c.in-Back.ensures.2 c.in-Back.ensures.1 set))

pub invariant_of-self-in-Made : goal.invariant_of-self-in-Made
invariant_of-self-in-Made c =
    let made : Made = (c.in-Made.step, c.in-Made.answer) in
    let a = c.in-Made.after in
    let set = c.place-in-Made.ensures.items ∙ ap (λ xs. slice_set xs c.args.caller c.turn_parts-call.result.0) c.lift-job.ensures.lifted.gone
    ∙ set_again c.self.inside.calls.items c.args.caller None c.turn_parts-call.result.0 ∙ ap (slice_set c.self.inside.calls.items c.args.caller) c.turn_parts-call.ensures.0 in
    let more = c.note-in-Made.ensures ∙ ap (λ xs. xs ++ Moved c.args.caller c.args.luck (Some made) c.turn_parts-call.result.1 ∷ []) c.make_room.ensures.items
    ∙ ap (λ q. c.self.inside.records.items ++ Moved c.args.caller c.args.luck (Some made) q ∷ []) c.turn_parts-call.ensures.1 in
    keeps_same (adding (history_told c.self.inside) (Moved c.args.caller c.args.luck (Some made) (reply_after a))) _ c.advance.new.disk c.self.inside.begun c.place-in-Made.new.calls.items
    (same_parts c.self.inside.cache c.self.inside.outside.items (vec_len c.self.inside.calls) (vec_len c.place-in-Made.new.calls) _ c.note-in-Made.new.records.items
    (c.place-in-Made.ensures.len ∙ c.lift-job.ensures.len) more)
    (move_left (history_told c.self.inside) c.self.inside.disk c.advance.new.disk c.self.inside.begun c.self.inside.calls.items c.place-in-Made.new.calls.items c.args.caller c.lift-job.result c.args.luck made a c.self.invariant
    c.lift-job.ensures.lifted.here c.in-Made.ensures set).keeps

pub returns-in-Made-clause-adds : goal.returns-in-Made-clause-adds
returns-in-Made-clause-adds c =
    let made : Made = (c.in-Made.step, c.in-Made.answer) in
    let a = c.in-Made.after in
    let more = c.note-in-Made.ensures ∙ ap (λ xs. xs ++ Moved c.args.caller c.args.luck (Some made) c.turn_parts-call.result.1 ∷ []) c.make_room.ensures.items
    ∙ ap (λ q. c.self.inside.records.items ++ Moved c.args.caller c.args.luck (Some made) q ∷ []) c.turn_parts-call.ensures.1 in
    let set = c.place-in-Made.ensures.items ∙ ap (λ xs. slice_set xs c.args.caller c.turn_parts-call.result.0) c.lift-job.ensures.lifted.gone
    ∙ set_again c.self.inside.calls.items c.args.caller None c.turn_parts-call.result.0 ∙ ap (slice_set c.self.inside.calls.items c.args.caller) c.turn_parts-call.ensures.0 in
    let new = history_of (setup_of c.self.inside.cache c.self.inside.outside.items (vec_len c.place-in-Made.new.calls)) c.note-in-Made.new.records.items in
    let same = c.turn_parts-call.ensures.2 ∙ told_is (history_told c.self.inside) c.self.inside.disk c.advance.new.disk c.self.inside.begun c.self.inside.calls.items c.args.caller c.lift-job.result c.args.luck made a c.self.invariant
    c.lift-job.ensures.lifted.here c.in-Made.ensures in (
      Some made,
      subst (λ x. AddsRecord x (Moved c.args.caller c.args.luck (Some made) (told_by c.turn_parts-call.result.2)) new) c.self.view_is
          (subst (λ r. AddsRecord (history_told c.self.inside) (Moved c.args.caller c.args.luck (Some made) r) new) (sym same)
          (record {
            may = (move_left (history_told c.self.inside) c.self.inside.disk c.advance.new.disk c.self.inside.begun c.self.inside.calls.items c.place-in-Made.new.calls.items c.args.caller c.lift-job.result c.args.luck made a c.self.invariant
                c.lift-job.ensures.lifted.here c.in-Made.ensures set).may;
            added = same_parts c.self.inside.cache c.self.inside.outside.items (vec_len c.self.inside.calls) (vec_len c.place-in-Made.new.calls) _ c.note-in-Made.new.records.items
                (c.place-in-Made.ensures.len ∙ c.lift-job.ensures.len) more;
          })),
      tt,
    )

pub returns-then-is_err-clause-why : goal.returns-then-is_err-clause-why
returns-then-is_err-clause-why c =
    let held = c.in_ok-check_has_call.ensures.held in
    subst (λ h. HasCall h c.args.caller) c.self.view_is
    (keeps_call (history_told c.self.inside) c.self.inside.disk c.self.inside.begun c.self.inside.calls.items c.args.caller held.0 c.self.invariant held.1)

pub returns-in-Back-clause-why : goal.returns-in-Back-clause-why
returns-in-Back-clause-why c =
    subst (λ h. HasCall h c.args.caller) c.self.view_is
    (keeps_call (history_told c.self.inside) c.self.inside.disk c.self.inside.begun c.self.inside.calls.items c.args.caller c.lift-job.result c.self.invariant c.lift-job.ensures.lifted.here)
