use Rattle.std.proofs.Common.{◌∙◌, ◌∷◌, ◌++◌, [], ap, vec_len, subst}
use Rattle.cacache_history.specs.declared.record.Record.TheVariants.{Stopped}
use Rattle.cacache_world.specs.{WorldKept.{history_told, adding, history_of, setup_of, AddsRecord}, Faults.{HasCall}}
use Rattle.cacache_world.proofs.Worlds.{keeps_call, stop_left, same_parts, keeps_same}
use Rattle.cacache_world.proofs.world.World.stop.Goals as goal

pub invariant_of-self-2 : goal.invariant_of-self-2
invariant_of-self-2 c =
    keeps_same (adding (history_told c.self.inside) (Stopped c.args.caller)) (history_of (setup_of c.self.inside.cache c.self.inside.outside.items (vec_len c.lift-job.new.calls)) c.note.new.records.items)
    c.self.inside.disk c.self.inside.begun c.lift-job.new.calls.items
    (same_parts c.self.inside.cache c.self.inside.outside.items (vec_len c.self.inside.calls) (vec_len c.lift-job.new.calls) _ c.note.new.records.items c.lift-job.ensures.len
    (c.note.ensures ∙ ap (λ xs. xs ++ Stopped c.args.caller ∷ []) c.make_room.ensures.items))
    (stop_left (history_told c.self.inside) c.self.inside.disk c.self.inside.begun c.self.inside.calls.items c.lift-job.new.calls.items c.args.caller c.lift-job.result c.self.invariant
    c.lift-job.ensures.lifted.here c.lift-job.ensures.lifted.gone).keeps

pub returns-clause-adds : goal.returns-clause-adds
returns-clause-adds c =
    subst (λ x. AddsRecord x (Stopped c.args.caller) (history_of (setup_of c.self.inside.cache c.self.inside.outside.items (vec_len c.lift-job.new.calls)) c.note.new.records.items)) c.self.view_is
    (record {
      may = (stop_left (history_told c.self.inside) c.self.inside.disk c.self.inside.begun c.self.inside.calls.items c.lift-job.new.calls.items c.args.caller c.lift-job.result c.self.invariant
          c.lift-job.ensures.lifted.here c.lift-job.ensures.lifted.gone).may;
      added = same_parts c.self.inside.cache c.self.inside.outside.items (vec_len c.self.inside.calls) (vec_len c.lift-job.new.calls) _ c.note.new.records.items c.lift-job.ensures.len
          (c.note.ensures ∙ ap (λ xs. xs ++ Stopped c.args.caller ∷ []) c.make_room.ensures.items);
    })

pub returns-then-is_err-clause-why : goal.returns-then-is_err-clause-why
returns-then-is_err-clause-why c =
    let held = c.in_ok-check_has_call.ensures.held in
    subst (λ h. HasCall h c.args.caller) c.self.view_is
    (keeps_call (history_told c.self.inside) c.self.inside.disk c.self.inside.begun c.self.inside.calls.items c.args.caller held.0 c.self.invariant held.1)
