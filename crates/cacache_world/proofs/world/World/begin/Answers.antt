use Rattle.std.proofs.Common.{◌∙◌, ◌∷◌, ◌++◌, [], ◌+◌, ap, vec_len, subst}
use Rattle.cacache_history.specs.declared.record.Record.TheVariants.{Began}
use Rattle.cacache_world.specs.{WorldKept.{history_told, adding, history_of, setup_of, AddsRecord}, Faults.{MayAsk, IsUnready, CantBegin}}
use Rattle.cacache_world.proofs.Worlds.{begin_left, same_parts, keeps_same, cant_begin}
use Rattle.cacache_world.proofs.world.World.begin.Goals as goal

pub invariant_of-self-2 : goal.invariant_of-self-2
invariant_of-self-2 c =
    let stands = c.in-Ok.ensures.opens in
    keeps_same (adding (history_told c.self.inside) (Began c.args.caller c.args.command)) (history_of (setup_of c.self.inside.cache c.self.inside.outside.items (vec_len c.place.new.calls)) c.note.new.records.items)
    c.self.inside.disk (c.self.inside.begun + 1) c.place.new.calls.items
    (same_parts c.self.inside.cache c.self.inside.outside.items (vec_len c.self.inside.calls) (vec_len c.place.new.calls) _ c.note.new.records.items c.place.ensures.len
    (c.note.ensures ∙ ap (λ xs. xs ++ Began c.args.caller c.args.command ∷ []) c.prepare.ensures.items))
    (begin_left (history_told c.self.inside) c.self.inside.disk c.self.inside.begun c.self.inside.calls.items c.place.new.calls.items c.args.caller c.args.command c.in-Ok.job c.self.invariant
    c.in-Ok.ensures.free c.in-Ok.ensures.within (subst (λ files. MayAsk (setup_of c.self.inside.cache files (vec_len c.self.inside.calls)) c.self.inside.begun c.args.command) c.as_slice.ensures.value (c.in-Ok.ensures.may (vec_len c.self.inside.calls) c.self.inside.begun)) stands c.in-Ok.ensures.ready c.place.ensures.items).keeps

pub returns-clause-adds : goal.returns-clause-adds
returns-clause-adds c =
    let stands = c.in-Ok.ensures.opens in
    subst (λ x. AddsRecord x (Began c.args.caller c.args.command) (history_of (setup_of c.self.inside.cache c.self.inside.outside.items (vec_len c.place.new.calls)) c.note.new.records.items)) c.self.view_is
    (record {
      may = (begin_left (history_told c.self.inside) c.self.inside.disk c.self.inside.begun c.self.inside.calls.items c.place.new.calls.items c.args.caller c.args.command c.in-Ok.job c.self.invariant
          c.in-Ok.ensures.free c.in-Ok.ensures.within (subst (λ files. MayAsk (setup_of c.self.inside.cache files (vec_len c.self.inside.calls)) c.self.inside.begun c.args.command) c.as_slice.ensures.value (c.in-Ok.ensures.may (vec_len c.self.inside.calls) c.self.inside.begun)) stands c.in-Ok.ensures.ready c.place.ensures.items).may;
      added = same_parts c.self.inside.cache c.self.inside.outside.items (vec_len c.self.inside.calls) (vec_len c.place.new.calls) _ c.note.new.records.items c.place.ensures.len
          (c.note.ensures ∙ ap (λ xs. xs ++ Began c.args.caller c.args.command ∷ []) c.prepare.ensures.items);
    })

pub returns-in-Err-clause-why : goal.returns-in-Err-clause-why
returns-in-Err-clause-why c =
    let w = c.self.inside in
    subst (λ h. CantBegin h c.args.caller c.args.command c.in-Err.fault) c.self.view_is
    (cant_begin (history_told w) w.disk w.begun w.calls.items c.args.caller c.args.command c.in-Err.fault c.self.invariant
    (subst (λ files. IsUnready (vec_len w.calls) w.calls.items c.args.caller (setup_of w.cache files (vec_len w.calls)) c.args.command c.in-Err.fault) c.as_slice.ensures.value
    (c.in-Err.ensures.why (vec_len w.calls))))
